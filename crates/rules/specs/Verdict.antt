-- The one answer of the rules to each call.
use Rattle.std.specs.Prelude.{ℕ, zero, suc, ◌*◌, Bool, true, false, cond, not, ◌&&◌, ◌||◌, ltb, leb, List, [], ◌∷◌, ◌++◌, map, length, Some, None, Ok, Err, Option, Result, ◌==◌, nat_le, nat_lt}
use Rattle.book.specs.declared.records.Holder.{Holder}
use Rattle.rules.specs.declared.session.Session.TheVariants.{MembersNotices, ClearingNotices, Pairing, WholeDelivery, PartialDelivery}
use Rattle.rules.specs.declared.side.Side.{Side}
use Rattle.rules.specs.declared.side.Side.TheVariants.{Securities, Cash}
use Rattle.rules.specs.declared.speaker.Speaker.{Speaker}
use Rattle.rules.specs.declared.speaker.Speaker.TheVariants as speaker
use Rattle.rules.specs.declared.call.Call.{Call}
use Rattle.rules.specs.declared.call.Call.TheVariants as call
use Rattle.rules.specs.declared.answer.Answer.{Answer}
use Rattle.rules.specs.declared.answer.Answer.TheVariants.{Done, Lines, Contracts}
use Rattle.register.specs.declared.fault.RegisterFault.{RegisterFault}
use Rattle.register.specs.declared.fault.RegisterFault.TheVariants.{Short}
use Rattle.rules.specs.declared.fault.Part.{Part}
use Rattle.rules.specs.declared.fault.Part.TheVariants as part
use Rattle.rules.specs.declared.fault.Cause.{Cause}
use Rattle.rules.specs.declared.fault.Cause.TheVariants.{WrongSession, NotItsSeller, NoSuchSeller, NoSuchAsset, BadContracts, NothingDue, NotAllIn, TooSmall, HouseCredit, Register}
use Rattle.rules.specs.declared.fault.Fault.{Fault}
use Rattle.rules.specs.declared.fault.OpeningFault.{OpeningFault}
use Rattle.rules.specs.declared.fault.OpeningFault.TheVariants as opening
use Rattle.register.specs.Rules.{Meaning, credit_refused}
use Rattle.book.specs.Limits.{most_assets}
use Rattle.book.specs.Books.{Contents, holder, row_named, sells, value}
use Rattle.order.specs.First.{any}
use Rattle.pairing.specs.Lines.{unnotified, lines_of, open_on, inside, outstanding, buyer_agent, debit}
use Rattle.rules.specs.Tally.{Opening, Tally, house, cash_asset, in_session, held, units, money, told, takes, line}

-- ---- the checks

-- The sessions in which a call is made.
abbrev pub in_its_session : Tally → Call → Bool
in_its_session t (call.Notice speaker member number asset contracts) = in_session MembersNotices t || in_session ClearingNotices t
in_its_session t call.End = in_session MembersNotices t || (in_session ClearingNotices t || in_session WholeDelivery t)
in_its_session t call.Pair = in_session Pairing t
in_its_session t (call.Credit side account asset amount) = true
in_its_session t (call.Take member number asset) = in_session WholeDelivery t || in_session PartialDelivery t
in_its_session t (call.Draw agent) = in_session WholeDelivery t
in_its_session t call.SettleWhole = in_session WholeDelivery t
in_its_session t (call.SettleLine i) = in_session PartialDelivery t
in_its_session t call.Close = in_session PartialDelivery t

-- Something such is due: contracts outstanding, a debit not drawn yet, contracts in. An absent holder and a missing
-- line have none; the other calls need nothing due.
abbrev pub something_due : Opening → Tally → Call → Bool
something_due o t (call.Notice speaker member number asset contracts) = true
something_due o t call.End = true
something_due o t call.Pair = true
something_due o t (call.Credit side account asset amount) = true
something_due o t (call.Take member number asset) = nat_lt 0 (outstanding t.lines (row_named o.book member number) asset)
something_due o t (call.Draw agent) = nat_lt 0 (debit o.book t.lines agent) && held t agent == 0
something_due o t call.SettleWhole = true
something_due o t (call.SettleLine i) = nat_lt 0 (inside (line t i))
something_due o t call.Close = true

-- A call that these two let pass is due.
abbrev pub due : Opening → Tally → Call → Bool
due o t c = in_its_session t c && something_due o t c

-- The seller or paying agent has all that the call would move, in a take in session 5 one contract.
abbrev pub covers : Opening → Tally → Call → Bool
covers o t (call.Notice speaker member number asset contracts) = true
covers o t call.End = true
covers o t call.Pair = true
covers o t (call.Credit side account asset amount) = true
covers o t (call.Take member number asset) =
    let row = row_named o.book member number in
    nat_le (o.book.terms.multiplier * cond (in_session PartialDelivery t) 1 (outstanding t.lines row asset)) (units o t row asset)
covers o t (call.Draw agent) = nat_le (debit o.book t.lines agent) (money o t agent cash_asset)
covers o t call.SettleWhole = true
covers o t (call.SettleLine i) = nat_le (value o.book (line t i).asset (inside (line t i))) (money o t (buyer_agent o.book (line t i)) cash_asset)
covers o t call.Close = true

-- The speaker is the seller's clearing member or, in session 1 alone, its member.
abbrev pub speaks_for : Tally → Speaker → Holder → Bool
speaks_for t (speaker.Member n) h = in_session MembersNotices t && n == h.member
speaks_for t (speaker.Clearing n) h = n == h.clearing

-- Every contract is taken, and every debit drawn.
abbrev pub all_taken : Tally → Bool
all_taken t = not (any (λ l. ltb 0 (open_on l)) t.lines)

abbrev pub all_drawn : Opening → Tally → Bool
all_drawn o t = not (any (λ h. ltb (held t h.agent) (debit o.book t.lines h.agent)) o.book.holders)

-- A check that must pass, and the cause of the refusal if it does not.
abbrev pub Check : Type 0
Check = Bool × Cause

-- What the register refuses, if it does.
abbrev pub by_register : Side → Option RegisterFault → List Check
by_register side None = []
by_register side (Some e) = (false, Register side e) ∷ []

-- The checks that only some calls have.
abbrev pub further : Opening → Tally → Call → List Check
further o t (call.Notice speaker member number asset contracts) =
    let row = row_named o.book member number in
    let seller = holder o.book row in
    (sells seller, NoSuchSeller)
    ∷ (speaks_for t speaker seller, NotItsSeller)
    ∷ (nat_lt asset (length o.book.assets), NoSuchAsset)
    ∷ (nat_lt 0 contracts && nat_le contracts (unnotified t.lots row seller), BadContracts) ∷ []
further o t call.End = []
further o t call.Pair = []
further o t (call.Credit side account asset amount) = (nat_lt house account, HouseCredit) ∷ by_register side (credit_refused (told o t side) account asset amount)
further o t (call.Take member number asset) = (covers o t (call.Take member number asset), Register Securities Short) ∷ []
further o t (call.Draw agent) = (covers o t (call.Draw agent), Register Cash Short) ∷ []
further o t call.SettleWhole = (all_taken t && all_drawn o t, NotAllIn) ∷ []
further o t (call.SettleLine i) = (covers o t (call.SettleLine i), Register Cash Short) ∷ []
further o t call.Close = []

-- The checks of a call, in their order.
abbrev pub checks : Opening → Tally → Call → List Check
checks o t c = (in_its_session t c, WrongSession) ∷ (something_due o t c, NothingDue) ∷ further o t c

-- ---- the answer

-- What a call answers if it is accepted.
abbrev pub answer : Opening → Tally → Call → Answer
answer o t (call.Notice speaker member number asset contracts) = Done
answer o t call.End = Done
answer o t call.Pair = Lines (length (lines_of o.book t.lots))
answer o t (call.Credit side account asset amount) = Done
answer o t (call.Take member number asset) = Contracts (takes o t (row_named o.book member number) asset)
answer o t (call.Draw agent) = Done
answer o t call.SettleWhole = Done
answer o t (call.SettleLine i) = Contracts (inside (line t i))
answer o t call.Close = Done

-- The first check that fails decides. A refusal gives the cause and the call, with all of its names.
abbrev pub decide : List Check → Call → Answer → Result Answer Fault
decide [] c a = Ok a
decide ((true, cause) ∷ rest) c a = decide rest c a
decide ((false, cause) ∷ rest) c a = Err (record { cause = cause; call = c })

-- The one answer to a call.
abbrev pub verdict : Opening → Tally → Call → Result Answer Fault
verdict o t c = let a = answer o t c in decide (checks o t c) c a

-- ---- opening, and what is too small

-- The first of checks that fails.
abbrev pub first_failed : {E : Type 0} → List (Bool × E) → Option E
first_failed [] = None
first_failed ((true, e) ∷ rest) = first_failed rest
first_failed ((false, e) ∷ rest) = Some e

-- Pairs are fewer than holders, and each makes at most one line for each asset.
abbrev pub lines_a_holder : ℕ
lines_a_holder = most_assets

-- Places for all lines; a securities account for each row and one for the house, and the book's assets; a cash
-- account for each agent and one for the house, and an asset, cash.
abbrev pub room : Contents → ℕ → Meaning → Meaning → List (Bool × Part)
room b places securities cash =
    (nat_le (lines_a_holder * length b.holders) places, part.LineTable)
    ∷ (nat_lt (length b.holders) securities.accounts && nat_le (length b.assets) securities.assets, part.Register Securities)
    ∷ (not (any (λ h. leb cash.accounts h.agent) b.holders) && nat_lt cash_asset cash.assets, part.Register Cash) ∷ []

-- Account 0 holds none of the first n assets.
abbrev pub house_empty : Meaning → ℕ → Bool
house_empty m zero = true
house_empty m (suc n) = m.balance house n == 0 && house_empty m n

-- The checks of an opening: an empty book, too little room, then a house that holds a basket asset or cash.
abbrev pub opening_checks : Opening → List (Bool × OpeningFault)
opening_checks o =
    (nat_lt 0 (length o.book.holders), opening.EmptyBook)
    ∷ (map (λ x. (x.0, opening.TooSmall x.1)) (room o.book (length o.table) o.securities o.cash)
    ++ ((house_empty o.securities (length o.book.assets), opening.HouseHolds Securities)
    ∷ (house_empty o.cash (suc cash_asset), opening.HouseHolds Cash) ∷ []))

-- Why an expiry is not opened, if it is not.
abbrev pub opening_refused : Opening → Option OpeningFault
opening_refused o = first_failed (opening_checks o)

-- Later calls look for room first, and a call with too little of it changes nothing. An expiry that stands has all.
abbrev pub too_small : Contents → ℕ → Meaning → Meaning → Call → Option Fault
too_small b places securities cash c = first_failed (map (λ x. (x.0, record { cause = TooSmall x.1; call = c })) (room b places securities cash))
