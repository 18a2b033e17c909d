-- What an accepted call asks of the registers, move by move, and what a due call may be refused for.
use Rattle.std.specs.Prelude.{◌≡◌, ℕ, ◌-◌, ◌*◌, true, cond, List, [], ◌∷◌, ◌++◌, is_ok, Some, None, Option, ◌==◌}
use Rattle.std.specs.List.{range_with_len}
use Rattle.register.specs.declared.fault.RegisterFault.{RegisterFault}
use Rattle.register.specs.declared.fault.RegisterFault.TheVariants.{Short}
use Rattle.register.specs.Rules.{Meaning, credit_refused, transfer_refused, after_credit, after_transfer}
use Rattle.book.specs.Limits.{most_agent}
use Rattle.book.specs.Books.{row_named, value}
use Rattle.pairing.specs.declared.line.Line.{Line}
use Rattle.pairing.specs.Lines.{inside, buyer_agent, seller_agent, value_bought, value_sold, debit}
use Rattle.rules.specs.declared.side.Side.{Side}
use Rattle.rules.specs.declared.side.Side.TheVariants.{Securities, Cash}
use Rattle.rules.specs.declared.call.Call.{Call}
use Rattle.rules.specs.declared.call.Call.TheVariants as call
use Rattle.rules.specs.Tally.{Opening, Tally, house, cash_asset, same_side, held, told, takes, line, accepted}
use Rattle.rules.specs.Verdict.{due, covers, verdict}
use Rattle.rules.specs.Histories.{Entry, tally_of, Lived, Opens, Same}
use Rattle.rules.specs.Law.{paying_side}

-- ---- postings

-- A credit of account, asset and amount, or a move of giver, taker, asset and amount, on one side.
pub data Posting : Type 0 where
  credits : Side → ℕ → ℕ → ℕ → Posting
  moves : Side → ℕ → ℕ → ℕ → ℕ → Posting

-- Why a register would refuse a posting, and the register after it. The other side's postings leave it.
abbrev pub refusal : Side → Meaning → Posting → Option RegisterFault
refusal side m (credits on account asset amount) = cond (same_side on side) (credit_refused m account asset amount) None
refusal side m (moves on giver taker asset amount) = cond (same_side on side) (transfer_refused m giver taker asset amount) None

abbrev pub posted : Side → Meaning → Posting → Meaning
posted side m (credits on account asset amount) = cond (same_side on side) (after_credit m account asset amount) m
posted side m (moves on giver taker asset amount) = cond (same_side on side) (after_transfer m giver taker asset amount) m

-- One after the other.
abbrev pub all_posted : Side → Meaning → List Posting → Meaning
all_posted side m [] = m
all_posted side m (p ∷ ps) = all_posted side (posted side m p) ps

abbrev pub NoneRefused : Side → Meaning → List Posting → Type 0
NoneRefused side m [] = Unit {0}
NoneRefused side m (p ∷ ps) = (refusal side m p ≡ None) × NoneRefused side (posted side m p) ps

-- ---- the postings of a call

-- Units or cash that account 0 pays out, if any.
abbrev pub pays : Side → ℕ → ℕ → ℕ → List Posting
pays side taker asset amount = cond (amount == 0) [] (moves side house taker asset amount ∷ [])

abbrev pub for_each : {X : Type 0} → (X → List Posting) → List X → List Posting
for_each f [] = []
for_each f (x ∷ xs) = f x ++ for_each f xs

-- In line order, and by ascending agent.
abbrev pub for_lines : Tally → (Line → List Posting) → List Posting
for_lines t f = for_each f t.lines

abbrev pub for_agents : (ℕ → List Posting) → List Posting
for_agents f = for_each f (range_with_len 1 most_agent)

-- What an agent's net is above 0.
abbrev pub net_credit : Opening → Tally → ℕ → ℕ
net_credit o t agent = value_sold o.book (λ l. l.contracts) t.lines agent - value_bought o.book (λ l. l.contracts) t.lines agent

-- The contracts whose units a due take asks for: in session 5 one, where the balance covers none.
abbrev pub asked : Opening → Tally → ℕ → ℕ → ℕ
asked o t row a = cond (takes o t row a == 0) 1 (takes o t row a)

abbrev pub postings : Opening → Tally → Call → List Posting
postings o t (call.Notice speaker member number asset contracts) = []
-- The end of 4 gives the draws held back; before and after it there are none.
postings o t call.End = for_agents (λ agent. pays Cash agent cash_asset (held t agent))
postings o t call.Pair = []
postings o t (call.Credit side account asset amount) = credits side account asset amount ∷ []
-- From the seller to account 0.
postings o t (call.Take member number asset) =
    let row = row_named o.book member number in
    moves Securities row house asset (o.book.terms.multiplier * asked o t row asset) ∷ []
-- From the agent to account 0.
postings o t (call.Draw agent) = moves Cash agent house cash_asset (debit o.book t.lines agent) ∷ []
-- Each line's units to its buyer, each net above 0 to its agent.
postings o t call.SettleWhole =
    for_lines t (λ l. pays Securities l.buyer l.asset (o.book.terms.multiplier * inside l))
    ++ for_agents (λ agent. pays Cash agent cash_asset (net_credit o t agent))
-- The value from the buyer's agent through account 0 to the seller's agent, the units to the buyer.
postings o t (call.SettleLine i) =
    let l = line t i in
    let worth = value o.book l.asset (inside l) in
    moves Cash (buyer_agent o.book l) house cash_asset worth
    ∷ (pays Cash (seller_agent o.book l) cash_asset worth ++ pays Securities l.buyer l.asset (o.book.terms.multiplier * inside l))
-- The units of contracts in to their sellers.
postings o t call.Close = for_lines t (λ l. pays Securities l.seller l.asset (o.book.terms.multiplier * inside l))

-- ---- theorems

-- Postings, made one after the other of a register, are all accepted and leave it as another.
pub record Followed (side : Side) (before : Meaning) (ps : List Posting) (then : Meaning) : Type 0 where
  pub none_refused : NoneRefused side before ps
  pub as_then : Same (all_posted side before ps) then

-- The postings of an accepted call, made of the registers as the tally tells them, are all accepted, and leave the
-- registers as the tally tells them after the call. So the told balances are what the moves do.
abbrev pub PostingsFollow : Type 0
PostingsFollow = (o : Opening) (h : List Entry) (c : Call) → Opens o → Lived o h → is_ok (verdict o (tally_of o h) c) ≡ true
    → (side : Side) → Followed side (told o (tally_of o h) side) (postings o (tally_of o h) c) (told o (accepted o (tally_of o h) c) side)

-- The first posting of a due take, draw or line settlement, refused by its register for nothing but being short, and
-- that where the balance does not cover the call: accounts and asset are known, the accounts differ, the amount is above 0.
abbrev pub FirstRefused : Opening → Tally → Call → Side → List Posting → Type 0
FirstRefused o t c side [] = ⊥
FirstRefused o t c side (p ∷ ps) = refusal side (told o t side) p ≡ cond (covers o t c) None (Some Short)

abbrev pub OnlyShort : Type 0
OnlyShort = (o : Opening) (h : List Entry) (c : Call) (side : Side) → Opens o → Lived o h → due o (tally_of o h) c ≡ true → paying_side c ≡ Some side
    → FirstRefused o (tally_of o h) c side (postings o (tally_of o h) c)
