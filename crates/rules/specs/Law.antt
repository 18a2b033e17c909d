-- The law: what holds of an expiry, its lines and its registers after any history.
use Rattle.std.specs.Prelude.{◌≡◌, ℕ, zero, suc, ◌+◌, ◌*◌, ◌<◌, ◌≤◌, true, false, List, [], ◌∷◌, length, ℤ, pos, ◌+ℤ◌, is_ok, Some, None, Err, Option, Result}
use Rattle.rules.specs.declared.session.Session.TheVariants.{WholeDelivery, Closed}
use Rattle.rules.specs.declared.side.Side.{Side}
use Rattle.rules.specs.declared.side.Side.TheVariants.{Securities, Cash}
use Rattle.rules.specs.declared.call.Call.{Call}
use Rattle.rules.specs.declared.call.Call.TheVariants as call
use Rattle.rules.specs.declared.answer.Answer.{Answer}
use Rattle.register.specs.declared.fault.RegisterFault.TheVariants.{Short}
use Rattle.rules.specs.declared.fault.Cause.TheVariants.{Register}
use Rattle.rules.specs.declared.fault.Fault.{Fault}
use Rattle.book.specs.Limits.{most_agent}
use Rattle.book.specs.Books.{Contents, holder, sells}
use Rattle.pairing.specs.Lines.{lot, total, of_seller, net}
use Rattle.pairing.specs.Laws.{WellPaired}
use Rattle.rules.specs.Numbers.{session_number}
use Rattle.rules.specs.Tally.{Opening, Tally, house, cash_asset, told, claim, line, closed_on}
use Rattle.rules.specs.Verdict.{lines_a_holder, due, covers}
use Rattle.rules.specs.Histories.{Entry, tally_of, Seen, register, Same, over, Stands}

-- ---- from pairing on

abbrev pub FromPairingOn : Tally → Type 0
FromPairingOn t = session_number WholeDelivery ≤ session_number t.session

pub record Paired (b : Contents) (t : Tally) : Type 0 where
  -- The lines are a pairing of the book, name fewer pairs than it has holders, and keep most contracts near.
  pub well : WellPaired b t.lines
  -- Each seller's lines of an asset add up to its lot.
  pub lots : (row asset : ℕ) → sells (holder b row) ≡ true → asset < length b.assets
      → total (of_seller row asset) (λ l. l.contracts) t.lines ≡ lot t.lots row asset
  pub few : length t.lines ≤ lines_a_holder * length b.holders

-- ---- coverage

-- The side that pays in a take, draw or line settlement.
abbrev pub paying_side : Call → Option Side
paying_side (call.Notice speaker member number asset contracts) = None
paying_side call.End = None
paying_side call.Pair = None
paying_side (call.Credit side account asset amount) = None
paying_side (call.Take member number asset) = Some Securities
paying_side (call.Draw agent) = Some Cash
paying_side call.SettleWhole = None
paying_side (call.SettleLine i) = Some Cash
paying_side call.Close = None

abbrev pub AcceptedOrShort : Opening → Tally → Call → Result Answer Fault → Option Side → Type 0
AcceptedOrShort o t c r None = Unit {0}
AcceptedOrShort o t c r (Some side) = due o t c ≡ true
    → (covers o t c ≡ true → is_ok r ≡ true) × (covers o t c ≡ false → r ≡ Err (record { cause = Register side Short; call = c }))

-- Each due take, draw and line settlement was refused exactly when the tally's balance before it did not cover it, and then as short.
abbrev pub Covered : Opening → List Entry → Type 0
Covered o [] = Unit {0}
Covered o ((c, r) ∷ h) = AcceptedOrShort o (tally_of o h) c r (paying_side c) × Covered o h

-- ---- the end

-- Each contract of a line, by its number, is settled or was closed by differences, and none is left in.
pub record Finished (t : Tally) (i : ℕ) : Type 0 where
  pub settled_or_closed : (line t i).settled + closed_on t i ≡ (line t i).contracts
  pub none_in : (line t i).settled + (line t i).returned ≡ (line t i).taken

-- After whole settlement or close: the house has no cash and no basket asset, and every line is finished.
pub record Ended (o : Opening) (h : List Entry) (n : Seen) : Type 0 where
  pub no_cash : n.cash.balance house cash_asset ≡ 0
  pub no_units : (a : ℕ) → a < length o.book.assets → n.securities.balance house a ≡ 0
  pub lines : (i : ℕ) → Finished (tally_of o h) i

-- The sum over agents 1 to n.
abbrev pub sum_agents : (ℕ → ℤ) → ℕ → ℤ
sum_agents f zero = pos 0
sum_agents f (suc n) = sum_agents f n +ℤ f (suc n)

-- ---- the law

pub record Law (o : Opening) (h : List Entry) (n : Seen) : Type 0 where
  -- The session is the tally's, and the lines are: they stand in the first places, and later places are as at opening.
  pub session : n.session ≡ (tally_of o h).session
  pub lines : n.table ≡ over (tally_of o h).lines o.table
  pub paired : FromPairingOn (tally_of o h) → Paired o.book (tally_of o h)
  -- Each balance and issue of both registers is the tally's.
  pub registers : (side : Side) → Same (register n side) (told o (tally_of o h) side)
  pub covered : Covered o h
  pub ended : (tally_of o h).session ≡ Closed → Ended o h n
  -- The nets and claims told are the tally's (nets 0 before pairing, claims 0 until a close), and claims add up to zero.
  pub nets : (agent : ℕ) → n.net agent ≡ net o.book (tally_of o h).lines agent
  pub claims : (agent : ℕ) → n.claim agent ≡ claim o.book (tally_of o h) agent
  pub zero_sum : sum_agents n.claim most_agent ≡ pos 0

-- Wherever an expiry stands, the law holds.
abbrev pub LawHolds : Type 0
LawHolds = (o : Opening) (h : List Entry) (n : Seen) → Stands o h n → Law o h n
