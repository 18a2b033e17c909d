-- Days that were played elsewhere: what was asked and what was told, and how the rules play them.
use Rattle.std.specs.Prelude.{◌≡◌, ℕ, cond, ◌&&◌, List, [], ◌∷◌, ◌++◌, map, length, replicate, ℤ, Some, None, Ok, Err, sum_by, Option, Result, ◌==◌, unsigned_abs}
use Rattle.std.specs.List.{range_with_len}
use Rattle.register.specs.Rules.{Meaning}
use Rattle.pairing.specs.Lines.{net}
use Rattle.book.specs.Books.{Contents}
use Rattle.rules.specs.declared.side.Side.{Side}
use Rattle.rules.specs.declared.side.Side.TheVariants.{Securities, Cash}
use Rattle.rules.specs.declared.call.Call.{Call}
use Rattle.rules.specs.declared.answer.Answer.{Answer}
use Rattle.rules.specs.declared.answer.Answer.TheVariants.{Done, Lines, Contracts}
use Rattle.rules.specs.declared.fault.Part.{Part}
use Rattle.rules.specs.declared.fault.Part.TheVariants as part
use Rattle.rules.specs.declared.fault.Cause.{Cause}
use Rattle.rules.specs.declared.fault.Cause.TheVariants.{WrongSession, NotItsSeller, NoSuchSeller, NoSuchAsset, BadContracts, NothingDue, NotAllIn, TooSmall, HouseCredit, Register}
use Rattle.rules.specs.declared.fault.Fault.{Fault}
use Rattle.rules.specs.declared.fault.OpeningFault.{OpeningFault}
use Rattle.rules.specs.declared.fault.OpeningFault.TheVariants as opening
use Rattle.rules.specs.Numbers.{session_number, number, opening_number}
use Rattle.rules.specs.Tally.{Opening, Tally, empty, balance, told, claim, no_line}
use Rattle.rules.specs.Verdict.{verdict, opening_refused, too_small}
use Rattle.rules.specs.Histories.{after}
use Rattle.book.specs.Limits.{most_agent}
use Rattle.rules.specs.Examples.{zeros}

-- ---- what is asked and told

-- A call; a call for which the line table or a register is too small; or how all stands.
pub data Asked : Type 0 where
  asks : Call → Asked
  cramped : Part → Call → Asked
  tell : Asked

-- How all stands: the session; each line's contracts, and those taken, settled and returned; each balance that is not 0,
-- with its account and asset, on both sides; and each agent whose net or claim is not 0, with both.
pub record Standing : Type 0 where
  pub session : ℕ
  pub lines : List (ℕ × ℕ × ℕ × ℕ)
  pub securities : List (ℕ × ℕ × ℕ)
  pub cash : List (ℕ × ℕ × ℕ)
  pub agents : List (ℕ × ℤ × ℤ)

-- Accepted, with a number or none; refused by a number, and by a side where there is one.
pub data Told : Type 0 where
  ok : Told
  counts : ℕ → Told
  refused : ℕ → Told
  refused_by : Side → ℕ → Told
  stands : Standing → Told

-- Units in an account before the opening.
pub record Placed : Type 0 where
  pub side : Side
  pub account : ℕ
  pub asset : ℕ
  pub amount : ℕ

pub record Day : Type 0 where
  pub book : Contents
  pub places : ℕ
  pub securities : ℕ × ℕ
  pub cash : ℕ × ℕ
  pub placed : List Placed
  pub asked : List Asked
  pub told : List Told

-- ---- how the rules open it

abbrev pub amount_on : Side → Side → ℕ → ℕ
amount_on Securities Securities n = n
amount_on Securities Cash n = 0
amount_on Cash Securities n = 0
amount_on Cash Cash n = n

-- A register with these units in it.
abbrev pub register : Side → ℕ × ℕ → List Placed → Meaning
register side shape ps = record {
  accounts = shape.0;
  assets = shape.1;
  balance = λ k a. sum_by (λ p. cond (p.account == k && p.asset == a) (amount_on p.side side p.amount) 0) ps;
  issue = λ a. sum_by (λ p. cond (p.asset == a) (amount_on p.side side p.amount) 0) ps;
}

abbrev pub opened : Day → Opening
opened d = record
    { book = d.book; table = replicate d.places no_line; securities = register Securities d.securities d.placed; cash = register Cash d.cash d.placed }

-- ---- what the rules tell

abbrev pub part_told : Part → ℕ → Told
part_told part.LineTable n = refused n
part_told (part.Register side) n = refused_by side n

abbrev pub cause_told : Cause → ℕ → Told
cause_told WrongSession n = refused n
cause_told NotItsSeller n = refused n
cause_told NoSuchSeller n = refused n
cause_told NoSuchAsset n = refused n
cause_told BadContracts n = refused n
cause_told NothingDue n = refused n
cause_told NotAllIn n = refused n
cause_told (TooSmall what) n = part_told what n
cause_told HouseCredit n = refused n
cause_told (Register side fault) n = refused_by side n

abbrev pub answer_told : Result Answer Fault → Told
answer_told (Ok Done) = ok
answer_told (Ok (Lines n)) = counts n
answer_told (Ok (Contracts n)) = counts n
answer_told (Err e) = cause_told e.cause (number e.cause)

abbrev pub fault_told : Option Fault → Told
fault_told None = ok
fault_told (Some e) = cause_told e.cause (number e.cause)

abbrev pub opening_told : Option OpeningFault → Told
opening_told None = ok
opening_told (Some opening.EmptyBook) = refused (opening_number opening.EmptyBook)
opening_told (Some (opening.TooSmall what)) = part_told what (opening_number (opening.TooSmall what))
opening_told (Some (opening.HouseHolds side)) = refused_by side (opening_number (opening.HouseHolds side))

-- The call with an empty line table, or with a register of one account and one asset.
abbrev pub cramped_told : Opening → Tally → Part → Call → Told
cramped_told o t part.LineTable c = fault_told (too_small o.book 0 (told o t Securities) (told o t Cash) c)
cramped_told o t (part.Register Securities) c = fault_told (too_small o.book (length o.table) (zeros 1 1) (told o t Cash) c)
cramped_told o t (part.Register Cash) c = fault_told (too_small o.book (length o.table) (told o t Securities) (zeros 1 1) c)

abbrev pub each_of : {X Y : Type 0} → (X → List Y) → List X → List Y
each_of f [] = []
each_of f (x ∷ xs) = f x ++ each_of f xs

abbrev pub balances : Opening → Tally → Side → ℕ → ℕ → List (ℕ × ℕ × ℕ)
balances o t side accounts assets =
    each_of (λ k. each_of (λ a. let n = balance o t side k a in cond (n == 0) [] ((k, a, n) ∷ [])) (range_with_len 0 assets)) (range_with_len 0 accounts)

abbrev pub standing : Opening → Tally → Standing
standing o t = record {
  session = session_number t.session;
  lines = map (λ l. (l.contracts, l.taken, l.settled, l.returned)) t.lines;
  securities = balances o t Securities o.securities.accounts o.securities.assets;
  cash = balances o t Cash o.cash.accounts o.cash.assets;
  agents = each_of (λ k. let n = net o.book t.lines k in let c = claim o.book t k in cond (unsigned_abs n == 0 && unsigned_abs c == 0) [] ((k, n, c) ∷ [])) (range_with_len 1 most_agent);
}

-- ---- how the rules play it

abbrev pub plays : Opening → Tally → List Asked → List Told
plays o t [] = []
plays o t (asks c ∷ rest) = let r = verdict o t c in answer_told r ∷ plays o (after o t c r) rest
plays o t (cramped what c ∷ rest) = cramped_told o t what c ∷ plays o t rest
plays o t (tell ∷ rest) = stands (standing o t) ∷ plays o t rest

-- After a refused opening nothing more is asked.
abbrev pub played : Day → List Told
played d = let o = opened d in opening_told (opening_refused o) ∷ plays o empty d.asked

-- The rules tell what was told, at every step.
abbrev pub Agree : List Day → Type 0
Agree ds = map played ds ≡ map (λ d. d.told) ds
