-- What an opening has that was not refused: room for the book in both registers, and a house that holds nothing.
use Rattle.std.proofs.Common.{◌≡◌, ℕ, ◌*◌, ◌<◌, ◌≤◌, Bool, true, false, not, eqb, ltb, leb, List, [], ◌∷◌, length, None, refl, arith}
use Rattle.std.specs.List.{AllByRecursion}
use Rattle.std.proofs.lemmas.Bool.{and_parts, not-true, leb-true, leb-false, ltb-true}
use Rattle.std.proofs.lemmas.Bool.Decides.{Decides-below_and, Decides-eqb}
use Rattle.register.specs.Rules.{Meaning}
use Rattle.book.specs.declared.records.Holder.{Holder}
use Rattle.book.specs.Books.{Contents, In, holder}
use Rattle.order.specs.First.{any}
use Rattle.rules.specs.Tally.{Opening}
use Rattle.rules.specs.Verdict.{lines_a_holder, first_failed, house_empty, opening_checks}
use Rattle.rules.specs.Histories.{Opens}
use Rattle.rules.proofs.Checks.{not_any}
use Rattle.rules.proofs.Balances.{rows_all}

-- where no check failed, each passed
pub passed : {E : Type 0} (cs : List (Bool × E)) → first_failed cs ≡ None → AllByRecursion (λ (x : Bool × E). x.0 ≡ true) cs
passed [] h = tt
passed ((true, e) ∷ rest) h = (refl, passed rest h)
passed ((false, e) ∷ rest) h = absurd (let z : ◌≡◌ {A = ℕ} 0 1 = cc in omega arith)

-- and the other way
pub none_failed : {E : Type 0} (cs : List (Bool × E)) → AllByRecursion (λ (x : Bool × E). x.0 ≡ true) cs → first_failed cs ≡ None
none_failed [] a = refl
none_failed ((true, e) ∷ rest) a = none_failed rest a.1
none_failed ((false, e) ∷ rest) a = absurd (let z : ◌≡◌ {A = ℕ} 0 1 = cc in omega arith)

empty_below : (m : Meaning) (n : ℕ) → house_empty m n ≡ true → (a : ℕ) → a < n → m.balance 0 a ≡ 0
empty_below m n h = (Decides-below_and (λ a. eqb (m.balance 0 a) 0) (λ a. m.balance 0 a ≡ 0) (house_empty m) (λ a. Decides-eqb (m.balance 0 a) 0) refl (λ _. refl) n).0 h

pub house_at_first : (o : Opening) → Opens o → ((a : ℕ) → a < length o.book.assets → o.securities.balance 0 a ≡ 0) × (o.cash.balance 0 0 ≡ 0)
house_at_first o p =
    let q = passed (opening_checks o) p.not_refused in
    (empty_below o.securities (length o.book.assets) q.1.1.1.1.0, empty_below o.cash 1 q.1.1.1.1.1.0 0 (omega arith))

-- There is a place for every line, an account for every row and every agent of the book, and for each of its assets and cash.
pub record Room (o : Opening) : Type 0 where
  pub places : lines_a_holder * length o.book.holders ≤ length o.table
  pub rows : length o.book.holders < o.securities.accounts
  pub assets : length o.book.assets ≤ o.securities.assets
  pub agents : (row : ℕ) → In 1 (length o.book.holders) row → (holder o.book row).agent < o.cash.accounts
  pub cash : 0 < o.cash.assets

pub room_for : (o : Opening) → Opens o → Room o
room_for o p =
    let b : Contents = o.book in
    let q = passed (opening_checks o) p.not_refused in
    let s = and_parts (ltb (length b.holders) o.securities.accounts) (leb (length b.assets) o.securities.assets) q.1.1.0 in
    let c = and_parts (not (any (λ h. leb o.cash.accounts h.agent) b.holders)) (ltb 0 o.cash.assets) q.1.1.1.0 in
    let each : AllByRecursion (λ (h : Holder). h.agent < o.cash.accounts) b.holders =
    not_any (λ h. leb o.cash.accounts h.agent) (λ h. h.agent < o.cash.accounts) (λ h f. leb-false o.cash.accounts h.agent f) b.holders (not-true (any (λ h. leb o.cash.accounts h.agent) b.holders) c.0) in
    record {
      places = leb-true (lines_a_holder * length b.holders) (length o.table) q.1.0;
      rows = ltb-true (length b.holders) o.securities.accounts s.0;
      assets = leb-true (length b.assets) o.securities.assets s.1;
      agents = rows_all (λ h. h.agent < o.cash.accounts) b each;
      cash = ltb-true 0 o.cash.assets c.1;
    }
