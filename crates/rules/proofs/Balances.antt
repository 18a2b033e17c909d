-- The told balances by addition: in a tally that keeps the invariant nothing is cut off.
use Rattle.std.proofs.Common.{◌≡◌, ℕ, zero, suc, ◌+◌, ◌-◌, ◌*◌, ◌<◌, cond, eqb, List, length, refl, ap, arith}
use Rattle.std.specs.List.{AllByRecursion}
use Rattle.std.proofs.ByRecursion.{All-get_or, All-weaker}
use Rattle.std.proofs.lemmas.Bool.{ne_eqb}
use Rattle.book.specs.declared.records.Holder.{Holder}
use Rattle.pairing.specs.declared.line.Line.{Line}
use Rattle.rules.specs.declared.side.Side.TheVariants.{Securities, Cash}
use Rattle.book.specs.Books.{Contents, Sound, In, HolderInRange, holder, nobody, value}
use Rattle.pairing.specs.Lines.{total, of_seller, of_buyer, of_asset, inside, buyer_agent, seller_agent, value_bought, value_sold}
use Rattle.rules.specs.Tally.{Opening, Tally, credited, held, all_held, at_0, units, money}
use Rattle.rules.proofs.Totals.{sum_zero}
use Rattle.rules.proofs.Kept.{Kept, Sane, gave, got, spent, earned}

-- what holds of every holder holds of each row
pub rows_all : (P : Holder → Type 0) (b : Contents) → AllByRecursion P b.holders → (row : ℕ) → In 1 (length b.holders) row → P (holder b row)
rows_all P b a zero r = absurd (let q = r.0 in omega arith)
rows_all P b a (suc i) r = All-get_or P b.holders i nobody (let q = r.1 in omega arith) a

pub agent_in : (b : Contents) → Sound b → (row : ℕ) → In 1 (length b.holders) row → In 1 64 (holder b row).agent
agent_in b s row r = rows_all (λ h. In 1 64 h.agent) b (All-weaker HolderInRange (λ h. In 1 64 h.agent) (λ h v. v.agent) b.holders s.holders) row r

at_0_not : (k n : ℕ) → 0 < k → at_0 k n ≡ 0
at_0_not k n p = rw (ne_eqb k 0 (λ z. omega arith)) refl

pub units_at : (o : Opening) (t : Tally) (k a : ℕ) → 0 < k → Kept o t
    → units o t k a + o.book.terms.multiplier * gave t.lines k a ≡ o.securities.balance k a + credited t Securities k a + o.book.terms.multiplier * got t.lines k a
units_at o t k a p s =
    let m : ℕ = o.book.terms.multiplier in
    let u = s.units_cover k a p in
    let z = at_0_not k (total (of_asset a) inside t.lines) p in
    let e : m * (got t.lines k a + at_0 k (total (of_asset a) inside t.lines)) ≡ m * got t.lines k a = ap (λ x. m * x) (omega (arith, z)) in
    omega (arith, u, e)

pub money_at : (o : Opening) (t : Tally) (k : ℕ) → 0 < k → Kept o t
    → money o t k 0 + (spent o.book t.lines k + held t k) ≡ o.cash.balance k 0 + credited t Cash k 0 + earned o.book t.lines k
money_at o t k p s =
    let u = s.money_covers k p in
    let z = at_0_not k (all_held t) p in
    omega (arith, u, z)

-- no line is of row 0, nor of agent 0
pub row_0 : (b : Contents) (ls : List Line) (a : ℕ) → AllByRecursion (Sane b) ls → (gave ls 0 a ≡ 0) × (got ls 0 a ≡ 0)
row_0 b ls a s = (
  sum_zero (λ l. cond (of_seller 0 a l) (l.taken - l.returned) 0) ls (All-weaker (Sane b) (λ l. cond (of_seller 0 a l) (l.taken - l.returned) 0 ≡ 0) (λ l v. let q = v.seller.0 in let e = ne_eqb l.seller 0 (λ z. omega arith) in rw e refl) ls s),
  sum_zero (λ l. cond (of_buyer 0 a l) l.settled 0) ls (All-weaker (Sane b) (λ l. cond (of_buyer 0 a l) l.settled 0 ≡ 0) (λ l v. let q = v.buyer.0 in let e = ne_eqb l.buyer 0 (λ z. omega arith) in rw e refl) ls s),
)

pub agent_0 : (b : Contents) (f : Line → ℕ) (ls : List Line) → Sound b → AllByRecursion (Sane b) ls → (value_bought b f ls 0 ≡ 0) × (value_sold b f ls 0 ≡ 0)
agent_0 b f ls d s = (
  sum_zero (λ l. cond (eqb (buyer_agent b l) 0) (value b l.asset (f l)) 0) ls (All-weaker (Sane b) (λ l. cond (eqb (buyer_agent b l) 0) (value b l.asset (f l)) 0 ≡ 0) (λ l v. let q = (agent_in b d l.buyer v.buyer).0 in let e = ne_eqb (buyer_agent b l) 0 (λ z. omega arith) in rw e refl) ls s),
  sum_zero (λ l. cond (eqb (seller_agent b l) 0) (value b l.asset (f l)) 0) ls (All-weaker (Sane b) (λ l. cond (eqb (seller_agent b l) 0) (value b l.asset (f l)) 0 ≡ 0) (λ l v. let q = (agent_in b d l.seller v.seller).0 in let e = ne_eqb (seller_agent b l) 0 (λ z. omega arith) in rw e refl) ls s),
)
