-- The differences in the told balances never cut: what is subtracted is at most what is added, for every account and asset.
use Rattle.std.proofs.Common.{◌≡◌, ℕ, zero, suc, ◌+◌, ◌*◌, ◌≤◌, ap, ◌∙◌, inl, inr, mul-le-mul_left, mul-zero, arith}
use Rattle.std.proofs.lemmas.Bool.{ne_eqb}
use Rattle.rules.specs.declared.side.Side.TheVariants.{Securities, Cash}
use Rattle.book.specs.Books.{Sound}
use Rattle.pairing.specs.Lines.{total, of_asset, inside}
use Rattle.rules.specs.Tally.{Opening, Tally, credited, held, all_held, at_0, units, money}
use Rattle.rules.proofs.Kept.{Kept, gave, got, spent, earned}
use Rattle.rules.proofs.Balances.{row_0, agent_0}

pub units_never_cut : (o : Opening) (t : Tally) (k a : ℕ) → Kept o t
    → o.book.terms.multiplier * gave t.lines k a
    ≤ o.securities.balance k a + credited t Securities k a + o.book.terms.multiplier * (got t.lines k a + at_0 k (total (of_asset a) inside t.lines))
units_never_cut o t zero a s =
    let m : ℕ = o.book.terms.multiplier in
    let z : m * gave t.lines 0 a ≡ 0 = ap (λ x. m * x) (row_0 o.book t.lines a s.lines).0 ∙ mul-zero m in
    omega (arith, z)
units_never_cut o t (suc k) a s =
    let m : ℕ = o.book.terms.multiplier in
    let u = s.units_cover (suc k) a (omega arith) in
    let l : m * got t.lines (suc k) a ≤ m * (got t.lines (suc k) a + at_0 (suc k) (total (of_asset a) inside t.lines)) = mul-le-mul_left m (omega arith) in
    omega (arith, u, l)

-- nothing is held of agent 0
pub held_0 : (o : Opening) (t : Tally) → Sound o.book → Kept o t → held t 0 ≡ 0
held_0 o t d s =
    let z = (agent_0 o.book (λ l. l.contracts) t.lines d s.lines).0 in
    elim (s.drawn 0) [ inl h ↦ h | inr h ↦ omega (arith, h, z) ]

pub money_never_cuts : (o : Opening) (t : Tally) (k a : ℕ) → Sound o.book → Kept o t
    → at_0 a (spent o.book t.lines k + held t k)
    ≤ o.cash.balance k a + credited t Cash k a + at_0 a (earned o.book t.lines k + at_0 k (all_held t))
money_never_cuts o t zero zero d s =
    let z = (agent_0 o.book (λ l. l.settled) t.lines d s.lines).0 in
    let h = held_0 o t d s in
    omega (arith, z, h)
money_never_cuts o t (suc k) zero d s = let u = s.money_covers (suc k) (omega arith) in omega (arith, u)
money_never_cuts o t k (suc a) d s = rw (ne_eqb (suc a) 0 (λ z. omega arith)) (omega arith)

-- So the told balances are what is added less what is subtracted, for every account and asset.
pub units_add_up : (o : Opening) (t : Tally) (k a : ℕ) → Kept o t
    → units o t k a + o.book.terms.multiplier * gave t.lines k a
    ≡ o.securities.balance k a + credited t Securities k a + o.book.terms.multiplier * (got t.lines k a + at_0 k (total (of_asset a) inside t.lines))
units_add_up o t k a s = let u = units_never_cut o t k a s in omega (arith, u)

pub money_adds_up : (o : Opening) (t : Tally) (k a : ℕ) → Sound o.book → Kept o t
    → money o t k a + at_0 a (spent o.book t.lines k + held t k)
    ≡ o.cash.balance k a + credited t Cash k a + at_0 a (earned o.book t.lines k + at_0 k (all_held t))
money_adds_up o t k a d s = let u = money_never_cuts o t k a d s in omega (arith, u)
