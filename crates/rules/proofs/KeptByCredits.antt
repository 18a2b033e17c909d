-- The invariant holds at first, and after a credit.
use Rattle.std.proofs.Common.{◌≡◌, ℕ, ◌+◌, ◌<◌, ◌≤◌, Bool, true, false, cond, ◌&&◌, eqb, refl, ◌∙◌, inl, mul-zero, arith}
use Rattle.std.proofs.lemmas.List.Sums.{sum_by-cons}
use Rattle.std.proofs.lemmas.Bool.{ne_eqb}
use Rattle.rules.specs.declared.side.Side.{Side}
use Rattle.rules.specs.declared.side.Side.TheVariants.{Securities, Cash}
use Rattle.rules.specs.Tally.{Opening, Tally, Credited, empty, credited, same_side, with_credit}
use Rattle.rules.proofs.Kept.{Kept}

pub kept_first : (o : Opening) → Kept o empty
kept_first o = record {
  lots_within = λ row. omega arith;
  lots_full = λ h. absurd (omega arith);
  lots_assets = tt;
  no_lines = λ _. refl;
  paired = λ h. absurd (omega arith);
  lines = tt;
  few = omega arith;
  untouched = λ _. tt;
  none_in = λ _. tt;
  closed = tt;
  closed_few = omega arith;
  not_closed = λ _. refl;
  finished = λ h. absurd (omega arith);
  draws_before = λ _. refl;
  draws_after = λ _. refl;
  drawn = λ agent. inl refl;
  draws = tt;
  some_drawn = tt;
  once = λ _. omega arith;
  house = λ side a. refl;
  units_cover = λ k a p. let z = mul-zero o.book.terms.multiplier in omega (arith, z);
  money_covers = λ k p. omega arith;
}

-- a credit adds, and never to account 0
credit_up : (t : Tally) (x : Credited) (side : Side) (k a : ℕ) → credited t side k a ≤ credited (with_credit t x) side k a
credit_up t x side k a = rw (sum_by-cons (λ (y : Credited). cond (same_side y.side side && (eqb y.account k && eqb y.asset a)) y.amount 0) x t.credits) (omega arith)

skip : (s e : Bool) (n m : ℕ) → cond (s && (false && e)) n 0 + m ≡ m
skip true e n m = omega arith
skip false e n m = omega arith

credit_house : (t : Tally) (x : Credited) (side : Side) (a : ℕ) → 0 < x.account → credited (with_credit t x) side 0 a ≡ credited t side 0 a
credit_house t x side a p =
    let e = ne_eqb x.account 0 (λ z. omega arith) in
    sum_by-cons (λ (y : Credited). cond (same_side y.side side && (eqb y.account 0 && eqb y.asset a)) y.amount 0) x t.credits
    ∙ rw e (skip (same_side x.side side) (eqb x.asset a) x.amount (credited t side 0 a))

pub kept_credit : (o : Opening) (t : Tally) (x : Credited) → 0 < x.account → Kept o t → Kept o (with_credit t x)
kept_credit o t x p s = record {
  lots_within = s.lots_within;
  lots_full = s.lots_full;
  lots_assets = s.lots_assets;
  no_lines = s.no_lines;
  paired = s.paired;
  lines = s.lines;
  few = s.few;
  untouched = s.untouched;
  none_in = s.none_in;
  closed = s.closed;
  closed_few = s.closed_few;
  not_closed = s.not_closed;
  finished = s.finished;
  draws_before = s.draws_before;
  draws_after = s.draws_after;
  drawn = s.drawn;
  draws = s.draws;
  some_drawn = s.some_drawn;
  once = s.once;
  house = λ side a. credit_house t x side a p ∙ s.house side a;
  units_cover = λ k a q. let u = s.units_cover k a q in let c = credit_up t x Securities k a in omega (arith, u, c);
  money_covers = λ k q. let u = s.money_covers k q in let c = credit_up t x Cash k 0 in omega (arith, u, c);
}
