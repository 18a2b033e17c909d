-- An expiry that was opened stands with no call made, and after any calls that the rules answer.
use Rattle.std.proofs.Common.{◌≡◌, ℕ, Bool, true, false, cond, eqb, [], refl, mul-zero, arith}
use Rattle.rules.specs.declared.side.Side.{Side}
use Rattle.rules.specs.declared.side.Side.TheVariants.{Securities, Cash}
use Rattle.rules.specs.Tally.{Opening, empty, opened, told, units, money, at_0}
use Rattle.rules.specs.Histories.{Same, register, history, tally_of}
use Rattle.rules.specs.Premises.{at_first, as_told, OpenedStands, AnyCallsStand}
use Rattle.rules.proofs.Forward.{lived_on}

at_0_none : (k : ℕ) → at_0 k 0 ≡ 0
at_0_none k = go (eqb k 0)
  where
    go : (b : Bool) → cond {A = ℕ} b 0 0 ≡ 0
    go true = refl
    go false = refl

units_at_first : (o : Opening) (k a : ℕ) → o.securities.balance k a ≡ units o empty k a
units_at_first o k a =
    let e = at_0_none k in
    let z = mul-zero o.book.terms.multiplier in
    rw e (omega (arith, z))

money_at_first : (o : Opening) (k a : ℕ) → o.cash.balance k a ≡ money o empty k a
money_at_first o k a =
    let e = at_0_none k in
    let f = at_0_none a in
    rw e (rw f (omega arith))

pub told_at_first : (o : Opening) (side : Side) → Same (opened o side) (told o empty side)
told_at_first o Securities = record { accounts = refl; assets = refl; balance = units_at_first o; issue = λ a. omega arith }
told_at_first o Cash = record { accounts = refl; assets = refl; balance = money_at_first o; issue = λ a. omega arith }

pub opened_stands : OpenedStands
opened_stands o p = record {
  opens = p;
  lived = tt;
  book = refl;
  session = refl;
  lots = λ _ _. refl;
  notified = λ _. refl;
  table = refl;
  count = refl;
  draws = λ _. refl;
  nets = λ _. refl;
  claims = λ _. refl;
  registers = both;
}
  where
    both : (side : Side) → Same (register (at_first o) side) (told o empty side)
    both Securities = told_at_first o Securities
    both Cash = told_at_first o Cash

pub any_calls_stand : AnyCallsStand
any_calls_stand o p cs = record {
  opens = p;
  lived = lived_on o [] cs tt;
  book = refl;
  session = refl;
  lots = λ _ _. refl;
  notified = λ _. refl;
  table = refl;
  count = refl;
  draws = λ _. refl;
  nets = λ _. refl;
  claims = λ _. refl;
  registers = both;
}
  where
    same : (side : Side) → Same (told o (tally_of o (history o [] cs)) side) (told o (tally_of o (history o [] cs)) side)
    same side = record { accounts = refl; assets = refl; balance = λ _ _. refl; issue = λ _. refl }

    both : (side : Side) → Same (register (as_told o (history o [] cs)) side) (told o (tally_of o (history o [] cs)) side)
    both Securities = same Securities
    both Cash = same Cash
