-- The example book is one that exists, and it opens with registers of zeros.
use Rattle.std.proofs.Common.{◌≡◌, ℕ, zero, suc, ◌-◌, ◌<◌, ◌≤◌, true, cond, eqb, sym, refl, ap, ◌∙◌, arith}
use Rattle.book.specs.Books.{Sound, In, holder, stands_before}
use Rattle.pairing.specs.Cases.{example}
use Rattle.rules.specs.Premises.{ExampleOpens}

-- Rows 1 to 5, and none else.
clearing : (r : ℕ) → In 1 5 r → (holder example r).clearing ≡ cond (eqb (holder example r).member 1) 1 ((holder example r).member - 1)
clearing zero h = absurd (omega arith)
clearing (suc zero) h = refl
clearing (suc (suc zero)) h = refl
clearing (suc (suc (suc zero))) h = refl
clearing (suc (suc (suc (suc zero)))) h = refl
clearing (suc (suc (suc (suc (suc zero))))) h = refl
clearing (suc (suc (suc (suc (suc (suc r)))))) h = absurd (omega arith)

agent : (r : ℕ) → In 1 5 r → (holder example r).agent ≡ cond (eqb (holder example r).clearing 3) 2 1
agent zero h = absurd (omega arith)
agent (suc zero) h = refl
agent (suc (suc zero)) h = refl
agent (suc (suc (suc zero))) h = refl
agent (suc (suc (suc (suc zero)))) h = refl
agent (suc (suc (suc (suc (suc zero))))) h = refl
agent (suc (suc (suc (suc (suc (suc r)))))) h = absurd (omega arith)

ascending : (r s : ℕ) → 1 ≤ r → r < s → s ≤ 5 → stands_before (holder example r) (holder example s) ≡ true
ascending zero s low lt high = absurd (omega arith)
ascending (suc zero) zero low lt high = absurd (omega arith)
ascending (suc zero) (suc zero) low lt high = absurd (omega arith)
ascending (suc zero) (suc (suc zero)) low lt high = refl
ascending (suc zero) (suc (suc (suc zero))) low lt high = refl
ascending (suc zero) (suc (suc (suc (suc zero)))) low lt high = refl
ascending (suc zero) (suc (suc (suc (suc (suc zero))))) low lt high = refl
ascending (suc zero) (suc (suc (suc (suc (suc (suc s)))))) low lt high = absurd (omega arith)
ascending (suc (suc zero)) zero low lt high = absurd (omega arith)
ascending (suc (suc zero)) (suc zero) low lt high = absurd (omega arith)
ascending (suc (suc zero)) (suc (suc zero)) low lt high = absurd (omega arith)
ascending (suc (suc zero)) (suc (suc (suc zero))) low lt high = refl
ascending (suc (suc zero)) (suc (suc (suc (suc zero)))) low lt high = refl
ascending (suc (suc zero)) (suc (suc (suc (suc (suc zero))))) low lt high = refl
ascending (suc (suc zero)) (suc (suc (suc (suc (suc (suc s)))))) low lt high = absurd (omega arith)
ascending (suc (suc (suc zero))) zero low lt high = absurd (omega arith)
ascending (suc (suc (suc zero))) (suc zero) low lt high = absurd (omega arith)
ascending (suc (suc (suc zero))) (suc (suc zero)) low lt high = absurd (omega arith)
ascending (suc (suc (suc zero))) (suc (suc (suc zero))) low lt high = absurd (omega arith)
ascending (suc (suc (suc zero))) (suc (suc (suc (suc zero)))) low lt high = refl
ascending (suc (suc (suc zero))) (suc (suc (suc (suc (suc zero))))) low lt high = refl
ascending (suc (suc (suc zero))) (suc (suc (suc (suc (suc (suc s)))))) low lt high = absurd (omega arith)
ascending (suc (suc (suc (suc zero)))) zero low lt high = absurd (omega arith)
ascending (suc (suc (suc (suc zero)))) (suc zero) low lt high = absurd (omega arith)
ascending (suc (suc (suc (suc zero)))) (suc (suc zero)) low lt high = absurd (omega arith)
ascending (suc (suc (suc (suc zero)))) (suc (suc (suc zero))) low lt high = absurd (omega arith)
ascending (suc (suc (suc (suc zero)))) (suc (suc (suc (suc zero)))) low lt high = absurd (omega arith)
ascending (suc (suc (suc (suc zero)))) (suc (suc (suc (suc (suc zero))))) low lt high = refl
ascending (suc (suc (suc (suc zero)))) (suc (suc (suc (suc (suc (suc s)))))) low lt high = absurd (omega arith)
ascending (suc (suc (suc (suc (suc zero))))) zero low lt high = absurd (omega arith)
ascending (suc (suc (suc (suc (suc zero))))) (suc zero) low lt high = absurd (omega arith)
ascending (suc (suc (suc (suc (suc zero))))) (suc (suc zero)) low lt high = absurd (omega arith)
ascending (suc (suc (suc (suc (suc zero))))) (suc (suc (suc zero))) low lt high = absurd (omega arith)
ascending (suc (suc (suc (suc (suc zero))))) (suc (suc (suc (suc zero)))) low lt high = absurd (omega arith)
ascending (suc (suc (suc (suc (suc zero))))) (suc (suc (suc (suc (suc zero))))) low lt high = absurd (omega arith)
ascending (suc (suc (suc (suc (suc zero))))) (suc (suc (suc (suc (suc (suc s)))))) low lt high = absurd (omega arith)
ascending (suc (suc (suc (suc (suc (suc r)))))) s low lt high = absurd (omega arith)

example_sound : Sound example
example_sound = record {
  multiplier = (omega arith, omega arith);
  price = (omega arith, omega arith);
  asset_count = (omega arith, omega arith);
  assets = (record { factor = (omega arith, omega arith); accrued = (omega arith, omega arith); market = (omega arith, omega arith) }, (record { factor = (omega arith, omega arith); accrued = (omega arith, omega arith); market = (omega arith, omega arith) }, tt));
  holder_count = (omega arith, omega arith);
  holders = (record { member = (omega arith, omega arith); number = (omega arith, omega arith); clearing = (omega arith, omega arith); agent = (omega arith, omega arith); volume = (omega arith, omega arith) }, (record { member = (omega arith, omega arith); number = (omega arith, omega arith); clearing = (omega arith, omega arith); agent = (omega arith, omega arith); volume = (omega arith, omega arith) }, (record { member = (omega arith, omega arith); number = (omega arith, omega arith); clearing = (omega arith, omega arith); agent = (omega arith, omega arith); volume = (omega arith, omega arith) }, (record { member = (omega arith, omega arith); number = (omega arith, omega arith); clearing = (omega arith, omega arith); agent = (omega arith, omega arith); volume = (omega arith, omega arith) }, (record { member = (omega arith, omega arith); number = (omega arith, omega arith); clearing = (omega arith, omega arith); agent = (omega arith, omega arith); volume = (omega arith, omega arith) }, tt)))));
  ascending = ascending;
  one_clearing = λ r s x y e. clearing r x ∙ ap (λ m. cond (eqb m 1) 1 (m - 1)) e ∙ sym (clearing s y);
  one_agent = λ r s x y e. agent r x ∙ ap (λ c. cond (eqb c 3) 2 1) e ∙ sym (agent s y);
  balanced = refl;
  few = omega arith;
}

pub example_opens : ExampleOpens
example_opens = record { book = example_sound; not_refused = refl }
