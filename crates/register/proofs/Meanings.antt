-- Meanings that agree at each account and asset are equal, and what an accepted call tells. Assumes nothing.
use Rattle.std.proofs.Common.{◌≡◌, ℕ, ◌+◌, ◌<◌, ◌≤◌, Some, None, Ok, Err, Option, refl, arith}
use Rattle.std.proofs.lemmas.Bool.Decides.{nat_tests}
use Rattle.register.specs.Rules.{most, Meaning, answer, unless_refused, credit_refused, transfer_refused}

pub same_meaning : (m n : Meaning) → m.accounts ≡ n.accounts → m.assets ≡ n.assets → ((a s : ℕ) → m.balance a s ≡ n.balance a s) → ((s : ℕ) → m.issue s ≡ n.issue s) → m ≡ n
same_meaning m n p q b e = λ i. record { accounts = p i; assets = q i; balance = λ a s. b a s i; issue = λ s. e s i }

-- a refusal leaves what was
pub refused_keeps : {F X : Type 0} (refused : Option F) (fault : F) (new old : X) → Err fault ≡ answer refused → old ≡ unless_refused refused new old
refused_keeps None fault new old e = let z : ◌≡◌ {A = ℕ} 0 1 = cc in absurd (omega arith)
refused_keeps (Some _) fault new old e = refl

pub accepted_none : {F : Type 0} (refused : Option F) → Ok tt ≡ answer refused → refused ≡ None
accepted_none None e = refl
accepted_none (Some fault) e = let z : ◌≡◌ {A = ℕ} 0 1 = cc in absurd (omega arith)

-- what is so where a credit is accepted
pub record CreditTold (m : Meaning) (account asset amount : ℕ) : Type 0 where
  pub account_known : account < m.accounts
  pub asset_known : asset < m.assets
  pub fits : m.issue asset + amount ≤ most

pub credit_told : (m : Meaning) (account asset amount : ℕ) → credit_refused m account asset amount ≡ None → CreditTold m account asset amount
credit_told m account asset amount accepted = record {
  account_known = grind (arith, nat_tests);
  asset_known = grind (arith, nat_tests);
  fits = grind (arith, nat_tests);
}

-- what is so where a move is accepted
pub record MoveTold (m : Meaning) (giver taker asset amount : ℕ) : Type 0 where
  pub giver_known : giver < m.accounts
  pub taker_known : taker < m.accounts
  pub asset_known : asset < m.assets
  pub apart : giver ≡ taker → ⊥
  pub enough : amount ≤ m.balance giver asset

pub move_told : (m : Meaning) (giver taker asset amount : ℕ) → transfer_refused m giver taker asset amount ≡ None → MoveTold m giver taker asset amount
move_told m giver taker asset amount accepted = record {
  giver_known = grind (arith, nat_tests);
  taker_known = grind (arith, nat_tests);
  asset_known = grind (arith, nat_tests);
  apart = grind (arith, nat_tests);
  enough = grind (arith, nat_tests);
}
