-- What a register means, when it refuses a credit or a move, and what an accepted one changes.
use Rattle.std.specs.Prelude.{◌≡◌, ℕ, zero, suc, ◌+◌, ◌-◌, ◌≤◌, cond, ◌&&◌, ◌||◌, Some, None, Ok, Err, Option, Result, ◌==◌, nat_le, nat_lt}
use Rattle.register.specs.declared.fault.RegisterFault.{RegisterFault}
use Rattle.register.specs.declared.fault.RegisterFault.TheVariants.{UnknownAccount, UnknownAsset, SameAccount, ZeroAmount, Short, OverIssue}

-- The most units that may be issued of one asset, 10^18.
abbrev pub most : ℕ
most = 1000000000000000000

-- Fixed counts of accounts and assets, both numbered from 0, a balance for each account and asset, and an issue for each asset.
pub record Meaning : Type 0 where
  pub accounts : ℕ
  pub assets : ℕ
  pub balance : ℕ → ℕ → ℕ
  pub issue : ℕ → ℕ

-- f 0 + .. + f (n - 1)
abbrev pub sum_to : (ℕ → ℕ) → ℕ → ℕ
sum_to f zero = 0
sum_to f (suc n) = sum_to f n + f n

-- What holds of every register: an unknown account or asset has balance 0 and issue 0,
-- and an issue is at least the sum of its balances and at most the most.
pub record Lawful (m : Meaning) : Type 0 where
  pub no_account : (account asset : ℕ) → m.accounts ≤ account → m.balance account asset ≡ 0
  pub no_asset : (account asset : ℕ) → m.assets ≤ asset → m.balance account asset ≡ 0
  pub no_issue : (asset : ℕ) → m.assets ≤ asset → m.issue asset ≡ 0
  pub covered : (asset : ℕ) → sum_to (λ account. m.balance account asset) m.accounts ≤ m.issue asset
  pub bounded : (asset : ℕ) → m.issue asset ≤ most

-- ---- refusals

-- The first reason to refuse a credit of account, asset and amount.
abbrev pub credit_refused : Meaning → ℕ → ℕ → ℕ → Option RegisterFault
credit_refused m account asset amount =
    cond (nat_le m.accounts account) (Some UnknownAccount)
    (cond (nat_le m.assets asset) (Some UnknownAsset)
    (cond (amount == 0) (Some ZeroAmount)
    (cond (nat_lt most (m.issue asset + amount)) (Some OverIssue) None)))

-- The first reason to refuse a move of giver, taker, asset and amount.
abbrev pub transfer_refused : Meaning → ℕ → ℕ → ℕ → ℕ → Option RegisterFault
transfer_refused m giver taker asset amount =
    cond (nat_le m.accounts giver || nat_le m.accounts taker) (Some UnknownAccount)
    (cond (nat_le m.assets asset) (Some UnknownAsset)
    (cond (giver == taker) (Some SameAccount)
    (cond (amount == 0) (Some ZeroAmount)
    (cond (nat_lt (m.balance giver asset) amount) (Some Short) None))))

-- A register answers with the first reason to refuse, or accepts.
abbrev pub answer : {F : Type 0} → Option F → Result (Unit {0}) F
answer None = Ok tt
answer (Some fault) = Err fault

abbrev pub Answer : Type 0
Answer = Result (Unit {0}) RegisterFault

abbrev pub credit_answer : Meaning → ℕ → ℕ → ℕ → Answer
credit_answer m account asset amount = answer (credit_refused m account asset amount)

abbrev pub transfer_answer : Meaning → ℕ → ℕ → ℕ → ℕ → Answer
transfer_answer m giver taker asset amount = answer (transfer_refused m giver taker asset amount)

-- ---- what is so afterwards

-- An accepted credit: that balance and that issue rise by the amount, and nothing else changes.
abbrev pub credited : (ℕ → ℕ → ℕ) → ℕ → ℕ → ℕ → ℕ → ℕ → ℕ
credited balance account asset amount a s =
    cond (a == account && s == asset) (balance a s + amount) (balance a s)

abbrev pub raised : (ℕ → ℕ) → ℕ → ℕ → ℕ → ℕ
raised issue asset amount s = cond (s == asset) (issue s + amount) (issue s)

abbrev pub with_credit : Meaning → ℕ → ℕ → ℕ → Meaning
with_credit m account asset amount = record {
  accounts = m.accounts;
  assets = m.assets;
  balance = credited m.balance account asset amount;
  issue = raised m.issue asset amount;
}

-- An accepted move: the giver's balance falls and the taker's rises by the amount, and nothing else changes.
abbrev pub moved : (ℕ → ℕ → ℕ) → ℕ → ℕ → ℕ → ℕ → ℕ → ℕ → ℕ
moved balance giver taker asset amount a s =
    cond (s == asset)
    (cond (a == giver) (balance a s - amount) (cond (a == taker) (balance a s + amount) (balance a s)))
    (balance a s)

abbrev pub with_move : Meaning → ℕ → ℕ → ℕ → ℕ → Meaning
with_move m giver taker asset amount = record {
  accounts = m.accounts;
  assets = m.assets;
  balance = moved m.balance giver taker asset amount;
  issue = m.issue;
}

-- What is new where a call was accepted, what was where it was refused.
abbrev pub unless_refused : {F X : Type 0} → Option F → X → X → X
unless_refused None new old = new
unless_refused (Some _) new old = old

abbrev pub after_credit : Meaning → ℕ → ℕ → ℕ → Meaning
after_credit m account asset amount = unless_refused (credit_refused m account asset amount) (with_credit m account asset amount) m

abbrev pub after_transfer : Meaning → ℕ → ℕ → ℕ → ℕ → Meaning
after_transfer m giver taker asset amount = unless_refused (transfer_refused m giver taker asset amount) (with_move m giver taker asset amount) m
