-- Registers stay lawful and keep their counts, whatever is carried out in them. Assumes nothing.
use Rattle.std.proofs.Common.{◌≡◌, ℕ, List, [], ◌∷◌, Some, None, Option, refl, ◌∙◌, arith}
use Rattle.std.proofs.lemmas.Bool.Decides.{nat_tests}
use Rattle.register.specs.declared.instruction.Instruction.{Instruction}
use Rattle.register.specs.declared.instruction.Instruction.TheVariants.{Credit, Move}
use Rattle.register.specs.Rules.{Meaning, Lawful, unless_refused, credit_refused, transfer_refused, with_credit, with_move}
use Rattle.register.specs.Instructions.{after_instruction, after_all}
use Rattle.register.proofs.Sums.{sum_credited, sum_moved}
use Rattle.register.proofs.Meanings.{credit_told, move_told}

credit_lawful : (m : Meaning) (account asset amount : ℕ) → Lawful m → credit_refused m account asset amount ≡ None → Lawful (with_credit m account asset amount)
credit_lawful m account asset amount ok accepted =
    let told = credit_told m account asset amount accepted in
    record {
      no_account = λ a s h. let was = ok.no_account a s h in let known = told.account_known in grind (arith, nat_tests, was, known);
      no_asset = λ a s h. let was = ok.no_asset a s h in let known = told.asset_known in grind (arith, nat_tests, was, known);
      no_issue = λ s h. let was = ok.no_issue s h in let known = told.asset_known in grind (arith, nat_tests, was, known);
      covered = λ s.
          let was = ok.covered s in
          let sums = sum_credited m.balance m.accounts account asset amount s told.account_known in
          grind (arith, nat_tests, was, sums);
      bounded = λ s.
          let was = ok.bounded s in
          let fits = told.fits in
          grind (arith, nat_tests, was, fits);
    }

move_lawful : (m : Meaning) (giver taker asset amount : ℕ) → Lawful m → transfer_refused m giver taker asset amount ≡ None → Lawful (with_move m giver taker asset amount)
move_lawful m giver taker asset amount ok accepted =
    let told = move_told m giver taker asset amount accepted in
    record {
      no_account = λ a s h. let was = ok.no_account a s h in let gives = told.giver_known in let takes = told.taker_known in grind (arith, nat_tests, was, gives, takes);
      no_asset = λ a s h. let was = ok.no_asset a s h in let known = told.asset_known in grind (arith, nat_tests, was, known);
      no_issue = ok.no_issue;
      covered = λ s.
          let was = ok.covered s in
          let sums = sum_moved m.balance m.accounts giver taker asset amount s told.giver_known told.taker_known told.apart told.enough in
          omega (arith, was, sums);
      bounded = ok.bounded;
    }

lawful_unless : {F : Type 0} (refused : Option F) (new old : Meaning) → (refused ≡ None → Lawful new) → Lawful old → Lawful (unless_refused refused new old)
lawful_unless None new old accepted ok = accepted refl
lawful_unless (Some _) new old accepted ok = ok

instruction_lawful : (m : Meaning) (o : Instruction) → Lawful m → Lawful (after_instruction m o)
instruction_lawful m (Credit account asset amount) ok = lawful_unless (credit_refused m account asset amount) _ m (credit_lawful m account asset amount ok) ok
instruction_lawful m (Move giver taker asset amount) ok = lawful_unless (transfer_refused m giver taker asset amount) _ m (move_lawful m giver taker asset amount ok) ok

pub all_lawful : (m : Meaning) (os : List Instruction) → Lawful m → Lawful (after_all m os)
all_lawful m [] ok = ok
all_lawful m (o ∷ os) ok = all_lawful (after_instruction m o) os (instruction_lawful m o ok)

counts_unless : {F : Type 0} (refused : Option F) (new old : Meaning) → (new.accounts ≡ old.accounts) × (new.assets ≡ old.assets) → ((unless_refused refused new old).accounts ≡ old.accounts) × ((unless_refused refused new old).assets ≡ old.assets)
counts_unless None new old same = same
counts_unless (Some _) new old same = (refl, refl)

instruction_counts : (m : Meaning) (o : Instruction) → ((after_instruction m o).accounts ≡ m.accounts) × ((after_instruction m o).assets ≡ m.assets)
instruction_counts m (Credit account asset amount) = counts_unless (credit_refused m account asset amount) (with_credit m account asset amount) m (refl, refl)
instruction_counts m (Move giver taker asset amount) = counts_unless (transfer_refused m giver taker asset amount) (with_move m giver taker asset amount) m (refl, refl)

pub all_accounts : (m : Meaning) (os : List Instruction) → (after_all m os).accounts ≡ m.accounts
all_accounts m [] = refl
all_accounts m (o ∷ os) = all_accounts (after_instruction m o) os ∙ (instruction_counts m o).0

pub all_assets : (m : Meaning) (os : List Instruction) → (after_all m os).assets ≡ m.assets
all_assets m [] = refl
all_assets m (o ∷ os) = all_assets (after_instruction m o) os ∙ (instruction_counts m o).1
