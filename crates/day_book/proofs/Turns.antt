-- Entries, each accepted in its turn. Assumes nothing.
use Rattle.std.proofs.Common.{◌≡◌, ℕ, zero, suc, ◌+◌, ◌<◌, ◌≤◌, true, List, [], ◌∷◌, ◌++◌, length, get_or, take, Ok, sym, refl, ap, ◌∙◌, ⊎_elim, arith}
use Rattle.std.specs.Prelude.{is_ok}
use Rattle.std.proofs.lemmas.Bool.{and_parts, and_from, cases_lt}
use Rattle.std.proofs.lemmas.Bool.Decides.{nat_tests}
use Rattle.register.specs.declared.instruction.Instruction.{Instruction}
use Rattle.register.specs.declared.instruction.Instruction.TheVariants.{Credit, Move}
use Rattle.register.specs.Rules.{most, Meaning, Lawful, unless_refused, credit_refused, transfer_refused, with_credit, with_move}
use Rattle.register.specs.Instructions.{instruction_answer, after_instruction, after_all}
use Rattle.register.proofs.Meanings.{accepted_none, credit_told, move_told}
use Rattle.register.proofs.Sums.{at_most_sum}
use Rattle.register.proofs.Alike.{all_more, all_push}
use Rattle.register.proofs.Lawfuls.{all_lawful, all_assets}
use Rattle.day_book.specs.declared.day.DayBook.{DayBook}
use Rattle.day_book.specs.DayTable.{waits}
use Rattle.day_book.specs.DayLawful.{accepts, step_balance, carried_lawful}
use Rattle.day_book.specs.DayMeaning.{posted_means, means, posted_lawful}
use Rattle.day_book.specs.Entering.{apply, added, asset_of, each_accepted}

-- what an accepted entry does to an issue
pub step_issue : (m : Meaning) (e : Instruction) → instruction_answer m e ≡ Ok tt → (s : ℕ) → (after_instruction m e).issue s ≡ m.issue s + added e s
step_issue m (Credit to of amount) ok s =
    let raised : (with_credit m to of amount).issue s ≡ m.issue s + added (Credit to of amount) s = grind (arith, nat_tests) in
    ap (λ r. (unless_refused r (with_credit m to of amount) m).issue s) (accepted_none (credit_refused m to of amount) (sym ok)) ∙ raised
step_issue m (Move giver taker of amount) ok s =
    let same : m.issue s ≡ m.issue s + 0 = omega arith in
    ap (λ r. (unless_refused r (with_move m giver taker of amount) m).issue s) (accepted_none (transfer_refused m giver taker of amount) (sym ok)) ∙ same

-- what one accepted after the others adds to an issue
pub pushed_issue : (m : Meaning) (es : List Instruction) (e : Instruction) → instruction_answer (after_all m es) e ≡ Ok tt → (s : ℕ) → (after_all m (es ++ e ∷ [])).issue s ≡ (after_all m es).issue s + added e s
pushed_issue m es e ok s = ap (λ (k : Meaning). k.issue s) (all_push m es e) ∙ step_issue (after_all m es) e ok s

-- the asset of an accepted entry is known, and its issue stays within the most
pub accepted_asset : (m : Meaning) (e : Instruction) → instruction_answer m e ≡ Ok tt → asset_of e < m.assets
accepted_asset m (Credit to of amount) ok = (credit_told m to of amount (accepted_none _ (sym ok))).asset_known
accepted_asset m (Move giver taker of amount) ok = (move_told m giver taker of amount (accepted_none _ (sym ok))).asset_known

pub accepted_fits : (m : Meaning) (e : Instruction) → Lawful m → instruction_answer m e ≡ Ok tt → m.issue (asset_of e) + added e (asset_of e) ≤ most
accepted_fits m (Credit to of amount) ok accepted =
    let told = (credit_told m to of amount (accepted_none _ (sym accepted))).fits in
    grind (arith, nat_tests, told)
accepted_fits m (Move giver taker of amount) ok accepted = let le = ok.bounded of in omega (arith, le)

-- the entry at a place is accepted after those before it
pub in_turn : (m : Meaning) (es : List Instruction) (i : ℕ) (d : Instruction) → each_accepted m es ≡ true → i < length es → instruction_answer (after_all m (take i es)) (get_or es i d) ≡ Ok tt
in_turn m [] i d fit h = absurd (omega arith)
in_turn m (e ∷ es) zero d fit h = accepts (instruction_answer m e) (and_parts (is_ok (instruction_answer m e)) (each_accepted (after_instruction m e) es) fit).0
in_turn m (e ∷ es) (suc i) d fit h = in_turn (after_instruction m e) es i d (and_parts (is_ok (instruction_answer m e)) (each_accepted (after_instruction m e) es) fit).1 (omega arith)

-- one entry more
pub accepted_push : (m : Meaning) (es : List Instruction) (e : Instruction) → each_accepted m es ≡ true → instruction_answer (after_all m es) e ≡ Ok tt → each_accepted m (es ++ e ∷ []) ≡ true
accepted_push m [] e fit ok = and_from _ _ (ap is_ok ok) refl
accepted_push m (x ∷ es) e fit ok =
    let parts = and_parts (is_ok (instruction_answer m x)) (each_accepted (after_instruction m x) es) fit in
    and_from _ _ parts.0 (accepted_push (after_instruction m x) es e parts.1 ok)

-- a register of no account accepts nothing
accepts_some : (m : Meaning) (e : Instruction) → instruction_answer m e ≡ Ok tt → 0 < m.accounts
accepts_some m (Credit to of amount) ok = let told = (credit_told m to of amount (accepted_none _ (sym ok))).account_known in omega (arith, told)
accepts_some m (Move giver taker of amount) ok = let told = (move_told m giver taker of amount (accepted_none _ (sym ok))).giver_known in omega (arith, told)

pub none_accepted : (m : Meaning) (es : List Instruction) → m.accounts ≡ 0 → each_accepted m es ≡ true → es ≡ []
none_accepted m [] none fit = refl
none_accepted m (e ∷ es) none fit =
    let ok = accepts (instruction_answer m e) (and_parts (is_ok (instruction_answer m e)) (each_accepted (after_instruction m e) es) fit).0 in
    let some = accepts_some m e ok in
    absurd (omega (arith, none, some))

-- balances of a lawful register are at most the most
balance_le : (m : Meaning) → Lawful m → (a s : ℕ) → m.balance a s ≤ most
balance_le m ok a s =
    ⊎_elim
    (λ (h : a < m.accounts). let one = at_most_sum (λ k. m.balance k s) m.accounts a h in omega (arith, one, ok.covered s, ok.bounded s))
    (λ (h : m.accounts ≤ a). let none = ok.no_account a s h in omega (arith, none))
    (cases_lt a m.accounts)

-- an entry that a day book accepts: its asset is below the most, and so is the issue that it leaves
module _ (x : DayBook) (e : Instruction) (ok : instruction_answer (means x) e ≡ Ok tt) where
  pub asset_below : asset_of e < x.counts.assets
  asset_below = let known = accepted_asset (means x) e ok in let same = all_assets (posted_means x) (waits x.entries) in omega (arith, known, same)

  pub raised_fits : get_or x.issues (asset_of e) 0 + added e (asset_of e) ≤ most
  raised_fits =
      let fits = accepted_fits (means x) e (carried_lawful x) ok in
      let told = x.told (asset_of e) asset_below in
      omega (arith, fits, told)

-- the step from the entries of a day book before a place to those up to it
module _ (x : DayBook) (es : List Instruction) (all : es ≡ waits x.entries) (i : ℕ) (h : i < length es) where
  abbrev m : Meaning
  m = posted_means x

  abbrev e : Instruction
  e = get_or es i (Credit 0 0 0)

  accepted_then : instruction_answer (after_all m (take i es)) e ≡ Ok tt
  accepted_then = in_turn m es i (Credit 0 0 0) (ap (each_accepted m) all ∙ x.accepted) h

  lawful_then : Lawful (after_all m (take (i + 1) es))
  lawful_then = all_lawful m (take (i + 1) es) (posted_lawful x)

  pub next_balance : (a s : ℕ) → (after_all (posted_means x) (take (i + 1) es)).balance a s ≡ apply (get_or es i (Credit 0 0 0)) a s ((after_all (posted_means x) (take i es)).balance a s)
  next_balance a s = ap (λ (k : Meaning). k.balance a s) (all_more m es i (Credit 0 0 0) h) ∙ step_balance (after_all m (take i es)) e accepted_then a s

  pub next_balance_le : (a s v : ℕ) → v ≡ (after_all (posted_means x) (take i es)).balance a s → apply (get_or es i (Credit 0 0 0)) a s v ≤ most
  next_balance_le a s v is =
      let le = balance_le (after_all m (take (i + 1) es)) lawful_then a s in
      let here = ap (apply e a s) is in
      omega (arith, le, next_balance a s, here)
