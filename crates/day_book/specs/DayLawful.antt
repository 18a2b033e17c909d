-- Every day book is a lawful register, and what it means is what its memory, counts, entries and issues mean together.
use Rattle.std.proofs.Common.{◌≡◌, ℕ, ◌<◌, ◌≤◌, Bool, true, ◌&&◌, ltb, List, [], ◌∷◌, get_or, Ok, Err, sym, refl, ap, ◌∙◌, subst, ⊎_elim}
use Rattle.std.specs.Prelude.{is_ok}
use Rattle.std.proofs.lemmas.Bool.{false≢true, and_parts, and_from, and_left, and_right, lt-ltb, le-ltb, cond-true, cond-false, cases_lt}
use Rattle.register.specs.declared.instruction.Instruction.{Instruction}
use Rattle.register.specs.declared.instruction.Instruction.TheVariants.{Credit, Move}
use Rattle.register.specs.Rules.{Meaning, Lawful, Answer, unless_refused, credit_refused, transfer_refused, with_credit, with_move}
use Rattle.register.specs.Instructions.{instruction_answer, after_instruction, after_all}
use Rattle.register.proofs.Lawfuls.{all_accounts, all_assets, all_lawful}
use Rattle.register.proofs.Meanings.{same_meaning, accepted_none}
use Rattle.table_register.specs.Table.{cell, issued}
use Rattle.table_register.proofs.Tables.{issued_in}
use Rattle.day_book.specs.declared.day.DayBook.{DayBook}
use Rattle.day_book.specs.Entering.{apply, apply_all, each_accepted}
use Rattle.day_book.specs.DayTable.{waits, day_cell, day_meaning, day_lawful}
use Rattle.day_book.specs.DayMeaning.{posted_means, means, posted_lawful}

-- An answer without a refusal accepts.
pub accepts : (r : Answer) → is_ok r ≡ true → r ≡ Ok tt
accepts (Ok _) e = refl
accepts (Err _) e = absurd (false≢true e)

-- An accepted entry that is carried out is applied,
pub step_balance : (m : Meaning) (e : Instruction) → instruction_answer m e ≡ Ok tt → (a s : ℕ) → (after_instruction m e).balance a s ≡ apply e a s (m.balance a s)
step_balance m (Credit to of amount) ok a s = ap (λ r. (unless_refused r (with_credit m to of amount) m).balance a s) (accepted_none (credit_refused m to of amount) (sym ok))
step_balance m (Move giver taker of amount) ok a s = ap (λ r. (unless_refused r (with_move m giver taker of amount) m).balance a s) (accepted_none (transfer_refused m giver taker of amount) (sym ok))

-- and so are all of them.
all_balance : (m : Meaning) (es : List Instruction) → each_accepted m es ≡ true → (a s : ℕ) → (after_all m es).balance a s ≡ apply_all es a s (m.balance a s)
all_balance m [] fit a s = refl
all_balance m (e ∷ es) fit a s =
    let parts = and_parts (is_ok (instruction_answer m e)) (each_accepted (after_instruction m e) es) fit in
    all_balance (after_instruction m e) es parts.1 a s ∙ ap (apply_all es a s) (step_balance m e (accepts (instruction_answer m e) parts.0) a s)

-- The register of the posted balances is lawful, and stays so whatever is carried out in it.
pub carried_lawful : (x : DayBook) → Lawful (means x)
carried_lawful x = all_lawful (posted_means x) (waits x.entries) (posted_lawful x)

-- An account or asset that a day book has not has balance 0, and such an asset issue 0.
pub no_account_told : (x : DayBook) (a s : ℕ) → x.counts.accounts ≤ a → (means x).balance a s ≡ 0
no_account_told x a s h = (carried_lawful x).no_account a s (subst (λ (n : ℕ). n ≤ a) (sym (all_accounts (posted_means x) (waits x.entries))) h)

pub no_asset_told : (x : DayBook) (a s : ℕ) → x.counts.assets ≤ s → (means x).balance a s ≡ 0
no_asset_told x a s h = (carried_lawful x).no_asset a s (subst (λ (n : ℕ). n ≤ s) (sym (all_assets (posted_means x) (waits x.entries))) h)

pub no_issue_told : (x : DayBook) (s : ℕ) → x.counts.assets ≤ s → (means x).issue s ≡ 0
no_issue_told x s h = (carried_lawful x).no_issue s (subst (λ (n : ℕ). n ≤ s) (sym (all_assets (posted_means x) (waits x.entries))) h)

-- Each balance is the posted one with the entries applied,
day_balance : (x : DayBook) (a s : ℕ) → (means x).balance a s ≡ day_cell x.cells.now x.counts.accounts x.counts.assets (waits x.entries) a s
day_balance x a s =
    let applied : ℕ = apply_all (waits x.entries) a s (cell x.cells.now x.counts.accounts x.counts.assets a s) in
    let known : Bool = ltb a x.counts.accounts && ltb s x.counts.assets in
    ⊎_elim
    (λ (ha : a < x.counts.accounts). ⊎_elim
    (λ (hs : s < x.counts.assets). all_balance (posted_means x) (waits x.entries) x.accepted a s ∙ sym (cond-true known applied 0 (and_from _ _ (lt-ltb a x.counts.accounts ha) (lt-ltb s x.counts.assets hs))))
    (λ (hs : x.counts.assets ≤ s). no_asset_told x a s hs ∙ sym (cond-false known applied 0 (and_right _ _ (le-ltb s x.counts.assets hs))))
    (cases_lt s x.counts.assets))
    (λ (ha : x.counts.accounts ≤ a). no_account_told x a s ha ∙ sym (cond-false known applied 0 (and_left _ _ (le-ltb a x.counts.accounts ha))))
    (cases_lt a x.counts.accounts)

-- and each issue is the one that is kept.
day_issue : (x : DayBook) (s : ℕ) → (means x).issue s ≡ issued x.issues x.counts.assets s
day_issue x s =
    ⊎_elim
    (λ (hs : s < x.counts.assets). sym (x.told s hs) ∙ sym (issued_in x.issues x.counts.assets s hs))
    (λ (hs : x.counts.assets ≤ s). no_issue_told x s hs ∙ sym (cond-false (ltb s x.counts.assets) (get_or x.issues s 0) 0 (le-ltb s x.counts.assets hs)))
    (cases_lt s x.counts.assets)

-- So a day book means what its memory, counts, entries and issues mean together.
pub day_book_means : (x : DayBook) → means x ≡ day_meaning x.cells.now x.counts.accounts x.counts.assets (waits x.entries) x.issues
day_book_means x = same_meaning _ _ (all_accounts (posted_means x) (waits x.entries)) (all_assets (posted_means x) (waits x.entries)) (day_balance x) (day_issue x)

-- They are covered and bounded, as `day_lawful` asks; so every day book is a lawful register.
pub day_book_lawful : (x : DayBook) → Lawful (means x)
day_book_lawful x =
    let told : Lawful (day_meaning x.cells.now x.counts.accounts x.counts.assets (waits x.entries) x.issues) = subst Lawful (day_book_means x) (carried_lawful x) in
    subst Lawful (sym (day_book_means x)) (day_lawful x.cells.now x.counts.accounts x.counts.assets (waits x.entries) x.issues told.covered told.bounded)
