-- A register as a table of posted balances, with entries that wait.
use Rattle.std.specs.Prelude.{◌≡◌, ℕ, ◌*◌, ◌≤◌, Bool, true, false, cond, ◌&&◌, List, length, nat_lt, slice_index}
use Rattle.std.proofs.lemmas.Bool.{le-ltb, and_left, and_right, cond-false}
use Rattle.arrayvec.specs.ArrayVec.{ArrayVec}
use Rattle.register.specs.declared.instruction.Instruction.{Instruction}
use Rattle.register.specs.Rules.{sum_to, Lawful, Meaning}
use Rattle.table_register.specs.declared.counts.Counts.{Counts}
use Rattle.table_register.specs.Table.{cell, issued, Bounded, table_meaning}
use Rattle.day_book.specs.Entering.{apply_all}

-- What waits, the oldest first.
abbrev pub waits : ArrayVec Instruction → List Instruction
waits entries = entries.items

-- The balance of an account and asset: the posted one with the entries applied, 0 where either is unknown.
abbrev pub day_cell : List ℕ → ℕ → ℕ → List Instruction → ℕ → ℕ → ℕ
day_cell cells accounts assets es a s = cond (nat_lt a accounts && nat_lt s assets) (apply_all es a s (cell cells accounts assets a s)) 0

-- What posted balances, entries and issues mean together.
abbrev pub day_meaning : List ℕ → ℕ → ℕ → List Instruction → List ℕ → Meaning
day_meaning cells accounts assets es issues = record { accounts = accounts; assets = assets; balance = day_cell cells accounts assets es; issue = issued issues assets }

-- Each issue is at least the sum of its balances.
abbrev pub DayCovered : List ℕ → ℕ → ℕ → List Instruction → List ℕ → Type 0
DayCovered cells accounts assets es issues = (s : ℕ) → sum_to (λ a. day_cell cells accounts assets es a s) accounts ≤ issued issues assets s

-- So posted balances, entries and issues whose sums are covered and bounded are a lawful register.
pub day_lawful : (cells : List ℕ) (accounts assets : ℕ) (es : List Instruction) (issues : List ℕ) → DayCovered cells accounts assets es issues → Bounded assets issues → Lawful (day_meaning cells accounts assets es issues)
day_lawful cells accounts assets es issues covered bounded = record {
  no_account = λ a s h. cond-false (nat_lt a accounts && nat_lt s assets) (apply_all es a s (cell cells accounts assets a s)) 0 (and_left _ _ (le-ltb a accounts h));
  no_asset = λ a s h. cond-false (nat_lt a accounts && nat_lt s assets) (apply_all es a s (cell cells accounts assets a s)) 0 (and_right _ _ (le-ltb s assets h));
  no_issue = λ s h. cond-false (nat_lt s assets) (slice_index issues s) 0 (le-ltb s assets h);
  covered = covered;
  bounded = bounded;
}

-- What memory means as a table of these counts.
abbrev pub posted_in : List ℕ → Counts → Meaning
posted_in cells counts = table_meaning cells counts.accounts counts.assets counts.issues

-- Memory of the same size whose places from one on are as they were.
pub record LaterPlacesStay (first : ℕ) (cells cells' : List ℕ) : Type 0 where
  pub same_size : length cells' ≡ length cells
  pub stay : (place : ℕ) → first ≤ place → slice_index cells' place ≡ slice_index cells place

-- Memory after posting: as a table it tells the balances of the day book, and its later places stay.
pub record Posted (day : Meaning) (cells cells' : List ℕ) : Type 0 where
  pub tells : (account asset : ℕ) → cell cells' day.accounts day.assets account asset ≡ day.balance account asset
  pub later : LaterPlacesStay (day.accounts * day.assets) cells cells'

-- Memory after a call that posted or did not.
abbrev pub MemoryAfter : Bool → Meaning → List ℕ → List ℕ → Type 0
MemoryAfter true day cells cells' = Posted day cells cells'
MemoryAfter false day cells cells' = cells' ≡ cells
