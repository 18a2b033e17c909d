-- Entries: accepted instructions that wait, what each does to a balance and to an issue, and which wait.
use Rattle.std.specs.Prelude.{ℕ, Bool, true, false, cond, ◌&&◌, List, [], ◌∷◌, ◌++◌, length, Option, ◌==◌, is_ok}
use Rattle.register.specs.declared.fault.RegisterFault.{RegisterFault}
use Rattle.register.specs.declared.instruction.Instruction.{Instruction}
use Rattle.register.specs.declared.instruction.Instruction.TheVariants.{Credit, Move}
use Rattle.register.specs.Rules.{Meaning, credited, moved, unless_refused}
use Rattle.register.specs.Instructions.{instruction_answer, after_instruction}

-- The entries of a credit and of a move.
abbrev pub a_credit : ℕ → ℕ → ℕ → Instruction
a_credit account asset amount = Credit account asset amount

abbrev pub a_move : ℕ → ℕ → ℕ → ℕ → Instruction
a_move giver taker asset amount = Move giver taker asset amount

-- ---- what an entry does

-- The balance of an account and asset after an entry, where it was `held`: what the rules say of a credit or a move.
abbrev pub apply : Instruction → ℕ → ℕ → ℕ → ℕ
apply (Credit to of amount) account asset held = credited (λ a s. held) to of amount account asset
apply (Move giver taker of amount) account asset held = moved (λ a s. held) giver taker of amount account asset

-- The asset of an entry.
abbrev pub asset_of : Instruction → ℕ
asset_of (Credit to of amount) = of
asset_of (Move giver taker of amount) = of

-- What an entry adds to the issue of an asset.
abbrev pub added : Instruction → ℕ → ℕ
added (Credit to of amount) asset = cond (asset == of) amount 0
added (Move giver taker of amount) asset = 0

-- The balance after all entries, the oldest first.
abbrev pub apply_all : List Instruction → ℕ → ℕ → ℕ → ℕ
apply_all [] account asset held = held
apply_all (e ∷ es) account asset held = apply_all es account asset (apply e account asset held)

-- A register of this meaning accepts each entry in its turn.
abbrev pub each_accepted : Meaning → List Instruction → Bool
each_accepted m [] = true
each_accepted m (e ∷ es) = is_ok (instruction_answer m e) && each_accepted (after_instruction m e) es

-- ---- what waits

-- The most entries that wait.
abbrev pub most_entries : ℕ
most_entries = 64

-- As many wait as can.
abbrev pub full : List Instruction → Bool
full es = length es == most_entries

-- One entry more; where as many wait as can, those are posted and it waits alone.
abbrev pub with_entry : List Instruction → Instruction → List Instruction
with_entry es e = cond (full es) (e ∷ []) (es ++ e ∷ [])

-- What waits after a call, and whether it posted.
abbrev pub entries_after : Option RegisterFault → List Instruction → Instruction → List Instruction
entries_after refused es e = unless_refused refused (with_entry es e) es

abbrev pub posts : Option RegisterFault → List Instruction → Bool
posts refused es = unless_refused refused (full es) false
