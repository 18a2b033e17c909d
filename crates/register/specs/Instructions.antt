-- Instructions carried out one after another.
use Rattle.std.specs.Prelude.{Bool, true, false, ◌&&◌, List, [], ◌∷◌, Ok, Err, ◌==◌}
use Rattle.register.specs.declared.instruction.Instruction.{Instruction}
use Rattle.register.specs.declared.instruction.Instruction.TheVariants.{Credit, Move}
use Rattle.register.specs.Faults.{number}
use Rattle.register.specs.Rules.{Meaning, Answer, credit_answer, transfer_answer, after_credit, after_transfer}

abbrev pub instruction_answer : Meaning → Instruction → Answer
instruction_answer m (Credit account asset amount) = credit_answer m account asset amount
instruction_answer m (Move giver taker asset amount) = transfer_answer m giver taker asset amount

abbrev pub after_instruction : Meaning → Instruction → Meaning
after_instruction m (Credit account asset amount) = after_credit m account asset amount
after_instruction m (Move giver taker asset amount) = after_transfer m giver taker asset amount

abbrev pub after_all : Meaning → List Instruction → Meaning
after_all m [] = m
after_all m (x ∷ xs) = after_all (after_instruction m x) xs

-- Two answers are alike: both accept, or both refuse under one number.
abbrev pub alike : Answer → Answer → Bool
alike (Ok _) (Ok _) = true
alike (Ok _) (Err _) = false
alike (Err _) (Ok _) = false
alike (Err e) (Err f) = number e == number f

-- Two registers answer alike to each instruction of a list.
abbrev pub all_alike : Meaning → Meaning → List Instruction → Bool
all_alike m n [] = true
all_alike m n (x ∷ xs) = alike (instruction_answer m x) (instruction_answer n x) && all_alike (after_instruction m x) (after_instruction n x) xs
