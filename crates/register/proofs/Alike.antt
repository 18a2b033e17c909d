-- Lists of instructions, one more, and two registers of one meaning. Assumes nothing.
use Rattle.std.proofs.Common.{◌≡◌, ℕ, ◌+◌, ◌<◌, true, ◌&&◌, List, [], ◌∷◌, ◌++◌, length, get_or, take, Ok, Err, sym, refl, ap, ◌∙◌, arith}
use Rattle.std.proofs.lemmas.List.{take_more}
use Rattle.std.proofs.lemmas.Bool.{eq-eqb, and_from}
use Rattle.std.proofs.Math.Bool.{and_assoc, and-true}
use Rattle.register.specs.declared.instruction.Instruction.{Instruction}
use Rattle.register.specs.Faults.{number}
use Rattle.std.specs.Result.{result_eq}
use Rattle.std.specs.contracts.prelude.UnitPartialEq.TheImpl.{eq-value as unit_eq}
use Rattle.register.specs.contracts.fault.RegisterFaultPartialEq.TheImpl.{eq-value as fault_eq}
use Rattle.register.specs.Rules.{Meaning, Answer}
use Rattle.register.specs.Instructions.{instruction_answer, after_instruction, after_all, alike, all_alike}

pub all_push : (m : Meaning) (os : List Instruction) (o : Instruction) → after_all m (os ++ o ∷ []) ≡ after_instruction (after_all m os) o
all_push m [] o = refl
all_push m (x ∷ os) o = all_push (after_instruction m x) os o

alike_push : (m n : Meaning) (os : List Instruction) (o : Instruction) → all_alike m n (os ++ o ∷ []) ≡ (all_alike m n os && alike (instruction_answer (after_all m os) o) (instruction_answer (after_all n os) o))
alike_push m n [] o = and-true _
alike_push m n (x ∷ os) o = ap (λ t. alike (instruction_answer m x) (instruction_answer n x) && t) (alike_push (after_instruction m x) (after_instruction n x) os o) ∙ sym (and_assoc (alike (instruction_answer m x) (instruction_answer n x)) _ _)

pub all_more : (m : Meaning) (es : List Instruction) (i : ℕ) (d : Instruction) → i < length es → after_all m (take (i + 1) es) ≡ after_instruction (after_all m (take i es)) (get_or es i d)
all_more m es i d h = ap (after_all m) (take_more es i d h) ∙ all_push m (take i es) (get_or es i d)

pub alike_more : (m n : Meaning) (es : List Instruction) (i : ℕ) (d : Instruction) → i < length es → all_alike m n (take (i + 1) es) ≡ (all_alike m n (take i es) && alike (instruction_answer (after_all m (take i es)) (get_or es i d)) (instruction_answer (after_all n (take i es)) (get_or es i d)))
alike_more m n es i d h = ap (all_alike m n) (take_more es i d h) ∙ alike_push m n (take i es) (get_or es i d)

alike_self : (r : Answer) → alike r r ≡ true
alike_self (Ok _) = refl
alike_self (Err e) = eq-eqb (number e) (number e) refl

all_alike_self : (m : Meaning) (os : List Instruction) → all_alike m m os ≡ true
all_alike_self m [] = refl
all_alike_self m (o ∷ os) = and_from _ _ (alike_self (instruction_answer m o)) (all_alike_self (after_instruction m o) os)

-- two registers of one meaning answer alike to every list of calls
pub one_meaning : (m n : Meaning) (os : List Instruction) → m ≡ n → all_alike m n os ≡ true
one_meaning m n os e = ap (λ k. all_alike m k os) (sym e) ∙ all_alike_self m os

-- answers are alike where they are equal
pub equal_alike : (a b : Answer) → result_eq unit_eq.it fault_eq.it a b ≡ alike a b
equal_alike a b = grind arith
