use Rattle.std.proofs.Common.{◌≡◌, ℕ, get_or, pos, rules, arith}
use Rattle.std.proofs.lemmas.Grind.{common_steps}
use mir.Syntax.{w32, w64}
use mir.Val.{to_z, of_z}
use Rattle.book.proofs.RecordValues.{holder_row}
use Rattle.book.proofs.record.HolderRecord.of_numbers.Goals as goal

pub overflow_cast-result-3 : goal.overflow_cast-result-3
overflow_cast-result-3 c = let row = holder_row c.args.values.now c.requires in let is = row.clearing.is in let most = row.clearing.most in grind (arith, common_steps)

pub overflow_cast-result-4 : goal.overflow_cast-result-4
overflow_cast-result-4 c = let row = holder_row c.args.values.now c.requires in let is = row.agent.is in let most = row.agent.most in grind (arith, common_steps)

pub overflow_cast-result-5 : goal.overflow_cast-result-5
overflow_cast-result-5 c = let row = holder_row c.args.values.now c.requires in let most = row.position.1 in grind (arith, common_steps)

pub returns : goal.returns
returns c =
    let row = holder_row c.args.values.now c.requires in
    let most = row.position.1 in
    let z = λ (k : ℕ). get_or c.args.values.now k (pos 0) in
    let a : to_z w64 (of_z w64 (z 0)) ≡ z 0 = search rules in
    let b : to_z w64 (of_z w64 (z 1)) ≡ z 1 = search rules in
    let d : to_z w64 (of_z w64 (z 2)) ≡ z 2 = search rules in
    let e : to_z w64 (of_z w64 (z 3)) ≡ z 3 = search rules in
    let f : to_z w64 (of_z w64 (z 4)) ≡ z 4 = search rules in
    let g : to_z w32 (of_z w32 (z 4)) ≡ z 4 = grind (arith, common_steps) in
    record { field_by_field = cc }
