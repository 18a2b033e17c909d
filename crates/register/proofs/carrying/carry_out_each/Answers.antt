use Rattle.std.proofs.Common.{◌≡◌, ◌&&◌, get_or, take, sym, ap, ◌∙◌}
use Rattle.std.proofs.lemmas.List.{take_all}
use Rattle.register.specs.declared.instruction.Instruction.{Instruction}
use Rattle.register.specs.declared.instruction.Instruction.TheVariants.{Credit}
use Rattle.register.specs.Rules.{Meaning}
use Rattle.register.specs.Registers.{meaning}
use Rattle.register.specs.Instructions.{instruction_answer, after_instruction, after_all, alike, all_alike}
use Rattle.register.proofs.Alike.{equal_alike, all_more, alike_more, one_meaning}
use Rattle.register.proofs.carrying.carry_out_each.Goals as goal

pub loop-instruction-preserved : goal.loop-instruction-preserved
loop-instruction-preserved g c =
    let es = c.args.instructions.now in
    let i = c.loop-instruction.instruction-index in
    let m : Meaning = meaning g.A.Balances c.args.first.now in
    let n : Meaning = meaning g.B.Balances c.args.second.now in
    let h = c.loop-instruction-test.true in
    let o : Instruction = get_or es i (Credit 0 0 0) in
    let inv = c.loop-instruction.invariant in
    let a_is = c.carry_out-a.ensures.answers_by_the_rules ∙ ap (λ k. instruction_answer k o) inv.0 in
    let b_is = c.carry_out-b.ensures.answers_by_the_rules ∙ ap (λ k. instruction_answer k o) inv.1 in
    let same : c.eq-same.result ≡ alike (instruction_answer (after_all m (take i es)) o) (instruction_answer (after_all n (take i es)) o) = c.eq-same.ensures ∙ equal_alike c.carry_out-a.result c.carry_out-b.result ∙ ap (λ k. alike k c.carry_out-b.result) a_is ∙ ap (alike (instruction_answer (after_all m (take i es)) o)) b_is in (
      c.carry_out-a.ensures.meaning_follows_the_rules ∙ ap (λ k. after_instruction k o) inv.0 ∙ sym (all_more m es i (Credit 0 0 0) h),
      c.carry_out-b.ensures.meaning_follows_the_rules ∙ ap (λ k. after_instruction k o) inv.1 ∙ sym (all_more n es i (Credit 0 0 0) h),
      ap (λ b. b && c.eq-same.result) inv.2 ∙ ap (λ t. all_alike m n (take i es) && t) same ∙ sym (alike_more m n es i (Credit 0 0 0) h),
      c.carry_out-a.ensures.memory_is_kept ∙ inv.3,
      c.carry_out-b.ensures.memory_is_kept ∙ inv.4,
    )

pub returns : goal.returns
returns g c =
    let es = c.args.instructions.now in
    let m : Meaning = meaning g.A.Balances c.args.first.now in
    let n : Meaning = meaning g.B.Balances c.args.second.now in
    let all : take c.loop-instruction.instruction-index es ≡ es = take_all _ es c.loop-instruction-test.false in
    let inv = c.loop-instruction.invariant in
    let first : meaning g.A.Balances c.loop-instruction.first ≡ after_all m es = inv.0 ∙ ap (after_all m) all in
    let second : meaning g.B.Balances c.loop-instruction.second ≡ after_all n es = inv.1 ∙ ap (after_all n) all in
    let same : c.loop-instruction.same ≡ all_alike m n es = inv.2 ∙ ap (all_alike m n) all in
    record {
      answers_by_the_rules = same;
      meaning_follows_the_rules = (first, second);
      one_meaning_one_answer = λ e. (same ∙ one_meaning m n es e, first ∙ ap (λ k. after_all k es) e ∙ sym second);
      memory_is_kept = (inv.3, inv.4);
    }
