use Rattle.std.proofs.Common.{get_or, sym, ap, ◌∙◌}
use Rattle.register.specs.declared.instruction.Instruction.{Instruction}
use Rattle.register.specs.declared.instruction.Instruction.TheVariants.{Credit}
use Rattle.register.specs.Rules.{Meaning}
use Rattle.register.specs.Registers.{meaning}
use Rattle.register.specs.Instructions.{after_instruction}
use Rattle.register.proofs.Alike.{all_more}
use Rattle.registers.proofs.lending.carry_out_all.Goals as goal

pub loop-instruction-preserved : goal.loop-instruction-preserved
loop-instruction-preserved g c =
    let es = c.args.instructions.now in
    let i = c.loop-instruction.instruction-index in
    let m : Meaning = meaning g.R.Balances c.args.register.now in
    let o : Instruction = get_or es i (Credit 0 0 0) in (
      c.carry_out.ensures.meaning_follows_the_rules ∙ ap (λ k. after_instruction k o) c.loop-instruction.invariant.0 ∙ sym (all_more m es i (Credit 0 0 0) c.loop-instruction-test.true),
      c.carry_out.ensures.memory_is_kept ∙ c.loop-instruction.invariant.1,
    )
