use Rattle.std.proofs.Common.{◌≡◌, ℕ, ◌*◌, get_or, take, ap, ◌∙◌, sym, subst}
use Rattle.register.specs.declared.instruction.Instruction.{Instruction}
use Rattle.register.specs.declared.instruction.Instruction.TheVariants.{Credit}
use Rattle.register.specs.Rules.{Meaning}
use Rattle.register.specs.Instructions.{instruction_answer, after_instruction}
use Rattle.register.proofs.Alike.{all_more}
use Rattle.day_book.specs.DayTable.{posted_in, LaterPlacesStay}
use Rattle.day_book.proofs.Memory.{size_of, all_size, later_both}
use Rattle.day_book.proofs.Turns.{in_turn}
use Rattle.day_book.proofs.day.posting.post_each.Goals as goal

pub post_entry-requires-clause-accepted : goal.post_entry-requires-clause-accepted
post_entry-requires-clause-accepted c =
    let es = c.args.entries.now in
    let i = c.loop-entry.entry-index in
    let o : Instruction = get_or es i (Credit 0 0 0) in
    ap (λ k. instruction_answer k o) c.loop-entry.invariant.meaning ∙ in_turn (posted_in c.args.cells.now c.args.counts.now) es i (Credit 0 0 0) c.requires.accepted c.loop-entry-test.true

pub loop-entry-preserved : goal.loop-entry-preserved
loop-entry-preserved c =
    let es = c.args.entries.now in
    let i = c.loop-entry.entry-index in
    let x = c.args.counts.now in
    let y = c.loop-entry.counts in
    let m : Meaning = posted_in c.args.cells.now x in
    let inv = c.loop-entry.invariant in
    let o : Instruction = get_or es i (Credit 0 0 0) in
    let size : y.accounts * y.assets ≡ x.accounts * x.assets = ap size_of inv.meaning ∙ all_size m (take i es) in
    let to = c.post_entry.ensures in
    record {
      meaning = to.meaning ∙ ap (λ k. after_instruction k o) inv.meaning ∙ sym (all_more m es i (Credit 0 0 0) c.loop-entry-test.true);
      size = to.size;
      covered = to.covered;
      later = later_both _ _ _ _ inv.later (subst (λ (n : ℕ). LaterPlacesStay n c.loop-entry.cells c.post_entry.new.cells) size to.later);
    }
