use Rattle.std.proofs.Common.{get_or, ap, ◌∙◌, sym}
use Rattle.register.specs.declared.instruction.Instruction.TheVariants.{Credit}
use Rattle.day_book.specs.Entering.{apply}
use Rattle.day_book.proofs.Turns.{next_balance, next_balance_le}
use Rattle.day_book.proofs.day.DayBook.balance_with_entries.Goals as goal

pub applied-balance-requires : goal.applied-balance-requires
applied-balance-requires c =
    next_balance_le c.args.self.now c.deref-entry-items.result.now c.deref-entry-items.ensures.0 c.loop-entry.entry-index c.loop-entry-test.true c.args.account c.args.asset c.loop-entry.balance c.loop-entry.invariant

pub loop-entry-preserved : goal.loop-entry-preserved
loop-entry-preserved c =
    let es = c.deref-entry-items.result.now in
    let i = c.loop-entry.entry-index in
    c.applied-balance.ensures ∙ ap (apply (get_or es i (Credit 0 0 0)) c.args.account c.args.asset) c.loop-entry.invariant
    ∙ sym (next_balance c.args.self.now es c.deref-entry-items.ensures.0 i c.loop-entry-test.true c.args.account c.args.asset)
