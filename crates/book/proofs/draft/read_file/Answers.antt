use Rattle.std.proofs.Common.{length, ap, arith}
use Rattle.text.specs.Parts.{parts}
use Rattle.book.specs.Data.{draft_of}
use Rattle.book.proofs.FileOfBook.{few_holders}
use Rattle.book.proofs.draft.read_file.Goals as goal

pub invariant_of-rows : goal.invariant_of-rows
invariant_of-rows c =
    record { few = omega (arith, few_holders (parts 10 c.args.file.now) (draft_of c.in_ok-draft.draft) c.in_ok-draft.ensures.by_the_definition, ap length c.as_slice.ensures.value) }
