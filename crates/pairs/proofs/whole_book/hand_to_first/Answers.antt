use Rattle.std.proofs.Common.{length, ap, arith}
use Rattle.pairs.proofs.Outcomes.{handed_out}
use Rattle.pairs.proofs.whole_book.hand_to_first.Goals as goal

pub returns : goal.returns
returns c =
    let book = c.args.book.now in
    let hs = ap length c.holders-holders.ensures.value in
    let w = handed_out book c.args.records.now c.hand_rows.new.records c.assets.result.now c.holders-holders.result.now c.in-Some.first
    (omega (arith, hs)) c.assets.ensures.value c.holders-holders.ensures.value c.in-Some.ensures.value c.hand_rows.ensures in
    record { answers_if_handed_out = w.answer; records_as_defined = w.leaves; adds_what_the_end_adds = w.adds }
