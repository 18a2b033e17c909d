use Rattle.std.proofs.Common.{sym, ◌∙◌}
use Rattle.book.specs.Data.{contents}
use Rattle.book.proofs.BookKept.{book_sound}
use Rattle.register.specs.Registers.{meaning}
use Rattle.rules.specs.Verdict.{opening_refused}
use Rattle.state.specs.Seeing.{opening}
use Rattle.expiry.proofs.Blank.{some_holders, begun}
use Rattle.state.proofs.Checked.{passed_by}
use Rattle.expiry.proofs.expiry.Expiry.open_checked.Goals as goal

pub returns : goal.returns
returns g c =
    let o = opening (contents c.args.book) c.args.lines.now (meaning g.S.Balances c.args.securities.now) (meaning g.C.Balances c.args.cash.now) in
    let none = passed_by (opening_refused o) (sym c.check_opening.ensures ∙ c.in_ok-check_opening.was) in
    record { opens_or_refuses = (none, begun o c.new.result.state (book_sound c.args.book (some_holders o none)) none c.new.ensures) }
