use Rattle.std.proofs.Common.{[]}
use Rattle.book.specs.Data.{contents}
use Rattle.register.specs.Registers.{meaning}
use Rattle.state.specs.Seeing.{opening}
use Rattle.expiry.proofs.expiry.Expiry.play_all.Goals as goal

pub returns-clause-law_over_the_day : goal.returns-clause-law_over_the_day
returns-clause-law_over_the_day g c =
    c.run.ensures.law_over_the_run
    (opening (contents c.args.book) c.args.lines.now (meaning g.S.Balances c.args.securities.now) (meaning g.C.Balances c.args.cash.now)) []
    c.in_ok-expiry.ensures.opens_or_refuses.1
