use Rattle.std.proofs.Common.{leb, ◌∙◌, rules, tests}
use Rattle.std.proofs.lemmas.Iterator.{YieldsList-from_slice}
use Rattle.std.proofs.lemmas.Iterator.Search.{any_from_yields_List}
use Rattle.book.specs.declared.records.Holder.{Holder}
use Rattle.state.proofs.AnyOf.{any_of}
use Rattle.expiry.proofs.expiry.room.lacks_an_agent.Goals as goal

pub returns : goal.returns
returns c =
    any_from_yields_List (λ (h : Holder). leb c.args.accounts h.agent) _ _ _ c.any.ensures.ran (YieldsList-from_slice c.args.holders.now cc) (λ x b q k. search (rules, tests))
    ∙ any_of (λ (h : Holder). leb c.args.accounts h.agent) c.args.holders.now
