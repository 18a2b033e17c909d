use Rattle.std.proofs.Common.{◌≡◌, length, take, drop, ap, ◌∙◌}
use Rattle.std.specs.Option.{unwrap_or}
use Rattle.text.specs.Parts.{stop}
use Rattle.text.proofs.CutForms.{stop_counts}
use Rattle.text.proofs.cut.cut.Goals as goal

pub returns : goal.returns
returns c =
    let s = c.args.rest.now in
    let at : c.unwrap_or-end.result ≡ stop c.args.separator s = c.unwrap_or-end.ensures ∙ ap (λ o. unwrap_or o (length s)) c.place.ensures ∙ stop_counts c.args.separator s in
    record { part_ends_at_separator = c.split_at.ensures.front ∙ ap (λ n. take n s) at; rest_begins_there = c.split_at.ensures.back ∙ ap (λ n. drop n s) at }
