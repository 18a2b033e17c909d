use Rattle.std.proofs.Common.{◌≡◌, ◌+◌, Ok, sym, ap, ◌∙◌, arith}
use Rattle.register.specs.Instructions.{instruction_answer, after_instruction, after_all}
use Rattle.register.proofs.Alike.{all_push}
use Rattle.day_book.specs.Entering.{added, each_accepted}
use Rattle.day_book.specs.DayMeaning.{means, posted_means}
use Rattle.day_book.proofs.Turns.{accepted_push, asset_below, raised_fits, pushed_issue}
use Rattle.day_book.proofs.day.DayBook.enter.Goals as goal

pub raise-requires : goal.raise-requires
raise-requires c =
    let y = c.make_room.new.self in
    let e = c.args.entry in
    let ok : instruction_answer (means y) e ≡ Ok tt = ap (λ k. instruction_answer k e) c.make_room.ensures.meaning ∙ c.requires.accepted in
    record {
      known = let below = asset_below y e ok in omega (arith, below, y.counts.few_assets);
      fits = raised_fits y e ok;
    }

pub invariant_of-self : goal.invariant_of-self
invariant_of-self c =
    let y = c.make_room.new.self in
    let e = c.args.entry in
    let ok : instruction_answer (means y) e ≡ Ok tt = ap (λ k. instruction_answer k e) c.make_room.ensures.meaning ∙ c.requires.accepted in
    record {
      size = y.size;
      covered = y.covered;
      told = λ s h. c.raise.ensures s ∙ ap (λ v. v + added e s) (y.told s h) ∙ sym (ap (λ k. (after_all (posted_means y) k).issue s) c.push.ensures.items ∙ pushed_issue (posted_means y) y.entries.items e ok s);
      accepted = ap (each_accepted (posted_means y)) c.push.ensures.items ∙ accepted_push (posted_means y) y.entries.items e y.accepted ok;
    }

pub returns-clause-meaning : goal.returns-clause-meaning
returns-clause-meaning c =
    let y = c.make_room.new.self in
    let e = c.args.entry in
    ap (after_all (posted_means y)) c.push.ensures.items ∙ all_push (posted_means y) y.entries.items e ∙ ap (λ k. after_instruction k e) c.make_room.ensures.meaning
