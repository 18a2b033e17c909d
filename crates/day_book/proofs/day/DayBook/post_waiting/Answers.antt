use Rattle.std.proofs.Common.{◌≡◌, List, sym, ap, ◌∙◌, subst, arith}
use Rattle.register.specs.declared.instruction.Instruction.{Instruction}
use Rattle.register.specs.Rules.{Meaning}
use Rattle.register.specs.Instructions.{after_all}
use Rattle.register.proofs.Lawfuls.{all_assets}
use Rattle.table_register.specs.Table.{table_meaning}
use Rattle.day_book.specs.DayTable.{Posted}
use Rattle.day_book.specs.Entering.{each_accepted}
use Rattle.day_book.specs.DayMeaning.{means, posted_means}
use Rattle.day_book.proofs.Memory.{posted_all}
use Rattle.day_book.proofs.day.DayBook.post_waiting.Goals as goal

pub invariant_of-self : goal.invariant_of-self
invariant_of-self c =
    let x = c.args.self.now in
    let to = c.post_each in
    let k = to.new.counts in
    let m : Meaning = table_meaning to.new.cells k.accounts k.assets k.issues in
    let same : m ≡ means x = to.ensures.meaning ∙ ap (after_all (posted_means x)) c.deref.ensures.0 in
    let assets : k.assets ≡ x.counts.assets = ap (λ (n : Meaning). n.assets) same ∙ all_assets (posted_means x) x.entries.items in
    record {
      size = to.ensures.size;
      covered = to.ensures.covered;
      accepted = ap (each_accepted m) c.clear.ensures;
      told = λ s h. x.told s (omega (arith, assets, h)) ∙ sym (ap (λ (n : Meaning). n.issue s) same) ∙ sym (ap (λ es. (after_all m es).issue s) c.clear.ensures);
    }

pub returns-clause-posted : goal.returns-clause-posted
returns-clause-posted c =
    let x = c.args.self.now in
    let to = c.post_each in
    let k = to.new.counts in
    let all = posted_all x.cells.now to.new.cells k.accounts k.assets k.issues (posted_means x) c.deref.result.now to.ensures.meaning to.ensures.later in
    subst (λ (es : List Instruction). Posted (after_all (posted_means x) es) x.cells.now to.new.cells) c.deref.ensures.0 all
