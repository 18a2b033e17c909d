use Rattle.std.proofs.Common.{◌+◌, drop, Err, vec_items, sym, refl, ap, ◌∙◌, arith}
use Rattle.std.specs.Cmp.Lexicographic.{same_text, other_text}
use Rattle.std.proofs.lemmas.Bool.{not-true, not-false}
use Rattle.std.proofs.lemmas.Result.{err_from_is_err_and}
use Rattle.text.specs.Parts.{fields}
use Rattle.text.specs.Rows.{outside, read}
use Rattle.text.specs.declared.row.RowFault.TheVariants.{Form, Range}
use Rattle.text.proofs.Ranges.{row_range, row_ok, outside_place, place_of}
use Rattle.text.proofs.RowWays.{row_other, row_count, row_fields, row_on, refused_on, refuses}
use Rattle.text.proofs.row.numbers_of_row.Goals as goal

pub returns-then-ne : goal.returns-then-ne
returns-then-ne c =
    let other = row_other c.args.kind.now c.args.bounds.now c.args.line.now c.step.result.0.now c.step.ensures.part_ends_at_separator
    (other_text c.step.result.0.now c.args.kind.now (sym (not-true _ (sym c.if-ne.ensures)))) in
    record { reads_the_row = refuses c.into.result (Form 1) _ c.into.ensures other }

pub returns-then-separators-bounds : goal.returns-then-separators-bounds
returns-then-separators-bounds c =
    let count = row_count c.args.kind.now c.args.bounds.now c.args.line.now c.step.result.0.now c.separators.result c.step.ensures.part_ends_at_separator
    (same_text c.step.result.0.now c.args.kind.now (sym (not-false _ (sym c.if-ne.ensures))))
    c.separators.ensures.one_fewer_than_parts c.if-separators-bounds.true in
    record { reads_the_row = refuses c.into-then-separators-bounds.result (Form 0) _ c.into-then-separators-bounds.ensures count }

pub returns-in_err-values : goal.returns-in_err-values
returns-in_err-values c =
    let p = err_from_is_err_and c.from_residual.result c.from_residual.ensures.1 in
    record {
      reads_the_row = refused_on c.args.bounds.now c.from_residual.result c.in_err-values.field-0.0 (read 2 (drop 1 (fields c.args.line.now))) _ (p.1 ∙ ap Err p.2) c.in_err-values.ensures.each_by_its_form
          (row_on c.args.kind.now c.args.bounds.now c.args.line.now c.step.result.0.now c.separators.result c.step.ensures.part_ends_at_separator
          (same_text c.step.result.0.now c.args.kind.now (sym (not-false _ (sym c.if-ne.ensures))))
          c.separators.ensures.one_fewer_than_parts c.if-separators-bounds.false);
    }

pub returns-in-Some : goal.returns-in-Some
returns-in-Some c =
    let place = outside_place c.args.bounds.now _ c.first_outside.result c.first_outside.ensures.first in
    let on = row_on c.args.kind.now c.args.bounds.now c.args.line.now c.step.result.0.now c.separators.result c.step.ensures.part_ends_at_separator
    (same_text c.step.result.0.now c.args.kind.now (sym (not-false _ (sym c.if-ne.ensures))))
    c.separators.ensures.one_fewer_than_parts c.if-separators-bounds.false in
    let at = sym (ap place_of c.in-Some.is) ∙ place ∙ ap (outside 2 c.args.bounds.now) c.deref.ensures.value in
    record {
      reads_the_row = refuses c.into-in-Some.result (Range (c.in-Some.i + 2)) _ c.into-in-Some.ensures
          (on ∙ row_range c.args.bounds.now (drop 1 (fields c.args.line.now)) (vec_items c.in_ok-values.values) (c.in-Some.i + 2) c.in_ok-values.ensures.each_by_its_form at (λ z. omega arith));
    }

pub returns-in-None : goal.returns-in-None
returns-in-None c =
    let place = outside_place c.args.bounds.now _ c.first_outside.result c.first_outside.ensures.first in
    let on = row_on c.args.kind.now c.args.bounds.now c.args.line.now c.step.result.0.now c.separators.result c.step.ensures.part_ends_at_separator
    (same_text c.step.result.0.now c.args.kind.now (sym (not-false _ (sym c.if-ne.ensures))))
    c.separators.ensures.one_fewer_than_parts c.if-separators-bounds.false in
    let at = sym (ap place_of c.in-None.is) ∙ place ∙ ap (outside 2 c.args.bounds.now) c.deref.ensures.value in
    let long = row_fields c.args.bounds.now c.args.line.now c.step.result.0.now c.separators.result c.step.ensures.part_ends_at_separator c.separators.ensures.one_fewer_than_parts c.if-separators-bounds.false in
    record { reads_the_row = on ∙ row_ok c.args.bounds.now (drop 1 (fields c.args.line.now)) (vec_items c.in_ok-values.values) 0 long c.in_ok-values.ensures.each_by_its_form at refl }
