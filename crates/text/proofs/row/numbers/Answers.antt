use Rattle.std.proofs.Common.{rules, ◌≡◌, drop, ◌+◌, ◌++◌, ◌∷◌, [], length, ◌∙◌, sym, ap, subst, arith, Err, vec_items, w64, SFits}
use Rattle.std.proofs.lemmas.Int.{to_z-of_z}
use Rattle.std.proofs.lemmas.Iterator.Consumers.{YieldsList-turn, YieldsList-end}
use Rattle.text.proofs.FieldsCome.{fields_come}
use Rattle.std.proofs.lemmas.List.{length_push}
use Rattle.std.proofs.lemmas.Result.{err_from_is_err_and}
use borrow.Author.Tests.{tests}
use Rattle.text.specs.Parts.{fields}
use Rattle.text.specs.Rows.{read, held_all, Answers}
use Rattle.text.specs.declared.row.RowFault.TheVariants.{Form}
use Rattle.text.specs.declared.row.RowError.TheVariants.{Refused}
use Rattle.text.proofs.Collects.{collect, collect_stop, collect_on, collect_all, after_nil, field_at, fields_end, was_none, was_some}
use Rattle.text.proofs.row.numbers.Goals as goal

pub loop-i-preserved : goal.loop-i-preserved
loop-i-preserved c =
    let gs = drop 1 (fields c.args.line.now) in
    let n = length c.loop-i.yielded in
    let turn = YieldsList-turn (fields_come c.args.line.now (cc) (cc) (cc) (cc) (cc) (λ x b q k. search (rules, tests))) c.loop-i.yielded _ c.loop-i.yielded_by _ _ _ c.in-Some.is c.next.ensures.steps in
    let at = field_at c.args.line.now n c.in-Some.i c.in-Some.field.now turn in
    let some = was_some c.number.result _ c.in_ok-n.n (sym c.ok_or.ensures.value ∙ c.in_ok-n.was) in
    let fits : SFits w64 c.in_ok-n.n = search rules in
    let p : vec_items c.push.new.self ≡ vec_items c.loop-i.found ++ c.in_ok-n.n ∷ [] = simp to_z-of_z at c.in_ok-push.ensures.items in
    let on = collect_on (vec_items c.loop-i.found) (n + 2) n gs c.in-Some.field.now c.in_ok-n.n at.0 at.2 (some ∙ c.number.ensures.held_value_of_field) in
    let ys = c.loop-i.yielded ++ (c.in-Some.i, c.in-Some.field) ∷ [] in
    let later : n + 1 + 2 ≡ n + 2 + 1 = omega arith in
    ap (λ xs. collect xs (length ys + 2) (drop (length ys) gs)) p
    ∙ ap (λ m. collect (vec_items c.loop-i.found ++ c.in_ok-n.n ∷ []) (m + 2) (drop m gs)) (length_push c.loop-i.yielded (c.in-Some.i, c.in-Some.field))
    ∙ ap (λ k. collect (vec_items c.loop-i.found ++ c.in_ok-n.n ∷ []) k (drop (n + 1) gs)) later
    ∙ sym on ∙ c.loop-i.invariant

pub returns-in_err-n : goal.returns-in_err-n
returns-in_err-n c =
    let gs = drop 1 (fields c.args.line.now) in
    let n = length c.loop-i.yielded in
    let turn = YieldsList-turn (fields_come c.args.line.now (cc) (cc) (cc) (cc) (cc) (λ x b q k. search (rules, tests))) c.loop-i.yielded _ c.loop-i.yielded_by _ _ _ c.in-Some.is c.next.ensures.steps in
    let at = field_at c.args.line.now n c.in-Some.i c.in-Some.field.now turn in
    let none = was_none c.number.result _ c.in_err-n.field-0.0 (sym c.ok_or.ensures.value ∙ c.in_err-n.was) in
    let stop = collect_stop (vec_items c.loop-i.found) (n + 2) n gs c.in-Some.field.now at.0 at.2 (none.0 ∙ c.number.ensures.held_value_of_field) in
    let p = err_from_is_err_and c.from_residual.result c.from_residual.ensures.1 in
    let place : c.in-Some.i + 1 ≡ n + 2 = omega (arith, at.1) in
    let fault : c.from_residual.result ≡ Err (Refused (Form (n + 2))) = p.1 ∙ ap Err (p.2 ∙ ap Refused (none.1 ∙ ap Form place)) in
    record { each_by_its_form = subst (λ r. Answers r (held_all (read 2 gs))) (sym fault) (sym (after_nil _) ∙ sym c.loop-i.invariant ∙ stop) }

pub returns : goal.returns
returns c =
    let gs = drop 1 (fields c.args.line.now) in
    let n = length c.loop-i.yielded in
    let all = YieldsList-end (fields_come c.args.line.now (cc) (cc) (cc) (cc) (cc) (λ x b q k. search (rules, tests))) c.loop-i.yielded _ c.loop-i.yielded_by _ _ c.in-None.is c.next.ensures.steps in
    let whole = collect_all (vec_items c.loop-i.found) (n + 2) n gs (fields_end c.args.line.now n all.1) in
    record { each_by_its_form = sym (after_nil _) ∙ sym c.loop-i.invariant ∙ whole }
