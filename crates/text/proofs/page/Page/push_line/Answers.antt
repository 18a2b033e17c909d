use Rattle.std.proofs.Common.{◌≡◌, ℕ, List, [], ◌∷◌, ◌++◌, get_or, take, ℤ, pos, sym, ap, ◌∙◌, append_assoc, take_all, w64, SFits, rules}
use Rattle.std.proofs.lemmas.List.{flat_map_more, take_more}
use Rattle.std.proofs.lemmas.Int.{to_z-of_z}
use Rattle.std.specs.Fmt.{signed_decimal}
use Rattle.std.specs.List.{flat_map}
use Rattle.text.specs.Pages.{most_bytes, written}
use Rattle.text.proofs.Taken.{take_twice, page_whole}
use Rattle.text.proofs.WrittenLine.{line_shape}
use Rattle.text.proofs.page.Page.push_line.Goals as goal

abbrev part : ℤ → List ℕ
part z = 44 ∷ signed_decimal z

pub loop-v-init : goal.loop-v-init
loop-v-init c = page_whole c.push_all.new.self

pub loop-v-preserved : goal.loop-v-preserved
loop-v-preserved c =
    let zs = c.args.values.now in
    let i = c.loop-v.v-index in
    let start = written c.push_all.new.self in
    let done = flat_map part (take i zs) in
    let fits : SFits w64 (get_or zs i (pos 0)) = search rules in
    let number : written c.push_number.new.self ≡ take most_bytes (written c.push_all-in-loop-v.new.self ++ signed_decimal (get_or zs i (pos 0))) = (simp to_z-of_z at c.push_number.ensures).appended in
    number
    ∙ take_twice most_bytes start (done ++ 44 ∷ []) (signed_decimal (get_or zs i (pos 0))) (written c.push_all-in-loop-v.new.self)
    (c.push_all-in-loop-v.ensures.appended ∙ take_twice most_bytes start done (44 ∷ []) (written c.loop-v.self) c.loop-v.invariant)
    ∙ ap (λ t. take most_bytes (start ++ t)) (append_assoc done (44 ∷ []) (signed_decimal (get_or zs i (pos 0))) ∙ flat_map_more part [] (take i zs) (get_or zs i (pos 0)) ∙ ap (flat_map part) (sym (take_more zs i (pos 0) c.loop-v-test.true)))

pub returns : goal.returns
returns c =
    let zs = c.args.values.now in
    let kind = c.args.kind.now in
    let start = written c.args.self.now in
    let after_kind = written c.push_all.new.self in
    let numbers : written c.loop-v.self ≡ take most_bytes (after_kind ++ flat_map part zs) = c.loop-v.invariant ∙ ap (λ t. take most_bytes (after_kind ++ flat_map part t)) (take_all c.loop-v.v-index zs c.loop-v-test.false) in
    record {
      line_is_appended =
          c.push_all-2.ensures.appended
          ∙ take_twice most_bytes after_kind (flat_map part zs) (10 ∷ []) (written c.loop-v.self) numbers
          ∙ take_twice most_bytes start kind (flat_map part zs ++ 10 ∷ []) after_kind c.push_all.ensures.appended
          ∙ ap (λ t. take most_bytes (start ++ t)) (line_shape kind zs);
    }
