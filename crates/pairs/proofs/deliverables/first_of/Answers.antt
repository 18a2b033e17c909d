use Rattle.std.proofs.Common.{◌≡◌, ℕ, suc, ◌+◌, ◌<◌, Bool, true, List, [], ◌∷◌, length, IfSome, IfNone, Some, None, Option, refl, ap, subst, sym, ◌∙◌, arith}
use Rattle.std.proofs.lemmas.Bool.{true≢false}
use Rattle.book.specs.declared.records.Asset.{Asset}
use Rattle.order.specs.First.{FirstOpen, first, place_of}
use Rattle.pairing.specs.declared.deliverable.Deliverable.{Deliverable}
use Rattle.pairing.specs.Orders.{deliverable_leq, deliverables, place_or_0}
use Rattle.pairs.proofs.MaskedHolders.{first_open_found}
use Rattle.pairs.proofs.deliverables.first_of.Goals as goal

length_of : (price a : ℕ) (xs : List Asset) → length (deliverables price a xs) ≡ length xs
length_of price a [] = refl
length_of price a (x ∷ xs) = ap suc (length_of price (a + 1) xs)

place_some : (o : Option (ℕ × Deliverable)) → IfSome (place_of o) (λ a. a ≡ place_or_0 o)
place_some None = tt
place_some (Some (i, x)) = refl

-- where all are open, none is found in no list but the empty one
none_found : (ds : List Deliverable) (r : Option ℕ) → FirstOpen deliverable_leq (λ _. true) ds r → IfNone r (length ds ≡ 0)
none_found ds (Some b) f = tt
none_found [] None f = refl
none_found (d ∷ ds) None f = absurd (true≢false (f 0 d (omega arith)))

pub returns : goal.returns
returns c =
    let ds = deliverables c.args.price 0 c.args.assets.now in
    let r = c.first_open.result in
    let listed = c.as_slice.ensures.value ∙ c.list_all.ensures in
    let all : Deliverable → Bool = λ _. true in
    let F : List Deliverable → Type 0 = λ l. FirstOpen deliverable_leq all l r in
    let f : F ds = subst F listed c.first_open.ensures.first_by_the_order in
    let is : r ≡ place_of (first deliverable_leq all ds) = c.first_open.ensures.as_defined ∙ ap (λ (l : List Deliverable). place_of (first deliverable_leq all l)) listed in
    let N : ℕ → Type 0 = λ n. IfSome r (λ b. b < n) in
    let E : ℕ → Type 0 = λ n. IfNone r (n ≡ 0) in
    let V : Option ℕ → Type 0 = λ o. IfSome o (λ a. a ≡ place_or_0 (first deliverable_leq all ds)) in
    let long = length_of c.args.price 0 c.args.assets.now in
    record {
      none_of_none = subst E long (none_found ds r f);
      within = subst N long (first_open_found deliverable_leq all ds r f);
      value = subst V (sym is) (place_some (first deliverable_leq all ds));
    }
