-- What `reduce` gives, where its closure computes a function of what its items stand for.
use Rattle.std.proofs.Common.{◌≡◌, List, [], ◌∷◌, map, Some, None, Option, sym, refl, ap, ◌∙◌, subst}
use Rattle.std.specs.List.{FoldsTo, fold, reduce}
use Rattle.std.specs.Option.{option_map}
use Rattle.std.specs.Fn.{Called}
use Rattle.std.specs.Iterator.{ReducesItems, FoldTurn, Drains}
use Rattle.std.proofs.lemmas.Iterator.{YieldsList, items_from_drains}
use denote.Param.Members.{Mut}

module _ {A B F : Type 0} (v : A → B) (g : Mut F (A × (A × Unit {0})) A) (h : B → B → B) (f : F)
    (turn : (a x b : A) (q : F) → Called g f (a, (x, tt)) b q → (q ≡ f) × (v b ≡ h (v a) (v x))) where
  folded : (xs : List A) (p : F × A) (q : F × A) → p.0 ≡ f → FoldsTo {P = F × A} (FoldTurn g) p xs q → v q.1 ≡ fold h (v p.1) (map v xs)
  folded [] p q same e = ap (λ r. v r.1) (sym e)
  folded (x ∷ xs) p q same e =
      let now : Called g f (p.1, (x, tt)) e.0.1 e.0.0 = subst (λ k. Called g k (p.1, (x, tt)) e.0.1 e.0.0) same e.1 in
      let t = turn p.1 x e.0.1 e.0.0 now in
      folded xs e.0 q t.0 e.2 ∙ ap (λ b. fold h b (map v xs)) t.1

  drained : {S : Type 0} {steps : S → Option A → S → Type 0} {s : S} {all : List B} (xs : List A) → Drains steps s xs → YieldsList steps v s all → map v xs ≡ all
  drained xs d y = items_from_drains xs (d.1.0, d.1.1, λ _. (d.0, d.1.2)) y

  pub reduce_gives : {S : Type 0} {steps : S → Option A → S → Type 0} {s : S} {all : List B} (r : Option A) → ReducesItems steps g s f r → YieldsList steps v s all → option_map v r ≡ reduce h all
  reduce_gives None d y = ap (reduce h) (drained [] d y)
  reduce_gives (Some a) e y = ap Some (folded e.1 (f, e.0) (e.2, a) refl e.4) ∙ ap (reduce h) (drained (e.0 ∷ e.1) e.3 y)
