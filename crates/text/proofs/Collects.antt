-- The numbers of fields, after those found so far.
use Rattle.std.proofs.Common.{◌≡◌, ℕ, suc, ◌+◌, ◌<◌, ◌≤◌, get_or, List, [], ◌∷◌, ◌++◌, map, length, drop, ℤ, Some, None, Ok, Err, Option, Result, sym, refl, ap, subst, ◌==◌, ◌∙◌, append_assoc, arith}
use Rattle.std.proofs.lemmas.List.{append-nil, at_drop_more, at_drop_all}
use Rattle.std.proofs.lemmas.List.FromFn.{length-enumerate_from, get_or-enumerate_from}
use Rattle.std.specs.List.{enumerate_from, slice_split}
use Rattle.std.specs.Option.{option_map, ok_or}
use Rattle.text.specs.declared.row.RowFault.{RowFault}
use Rattle.text.specs.declared.row.RowFault.TheVariants.{Form}
use Rattle.text.specs.Number.{number, held}
use Rattle.text.specs.Parts.{fields}
use Rattle.text.proofs.CutForms.{parts_split}
use Rattle.text.specs.Rows.{read, then, held_all}

abbrev pub after : List ℤ → Result (List ℤ) RowFault → Result (List ℤ) RowFault
after xs (Ok zs) = Ok (xs ++ zs)
after xs (Err e) = Err e

-- the numbers xs, and after them those of the fields, the first of which is the k-th
abbrev pub collect : List ℤ → ℕ → List (List ℕ) → Result (List ℤ) RowFault
collect xs k fs = after xs (held_all (read k fs))

none_case : (o : Option ℤ) (xs : List ℤ) (k : ℕ) (r : Result (List ℤ) RowFault) → None ≡ option_map held o → after xs (held_all (then o k r)) ≡ Err (Form k)
none_case None xs k r h = refl
none_case (Some z) xs k r h = let q : ◌≡◌ {A = ℕ} 0 1 = cc in absurd (omega arith)

some_case : (o : Option ℤ) (xs : List ℤ) (k : ℕ) (r : Result (List ℤ) RowFault) (z : ℤ) → Some z ≡ option_map held o → after xs (held_all (then o k r)) ≡ after (xs ++ z ∷ []) (held_all r)
some_case None xs k r z h = let q : ◌≡◌ {A = ℕ} 0 1 = cc in absurd (omega arith)
some_case (Some y) xs k (Err e) z h = refl
some_case (Some y) xs k (Ok zs) z h =
    let q : held y ≡ z = cc in
    ap Ok (ap (λ w. xs ++ w ∷ map held zs) q ∙ sym (append_assoc xs (z ∷ []) (map held zs)))

pub after_nil : (r : Result (List ℤ) RowFault) → after [] r ≡ r
after_nil (Ok zs) = refl
after_nil (Err e) = refl

-- ---- the ways of one turn: gs are the fields, of which n are done, and f is the next one

pub collect_stop : (xs : List ℤ) (k n : ℕ) (gs : List (List ℕ)) (f : List ℕ) → n < length gs → f ≡ get_or gs n f → None ≡ option_map held (number f) → collect xs k (drop n gs) ≡ Err (Form k)
collect_stop xs k n gs f h e q =
    at_drop_more (collect xs k) gs n f h ∙ ap (λ g. collect xs k (g ∷ drop (n + 1) gs)) (sym e) ∙ none_case (number f) xs k (read (suc k) (drop (n + 1) gs)) q

pub collect_on : (xs : List ℤ) (k n : ℕ) (gs : List (List ℕ)) (f : List ℕ) (z : ℤ) → n < length gs → f ≡ get_or gs n f → Some z ≡ option_map held (number f) → collect xs k (drop n gs) ≡ collect (xs ++ z ∷ []) (k + 1) (drop (n + 1) gs)
collect_on xs k n gs f z h e q =
    let j : suc k ≡ k + 1 = omega arith in
    at_drop_more (collect xs k) gs n f h ∙ ap (λ g. collect xs k (g ∷ drop (n + 1) gs)) (sym e)
    ∙ some_case (number f) xs k (read (suc k) (drop (n + 1) gs)) z q
    ∙ ap (λ i. collect (xs ++ z ∷ []) i (drop (n + 1) gs)) j

pub collect_all : (xs : List ℤ) (k n : ℕ) (gs : List (List ℕ)) → length gs ≤ n → collect xs k (drop n gs) ≡ Ok xs
collect_all xs k n gs h = at_drop_all (collect xs k) gs n h ∙ ap Ok (append-nil xs)

-- ---- the fields after the first, as a loop over the parts of a line gives them, each with its number

part_of : (ps : List (List ℕ)) (k i : ℕ) (f : List ℕ) → (k < length (drop 1 (enumerate_from 0 ps))) × ((i, f) ≡ get_or (drop 1 (enumerate_from 0 ps)) k (i, f)) → (k < length (drop 1 ps)) × (i ≡ k + 1) × (f ≡ get_or (drop 1 ps) k f)
part_of [] k i f h = absurd (omega arith)
part_of (p ∷ ps) k i f h =
    let n : k < length ps = omega (arith, length-enumerate_from 1 ps) in
    let e = h.1 ∙ get_or-enumerate_from 1 ps k (i, f) n in
    let j : i ≡ 1 + k = ap (λ q. q.0) e in
    (n, omega arith, ap (λ q. q.1) e)

pub field_at : (s : List ℕ) (k i : ℕ) (f : List ℕ)
    → (k < length (drop 1 (enumerate_from 0 (slice_split (λ c. c == 44) s)))) × ((i, f) ≡ get_or (drop 1 (enumerate_from 0 (slice_split (λ c. c == 44) s))) k (i, f))
    → (k < length (drop 1 (fields s))) × (i ≡ k + 1) × (f ≡ get_or (drop 1 (fields s)) k f)
field_at s k i f h =
    let P : List (List ℕ) → Type 0 = λ ps. (k < length (drop 1 ps)) × (i ≡ k + 1) × (f ≡ get_or (drop 1 ps) k f) in
    subst P (sym (parts_split 44 s)) (part_of (slice_split (λ c. c == 44) s) k i f h)

end_of : (ps : List (List ℕ)) (k : ℕ) → k ≡ length (drop 1 (enumerate_from 0 ps)) → length (drop 1 ps) ≤ k
end_of [] k e = omega arith
end_of (p ∷ ps) k e = omega (arith, length-enumerate_from 1 ps)

pub fields_end : (s : List ℕ) (k : ℕ) → k ≡ length (drop 1 (enumerate_from 0 (slice_split (λ c. c == 44) s))) → length (drop 1 (fields s)) ≤ k
fields_end s k e = let P : List (List ℕ) → Type 0 = λ ps. length (drop 1 ps) ≤ k in subst P (sym (parts_split 44 s)) (end_of (slice_split (λ c. c == 44) s) k e)

-- ---- a number, or the fault in its place

pub was_none : {E : Type 0} (o : Option ℤ) (e f : E) → ok_or o e ≡ Err f → (None ≡ o) × (f ≡ e)
was_none None e f h = (refl, cc)
was_none (Some z) e f h = let q : ◌≡◌ {A = ℕ} 0 1 = cc in absurd (omega arith)

pub was_some : {E : Type 0} (o : Option ℤ) (e : E) (z : ℤ) → ok_or o e ≡ Ok z → Some z ≡ o
was_some None e z h = let q : ◌≡◌ {A = ℕ} 0 1 = cc in absurd (omega arith)
was_some (Some y) e z h = cc
