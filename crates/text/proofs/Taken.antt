-- The first bytes of a text to which more is added.
use Rattle.std.proofs.Common.{◌≡◌, ℕ, zero, suc, ◌+◌, ◌≤◌, min, List, [], ◌∷◌, ◌++◌, length, take, sym, refl, ap, ◌∙◌, append_assoc, arith, take_all}
use Rattle.std.proofs.lemmas.List.{append-nil, take_min}
use Rattle.std.proofs.Math.Seq.{take-append-add}
use Rattle.text.specs.Pages.{most_bytes, written}
use Rattle.text.specs.declared.page.Page.{Page}

-- what was left out is left out of what follows too
take_on : (m : ℕ) (xs ys : List ℕ) → take m (take m xs ++ ys) ≡ take m (xs ++ ys)
take_on zero xs ys = refl
take_on (suc m) [] ys = refl
take_on (suc m) (x ∷ xs) ys = ap (λ t. x ∷ t) (take_on m xs ys)

-- two additions are one
pub take_twice : (m : ℕ) (ws xs ys vs : List ℕ) → vs ≡ take m (ws ++ xs) → take m (vs ++ ys) ≡ take m (ws ++ (xs ++ ys))
take_twice m ws xs ys vs e = ap (λ t. take m (t ++ ys)) e ∙ take_on m (ws ++ xs) ys ∙ ap (take m) (append_assoc ws xs ys)

-- as much of a text as there is room for
pub taken_room : (m n : ℕ) (ws xs : List ℕ) → n + length ws ≡ m → ws ++ take (min n (length xs)) xs ≡ take m (ws ++ xs)
taken_room m n ws xs h =
    let k : m ≡ length ws + n = omega arith in
    ap (λ t. ws ++ t) (take_min n xs) ∙ sym (ap (λ i. take i (ws ++ xs)) k ∙ take-append-add ws xs n)

-- what a page holds is not cut
pub page_whole : (p : Page) → written p ≡ take most_bytes (written p ++ [])
page_whole p =
    let short : length (written p) ≤ most_bytes = p.within in
    sym (ap (take most_bytes) (append-nil (written p)) ∙ take_all most_bytes (written p) short)
