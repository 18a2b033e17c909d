-- The pieces of a book's text, put on a page one after the other.
use Rattle.std.proofs.Common.{◌≡◌, ℕ, List, [], ◌∷◌, ◌++◌, take, pos, codes, ap, ◌∙◌, arith}
use Rattle.std.proofs.lemmas.Fmt.{decimal_digit}
use Rattle.text.specs.Rows.{line}
use Rattle.text.proofs.Taken.{take_twice}
use Rattle.book.specs.Format.{heading}

heading_line : line (codes "book") (pos 1 ∷ []) ≡ heading ++ 10 ∷ []
heading_line = ap (λ d. (codes "book" ++ ((44 ∷ d) ++ [])) ++ 10 ∷ []) (decimal_digit 1 (omega arith))

-- w is what the page holds after each piece
pub in_turn : (m : ℕ) (w0 w1 w2 w3 w4 t a h : List ℕ) → w0 ≡ [] → w1 ≡ take m (w0 ++ line (codes "book") (pos 1 ∷ [])) → w2 ≡ take m (w1 ++ t) → w3 ≡ take m (w2 ++ a) → w4 ≡ take m (w3 ++ h) → w4 ≡ take m ((heading ++ 10 ∷ []) ++ (t ++ (a ++ h)))
in_turn m w0 w1 w2 w3 w4 t a h e0 e1 e2 e3 e4 =
    let first : w1 ≡ take m ([] ++ (heading ++ 10 ∷ [])) = e1 ∙ ap (λ x. take m (x ++ line (codes "book") (pos 1 ∷ []))) e0 ∙ ap (take m) heading_line in
    e4 ∙ take_twice m w2 a h w3 e3 ∙ take_twice m w1 t (a ++ h) w2 e2 ∙ take_twice m [] (heading ++ 10 ∷ []) (t ++ (a ++ h)) w1 first
