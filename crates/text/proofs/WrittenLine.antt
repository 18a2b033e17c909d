-- The pieces of a written line, put together.
use Rattle.std.proofs.Common.{◌≡◌, ℕ, List, [], ◌∷◌, ◌++◌, map, ℤ, sym, refl, ap, ◌∙◌, append_assoc}
use Rattle.std.specs.Fmt.{signed_decimal}
use Rattle.std.specs.List.{flat_map}
use Rattle.text.specs.Rows.{line}

joined_signed : (zs : List ℤ) → flat_map (λ z. 44 ∷ signed_decimal z) zs ≡ flat_map (λ g. 44 ∷ g) (map signed_decimal zs)
joined_signed [] = refl
joined_signed (z ∷ zs) = ap (λ t. 44 ∷ (signed_decimal z ++ t)) (joined_signed zs)

pub line_shape : (k : List ℕ) (zs : List ℤ) → k ++ (flat_map (λ z. 44 ∷ signed_decimal z) zs ++ 10 ∷ []) ≡ line k zs
line_shape k zs =
    ap (λ t. k ++ (t ++ 10 ∷ [])) (joined_signed zs) ∙ sym (append_assoc k (flat_map (λ g. 44 ∷ g) (map signed_decimal zs)) (10 ∷ []))
