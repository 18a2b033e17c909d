-- How many bytes stand before a separator, and how many separators there are, as the library counts them.
use Rattle.std.proofs.Common.{◌≡◌, ℕ, suc, ◌+◌, ◌≤◌, true, false, cond, List, [], ◌∷◌, length, ◌==◌, Some, None, nat_lt, sym, refl, ap, ◌∙◌, arith}
use Rattle.std.specs.Prelude.{count_by}
use Rattle.std.specs.List.{position, slice_split, onto_first}
use Rattle.std.specs.Option.{unwrap_or}
use Rattle.std.proofs.lemmas.Bool.Decides.{nat_tests}
use Rattle.std.proofs.lemmas.List.Recursion.{is_position_or_len}
use Rattle.std.proofs.lemmas.List.Splits.{length-slice_split}
use Rattle.text.specs.Parts.{stop, parts, onto}

pub stop_within : (b : ℕ) (s : List ℕ) → stop b s ≤ length s
stop_within b [] = omega arith
stop_within b (c ∷ cs) = elim (c == b) as (λ v. cond v 0 (suc (stop b cs)) ≤ suc (length cs)) [ true ↦ omega arith | false ↦ omega (arith, stop_within b cs) ]

held_back : (m n : ℕ) → m ≤ n → unwrap_or (cond (nat_lt m n) (Some m) None) n ≡ m
held_back m n h = elim (nat_lt m n) as (λ v. nat_lt m n ≡ v → unwrap_or (cond v (Some m) None) n ≡ m) [ true ↦ λ e. refl | false ↦ λ e. grind (arith, nat_tests) ] refl

pub stop_counts : (b : ℕ) (s : List ℕ) → unwrap_or (position (λ c. c == b) s) (length s) ≡ stop b s
stop_counts b s =
    ap (λ n. unwrap_or (cond (nat_lt n (length s)) (Some n) None) (length s)) (sym (is_position_or_len (stop b) (λ c. c == b) refl (λ x xs. let one : suc (stop b xs) ≡ 1 + stop b xs = omega arith in ap (λ n. cond (x == b) 0 n) one) s))
    ∙ held_back (stop b s) (length s) (stop_within b s)

same_onto : (c : ℕ) (ps : List (List ℕ)) → onto c ps ≡ onto_first c ps
same_onto c [] = refl
same_onto c (p ∷ ps) = refl

-- parts are what the library's `split` gives
pub parts_split : (b : ℕ) (s : List ℕ) → parts b s ≡ slice_split (λ c. c == b) s
parts_split b [] = refl
parts_split b (c ∷ cs) =
    ap (λ ps. cond (c == b) ([] ∷ ps) (onto c ps)) (parts_split b cs) ∙ ap (λ ps. cond (c == b) ([] ∷ slice_split (λ c. c == b) cs) ps) (same_onto c (slice_split (λ c. c == b) cs))

pub parts_count : (b : ℕ) (s : List ℕ) → count_by (λ c. c == b) s + 1 ≡ length (parts b s)
parts_count b s = sym (length-slice_split (λ c. c == b) s) ∙ ap length (sym (parts_split b s))
