-- The rows of a table, one after another. Assumes nothing.
use Rattle.std.proofs.Common.{◌≡◌, ℕ, ◌+◌, ◌-◌, ◌*◌, ◌<◌, ◌≤◌, List, ◌++◌, length, get_or, drop, sym, ap, ◌∙◌, ⊎_elim, mul_comm, arith, length-append, length-drop}
use Rattle.std.proofs.Math.Seq.{drop-drop, drop-append_seam}
use Rattle.std.proofs.lemmas.Nat.{mul-add-lt}
use Rattle.std.proofs.lemmas.List.{get_or-drop, get_or_append_left}
use Rattle.std.proofs.lemmas.Bool.{cases_lt, cases_eq}

-- the row that comes after k of all rows of n places, and what is left behind it
module _ (cells here row rest : List ℕ) (all k n : ℕ) (size : length cells ≡ all * n) (at : here ≡ drop (k * n) cells) (step : here ≡ row ++ rest) (long : length row ≡ n) where
  pub row_rest : (j : ℕ) → j ≡ k + 1 → rest ≡ drop (j * n) cells
  row_rest j next =
      let more : (k + 1) * n ≡ k * n + n = omega arith in
      sym (drop-append_seam row rest)
      ∙ ap (λ m. drop m (row ++ rest)) long
      ∙ ap (drop n) (sym step ∙ at)
      ∙ drop-drop n (k * n) cells
      ∙ ap (λ m. drop m cells) (sym more ∙ ap (λ m. m * n) (sym next))

  pub row_reads : (s : ℕ) → s < n → get_or row s 0 ≡ get_or cells (k * n + s) 0
  row_reads s h = sym (get_or_append_left row rest 0 s (omega (arith, long, h))) ∙ ap (λ xs. get_or xs s 0) (sym step ∙ at) ∙ get_or-drop (k * n) cells s 0

  pub row_counts : 0 < n → k < all
  row_counts some =
      let len = length-drop (k * n) cells in
      let left : length (drop (k * n) cells) ≡ n + length rest = ap length (sym at ∙ step) ∙ length-append row rest ∙ ap (λ m. m + length rest) long in
      ⊎_elim
      (λ (h : k < all). h)
      (λ (h : all ≤ k). ⊎_elim
      (λ (e : k ≡ all). let same : k * n ≡ all * n = ap (λ m. m * n) e in absurd (omega (arith, len, left, size, same, some)))
      (λ ne. let more = mul-add-lt all n (n - 1) k (omega (arith, h, ne)) (omega (arith, some)) in absurd (omega (arith, len, left, size, more, mul_comm n k, some)))
      (cases_eq k all))
      (cases_lt k all)

-- no row is left after k: those were all
pub rows_done : (cells here : List ℕ) (all k n : ℕ) → 0 < n → length cells ≡ all * n → here ≡ drop (k * n) cells → length here < n → k ≤ all → k ≡ all
rows_done cells here all k n some size at out few =
    let len = length-drop (k * n) cells in
    let same = ap length at in
    ⊎_elim
    (λ (h : k < all). let more = mul-add-lt k n (n - 1) all h (omega (arith, some)) in absurd (omega (arith, len, out, same, size, more, mul_comm n all, some)))
    (λ (h : all ≤ k). omega (arith, h, few))
    (cases_lt k all)
