-- The numbers of an accepted line: their sizes, and the record that they make, which has them as its numbers.
use Rattle.std.proofs.Common.{◌≡◌, ℕ, zero, suc, ◌≤◌, true, false, List, [], ◌∷◌, get_or, ℤ, pos, negsuc, nat_abs, refl, ap, ◌∙◌, arith, leb-true}
use Rattle.text.proofs.Ranges.{Within, each}
use Rattle.book.specs.Format.{Good}
use Rattle.book.specs.Limits.{most_position}
use Rattle.book.specs.Format.{from_to, position_bound, terms_bounds, asset_bounds, holder_bounds, terms_from, asset_from, holder_from, terms_values, asset_values, holder_values}

-- ---- one number in its bound

-- a number in a range that begins at 0 or above
pub record Counts (low high : ℕ) (z : ℤ) : Type 0 where
  pub is : pos (nat_abs z) ≡ z
  pub least : low ≤ nat_abs z
  pub most : nat_abs z ≤ high

pub counts : (low high : ℕ) (z : ℤ) → Within (from_to low high) z → Counts low high z
counts low high (pos n) h = record { is = refl; least = leb-true low n h.above; most = leb-true n high h.under }
counts low high (negsuc n) h = let p : false ≡ true = h.above in let q : ◌≡◌ {A = ℕ} 0 1 = cc in absurd (omega arith)

pub position_size : (z : ℤ) → Within position_bound z → (1 ≤ nat_abs z) × (nat_abs z ≤ most_position)
position_size (pos zero) h = let p : false ≡ true = h.may_be_0 in let q : ◌≡◌ {A = ℕ} 0 1 = cc in absurd (omega arith)
position_size (pos (suc n)) h = (omega arith, leb-true (suc n) most_position h.under)
position_size (negsuc n) h = let q : n ≤ 999999 = leb-true n 999999 h.above in (omega arith, omega arith)

-- ---- the numbers of a line

pub terms_back : (zs : List ℤ) → Good terms_bounds zs → terms_values (terms_from zs) ≡ zs
terms_back [] g = absurd (omega (arith, g.0))
terms_back (a ∷ []) g = absurd (omega (arith, g.0))
terms_back (a ∷ b ∷ c ∷ zs) g = absurd (omega (arith, g.0))
terms_back (a ∷ b ∷ []) g =
    let e = each 2 terms_bounds (a ∷ b ∷ []) (omega arith) g.1 in
    ap (λ x. x ∷ pos (nat_abs b) ∷ []) (counts 1 1000 a e.0).is ∙ ap (λ x. a ∷ x ∷ []) (counts 100 100000000 b e.1.0).is

pub asset_back : (zs : List ℤ) → Good asset_bounds zs → asset_values (asset_from zs) ≡ zs
asset_back [] g = absurd (omega (arith, g.0))
asset_back (a ∷ []) g = absurd (omega (arith, g.0))
asset_back (a ∷ b ∷ []) g = absurd (omega (arith, g.0))
asset_back (a ∷ b ∷ c ∷ d ∷ zs) g = absurd (omega (arith, g.0))
asset_back (a ∷ b ∷ c ∷ []) g =
    let e = each 2 asset_bounds (a ∷ b ∷ c ∷ []) (omega arith) g.1 in
    ap (λ t. t ∷ pos (nat_abs b) ∷ pos (nat_abs c) ∷ []) (counts 100000 2000000 a e.0).is
    ∙ ap (λ t. a ∷ t ∷ pos (nat_abs c) ∷ []) (counts 0 10000000 b e.1.0).is
    ∙ ap (λ t. a ∷ b ∷ t ∷ []) (counts 1 210000000 c e.1.1.0).is

pub record HolderRow (zs : List ℤ) : Type 0 where
  pub member : Counts 1 999 (get_or zs 0 (pos 0))
  pub number : Counts 1 999999 (get_or zs 1 (pos 0))
  pub clearing : Counts 1 999 (get_or zs 2 (pos 0))
  pub agent : Counts 1 64 (get_or zs 3 (pos 0))
  pub position : (1 ≤ nat_abs (get_or zs 4 (pos 0))) × (nat_abs (get_or zs 4 (pos 0)) ≤ most_position)
  pub back : holder_values (holder_from zs) ≡ zs

pub holder_row : (zs : List ℤ) → Good holder_bounds zs → HolderRow zs
holder_row [] g = absurd (omega (arith, g.0))
holder_row (a ∷ []) g = absurd (omega (arith, g.0))
holder_row (a ∷ b ∷ []) g = absurd (omega (arith, g.0))
holder_row (a ∷ b ∷ c ∷ []) g = absurd (omega (arith, g.0))
holder_row (a ∷ b ∷ c ∷ d ∷ []) g = absurd (omega (arith, g.0))
holder_row (a ∷ b ∷ c ∷ d ∷ e ∷ f ∷ zs) g = absurd (omega (arith, g.0))
holder_row (a ∷ b ∷ c ∷ d ∷ e ∷ []) g =
    let each_in = each 2 holder_bounds (a ∷ b ∷ c ∷ d ∷ e ∷ []) (omega arith) g.1 in
    let u = counts 1 999 a each_in.0 in
    let v = counts 1 999999 b each_in.1.0 in
    let w = counts 1 999 c each_in.1.1.0 in
    let x = counts 1 64 d each_in.1.1.1.0 in
    record {
      member = u;
      number = v;
      clearing = w;
      agent = x;
      position = position_size e each_in.1.1.1.1.0;
      back = ap (λ y. y ∷ pos (nat_abs b) ∷ pos (nat_abs c) ∷ pos (nat_abs d) ∷ e ∷ []) u.is ∙ ap (λ y. a ∷ y ∷ pos (nat_abs c) ∷ pos (nat_abs d) ∷ e ∷ []) v.is ∙ ap (λ y. a ∷ b ∷ y ∷ pos (nat_abs d) ∷ e ∷ []) w.is ∙ ap (λ y. a ∷ b ∷ c ∷ y ∷ e ∷ []) x.is;
    }
