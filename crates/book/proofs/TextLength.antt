-- The text of a book is shorter than a file may be.
use Rattle.std.proofs.Common.{◌≡◌, ℕ, suc, ◌+◌, ◌*◌, ◌^◌, ◌<◌, ◌≤◌, List, [], ◌∷◌, ◌++◌, length, ℤ, pos, negsuc, nat_abs, decimal, mul-suc, arith, length-append}
use Rattle.std.specs.List.{flat_map, AllByRecursion}
use Rattle.std.specs.Fmt.{signed_decimal}
use Rattle.std.proofs.lemmas.Fmt.{length-decimal-le}
use Rattle.text.specs.Pages.{most_bytes}
use Rattle.book.specs.declared.records.Terms.{Terms}
use Rattle.book.specs.declared.records.Asset.{Asset}
use Rattle.book.specs.declared.records.Holder.{Holder}
use Rattle.book.specs.Limits.{most_position}
use Rattle.book.specs.Books.{Contents, AssetInRange, HolderInRange, Sound}
use Rattle.book.specs.Format.{heading, terms_line, asset_line, holder_line, text}

-- a number of at most 9 digits
digits : (k n : ℕ) → 0 < k → n < 10 ^ k → n < 2 ^ 64 → length (decimal n) ≤ k
digits k n = length-decimal-le k n

position_length : (z : ℤ) → nat_abs z ≤ most_position → length (signed_decimal z) ≤ 8
position_length (pos n) h = let d = digits 7 n (omega arith) (omega arith) (omega arith) in omega arith
position_length (negsuc n) h = let d = digits 7 (suc n) (omega arith) (omega arith) (omega arith) in omega arith

terms_length : (t : Terms) → t.multiplier ≤ 1000 → t.price ≤ 100000000 → length (terms_line t) ≤ 21
terms_length t m p =
    let a = digits 4 t.multiplier (omega arith) (omega arith) (omega arith) in
    let b = digits 9 t.price (omega arith) (omega arith) (omega arith) in
    simp length-append (omega arith)

asset_length : (x : Asset) → AssetInRange x → length (asset_line x) ≤ 33
asset_length x r =
    let a = digits 7 x.factor (omega arith) (omega (arith, r.factor.1)) (omega (arith, r.factor.1)) in
    let b = digits 8 x.accrued (omega arith) (omega (arith, r.accrued.1)) (omega (arith, r.accrued.1)) in
    let c = digits 9 x.market (omega arith) (omega (arith, r.market.1)) (omega (arith, r.market.1)) in
    simp length-append (omega arith)

holder_length : (x : Holder) → HolderInRange x → length (holder_line x) ≤ 34
holder_length x r =
    let a = digits 3 x.member (omega arith) (omega (arith, r.member.1)) (omega (arith, r.member.1)) in
    let b = digits 6 x.number (omega arith) (omega (arith, r.number.1)) (omega (arith, r.number.1)) in
    let c = digits 3 x.clearing (omega arith) (omega (arith, r.clearing.1)) (omega (arith, r.clearing.1)) in
    let d = digits 2 x.agent (omega arith) (omega (arith, r.agent.1)) (omega (arith, r.agent.1)) in
    let e = position_length x.position r.volume.1 in
    simp length-append (omega arith)

joined_length : {X : Type 0} (P : X → Type 0) (f : X → List ℕ) (k : ℕ) → ((x : X) → P x → length (f x) ≤ k) → (xs : List X) → AllByRecursion P xs → length (flat_map f xs) ≤ k * length xs
joined_length P f k h [] a = omega arith
joined_length P f k h (x ∷ xs) a =
    let i = joined_length P f k h xs a.1 in
    let e : k * suc (length xs) ≡ k * length xs + k = mul-suc k (length xs) in
    omega (arith, length-append (f x) (flat_map f xs), h x a.0)

pub text_length : (b : Contents) → Sound b → length (text b) ≤ most_bytes
text_length b s =
    let t = terms_length b.terms s.multiplier.1 s.price.1 in
    let a = joined_length AssetInRange asset_line 33 asset_length b.assets s.assets in
    let h = joined_length HolderInRange holder_line 34 holder_length b.holders s.holders in
    let u = s.asset_count.1 in
    let v = s.holder_count.1 in
    let tail : List ℕ = flat_map asset_line b.assets ++ flat_map holder_line b.holders in
    omega (arith, length-append (heading ++ 10 ∷ []) (terms_line b.terms ++ tail), length-append (terms_line b.terms) tail, length-append (flat_map asset_line b.assets) (flat_map holder_line b.holders))
