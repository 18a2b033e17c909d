-- Claims as a difference of two sums: what gains, and what loses.
use Rattle.std.proofs.Common.{◌≡◌, ℕ, suc, ◌+◌, ◌-◌, ◌*◌, Bool, true, false, cond, eqb, ltb, List, [], ◌∷◌, ℤ, pos, negsuc, ◌-ℤ◌, ◌*ℤ◌, sym, ap, ◌∙◌, mul-add, arith}
use lib.IntN.{sub_ℕ, pos-*ℤ-pos, pos-*ℤ-negsuc}
use borrow.Author.Differences.{ints}
use Rattle.std.proofs.lemmas.List.Sums.{sum_by-cons}
use Rattle.std.proofs.lemmas.Bool.{cond_both, ltb-true, ltb-false}
use Rattle.book.specs.Books.{Contents, asset_at, invoice}
use Rattle.pairing.specs.declared.line.Line.{Line}
use Rattle.pairing.specs.Lines.{sumℤ, unsettled, buyer_agent, seller_agent, differences, claim_on}
use Rattle.delivery.specs.declared.sums.Measure.TheVariants.{UnsettledAtInvoice, UnsettledAtMarket}
use Rattle.delivery.specs.Parties.{to_buyer, to_seller, agent_on}
use Rattle.delivery.specs.Sums.{measured, summed}

pub sub_is : (x y : ℕ) → sub_ℕ x y ≡ pos x -ℤ pos y
sub_is x y = cond_both (ltb x y) (negsuc (y - suc x)) (pos (x - y)) (λ z. z ≡ pos x -ℤ pos y) (λ e. let h = ltb-true x y e in omega (arith, ints)) (λ e. let h = ltb-false x y e in omega (arith, ints))

-- A factor goes into both.
times_sub : (n x y : ℕ) → pos n *ℤ sub_ℕ x y ≡ pos (n * x) -ℤ pos (n * y)
times_sub n x y = cond_both (ltb x y) (negsuc (y - suc x)) (pos (x - y)) (λ z. pos n *ℤ z ≡ pos (n * x) -ℤ pos (n * y))
    (λ e.
    let h = ltb-true x y e in
    let d : ℕ = y - suc x in
    let s : x + suc d ≡ y = omega arith in
    let m : n * (x + suc d) ≡ n * x + n * suc d = mul-add n x (suc d) in
    let k : n * (x + suc d) ≡ n * y = ap (λ z. n * z) s in
    pos-*ℤ-negsuc n d ∙ omega (arith, ints, m, k))
    (λ e.
    let h = ltb-false x y e in
    let d : ℕ = x - y in
    let s : y + d ≡ x = omega arith in
    let m : n * (y + d) ≡ n * y + n * d = mul-add n y d in
    let k : n * (y + d) ≡ n * x = ap (λ z. n * z) s in
    pos-*ℤ-pos n d ∙ omega (arith, ints, m, k))

one_claim : (x y : Bool) (z : ℤ) (p q : ℕ) → z ≡ pos p -ℤ pos q → cond x z (pos 0) -ℤ cond y z (pos 0) ≡ pos (cond x p 0 + cond y q 0) -ℤ pos (cond x q 0 + cond y p 0)
one_claim true true z p q e = omega (arith, ints)
one_claim true false z p q e = omega (arith, ints)
one_claim false true z p q e = omega (arith, ints)
one_claim false false z p q e = omega (arith, ints)

abbrev pub gains : Contents → List Line → ℕ → ℕ
gains b ls agent = summed UnsettledAtMarket b to_buyer ls agent + summed UnsettledAtInvoice b to_seller ls agent

abbrev pub losses : Contents → List Line → ℕ → ℕ
losses b ls agent = summed UnsettledAtInvoice b to_buyer ls agent + summed UnsettledAtMarket b to_seller ls agent

split : (b : Contents) (ls : List Line) (agent : ℕ) → sumℤ (claim_on b agent) ls ≡ pos (gains b ls agent) -ℤ pos (losses b ls agent)
split b [] agent = omega (arith, ints)
split b (l ∷ ls) agent =
    let rest = split b ls agent in
    let n : ℕ = unsettled l * b.terms.multiplier in
    let one = one_claim (eqb (buyer_agent b l) agent) (eqb (seller_agent b l) agent) (differences b l) (n * (asset_at b l.asset).market) (n * invoice b l.asset) (times_sub n (asset_at b l.asset).market (invoice b l.asset)) in
    let mb = sum_by-cons (λ x. cond (eqb (agent_on to_buyer b x) agent) (measured UnsettledAtMarket b x) 0) l ls in
    let ms = sum_by-cons (λ x. cond (eqb (agent_on to_seller b x) agent) (measured UnsettledAtMarket b x) 0) l ls in
    let ib = sum_by-cons (λ x. cond (eqb (agent_on to_buyer b x) agent) (measured UnsettledAtInvoice b x) 0) l ls in
    let is = sum_by-cons (λ x. cond (eqb (agent_on to_seller b x) agent) (measured UnsettledAtInvoice b x) 0) l ls in
    omega (arith, ints, rest, one, mb, ms, ib, is)

pub claims_split : (b : Contents) (ls : List Line) (agent : ℕ) → sub_ℕ (gains b ls agent) (losses b ls agent) ≡ sumℤ (claim_on b agent) ls
claims_split b ls agent = sub_is (gains b ls agent) (losses b ls agent) ∙ sym (split b ls agent)
