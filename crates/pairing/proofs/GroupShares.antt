-- No pairing has more contracts within a group than its holders buy, or than they sell.
use Rattle.std.proofs.Common.{◌≡◌, ℕ, ◌+◌, ◌<◌, ◌≤◌, Bool, true, false, cond, not, ◌&&◌, eqb, List, [], ◌∷◌, length, sym, refl, ap, ◌∙◌, arith}
use Rattle.std.proofs.lemmas.List.Sums.{sum_by-cons}
use Rattle.std.proofs.ByRecursion.{All-weaker}
use Rattle.std.proofs.lemmas.Bool.{eq-eqb}
use Rattle.pairing.specs.declared.pair.Unpaired.{Unpaired}
use Rattle.pairing.specs.declared.pair.Pair.{Pair}
use Rattle.pairing.specs.declared.stage.Group.{Group}
use Rattle.pairing.specs.declared.stage.Stage.{Stage}
use Rattle.pairing.specs.Pairing.{key, less, paired}
use Rattle.pairing.specs.InWords.{at, volume_of, bought, sold}
use Rattle.pairing.proofs.PairRelations.{contracts_of, Sides, Pairing, within}
use Rattle.pairing.proofs.LoweredHolders.{key_less, paired_length, paired_keeps, paired_volume, paired_volume_of}

-- The first pair of a pairing taken away leaves a pairing of what is left.
module _ (hs : List Unpaired) (p : Pair) (ps : List Pair) (all : Pairing hs (p ∷ ps)) where
  here : Sides hs p
  here = all.sides.0

  count : (k : ℕ) → k < length hs → (at hs k).volume ≡ (cond (eqb p.buyer k) p.contracts 0 + cond (eqb p.seller k) p.contracts 0) + contracts_of k ps
  count k h = sym (all.sums k h) ∙ sum_by-cons (λ q. cond (eqb q.buyer k) q.contracts 0 + cond (eqb q.seller k) q.contracts 0) p ps

  buyer_has : p.contracts ≤ (at hs p.buyer).volume
  buyer_has = let e = count p.buyer here.0 in let t = eq-eqb p.buyer p.buyer refl in
      let f = ap (λ b. cond b p.contracts 0) t in omega (arith, e, f)

  seller_has : p.contracts ≤ (at hs p.seller).volume
  seller_has = let e = count p.seller here.1 in let t = eq-eqb p.seller p.seller refl in
      let f = ap (λ b. cond b p.contracts 0) t in omega (arith, e, f)

  pub rest : Pairing (paired p hs) ps
  rest = record {
    sides = All-weaker (Sides hs) (Sides (paired p hs)) (λ q s.
        let e = paired_length hs p here.0 here.1 here.2 here.3 buyer_has seller_has in (
          rw e s.0,
          rw e s.1,
          kept (λ h. h.buys) (λ n h. refl) q.buyer ∙ s.2,
          kept (λ h. h.buys) (λ n h. refl) q.seller ∙ s.3,
        )) ps all.sides.1;
    sums = λ k h. let e = count k (rw (paired_length hs p here.0 here.1 here.2 here.3 buyer_has seller_has) at h) in
        let f = paired_volume hs p here.0 here.1 here.2 here.3 buyer_has seller_has k in omega (arith, e, f);
  }
    where
      kept : {Y : Type 0} (f : Unpaired → Y) → ((n : ℕ) (h : Unpaired) → f (less n h) ≡ f h) → (k : ℕ) → f (at (paired p hs) k) ≡ f (at hs k)
      kept = paired_keeps hs p here.0 here.1 here.2 here.3 buyer_has seller_has

  pub taken : (passes : Unpaired → Bool) → ((n : ℕ) (h : Unpaired) → passes (less n h) ≡ passes h)
      → volume_of passes hs ≡ (cond (passes (at hs p.buyer)) p.contracts 0 + cond (passes (at hs p.seller)) p.contracts 0) + volume_of passes (paired p hs)
  taken = paired_volume_of hs p here.0 here.1 here.2 here.3 buyer_has seller_has

  pub placed : (stage : Stage) (k : ℕ) → key stage (at (paired p hs) k) ≡ key stage (at hs k)
  placed stage = paired_keeps hs p here.0 here.1 here.2 here.3 buyer_has seller_has (key stage) (key_less stage)

both_le_left : (x y : Bool) (n : ℕ) → cond (x && y) n 0 ≤ cond x n 0
both_le_left true true n = omega arith
both_le_left true false n = omega arith
both_le_left false true n = omega arith
both_le_left false false n = omega arith

both_le_right : (x y : Bool) (n : ℕ) → cond (x && y) n 0 ≤ cond y n 0
both_le_right true true n = omega arith
both_le_right true false n = omega arith
both_le_right false true n = omega arith
both_le_right false false n = omega arith

-- No pairing has more contracts within a group than the group bought, nor than it sold.
module _ (g : Group) (place : ℕ → ℕ) where
  near : Unpaired → Bool
  near h = eqb (key g.stage h) g.number

  pub at_most : (ps : List Pair) (hs : List Unpaired) → ((k : ℕ) → key g.stage (at hs k) ≡ place k) → Pairing hs ps
      → (within place g.number ps ≤ bought g hs) × (within place g.number ps ≤ sold g hs)
  at_most [] hs same all = (omega arith, omega arith)
  at_most (p ∷ ps) hs same all =
      let c = p.contracts in
      let n = g.number in
      let ih = at_most ps (paired p hs) (λ k. placed hs p ps all g.stage k ∙ same k) (rest hs p ps all) in
      let w = sum_by-cons (λ q. cond (eqb (place q.buyer) n && eqb (place q.seller) n) q.contracts 0) p ps in
      let b = taken hs p ps all (λ h. h.buys && eqb (key g.stage h) n) (λ m h. ap (λ j. h.buys && eqb j n) (key_less g.stage m h)) in
      let s = taken hs p ps all (λ h. not h.buys && eqb (key g.stage h) n) (λ m h. ap (λ j. not h.buys && eqb j n) (key_less g.stage m h)) in
      let bx : cond ((at hs p.buyer).buys && eqb (key g.stage (at hs p.buyer)) n) c 0 ≡ cond (eqb (place p.buyer) n) c 0
      = rw (all.sides.0.2, same p.buyer) in
      let sx : cond (not (at hs p.seller).buys && eqb (key g.stage (at hs p.seller)) n) c 0 ≡ cond (eqb (place p.seller) n) c 0
      = rw (all.sides.0.3, same p.seller) in
      let l = both_le_left (eqb (place p.buyer) n) (eqb (place p.seller) n) c in
      let r = both_le_right (eqb (place p.buyer) n) (eqb (place p.seller) n) c in
      (omega (arith, ih.0, w, b, bx, l), omega (arith, ih.1, w, s, sx, r))
