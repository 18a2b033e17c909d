-- What taking a pair off its two holders leaves.
use Rattle.std.proofs.Common.{◌≡◌, ℕ, ◌+◌, ◌-◌, ◌<◌, ◌≤◌, Bool, true, false, cond, eqb, ◌≢◌, List, length, get_or, sym, refl, ap, ◌∙◌, subst, ⊎_elim, arith}
use Rattle.std.proofs.lemmas.List.{length-set, get_or-set_same, get_or-set_other}
use Rattle.std.proofs.lemmas.List.Sums.{sum_by-set}
use Rattle.std.proofs.lemmas.Bool.{true≢false, cases_eq, eq-eqb, ne_eqb}
use Rattle.pairing.specs.declared.pair.Unpaired.{Unpaired}
use Rattle.pairing.specs.declared.pair.Pair.{Pair}
use Rattle.pairing.specs.declared.stage.Stage.{Stage}
use Rattle.pairing.specs.declared.stage.Stage.TheVariants.{Member, Clearing, Agent, Whole}
use Rattle.pairing.specs.Pairing.{key, less, lower, no_holder, paired}
use Rattle.pairing.specs.InWords.{at, volume_of}

-- ---- a part of a holder that does not change with its volume

pub key_less : (stage : Stage) (n : ℕ) (h : Unpaired) → key stage (less n h) ≡ key stage h
key_less Member n h = refl
key_less Clearing n h = refl
key_less Agent n h = refl
key_less Whole n h = refl

pub lower_keeps : {Y : Type 0} (f : Unpaired → Y) → ((n : ℕ) (h : Unpaired) → f (less n h) ≡ f h)
    → (n i k : ℕ) (hs : List Unpaired) → i < length hs → f (at (lower n i hs) k) ≡ f (at hs k)
lower_keeps f same n i k hs in_range = ⊎_elim
    (λ e. ap f (ap (λ j. get_or (lower n i hs) j no_holder) e ∙ get_or-set_same hs i (less n (at hs i)) no_holder in_range) ∙ same n (at hs i) ∙ ap (λ j. f (at hs j)) (sym e))
    (λ ne. ap f (get_or-set_other hs i k (less n (at hs i)) no_holder ne))
    (cases_eq k i)

-- ---- the volume of the holders that pass falls by what is taken

pub lower_volume_of : (passes : Unpaired → Bool) → ((n : ℕ) (h : Unpaired) → passes (less n h) ≡ passes h)
    → (n i : ℕ) (hs : List Unpaired) → i < length hs → n ≤ (at hs i).volume
    → volume_of passes hs ≡ cond (passes (at hs i)) n 0 + volume_of passes (lower n i hs)
lower_volume_of passes same n i hs in_range has =
    let f : Unpaired → ℕ = λ h. cond (passes h) h.volume 0 in
    let e = sum_by-set f hs i (less n (at hs i)) no_holder in_range in
    go (passes (at hs i)) (volume_of passes (lower n i hs)) (volume_of passes hs)
    (subst (λ t. volume_of passes (lower n i hs) + cond (passes (at hs i)) (at hs i).volume 0 ≡ volume_of passes hs + cond t ((at hs i).volume - n) 0) (same n (at hs i)) e)
  where
    go : (t : Bool) (a b : ℕ) → a + cond t (at hs i).volume 0 ≡ b + cond t ((at hs i).volume - n) 0 → b ≡ cond t n 0 + a
    go true a b e = omega arith
    go false a b e = omega arith

pub lower_volume : (n i k : ℕ) (hs : List Unpaired) → i < length hs → n ≤ (at hs i).volume
    → (at hs k).volume ≡ cond (eqb i k) n 0 + (at (lower n i hs) k).volume
lower_volume n i k hs in_range has = ⊎_elim here elsewhere (cases_eq i k)
  where
    here : i ≡ k → (at hs k).volume ≡ cond (eqb i k) n 0 + (at (lower n i hs) k).volume
    here e = subst (λ j. (at hs j).volume ≡ cond (eqb i j) n 0 + (at (lower n i hs) j).volume) e
        (let a = eq-eqb i i refl in let b = get_or-set_same hs i (less n (at hs i)) no_holder in_range in
        rw (a, b) (omega arith))

    elsewhere : (i ≡ k → ⊥) → (at hs k).volume ≡ cond (eqb i k) n 0 + (at (lower n i hs) k).volume
    elsewhere ne = let a = ne_eqb i k ne in let b = get_or-set_other hs i k (less n (at hs i)) no_holder (λ e. ne (sym e)) in
        rw (a, b) (omega arith)

-- ---- a pair

module _ (hs : List Unpaired) (p : Pair) (buyer_in : p.buyer < length hs) (seller_in : p.seller < length hs)
    (buys : (at hs p.buyer).buys ≡ true) (sells : (at hs p.seller).buys ≡ false)
    (buyer_has : p.contracts ≤ (at hs p.buyer).volume) (seller_has : p.contracts ≤ (at hs p.seller).volume) where
  pub apart : p.seller ≢ p.buyer
  apart e = true≢false (sym buys ∙ ap (λ i. (at hs i).buys) (sym e) ∙ sells)

  seller_same : at (lower p.contracts p.buyer hs) p.seller ≡ at hs p.seller
  seller_same = get_or-set_other hs p.buyer p.seller (less p.contracts (at hs p.buyer)) no_holder apart

  seller_still_in : p.seller < length (lower p.contracts p.buyer hs)
  seller_still_in = rw length-set seller_in

  pub paired_length : length (paired p hs) ≡ length hs
  paired_length = simp length-set

  pub paired_keeps : {Y : Type 0} (f : Unpaired → Y) → ((n : ℕ) (h : Unpaired) → f (less n h) ≡ f h) → (k : ℕ) → f (at (paired p hs) k) ≡ f (at hs k)
  paired_keeps f same k = lower_keeps f same p.contracts p.seller k (lower p.contracts p.buyer hs) seller_still_in
      ∙ lower_keeps f same p.contracts p.buyer k hs buyer_in

  pub paired_volume_of : (passes : Unpaired → Bool) → ((n : ℕ) (h : Unpaired) → passes (less n h) ≡ passes h)
      → volume_of passes hs ≡ (cond (passes (at hs p.buyer)) p.contracts 0 + cond (passes (at hs p.seller)) p.contracts 0) + volume_of passes (paired p hs)
  paired_volume_of passes same =
      let e = lower_volume_of passes same p.contracts p.buyer hs buyer_in buyer_has in
      let f = lower_volume_of passes same p.contracts p.seller (lower p.contracts p.buyer hs) seller_still_in (rw seller_same seller_has) in
      let g = ap (λ h. cond (passes h) p.contracts 0) seller_same in
      omega (arith, e, f, g)

  -- what each holder has left
  pub paired_volume : (k : ℕ) → (at hs k).volume ≡ (cond (eqb p.buyer k) p.contracts 0 + cond (eqb p.seller k) p.contracts 0) + (at (paired p hs) k).volume
  paired_volume k =
      let e = lower_volume p.contracts p.buyer k hs buyer_in buyer_has in
      let f = lower_volume p.contracts p.seller k (lower p.contracts p.buyer hs) seller_still_in (rw seller_same seller_has) in
      omega (arith, e, f)
