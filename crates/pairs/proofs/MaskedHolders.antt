-- The first holder that stands for the next pair is the first open one of the masked holders.
use Rattle.std.proofs.Common.{◌≡◌, ℕ, ◌+◌, ◌<◌, min, Bool, true, false, not, eqb, List, [], ◌∷◌, ◌++◌, map, length, get_or, take, drop, set, IfSome, Some, None, Option, sym, refl, ap, ◌∙◌, arith}
use Rattle.std.proofs.lemmas.List.{get_or-map, length-map, drop_more, take_more_set, map_more, drop-set-lt}
use Rattle.std.proofs.lemmas.Bool.{true≢false, and_parts}
use Rattle.order.specs.First.{FirstOpen, first, place_of}
use Rattle.pairing.specs.declared.pair.Unpaired.{Unpaired}
use Rattle.pairing.specs.declared.stage.Group.{Group}
use Rattle.pairing.specs.declared.stage.Stage.{Stage}
use Rattle.pairing.specs.Orders.{holder_leq, holder_open}
use Rattle.pairing.specs.Pairing.{key, no_holder, side_in, on_side, pair_of}
use Rattle.pairing.specs.InWords.{at}
use Rattle.pairs.specs.declared.search.Choice.{Choice}
use Rattle.pairs.specs.declared.search.Choice.TheVariants.{EqualVolumes, Firsts}
use Rattle.pairs.specs.Search.{passes, masked}
use Rattle.order.proofs.FirstIs.{first_is, none_passes, first_some}

open_masked : (t : Bool) (h : Unpaired) → holder_open (masked t h) ≡ true → (t ≡ true) × (masked t h ≡ h)
open_masked true h e = (refl, refl)
open_masked false h e = absurd (true≢false (sym e))

-- The first open record among the masked holders is the first of those that pass, where only open holders pass.
module _ (P : Unpaired → Bool) (sound : (h : Unpaired) → P h ≡ true → holder_open h ≡ true) (hs : List Unpaired) where
  masked_at : (k : ℕ) → k < length hs → get_or (map (λ h. masked (P h) h) hs) k no_holder ≡ masked (P (at hs k)) (at hs k)
  masked_at k h = get_or-map (λ x. masked (P x) x) hs k no_holder no_holder h

  same_at : (k : ℕ) → k < length hs → P (at hs k) ≡ true → get_or (map (λ h. masked (P h) h) hs) k no_holder ≡ at hs k
  same_at k h p = masked_at k h ∙ ap (λ t. masked t (at hs k)) p

  open_at : (k : ℕ) → k < length hs → P (at hs k) ≡ true → holder_open (get_or (map (λ h. masked (P h) h) hs) k no_holder) ≡ true
  open_at k h p = ap holder_open (same_at k h p) ∙ sound (at hs k) p

  pub masked_first : (r : Option ℕ) → FirstOpen holder_leq holder_open (map (λ h. masked (P h) h) hs) r
      → r ≡ place_of (first holder_leq P hs)
  masked_first None shut = sym (ap place_of (none_passes holder_leq P hs no_holder (λ k h. go k h (P (at hs k)) refl)))
    where
      go : (k : ℕ) → k < length hs → (t : Bool) → P (at hs k) ≡ t → P (at hs k) ≡ false
      go k h true e = absurd (true≢false (sym (open_at k h e) ∙ shut k no_holder (rw length-map h)))
      go k h false e = e
  masked_first (Some b) f =
      let in_b : b < length hs = rw length-map at f.within in
      let pb : P (at hs b) ≡ true = (open_masked (P (at hs b)) (at hs b) (ap holder_open (sym (masked_at b in_b)) ∙ f.passing no_holder)).0 in
      let eb = same_at b in_b pb in
      sym (ap place_of (first_is holder_leq P hs b no_holder in_b pb
      (λ k h p. sym (ap (λ x. holder_leq x (at hs k)) eb) ∙ sym (ap (holder_leq (get_or (map (λ x. masked (P x) x) hs) b no_holder)) (same_at k h p)) ∙ f.least k no_holder (rw length-map h) (open_at k h p))
      (λ k h p. let kh : k < length hs = omega (arith, in_b, h) in
      sym (ap (λ x. holder_leq x (at hs b)) (same_at k kh p)) ∙ sym (ap (holder_leq (get_or (map (λ x. masked (P x) x) hs) k no_holder)) eb) ∙ f.earliest k no_holder h (open_at k kh p))))

-- One holder more is masked.
pub mask_more : (P : Unpaired → Bool) (hs ms : List Unpaired) (i : ℕ) (y : Unpaired) → length ms ≡ length hs → i < length ms
    → y ≡ masked (P (get_or ms i no_holder)) (get_or ms i no_holder)
    → take i ms ≡ map (λ h. masked (P h) h) (take i hs) → drop i ms ≡ drop i hs
    → (take (i + 1) (set ms i y) ≡ map (λ h. masked (P h) h) (take (i + 1) hs)) × (drop (i + 1) (set ms i y) ≡ drop (i + 1) hs)
mask_more P hs ms i y long h is front back =
    let f : Unpaired → Unpaired = λ x. masked (P x) x in
    let both : get_or ms i no_holder ∷ drop (i + 1) ms ≡ get_or hs i no_holder ∷ drop (i + 1) hs
    = sym (drop_more ms i no_holder h) ∙ back ∙ drop_more hs i no_holder (omega (arith, h, long)) in
    let here : get_or ms i no_holder ≡ get_or hs i no_holder = cc in
    let later : drop (i + 1) ms ≡ drop (i + 1) hs = cc in (
      take_more_set ms i y h ∙ ap (λ (l : List Unpaired). l ++ y ∷ []) front ∙ ap (λ (x : Unpaired). map f (take i hs) ++ x ∷ []) (is ∙ ap f here)
          ∙ sym (map_more f hs i no_holder (omega (arith, h, long))),
      drop-set-lt (i + 1) ms i y (omega arith) ∙ later,
    )

pub first_open_found : {X : Type 0} (leq : X → X → Bool) (is_open : X → Bool) (xs : List X) (r : Option ℕ) → FirstOpen leq is_open xs r → IfSome r (λ b. b < length xs)
first_open_found leq is_open xs None f = tt
first_open_found leq is_open xs (Some b) f = f.within

side_open : (g : Group) (buys : Bool) (h : Unpaired) → side_in g buys h ≡ true → holder_open h ≡ true
side_open g buys h e = (and_parts (holder_open h) _ (and_parts (eqb (key g.stage h) g.number) _ e).1).0

pub passes_open : (g : Group) (buys : Bool) (choice : Choice) (hs : List Unpaired) (h : Unpaired) → passes g buys choice hs h ≡ true → holder_open h ≡ true
passes_open g buys EqualVolumes hs h e = side_open g buys h (and_parts (side_in g buys h) (on_side g (not buys) hs h.volume) e).0
passes_open g buys Firsts hs h e = side_open g buys h e

pub pair_found : (stage : Stage) (B S : Unpaired → Bool) (hs : List Unpaired) (b s n : ℕ)
    → Some b ≡ place_of (first holder_leq B hs) → Some s ≡ place_of (first holder_leq S hs) → n ≡ min (at hs b).volume (at hs s).volume
    → Some (record { stage = stage; buyer = b; seller = s; contracts = n }) ≡ pair_of stage (first holder_leq B hs) (first holder_leq S hs)
pair_found stage B S hs b s n eb es en = go (first holder_leq B hs) (first holder_leq S hs) refl refl eb es
  where
    go : (o q : Option (ℕ × Unpaired)) → first holder_leq B hs ≡ o → first holder_leq S hs ≡ q → Some b ≡ place_of o → Some s ≡ place_of q
        → Some (record { stage = stage; buyer = b; seller = s; contracts = n }) ≡ pair_of stage o q
    go None q fo fq e f = let z : ◌≡◌ {A = ℕ} 0 1 = cc in absurd (omega arith)
    go (Some (i, x)) None fo fq e f = let z : ◌≡◌ {A = ℕ} 0 1 = cc in absurd (omega arith)
    go (Some (i, x)) (Some (j, y)) fo fq e f =
        let bi : b ≡ i = cc in
        let sj : s ≡ j = cc in
        let fx = (first_some holder_leq B hs i x no_holder fo).1 in
        let fy = (first_some holder_leq S hs j y no_holder fq).1 in
        let nx : n ≡ min x.volume y.volume = en ∙ ap (λ k. min (at hs k).volume (at hs s).volume) bi ∙ ap (λ k. min (at hs i).volume (at hs k).volume) sj
        ∙ ap (λ h. min h.volume (at hs j).volume) fx ∙ ap (λ h. min x.volume h.volume) fy in
        cc
