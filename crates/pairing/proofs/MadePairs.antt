-- What fair pairs made one after the other have: sums, sides, nearness and number.
use Rattle.std.proofs.Common.{◌≡◌, ℕ, ◌+◌, ◌-◌, ◌<◌, ◌≤◌, Bool, true, false, cond, not, ◌&&◌, eqb, ltb, List, ◌++◌, length, sym, refl, ap, ◌∙◌, ⊎_elim, arith}
use Rattle.std.proofs.lemmas.List.Sums.{sum_by-cons, get_or-le-sum_by, sum_by-set}
use Rattle.std.proofs.lemmas.List.{get_or-set_same, get_or-set_other, length-set}
use Rattle.std.proofs.lemmas.Bool.{cases_lt, lt-ltb, le-ltb}
use Rattle.std.proofs.ByRecursion.{All-weaker}
use Rattle.std.specs.List.{AllByRecursion}
use Rattle.pairing.specs.declared.pair.Unpaired.{Unpaired}
use Rattle.pairing.specs.declared.pair.Pair.{Pair}
use Rattle.pairing.specs.declared.stage.Group.{Group}
use Rattle.pairing.specs.declared.stage.Stage.{Stage}
use Rattle.pairing.specs.declared.stage.Stage.TheVariants.{Member, Clearing, Agent, Whole}
use Rattle.pairing.specs.Pairing.{key, less, lower, no_holder, paired}
use Rattle.pairing.specs.InWords.{at, volume_of, bought, sold, Emptied}
use Rattle.pairing.proofs.PairRelations.{contracts_of, Sides, Pairing, within, whole, Nested, rank, open_count, Fair, Made, none, one}
use Rattle.pairing.proofs.LoweredHolders as step

-- ---- a fair pair

module _ {g : Group} {hs : List Unpaired} {p : Pair} (f : Fair g hs p) where
  pub fair_length : length (paired p hs) ≡ length hs
  fair_length = step.paired_length hs p f.buyer_in f.seller_in f.buys f.sells f.buyer_has f.seller_has

  pub fair_keeps : {Y : Type 0} (h : Unpaired → Y) → ((n : ℕ) (x : Unpaired) → h (less n x) ≡ h x) → (k : ℕ) → h (at (paired p hs) k) ≡ h (at hs k)
  fair_keeps = step.paired_keeps hs p f.buyer_in f.seller_in f.buys f.sells f.buyer_has f.seller_has

  pub fair_volume : (k : ℕ) → (at hs k).volume ≡ (cond (eqb p.buyer k) p.contracts 0 + cond (eqb p.seller k) p.contracts 0) + (at (paired p hs) k).volume
  fair_volume = step.paired_volume hs p f.buyer_in f.seller_in f.buys f.sells f.buyer_has f.seller_has

  pub fair_volume_of : (passes : Unpaired → Bool) → ((n : ℕ) (h : Unpaired) → passes (less n h) ≡ passes h)
      → volume_of passes hs ≡ (cond (passes (at hs p.buyer)) p.contracts 0 + cond (passes (at hs p.seller)) p.contracts 0) + volume_of passes (paired p hs)
  fair_volume_of = step.paired_volume_of hs p f.buyer_in f.seller_in f.buys f.sells f.buyer_has f.seller_has

  pub fair_sides : (ps : List Pair) → AllByRecursion (Sides (paired p hs)) ps → AllByRecursion (Sides hs) ps
  fair_sides ps = All-weaker (Sides (paired p hs)) (Sides hs) (λ q s. (
    rw fair_length at s.0,
    rw fair_length at s.1,
    sym (fair_keeps (λ h. h.buys) (λ n h. refl) q.buyer) ∙ s.2,
    sym (fair_keeps (λ h. h.buys) (λ n h. refl) q.seller) ∙ s.3,
  )) ps

  -- what a group bought and sold falls by what its own holders have in the pair
  pub fair_bought : (stage : Stage) (n : ℕ) → bought (record { stage = stage; number = n }) hs
      ≡ cond (eqb (key stage (at hs p.buyer)) n) p.contracts 0 + bought (record { stage = stage; number = n }) (paired p hs)
  fair_bought stage n =
      let e = fair_volume_of (λ h. h.buys && eqb (key stage h) n) (λ m h. ap (λ j. h.buys && eqb j n) (step.key_less stage m h)) in
      let b : cond ((at hs p.buyer).buys && eqb (key stage (at hs p.buyer)) n) p.contracts 0 ≡ cond (eqb (key stage (at hs p.buyer)) n) p.contracts 0
      = ap (λ t. cond (t && eqb (key stage (at hs p.buyer)) n) p.contracts 0) f.buys in
      let s : cond ((at hs p.seller).buys && eqb (key stage (at hs p.seller)) n) p.contracts 0 ≡ 0
      = ap (λ t. cond (t && eqb (key stage (at hs p.seller)) n) p.contracts 0) f.sells in
      omega (arith, e, b, s)

  pub fair_sold : (stage : Stage) (n : ℕ) → sold (record { stage = stage; number = n }) hs
      ≡ cond (eqb (key stage (at hs p.seller)) n) p.contracts 0 + sold (record { stage = stage; number = n }) (paired p hs)
  fair_sold stage n =
      let e = fair_volume_of (λ h. not h.buys && eqb (key stage h) n) (λ m h. ap (λ j. not h.buys && eqb j n) (step.key_less stage m h)) in
      let b : cond (not (at hs p.buyer).buys && eqb (key stage (at hs p.buyer)) n) p.contracts 0 ≡ 0
      = ap (λ t. cond (not t && eqb (key stage (at hs p.buyer)) n) p.contracts 0) f.buys in
      let s : cond (not (at hs p.seller).buys && eqb (key stage (at hs p.seller)) n) p.contracts 0 ≡ cond (eqb (key stage (at hs p.seller)) n) p.contracts 0
      = ap (λ t. cond (not t && eqb (key stage (at hs p.seller)) n) p.contracts 0) f.sells in
      omega (arith, e, b, s)

-- ---- pairs made one after the other

module _ {G : Group → Type 0} where
  pub made_length : {ps : List Pair} {hs ks : List Unpaired} → Made G hs ps ks → length ks ≡ length hs
  made_length none = refl
  made_length (one g ok f m) = made_length m ∙ fair_length f

  pub made_keeps : {Y : Type 0} (h : Unpaired → Y) → ((n : ℕ) (x : Unpaired) → h (less n x) ≡ h x) → (k : ℕ)
      → {ps : List Pair} {hs ks : List Unpaired} → Made G hs ps ks → h (at ks k) ≡ h (at hs k)
  made_keeps h same k none = refl
  made_keeps h same k (one g ok f m) = made_keeps h same k m ∙ fair_keeps f h same k

  pub made_sides : {ps : List Pair} {hs ks : List Unpaired} → Made G hs ps ks → AllByRecursion (Sides hs) ps
  made_sides none = tt
  made_sides (one {ps = ps} g ok f m) = ((f.buyer_in, f.seller_in, f.buys, f.sells), fair_sides f ps (made_sides m))

  pub made_volume : (k : ℕ) {ps : List Pair} {hs ks : List Unpaired} → Made G hs ps ks → (at hs k).volume ≡ contracts_of k ps + (at ks k).volume
  made_volume k none = omega arith
  made_volume k (one {p = p} {ps = ps} g ok f m) =
      let ih = made_volume k m in let e = fair_volume f k in
      let w = sum_by-cons (λ q. cond (eqb q.buyer k) q.contracts 0 + cond (eqb q.seller k) q.contracts 0) p ps in
      omega (arith, ih, e, w)

  -- both sides of the whole book fall alike
  pub made_balance : {ps : List Pair} {hs ks : List Unpaired} → Made G hs ps ks → bought whole hs + sold whole ks ≡ sold whole hs + bought whole ks
  made_balance none = omega arith
  made_balance (one g ok f m) =
      let ih = made_balance m in let b = fair_bought f Whole 0 in let s = fair_sold f Whole 0 in omega (arith, ih, b, s)

  pub made_append : {ps qs : List Pair} {hs ks ls : List Unpaired} → Made G hs ps ks → Made G ks qs ls → Made G hs (ps ++ qs) ls
  made_append none n = n
  made_append (one g ok f m) n = one g ok f (made_append m n)

-- ---- a pairing of the book

module _ {G : Group → Type 0} {ps : List Pair} {hs ks : List Unpaired} (m : Made G hs ps ks)
    (fair_book : bought whole hs ≡ sold whole hs) (ended : Emptied whole ks) where
  used_up : (k : ℕ) → k < length ks → (at ks k).volume ≡ 0
  used_up k h =
      let both : (bought whole ks ≡ 0) × (sold whole ks ≡ 0)
      = let e = made_balance m in ⊎_elim (λ b. (b, omega arith)) (λ s. (omega arith, s)) ended in
      let b = get_or-le-sum_by (λ x. cond (x.buys && eqb 0 0) x.volume 0) ks k no_holder h in
      let s = get_or-le-sum_by (λ x. cond (not x.buys && eqb 0 0) x.volume 0) ks k no_holder h in
      go (at ks k).buys (at ks k).volume (bought whole ks) (sold whole ks) both.0 both.1 b s
    where
      go : (t : Bool) (v x y : ℕ) → x ≡ 0 → y ≡ 0 → cond (t && eqb 0 0) v 0 ≤ x → cond (not t && eqb 0 0) v 0 ≤ y → v ≡ 0
      go true v x y xz yz b s = omega arith
      go false v x y xz yz b s = omega arith

  pub made_pairing : Pairing hs ps
  made_pairing = record {
    sides = made_sides m;
    sums = λ k h. let z = used_up k (rw (made_length m) h) in let e = made_volume k m in omega (arith, z, e);
  }

  pub all_used : (k : ℕ) → k < length ks → (at ks k).volume ≡ 0
  all_used = used_up

-- ---- near pairs

nested_key : (a b : Stage) → rank a ≤ rank b → (hs : List Unpaired) → Nested hs → (i k : ℕ) → i < length hs → k < length hs
    → key a (at hs i) ≡ key a (at hs k) → key b (at hs i) ≡ key b (at hs k)
nested_key Member Member le hs nest i k hi hk e = e
nested_key Member Clearing le hs nest i k hi hk e = (nest i k hi hk).0 e
nested_key Member Agent le hs nest i k hi hk e = (nest i k hi hk).1 ((nest i k hi hk).0 e)
nested_key Member Whole le hs nest i k hi hk e = refl
nested_key Clearing Member le hs nest i k hi hk e = absurd (omega arith)
nested_key Clearing Clearing le hs nest i k hi hk e = e
nested_key Clearing Agent le hs nest i k hi hk e = (nest i k hi hk).1 e
nested_key Clearing Whole le hs nest i k hi hk e = refl
nested_key Agent Member le hs nest i k hi hk e = absurd (omega arith)
nested_key Agent Clearing le hs nest i k hi hk e = absurd (omega arith)
nested_key Agent Agent le hs nest i k hi hk e = e
nested_key Agent Whole le hs nest i k hi hk e = refl
nested_key Whole Member le hs nest i k hi hk e = absurd (omega arith)
nested_key Whole Clearing le hs nest i k hi hk e = absurd (omega arith)
nested_key Whole Agent le hs nest i k hi hk e = absurd (omega arith)
nested_key Whole Whole le hs nest i k hi hk e = e

both_same : (t : Bool) (n : ℕ) → cond (t && t) n 0 ≡ cond t n 0
both_same true n = refl
both_same false n = refl

fair_nested : {g : Group} {hs : List Unpaired} {p : Pair} → Fair g hs p → Nested hs → Nested (paired p hs)
fair_nested {hs = hs} {p = p} f nest i k hi hk =
    let n = nest i k (rw (fair_length f) at hi) (rw (fair_length f) at hk) in
    let same : (j : ℕ) (stage : Stage) → key stage (at (paired p hs) j) ≡ key stage (at hs j) = λ j stage. fair_keeps f (key stage) (step.key_less stage) j in (
      (λ e. same i Clearing ∙ n.0 (sym (same i Member) ∙ e ∙ same k Member) ∙ sym (same k Clearing)),
      (λ e. same i Agent ∙ n.1 (sym (same i Clearing) ∙ e ∙ same k Clearing) ∙ sym (same k Agent)),
    )

-- While only groups of this stage or a finer one are paired, what a group has bought or sold less is within it.
module _ (stage : Stage) (n : ℕ) (place : ℕ → ℕ) {G : Group → Type 0} (finer : (g : Group) → G g → rank g.stage ≤ rank stage) where
  pub made_near : {ps : List Pair} {hs ks : List Unpaired} → Nested hs → ((k : ℕ) → key stage (at hs k) ≡ place k) → Made G hs ps ks
      → (bought (record { stage = stage; number = n }) hs ≡ within place n ps + bought (record { stage = stage; number = n }) ks)
      × (sold (record { stage = stage; number = n }) hs ≡ within place n ps + sold (record { stage = stage; number = n }) ks)
  made_near nest same none = (omega arith, omega arith)
  made_near nest same (one {p = p} {ps = ps} {hs = hs} g ok f m) =
      let ih = made_near (fair_nested f nest) (λ k. fair_keeps f (key stage) (step.key_less stage) k ∙ same k) m in
      let b = fair_bought f stage n in
      let s = fair_sold f stage n in
      let w = sum_by-cons (λ q. cond (eqb (place q.buyer) n && eqb (place q.seller) n) q.contracts 0) p ps in
      let near : key stage (at hs p.buyer) ≡ key stage (at hs p.seller)
      = nested_key g.stage stage (finer g ok) hs nest p.buyer p.seller f.buyer_in f.seller_in (f.buyer_near ∙ sym f.seller_near) in
      let bx : cond (eqb (key stage (at hs p.buyer)) n) p.contracts 0 ≡ cond (eqb (place p.buyer) n) p.contracts 0
      = ap (λ j. cond (eqb j n) p.contracts 0) (same p.buyer) in
      let sx : cond (eqb (key stage (at hs p.seller)) n) p.contracts 0 ≡ cond (eqb (place p.buyer) n) p.contracts 0
      = ap (λ j. cond (eqb j n) p.contracts 0) (sym near ∙ same p.buyer) in
      let wx : cond (eqb (place p.buyer) n && eqb (place p.seller) n) p.contracts 0 ≡ cond (eqb (place p.buyer) n) p.contracts 0
      = ap (λ j. cond (eqb (place p.buyer) n && eqb j n) p.contracts 0) (sym (same p.seller) ∙ sym near ∙ same p.buyer)
      ∙ both_same (eqb (place p.buyer) n) p.contracts in
      (omega (arith, ih.0, b, w, bx, wx), omega (arith, ih.1, s, w, sx, wx))

-- ---- the count of pairs

-- 1 for a volume that is open, else 0
abbrev mark : ℕ → ℕ
mark v = cond (ltb 0 v) 1 0

mark_open : (v : ℕ) → 0 < v → mark v ≡ 1
mark_open v e = ap {A = Bool} {B = ℕ} (λ t. cond t 1 0) (lt-ltb 0 v e)

mark_le : (v : ℕ) → mark v ≤ 1
mark_le v = le1 (ltb 0 v)
  where
    le1 : (t : Bool) → cond {A = ℕ} t 1 0 ≤ 1
    le1 true = omega arith
    le1 false = omega arith

mark_closed : (v n : ℕ) → n ≡ v → mark (v - n) ≡ 0
mark_closed v n e = ap {A = Bool} {B = ℕ} (λ t. cond t 1 0) (le-ltb 0 (v - n) (omega arith))

-- A pair closes its buyer or its seller; where none is left open, it closes both.
module _ {g : Group} {hs : List Unpaired} {p : Pair} (f : Fair g hs p) where
  pub fair_counts : ((open_count (paired p hs)) + 1 ≤ open_count hs) × ((open_count (paired p hs) ≡ 0) → 2 ≤ open_count hs)
  fair_counts =
      let n = p.contracts in
      let ks = lower n p.buyer hs in
      let W : Unpaired → ℕ = λ h. cond (ltb 0 h.volume) 1 0 in
      let ne = step.apart hs p f.buyer_in f.seller_in f.buys f.sells f.buyer_has f.seller_has in
      let same : at ks p.seller ≡ at hs p.seller = get_or-set_other hs p.buyer p.seller (less n (at hs p.buyer)) no_holder ne in
      let in2 : p.seller < length ks = rw length-set f.seller_in in
      let e1 = sum_by-set W hs p.buyer (less n (at hs p.buyer)) no_holder f.buyer_in in
      let e2 = sum_by-set W ks p.seller (less n (at ks p.seller)) no_holder in2 in
      let b1 = mark_open (at hs p.buyer).volume (omega (arith, f.some, f.buyer_has)) in
      let s1 = ap (λ h. mark h.volume) same ∙ mark_open (at hs p.seller).volume (omega (arith, f.some, f.seller_has)) in
      let s2 = ap (λ h. mark (h.volume - n)) same in
      let x = mark ((at hs p.buyer).volume - n) in
      let y = mark ((at ks p.seller).volume - n) in
      let low : x + y ≤ 1 = ⊎_elim
      (λ e. omega (arith, mark_closed (at hs p.buyer).volume n e, mark_le ((at ks p.seller).volume - n)))
      (λ e. omega (arith, mark_le ((at hs p.buyer).volume - n), mark_closed (at hs p.seller).volume n e, s2)) f.closes in
      let at_b : at (paired p hs) p.buyer ≡ less n (at hs p.buyer)
      = get_or-set_other ks p.seller p.buyer (less n (at ks p.seller)) no_holder (λ e. ne (sym e)) ∙ get_or-set_same hs p.buyer (less n (at hs p.buyer)) no_holder f.buyer_in in
      let at_s : at (paired p hs) p.seller ≡ less n (at ks p.seller) = get_or-set_same ks p.seller (less n (at ks p.seller)) no_holder in2 in
      let left_b : x ≤ open_count (paired p hs)
      = omega (arith, ap W at_b, get_or-le-sum_by W (paired p hs) p.buyer no_holder (rw (fair_length f) f.buyer_in)) in
      let left_s : y ≤ open_count (paired p hs)
      = omega (arith, ap W at_s, get_or-le-sum_by W (paired p hs) p.seller no_holder (rw (fair_length f) f.seller_in)) in
      (omega (arith, e1, e2, b1, s1, low), λ z. omega (arith, e1, e2, b1, s1, z, left_b, left_s))

module _ {G : Group → Type 0} where
  pub made_count : {ps : List Pair} {hs ks : List Unpaired} → Made G hs ps ks → length ps + open_count ks ≤ open_count hs
  made_count none = omega arith
  made_count (one g ok f m) = let ih = made_count m in let e = (fair_counts f).0 in omega (arith, ih, e)

  -- Where any holder is open at first and none in the end, there are fewer pairs than open holders.
  pub made_fewer : {ps : List Pair} {hs ks : List Unpaired} → Made G hs ps ks → open_count ks ≡ 0 → 0 < open_count hs → length ps < open_count hs
  made_fewer none z some = absurd (omega arith)
  made_fewer (one {p = p} {ps = ps} {hs = hs} g ok f m) z some = ⊎_elim
      (λ left. let ih = made_fewer m z left in let e = (fair_counts f).0 in omega (arith, ih, e))
      (λ done. let e = (fair_counts f).1 (omega (arith, done)) in let c = made_count m in omega (arith, e, c, done))
      (cases_lt 0 (open_count (paired p hs)))
