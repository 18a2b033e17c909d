-- The pairs of a book, told in the rule's own words: what the definition of pairing means.
use Rattle.std.specs.Prelude.{◌≡◌, ℕ, ◌<◌, ◌≤◌, min, Bool, true, false, cond, not, ◌&&◌, ◌⊎◌, List, [], ◌∷◌, ◌++◌, map, length, sum_by, ◌==◌, ◌≢◌, slice_index_or}
use Rattle.book.specs.Books.{Contents}
use Rattle.pairing.specs.declared.pair.Unpaired.{Unpaired}
use Rattle.pairing.specs.declared.pair.Pair.{Pair}
use Rattle.pairing.specs.declared.stage.Group.{Group}
use Rattle.pairing.specs.Orders.{holder_leq}
use Rattle.pairing.specs.Pairing.{key, side_in, buys_in, sells_in, no_holder, paired, all_groups, unpaired}

-- The holder at a place, from 0.
abbrev pub at : List Unpaired → ℕ → Unpaired
at hs i = slice_index_or hs i no_holder

-- ---- which pair a group makes next

-- The holder at place i stands first by the order among those of its side of the group (buyers where t) that pass.
pub record StandsFirst (g : Group) (t : Bool) (passes : Unpaired → Type 0) (hs : List Unpaired) (i : ℕ) : Type 0 where
  pub inside : i < length hs
  pub on : side_in g t (at hs i) ≡ true
  pub passing : passes (at hs i)
  pub before : (k : ℕ) → k < length hs → side_in g t (at hs k) ≡ true → passes (at hs k) → holder_leq (at hs i) (at hs k) ≡ true

-- A pair for equal volumes: its volume is the largest that stands on both sides of the group, its buyer and seller
-- have it, and each stands first by the order among those of its side that have it.
pub record LargestEqual (g : Group) (hs : List Unpaired) (p : Pair) : Type 0 where
  pub stage : p.stage ≡ g.stage
  pub buyer : StandsFirst g true (λ h. h.volume ≡ p.contracts) hs p.buyer
  pub seller : StandsFirst g false (λ h. h.volume ≡ p.contracts) hs p.seller
  pub largest : (i k : ℕ) → i < length hs → k < length hs → buys_in g (at hs i) ≡ true → sells_in g (at hs k) ≡ true
      → (at hs i).volume ≡ (at hs k).volume → (at hs i).volume ≤ p.contracts

-- Another pair: the first buyer and the first seller of the group, for the smaller volume of both.
pub record FirstTwo (g : Group) (hs : List Unpaired) (p : Pair) : Type 0 where
  pub stage : p.stage ≡ g.stage
  pub buyer : StandsFirst g true (λ h. Unit {0}) hs p.buyer
  pub seller : StandsFirst g false (λ h. Unit {0}) hs p.seller
  pub smaller : p.contracts ≡ min (at hs p.buyer).volume (at hs p.seller).volume

-- No volume stands on both sides of the group.
abbrev pub NoneEqual : Group → List Unpaired → Type 0
NoneEqual g hs = (i k : ℕ) → i < length hs → k < length hs → buys_in g (at hs i) ≡ true → sells_in g (at hs k) ≡ true → (at hs i).volume ≢ (at hs k).volume

-- The unpaired volume of the holders that pass.
abbrev pub volume_of : (Unpaired → Bool) → List Unpaired → ℕ
volume_of passes hs = sum_by (λ h. cond (passes h) h.volume 0) hs

-- What the buyers of a group have unpaired, and what its sellers have.
abbrev pub bought : Group → List Unpaired → ℕ
bought g hs = volume_of (λ h. h.buys && key g.stage h == g.number) hs

abbrev pub sold : Group → List Unpaired → ℕ
sold g hs = volume_of (λ h. not h.buys && key g.stage h == g.number) hs

-- One side of a group is empty.
abbrev pub Emptied : Group → List Unpaired → Type 0
Emptied g hs = (bought g hs ≡ 0) ⊎ (sold g hs ≡ 0)

-- ---- one pair after the other: from some holders these pairs are made, and leave these holders

-- While some volume stands on both sides of the group, a pair of the largest such volume.
pub data Equals (g : Group) : List Unpaired → List Pair → List Unpaired → Type 0 where
  none_equal : {hs : List Unpaired} → NoneEqual g hs → Equals g hs [] hs
  equal : {p : Pair} {ps : List Pair} {hs ks : List Unpaired} → LargestEqual g hs p → Equals g (paired p hs) ps ks → Equals g hs (p ∷ ps) ks

-- While both sides of the group have unpaired volume, the first buyer and the first seller.
pub data Firsts (g : Group) : List Unpaired → List Pair → List Unpaired → Type 0 where
  one_side : {hs : List Unpaired} → Emptied g hs → Firsts g hs [] hs
  first : {p : Pair} {ps : List Pair} {hs ks : List Unpaired} → FirstTwo g hs p → Firsts g (paired p hs) ps ks → Firsts g hs (p ∷ ps) ks

-- Group after group, first the one and then the other.
pub data Told : List Group → List Unpaired → List Pair → List Unpaired → Type 0 where
  all_told : {hs : List Unpaired} → Told [] hs [] hs
  told : {g : Group} {gs : List Group} {hs ks ls ms : List Unpaired} (ps qs rs : List Pair) → Equals g hs ps ks → Firsts g ks qs ls → Told gs ls rs ms → Told (g ∷ gs) hs ((ps ++ qs) ++ rs) ms

-- The rule's words tell these pairs of a book, and they leave these holders.
abbrev pub ToldOf : Contents → List Pair → List Unpaired → Type 0
ToldOf b ps left = Told all_groups (map unpaired b.holders) ps left

-- The pairs of a book are those that the rule's words tell, and these tell no others.
pub record AsTold (b : Contents) (ps : List Pair) : Type 0 where
  pub told : (left : List Unpaired) × ToldOf b ps left
  pub only : (other : List Pair) (left : List Unpaired) → ToldOf b other left → other ≡ ps
