-- Words of the proofs on pairs: pairing as relations over rows, and what the laws say of rows.
use Rattle.std.proofs.Common.{◌≡◌, ℕ, ◌+◌, ◌<◌, ◌≤◌, true, false, cond, ◌&&◌, eqb, ltb, ◌⊎◌, List, [], ◌∷◌, ◌++◌, length, Some, None, sum_by, Option}
use Rattle.std.specs.List.{AllByRecursion}
use Rattle.pairing.specs.declared.pair.Unpaired.{Unpaired}
use Rattle.pairing.specs.declared.pair.Pair.{Pair}
use Rattle.pairing.specs.declared.stage.Group.{Group}
use Rattle.pairing.specs.declared.stage.Stage.{Stage}
use Rattle.pairing.specs.declared.stage.Stage.TheVariants.{Member, Clearing, Agent, Whole}
use Rattle.pairing.specs.Pairing.{key, paired, equal_pair, first_pair, numbered}
use Rattle.pairing.specs.InWords.{at, bought, sold}

-- The pairs ps are made one after the other, each the next one, from the holders hs until there is none; then they are at ks.
pub data Repeats (next : List Unpaired → Option Pair) : List Unpaired → List Pair → List Unpaired → Type 0 where
  stop : {hs : List Unpaired} → next hs ≡ None → Repeats next hs [] hs
  more : {p : Pair} {ps : List Pair} {hs ks : List Unpaired} → next hs ≡ Some p → Repeats next (paired p hs) ps ks → Repeats next hs (p ∷ ps) ks

-- The rule inside a group: equal volumes first, and then first buyer with first seller.
pub data InGroup (g : Group) : List Unpaired → List Pair → List Unpaired → Type 0 where
  equal_first : {ps qs : List Pair} {hs ks ls : List Unpaired} → Repeats (equal_pair g) hs ps ks → Repeats (first_pair g) ks qs ls → InGroup g hs (ps ++ qs) ls

-- The groups, one after the other.
pub data Paired : List Group → List Unpaired → List Pair → List Unpaired → Type 0 where
  over : {hs : List Unpaired} → Paired [] hs [] hs
  group : {g : Group} {gs : List Group} {ps qs : List Pair} {hs ks ls : List Unpaired} → InGroup g hs ps ks → Paired gs ks qs ls → Paired (g ∷ gs) hs (ps ++ qs) ls

-- The groups of all stages, with the highest number of each.
unfoldable pub stages : ℕ → ℕ → ℕ → List Group
stages members clearings agents = numbered Member 1 members ++ (numbered Clearing 1 clearings ++ (numbered Agent 1 agents ++ numbered Whole 0 1))

abbrev pub groups : List Group
groups = stages 999 999 64

-- ---- what a pairing of the book is

-- The contracts of the holder at place k in a list of pairs.
abbrev pub contracts_of : ℕ → List Pair → ℕ
contracts_of k ps = sum_by (λ p. cond (eqb p.buyer k) p.contracts 0 + cond (eqb p.seller k) p.contracts 0) ps

-- A buyer against a seller.
abbrev pub Sides : List Unpaired → Pair → Type 0
Sides hs p = (p.buyer < length hs) × (p.seller < length hs) × ((at hs p.buyer).buys ≡ true) × ((at hs p.seller).buys ≡ false)

-- A pairing of the book puts each contract bought against a sold one of its own.
pub record Pairing (hs : List Unpaired) (ps : List Pair) : Type 0 where
  pub sides : AllByRecursion (Sides hs) ps
  pub sums : (k : ℕ) → k < length hs → contracts_of k ps ≡ (at hs k).volume

-- The contracts within the group of the number n, for the key that stands at each place.
abbrev pub within : (ℕ → ℕ) → ℕ → List Pair → ℕ
within place n ps = sum_by (λ p. cond (eqb (place p.buyer) n && eqb (place p.seller) n) p.contracts 0) ps

abbrev pub whole : Group
whole = record { stage = Whole; number = 0 }

-- Each member has one clearing member, and each clearing member one payment agent.
abbrev pub Nested : List Unpaired → Type 0
Nested hs = (i k : ℕ) → i < length hs → k < length hs
    → ((at hs i).member ≡ (at hs k).member → (at hs i).clearing ≡ (at hs k).clearing)
    × ((at hs i).clearing ≡ (at hs k).clearing → (at hs i).agent ≡ (at hs k).agent)

-- A pair of a finer stage is one of each coarser stage too.
abbrev pub rank : Stage → ℕ
rank Member = 1
rank Clearing = 2
rank Agent = 3
rank Whole = 4

abbrev pub open_count : List Unpaired → ℕ
open_count hs = sum_by (λ h. cond (ltb 0 h.volume) 1 0) hs

-- ---- the few facts about the rule inside a group, on which the laws stand

-- A pair that may be made in a group.
pub record Fair (g : Group) (hs : List Unpaired) (p : Pair) : Type 0 where
  pub buyer_in : p.buyer < length hs
  pub seller_in : p.seller < length hs
  pub buys : (at hs p.buyer).buys ≡ true
  pub sells : (at hs p.seller).buys ≡ false
  pub buyer_near : key g.stage (at hs p.buyer) ≡ g.number
  pub seller_near : key g.stage (at hs p.seller) ≡ g.number
  pub some : 0 < p.contracts
  pub buyer_has : p.contracts ≤ (at hs p.buyer).volume
  pub seller_has : p.contracts ≤ (at hs p.seller).volume
  pub closes : (p.contracts ≡ (at hs p.buyer).volume) ⊎ (p.contracts ≡ (at hs p.seller).volume)

-- Pairs made one after the other, each in a group that is allowed.
pub data Made (G : Group → Type 0) : List Unpaired → List Pair → List Unpaired → Type 0 where
  none : {hs : List Unpaired} → Made G hs [] hs
  one : {p : Pair} {ps : List Pair} {hs ks : List Unpaired} (g : Group) → G g → Fair g hs p → Made G (paired p hs) ps ks → Made G hs (p ∷ ps) ks

-- ---- the laws

-- What every book has.
pub record SoundRows (hs : List Unpaired) : Type 0 where
  pub some : 0 < length hs
  pub traded : (k : ℕ) → k < length hs → 0 < (at hs k).volume
  pub member_range : (k : ℕ) → k < length hs → (1 ≤ (at hs k).member) × ((at hs k).member ≤ 999)
  pub clearing_range : (k : ℕ) → k < length hs → (1 ≤ (at hs k).clearing) × ((at hs k).clearing ≤ 999)
  pub agent_range : (k : ℕ) → k < length hs → (1 ≤ (at hs k).agent) × ((at hs k).agent ≤ 64)
  pub nested : Nested hs
  pub balanced : bought whole hs ≡ sold whole hs

-- Every other pairing of the book has at most as many contracts within each member, each clearing member and each payment agent.
abbrev pub Nearest : List Unpaired → List Pair → Type 0
Nearest hs ps = (stage : Stage) (k : ℕ) → k < length hs → (qs : List Pair) → Pairing hs qs
    → within (λ i. key stage (at hs i)) (key stage (at hs k)) qs ≤ within (λ i. key stage (at hs i)) (key stage (at hs k)) ps

-- The pairs of a book are a pairing of it, are fewer than its holders, and keep most contracts near.
pub record Lawful (hs : List Unpaired) (ps : List Pair) : Type 0 where
  pub pairing : Pairing hs ps
  pub fewer : length ps < length hs
  pub nearest : Nearest hs ps

abbrev pub PairingLaws : Type 0
PairingLaws = (hs ls : List Unpaired) (ps : List Pair) → SoundRows hs → Paired groups hs ps ls → Lawful hs ps
