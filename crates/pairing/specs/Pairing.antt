-- Pairing: the pairs of a book, in the order made.
use Rattle.std.specs.Prelude.{ℕ, zero, suc, ◌+◌, ◌-◌, min, Bool, true, false, cond, not, ◌&&◌, List, [], ◌∷◌, ◌++◌, map, length, Some, None, Option, ◌==◌, slice_index_or, slice_set}
use Rattle.book.specs.declared.records.Holder.{Holder}
use Rattle.pairing.specs.declared.pair.Unpaired.{Unpaired}
use Rattle.pairing.specs.declared.pair.Pair.{Pair}
use Rattle.pairing.specs.declared.stage.Group.{Group}
use Rattle.pairing.specs.declared.stage.Stage.{Stage}
use Rattle.pairing.specs.declared.stage.Stage.TheVariants.{Member, Clearing, Agent, Whole}
use Rattle.book.specs.Limits.{most_member, most_agent}
use Rattle.book.specs.Books.{Contents, buys, volume}
use Rattle.order.specs.First.{first, any}
use Rattle.pairing.specs.Orders.{holder_leq, holder_open}

-- ---- groups

-- The number by which a stage groups the holders.
abbrev pub key : Stage → Unpaired → ℕ
key Member h = h.member
key Clearing h = h.clearing
key Agent h = h.agent
key Whole h = 0

-- An open holder of a group, on the buyers' side or on the sellers'.
abbrev pub side_in : Group → Bool → Unpaired → Bool
side_in g buys h = key g.stage h == g.number && (holder_open h && cond buys h.buys (not h.buys))

abbrev pub buys_in : Group → Unpaired → Bool
buys_in g = side_in g true

abbrev pub sells_in : Group → Unpaired → Bool
sells_in g = side_in g false

-- ---- the next pair of a group

-- A buyer and a seller, for the smaller volume of both.
abbrev pub pair_of : Stage → Option (ℕ × Unpaired) → Option (ℕ × Unpaired) → Option Pair
pair_of stage None seller = None
pair_of stage (Some buyer) None = None
pair_of stage (Some (b, x)) (Some (s, y)) = Some (record { stage = stage; buyer = b; seller = s; contracts = min x.volume y.volume })

-- The first buyer and the first seller.
abbrev pub first_pair : Group → List Unpaired → Option Pair
first_pair g hs = pair_of g.stage (first holder_leq (buys_in g) hs) (first holder_leq (sells_in g) hs)

-- Whether some holder of this side of the group has this volume.
abbrev pub on_side : Group → Bool → List Unpaired → ℕ → Bool
on_side g buys hs volume = any (λ k. side_in g buys k && volume == k.volume) hs

-- The first buyer and the first seller of the largest volume on both sides: since larger volumes stand first, these are
-- the first buyer whose volume a seller has, and the first seller whose volume a buyer has.
abbrev pub equal_pair : Group → List Unpaired → Option Pair
equal_pair g hs = pair_of g.stage
    (first holder_leq (λ h. buys_in g h && on_side g false hs h.volume) hs)
    (first holder_leq (λ h. sells_in g h && on_side g true hs h.volume) hs)

-- ---- pairing

abbrev pub less : ℕ → Unpaired → Unpaired
less n h = record { member = h.member; number = h.number; clearing = h.clearing; agent = h.agent; buys = h.buys; volume = h.volume - n }

abbrev pub no_holder : Unpaired
no_holder = record { member = 0; number = 0; clearing = 0; agent = 0; buys = false; volume = 0 }

-- The holder at place i has n contracts fewer to pair.
abbrev pub lower : ℕ → ℕ → List Unpaired → List Unpaired
lower n i hs = slice_set hs i (less n (slice_index_or hs i no_holder))

abbrev pub paired : Pair → List Unpaired → List Unpaired
paired p hs = lower p.contracts p.seller (lower p.contracts p.buyer hs)

-- Pairs made one after the other, and the holders as they leave them.
abbrev pub Made : Type 0
Made = List Pair × List Unpaired

abbrev pub then_on : Option Pair → List Unpaired → (Pair → Made) → Made
then_on None hs rest = ([], hs)
then_on (Some p) hs rest = let r = rest p in (p ∷ r.0, r.1)

-- Each the next one, until there is none. Each pair closes a holder, so as many turns as there are holders suffice.
abbrev pub repeat : ℕ → (List Unpaired → Option Pair) → List Unpaired → Made
repeat zero next hs = ([], hs)
repeat (suc n) next hs = then_on (next hs) hs (λ p. repeat n next (paired p hs))

abbrev pub and_then : Made → (List Unpaired → Made) → Made
and_then m rest = let r = rest m.1 in (m.0 ++ r.0, r.1)

-- In a group equal volumes come first; then first buyer and first seller are paired, the order read again each time.
abbrev pub in_group : Group → List Unpaired → Made
in_group g hs = and_then (repeat (length hs) (equal_pair g) hs) (repeat (length hs) (first_pair g))

abbrev pub in_groups : List Group → List Unpaired → Made
in_groups [] hs = ([], hs)
in_groups (g ∷ gs) hs = and_then (in_group g hs) (in_groups gs)

-- n groups of a stage, in ascending number.
abbrev pub numbered : Stage → ℕ → ℕ → List Group
numbered stage from zero = []
numbered stage from (suc n) = record { stage = stage; number = from } ∷ numbered stage (from + 1) n

-- Stages 1 to 4: by member, by clearing member, by payment agent and over the whole book. (Kept shut, since it is long:
-- an example that computes pairs says `unfolding all_groups`.)
unfoldable pub all_groups : List Group
all_groups = numbered Member 1 most_member ++ (numbered Clearing 1 most_member ++ (numbered Agent 1 most_agent ++ numbered Whole 0 1))

abbrev pub unpaired : Holder → Unpaired
unpaired h = record { member = h.member; number = h.number; clearing = h.clearing; agent = h.agent; buys = buys h; volume = volume h }

-- The pairs of a book.
abbrev pub pairs : Contents → List Pair
pairs b = (in_groups all_groups (map unpaired b.holders)).0
