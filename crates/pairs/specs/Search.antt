-- Words of the search for the next pair of a group, which the private functions of this crate cite.
use Rattle.std.specs.Prelude.{◌<◌, ◌≤◌, Bool, true, false, not, ◌&&◌, List, length, Option, nat_eq, slice_index_or}
use Rattle.order.specs.First.{first, any}
use Rattle.pairing.specs.declared.pair.Unpaired.{Unpaired}
use Rattle.pairing.specs.declared.pair.Pair.{Pair}
use Rattle.pairing.specs.declared.stage.Group.{Group}
use Rattle.pairing.specs.Orders.{holder_leq}
use Rattle.pairing.specs.Pairing.{key, side_in, on_side, pair_of, no_holder, lower, Made, repeat}
use Rattle.pairs.specs.declared.search.Choice.{Choice}
use Rattle.pairs.specs.declared.search.Choice.TheVariants.{EqualVolumes, Firsts}

-- Some holder is of this group.
abbrev pub occurs : Group → List Unpaired → Bool
occurs g hs = any (λ h. nat_eq (key g.stage h) g.number) hs

-- A holder that stands for the next pair: of its side of the group and, among equal volumes, with its volume on the other side.
abbrev pub passes : Group → Bool → Choice → List Unpaired → Unpaired → Bool
passes g buys EqualVolumes hs h = side_in g buys h && on_side g (not buys) hs h.volume
passes g buys Firsts hs h = side_in g buys h

-- A holder that does not stand for it is left with nothing to pair.
abbrev pub masked : Bool → Unpaired → Unpaired
masked true h = h
masked false h = record { member = h.member; number = h.number; clearing = h.clearing; agent = h.agent; buys = h.buys; volume = 0 }

-- The next pair, of equal volumes or of the first buyer and the first seller.
abbrev pub next_pair : Choice → Group → List Unpaired → Option Pair
next_pair choice g hs = pair_of g.stage (first holder_leq (passes g true choice hs) hs) (first holder_leq (passes g false choice hs) hs)

-- A pair that can be taken off both holders.
abbrev pub Takes : List Unpaired → Pair → Type 0
Takes hs p = (p.buyer < length hs) × (p.seller < length hs) × (p.contracts ≤ (slice_index_or hs p.buyer no_holder).volume)
    × (p.contracts ≤ (slice_index_or (lower p.contracts p.buyer hs) p.seller no_holder).volume)

-- One pair after the other, until there is none.
abbrev pub exhaust : (List Unpaired → Option Pair) → List Unpaired → Made
exhaust next hs = repeat (length hs) next hs
