-- The pairs of a book, told in the subject's words.
use Rattle.std.proofs.Common.{List}
use Rattle.pairing.specs.declared.pair.Unpaired.{Unpaired}
use Rattle.pairing.specs.declared.pair.Pair.{Pair}
use Rattle.pairing.specs.declared.stage.Group.{Group}
use Rattle.book.specs.Books.{Contents}
use Rattle.pairing.specs.Pairing.{equal_pair, first_pair, in_groups, all_groups, pairs}
use Rattle.pairing.specs.InWords.{Equals, none_equal, equal, Firsts, one_side, first, Told, all_told, told}
use Rattle.pairing.proofs.PairRelations.{Repeats, stop, more, equal_first, Paired, over, group}
use Rattle.pairing.proofs.FairPairs.{no_pair_emptied}
use Rattle.pairing.proofs.NextPair.{equal_largest, equal_none, first_two}
use Rattle.pairing.proofs.PairLaws.{rows, in_groups_holds}

equals_told : (g : Group) {hs : List Unpaired} {ps : List Pair} {ks : List Unpaired} → Repeats (equal_pair g) hs ps ks → Equals g hs ps ks
equals_told g (stop {hs = hs} e) = none_equal (equal_none g hs e)
equals_told g (more {p = p} {hs = hs} e r) = equal (equal_largest g hs p e) (equals_told g r)

firsts_told : (g : Group) {hs : List Unpaired} {ps : List Pair} {ks : List Unpaired} → Repeats (first_pair g) hs ps ks → Firsts g hs ps ks
firsts_told g (stop {hs = hs} e) = one_side (no_pair_emptied g hs e)
firsts_told g (more {p = p} {hs = hs} e r) = first (first_two g hs p e) (firsts_told g r)

paired_told : {gs : List Group} {hs : List Unpaired} {ps : List Pair} {ks : List Unpaired} → Paired gs hs ps ks → Told gs hs ps ks
paired_told over = all_told
paired_told (group {qs = rs} (equal_first {ps = ps} {qs = qs} a b) r) = told ps qs rs (equals_told _ a) (firsts_told _ b) (paired_told r)

-- THE PAIRS OF A BOOK are those that the rules tell.
pub book_told : (b : Contents) → Told all_groups (rows b) (pairs b) (in_groups all_groups (rows b)).1
book_told b = paired_told (in_groups_holds all_groups (rows b))
