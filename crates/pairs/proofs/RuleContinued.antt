-- The rule made step by step: what is left to do from a state, done, gives what was to be done from the start.
use Rattle.std.proofs.Common.{◌≡◌, ℕ, zero, suc, ◌+◌, ◌-◌, ◌<◌, ◌≤◌, Bool, true, false, eqb, List, [], ◌∷◌, ◌++◌, length, Some, None, Option, sym, refl, ap, ◌∙◌, subst, ⊎_elim, append_assoc, append-nil, arith}
use Rattle.std.proofs.lemmas.List.{get_or-set_other, length-set}
use Rattle.pairing.specs.declared.pair.Unpaired.{Unpaired}
use Rattle.pairing.specs.declared.pair.Pair.{Pair}
use Rattle.pairing.specs.declared.stage.Group.{Group}
use Rattle.std.proofs.lemmas.Bool.{cases_Bool, both_ways, and_left}
use Rattle.order.specs.First.{first}
use Rattle.order.proofs.FirstIs.{none_passes}
use Rattle.order.proofs.FirstLeast.{has_any}
use Rattle.pairing.specs.declared.stage.Stage.{Stage}
use Rattle.pairing.specs.declared.stage.Stage.TheVariants.{Member, Clearing, Agent, Whole}
use Rattle.pairing.specs.Orders.{holder_leq}
use Rattle.pairing.specs.Pairing.{key, side_in, pair_of, no_holder, less, lower, paired, equal_pair, first_pair, Made, then_on, repeat, and_then, in_group, in_groups, numbered}
use Rattle.pairing.proofs.EnoughTurns.{run_repeats}
use Rattle.pairing.specs.InWords.{at}
use Rattle.pairing.proofs.PairRelations.{open_count, Fair, stages}
use Rattle.pairing.proofs.PairLaws.{open_le}
use Rattle.pairing.proofs.LoweredHolders as step
use Rattle.pairing.proofs.MadePairs.{fair_counts, made_length}
use Rattle.pairing.proofs.FairPairs.{equal_fair, first_fair, repeats_made}
use Rattle.pairs.specs.declared.search.Choice.{Choice}
use Rattle.pairs.specs.declared.search.Choice.TheVariants.{EqualVolumes, Firsts}
use Rattle.pairs.specs.Search.{occurs, passes, next_pair, Takes, exhaust}

-- ---- and_then

pub and_then_assoc : (m : Made) (f g : List Unpaired → Made) → and_then (and_then m f) g ≡ and_then m (λ h. and_then (f h) g)
and_then_assoc m f g = ap (λ l. (l, (g (f m.1).1).1)) (append_assoc m.0 (f m.1).0 (g (f m.1).1).0)

pub and_then_none : (m : Made) → and_then m (λ h. ([], h)) ≡ m
and_then_none m = ap (λ l. (l, m.1)) (append-nil m.0)

-- ---- the next pair is fair

pub next_fair : (choice : Choice) (g : Group) (hs : List Unpaired) (p : Pair) → next_pair choice g hs ≡ Some p → Fair g hs p
next_fair EqualVolumes g hs p e = equal_fair g hs p e
next_fair Firsts g hs p e = first_fair g hs p e

pub fair_takes : {g : Group} {hs : List Unpaired} {p : Pair} → Fair g hs p → Takes hs p
fair_takes {hs = hs} {p = p} f =
    let ne = step.apart hs p f.buyer_in f.seller_in f.buys f.sells f.buyer_has f.seller_has in
    let same = get_or-set_other hs p.buyer p.seller (less p.contracts (at hs p.buyer)) no_holder ne in
    let H : Unpaired → Type 0 = λ h. p.contracts ≤ h.volume in
    (f.buyer_in, f.seller_in, f.buyer_has, subst H (sym same) f.seller_has)

pub next_falls : (choice : Choice) (g : Group) (hs : List Unpaired) (p : Pair) → next_pair choice g hs ≡ Some p → open_count (paired p hs) + 1 ≤ open_count hs
next_falls choice g hs p e = (fair_counts (next_fair choice g hs p e)).0

-- ---- one pair after the other

-- Where each pair closes an open holder, more turns than open holders change nothing.
module _ (next : List Unpaired → Option Pair) (falls : (hs : List Unpaired) (p : Pair) → next hs ≡ Some p → open_count (paired p hs) + 1 ≤ open_count hs) where
  pub enough_turns : (n m : ℕ) (hs : List Unpaired) → open_count hs ≤ n → open_count hs ≤ m → repeat n next hs ≡ repeat m next hs
  enough_turns zero zero hs h k = refl
  enough_turns zero (suc m) hs h k = go (next hs) refl
    where
      go : (o : Option Pair) → next hs ≡ o → ([], hs) ≡ then_on (next hs) hs (λ p. repeat m next (paired p hs))
      go None e = sym (ap (λ o. then_on o hs (λ p. repeat m next (paired p hs))) e)
      go (Some p) e = let f = falls hs p e in absurd (omega (arith, f, h))
  enough_turns (suc n) zero hs h k = go (next hs) refl
    where
      go : (o : Option Pair) → next hs ≡ o → then_on (next hs) hs (λ p. repeat n next (paired p hs)) ≡ ([], hs)
      go None e = ap (λ o. then_on o hs (λ p. repeat n next (paired p hs))) e
      go (Some p) e = let f = falls hs p e in absurd (omega (arith, f, k))
  enough_turns (suc n) (suc m) hs h k = go (next hs) refl (λ p x y. enough_turns n m (paired p hs) x y)
    where
      go : (o : Option Pair) → next hs ≡ o → ((p : Pair) → open_count (paired p hs) ≤ n → open_count (paired p hs) ≤ m → repeat n next (paired p hs) ≡ repeat m next (paired p hs))
          → then_on (next hs) hs (λ p. repeat n next (paired p hs)) ≡ then_on (next hs) hs (λ p. repeat m next (paired p hs))
      go None e ih = ap (λ o. then_on o hs (λ p. repeat n next (paired p hs))) e ∙ sym (ap (λ o. then_on o hs (λ p. repeat m next (paired p hs))) e)
      go (Some p) e ih =
          let f = falls hs p e in
          let same = ih p (omega (arith, f, h)) (omega (arith, f, k)) in
          ap (λ o. then_on o hs (λ q. repeat n next (paired q hs))) e ∙ ap (λ (r : Made). (p ∷ r.0, r.1)) same ∙ sym (ap (λ o. then_on o hs (λ q. repeat m next (paired q hs))) e)

  pub exhaust_none : (hs : List Unpaired) → next hs ≡ None → exhaust next hs ≡ ([], hs)
  exhaust_none hs e = go (length hs)
    where
      go : (n : ℕ) → repeat n next hs ≡ ([], hs)
      go zero = refl
      go (suc n) = ap (λ o. then_on o hs (λ p. repeat n next (paired p hs))) e

  pub exhaust_more : (hs : List Unpaired) (p : Pair) → next hs ≡ Some p → exhaust next hs ≡ (p ∷ (exhaust next (paired p hs)).0, (exhaust next (paired p hs)).1)
  exhaust_more hs p e =
      let o = open_le hs in
      let l1 : length (lower p.contracts p.buyer hs) ≡ length hs = length-set _ _ _ in
      let l2 : length (paired p hs) ≡ length (lower p.contracts p.buyer hs) = length-set _ _ _ in
      enough_turns (length hs) (suc (length (paired p hs))) hs o (omega (arith, o, l1, l2))
      ∙ ap (λ o. then_on o hs (λ q. repeat (length (paired p hs)) next (paired q hs))) e

  -- The loop: a pair more in the table, and it is taken off its holders.
  pub pair_more : (m : Made) (p : Pair) → next m.1 ≡ Some p → and_then (m.0 ++ p ∷ [], paired p m.1) (exhaust next) ≡ and_then m (exhaust next)
  pair_more m p e =
      let r = exhaust next (paired p m.1) in
      ap (λ l. (l, r.1)) (append_assoc m.0 (p ∷ []) r.0) ∙ sym (ap (λ (x : Made). (m.0 ++ x.0, x.1)) (exhaust_more m.1 p e))

  pub pair_none : (m : Made) → next m.1 ≡ None → m ≡ and_then m (exhaust next)
  pair_none m e = sym (and_then_none m) ∙ sym (ap (λ (x : Made). (m.0 ++ x.0, x.1)) (exhaust_none m.1 e))

-- ---- a group

pub in_group_is : (g : Group) (hs : List Unpaired) → and_then (exhaust (equal_pair g) hs) (exhaust (first_pair g)) ≡ in_group g hs
in_group_is g hs =
    let m = exhaust (equal_pair g) hs in
    let a = run_repeats (equal_pair g) (λ ks p e. (fair_counts (equal_fair g ks p e)).0) (length hs) hs (open_le hs) in
    let same : length m.1 ≡ length hs = made_length (repeats_made {G = λ _. Unit {0}} g tt (equal_pair g) (λ ks. equal_fair g ks) a) in
    ap (λ n. and_then m (repeat n (first_pair g))) same

pub group_then : (g : Group) (m : Made) → and_then (and_then m (exhaust (next_pair EqualVolumes g))) (exhaust (next_pair Firsts g)) ≡ and_then m (in_group g)
group_then g m = and_then_assoc m (exhaust (equal_pair g)) (exhaust (first_pair g)) ∙ ap (λ (x : Made). (m.0 ++ x.0, x.1)) (in_group_is g m.1)

-- Where no holder is of the group, it has no pair.
module _ (g : Group) (hs : List Unpaired) (empty : occurs g hs ≡ false) where
  not_of : (k : ℕ) → k < length hs → eqb (key g.stage (at hs k)) g.number ≡ false
  not_of k h = ⊎_elim
      (λ yes. absurd (both_ways (occurs g hs) empty (has_any (λ x. eqb (key g.stage x) g.number) no_holder hs k h yes)))
      (λ no. no) (cases_Bool (eqb (key g.stage (at hs k)) g.number))

  none_side : (t : Bool) (k : ℕ) → k < length hs → side_in g t (at hs k) ≡ false
  none_side t k h = and_left _ _ (not_of k h)

  empty_none : (choice : Choice) → next_pair choice g hs ≡ None
  empty_none choice = ap (λ o. pair_of g.stage o (first holder_leq (passes g false choice hs) hs)) (none_passes holder_leq (passes g true choice hs) hs no_holder (none choice))
    where
      none : (choice : Choice) (k : ℕ) → k < length hs → passes g true choice hs (at hs k) ≡ false
      none EqualVolumes k h = and_left _ _ (none_side true k h)
      none Firsts k h = none_side true k h

  pub empty_group : in_group g hs ≡ ([], hs)
  empty_group =
      sym (in_group_is g hs) ∙ ap (λ (m : Made). and_then m (exhaust (first_pair g))) (exhaust_none (equal_pair g) (next_falls EqualVolumes g) hs (empty_none EqualVolumes))
      ∙ exhaust_none (first_pair g) (next_falls Firsts g) hs (empty_none Firsts)

-- ---- group after group

pub in_groups_append : (gs fs : List Group) (hs : List Unpaired) → in_groups (gs ++ fs) hs ≡ and_then (in_groups gs hs) (in_groups fs)
in_groups_append [] fs hs = refl
in_groups_append (g ∷ gs) fs hs =
    let m = in_group g hs in
    ap (λ (x : Made). (m.0 ++ x.0, x.1)) (in_groups_append gs fs m.1) ∙ sym (and_then_assoc m (in_groups gs) (in_groups fs))

-- One group more.
pub groups_more : (m : Made) (g : Group) (gs : List Group) → and_then (and_then m (in_group g)) (in_groups gs) ≡ and_then m (in_groups (g ∷ gs))
groups_more m g gs = and_then_assoc m (in_group g) (in_groups gs)

pub groups_over : (m : Made) → m ≡ and_then m (in_groups [])
groups_over m = sym (and_then_none m)

pub numbered_more : (stage : Stage) (k n : ℕ) → k < n → numbered stage k (n - k) ≡ record { stage = stage; number = k } ∷ numbered stage (k + 1) (n - (k + 1))
numbered_more stage k n h = let e : n - k ≡ suc (n - (k + 1)) = omega arith in ap (numbered stage k) e

-- All stages, up to the highest number of each.
pub all_stages : (a b c : ℕ) (m : Made)
    → and_then (and_then (and_then (and_then m (in_groups (numbered Member 1 a))) (in_groups (numbered Clearing 1 b))) (in_groups (numbered Agent 1 c))) (in_group (record { stage = Whole; number = 0 }))
    ≡ and_then m (in_groups (stages a b c))
unfolding stages
all_stages a b c m =
    let A = numbered Member 1 a in let B = numbered Clearing 1 b in let C = numbered Agent 1 c in
    let W : List Group = record { stage = Whole; number = 0 } ∷ [] in
    let more : (x : Made) (gs fs : List Group) → and_then (and_then x (in_groups gs)) (in_groups fs) ≡ and_then x (in_groups (gs ++ fs))
    = λ x gs fs. and_then_assoc x (in_groups gs) (in_groups fs) ∙ sym (ap (λ (y : Made). (x.0 ++ y.0, y.1)) (in_groups_append gs fs x.1)) in
    let here = and_then m (in_groups A) in
    let last = and_then (and_then here (in_groups B)) (in_groups C) in
    groups_over (and_then last (in_group (record { stage = Whole; number = 0 }))) ∙ groups_more last (record { stage = Whole; number = 0 }) []
    ∙ more (and_then here (in_groups B)) C W ∙ more here B (C ++ W) ∙ more m A (B ++ (C ++ W))

pub stages_then : (a b c : ℕ) (m m₁ m₂ m₃ m₄ : Made)
    → m₁ ≡ and_then m (in_groups (numbered Member 1 a)) → m₂ ≡ and_then m₁ (in_groups (numbered Clearing 1 b))
    → m₃ ≡ and_then m₂ (in_groups (numbered Agent 1 c)) → m₄ ≡ and_then m₃ (in_group (record { stage = Whole; number = 0 }))
    → m₄ ≡ and_then m (in_groups (stages a b c))
stages_then a b c m m₁ m₂ m₃ m₄ e₁ e₂ e₃ e₄ =
    let W : List Unpaired → Made = in_group (record { stage = Whole; number = 0 }) in
    e₄ ∙ ap (λ x. and_then x W) (e₃ ∙ ap (λ x. and_then x (in_groups (numbered Agent 1 c))) (e₂ ∙ ap (λ x. and_then x (in_groups (numbered Clearing 1 b))) e₁)) ∙ all_stages a b c m
