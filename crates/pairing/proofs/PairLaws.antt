-- The laws of the pairs of a book, from those of rows.
use Rattle.std.proofs.Common.{◌≡◌, ℕ, zero, suc, ◌+◌, ◌<◌, ◌≤◌, Bool, true, false, cond, not, ◌&&◌, eqb, ltb, List, [], ◌∷◌, map, length, get_or, ℤ, pos, negsuc, nat_abs, sum_by, sym, refl, ap, ◌∙◌, subst, add-one, arith}
use lib.Signed.{lt_z}
use Rattle.std.proofs.ByRecursion.{All-get_or}
use Rattle.std.proofs.lemmas.List.Sums.{sum_by-cons, count_by-le-length}
use Rattle.std.proofs.lemmas.Bool.{lt-ltb, le-ltb}
use Rattle.book.specs.declared.records.Holder.{Holder}
use Rattle.pairing.specs.declared.pair.Unpaired.{Unpaired}
use Rattle.pairing.specs.declared.stage.Group.{Group}
use Rattle.book.specs.Books.{Contents, Sound, HolderInRange, holder, nobody, buys, sells, volume}
use Rattle.pairing.specs.Pairing.{no_holder, repeat, in_group, in_groups, equal_pair, first_pair, all_groups, unpaired, pairs}
use Rattle.pairing.specs.InWords.{at, bought, sold}
use Rattle.pairing.proofs.PairRelations.{InGroup, equal_first, Paired, over, group, groups, stages, whole, open_count, SoundRows, Lawful}
use Rattle.pairing.proofs.MadePairs.{fair_counts, made_length}
use Rattle.pairing.proofs.FairPairs.{first_fair, equal_fair, repeats_made}
use Rattle.pairing.proofs.EnoughTurns.{run_repeats}
use Rattle.pairing.proofs.PairingLaws.{pairing_laws}

-- ---- the fuelled functions satisfy the relations

pub open_le : (hs : List Unpaired) → open_count hs ≤ length hs
open_le hs = count_by-le-length (λ h. ltb 0 h.volume) hs

pub in_group_holds : (g : Group) (hs : List Unpaired) → InGroup g hs (in_group g hs).0 (in_group g hs).1
in_group_holds g hs =
    let a = run_repeats (equal_pair g) (λ ks p e. (fair_counts (equal_fair g ks p e)).0) (length hs) hs (open_le hs) in
    let ms = (repeat (length hs) (equal_pair g) hs).1 in
    let same : length ms ≡ length hs = made_length (repeats_made {G = λ _. Unit {0}} g tt (equal_pair g) (λ ks. equal_fair g ks) a) in
    let few : open_count ms ≤ length hs = omega (arith, open_le ms, same) in
    let b = run_repeats (first_pair g) (λ ks p e. (fair_counts (first_fair g ks p e)).0) (length hs) ms few in
    equal_first a b

pub in_groups_holds : (gs : List Group) (hs : List Unpaired) → Paired gs hs (in_groups gs hs).0 (in_groups gs hs).1
in_groups_holds [] hs = over
in_groups_holds (g ∷ gs) hs = group (in_group_holds g hs) (in_groups_holds gs (in_group g hs).1)

pub groups_are : all_groups ≡ groups
unfolding all_groups stages
groups_are = refl

-- ---- rows of a book

abbrev pub rows : Contents → List Unpaired
rows b = map unpaired b.holders

pub rows_length : (hs : List Holder) → length (map unpaired hs) ≡ length hs
rows_length [] = refl
rows_length (h ∷ hs) = ap suc (rows_length hs)

rows_at : (hs : List Holder) (k : ℕ) → get_or (map unpaired hs) k no_holder ≡ unpaired (get_or hs k nobody)
rows_at [] k = refl
rows_at (h ∷ hs) zero = refl
rows_at (h ∷ hs) (suc k) = rows_at hs k

-- The row at place k is the holder in row k + 1.
pub row_is : (b : Contents) (k : ℕ) → at (rows b) k ≡ unpaired (holder b (k + 1))
row_is b k = rows_at b.holders k ∙ ap (λ r. unpaired (holder b r)) (sym (add-one k))

bought_row : (t : Bool) (v : ℕ) → cond (t && eqb 0 0) v 0 ≡ cond t v 0
bought_row true v = refl
bought_row false v = refl

sold_row : (z : ℤ) → cond (not (lt_z (pos 0) z) && eqb 0 0) (nat_abs z) 0 ≡ cond (lt_z z (pos 0)) (nat_abs z) 0
sold_row (pos zero) = refl
sold_row (pos (suc n)) = ap (λ t. cond (not t && eqb 0 0) (suc n) 0) (lt-ltb 0 (suc n) (omega arith)) ∙ sym (ap (λ t. cond t (suc n) 0) (le-ltb (suc n) 0 (omega arith)))
sold_row (negsuc n) = refl

pub rows_bought : (hs : List Holder) → bought whole (map unpaired hs) ≡ sum_by (λ h. cond (buys h) (volume h) 0) hs
rows_bought [] = refl
rows_bought (h ∷ hs) =
    let ih = rows_bought hs in
    let c = sum_by-cons (λ (x : Unpaired). cond (x.buys && eqb 0 0) x.volume 0) (unpaired h) (map unpaired hs) in
    let d = sum_by-cons (λ (x : Holder). cond (buys x) (volume x) 0) h hs in
    let e = bought_row (buys h) (volume h) in
    omega (arith, ih, c, d, e)

rows_sold : (hs : List Holder) → sold whole (map unpaired hs) ≡ sum_by (λ h. cond (sells h) (volume h) 0) hs
rows_sold [] = refl
rows_sold (h ∷ hs) =
    let ih = rows_sold hs in
    let c = sum_by-cons (λ (x : Unpaired). cond (not x.buys && eqb 0 0) x.volume 0) (unpaired h) (map unpaired hs) in
    let d = sum_by-cons (λ (x : Holder). cond (sells x) (volume x) 0) h hs in
    let e = sold_row h.position in
    omega (arith, ih, c, d, e)

module _ (b : Contents) (ok : Sound b) where
  n : ℕ
  n = length b.holders

  in_range : (k : ℕ) → k < length (rows b) → HolderInRange (holder b (k + 1))
  in_range k h = let e = rows_length b.holders in
      subst (λ r. HolderInRange (holder b r)) (sym (add-one k)) (All-get_or HolderInRange b.holders k nobody (omega (arith, h, e)) ok.holders)

  pub sound_rows : SoundRows (rows b)
  sound_rows = record {
    some = omega (arith, rows_length b.holders, ok.holder_count.0);
    traded = λ k h. let r = (in_range k h).volume.0 in let e = ap (λ u. u.volume) (row_is b k) in omega (arith, r, e);
    member_range = λ k h. let r = (in_range k h).member in let e = ap (λ u. u.member) (row_is b k) in (omega (arith, r.0, e), omega (arith, r.1, e));
    clearing_range = λ k h. let r = (in_range k h).clearing in let e = ap (λ u. u.clearing) (row_is b k) in (omega (arith, r.0, e), omega (arith, r.1, e));
    agent_range = λ k h. let r = (in_range k h).agent in let e = ap (λ u. u.agent) (row_is b k) in (omega (arith, r.0, e), omega (arith, r.1, e));
    nested = λ i k hi hk.
        let l = rows_length b.holders in
        let x = row_is b i in let y = row_is b k in (
          (λ e. ap (λ u. u.clearing) x ∙ ok.one_clearing (i + 1) (k + 1) (omega arith, omega (arith, l, hi)) (omega arith, omega (arith, l, hk))
              (sym (ap (λ u. u.member) x) ∙ e ∙ ap (λ u. u.member) y) ∙ sym (ap (λ u. u.clearing) y)),
          (λ e. ap (λ u. u.agent) x ∙ ok.one_agent (i + 1) (k + 1) (omega arith, omega (arith, l, hi)) (omega arith, omega (arith, l, hk))
              (sym (ap (λ u. u.clearing) x) ∙ e ∙ ap (λ u. u.clearing) y) ∙ sym (ap (λ u. u.agent) y)),
        );
    balanced = rows_bought b.holders ∙ ok.balanced ∙ sym (rows_sold b.holders);
  }

  -- The pairs of a sound book are a pairing of its holders, are fewer than these, and keep most contracts near.
  pub pairs_lawful : Lawful (rows b) (pairs b)
  pairs_lawful =
      let P : List Group → Type 0 = λ gs. Paired gs (rows b) (pairs b) (in_groups all_groups (rows b)).1 in
      pairing_laws (rows b) (in_groups all_groups (rows b)).1 (pairs b) sound_rows (subst P groups_are (in_groups_holds all_groups (rows b)))
