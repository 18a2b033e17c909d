-- Each pair of the rule is fair, and a group ends with one side empty: the facts on which all laws stand.
use Rattle.std.proofs.Common.{◌≡◌, ℕ, ◌<◌, min, Bool, true, false, cond, not, ◌&&◌, eqb, ltb, ◌⊎◌, List, [], ◌∷◌, ◌++◌, length, Some, None, Option, sym, refl, ap, ◌∙◌, subst, inl, inr, ⊎_elim, append_assoc, arith}
use native.Mathlib.Nat.{min-le_left, min-le_right, min-eq_left, min-eq_right}
use Rattle.std.proofs.lemmas.List.Sums.{sum_by-cons}
use Rattle.std.specs.List.{AllByRecursion}
use Rattle.std.proofs.lemmas.Bool.{true≢false, and_parts, not-true, ltb-true, ltb-false, eqb-true, cases_lt}
use Rattle.pairing.specs.declared.pair.Unpaired.{Unpaired}
use Rattle.pairing.specs.declared.pair.Pair.{Pair}
use Rattle.pairing.specs.declared.stage.Group.{Group}
use Rattle.pairing.specs.declared.stage.Stage.{Stage}
use Rattle.pairing.specs.Pairing.{on_side, buys_in, sells_in, pair_of, first_pair, equal_pair, key, no_holder}
use Rattle.order.specs.First.{first}
use Rattle.pairing.specs.Orders.{holder_leq, holder_open}
use Rattle.pairing.specs.InWords.{at, bought, sold, Emptied}
use Rattle.pairing.proofs.PairRelations.{Repeats, stop, more, InGroup, equal_first, Paired, over, group, Fair, Made, none, one}
use Rattle.order.proofs.FirstIs.{first_some, first_none}
use Rattle.pairing.proofs.MadePairs.{made_append}

min_either : (a b : ℕ) → (min a b ≡ a) ⊎ (min a b ≡ b)
min_either a b = ⊎_elim (λ h. inl (min-eq_left (omega arith))) (λ h. inr (min-eq_right h)) (cases_lt a b)

-- ---- a pair of the first that pass, of tests that only buyers and only sellers of the group pass, is fair

module _ (g : Group) (hs : List Unpaired) where
  fair_ends : (stage : Stage) (b s : ℕ) (x y : Unpaired) (p : Pair) → b < length hs → s < length hs → at hs b ≡ x → at hs s ≡ y
      → buys_in g x ≡ true → sells_in g y ≡ true
      → Some (record { stage = stage; buyer = b; seller = s; contracts = min x.volume y.volume }) ≡ Some p → Fair g hs p
  fair_ends stage b s x y p bi si bx sy xb ys e =
      let made : Pair = record { stage = stage; buyer = b; seller = s; contracts = min x.volume y.volume } in
      let is : made ≡ p = cc in
      let xp = and_parts (eqb (key g.stage x) g.number) (holder_open x && x.buys) xb in
      let yp = and_parts (eqb (key g.stage y) g.number) (holder_open y && not y.buys) ys in
      let xq = and_parts (holder_open x) x.buys xp.1 in
      let yq = and_parts (holder_open y) (not y.buys) yp.1 in
      let xo = ltb-true 0 x.volume xq.0 in
      let yo = ltb-true 0 y.volume yq.0 in
      subst (Fair g hs) is (record {
        buyer_in = bi;
        seller_in = si;
        buys = ap (λ h. h.buys) bx ∙ xq.1;
        sells = ap (λ h. h.buys) sy ∙ not-true y.buys yq.1;
        buyer_near = ap (key g.stage) bx ∙ eqb-true _ _ xp.0;
        seller_near = ap (key g.stage) sy ∙ eqb-true _ _ yp.0;
        some = ⊎_elim (λ m. omega (arith, m, xo)) (λ m. omega (arith, m, yo)) (min_either x.volume y.volume);
        buyer_has = omega (arith, min-le_left x.volume y.volume, ap (λ h. h.volume) bx);
        seller_has = omega (arith, min-le_right x.volume y.volume, ap (λ h. h.volume) sy);
        closes = ⊎_elim (λ m. inl (m ∙ ap (λ h. h.volume) (sym bx))) (λ m. inr (m ∙ ap (λ h. h.volume) (sym sy))) (min_either x.volume y.volume);
      })

  pub fair_pair_of : (stage : Stage) (B S : Unpaired → Bool) → ((h : Unpaired) → B h ≡ true → buys_in g h ≡ true) → ((h : Unpaired) → S h ≡ true → sells_in g h ≡ true)
      → (p : Pair) → pair_of stage (first holder_leq B hs) (first holder_leq S hs) ≡ Some p → Fair g hs p
  fair_pair_of stage B S BB SS p = go (first holder_leq B hs) (first holder_leq S hs) refl refl
    where
      go : (b s : Option (ℕ × Unpaired)) → first holder_leq B hs ≡ b → first holder_leq S hs ≡ s → pair_of stage b s ≡ Some p → Fair g hs p
      go None s eb es e = let z : ◌≡◌ {A = ℕ} 0 1 = cc in absurd (omega arith)
      go (Some b) None eb es e = let z : ◌≡◌ {A = ℕ} 0 1 = cc in absurd (omega arith)
      go (Some (b, x)) (Some (s, y)) eb es e =
          let fb = first_some holder_leq B hs b x no_holder eb in
          let fs = first_some holder_leq S hs s y no_holder es in
          fair_ends stage b s x y p fb.0 fs.0 fb.1 fs.1 (BB x fb.2) (SS y fs.2) e

  -- The two rules of a group make fair pairs.
  pub first_fair : (p : Pair) → first_pair g hs ≡ Some p → Fair g hs p
  first_fair p e = fair_pair_of g.stage (buys_in g) (sells_in g) (λ h b. b) (λ h s. s) p e

  pub equal_fair : (p : Pair) → equal_pair g hs ≡ Some p → Fair g hs p
  equal_fair p e = fair_pair_of g.stage
      (λ h. buys_in g h && on_side g false hs h.volume)
      (λ h. sells_in g h && on_side g true hs h.volume)
      (λ h b. (and_parts (buys_in g h) _ b).0) (λ h s. (and_parts (sells_in g h) _ s).0) p e

-- ---- where there is no first pair, one side of the group is empty

closed : (t a b : Bool) (v : ℕ) → ltb 0 v ≡ t → (b && (t && a)) ≡ false → cond (a && b) v 0 ≡ 0
closed t true false v o e = refl
closed t false b v o e = refl
closed true true true v o e = absurd (true≢false e)
closed false true true v o e = let z = ltb-false 0 v o in omega (arith, z)

module _ (g : Group) where
  none_bought : (hs : List Unpaired) → first holder_leq (buys_in g) hs ≡ None → bought g hs ≡ 0
  none_bought [] e = refl
  none_bought (h ∷ hs) e =
      let n = first_none holder_leq (buys_in g) h hs e in
      let ih = none_bought hs n.1 in
      let c = sum_by-cons (λ x. cond (x.buys && eqb (key g.stage x) g.number) x.volume 0) h hs in
      let z = closed (ltb 0 h.volume) h.buys (eqb (key g.stage h) g.number) h.volume refl n.0 in
      omega (arith, ih, c, z)

  none_sold : (hs : List Unpaired) → first holder_leq (sells_in g) hs ≡ None → sold g hs ≡ 0
  none_sold [] e = refl
  none_sold (h ∷ hs) e =
      let n = first_none holder_leq (sells_in g) h hs e in
      let ih = none_sold hs n.1 in
      let c = sum_by-cons (λ x. cond (not x.buys && eqb (key g.stage x) g.number) x.volume 0) h hs in
      let z = closed (ltb 0 h.volume) (not h.buys) (eqb (key g.stage h) g.number) h.volume refl n.0 in
      omega (arith, ih, c, z)

  pub no_pair_emptied : (hs : List Unpaired) → first_pair g hs ≡ None → Emptied g hs
  no_pair_emptied hs = go (first holder_leq (buys_in g) hs) (first holder_leq (sells_in g) hs) refl refl
    where
      go : (b s : Option (ℕ × Unpaired)) → first holder_leq (buys_in g) hs ≡ b → first holder_leq (sells_in g) hs ≡ s → pair_of g.stage b s ≡ None → Emptied g hs
      go None s eb es e = inl (none_bought hs eb)
      go (Some b) None eb es e = inr (none_sold hs es)
      go (Some (b, x)) (Some (s, y)) eb es e = let z : ◌≡◌ {A = ℕ} 0 1 = cc in absurd (omega arith)

-- ---- repeated, and group by group

pub repeats_made : {G : Group → Type 0} (g : Group) → G g → (next : List Unpaired → Option Pair) → ((hs : List Unpaired) (p : Pair) → next hs ≡ Some p → Fair g hs p)
    → {hs : List Unpaired} {ps : List Pair} {ks : List Unpaired} → Repeats next hs ps ks → Made G hs ps ks
repeats_made g ok next fair (stop e) = none
repeats_made g ok next fair (more {p = p} {hs = hs} e r) = one g ok (fair hs p e) (repeats_made g ok next fair r)

pub repeats_ends : (next : List Unpaired → Option Pair) {hs : List Unpaired} {ps : List Pair} {ks : List Unpaired} → Repeats next hs ps ks → next ks ≡ None
repeats_ends next (stop e) = e
repeats_ends next (more e r) = repeats_ends next r

-- THE TWO FACTS of the rule inside a group, on which all laws stand.
pub in_group_made : {G : Group → Type 0} (g : Group) → G g → {hs : List Unpaired} {ps : List Pair} {ks : List Unpaired} → InGroup g hs ps ks → Made G hs ps ks
in_group_made g ok (equal_first a b) = made_append
    (repeats_made g ok (equal_pair g) (λ hs. equal_fair g hs) a) (repeats_made g ok (first_pair g) (λ hs. first_fair g hs) b)

pub in_group_emptied : (g : Group) {hs : List Unpaired} {ps : List Pair} {ks : List Unpaired} → InGroup g hs ps ks → Emptied g ks
in_group_emptied g (equal_first {ls = ls} a b) = no_pair_emptied g ls (repeats_ends (first_pair g) b)

pub paired_made : {G : Group → Type 0} {gs : List Group} {hs : List Unpaired} {ps : List Pair} {ks : List Unpaired} → AllByRecursion G gs → Paired gs hs ps ks → Made G hs ps ks
paired_made all over = none
paired_made all (group {g = g} i r) = made_append (in_group_made g all.0 i) (paired_made all.1 r)

pub record Split (fs bs : List Group) (hs : List Unpaired) (ps : List Pair) (ls : List Unpaired) : Type 0 where
  pub before : List Pair
  pub after : List Pair
  pub mid : List Unpaired
  pub whole : ps ≡ before ++ after
  pub runs_before : Paired fs hs before mid
  pub runs_after : Paired bs mid after ls

pub paired_split : (fs bs : List Group) {hs : List Unpaired} {ps : List Pair} {ls : List Unpaired} → Paired (fs ++ bs) hs ps ls → Split fs bs hs ps ls
paired_split [] bs {hs = hs} {ps = ps} r = record { before = []; after = ps; mid = hs; whole = refl; runs_before = over; runs_after = r }
paired_split (a ∷ fs) bs (group {ps = ps} i r) = let s = paired_split fs bs r in record {
  before = ps ++ s.before;
  after = s.after;
  mid = s.mid;
  whole = ap (λ q. ps ++ q) s.whole ∙ sym (append_assoc ps s.before s.after);
  runs_before = group i s.runs_before;
  runs_after = s.runs_after;
}
