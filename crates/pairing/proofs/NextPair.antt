-- Which pair a group makes next, in the subject's words.
use Rattle.std.proofs.Common.{◌≡◌, ℕ, ◌<◌, ◌≤◌, min, Bool, true, false, ◌&&◌, eqb, List, length, Some, None, Option, sym, refl, ap, ◌∙◌, subst, arith}
use native.Mathlib.Nat.{min-eq_left}
use Rattle.std.proofs.lemmas.Bool.{and_parts, and_from, eq-eqb, eqb-true, both_ways}
use Rattle.pairing.specs.declared.pair.Unpaired.{Unpaired}
use Rattle.pairing.specs.declared.pair.Pair.{Pair}
use Rattle.pairing.specs.declared.stage.Group.{Group}
use Rattle.order.specs.First.{first}
use Rattle.pairing.specs.Orders.{holder_leq}
use Rattle.pairing.specs.Pairing.{no_holder, side_in, on_side, pair_of, first_pair, equal_pair}
use Rattle.pairing.specs.InWords.{at, StandsFirst, LargestEqual, FirstTwo, NoneEqual}
use Rattle.order.proofs.FirstIs.{first_some}
use Rattle.order.proofs.FirstLeast.{any_has, has_any, first_least, none_first}
use Rattle.pairing.proofs.HolderOrder.{holder_order, leq_volume}

-- A holder of side t whose volume stands on side u.
abbrev stands : Group → List Unpaired → Bool → Bool → Unpaired → Bool
stands g hs t u h = side_in g t h && on_side g u hs h.volume

module _ (g : Group) (hs : List Unpaired) where
  stands_from : (t u : Bool) (i k : ℕ) → k < length hs → side_in g t (at hs i) ≡ true → side_in g u (at hs k) ≡ true → (at hs i).volume ≡ (at hs k).volume
      → stands g hs t u (at hs i) ≡ true
  stands_from t u i k hk si sk e = and_from (side_in g t (at hs i)) (on_side g u hs (at hs i).volume) si
      (has_any (λ h. side_in g u h && eqb (at hs i).volume h.volume) no_holder hs k hk (and_from _ _ sk (eq-eqb _ _ e)))

  module _ (t u : Bool) (b s : ℕ) (x y : Unpaired) (eb : first holder_leq (stands g hs t u) hs ≡ Some (b, x)) (es : first holder_leq (stands g hs u t) hs ≡ Some (s, y)) where
    -- some volume of side t on side u is no larger than the first of side u
    reaches : (i k : ℕ) → i < length hs → k < length hs → side_in g t (at hs i) ≡ true → side_in g u (at hs k) ≡ true → (at hs i).volume ≡ (at hs k).volume → (at hs i).volume ≤ y.volume
    reaches i k hi hk si sk e =
        let l = leq_volume y (at hs k) (first_least holder_order (stands g hs u t) no_holder hs s y es k hk (stands_from u t k i hi sk si (sym e))) in
        omega (arith, l, e)

    no_more : x.volume ≤ y.volume
    no_more =
        let f = first_some holder_leq (stands g hs t u) hs b x no_holder eb in
        let q = and_parts (side_in g t x) (on_side g u hs x.volume) f.2 in
        let r = any_has (λ h. side_in g u h && eqb x.volume h.volume) no_holder hs q.1 in
        let w = and_parts (side_in g u (at hs r.0)) (eqb x.volume (at hs r.0).volume) r.2 in
        let v = ap (λ h. h.volume) f.1 in
        let z = reaches b r.0 f.0 r.1 (ap (side_in g t) f.1 ∙ q.0) w.0 (v ∙ eqb-true _ _ w.1) in
        omega (arith, z, v)

    -- the first of side t stands first among those with its volume
    stands_first : (n : ℕ) → x.volume ≡ n → y.volume ≡ n → StandsFirst g t (λ h. h.volume ≡ n) hs b
    stands_first n xn yn =
        let f = first_some holder_leq (stands g hs t u) hs b x no_holder eb in
        let q = and_parts (side_in g t x) (on_side g u hs x.volume) f.2 in
        let m = first_some holder_leq (stands g hs u t) hs s y no_holder es in
        let w = and_parts (side_in g u y) (on_side g t hs y.volume) m.2 in
        record {
          inside = f.0;
          on = ap (side_in g t) f.1 ∙ q.0;
          passing = ap (λ h. h.volume) f.1 ∙ xn;
          before = λ k hk sk vk. subst (λ z. holder_leq z (at hs k) ≡ true) (sym f.1)
              (first_least holder_order (stands g hs t u) no_holder hs b x eb k hk
              (stands_from t u k s m.0 sk (ap (side_in g u) m.1 ∙ w.0) (vk ∙ sym yn ∙ sym (ap (λ h. h.volume) m.1))));
        }

  equal_ends : (b s : ℕ) (x y : Unpaired) (p : Pair) → first holder_leq (stands g hs true false) hs ≡ Some (b, x) → first holder_leq (stands g hs false true) hs ≡ Some (s, y)
      → Some (record { stage = g.stage; buyer = b; seller = s; contracts = min x.volume y.volume }) ≡ Some p → LargestEqual g hs p
  equal_ends b s x y p eb es e =
      let made : Pair = record { stage = g.stage; buyer = b; seller = s; contracts = min x.volume y.volume } in
      let is : made ≡ p = cc in
      let l = no_more true false b s x y eb es in
      let r = no_more false true s b y x es eb in
      let m : min x.volume y.volume ≡ x.volume = min-eq_left l in
      let n : y.volume ≡ min x.volume y.volume = omega (arith, l, r, m) in
      subst (LargestEqual g hs) is (record {
        stage = refl;
        buyer = stands_first true false b s x y eb es (min x.volume y.volume) (sym m) n;
        seller = stands_first false true s b y x es eb (min x.volume y.volume) n (sym m);
        largest = λ i k hi hk si sk v. let z = reaches true false b s x y eb es i k hi hk si sk v in omega (arith, z, n);
      })

  -- A PAIR FOR EQUAL VOLUMES is of the largest volume on both sides, and of the first buyer and seller that have it.
  pub equal_largest : (p : Pair) → equal_pair g hs ≡ Some p → LargestEqual g hs p
  equal_largest p = go (first holder_leq (stands g hs true false) hs) (first holder_leq (stands g hs false true) hs) refl refl
    where
      go : (b s : Option (ℕ × Unpaired)) → first holder_leq (stands g hs true false) hs ≡ b → first holder_leq (stands g hs false true) hs ≡ s → pair_of g.stage b s ≡ Some p → LargestEqual g hs p
      go None s eb es e = let z : ◌≡◌ {A = ℕ} 0 1 = cc in absurd (omega arith)
      go (Some b) None eb es e = let z : ◌≡◌ {A = ℕ} 0 1 = cc in absurd (omega arith)
      go (Some (b, x)) (Some (s, y)) eb es e = equal_ends b s x y p eb es e

  -- Where there is none, no volume stands on both sides.
  pub equal_none : equal_pair g hs ≡ None → NoneEqual g hs
  equal_none = go (first holder_leq (stands g hs true false) hs) (first holder_leq (stands g hs false true) hs) refl refl
    where
      go : (b s : Option (ℕ × Unpaired)) → first holder_leq (stands g hs true false) hs ≡ b → first holder_leq (stands g hs false true) hs ≡ s → pair_of g.stage b s ≡ None → NoneEqual g hs
      go None s eb es e i k hi hk si sk v = both_ways (stands g hs true false (at hs i)) (none_first holder_order (stands g hs true false) no_holder hs eb i hi) (stands_from true false i k hk si sk v)
      go (Some b) None eb es e i k hi hk si sk v = both_ways (stands g hs false true (at hs k)) (none_first holder_order (stands g hs false true) no_holder hs es k hk) (stands_from false true k i hi sk si (sym v))
      go (Some (b, x)) (Some (s, y)) eb es e i k hi hk si sk v = let z : ◌≡◌ {A = ℕ} 0 1 = cc in absurd (omega arith)

  side_first : (t : Bool) (b : ℕ) (x : Unpaired) → first holder_leq (side_in g t) hs ≡ Some (b, x) → StandsFirst g t (λ h. Unit {0}) hs b
  side_first t b x eb =
      let f = first_some holder_leq (side_in g t) hs b x no_holder eb in
      record {
        inside = f.0;
        on = ap (side_in g t) f.1 ∙ f.2;
        passing = tt;
        before = λ k hk sk _. subst (λ z. holder_leq z (at hs k) ≡ true) (sym f.1) (first_least holder_order (side_in g t) no_holder hs b x eb k hk sk);
      }

  first_ends : (b s : ℕ) (x y : Unpaired) (p : Pair) → first holder_leq (side_in g true) hs ≡ Some (b, x) → first holder_leq (side_in g false) hs ≡ Some (s, y)
      → Some (record { stage = g.stage; buyer = b; seller = s; contracts = min x.volume y.volume }) ≡ Some p → FirstTwo g hs p
  first_ends b s x y p eb es e =
      let made : Pair = record { stage = g.stage; buyer = b; seller = s; contracts = min x.volume y.volume } in
      let is : made ≡ p = cc in
      let f = first_some holder_leq (side_in g true) hs b x no_holder eb in
      let m = first_some holder_leq (side_in g false) hs s y no_holder es in
      subst (FirstTwo g hs) is (record {
        stage = refl;
        buyer = side_first true b x eb;
        seller = side_first false s y es;
        smaller = ap (λ h. min h.volume y.volume) (sym f.1) ∙ ap (λ h. min (at hs b).volume h.volume) (sym m.1);
      })

  -- ANY OTHER PAIR is of the first buyer and the first seller of the group.
  pub first_two : (p : Pair) → first_pair g hs ≡ Some p → FirstTwo g hs p
  first_two p = go (first holder_leq (side_in g true) hs) (first holder_leq (side_in g false) hs) refl refl
    where
      go : (b s : Option (ℕ × Unpaired)) → first holder_leq (side_in g true) hs ≡ b → first holder_leq (side_in g false) hs ≡ s → pair_of g.stage b s ≡ Some p → FirstTwo g hs p
      go None s eb es e = let z : ◌≡◌ {A = ℕ} 0 1 = cc in absurd (omega arith)
      go (Some b) None eb es e = let z : ◌≡◌ {A = ℕ} 0 1 = cc in absurd (omega arith)
      go (Some (b, x)) (Some (s, y)) eb es e = first_ends b s x y p eb es e
