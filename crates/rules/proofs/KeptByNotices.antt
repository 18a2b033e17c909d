-- The invariant holds after a notice, a session's end and pairing.
use Rattle.std.proofs.Common.{◌≡◌, ℕ, zero, suc, ◌+◌, ◌-◌, ◌*◌, ◌<◌, ◌≤◌, Bool, true, false, cond, eqb, List, [], ◌∷◌, ◌++◌, length, get_or, sym, refl, ap, ◌∙◌, inl, inr, mul-zero, arith}
use Rattle.std.specs.List.{AllByRecursion}
use Rattle.std.proofs.lemmas.List.Sums.{sum_by-cons, sum_by-append}
use Rattle.std.proofs.ByRecursion.{All-weaker, All-append}
use Rattle.std.proofs.lemmas.Bool.{ne_eqb, eq-eqb, cases_eq}
use Rattle.book.specs.declared.records.Holder.{Holder}
use Rattle.pairing.specs.declared.line.Line.{Line}
use Rattle.rules.specs.declared.session.Session.TheVariants.{ClearingNotices, Pairing, WholeDelivery, PartialDelivery}
use Rattle.book.specs.Books.{Contents, Sound, holder, nobody, sells, volume}
use Rattle.pairing.specs.Orders.{first_deliverable}
use Rattle.pairing.specs.Lines.{Lot, unnotified, added_from, added, lines_of, of_seller, buyer_agent}
use Rattle.rules.specs.Numbers.{session_number}
use Rattle.rules.specs.Tally.{Opening, Tally, held, with_lots, with_lines}
use Rattle.rules.proofs.Totals.{sum_zero}
use Rattle.pairing.proofs.FirstDeliverable.{first_deliverable_in}
use Rattle.rules.proofs.KeptBySettlements.{unspent}
use Rattle.rules.proofs.MadeLines.{MadeLine, MadeLines}
use Rattle.rules.proofs.Kept.{Kept, Sane, Untouched, in_lots, for_sale, gave, spent}

in_lots_cons : (x : Lot) (lots : List Lot) (k : ℕ) → in_lots (x ∷ lots) k ≡ cond (eqb x.row k) x.contracts 0 + in_lots lots k
in_lots_cons x lots k = sum_by-cons (λ (y : Lot). cond (eqb y.row k) y.contracts 0) x lots

pub kept_notice : (o : Opening) (t : Tally) (x : Lot) → session_number t.session ≤ 2 → x.asset < length o.book.assets
    → sells (holder o.book x.row) ≡ true → x.contracts ≤ unnotified t.lots x.row (holder o.book x.row) → Kept o t → Kept o (with_lots t t.session (x ∷ t.lots))
kept_notice o t x s2 in_book se cov s = record {
  lots_within = λ k. elim (cases_eq x.row k) [
    | inl e ↦
        let w = s.lots_within x.row in
        let f : for_sale o.book x.row ≡ volume (holder o.book x.row) = rw se refl in
        let g : in_lots (x ∷ t.lots) x.row ≤ for_sale o.book x.row = rw (in_lots_cons x t.lots x.row, eq-eqb x.row x.row refl) (omega (arith, w, f, cov)) in
        rw (sym e) g
    | inr e ↦ let w = s.lots_within k in rw (in_lots_cons x t.lots k, ne_eqb x.row k e) (omega (arith, w))
  ];
  lots_full = λ h. absurd (omega arith);
  lots_assets = (in_book, s.lots_assets);
  no_lines = s.no_lines;
  paired = λ h. absurd (omega arith);
  lines = s.lines;
  few = s.few;
  untouched = s.untouched;
  none_in = s.none_in;
  closed = s.closed;
  closed_few = s.closed_few;
  not_closed = s.not_closed;
  finished = λ h. absurd (omega arith);
  draws_before = s.draws_before;
  draws_after = s.draws_after;
  drawn = s.drawn;
  draws = s.draws;
  some_drawn = s.some_drawn;
  once = s.once;
  house = s.house;
  units_cover = s.units_cover;
  money_covers = s.money_covers;
}

-- what the end of the notices adds to a row
added_below : (r : ℕ) (hs : List Holder) (a : ℕ) (lots : List Lot) (k : ℕ) → k < r → in_lots (added_from r hs a lots) k ≡ 0
added_below r [] a lots k p = refl
added_below r (h ∷ hs) a lots k p =
    let q = added_below (r + 1) hs a lots k (omega arith) in
    in_lots_cons (record { row = r; asset = a; contracts = cond (sells h) (unnotified lots r h) 0 }) (added_from (r + 1) hs a lots) k
    ∙ rw (ne_eqb r k (λ z. omega arith)) (omega (arith, q))

added_at : (r : ℕ) (hs : List Holder) (a : ℕ) (lots : List Lot) (j k : ℕ) → k ≡ r + j
    → in_lots (added_from r hs a lots) k ≡ cond (sells (get_or hs j nobody)) (unnotified lots k (get_or hs j nobody)) 0
added_at r [] a lots j k e = refl
added_at r (h ∷ hs) a lots zero k e =
    let q = added_below (r + 1) hs a lots k (omega arith) in
    let f : r ≡ k = omega arith in
    in_lots_cons (record { row = r; asset = a; contracts = cond (sells h) (unnotified lots r h) 0 }) (added_from (r + 1) hs a lots) k
    ∙ rw (eq-eqb r k f) (ap (λ z. cond (sells h) (unnotified lots r h) 0 + z) q ∙ (ap (λ z. cond (sells h) (unnotified lots z h) 0 + 0) f ∙ omega arith))
added_at r (h ∷ hs) a lots (suc j) k e =
    let q = added_at (r + 1) hs a lots j k (omega arith) in
    in_lots_cons (record { row = r; asset = a; contracts = cond (sells h) (unnotified lots r h) 0 }) (added_from (r + 1) hs a lots) k
    ∙ rw (ne_eqb r k (λ z. omega arith)) (omega (arith, q))

added_assets : (r : ℕ) (hs : List Holder) (a : ℕ) (lots : List Lot) (n : ℕ) → a < n → AllByRecursion (λ (x : Lot). x.asset < n) (added_from r hs a lots)
added_assets r [] a lots n p = tt
added_assets r (h ∷ hs) a lots n p = (p, added_assets (r + 1) hs a lots n p)

fills : (c : Bool) (v n : ℕ) → n ≤ cond c v 0 → cond c (v - n) 0 + n ≡ cond c v 0
fills true v n h = omega arith
fills false v n h = omega arith

added_full : (b : Contents) (lots : List Lot) → ((row : ℕ) → in_lots lots row ≤ for_sale b row) → (row : ℕ) → in_lots (added b lots ++ lots) row ≡ for_sale b row
added_full b lots w zero =
    let q = added_below 1 b.holders (first_deliverable b) lots 0 (omega arith) in
    sum_by-append (λ (y : Lot). cond (eqb y.row 0) y.contracts 0) (added b lots) lots ∙ (let h = w 0 in omega (arith, q, h))
added_full b lots w (suc j) =
    let q = added_at 1 b.holders (first_deliverable b) lots j (suc j) (omega arith) in
    let f = fills (sells (holder b (suc j))) (volume (holder b (suc j))) (in_lots lots (suc j)) (w (suc j)) in
    sum_by-append (λ (y : Lot). cond (eqb y.row (suc j)) y.contracts 0) (added b lots) lots ∙ omega (arith, q, f)

-- the ends of sessions 1, 2 and 4
pub kept_end_1 : (o : Opening) (t : Tally) → session_number t.session ≡ 1 → Kept o t → Kept o (with_lots t ClearingNotices t.lots)
kept_end_1 o t e s = record {
  lots_within = s.lots_within;
  lots_full = λ h. absurd (omega arith);
  lots_assets = s.lots_assets;
  no_lines = λ h. s.no_lines (omega arith);
  paired = λ h. absurd (omega arith);
  lines = s.lines;
  few = s.few;
  untouched = λ h. s.untouched (omega arith);
  none_in = λ h. absurd (omega arith);
  closed = s.closed;
  closed_few = s.closed_few;
  not_closed = λ h. s.not_closed (omega arith);
  finished = λ h. absurd (omega arith);
  draws_before = λ h. s.draws_before (omega arith);
  draws_after = λ h. absurd (omega arith);
  drawn = s.drawn;
  draws = s.draws;
  some_drawn = s.some_drawn;
  once = s.once;
  house = s.house;
  units_cover = s.units_cover;
  money_covers = s.money_covers;
}

pub kept_end_2 : (o : Opening) (t : Tally) → Sound o.book → session_number t.session ≡ 2 → Kept o t → Kept o (with_lots t Pairing (added o.book t.lots ++ t.lots))
kept_end_2 o t sound e s = record {
  lots_within = λ row. let q = added_full o.book t.lots s.lots_within row in omega (arith, q);
  lots_full = λ h row. added_full o.book t.lots s.lots_within row;
  lots_assets = All-append (λ (x : Lot). x.asset < length o.book.assets) (added o.book t.lots) t.lots (added_assets 1 o.book.holders (first_deliverable o.book) t.lots (length o.book.assets) (first_deliverable_in o.book sound)) s.lots_assets;
  no_lines = λ h. s.no_lines (omega arith);
  paired = λ h. absurd (omega arith);
  lines = s.lines;
  few = s.few;
  untouched = λ h. s.untouched (omega arith);
  none_in = λ h. absurd (omega arith);
  closed = s.closed;
  closed_few = s.closed_few;
  not_closed = λ h. s.not_closed (omega arith);
  finished = λ h. absurd (omega arith);
  draws_before = λ h. s.draws_before (omega arith);
  draws_after = λ h. absurd (omega arith);
  drawn = s.drawn;
  draws = s.draws;
  some_drawn = s.some_drawn;
  once = s.once;
  house = s.house;
  units_cover = s.units_cover;
  money_covers = s.money_covers;
}

pub kept_end_4 : (o : Opening) (t : Tally) → session_number t.session ≡ 4 → Kept o t → Kept o (with_lines t PartialDelivery t.lines [])
kept_end_4 o t e s = record {
  lots_within = s.lots_within;
  lots_full = λ h. s.lots_full (omega arith);
  lots_assets = s.lots_assets;
  no_lines = λ h. absurd (omega arith);
  paired = λ h. s.paired (omega arith);
  lines = s.lines;
  few = s.few;
  untouched = λ h. absurd (omega arith);
  none_in = λ h. absurd (omega arith);
  closed = s.closed;
  closed_few = s.closed_few;
  not_closed = λ h. s.not_closed (omega arith);
  finished = λ h. absurd (omega arith);
  draws_before = λ h. refl;
  draws_after = λ h. refl;
  drawn = λ agent. inl refl;
  draws = tt;
  some_drawn = tt;
  once = λ _. omega arith;
  house = s.house;
  units_cover = s.units_cover;
  money_covers = λ k p. let u = s.money_covers k p in omega (arith, u);
}

-- pairing
made_sane : (b : Contents) (l : Line) → MadeLine b l → Sane b l
made_sane b l v = record { buyer = v.buyer; seller = v.seller; asset = v.asset; some = v.some; used = let x = v.taken in let y = v.settled in let z = v.returned in omega arith; within = let x = v.taken in omega arith }

untaken : (p : Bool) (x y : ℕ) → x ≡ 0 → cond p (x - y) 0 ≡ 0
untaken true x y e = omega arith
untaken false x y e = refl

pub kept_pair : (o : Opening) (t : Tally) → session_number t.session ≡ 3 → MadeLines o.book t.lots (lines_of o.book t.lots) → Kept o t → Kept o (with_lines t WholeDelivery (lines_of o.book t.lots) t.draws)
kept_pair o t e made s =
    let b : Contents = o.book in
    let m : ℕ = b.terms.multiplier in
    let ls : List Line = lines_of b t.lots in
    let un : AllByRecursion Untouched ls = All-weaker (MadeLine b) Untouched (λ l v. (v.settled, v.returned)) ls made.each in
    let dr = s.draws_before (omega arith) in
    let nil : (agent : ℕ) → held t agent ≡ 0 = λ agent. rw dr refl in
    record {
      lots_within = s.lots_within;
      lots_full = λ h. s.lots_full (omega arith);
      lots_assets = s.lots_assets;
      no_lines = λ h. absurd (omega arith);
      paired = λ h. refl;
      lines = All-weaker (MadeLine b) (Sane b) (made_sane b) ls made.each;
      few = made.contracts;
      untouched = λ h. un;
      none_in = λ h. absurd (omega arith);
      closed = s.closed;
      closed_few = s.closed_few;
      not_closed = λ h. s.not_closed (omega arith);
      finished = λ h. absurd (omega arith);
      draws_before = λ h. dr;
      draws_after = λ h. absurd (omega arith);
      drawn = λ agent. inl (nil agent);
      draws = rw dr tt;
      some_drawn = s.some_drawn;
      once = s.once;
      house = s.house;
      units_cover = λ k a p.
          let g : gave ls k a ≡ 0 = sum_zero (λ l. cond (of_seller k a l) (l.taken - l.returned) 0) ls (All-weaker (MadeLine b) (λ l. cond (of_seller k a l) (l.taken - l.returned) 0 ≡ 0) (λ l v. untaken (of_seller k a l) l.taken l.returned v.taken) ls made.each) in
          let z : m * gave ls k a ≡ 0 = ap (λ x. m * x) g ∙ mul-zero m in
          omega (arith, z);
      money_covers = λ k p.
          let z : spent b ls k ≡ 0 = unspent b (λ l. eqb (buyer_agent b l) k) ls un in
          let h = nil k in
          omega (arith, z, h);
    }
