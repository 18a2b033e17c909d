-- The invariant holds after a take and after a draw.
use Rattle.std.proofs.Common.{◌≡◌, ℕ, ◌+◌, ◌-◌, ◌*◌, ◌<◌, ◌≤◌, Bool, true, false, cond, eqb, List, ◌∷◌, sum_by, sym, refl, ap, ◌∙◌, inl, inr, mul-le-mul_left, mul-add, arith}
use Rattle.std.specs.List.{AllByRecursion}
use Rattle.std.proofs.lemmas.List.Sums.{sum_by-cons}
use Rattle.std.proofs.lemmas.Bool.Decides.{nat_tests}
use Rattle.std.proofs.ByRecursion.{All-weaker}
use Rattle.std.proofs.lemmas.Bool.{ne_eqb, eq-eqb, cases_eq}
use Rattle.pairing.specs.declared.line.Line.{Line}
use Rattle.rules.specs.declared.side.Side.TheVariants.{Securities}
use Rattle.book.specs.Books.{Contents, value}
use Rattle.pairing.specs.Lines.{of_seller, of_buyer, buyer_agent, seller_agent, debit}
use Rattle.rules.specs.Numbers.{session_number}
use Rattle.rules.specs.Tally.{Opening, Tally, Drawn, credited, held, with_lines, take_on, loaded, here, units, money}
use Rattle.rules.proofs.Totals.{take_kept, take_adds, take_all, take_map, sum_le}
use Rattle.rules.proofs.Kept.{Kept, Sane, anew, Untouched, gave, got}
use Rattle.rules.proofs.Balances.{units_at, money_at}

gave_adds : (row a k x : ℕ) (m : ℕ) (l : Line) → cond (of_seller k x (loaded row a m l)) (l.taken + here row a m l - l.returned) 0 ≤ cond (of_seller k x l) (l.taken - l.returned) 0 + here row a m l
gave_adds row a k x m l = grind (arith, nat_tests)

pub gave_kept : (row a k x : ℕ) → ((k ≡ row) × (x ≡ a) → ⊥) → (m : ℕ) (l : Line) → cond (of_seller k x l) (l.taken + here row a m l - l.returned) 0 ≡ cond (of_seller k x l) (l.taken - l.returned) 0
gave_kept row a k x apart m l = elim (cases_eq l.seller k) [
  | inl p ↦ elim (cases_eq l.asset x) [
    | inl q ↦
        let z : here row a m l ≡ 0 = elim (cases_eq l.seller row) [
          | inl u ↦ elim (cases_eq l.asset a) [ inl v ↦ absurd (apart (sym p ∙ u, sym q ∙ v)) | inr v ↦ rw (eq-eqb l.seller row u, ne_eqb l.asset a v) refl ]
          | inr u ↦ rw (ne_eqb l.seller row u) refl
        ] in
        ap (λ y. cond (of_seller k x l) (l.taken + y - l.returned) 0) z ∙ (ap (λ y. cond (of_seller k x l) y 0) (omega arith))
    | inr q ↦ rw (eq-eqb l.seller k p, ne_eqb l.asset x q) refl
  ]
  | inr p ↦ rw (ne_eqb l.seller k p) refl
]

pub kept_take : (o : Opening) (t : Tally) (row a n : ℕ) → 4 ≤ session_number t.session → session_number t.session ≤ 5
    → o.book.terms.multiplier * n ≤ units o t row a → Kept o t → Kept o (with_lines t t.session (take_on row a n t.lines) t.draws)
kept_take o t row a n s4 s5 cov s =
    let b : Contents = o.book in
    let m : ℕ = b.terms.multiplier in
    let ls : List Line = t.lines in
    record {
      lots_within = s.lots_within;
      lots_full = s.lots_full;
      lots_assets = s.lots_assets;
      no_lines = λ h. absurd (omega arith);
      paired = λ h. take_map anew row a n ls (λ _ _. refl) ∙ s.paired h;
      lines = take_all (Sane b) row a n ls (λ q l v. record { buyer = v.buyer; seller = v.seller; asset = v.asset; some = v.some; used = let u = v.used in omega arith; within = let u = v.within in grind (arith, nat_tests) }) s.lines;
      few = rw (take_kept (λ l. l.contracts) row a n ls (λ _ _. refl)) s.few;
      untouched = λ h. take_all Untouched row a n ls (λ q l v. v) (s.untouched h);
      none_in = λ h. absurd (omega arith);
      closed = s.closed;
      closed_few = s.closed_few;
      not_closed = s.not_closed;
      finished = λ h. absurd (omega arith);
      draws_before = s.draws_before;
      draws_after = s.draws_after;
      drawn = λ agent.
          rw (
            take_kept (λ l. cond (eqb (buyer_agent b l) agent) (value b l.asset l.contracts) 0) row a n ls (λ _ _. refl),
            take_kept (λ l. cond (eqb (seller_agent b l) agent) (value b l.asset l.contracts) 0) row a n ls (λ _ _. refl),
          ) (s.drawn agent);
      draws =
          let e : (k : ℕ) → debit b ls k ≡ debit b (take_on row a n ls) k = λ k.
          rw (
            take_kept (λ l. cond (eqb (buyer_agent b l) k) (value b l.asset l.contracts) 0) row a n ls (λ _ _. refl),
            take_kept (λ l. cond (eqb (seller_agent b l) k) (value b l.asset l.contracts) 0) row a n ls (λ _ _. refl),
          ) refl in
          All-weaker (λ (x : Drawn). x.amount ≡ debit b ls x.agent) (λ x. x.amount ≡ debit b (take_on row a n ls) x.agent) (λ x h. h ∙ e x.agent) t.draws s.draws;
      some_drawn = s.some_drawn;
      once = s.once;
      house = s.house;
      units_cover = λ k x p.
          let u = s.units_cover k x p in
          let g : got (take_on row a n ls) k x ≡ got ls k x = take_kept (λ l. cond (of_buyer k x l) l.settled 0) row a n ls (λ _ _. refl) in
          let mg : m * got (take_on row a n ls) k x ≡ m * got ls k x = ap (λ z. m * z) g in
          let same : ((k ≡ row) × (x ≡ a) → ⊥) → m * gave (take_on row a n ls) k x ≤ o.securities.balance k x + credited t Securities k x + m * got (take_on row a n ls) k x = λ apart.
          let e : m * gave (take_on row a n ls) k x ≡ m * gave ls k x = ap (λ z. m * z) (take_kept (λ l. cond (of_seller k x l) (l.taken - l.returned) 0) row a n ls (gave_kept row a k x apart)) in
          omega (arith, u, mg, e) in
          elim (cases_eq k row) [
            | inl e ↦ elim (cases_eq x a) [
              | inl f ↦
                  let c : m * n ≤ units o t k x = rw (e, f) cov in
                  let q = units_at o t k x p s in
                  let up : gave (take_on row a n ls) k x ≤ gave ls k x + n = take_adds (λ l. cond (of_seller k x l) (l.taken - l.returned) 0) row a n ls (gave_adds row a k x) in
                  let mu : m * gave (take_on row a n ls) k x ≤ m * (gave ls k x + n) = mul-le-mul_left m up in
                  let d = mul-add m (gave ls k x) n in
                  omega (arith, c, q, mu, d, mg)
              | inr f ↦ same (λ z. f z.1)
            ]
            | inr e ↦ same (λ z. e z.0)
          ];
      money_covers = λ k p.
          rw (
            take_kept (λ l. cond (eqb (buyer_agent b l) k) (value b l.asset l.settled) 0) row a n ls (λ _ _. refl),
            take_kept (λ l. cond (eqb (seller_agent b l) k) (value b l.asset l.settled) 0) row a n ls (λ _ _. refl),
          ) (s.money_covers k p);
    }

-- an agent of whom nothing is held was not drawn yet
count_le : (ds : List Drawn) (k : ℕ) → AllByRecursion (λ x. 0 < x.amount) ds → sum_by (λ (x : Drawn). cond (eqb x.agent k) 1 0) ds ≤ sum_by (λ (x : Drawn). cond (eqb x.agent k) x.amount 0) ds
count_le ds k a = sum_le (λ (x : Drawn). cond (eqb x.agent k) 1 0) (λ x. cond (eqb x.agent k) x.amount 0) ds (All-weaker (λ (x : Drawn). 0 < x.amount) (λ x. cond (eqb x.agent k) 1 0 ≤ cond (eqb x.agent k) x.amount 0) (λ x h. both (eqb x.agent k) x.amount h) ds a)
  where
    both : (c : Bool) (n : ℕ) → 0 < n → cond c 1 0 ≤ cond c n 0
    both true n h = omega arith
    both false n h = omega arith

once_more : (ds : List Drawn) (x : Drawn) (k : ℕ) → AllByRecursion (λ y. 0 < y.amount) ds → sum_by (λ (y : Drawn). cond (eqb y.agent k) 1 0) ds ≤ 1
    → sum_by (λ (y : Drawn). cond (eqb y.agent x.agent) y.amount 0) ds ≡ 0 → sum_by (λ (y : Drawn). cond (eqb y.agent k) 1 0) (x ∷ ds) ≤ 1
once_more ds x k a one none =
    let e = sum_by-cons (λ (y : Drawn). cond (eqb y.agent k) 1 0) x ds in
    elim (cases_eq x.agent k) [
      | inl q ↦
          let c = count_le ds k a in
          let z : sum_by (λ (y : Drawn). cond (eqb y.agent k) y.amount 0) ds ≡ 0 = ap (λ j. sum_by (λ (y : Drawn). cond (eqb y.agent j) y.amount 0) ds) (sym q) ∙ none in
          rw (e, eq-eqb x.agent k q) (omega (arith, c, z))
      | inr q ↦ rw (e, ne_eqb x.agent k q) (omega (arith, one))
    ]

pub kept_draw : (o : Opening) (t : Tally) (agent : ℕ) → session_number t.session ≡ 4 → 0 < agent → 0 < debit o.book t.lines agent → held t agent ≡ 0
    → debit o.book t.lines agent ≤ money o t agent 0 → Kept o t
    → Kept o (with_lines t t.session t.lines (record { agent = agent; amount = debit o.book t.lines agent } ∷ t.draws))
kept_draw o t agent s4 pos_agent some none cov s =
    let b : Contents = o.book in
    let x : Drawn = record { agent = agent; amount = debit b t.lines agent } in
    let more : (k : ℕ) → sum_by (λ (y : Drawn). cond (eqb y.agent k) y.amount 0) (x ∷ t.draws) ≡ cond (eqb agent k) (debit b t.lines agent) 0 + held t k = λ k. sum_by-cons (λ (y : Drawn). cond (eqb y.agent k) y.amount 0) x t.draws in
    let other : (k : ℕ) → (agent ≡ k → ⊥) → sum_by (λ (y : Drawn). cond (eqb y.agent k) y.amount 0) (x ∷ t.draws) ≡ held t k = λ k e. more k ∙ rw (ne_eqb agent k e) (omega arith) in
    record {
      lots_within = s.lots_within;
      lots_full = s.lots_full;
      lots_assets = s.lots_assets;
      no_lines = s.no_lines;
      paired = s.paired;
      lines = s.lines;
      few = s.few;
      untouched = s.untouched;
      none_in = s.none_in;
      closed = s.closed;
      closed_few = s.closed_few;
      not_closed = s.not_closed;
      finished = λ h. absurd (omega arith);
      draws_before = λ h. absurd (omega arith);
      draws_after = λ h. absurd (omega arith);
      drawn = λ k. elim (cases_eq agent k) [
        | inl e ↦ inr (more k ∙ (rw (eq-eqb agent k e) (let h : held t k ≡ 0 = ap (held t) (sym e) ∙ none in let d : debit b t.lines agent ≡ debit b t.lines k = ap (debit b t.lines) e in omega (arith, h, d))))
        | inr e ↦ rw (other k e) (s.drawn k)
      ];
      draws = (refl, s.draws);
      some_drawn = (some, s.some_drawn);
      once = λ k. once_more t.draws x k s.some_drawn (s.once k) none;
      house = s.house;
      units_cover = s.units_cover;
      money_covers = λ k p. elim (cases_eq agent k) [
        | inl e ↦
            let c : debit b t.lines agent ≤ money o t k 0 = rw (sym e) cov in
            let q = money_at o t k p s in
            rw (more k, eq-eqb agent k e) (omega (arith, c, q))
        | inr e ↦ rw (other k e) (s.money_covers k p)
      ];
    }
