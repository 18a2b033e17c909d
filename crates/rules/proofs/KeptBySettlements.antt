-- The invariant holds after a line settlement, a whole settlement and a close.
use Rattle.std.proofs.Common.{◌≡◌, ℕ, zero, suc, ◌+◌, ◌-◌, ◌*◌, ◌<◌, ◌≤◌, Bool, true, false, cond, eqb, ◌⊎◌, List, [], ◌∷◌, map, length, get_or, set, sum_by, sym, refl, ap, ◌∙◌, inl, inr, mul-le-mul_left, arith}
use Rattle.std.specs.List.{AllByRecursion}
use Rattle.std.proofs.lemmas.List.Sums.{sum_by-set}
use Rattle.std.proofs.ByRecursion.{All-get_or, All-weaker, All-set, All-map}
use Rattle.std.proofs.lemmas.Bool.{ne_eqb, eq-eqb, eqb-true, cases_eq, cases_lt}
use Rattle.std.proofs.lemmas.List.{get_or_past}
use Rattle.pairing.specs.declared.line.Line.{Line}
use Rattle.rules.specs.declared.session.Session.TheVariants.{Closed}
use Rattle.book.specs.Books.{Contents, value}
use Rattle.pairing.specs.Lines.{of_seller, of_buyer, inside, unsettled, buyer_agent, seller_agent, value_bought, value_sold, debit}
use Rattle.rules.specs.Numbers.{session_number}
use Rattle.rules.specs.Tally.{Opening, Tally, held, with_lines, with_closed, settle, give_back, no_line, money}
use Rattle.rules.proofs.Totals.{sum_zero, map_kept, map_up, map_down, map_same, total_or, value_add, value_zero, map_map, set_map}
use Rattle.rules.proofs.Kept.{Kept, Sane, anew, Untouched, NoneIn, gave, got, spent, earned}
use Rattle.rules.proofs.Balances.{money_at}

sane_settle : (b : Contents) (l : Line) → Sane b l → Sane b (settle l)
sane_settle b l v = record { buyer = v.buyer; seller = v.seller; asset = v.asset; some = v.some; used = let u = v.used in omega arith; within = v.within }

sane_back : (b : Contents) (l : Line) → Sane b l → Sane b (give_back l)
sane_back b l v = record { buyer = v.buyer; seller = v.seller; asset = v.asset; some = v.some; used = let u = v.used in omega arith; within = v.within }

cond_up : (p : Bool) (x y : ℕ) → x ≤ y → cond p x 0 ≤ cond p y 0
cond_up true x y h = h
cond_up false x y h = omega arith

got_settle : (k a : ℕ) (l : Line) → cond (of_buyer k a l) l.settled 0 ≤ cond (of_buyer k a l) (l.settled + inside l) 0
got_settle k a l = cond_up (of_buyer k a l) l.settled (l.settled + inside l) (omega arith)

value_up : (b : Contents) (p : Bool) (l : Line) → cond p (value b l.asset l.settled) 0 ≤ cond p (value b l.asset (l.settled + inside l)) 0
value_up b p l = let e = value_add b l.asset l.settled (inside l) in cond_up p (value b l.asset l.settled) (value b l.asset (l.settled + inside l)) (omega (arith, e))

-- a sum in which the line at i grows, and one in which it stays
set_up : (f : Line → ℕ) (ls : List Line) (i : ℕ) (y : Line) → i < length ls → f (get_or ls i no_line) ≤ f y → sum_by f ls ≤ sum_by f (set ls i y)
set_up f ls i y lt h = let e = sum_by-set f ls i y no_line lt in omega (arith, e)

pub set_kept : (f : Line → ℕ) (ls : List Line) (i : ℕ) (y : Line) → i < length ls → f (get_or ls i no_line) ≡ f y → sum_by f (set ls i y) ≡ sum_by f ls
set_kept f ls i y lt h = let e = sum_by-set f ls i y no_line lt in omega (arith, e)

-- the line at place i, from 0
pub kept_line : (o : Opening) (t : Tally) (i : ℕ) → session_number t.session ≡ 5 → i < length t.lines
    → value o.book (get_or t.lines i no_line).asset (inside (get_or t.lines i no_line)) ≤ money o t (buyer_agent o.book (get_or t.lines i no_line)) 0
    → Kept o t → Kept o (with_lines t t.session (set t.lines i (settle (get_or t.lines i no_line))) t.draws)
kept_line o t i s5 lt cov s =
    let b : Contents = o.book in
    let m : ℕ = b.terms.multiplier in
    let ls : List Line = t.lines in
    let x : Line = get_or ls i no_line in
    record {
      lots_within = s.lots_within;
      lots_full = s.lots_full;
      lots_assets = s.lots_assets;
      no_lines = λ h. absurd (omega arith);
      paired = λ h. set_map anew ls i (settle x) no_line lt refl ∙ s.paired h;
      lines = All-set (Sane b) ls i (settle x) (sane_settle b x (All-get_or (Sane b) ls i no_line lt s.lines)) s.lines;
      few = rw (set_kept (λ l. l.contracts) ls i (settle x) lt refl) s.few;
      untouched = λ h. absurd (omega arith);
      none_in = λ h. absurd (omega arith);
      closed = s.closed;
      closed_few = s.closed_few;
      not_closed = s.not_closed;
      finished = λ h. absurd (omega arith);
      draws_before = s.draws_before;
      draws_after = s.draws_after;
      drawn = λ agent.
          rw (
            set_kept (λ l. cond (eqb (buyer_agent b l) agent) (value b l.asset l.contracts) 0) ls i (settle x) lt refl,
            set_kept (λ l. cond (eqb (seller_agent b l) agent) (value b l.asset l.contracts) 0) ls i (settle x) lt refl,
          ) (s.drawn agent);
      draws = rw (s.draws_after (omega arith)) tt;
      some_drawn = s.some_drawn;
      once = s.once;
      house = s.house;
      units_cover = λ k a p.
          let u = s.units_cover k a p in
          let g : m * gave (set ls i (settle x)) k a ≡ m * gave ls k a = ap (λ z. m * z) (set_kept (λ l. cond (of_seller k a l) (l.taken - l.returned) 0) ls i (settle x) lt refl) in
          let r : m * got ls k a ≤ m * got (set ls i (settle x)) k a = mul-le-mul_left m (set_up (λ l. cond (of_buyer k a l) l.settled 0) ls i (settle x) lt (got_settle k a x)) in
          omega (arith, u, g, r);
      money_covers = λ k p.
          let up = set_up (λ l. cond (eqb (seller_agent b l) k) (value b l.asset l.settled) 0) ls i (settle x) lt (value_up b (eqb (seller_agent b x) k) x) in
          let e = sum_by-set (λ l. cond (eqb (buyer_agent b l) k) (value b l.asset l.settled) 0) ls i (settle x) no_line lt in
          elim (cases_eq (buyer_agent b x) k) [
            | inl q ↦
                let c : value b x.asset (inside x) ≤ money o t k 0 = rw (sym q) cov in
                let a = money_at o t k p s in
                let v = value_add b x.asset x.settled (inside x) in
                let e' : spent b (set ls i (settle x)) k + value b x.asset x.settled ≡ spent b ls k + value b x.asset (x.settled + inside x) = rw (eq-eqb (buyer_agent b x) k q) at e in
                omega (arith, up, c, a, v, e')
            | inr q ↦
                let u = s.money_covers k p in
                let e' : spent b (set ls i (settle x)) k + 0 ≡ spent b ls k + 0 = rw (ne_eqb (buyer_agent b x) k q) at e in
                omega (arith, up, u, e')
          ];
    }

-- ---- the close
-- by its number a line is settled as far as it is not closed
rest_closed : (ls : List Line) → AllByRecursion (λ l. l.settled ≤ l.contracts) ls → (i : ℕ) → (get_or (no_line ∷ ls) i no_line).settled + unsettled (get_or (no_line ∷ ls) i no_line) ≡ (get_or (no_line ∷ ls) i no_line).contracts
rest_closed ls a zero = refl
rest_closed ls a (suc j) = elim (cases_lt j (length ls)) [
  | inl lt ↦ let h = All-get_or (λ l. l.settled ≤ l.contracts) ls j no_line lt a in omega (arith, h)
  | inr past ↦ rw (get_or_past ls j no_line past) refl
]

pub kept_close : (o : Opening) (t : Tally) → session_number t.session ≡ 5 → Kept o t → Kept o (with_closed t (map give_back t.lines))
kept_close o t s5 s =
    let b : Contents = o.book in
    let m : ℕ = b.terms.multiplier in
    let ls : List Line = t.lines in
    let sane = All-map (Sane b) give_back ls (All-weaker (Sane b) (λ l. Sane b (give_back l)) (sane_back b) ls s.lines) in
    record {
      lots_within = s.lots_within;
      lots_full = λ h. s.lots_full (omega arith);
      lots_assets = s.lots_assets;
      no_lines = λ h. absurd (omega arith);
      paired = λ h. map_map anew give_back ls (λ _. refl) ∙ s.paired (omega arith);
      lines = sane;
      few = rw (map_kept (λ l. l.contracts) give_back ls (λ _. refl)) s.few;
      untouched = λ h. absurd (omega arith);
      none_in = λ h. All-map NoneIn give_back ls (All-weaker (Sane b) (λ l. NoneIn (give_back l)) (λ l v. let u = v.used in omega arith) ls s.lines);
      closed = sane;
      closed_few = rw (map_kept (λ l. l.contracts) give_back ls (λ _. refl)) s.few;
      not_closed = λ h. absurd (omega arith);
      finished = λ h. rest_closed (map give_back ls) (All-weaker (Sane b) (λ l. l.settled ≤ l.contracts) (λ l v. let u = v.used in let w = v.within in omega arith) (map give_back ls) sane);
      draws_before = λ h. absurd (omega arith);
      draws_after = λ h. s.draws_after (omega arith);
      drawn = λ agent.
          rw (
            map_kept (λ l. cond (eqb (buyer_agent b l) agent) (value b l.asset l.contracts) 0) give_back ls (λ _. refl),
            map_kept (λ l. cond (eqb (seller_agent b l) agent) (value b l.asset l.contracts) 0) give_back ls (λ _. refl),
          ) (s.drawn agent);
      draws = rw (s.draws_after (omega arith)) tt;
      some_drawn = s.some_drawn;
      once = s.once;
      house = s.house;
      units_cover = λ k a p.
          let u = s.units_cover k a p in
          let g : m * got (map give_back ls) k a ≡ m * got ls k a = ap (λ z. m * z) (map_kept (λ l. cond (of_buyer k a l) l.settled 0) give_back ls (λ _. refl)) in
          let r : m * gave (map give_back ls) k a ≤ m * gave ls k a = mul-le-mul_left m (map_down (λ l. cond (of_seller k a l) (l.taken - l.returned) 0) give_back ls (λ l. cond_up (of_seller k a l) (l.taken - (l.returned + inside l)) (l.taken - l.returned) (omega arith))) in
          omega (arith, u, g, r);
      money_covers = λ k p.
          rw (
            map_kept (λ l. cond (eqb (buyer_agent b l) k) (value b l.asset l.settled) 0) give_back ls (λ _. refl),
            map_kept (λ l. cond (eqb (seller_agent b l) k) (value b l.asset l.settled) 0) give_back ls (λ _. refl),
          ) (s.money_covers k p);
    }

-- ---- the whole settlement: all contracts are taken, and every agent that buys has its debit drawn
abbrev pub Full : Line → Type 0
Full l = (l.settled ≡ 0) × (l.returned ≡ 0) × (l.taken ≡ l.contracts)

full_value : (b : Contents) (p : Line → Bool) (l : Line) → Full l → cond (p l) (value b l.asset (l.settled + inside l)) 0 ≡ cond (p l) (value b l.asset l.contracts) 0
full_value b p l f = let e : l.settled + inside l ≡ l.contracts = omega arith in ap (λ z. cond (p l) (value b l.asset z) 0) e

pub all_full : (ls : List Line) → AllByRecursion Untouched ls → AllByRecursion (λ l. l.contracts ≤ l.taken) ls → AllByRecursion (λ l. l.taken ≤ l.contracts) ls → AllByRecursion Full ls
all_full [] u t w = tt
all_full (x ∷ xs) u t w = ((u.0.0, u.0.1, let p = t.0 in let q = w.0 in omega arith), all_full xs u.1 t.1 w.1)

-- Where all is settled at once, the value settled is the value of all contracts, for each agent.
pub whole_spent : (b : Contents) (ls : List Line) (k : ℕ) → AllByRecursion Full ls → spent b (map settle ls) k ≡ value_bought b (λ l. l.contracts) ls k
whole_spent b ls k full = map_same (λ l. cond (eqb (buyer_agent b l) k) (value b l.asset l.settled) 0) (λ l. cond (eqb (buyer_agent b l) k) (value b l.asset l.contracts) 0) settle ls
    (All-weaker Full (λ l. cond (eqb (buyer_agent b l) k) (value b l.asset (l.settled + inside l)) 0 ≡ cond (eqb (buyer_agent b l) k) (value b l.asset l.contracts) 0) (full_value b (λ l. eqb (buyer_agent b l) k)) ls full)

pub whole_earned : (b : Contents) (ls : List Line) (k : ℕ) → AllByRecursion Full ls → earned b (map settle ls) k ≡ value_sold b (λ l. l.contracts) ls k
whole_earned b ls k full = map_same (λ l. cond (eqb (seller_agent b l) k) (value b l.asset l.settled) 0) (λ l. cond (eqb (seller_agent b l) k) (value b l.asset l.contracts) 0) settle ls
    (All-weaker Full (λ l. cond (eqb (seller_agent b l) k) (value b l.asset (l.settled + inside l)) 0 ≡ cond (eqb (seller_agent b l) k) (value b l.asset l.contracts) 0) (full_value b (λ l. eqb (seller_agent b l) k)) ls full)

pub unspent : (b : Contents) (p : Line → Bool) (ls : List Line) → AllByRecursion Untouched ls → sum_by (λ l. cond (p l) (value b l.asset l.settled) 0) ls ≡ 0
unspent b p ls u = sum_zero (λ l. cond (p l) (value b l.asset l.settled) 0) ls (All-weaker Untouched (λ l. cond (p l) (value b l.asset l.settled) 0 ≡ 0) (λ l v. ap (λ z. cond (p l) (value b l.asset z) 0) v.0 ∙ (ap (λ z. cond (p l) z 0) (value_zero b l.asset) ∙ nil (p l))) ls u)
  where
    nil : (c : Bool) → cond {A = ℕ} c 0 0 ≡ 0
    nil true = refl
    nil false = refl

settled_whole : (ls : List Line) → AllByRecursion (λ l. l.settled ≡ l.contracts) ls → (i : ℕ) → (get_or (no_line ∷ ls) i no_line).settled + 0 ≡ (get_or (no_line ∷ ls) i no_line).contracts
settled_whole ls a zero = refl
settled_whole ls a (suc j) = elim (cases_lt j (length ls)) [
  | inl lt ↦ let h = All-get_or (λ l. l.settled ≡ l.contracts) ls j no_line lt a in omega (arith, h)
  | inr past ↦ rw (get_or_past ls j no_line past) refl
]

none_closed : (i : ℕ) → unsettled (get_or (no_line ∷ []) i no_line) ≡ 0
none_closed zero = refl
none_closed (suc j) = refl

pub kept_whole : (o : Opening) (t : Tally) → session_number t.session ≡ 4
    → AllByRecursion (λ l. l.contracts ≤ l.taken) t.lines
    → AllByRecursion (λ l. debit o.book t.lines (buyer_agent o.book l) ≤ held t (buyer_agent o.book l)) t.lines
    → Kept o t → Kept o (with_lines t Closed (map settle t.lines) [])
kept_whole o t s4 taken drawn s =
    let b : Contents = o.book in
    let m : ℕ = b.terms.multiplier in
    let ls : List Line = t.lines in
    let un = s.untouched (omega arith) in
    let full = all_full ls un taken (All-weaker (Sane b) (λ l. l.taken ≤ l.contracts) (λ l v. v.within) ls s.lines) in
    record {
      lots_within = s.lots_within;
      lots_full = λ h. s.lots_full (omega arith);
      lots_assets = s.lots_assets;
      no_lines = λ h. absurd (omega arith);
      paired = λ h. map_map anew settle ls (λ _. refl) ∙ s.paired (omega arith);
      lines = All-map (Sane b) settle ls (All-weaker (Sane b) (λ l. Sane b (settle l)) (sane_settle b) ls s.lines);
      few = rw (map_kept (λ l. l.contracts) settle ls (λ _. refl)) s.few;
      untouched = λ h. absurd (omega arith);
      none_in = λ h. All-map NoneIn settle ls (All-weaker (Sane b) (λ l. NoneIn (settle l)) (λ l v. let u = v.used in omega arith) ls s.lines);
      closed = s.closed;
      closed_few = s.closed_few;
      not_closed = λ h. absurd (omega arith);
      finished = λ h i. rw (s.not_closed (omega arith), none_closed i) (settled_whole (map settle ls) (All-map (λ l. l.settled ≡ l.contracts) settle ls (All-weaker Full (λ l. l.settled + inside l ≡ l.contracts) (λ l f. omega arith) ls full)) i);
      draws_before = λ h. refl;
      draws_after = λ h. refl;
      drawn = λ agent. inl refl;
      draws = tt;
      some_drawn = tt;
      once = λ _. omega arith;
      house = s.house;
      units_cover = λ k a p.
          let u = s.units_cover k a p in
          let g : m * gave (map settle ls) k a ≡ m * gave ls k a = ap (λ z. m * z) (map_kept (λ l. cond (of_seller k a l) (l.taken - l.returned) 0) settle ls (λ _. refl)) in
          let r : m * got ls k a ≤ m * got (map settle ls) k a = mul-le-mul_left m (map_up (λ l. cond (of_buyer k a l) l.settled 0) settle ls (got_settle k a)) in
          omega (arith, u, g, r);
      money_covers = λ k p.
          let u = s.money_covers k p in
          let z₁ : spent b ls k ≡ 0 = unspent b (λ l. eqb (buyer_agent b l) k) ls un in
          let z₂ : earned b ls k ≡ 0 = unspent b (λ l. eqb (seller_agent b l) k) ls un in
          let e₁ = whole_spent b ls k full in
          let e₂ = whole_earned b ls k full in
          let d : (value_bought b (λ l. l.contracts) ls k ≡ 0) ⊎ (debit b ls k ≤ held t k) = total_or (λ l. eqb (buyer_agent b l) k) (λ l. value b l.asset l.contracts) (debit b ls k ≤ held t k) ls
          (All-weaker (λ l. debit b ls (buyer_agent b l) ≤ held t (buyer_agent b l)) (λ l. eqb (buyer_agent b l) k ≡ true → debit b ls k ≤ held t k) (λ l h e. rw (eqb-true (buyer_agent b l) k e) at h) ls drawn) in
          elim d [ inl z ↦ omega (arith, u, z₁, z₂, e₁, e₂, z) | inr z ↦ omega (arith, u, z₁, z₂, e₁, e₂, z) ];
    }
