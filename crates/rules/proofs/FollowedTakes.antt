-- The postings of a take and of a draw do what the tally tells.
use Rattle.std.proofs.Common.{◌≡◌, ℕ, zero, suc, ◌+◌, ◌-◌, ◌*◌, ◌/◌, ◌<◌, ◌≤◌, min, Bool, true, false, cond, ◌&&◌, eqb, leb, List, [], ◌∷◌, None, sum_by, sym, refl, ap, ◌∙◌, inl, inr, div-lt_iff_lt-mul, mul-add, arith}
use Rattle.std.specs.List.{AllByRecursion}
use Rattle.std.proofs.lemmas.List.Sums.{sum_by-cons}
use Rattle.std.proofs.lemmas.Bool.{ne_eqb, eq-eqb, cases_eq, cases_lt, leb-true, le-leb, false≢true}
use Rattle.register.specs.Rules.{transfer_refused, with_move}
use Rattle.book.specs.Books.{Contents, Sound, value}
use Rattle.pairing.specs.declared.line.Line.{Line}
use Rattle.pairing.specs.Lines.{total, of_seller, of_buyer, of_asset, open_on, inside, outstanding, buyer_agent, seller_agent, debit}
use Rattle.rules.specs.declared.session.Session.TheVariants.{PartialDelivery}
use Rattle.rules.specs.declared.side.Side.{Side}
use Rattle.rules.specs.declared.side.Side.TheVariants.{Securities, Cash}
use Rattle.rules.specs.Tally.{Opening, Tally, Drawn, in_session, all_held, units, money, told, takes, take_on, loaded, here, with_lines}
use Rattle.rules.specs.Histories.{Opens}
use Rattle.rules.specs.Postings.{moves, asked, Followed}
use Rattle.rules.proofs.Totals.{take_kept}
use Rattle.rules.proofs.Kept.{Kept, Sane, gave, got, spent, earned}
use Rattle.rules.proofs.KeptByTakes.{gave_kept}
use Rattle.rules.proofs.OnlyShort.{take_short, draw_short, outstanding_known, debit_known, agents_known}
use Rattle.rules.proofs.Posted.{leaves, enters, run_none, run_move}
use Rattle.rules.proofs.PaidOut.{cond_times}
use Rattle.rules.proofs.Ledger.{run_follows, payouts_follow, house_cash, units_ledger, money_ledger, other_money}

-- ---- what a take adds, exactly

step : (c : Bool) (free n rest : ℕ) → n ≤ cond c free 0 + rest → (n - cond c (min n free) 0 ≤ rest) × (cond c (min n free) 0 ≤ n)
step true free n rest h = (omega arith, omega arith)
step false free n rest h = (omega arith, omega arith)

-- Outstanding contracts that are taken are all found on the lines.
take_sum : (P : Line → Type 0) (f : Line → ℕ) (row a n : ℕ) (ls : List Line) → ((q : ℕ) (l : Line) → P l → f (loaded row a q l) ≡ f l + here row a q l) → AllByRecursion P ls
    → n ≤ outstanding ls row a → sum_by f (take_on row a n ls) ≡ sum_by f ls + n
take_sum P f row a n [] e all h = omega (arith, h)
take_sum P f row a n (x ∷ xs) e all h =
    let o = sum_by-cons (λ l. cond (of_seller row a l) (open_on l) 0) x xs in
    let s = step (of_seller row a x) (open_on x) n (outstanding xs row a) (omega (arith, h, o)) in
    let s1 = s.1 in
    let p = e n x all.0 in
    let r = take_sum P f row a (n - here row a n x) xs e all.1 s.0 in
    rw (sum_by-cons f (loaded row a n x) (take_on row a (n - here row a n x) xs), sum_by-cons f x xs) (omega (arith, p, r, s1))

gave_more : (row a q : ℕ) (l : Line) → l.returned ≤ l.taken → cond (of_seller row a l) (l.taken + here row a q l - l.returned) 0 ≡ cond (of_seller row a l) (l.taken - l.returned) 0 + here row a q l
gave_more row a q l h = go (of_seller row a l)
  where
    go : (c : Bool) → cond c (l.taken + cond c (min q (open_on l)) 0 - l.returned) 0 ≡ cond c (l.taken - l.returned) 0 + cond c (min q (open_on l)) 0
    go true = omega arith
    go false = refl

in_more : (row a q : ℕ) (l : Line) → l.settled + l.returned ≤ l.taken → cond (of_asset a l) (inside (loaded row a q l)) 0 ≡ cond (of_asset a l) (inside l) 0 + here row a q l
in_more row a q l h = go (eqb l.seller row) (eqb l.asset a)
  where
    go : (c d : Bool) → cond d (l.taken + cond (c && d) (min q (open_on l)) 0 - (l.settled + l.returned)) 0 ≡ cond d (inside l) 0 + cond (c && d) (min q (open_on l)) 0
    go true true = omega arith
    go true false = refl
    go false true = omega arith
    go false false = refl

in_kept : (row a x : ℕ) → (x ≡ a → ⊥) → (q : ℕ) (l : Line) → cond (of_asset x l) (inside (loaded row a q l)) 0 ≡ cond (of_asset x l) (inside l) 0
in_kept row a x apart q l = elim (cases_eq l.asset x) [
  | inr e ↦ rw (ne_eqb l.asset x e) refl
  | inl e ↦
      let z : here row a q l ≡ 0 = none (eqb l.seller row) (eqb l.asset a) (ne_eqb l.asset a (λ w. apart (sym e ∙ w))) in
      ap (λ n. cond (of_asset x l) (l.taken + n - (l.settled + l.returned)) 0) z ∙ ap (λ n. cond (of_asset x l) (n - (l.settled + l.returned)) 0) (omega arith)
]
  where
    none : (c d : Bool) → d ≡ false → cond (c && d) (min q (open_on l)) 0 ≡ 0
    none true d e = rw e refl
    none false d e = refl

-- ---- a take of n contracts

take_gave : (b : Contents) (row a n : ℕ) (ls : List Line) → AllByRecursion (Sane b) ls → n ≤ outstanding ls row a → (k x : ℕ) → gave (take_on row a n ls) k x ≡ gave ls k x + cond (eqb row k && eqb a x) n 0
take_gave b row a n ls sane h k x = elim (cases_eq row k) [
  | inr e ↦ take_kept (λ l. cond (of_seller k x l) (l.taken - l.returned) 0) row a n ls (gave_kept row a k x (λ w. e (sym w.0))) ∙ rw (ne_eqb row k e) (omega arith)
  | inl e ↦ elim (cases_eq a x) [
    | inr f ↦ take_kept (λ l. cond (of_seller k x l) (l.taken - l.returned) 0) row a n ls (gave_kept row a k x (λ w. f (sym w.1))) ∙ rw (eq-eqb row k e, ne_eqb a x f) (omega arith)
    | inl f ↦ ap (λ z. gave (take_on row a n ls) z x) (sym e) ∙ (ap (λ z. gave (take_on row a n ls) row z) (sym f)
        ∙ (take_sum (Sane b) (λ l. cond (of_seller row a l) (l.taken - l.returned) 0) row a n ls (λ q l v. gave_more row a q l (let u = v.used in omega arith)) sane h
        ∙ (ap (λ z. gave ls z a + n) e ∙ (ap (λ z. gave ls k z + n) f ∙ rw (eq-eqb row k e, eq-eqb a x f) refl))))
  ]
]

take_in : (b : Contents) (row a n : ℕ) (ls : List Line) → AllByRecursion (Sane b) ls → n ≤ outstanding ls row a → (x : ℕ) → total (of_asset x) inside (take_on row a n ls) ≡ total (of_asset x) inside ls + cond (eqb a x) n 0
take_in b row a n ls sane h x = elim (cases_eq a x) [
  | inr f ↦ take_kept (λ l. cond (of_asset x l) (inside l) 0) row a n ls (in_kept row a x (λ w. f (sym w))) ∙ rw (ne_eqb a x f) (omega arith)
  | inl f ↦ ap (λ z. total (of_asset z) inside (take_on row a n ls)) (sym f)
      ∙ (take_sum (Sane b) (λ l. cond (of_asset a l) (inside l) 0) row a n ls (λ q l v. in_more row a q l v.used) sane h
      ∙ (ap (λ z. total (of_asset z) inside ls + n) f ∙ rw (eq-eqb a x f) refl))
]

take_units : (o : Opening) (t : Tally) (row a n : ℕ) → n ≤ outstanding t.lines row a → Kept o t → Kept o (with_lines t t.session (take_on row a n t.lines) t.draws) → (k x : ℕ)
    → units o (with_lines t t.session (take_on row a n t.lines) t.draws) k x + leaves Securities k x (moves Securities row 0 a (o.book.terms.multiplier * n) ∷ [])
    ≡ units o t k x + enters Securities k x (moves Securities row 0 a (o.book.terms.multiplier * n) ∷ [])
take_units o t row a n h s v k x =
    let b : Contents = o.book in
    let m : ℕ = b.terms.multiplier in
    let ls : List Line = t.lines in
    let ks : List Line = take_on row a n ls in
    let u : Tally = with_lines t t.session ks t.draws in
    let g : m * gave ks k x ≡ m * gave ls k x + cond (eqb row k && eqb a x) (m * n) 0 =
    ap (λ z. m * z) (take_gave b row a n ls s.lines h k x) ∙ (mul-add m (gave ls k x) (cond (eqb row k && eqb a x) n 0) ∙ ap (λ z. m * gave ls k x + z) (cond_times (eqb row k && eqb a x) m n)) in
    let r : m * got ks k x ≡ m * got ls k x = ap (λ z. m * z) (take_kept (λ l. cond (of_buyer k x l) l.settled 0) row a n ls (λ _ _. refl)) in
    let i : m * total (of_asset x) inside ks ≡ m * total (of_asset x) inside ls + cond (eqb a x) (m * n) 0 =
    ap (λ z. m * z) (take_in b row a n ls s.lines h x) ∙ (mul-add m (total (of_asset x) inside ls) (cond (eqb a x) n 0) ∙ ap (λ z. m * total (of_asset x) inside ls + z) (cond_times (eqb a x) m n)) in
    let house = at_house (eqb 0 k) (eqb a x) (m * total (of_asset x) inside ks) (m * total (of_asset x) inside ls) (m * n) i in
    units_ledger o t u k x (leaves Securities k x (moves Securities row 0 a (m * n) ∷ [])) (enters Securities k x (moves Securities row 0 a (m * n) ∷ [])) s v refl (omega (arith, g, r, house))
  where
    at_house : (c d : Bool) (more less i : ℕ) → more ≡ less + cond d i 0 → cond c more 0 ≡ cond c less 0 + cond (c && d) i 0
    at_house true d more less i e = e
    at_house false d more less i e = refl

-- Cash stays as it is where only what was taken changes.
take_money : (o : Opening) (t : Tally) (row a n : ℕ) → Sound o.book → Kept o t → Kept o (with_lines t t.session (take_on row a n t.lines) t.draws) → (k x : ℕ)
    → money o (with_lines t t.session (take_on row a n t.lines) t.draws) k x ≡ money o t k x
take_money o t row a n d s v k zero =
    let b : Contents = o.book in
    let ls : List Line = t.lines in
    let x : spent b (take_on row a n ls) k ≡ spent b ls k = take_kept (λ l. cond (eqb (buyer_agent b l) k) (value b l.asset l.settled) 0) row a n ls (λ _ _. refl) in
    let y : earned b (take_on row a n ls) k ≡ earned b ls k = take_kept (λ l. cond (eqb (seller_agent b l) k) (value b l.asset l.settled) 0) row a n ls (λ _ _. refl) in
    let r = money_ledger o t (with_lines t t.session (take_on row a n ls) t.draws) k 0 0 d s v refl (omega (arith, x, y)) in
    omega (arith, r)
take_money o t row a n d s v k (suc x) = other_money o t (with_lines t t.session (take_on row a n t.lines) t.draws) k x d s v refl

-- An accepted take takes some, of what is outstanding.
pub some_taken : (five : Bool) (m due u : ℕ) → 0 < m → 0 < due → leb (m * cond five 1 due) u ≡ true → (0 < cond five (min due (u / m)) due) × (cond five (min due (u / m)) due ≤ due)
some_taken false m due u p q e = (q, omega arith)
some_taken true m due u p q e =
    let le = leb-true (m * 1) u e in
    let one : 1 ≤ u / m = elim (cases_lt (u / m) 1)
    [ inl lt ↦ absurd (let z : u < 1 * m = (div-lt_iff_lt-mul {k = m} {x = u} {y = 1} p).0 lt in omega (arith, z, le)) | inr h ↦ h ] in
    (omega (arith, one, q), omega arith)

taken_covered : (o : Opening) (t : Tally) (row a : ℕ) → Opens o → Kept o t → 0 < outstanding t.lines row a
    → leb (o.book.terms.multiplier * cond (in_session PartialDelivery t) 1 (outstanding t.lines row a)) (units o t row a) ≡ true
    → (transfer_refused (told o t Securities) row 0 a (o.book.terms.multiplier * takes o t row a) ≡ None) × (takes o t row a ≤ outstanding t.lines row a)
taken_covered o t row a p s some cov =
    let m : ℕ = o.book.terms.multiplier in
    let w = some_taken (in_session PartialDelivery t) m (outstanding t.lines row a) (units o t row a) p.book.multiplier.0 some cov in
    let w0 = w.0 in
    let e : asked o t row a ≡ takes o t row a = rw (ne_eqb (takes o t row a) 0 (λ z. omega (arith, z, w0))) refl in (
      ap (λ z. transfer_refused (told o t Securities) row 0 a (m * z)) (sym e) ∙ (take_short o t row a p s some ∙ rw cov refl),
      w.1,
    )

pub take_follows : (o : Opening) (t : Tally) (row a : ℕ) → Opens o → Kept o t → Kept o (with_lines t t.session (take_on row a (takes o t row a) t.lines) t.draws)
    → 0 < outstanding t.lines row a → leb (o.book.terms.multiplier * cond (in_session PartialDelivery t) 1 (outstanding t.lines row a)) (units o t row a) ≡ true
    → o.book.terms.multiplier * takes o t row a ≤ units o t row a → (side : Side)
    → Followed side (told o t side) (moves Securities row 0 a (o.book.terms.multiplier * asked o t row a) ∷ []) (told o (with_lines t t.session (take_on row a (takes o t row a) t.lines) t.draws) side)
take_follows o t row a p s v some cov le side =
    let m : ℕ = o.book.terms.multiplier in
    let w = some_taken (in_session PartialDelivery t) m (outstanding t.lines row a) (units o t row a) p.book.multiplier.0 some cov in
    let w0 = w.0 in
    let e : takes o t row a ≡ asked o t row a = sym (rw (ne_eqb (takes o t row a) 0 (λ z. omega (arith, z, w0))) refl) in
    rw (sym e) (go side)
  where
    go : (side : Side) → Followed side (told o t side) (moves Securities row 0 a (o.book.terms.multiplier * takes o t row a) ∷ []) (told o (with_lines t t.session (take_on row a (takes o t row a) t.lines) t.draws) side)
    go Securities =
        let c = taken_covered o t row a p s some cov in
        let low = (outstanding_known o.book t.lines row a s.lines some).0.0 in
        run_follows o t (with_lines t t.session (take_on row a (takes o t row a) t.lines) t.draws) Securities (moves Securities row 0 a (o.book.terms.multiplier * takes o t row a) ∷ [])
        (run_move Securities Securities (told o t Securities) row 0 a (o.book.terms.multiplier * takes o t row a) [] refl c.0 (λ z. omega (arith, z, low)) le (run_none Securities (with_move (told o t Securities) row 0 a (o.book.terms.multiplier * takes o t row a))))
        refl (take_units o t row a (takes o t row a) c.1 s v)
    go Cash = payouts_follow o t (with_lines t t.session (take_on row a (takes o t row a) t.lines) t.draws) Cash (moves Securities row 0 a (o.book.terms.multiplier * takes o t row a) ∷ [])
        ((λ e. absurd (false≢true e)), tt) refl (λ k x. let e = take_money o t row a (takes o t row a) p.book s v k x in omega (arith, e))

-- ---- a draw

draw_money : (o : Opening) (t : Tally) (agent : ℕ) → Sound o.book → Kept o t → Kept o (with_lines t t.session t.lines (record { agent = agent; amount = debit o.book t.lines agent } ∷ t.draws)) → (k a : ℕ)
    → money o (with_lines t t.session t.lines (record { agent = agent; amount = debit o.book t.lines agent } ∷ t.draws)) k a + leaves Cash k a (moves Cash agent 0 0 (debit o.book t.lines agent) ∷ [])
    ≡ money o t k a + enters Cash k a (moves Cash agent 0 0 (debit o.book t.lines agent) ∷ [])
draw_money o t agent d s v k zero =
    let n : ℕ = debit o.book t.lines agent in
    let x : Drawn = record { agent = agent; amount = n } in
    let u : Tally = with_lines t t.session t.lines (x ∷ t.draws) in
    let one = sum_by-cons (λ (y : Drawn). cond (eqb y.agent k) y.amount 0) x t.draws in
    let all = sum_by-cons (λ (y : Drawn). y.amount) x t.draws in
    let h : house_cash u k ≡ house_cash t k + cond (eqb 0 k) n 0 = more (eqb 0 k) (all_held u) (all_held t) n all in
    let out : leaves Cash k 0 (moves Cash agent 0 0 n ∷ []) ≡ cond (eqb agent k) n 0 = alone (eqb agent k) n in
    let into : enters Cash k 0 (moves Cash agent 0 0 n ∷ []) ≡ cond (eqb 0 k) n 0 = alone (eqb 0 k) n in
    money_ledger o t u k (leaves Cash k 0 (moves Cash agent 0 0 n ∷ [])) (enters Cash k 0 (moves Cash agent 0 0 n ∷ [])) d s v refl (omega (arith, one, h, out, into))
  where
    more : (c : Bool) (x y n : ℕ) → x ≡ n + y → cond c x 0 ≡ cond c y 0 + cond c n 0
    more true x y n e = omega arith
    more false x y n e = refl

    alone : (c : Bool) (n : ℕ) → 0 + cond (c && true) n 0 ≡ cond c n 0
    alone true n = omega arith
    alone false n = refl
draw_money o t agent d s v k (suc a) =
    let n : ℕ = debit o.book t.lines agent in
    let z = ne_eqb 0 (suc a) (λ q. omega arith) in
    let out : leaves Cash k (suc a) (moves Cash agent 0 0 n ∷ []) ≡ 0 = none (eqb agent k) (eqb 0 (suc a)) n z in
    let into : enters Cash k (suc a) (moves Cash agent 0 0 n ∷ []) ≡ 0 = none (eqb 0 k) (eqb 0 (suc a)) n z in
    let same = other_money o t (with_lines t t.session t.lines (record { agent = agent; amount = n } ∷ t.draws)) k a d s v refl in
    omega (arith, out, into, same)
  where
    none : (c d : Bool) (n : ℕ) → d ≡ false → 0 + cond (c && d) n 0 ≡ 0
    none true d n e = rw e refl
    none false d n e = refl

pub draw_follows : (o : Opening) (t : Tally) (agent : ℕ) → Opens o → Kept o t → Kept o (with_lines t t.session t.lines (record { agent = agent; amount = debit o.book t.lines agent } ∷ t.draws))
    → 0 < debit o.book t.lines agent → debit o.book t.lines agent ≤ money o t agent 0 → (side : Side)
    → Followed side (told o t side) (moves Cash agent 0 0 (debit o.book t.lines agent) ∷ []) (told o (with_lines t t.session t.lines (record { agent = agent; amount = debit o.book t.lines agent } ∷ t.draws)) side)
draw_follows o t agent p s v some le Securities =
    let n : ℕ = debit o.book t.lines agent in
    payouts_follow o t (with_lines t t.session t.lines (record { agent = agent; amount = n } ∷ t.draws)) Securities (moves Cash agent 0 0 n ∷ []) ((λ e. absurd (false≢true e)), tt) refl (λ k x. refl)
draw_follows o t agent p s v some le Cash =
    let n : ℕ = debit o.book t.lines agent in
    let low = (debit_known o.book (λ g. (0 < g) × (g < o.cash.accounts)) t.lines agent (agents_known o t p s) some).0 in
    run_follows o t (with_lines t t.session t.lines (record { agent = agent; amount = n } ∷ t.draws)) Cash (moves Cash agent 0 0 n ∷ [])
    (run_move Cash Cash (told o t Cash) agent 0 0 n [] refl (draw_short o t agent p s some ∙ rw (le-leb n (money o t agent 0) le) refl) (λ z. omega (arith, z, low)) le (run_none Cash (with_move (told o t Cash) agent 0 0 n)))
    refl (draw_money o t agent p.book s v)
