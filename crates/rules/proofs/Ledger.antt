-- The told balances change by what goes out and comes in: from the counts of lines before and after, for units and for cash.
use Rattle.std.proofs.Common.{◌≡◌, ℕ, suc, ◌+◌, ◌*◌, ◌<◌, Bool, true, false, cond, ◌&&◌, eqb, List, [], ◌∷◌, sym, refl, ap, ◌∙◌, inl, inr, mul-add, arith}
use Rattle.std.specs.List.{AllByRecursion}
use Rattle.std.proofs.lemmas.List.Sums.{sum_by-cons}
use Rattle.std.proofs.lemmas.Bool.{ne_eqb, eq-eqb, cases_eq}
use Rattle.book.specs.Books.{Sound}
use Rattle.pairing.specs.Lines.{total, of_asset, inside}
use Rattle.rules.specs.declared.side.Side.{Side}
use Rattle.rules.specs.declared.side.Side.TheVariants.{Securities, Cash}
use Rattle.rules.specs.Tally.{Opening, Tally, opened, same_side, credited, held, all_held, at_0, units, money, balance, told}
use Rattle.rules.specs.Postings.{Posting, credits, moves, Followed}
use Rattle.rules.proofs.Kept.{Kept, gave, got, spent, earned}
use Rattle.rules.proofs.NeverCut.{units_add_up, money_adds_up}
use Rattle.rules.proofs.PaidOut.{cond_times}
use Rattle.rules.proofs.Posted.{comes_in, leaves, enters, Run, Payout, payouts_run}

-- ---- from a run of postings to what the tally tells

pub run_follows : (o : Opening) (t u : Tally) (side : Side) (ps : List Posting) → Run side (told o t side) ps → u.credits ≡ t.credits
    → ((k a : ℕ) → balance o u side k a + leaves side k a ps ≡ balance o t side k a + enters side k a ps) → Followed side (told o t side) ps (told o u side)
run_follows o t u side ps r e ledger = record {
  none_refused = r.none_refused;
  as_then = record {
    accounts = r.accounts;
    assets = r.assets;
    balance = λ k a. let x = r.balance k a in let y = ledger k a in omega (arith, x, y);
    issue = λ a. r.issue a ∙ rw e refl;
  };
}

-- Payouts bring nothing into account 0.
payouts_leave : (side : Side) (n s a : ℕ) (ps : List Posting) → AllByRecursion (Payout side n s) ps → enters side 0 a ps ≡ 0
payouts_leave side n s a [] all = refl
payouts_leave side n s a (credits on account asset amount ∷ ps) all = absurd all.0
payouts_leave side n s a (moves on giver taker asset amount ∷ ps) all =
    let r = payouts_leave side n s a ps all.1 in
    sum_by-cons (comes_in side 0 a) (moves on giver taker asset amount) ps ∙ (go (same_side on side) all.0 ∙ r)
  where
    go : (b : Bool) → (b ≡ true → (giver ≡ 0) × (0 < taker) × (taker < n) × (asset < s) × (0 < amount)) → cond (b && (eqb taker 0 && eqb asset a)) amount 0 + enters side 0 a ps ≡ enters side 0 a ps
    go true h = let p = (h refl).1 in rw (ne_eqb taker 0 (λ z. omega arith)) (omega arith)
    go false h = omega arith

-- So account 0 covers what it pays out, where the ledger is right.
pub payouts_follow : (o : Opening) (t u : Tally) (side : Side) (ps : List Posting) → AllByRecursion (Payout side (opened o side).accounts (opened o side).assets) ps → u.credits ≡ t.credits
    → ((k a : ℕ) → balance o u side k a + leaves side k a ps ≡ balance o t side k a + enters side k a ps) → Followed side (told o t side) ps (told o u side)
payouts_follow o t u side ps all e ledger =
    run_follows o t u side ps
    (payouts_run side (told o t side) ps all (λ a. let x = ledger 0 a in let y = payouts_leave side (opened o side).accounts (opened o side).assets a ps all in omega (arith, x, y)))
    e ledger

-- ---- the ledger of units

-- What account 0 has is counted at account 0.
pub at_house : (k n : ℕ) → at_0 k n ≡ cond (eqb 0 k) n 0
at_house k n = elim (cases_eq k 0) [ inl e ↦ rw (eq-eqb k 0 e, eq-eqb 0 k (sym e)) refl | inr e ↦ rw (ne_eqb k 0 e, ne_eqb 0 k (λ z. e (sym z))) refl ]

-- Units of the contracts in, at account 0.
abbrev pub house_units : Opening → Tally → ℕ → ℕ → ℕ
house_units o t k a = cond (eqb 0 k) (o.book.terms.multiplier * total (of_asset a) inside t.lines) 0

units_parts : (o : Opening) (t : Tally) (k a : ℕ) → Kept o t
    → units o t k a + o.book.terms.multiplier * gave t.lines k a
    ≡ o.securities.balance k a + credited t Securities k a + o.book.terms.multiplier * got t.lines k a + house_units o t k a
units_parts o t k a s =
    let m : ℕ = o.book.terms.multiplier in
    let h : ℕ = total (of_asset a) inside t.lines in
    let u = units_add_up o t k a s in
    let d = mul-add m (got t.lines k a) (at_0 k h) in
    let e : m * at_0 k h ≡ cond (eqb 0 k) (m * h) 0 = ap (λ x. m * x) (at_house k h) ∙ cond_times (eqb 0 k) m h in
    omega (arith, u, d, e)

-- The contracts that a row gave and got, and those in, decide what its account and account 0 gain and lose.
pub units_ledger : (o : Opening) (t u : Tally) (k a out into : ℕ) → Kept o t → Kept o u → u.credits ≡ t.credits
    → o.book.terms.multiplier * gave t.lines k a + o.book.terms.multiplier * got u.lines k a + house_units o u k a + out
    ≡ o.book.terms.multiplier * gave u.lines k a + o.book.terms.multiplier * got t.lines k a + house_units o t k a + into
    → units o u k a + out ≡ units o t k a + into
units_ledger o t u k a out into s v e h =
    let x = units_parts o t k a s in
    let y = units_parts o u k a v in
    let c : credited u Securities k a ≡ credited t Securities k a = rw e refl in
    omega (arith, x, y, c, h)

-- ---- the ledger of cash

abbrev pub house_cash : Tally → ℕ → ℕ
house_cash t k = cond (eqb 0 k) (all_held t) 0

money_parts : (o : Opening) (t : Tally) (k : ℕ) → Sound o.book → Kept o t
    → money o t k 0 + (spent o.book t.lines k + held t k) ≡ o.cash.balance k 0 + credited t Cash k 0 + earned o.book t.lines k + house_cash t k
money_parts o t k d s =
    let u = money_adds_up o t k 0 d s in
    let e = at_house k (all_held t) in
    omega (arith, u, e)

pub money_ledger : (o : Opening) (t u : Tally) (k out into : ℕ) → Sound o.book → Kept o t → Kept o u → u.credits ≡ t.credits
    → spent o.book t.lines k + held t k + earned o.book u.lines k + house_cash u k + out
    ≡ spent o.book u.lines k + held u k + earned o.book t.lines k + house_cash t k + into
    → money o u k 0 + out ≡ money o t k 0 + into
money_ledger o t u k out into d s v e h =
    let x = money_parts o t k d s in
    let y = money_parts o u k d v in
    let c : credited u Cash k 0 ≡ credited t Cash k 0 = rw e refl in
    omega (arith, x, y, c, h)

-- Nothing but credits changes another asset than cash.
pub other_money : (o : Opening) (t u : Tally) (k a : ℕ) → Sound o.book → Kept o t → Kept o u → u.credits ≡ t.credits → money o u k (suc a) ≡ money o t k (suc a)
other_money o t u k a d s v e =
    let z = ne_eqb (suc a) 0 (λ q. omega arith) in
    let c : credited u Cash k (suc a) ≡ credited t Cash k (suc a) = rw e refl in
    let p : (w : Tally) → Kept o w → money o w k (suc a) ≡ o.cash.balance k (suc a) + credited w Cash k (suc a) = λ w q.
    let x = money_adds_up o w k (suc a) d q in
    let y : at_0 (suc a) (spent o.book w.lines k + held w k) ≡ 0 = rw z refl in
    let n : at_0 (suc a) (earned o.book w.lines k + at_0 k (all_held w)) ≡ 0 = rw z refl in
    omega (arith, x, y, n) in
    p u v ∙ (ap (λ x. o.cash.balance k (suc a) + x) c ∙ sym (p t s))
