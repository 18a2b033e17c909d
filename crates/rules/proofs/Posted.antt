-- What postings do to a register: none is refused where account 0 covers what it pays out, and each balance moves by
-- what comes in and goes out.
use Rattle.std.proofs.Common.{◌≡◌, ℕ, zero, suc, ◌+◌, ◌<◌, ◌≤◌, Bool, true, false, cond, ◌&&◌, eqb, leb, List, [], ◌∷◌, Some, None, sum_by, Option, sym, refl, ap, ◌∙◌, inl, inr, arith}
use Rattle.std.specs.List.{AllByRecursion}
use Rattle.std.proofs.lemmas.List.Sums.{sum_by-cons, sum_by-append}
use Rattle.std.proofs.ByRecursion.{All-append}
use Rattle.std.proofs.lemmas.Bool.{ne_eqb, eq-eqb, cases_eq, cases_Bool, lt-leb, le-ltb, lt-ltb, le-leb, leb-true, leb-false, eqb-true, eqb-false}
use Rattle.register.specs.declared.fault.RegisterFault.{RegisterFault}
use Rattle.register.specs.declared.fault.RegisterFault.TheVariants.{Short}
use Rattle.register.specs.Rules.{Meaning, transfer_refused, after_transfer, with_move, moved, unless_refused}
use Rattle.rules.specs.declared.side.Side.{Side}
use Rattle.rules.specs.Tally.{same_side}
use Rattle.rules.specs.Postings.{Posting, credits, moves, refusal, posted, all_posted, NoneRefused, pays, for_each}

-- What a posting takes out of account k in asset a, and brings in.
abbrev pub goes_out : Side → ℕ → ℕ → Posting → ℕ
goes_out side k a (credits on account asset amount) = 0
goes_out side k a (moves on giver taker asset amount) = cond (same_side on side && (eqb giver k && eqb asset a)) amount 0

abbrev pub comes_in : Side → ℕ → ℕ → Posting → ℕ
comes_in side k a (credits on account asset amount) = cond (same_side on side && (eqb account k && eqb asset a)) amount 0
comes_in side k a (moves on giver taker asset amount) = cond (same_side on side && (eqb taker k && eqb asset a)) amount 0

abbrev pub leaves : Side → ℕ → ℕ → List Posting → ℕ
leaves side k a ps = sum_by (goes_out side k a) ps

abbrev pub enters : Side → ℕ → ℕ → List Posting → ℕ
enters side k a ps = sum_by (comes_in side k a) ps

-- ---- one move

-- Accounts and asset are known, the accounts differ, the amount is above 0: a register can only find it short.
pub known_move : (m : Meaning) (giver taker asset amount : ℕ) → giver < m.accounts → taker < m.accounts → asset < m.assets → (giver ≡ taker → ⊥) → 0 < amount
    → transfer_refused m giver taker asset amount ≡ cond (leb amount (m.balance giver asset)) None (Some Short)
known_move m giver taker asset amount g t a d p = elim (cases_Bool (leb amount (m.balance giver asset))) [
  | inl e ↦ let le = leb-true amount (m.balance giver asset) e in
      rw (lt-leb m.accounts giver g, lt-leb m.accounts taker t, lt-leb m.assets asset a, ne_eqb giver taker d, ne_eqb amount 0 (λ z. omega arith), le-ltb (m.balance giver asset) amount le, e) refl
  | inr e ↦ let lt = leb-false amount (m.balance giver asset) e in
      rw (lt-leb m.accounts giver g, lt-leb m.accounts taker t, lt-leb m.assets asset a, ne_eqb giver taker d, ne_eqb amount 0 (λ z. omega arith), lt-ltb (m.balance giver asset) amount lt, e) refl
]

pub moved_adds : (balance : ℕ → ℕ → ℕ) (giver taker asset amount : ℕ) → (giver ≡ taker → ⊥) → amount ≤ balance giver asset → (k a : ℕ)
    → moved balance giver taker asset amount k a + cond (eqb giver k && eqb asset a) amount 0 ≡ balance k a + cond (eqb taker k && eqb asset a) amount 0
moved_adds balance giver taker asset amount d le k a = elim (cases_eq asset a) [
  | inr x ↦ elim (cases_Bool (eqb giver k)) [
    | inl u ↦ elim (cases_Bool (eqb taker k)) [ inl v ↦ rw (ne_eqb a asset (λ z. x (sym z)), ne_eqb asset a x, u, v) refl | inr v ↦ rw (ne_eqb a asset (λ z. x (sym z)), ne_eqb asset a x, u, v) refl ]
    | inr u ↦ elim (cases_Bool (eqb taker k)) [ inl v ↦ rw (ne_eqb a asset (λ z. x (sym z)), ne_eqb asset a x, u, v) refl | inr v ↦ rw (ne_eqb a asset (λ z. x (sym z)), ne_eqb asset a x, u, v) refl ]
  ]
  | inl x ↦ elim (cases_eq giver k) [
    | inl g ↦
        let t : taker ≡ k → ⊥ = λ z. d (g ∙ sym z) in
        let b : amount ≤ balance k a = rw (sym g, sym x) le in
        rw (eq-eqb a asset (sym x), eq-eqb k giver (sym g), eq-eqb asset a x, eq-eqb giver k g, ne_eqb taker k t) (omega (arith, b))
    | inr g ↦ elim (cases_eq taker k) [
      | inl t ↦ rw (eq-eqb a asset (sym x), ne_eqb k giver (λ z. g (sym z)), eq-eqb k taker (sym t), eq-eqb asset a x, ne_eqb giver k g, eq-eqb taker k t) (omega arith)
      | inr t ↦ rw (eq-eqb a asset (sym x), ne_eqb k giver (λ z. g (sym z)), ne_eqb k taker (λ z. t (sym z)), eq-eqb asset a x, ne_eqb giver k g, ne_eqb taker k t) (omega arith)
    ]
  ]
]

-- ---- a run of postings

-- None is refused, counts and issues stay, and each balance changes by what goes out and comes in.
pub record Run (side : Side) (m : Meaning) (ps : List Posting) : Type 0 where
  pub none_refused : NoneRefused side m ps
  pub accounts : (all_posted side m ps).accounts ≡ m.accounts
  pub assets : (all_posted side m ps).assets ≡ m.assets
  pub issue : (a : ℕ) → (all_posted side m ps).issue a ≡ m.issue a
  pub balance : (k a : ℕ) → (all_posted side m ps).balance k a + leaves side k a ps ≡ m.balance k a + enters side k a ps

pub run_none : (side : Side) (m : Meaning) → Run side m []
run_none side m = record { none_refused = tt; accounts = refl; assets = refl; issue = λ _. refl; balance = λ _ _. refl }

-- The next posting is of the other side.
run_other : (side on : Side) (m : Meaning) (giver taker asset amount : ℕ) (ps : List Posting) → same_side on side ≡ false
    → Run side m ps → Run side m (moves on giver taker asset amount ∷ ps)
run_other side on m giver taker asset amount ps e r =
    let p : Posting = moves on giver taker asset amount in
    let same : posted side m p ≡ m = ap (λ (t : Bool). cond t (after_transfer m giver taker asset amount) m) e in
    let none : refusal side m p ≡ None = ap (λ (t : Bool). cond t (transfer_refused m giver taker asset amount) None) e in
    record {
      none_refused = (none, rw same r.none_refused);
      accounts = ap (λ (x : Meaning). (all_posted side x ps).accounts) same ∙ r.accounts;
      assets = ap (λ (x : Meaning). (all_posted side x ps).assets) same ∙ r.assets;
      issue = λ a. ap (λ (x : Meaning). (all_posted side x ps).issue a) same ∙ r.issue a;
      balance = λ k a.
          let q = r.balance k a in
          let s = ap (λ (x : Meaning). (all_posted side x ps).balance k a) same in
          rw (sum_by-cons (goes_out side k a) p ps, sum_by-cons (comes_in side k a) p ps, e) (omega (arith, q, s));
    }

-- The next posting is a move that the register accepts.
pub run_move : (side on : Side) (m : Meaning) (giver taker asset amount : ℕ) (ps : List Posting) → same_side on side ≡ true
    → transfer_refused m giver taker asset amount ≡ None → (giver ≡ taker → ⊥) → amount ≤ m.balance giver asset
    → Run side (with_move m giver taker asset amount) ps → Run side m (moves on giver taker asset amount ∷ ps)
run_move side on m giver taker asset amount ps e ok d le r =
    let p : Posting = moves on giver taker asset amount in
    let w : Meaning = with_move m giver taker asset amount in
    let same : posted side m p ≡ w = ap (λ (t : Bool). cond t (after_transfer m giver taker asset amount) m) e ∙ ap (λ (z : Option RegisterFault). unless_refused z w m) ok in
    let none : refusal side m p ≡ None = ap (λ (t : Bool). cond t (transfer_refused m giver taker asset amount) None) e ∙ ok in
    record {
      none_refused = (none, rw same r.none_refused);
      accounts = ap (λ (x : Meaning). (all_posted side x ps).accounts) same ∙ r.accounts;
      assets = ap (λ (x : Meaning). (all_posted side x ps).assets) same ∙ r.assets;
      issue = λ a. ap (λ (x : Meaning). (all_posted side x ps).issue a) same ∙ r.issue a;
      balance = λ k a.
          let q = r.balance k a in
          let s = ap (λ (x : Meaning). (all_posted side x ps).balance k a) same in
          let one = moved_adds m.balance giver taker asset amount d le k a in
          rw (sum_by-cons (goes_out side k a) p ps, sum_by-cons (comes_in side k a) p ps, e) (omega (arith, q, s, one));
    }

-- ---- what account 0 pays out

-- A move of account 0 to another that is known, of a known asset and some amount, wherever it is of this side.
abbrev pub Payout : Side → ℕ → ℕ → Posting → Type 0
Payout side accounts assets (credits on account asset amount) = ⊥
Payout side accounts assets (moves on giver taker asset amount) = same_side on side ≡ true → (giver ≡ 0) × (0 < taker) × (taker < accounts) × (asset < assets) × (0 < amount)

-- What account 0 has left.
rest : (giver taker asset amount a x y : ℕ) → giver ≡ 0 → 0 < taker
    → x + cond (eqb giver 0 && eqb asset a) amount 0 ≡ y + cond (eqb taker 0 && eqb asset a) amount 0 → x + cond (eqb asset a) amount 0 ≡ y
rest giver taker asset amount a x y z p h =
    let h' : x + cond (eqb asset a) amount 0 ≡ y + 0 = rw (eq-eqb giver 0 z, ne_eqb taker 0 (λ q. omega arith)) at h in
    omega (arith, h')

pub payouts_run : (side : Side) (m : Meaning) (ps : List Posting) → AllByRecursion (Payout side m.accounts m.assets) ps
    → ((a : ℕ) → leaves side 0 a ps ≤ m.balance 0 a) → Run side m ps
payouts_run side m [] all cov = run_none side m
payouts_run side m (credits on account asset amount ∷ ps) all cov = absurd all.0
payouts_run side m (moves on giver taker asset amount ∷ ps) all cov = elim (cases_Bool (same_side on side)) [
  | inr e ↦ run_other side on m giver taker asset amount ps e (payouts_run side m ps all.1 (λ a.
      let c = cov a in
      let s : leaves side 0 a (moves on giver taker asset amount ∷ ps) ≡ leaves side 0 a ps = sum_by-cons (goes_out side 0 a) (moves on giver taker asset amount) ps ∙ rw e (omega arith) in
      omega (arith, c, s)))
  | inl e ↦
      let f = all.0 e in
      let z = f.0 in let pos_taker = f.1 in let known = f.2 in let pos_amount = f.4 in
      let cons : (a : ℕ) → leaves side 0 a (moves on giver taker asset amount ∷ ps) ≡ cond (eqb asset a) amount 0 + leaves side 0 a ps = λ a.
      sum_by-cons (goes_out side 0 a) (moves on giver taker asset amount) ps ∙ rw (e, eq-eqb giver 0 z) refl in
      let le : amount ≤ m.balance giver asset =
      let c = cov asset in let s = cons asset in
      let s' : leaves side 0 asset (moves on giver taker asset amount ∷ ps) ≡ amount + leaves side 0 asset ps = s ∙ rw (eq-eqb asset asset refl) refl in
      let b : amount ≤ m.balance 0 asset = omega (arith, c, s') in
      rw z b in
      let apart : giver ≡ taker → ⊥ = λ q. omega (arith, z, q, pos_taker) in
      let ok : transfer_refused m giver taker asset amount ≡ None =
      known_move m giver taker asset amount (omega (arith, z, known)) known f.3 apart pos_amount ∙ rw (le-leb amount (m.balance giver asset) le) refl in
      run_move side on m giver taker asset amount ps e ok apart le
      (payouts_run side (with_move m giver taker asset amount) ps all.1 (λ a.
      let c = cov a in let s = cons a in
      let q = moved_adds m.balance giver taker asset amount apart le 0 a in
      let q' : moved m.balance giver taker asset amount 0 a + cond (eqb asset a) amount 0 ≡ m.balance 0 a = rest giver taker asset amount a (moved m.balance giver taker asset amount 0 a) (m.balance 0 a) z pos_taker q in
      omega (arith, c, s, q')))
]

-- ---- lists of payments

pub pays_payout : (side on : Side) (accounts assets taker asset amount : ℕ)
    → (0 < amount → same_side on side ≡ true → (0 < taker) × (taker < accounts) × (asset < assets)) → AllByRecursion (Payout side accounts assets) (pays on taker asset amount)
pays_payout side on accounts assets taker asset amount h = elim (cases_Bool (eqb amount 0)) [
  | inl e ↦ rw e tt
  | inr e ↦
      let p : 0 < amount = let q = eqb-false amount 0 e in elim (cases_eq amount 0) [ inl z ↦ absurd (q z) | inr z ↦ above amount z ] in
      rw e ((λ on_side. let f = h p on_side in (refl, f.0, f.1, f.2, p)), tt)
]
  where
    above : (n : ℕ) → (n ≡ 0 → ⊥) → 0 < n
    above zero z = absurd (z refl)
    above (suc n) z = omega arith

nothing : (c : Bool) (x : ℕ) → x ≡ 0 → 0 ≡ cond c x 0
nothing true x e = sym e
nothing false x e = refl

pub pays_leave : (side on : Side) (k a taker asset amount : ℕ) → leaves side k a (pays on taker asset amount) ≡ cond (same_side on side && (eqb 0 k && eqb asset a)) amount 0
pays_leave side on k a taker asset amount = elim (cases_Bool (eqb amount 0)) [
  | inl e ↦ rw e (nothing (same_side on side && (eqb 0 k && eqb asset a)) amount (eqb-true amount 0 e))
  | inr e ↦ rw e (omega arith)
]

pub pays_enter : (side on : Side) (k a taker asset amount : ℕ) → enters side k a (pays on taker asset amount) ≡ cond (same_side on side && (eqb taker k && eqb asset a)) amount 0
pays_enter side on k a taker asset amount = elim (cases_Bool (eqb amount 0)) [
  | inl e ↦ rw e (nothing (same_side on side && (eqb taker k && eqb asset a)) amount (eqb-true amount 0 e))
  | inr e ↦ rw e (omega arith)
]

pub each_all : {X : Type 0} (P : Posting → Type 0) (f : X → List Posting) (xs : List X) → AllByRecursion (λ x. AllByRecursion P (f x)) xs → AllByRecursion P (for_each f xs)
each_all P f [] a = tt
each_all P f (x ∷ xs) a = All-append P (f x) (for_each f xs) a.0 (each_all P f xs a.1)

pub each_sum : {X : Type 0} (g : Posting → ℕ) (f : X → List Posting) (h : X → ℕ) (xs : List X) → ((x : X) → sum_by g (f x) ≡ h x) → sum_by g (for_each f xs) ≡ sum_by h xs
each_sum g f h [] e = refl
each_sum g f h (x ∷ xs) e =
    let p = each_sum g f h xs e in let q = e x in
    rw (sum_by-append g (f x) (for_each f xs), sum_by-cons h x xs) (omega arith)
