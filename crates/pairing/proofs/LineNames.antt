-- How many different pairs of buyer and seller lines name: a pair adds one at most.
use Rattle.std.proofs.Common.{◌≡◌, ℕ, zero, suc, ◌+◌, ◌-◌, ◌≤◌, min, Bool, true, false, cond, ◌&&◌, ◌||◌, eqb, List, [], ◌∷◌, ◌++◌, sym, refl, ap, ◌∙◌, arith}
use Rattle.std.proofs.lemmas.Bool.{eq-eqb, eqb-true, and_parts, and_from}
use Rattle.pairing.specs.declared.pair.Pair.{Pair}
use Rattle.pairing.specs.declared.line.Line.{Line}
use Rattle.order.specs.First.{any}
use Rattle.pairing.specs.Lines.{Lot, left, add_line, fresh, lines_of_pair}
use Rattle.pairing.specs.Laws.{different_pairs}

-- Whether a line names this buyer and this seller.
abbrev names : ℕ → ℕ → Line → Bool
names buyer seller k = eqb k.buyer buyer && eqb k.seller seller

or_false : (t : Bool) → (t || false) ≡ t
or_false true = refl
or_false false = refl

or_true : (t : Bool) → (t || true) ≡ true
or_true true = refl
or_true false = refl

or_assoc : (s t u : Bool) → (s || (t || u)) ≡ ((s || t) || u)
or_assoc true t u = refl
or_assoc false t u = refl

or_less : (x y : Bool) → cond {A = ℕ} (x || y) 0 1 ≤ cond x 0 1
or_less true y = omega arith
or_less false true = omega arith
or_less false false = omega arith

any_push : (passes : Line → Bool) (ls : List Line) (l : Line) → any passes (ls ++ (l ∷ [])) ≡ (any passes ls || passes l)
any_push passes [] l = or_false (passes l)
any_push passes (k ∷ ls) l = ap (λ t. passes k || t) (any_push passes ls l) ∙ or_assoc (passes k) (any passes ls) (passes l)

push_names : (ls : List Line) (l : Line) → different_pairs (ls ++ (l ∷ [])) ≤ different_pairs ls + cond (any (names l.buyer l.seller) ls) 0 1
push_names [] l = omega arith
push_names (k ∷ ls) l = go (push_names ls l) (names l.buyer l.seller k) refl
  where
    head : cond {A = ℕ} (any (names k.buyer k.seller) (ls ++ (l ∷ []))) 0 1 ≡ cond (any (names k.buyer k.seller) ls || names k.buyer k.seller l) 0 1
    head = ap (λ t. cond {A = ℕ} t 0 1) (any_push (names k.buyer k.seller) ls l)

    go : different_pairs (ls ++ (l ∷ [])) ≤ different_pairs ls + cond (any (names l.buyer l.seller) ls) 0 1
        → (t : Bool) → names l.buyer l.seller k ≡ t → different_pairs ((k ∷ ls) ++ (l ∷ [])) ≤ different_pairs (k ∷ ls) + cond (names l.buyer l.seller k || any (names l.buyer l.seller) ls) 0 1
    go ih true e =
        let q = and_parts (eqb k.buyer l.buyer) (eqb k.seller l.seller) e in
        let x = eqb-true _ _ q.0 in
        let y = eqb-true _ _ q.1 in
        let here : names k.buyer k.seller l ≡ true = and_from _ _ (eq-eqb _ _ (sym x)) (eq-eqb _ _ (sym y)) in
        let h2 : cond {A = ℕ} (any (names k.buyer k.seller) ls || names k.buyer k.seller l) 0 1 ≡ 0
        = ap (λ t. cond {A = ℕ} (any (names k.buyer k.seller) ls || t) 0 1) here ∙ ap (λ t. cond {A = ℕ} t 0 1) (or_true _) in
        let same : cond {A = ℕ} (any (names k.buyer k.seller) ls) 0 1 ≡ cond (any (names l.buyer l.seller) ls) 0 1
        = ap (λ b. cond {A = ℕ} (any (names b k.seller) ls) 0 1) x ∙ ap (λ s. cond {A = ℕ} (any (names l.buyer s) ls) 0 1) y in
        omega (arith, ih, head, h2, same)
    go ih false e =
        let o = or_less (any (names k.buyer k.seller) ls) (names k.buyer k.seller l) in
        let r = ap (λ t. cond {A = ℕ} (t || any (names l.buyer l.seller) ls) 0 1) e in
        omega (arith, ih, head, o, r)

add_names : (ls : List Line) (l : Line)
    → different_pairs (add_line ls l) + cond (any (names l.buyer l.seller) (add_line ls l)) 0 1 ≤ different_pairs ls + cond (any (names l.buyer l.seller) ls) 0 1
add_names ls l = go (eqb l.contracts 0)
  where
    go : (t : Bool) → different_pairs (cond t ls (ls ++ (l ∷ []))) + cond (any (names l.buyer l.seller) (cond t ls (ls ++ (l ∷ [])))) 0 1
        ≤ different_pairs ls + cond (any (names l.buyer l.seller) ls) 0 1
    go true = omega arith
    go false =
        let p = push_names ls l in
        let here : names l.buyer l.seller l ≡ true = and_from _ _ (eq-eqb l.buyer l.buyer refl) (eq-eqb l.seller l.seller refl) in
        let z : cond {A = ℕ} (any (names l.buyer l.seller) (ls ++ (l ∷ []))) 0 1 ≡ 0
        = ap (λ t. cond {A = ℕ} t 0 1) (any_push (names l.buyer l.seller) ls l ∙ ap (λ t. any (names l.buyer l.seller) ls || t) here ∙ or_true _) in
        omega (arith, p, z)

at_most_one : (t : Bool) → cond {A = ℕ} t 0 1 ≤ 1
at_most_one true = omega arith
at_most_one false = omega arith

pair_names : (lots : List Lot) (p : Pair) (k a n : ℕ) (ls : List Line)
    → different_pairs (lines_of_pair lots p k a n ls) ≤ different_pairs ls + cond (any (names (p.buyer + 1) (p.seller + 1)) ls) 0 1
pair_names lots p zero a n ls = omega arith
pair_names lots p (suc k) a n ls =
    let u = min n (left lots ls (p.seller + 1) a) in
    let ih = pair_names lots p k (a + 1) (n - u) (add_line ls (fresh p a u)) in
    let e = add_names ls (fresh p a u) in
    omega (arith, ih, e)

pub pair_adds_one : (lots : List Lot) (p : Pair) (k a n : ℕ) (ls : List Line) → different_pairs (lines_of_pair lots p k a n ls) ≤ different_pairs ls + 1
pair_adds_one lots p k a n ls = let e = pair_names lots p k a n ls in let o = at_most_one (any (names (p.buyer + 1) (p.seller + 1)) ls) in omega (arith, e, o)
