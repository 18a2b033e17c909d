-- Nothing is made or lost: the told balances of an asset add up to the opening ones and the credits.
use Rattle.std.proofs.Common.{◌≡◌, ℕ, zero, suc, ◌+◌, ◌-◌, ◌*◌, ◌<◌, ◌≤◌, Bool, true, false, cond, ◌&&◌, eqb, ◌⊎◌, List, [], ◌∷◌, sum_by, sym, refl, ap, ◌∙◌, inl, inr, mul-zero, mul-add, arith}
use Rattle.std.specs.List.{AllByRecursion}
use Rattle.std.proofs.lemmas.List.Sums.{sum_by-cons}
use Rattle.std.proofs.ByRecursion.{All-weaker}
use Rattle.std.proofs.lemmas.Bool.{ne_eqb, eq-eqb, cases_eq, cases_Bool}
use Rattle.register.specs.Rules.{sum_to}
use Rattle.book.specs.Books.{Contents, value}
use Rattle.pairing.specs.declared.line.Line.{Line}
use Rattle.pairing.specs.Lines.{total, of_asset, inside, buyer_agent, seller_agent, debit}
use Rattle.rules.specs.declared.side.Side.{Side}
use Rattle.rules.specs.declared.side.Side.TheVariants.{Securities, Cash}
use Rattle.rules.specs.Tally.{Opening, Tally, Credited, Drawn, opened, same_side, credited, issued, held, all_held, at_0, units, money}
use Rattle.rules.specs.Histories.{Opens}
use Rattle.rules.proofs.ByNumber.{below, parts}
use Rattle.rules.proofs.Totals.{sum_same, all_of}
use Rattle.rules.proofs.Kept.{Kept, Sane, gave, got, spent, earned}
use Rattle.rules.proofs.CreditsKnown.{CreditsKnown, known_to}
use Rattle.rules.proofs.NeverCut.{units_add_up, money_adds_up}
use Rattle.rules.proofs.Opened.{room_for}
use Rattle.rules.proofs.OnlyShort.{debit_known, agents_known}

-- ---- sums over the accounts below n

-- A test of two parts counts as one in the other.
nested : (x y : Bool) (n : ℕ) → cond (x && y) n 0 ≡ cond x (cond y n 0) 0
nested true y n = refl
nested false y n = refl

-- Number by number, where a second test goes with the record.
pub tested_parts : {X : Type 0} (n : ℕ) (g f : X → ℕ) (p : X → Bool) (xs : List X) → AllByRecursion (λ x. (g x < n) ⊎ (f x ≡ 0)) xs
    → sum_to (λ k. sum_by (λ x. cond (eqb (g x) k && p x) (f x) 0) xs) n ≡ sum_by (λ x. cond (p x) (f x) 0) xs
tested_parts n g f p xs a =
    (below n).same (λ k. sum_by (λ x. cond (eqb (g x) k && p x) (f x) 0) xs) (λ k. sum_by (λ x. cond (eqb (g x) k) (cond (p x) (f x) 0) 0) xs)
    (λ k. sum_same (λ x. cond (eqb (g x) k && p x) (f x) 0) (λ x. cond (eqb (g x) k) (cond (p x) (f x) 0) 0) xs (all_of (λ x. cond (eqb (g x) k && p x) (f x) 0 ≡ cond (eqb (g x) k) (cond (p x) (f x) 0) 0) (λ x. nested (eqb (g x) k) (p x) (f x)) xs))
    ∙ parts (λ h. sum_to h n) (λ x. x < n) (below n) g (λ x. cond (p x) (f x) 0) xs
    (All-weaker (λ x. (g x < n) ⊎ (f x ≡ 0)) (λ x. (g x < n) ⊎ (cond (p x) (f x) 0 ≡ 0)) (λ x h. elim h [ inl i ↦ inl i | inr z ↦ inr (nothing (p x) (f x) z) ]) xs a)
  where
    nothing : (b : Bool) (n : ℕ) → n ≡ 0 → cond b n 0 ≡ 0
    nothing true n z = z
    nothing false n z = refl

to_times : (m : ℕ) (f : ℕ → ℕ) (n : ℕ) → sum_to (λ k. m * f k) n ≡ m * sum_to f n
to_times m f zero = sym (mul-zero m)
to_times m f (suc n) = let p = to_times m f n in let q = mul-add m (sum_to f n) (f n) in omega (arith, p, q)

-- What account 0 alone has.
house_part : (h n : ℕ) → 0 < n → sum_to (λ k. at_0 k h) n ≡ h
house_part h n p = (below n).same (λ k. at_0 k h) (λ k. cond (eqb 0 k) h 0) (λ k. turn k) ∙ (below n).one 0 h p
  where
    turn : (k : ℕ) → at_0 k h ≡ cond (eqb 0 k) h 0
    turn k = elim (cases_eq k 0) [ inl e ↦ rw (eq-eqb k 0 e, eq-eqb 0 k (sym e)) refl | inr e ↦ rw (ne_eqb k 0 e, ne_eqb 0 k (λ z. e (sym z))) refl ]

-- All credits of an asset.
side_parts : (side : Side) (a n : ℕ) (xs : List Credited) → AllByRecursion (λ (x : Credited). (same_side x.side side ≡ true) → x.account < n) xs
    → sum_to (λ k. sum_by (λ (x : Credited). cond (same_side x.side side && (eqb x.account k && eqb x.asset a)) x.amount 0) xs) n
    ≡ sum_by (λ (x : Credited). cond (same_side x.side side && eqb x.asset a) x.amount 0) xs
side_parts side a n xs all =
    let f : Credited → ℕ = λ x. cond (same_side x.side side) x.amount 0 in
    (below n).same (λ k. sum_by (λ (x : Credited). cond (same_side x.side side && (eqb x.account k && eqb x.asset a)) x.amount 0) xs)
    (λ k. sum_by (λ (x : Credited). cond (eqb x.account k && eqb x.asset a) (cond (same_side x.side side) x.amount 0) 0) xs)
    (λ k. sum_same (λ (x : Credited). cond (same_side x.side side && (eqb x.account k && eqb x.asset a)) x.amount 0)
    (λ (x : Credited). cond (eqb x.account k && eqb x.asset a) (cond (same_side x.side side) x.amount 0) 0) xs
    (all_of (λ (x : Credited). cond (same_side x.side side && (eqb x.account k && eqb x.asset a)) x.amount 0 ≡ cond (eqb x.account k && eqb x.asset a) (cond (same_side x.side side) x.amount 0) 0)
    (λ x. swapped (same_side x.side side) (eqb x.account k && eqb x.asset a) x.amount) xs))
    ∙ tested_parts n (λ (x : Credited). x.account) (λ x. cond (same_side x.side side) x.amount 0) (λ x. eqb x.asset a) xs
    (All-weaker (λ (x : Credited). (same_side x.side side ≡ true) → x.account < n) (λ x. (x.account < n) ⊎ (cond (same_side x.side side) x.amount 0 ≡ 0))
    (λ x h. elim (cases_Bool (same_side x.side side)) [ inl e ↦ inl (h e) | inr e ↦ inr (rw e refl) ]) xs all)
    ∙ sum_same (λ (x : Credited). cond (eqb x.asset a) (cond (same_side x.side side) x.amount 0) 0) (λ x. cond (same_side x.side side && eqb x.asset a) x.amount 0) xs
    (all_of (λ (x : Credited). cond (eqb x.asset a) (cond (same_side x.side side) x.amount 0) 0 ≡ cond (same_side x.side side && eqb x.asset a) x.amount 0)
    (λ x. sym (swapped (same_side x.side side) (eqb x.asset a) x.amount)) xs)
  where
    swapped : (s p : Bool) (n : ℕ) → cond (s && p) n 0 ≡ cond p (cond s n 0) 0
    swapped true p n = refl
    swapped false true n = refl
    swapped false false n = refl

pub credits_sum : (o : Opening) (t : Tally) (side : Side) (a : ℕ) → CreditsKnown o t → sum_to (λ k. credited t side k a) (opened o side).accounts ≡ issued t side a
credits_sum o t side a c = side_parts side a (opened o side).accounts t.credits
    (All-weaker (λ (x : Credited). (x.account < (opened o x.side).accounts) × (x.asset < (opened o x.side).assets)) (λ x. (same_side x.side side ≡ true) → x.account < (opened o side).accounts)
    (λ x h e. (known_to o side x e h).0) t.credits c.each)

-- ---- units

balance_of_line : (a : ℕ) (l : Line) → l.settled + l.returned ≤ l.taken → cond (eqb l.asset a) (l.taken - l.returned) 0 ≡ cond (eqb l.asset a) l.settled 0 + cond (eqb l.asset a) (inside l) 0
balance_of_line a l h = go (eqb l.asset a)
  where
    go : (b : Bool) → cond b (l.taken - l.returned) 0 ≡ cond b l.settled 0 + cond b (inside l) 0
    go true = omega arith
    go false = refl

sum_two : {X : Type 0} (f g h : X → ℕ) (xs : List X) → AllByRecursion (λ x. f x ≡ g x + h x) xs → sum_by f xs ≡ sum_by g xs + sum_by h xs
sum_two f g h [] a = refl
sum_two f g h (x ∷ xs) a = let p = a.0 in let q = sum_two f g h xs a.1 in rw (sum_by-cons f x xs, sum_by-cons g x xs, sum_by-cons h x xs) (omega arith)

pub units_sum : (o : Opening) (t : Tally) (a : ℕ) → Opens o → Kept o t → CreditsKnown o t
    → sum_to (λ k. units o t k a) o.securities.accounts ≡ sum_to (λ k. o.securities.balance k a) o.securities.accounts + issued t Securities a
units_sum o t a p k c =
    let m : ℕ = o.book.terms.multiplier in
    let n : ℕ = o.securities.accounts in
    let ls : List Line = t.lines in
    let b : Contents = o.book in
    let rows = (room_for o p).rows in
    let S = below n in
    let sellers = tested_parts n (λ (l : Line). l.seller) (λ l. l.taken - l.returned) (λ l. eqb l.asset a) ls
    (All-weaker (Sane b) (λ l. (l.seller < n) ⊎ (l.taken - l.returned ≡ 0)) (λ l v. inl (let h = v.seller.1 in omega (arith, h, rows))) ls k.lines) in
    let buyers = tested_parts n (λ (l : Line). l.buyer) (λ l. l.settled) (λ l. eqb l.asset a) ls
    (All-weaker (Sane b) (λ l. (l.buyer < n) ⊎ (l.settled ≡ 0)) (λ l v. inl (let h = v.buyer.1 in omega (arith, h, rows))) ls k.lines) in
    let house = house_part (total (of_asset a) inside ls) n (omega (arith, rows)) in
    let lines = sum_two (λ (l : Line). cond (eqb l.asset a) (l.taken - l.returned) 0) (λ l. cond (eqb l.asset a) l.settled 0) (λ l. cond (eqb l.asset a) (inside l) 0) ls
    (All-weaker (Sane b) (λ l. cond (eqb l.asset a) (l.taken - l.returned) 0 ≡ cond (eqb l.asset a) l.settled 0 + cond (eqb l.asset a) (inside l) 0) (λ l v. balance_of_line a l v.used) ls k.lines) in
    let given : sum_to (λ j. m * gave ls j a) n ≡ m * sum_to (λ j. gave ls j a) n = to_times m (λ j. gave ls j a) n in
    let taken : sum_to (λ j. m * (got ls j a + at_0 j (total (of_asset a) inside ls))) n ≡ m * sum_to (λ j. got ls j a + at_0 j (total (of_asset a) inside ls)) n = to_times m (λ j. got ls j a + at_0 j (total (of_asset a) inside ls)) n in
    let both : sum_to (λ j. got ls j a + at_0 j (total (of_asset a) inside ls)) n ≡ sum_to (λ j. gave ls j a) n =
    S.add (λ j. got ls j a) (λ j. at_0 j (total (of_asset a) inside ls)) ∙ omega (arith, sellers, buyers, house, lines) in
    let equal : m * sum_to (λ j. got ls j a + at_0 j (total (of_asset a) inside ls)) n ≡ m * sum_to (λ j. gave ls j a) n = ap (λ x. m * x) both in
    let all : sum_to (λ j. units o t j a) n + sum_to (λ j. m * gave ls j a) n
    ≡ sum_to (λ j. o.securities.balance j a) n + sum_to (λ j. credited t Securities j a) n + sum_to (λ j. m * (got ls j a + at_0 j (total (of_asset a) inside ls))) n =
    sym (S.add (λ j. units o t j a) (λ j. m * gave ls j a))
    ∙ S.same (λ j. units o t j a + m * gave ls j a) (λ j. o.securities.balance j a + credited t Securities j a + m * (got ls j a + at_0 j (total (of_asset a) inside ls))) (λ j. units_add_up o t j a k)
    ∙ S.add (λ j. o.securities.balance j a + credited t Securities j a) (λ j. m * (got ls j a + at_0 j (total (of_asset a) inside ls)))
    ∙ ap (λ x. x + sum_to (λ j. m * (got ls j a + at_0 j (total (of_asset a) inside ls))) n) (S.add (λ j. o.securities.balance j a) (λ j. credited t Securities j a)) in
    let issues = credits_sum o t Securities a c in
    omega (arith, all, given, taken, equal, issues)

-- ---- cash

value_parts : (b : Contents) (who : Line → ℕ) (n : ℕ) (ls : List Line) → AllByRecursion (λ l. who l < n) ls
    → sum_to (λ k. sum_by (λ l. cond (eqb (who l) k) (value b l.asset l.settled) 0) ls) n ≡ sum_by (λ l. value b l.asset l.settled) ls
value_parts b who n ls a = parts (λ h. sum_to h n) (λ x. x < n) (below n) who (λ l. value b l.asset l.settled) ls
    (All-weaker (λ l. who l < n) (λ l. (who l < n) ⊎ (value b l.asset l.settled ≡ 0)) (λ l h. inl h) ls a)

draws_sum : (o : Opening) (t : Tally) → Opens o → Kept o t → sum_to (held t) o.cash.accounts ≡ all_held t
draws_sum o t p k = parts (λ h. sum_to h o.cash.accounts) (λ x. x < o.cash.accounts) (below o.cash.accounts) (λ (x : Drawn). x.agent) (λ x. x.amount) t.draws
    (both t.draws k.draws k.some_drawn)
  where
    both : (ds : List Drawn) → AllByRecursion (λ (x : Drawn). x.amount ≡ debit o.book t.lines x.agent) ds → AllByRecursion (λ (x : Drawn). 0 < x.amount) ds → AllByRecursion (λ (x : Drawn). (x.agent < o.cash.accounts) ⊎ (x.amount ≡ 0)) ds
    both [] d s = tt
    both (x ∷ ds) d s = (
      inl (debit_known o.book (λ g. (0 < g) × (g < o.cash.accounts)) t.lines x.agent (agents_known o t p k) (let e = d.0 in let f = s.0 in omega (arith, e, f))).1,
      both ds d.1 s.1,
    )

pub money_sum : (o : Opening) (t : Tally) (a : ℕ) → Opens o → Kept o t → CreditsKnown o t
    → sum_to (λ k. money o t k a) o.cash.accounts ≡ sum_to (λ k. o.cash.balance k a) o.cash.accounts + issued t Cash a
money_sum o t zero p k c =
    let n : ℕ = o.cash.accounts in
    let ls : List Line = t.lines in
    let b : Contents = o.book in
    let S = below n in
    let some : 0 < n = let r = (room_for o p).agents 1 (omega arith, p.book.holder_count.0) in omega (arith, r) in
    let buyers = value_parts b (buyer_agent b) n ls (All-weaker (Sane b) (λ l. buyer_agent b l < n) (λ l v. (room_for o p).agents l.buyer v.buyer) ls k.lines) in
    let sellers = value_parts b (seller_agent b) n ls (All-weaker (Sane b) (λ l. seller_agent b l < n) (λ l v. (room_for o p).agents l.seller v.seller) ls k.lines) in
    let draws = draws_sum o t p k in
    let house = house_part (all_held t) n some in
    let out = S.add (spent b ls) (held t) in
    let in_sum = S.add (earned b ls) (λ j. at_0 j (all_held t)) in
    let all : sum_to (λ j. money o t j 0) n + sum_to (λ j. spent b ls j + held t j) n
    ≡ sum_to (λ j. o.cash.balance j 0) n + sum_to (λ j. credited t Cash j 0) n + sum_to (λ j. earned b ls j + at_0 j (all_held t)) n =
    sym (S.add (λ j. money o t j 0) (λ j. spent b ls j + held t j))
    ∙ S.same (λ j. money o t j 0 + (spent b ls j + held t j)) (λ j. o.cash.balance j 0 + credited t Cash j 0 + (earned b ls j + at_0 j (all_held t))) (λ j. money_adds_up o t j 0 p.book k)
    ∙ S.add (λ j. o.cash.balance j 0 + credited t Cash j 0) (λ j. earned b ls j + at_0 j (all_held t))
    ∙ ap (λ x. x + sum_to (λ j. earned b ls j + at_0 j (all_held t)) n) (S.add (λ j. o.cash.balance j 0) (λ j. credited t Cash j 0)) in
    let issues = credits_sum o t Cash 0 c in
    omega (arith, all, out, in_sum, buyers, sellers, draws, house, issues)
money_sum o t (suc a) p k c =
    let n : ℕ = o.cash.accounts in
    let S = below n in
    let issues = credits_sum o t Cash (suc a) c in
    S.same (λ j. money o t j (suc a)) (λ j. o.cash.balance j (suc a) + credited t Cash j (suc a)) (λ j. let e = money_adds_up o t j (suc a) p.book k in other j e)
    ∙ S.add (λ j. o.cash.balance j (suc a)) (λ j. credited t Cash j (suc a))
    ∙ omega (arith, issues)
  where
    other : (j : ℕ) → money o t j (suc a) + at_0 (suc a) (spent o.book t.lines j + held t j)
        ≡ o.cash.balance j (suc a) + credited t Cash j (suc a) + at_0 (suc a) (earned o.book t.lines j + at_0 j (all_held t)) → money o t j (suc a) ≡ o.cash.balance j (suc a) + credited t Cash j (suc a)
    other j e =
        let z = ne_eqb (suc a) 0 (λ q. omega arith) in
        let x : at_0 (suc a) (spent o.book t.lines j + held t j) ≡ 0 = rw z refl in
        let y : at_0 (suc a) (earned o.book t.lines j + at_0 j (all_held t)) ≡ 0 = rw z refl in
        omega (arith, e, x, y)
