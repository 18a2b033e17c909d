-- The postings of a session's end, of pairing, of a notice and of a credit do what the tally tells.
use Rattle.std.proofs.Common.{◌≡◌, ℕ, zero, suc, ◌+◌, ◌-◌, ◌*◌, ◌<◌, ◌≤◌, Bool, true, false, cond, ◌&&◌, eqb, ◌⊎◌, List, [], ◌∷◌, None, Option, sym, refl, ap, ◌∙◌, inl, inr, mul-zero, arith}
use Rattle.std.specs.List.{AllByRecursion}
use Rattle.std.proofs.lemmas.List.Sums.{sum_by-cons}
use Rattle.std.proofs.ByRecursion.{All-weaker}
use Rattle.std.proofs.lemmas.Bool.{ne_eqb, eq-eqb, cases_eq}
use Rattle.register.specs.declared.fault.RegisterFault.{RegisterFault}
use Rattle.register.specs.Rules as register
use Rattle.register.specs.Rules.{Meaning, credit_refused, unless_refused, after_credit}
use Rattle.book.specs.Books.{Contents, Sound, value}
use Rattle.pairing.specs.declared.line.Line.{Line}
use Rattle.pairing.specs.Lines.{total, of_seller, of_buyer, of_asset, inside, buyer_agent, seller_agent}
use Rattle.rules.specs.declared.side.Side.{Side}
use Rattle.rules.specs.declared.side.Side.TheVariants.{Securities, Cash}
use Rattle.book.specs.Limits.{most_agent}
use Rattle.rules.specs.Tally.{Opening, Tally, Credited, same_side, credited, issued, held, units, money, balance, told, with_credit}
use Rattle.rules.specs.Histories.{Opens}
use Rattle.rules.specs.Postings.{credits, Followed}
use Rattle.rules.proofs.Totals.{sum_zero}
use Rattle.rules.proofs.Kept.{Kept, Sane, gave, got, spent, earned}
use Rattle.rules.proofs.NeverCut.{units_add_up, money_adds_up}
use Rattle.rules.proofs.Balances.{agent_in}
use Rattle.rules.proofs.Opened.{room_for}
use Rattle.rules.proofs.OnlyShort.{debit_known, agents_known}
use Rattle.rules.proofs.WholePays.{over_agents, held_all}
use Rattle.rules.proofs.Posted.{leaves, enters, run_none}
use Rattle.rules.proofs.PaidOut.{paid_agents, agents_leave, agents_enter, agents_enter_other, agents_no_units, agents_payouts, agents_no_payouts}
use Rattle.rules.proofs.Ledger.{run_follows, payouts_follow, house_units, house_cash, units_ledger, money_ledger, other_money}

-- ---- an end: what is held goes back

-- An agent of whom something is held has a debit.
held_known : (o : Opening) (t : Tally) (P : ℕ → Type 0) → Kept o t → AllByRecursion (λ l. P (buyer_agent o.book l)) t.lines → (k : ℕ) → 0 < held t k → P k
held_known o t P s all k some = elim (s.drawn k) [
  | inl z ↦ absurd (omega (arith, z, some))
  | inr e ↦ debit_known o.book P t.lines k all (omega (arith, e, some))
]

end_money : (o : Opening) (t u : Tally) → u.lines ≡ t.lines → u.credits ≡ t.credits → u.draws ≡ [] → Sound o.book → Kept o t → Kept o u → (k a : ℕ)
    → money o u k a + leaves Cash k a (paid_agents (held t)) ≡ money o t k a + enters Cash k a (paid_agents (held t))
end_money o t u el ec ed d s v k zero =
    let b : Contents = o.book in
    let out : leaves Cash k 0 (paid_agents (held t)) ≡ house_cash t k = agents_leave (held t) k 0 ∙ (whole (eqb 0 k) (over_agents (held t)) ∙ ap (λ x. cond (eqb 0 k) x 0) (held_all o t d s)) in
    let into : enters Cash k 0 (paid_agents (held t)) ≡ held t k = agents_enter (held t) k (range (held t k) (λ some.
    held_known o t (λ g. (1 ≤ g) × (g < 1 + most_agent)) s (All-weaker (Sane b) (λ l. (1 ≤ buyer_agent b l) × (buyer_agent b l < 1 + most_agent)) (λ l w. let i = agent_in b d l.buyer w.buyer in let h = i.1 in (i.0, omega (arith, h))) t.lines s.lines) k some)) in
    let hu : held u k ≡ 0 = rw ed refl in
    let cu : house_cash u k ≡ 0 = rw ed (nil (eqb 0 k)) in
    let x : spent b u.lines k ≡ spent b t.lines k = rw el refl in
    let y : earned b u.lines k ≡ earned b t.lines k = rw el refl in
    money_ledger o t u k (leaves Cash k 0 (paid_agents (held t))) (enters Cash k 0 (paid_agents (held t))) d s v ec
    (chained (spent b t.lines k) (held t k) (earned b u.lines k) (house_cash u k) (leaves Cash k 0 (paid_agents (held t))) (spent b u.lines k) (held u k) (earned b t.lines k) (house_cash t k) (enters Cash k 0 (paid_agents (held t))) x y hu cu out into)
  where
    nil : (c : Bool) → cond {A = ℕ} c 0 0 ≡ 0
    nil true = refl
    nil false = refl

    whole : (c : Bool) (n : ℕ) → cond (c && true) n 0 ≡ cond c n 0
    whole true n = refl
    whole false n = refl

    range : {P : Type 0} (n : ℕ) → (0 < n → P) → P ⊎ (n ≡ 0)
    range zero h = inr refl
    range (suc n) h = inl (h (omega arith))

    chained : (st ht eu cu out su hu et ct into : ℕ) → su ≡ st → eu ≡ et → hu ≡ 0 → cu ≡ 0 → out ≡ ct → into ≡ ht → st + ht + eu + cu + out ≡ su + hu + et + ct + into
    chained st ht eu cu out su hu et ct into a b c d e f = omega arith
end_money o t u el ec ed d s v k (suc a) =
    let out : leaves Cash k (suc a) (paid_agents (held t)) ≡ 0 = agents_leave (held t) k (suc a) ∙ never (eqb 0 k) (eqb 0 (suc a)) (over_agents (held t)) (ne_eqb 0 (suc a) (λ z. omega arith)) in
    let into = agents_enter_other (held t) k a in
    let same = other_money o t u k a d s v ec in
    done (money o u k (suc a)) (leaves Cash k (suc a) (paid_agents (held t))) (money o t k (suc a)) (enters Cash k (suc a) (paid_agents (held t))) same out into
  where
    never : (c d : Bool) (n : ℕ) → d ≡ false → cond (c && d) n 0 ≡ 0
    never true d n e = rw e refl
    never false d n e = refl

    done : (x y z w : ℕ) → x ≡ z → y ≡ 0 → w ≡ 0 → x + y ≡ z + w
    done x y z w p q r = omega arith

pub end_follows : (o : Opening) (t u : Tally) → u.lines ≡ t.lines → u.credits ≡ t.credits → u.draws ≡ [] → Opens o → Kept o t → Kept o u → (side : Side)
    → Followed side (told o t side) (paid_agents (held t)) (told o u side)
end_follows o t u el ec ed p s v Securities = payouts_follow o t u Securities (paid_agents (held t)) (agents_no_payouts o.securities.accounts o.securities.assets (held t)) ec
    (λ k a. let n = agents_no_units (held t) k a in done (units o u k a) (leaves Securities k a (paid_agents (held t))) (units o t k a) (enters Securities k a (paid_agents (held t))) (rw (el, ec) refl) n.0 n.1)
  where
    done : (x y z w : ℕ) → x ≡ z → y ≡ 0 → w ≡ 0 → x + y ≡ z + w
    done x y z w p q r = omega arith
end_follows o t u el ec ed p s v Cash = payouts_follow o t u Cash (paid_agents (held t))
    (agents_payouts o.cash.accounts o.cash.assets (held t) (held_known o t (λ g. (0 < g) × (g < o.cash.accounts)) s (agents_known o t p s)) (room_for o p).cash) ec (end_money o t u el ec ed p.book s v)

-- ---- pairing: nothing is taken yet

-- Lines of which nothing was taken count for nothing.
abbrev pub Untaken : Line → Type 0
Untaken l = (l.taken ≡ 0) × (l.settled ≡ 0) × (l.returned ≡ 0)

no_sum : (p : Line → Bool) (f : Line → ℕ) (ls : List Line) → ((l : Line) → Untaken l → f l ≡ 0) → AllByRecursion Untaken ls → total p f ls ≡ 0
no_sum p f ls none all = sum_zero (λ l. cond (p l) (f l) 0) ls (All-weaker Untaken (λ l. cond (p l) (f l) 0 ≡ 0) (λ l v. nothing (p l) (f l) (none l v)) ls all)
  where
    nothing : (c : Bool) (n : ℕ) → n ≡ 0 → cond c n 0 ≡ 0
    nothing true n e = e
    nothing false n e = refl

pub unmoved : (o : Opening) (t u : Tally) → AllByRecursion Untaken t.lines → AllByRecursion Untaken u.lines → ((b : Contents) (a : ℕ) → value b a 0 ≡ 0) → u.credits ≡ t.credits → u.draws ≡ t.draws → Opens o → Kept o t → Kept o u → (side : Side)
    → Followed side (told o t side) [] (told o u side)
unmoved o t u at bt v0 ec ed p s v Securities =
    let m : ℕ = o.book.terms.multiplier in
    run_follows o t u Securities [] (run_none Securities (told o t Securities)) ec (λ k a.
    let g : m * gave t.lines k a ≡ 0 = ap (λ x. m * x) (no_sum (of_seller k a) (λ l. l.taken - l.returned) t.lines (λ l w. let e = w.0 in omega (arith, e)) at) ∙ mul-zero m in
    let g' : m * gave u.lines k a ≡ 0 = ap (λ x. m * x) (no_sum (of_seller k a) (λ l. l.taken - l.returned) u.lines (λ l w. let e = w.0 in omega (arith, e)) bt) ∙ mul-zero m in
    let r : m * got t.lines k a ≡ 0 = ap (λ x. m * x) (no_sum (of_buyer k a) (λ l. l.settled) t.lines (λ l w. w.1) at) ∙ mul-zero m in
    let r' : m * got u.lines k a ≡ 0 = ap (λ x. m * x) (no_sum (of_buyer k a) (λ l. l.settled) u.lines (λ l w. w.1) bt) ∙ mul-zero m in
    let h : house_units o t k a ≡ 0 = house k m (total (of_asset a) inside t.lines) (no_sum (of_asset a) inside t.lines (λ l w. let e = w.0 in omega (arith, e)) at) in
    let h' : house_units o u k a ≡ 0 = house k m (total (of_asset a) inside u.lines) (no_sum (of_asset a) inside u.lines (λ l w. let e = w.0 in omega (arith, e)) bt) in
    units_ledger o t u k a 0 0 s v ec (omega (arith, g, g', r, r', h, h')))
  where
    house : (k m n : ℕ) → n ≡ 0 → cond (eqb 0 k) (m * n) 0 ≡ 0
    house k m n e = go (eqb 0 k)
      where
        go : (c : Bool) → cond c (m * n) 0 ≡ 0
        go true = ap (λ x. m * x) e ∙ mul-zero m
        go false = refl
unmoved o t u at bt v0 ec ed p s v Cash = run_follows o t u Cash [] (run_none Cash (told o t Cash)) ec still
  where
    worth : (l : Line) → Untaken l → value o.book l.asset l.settled ≡ 0
    worth l w = ap (value o.book l.asset) w.1 ∙ v0 o.book l.asset

    still : (k a : ℕ) → money o u k a + 0 ≡ money o t k a + 0
    still k zero =
        let b : Contents = o.book in
        let x : spent b t.lines k ≡ 0 = no_sum (λ l. eqb (buyer_agent b l) k) (λ l. value b l.asset l.settled) t.lines worth at in
        let x' : spent b u.lines k ≡ 0 = no_sum (λ l. eqb (buyer_agent b l) k) (λ l. value b l.asset l.settled) u.lines worth bt in
        let y : earned b t.lines k ≡ 0 = no_sum (λ l. eqb (seller_agent b l) k) (λ l. value b l.asset l.settled) t.lines worth at in
        let y' : earned b u.lines k ≡ 0 = no_sum (λ l. eqb (seller_agent b l) k) (λ l. value b l.asset l.settled) u.lines worth bt in
        let h : held u k ≡ held t k = rw ed refl in
        let c : house_cash u k ≡ house_cash t k = rw ed refl in
        money_ledger o t u k 0 0 p.book s v ec (omega (arith, x, x', y, y', h, c))
    still k (suc a) = let e = other_money o t u k a p.book s v ec in omega (arith, e)

-- ---- a credit

credit_more : (t : Tally) (x : Credited) (side : Side) (k a : ℕ) → credited (with_credit t x) side k a ≡ cond (same_side x.side side && (eqb x.account k && eqb x.asset a)) x.amount 0 + credited t side k a
credit_more t x side k a = sum_by-cons (λ (y : Credited). cond (same_side y.side side && (eqb y.account k && eqb y.asset a)) y.amount 0) x t.credits

issue_more : (t : Tally) (x : Credited) (side : Side) (a : ℕ) → issued (with_credit t x) side a ≡ cond (same_side x.side side && eqb x.asset a) x.amount 0 + issued t side a
issue_more t x side a = sum_by-cons (λ (y : Credited). cond (same_side y.side side && eqb y.asset a) y.amount 0) x t.credits

-- The told balance rises by the credit, and no other does.
balance_more : (o : Opening) (t : Tally) (x : Credited) → Sound o.book → Kept o t → Kept o (with_credit t x) → (side : Side) (k a : ℕ)
    → balance o (with_credit t x) side k a ≡ balance o t side k a + cond (same_side x.side side && (eqb x.account k && eqb x.asset a)) x.amount 0
balance_more o t x d s v Securities k a =
    let p = units_add_up o t k a s in let q = units_add_up o (with_credit t x) k a v in let c = credit_more t x Securities k a in omega (arith, p, q, c)
balance_more o t x d s v Cash k a =
    let p = money_adds_up o t k a d s in let q = money_adds_up o (with_credit t x) k a d v in let c = credit_more t x Cash k a in omega (arith, p, q, c)

by_register : (balance : ℕ → ℕ → ℕ) (account asset amount k a : ℕ) → register.credited balance account asset amount k a ≡ balance k a + cond (eqb account k && eqb asset a) amount 0
by_register balance account asset amount k a = elim (cases_eq account k) [
  | inr e ↦ rw (ne_eqb account k e, ne_eqb k account (λ z. e (sym z))) (omega arith)
  | inl e ↦ elim (cases_eq asset a) [
    | inr f ↦ rw (eq-eqb account k e, eq-eqb k account (sym e), ne_eqb asset a f, ne_eqb a asset (λ z. f (sym z))) (omega arith)
    | inl f ↦ rw (eq-eqb account k e, eq-eqb k account (sym e), eq-eqb asset a f, eq-eqb a asset (sym f)) refl
  ]
]

by_issue : (issue : ℕ → ℕ) (asset amount a : ℕ) → register.raised issue asset amount a ≡ issue a + cond (eqb asset a) amount 0
by_issue issue asset amount a = elim (cases_eq asset a) [
  | inr f ↦ rw (ne_eqb asset a f, ne_eqb a asset (λ z. f (sym z))) (omega arith)
  | inl f ↦ rw (eq-eqb asset a f, eq-eqb a asset (sym f)) refl
]

credit_same : (o : Opening) (t : Tally) (x : Credited) → Sound o.book → Kept o t → Kept o (with_credit t x) → (side : Side) → same_side x.side side ≡ true
    → credit_refused (told o t side) x.account x.asset x.amount ≡ None
    → Followed side (told o t side) (credits x.side x.account x.asset x.amount ∷ []) (told o (with_credit t x) side)
credit_same o t x d s v side e ok =
    let m : Meaning = told o t side in
    let w : Meaning = register.with_credit m x.account x.asset x.amount in
    let same : cond (same_side x.side side) (after_credit m x.account x.asset x.amount) m ≡ w =
    ap (λ (c : Bool). cond c (after_credit m x.account x.asset x.amount) m) e ∙ ap (λ (z : Option RegisterFault). unless_refused z w m) ok in
    record {
      none_refused = (ap (λ (c : Bool). cond c (credit_refused m x.account x.asset x.amount) None) e ∙ ok, tt);
      as_then = record {
        accounts = ap (λ (z : Meaning). z.accounts) same;
        assets = ap (λ (z : Meaning). z.assets) same;
        balance = λ k a. ap (λ (z : Meaning). z.balance k a) same
            ∙ (by_register (balance o t side) x.account x.asset x.amount k a
            ∙ sym (balance_more o t x d s v side k a ∙ ap (λ (c : Bool). balance o t side k a + cond (c && (eqb x.account k && eqb x.asset a)) x.amount 0) e));
        issue = λ a. ap (λ (z : Meaning). z.issue a) same
            ∙ (by_issue m.issue x.asset x.amount a
            ∙ (let i : issued (with_credit t x) side a ≡ cond (eqb x.asset a) x.amount 0 + issued t side a = issue_more t x side a ∙ ap (λ (c : Bool). cond (c && eqb x.asset a) x.amount 0 + issued t side a) e in omega (arith, i)));
      };
    }

credit_other : (o : Opening) (t : Tally) (x : Credited) → Sound o.book → Kept o t → Kept o (with_credit t x) → (side : Side) → same_side x.side side ≡ false
    → Followed side (told o t side) (credits x.side x.account x.asset x.amount ∷ []) (told o (with_credit t x) side)
credit_other o t x d s v side e =
    let m : Meaning = told o t side in
    let same : cond (same_side x.side side) (after_credit m x.account x.asset x.amount) m ≡ m = ap (λ (c : Bool). cond c (after_credit m x.account x.asset x.amount) m) e in
    record {
      none_refused = (ap (λ (c : Bool). cond c (credit_refused m x.account x.asset x.amount) None) e, tt);
      as_then = record {
        accounts = ap (λ (z : Meaning). z.accounts) same;
        assets = ap (λ (z : Meaning). z.assets) same;
        balance = λ k a. ap (λ (z : Meaning). z.balance k a) same
            ∙ (let q : balance o (with_credit t x) side k a ≡ balance o t side k a + 0 = balance_more o t x d s v side k a ∙ ap (λ (c : Bool). balance o t side k a + cond (c && (eqb x.account k && eqb x.asset a)) x.amount 0) e in omega (arith, q));
        issue = λ a. ap (λ (z : Meaning). z.issue a) same
            ∙ (let i : issued (with_credit t x) side a ≡ 0 + issued t side a = issue_more t x side a ∙ ap (λ (c : Bool). cond (c && eqb x.asset a) x.amount 0 + issued t side a) e in omega (arith, i));
      };
    }

pub credit_follows : (o : Opening) (t : Tally) (x : Credited) → Opens o → Kept o t → Kept o (with_credit t x) → credit_refused (told o t x.side) x.account x.asset x.amount ≡ None → (side : Side)
    → Followed side (told o t side) (credits x.side x.account x.asset x.amount ∷ []) (told o (with_credit t x) side)
credit_follows o t x p s v ok side = go x.side refl side ok
  where
    go : (on : Side) → x.side ≡ on → (side : Side) → credit_refused (told o t x.side) x.account x.asset x.amount ≡ None → Followed side (told o t side) (credits x.side x.account x.asset x.amount ∷ []) (told o (with_credit t x) side)
    go Securities e Securities ok = credit_same o t x p.book s v Securities (ap (λ (z : Side). same_side z Securities) e) (ap (λ (z : Side). credit_refused (told o t z) x.account x.asset x.amount) (sym e) ∙ ok)
    go Securities e Cash ok = credit_other o t x p.book s v Cash (ap (λ (z : Side). same_side z Cash) e)
    go Cash e Securities ok = credit_other o t x p.book s v Securities (ap (λ (z : Side). same_side z Securities) e)
    go Cash e Cash ok = credit_same o t x p.book s v Cash (ap (λ (z : Side). same_side z Cash) e) (ap (λ (z : Side). credit_refused (told o t z) x.account x.asset x.amount) (sym e) ∙ ok)
