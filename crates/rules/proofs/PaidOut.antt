-- What account 0 pays out line by line and agent by agent: what leaves it, and what enters each account.
use Rattle.std.proofs.Common.{◌≡◌, ℕ, suc, ◌+◌, ◌*◌, ◌<◌, ◌≤◌, Bool, true, false, cond, ◌&&◌, eqb, ◌⊎◌, List, [], ◌∷◌, sum_by, sym, refl, ap, ◌∙◌, inl, inr, mul-zero, mul-add, arith}
use Rattle.std.specs.List.{range_with_len, AllByRecursion}
use Rattle.std.proofs.lemmas.List.Sums.{sum_by-cons}
use Rattle.std.proofs.ByRecursion.{All-weaker}
use Rattle.std.proofs.lemmas.Bool.{ne_eqb, eq-eqb, cases_eq, false≢true}
use Rattle.pairing.specs.declared.line.Line.{Line}
use Rattle.pairing.specs.Lines.{total, of_asset, inside}
use Rattle.rules.specs.declared.side.Side.TheVariants.{Securities, Cash}
use Rattle.book.specs.Limits.{most_agent}
use Rattle.rules.specs.Postings.{Posting, pays, for_each, for_agents}
use Rattle.rules.proofs.Totals.{sum_zero, all_of}
use Rattle.rules.proofs.WholePays.{over_agents, agents}
use Rattle.rules.proofs.Posted.{goes_out, comes_in, leaves, enters, Payout, pays_payout, pays_leave, pays_enter, each_all, each_sum}

-- ---- sums

pub cond_times : (c : Bool) (m n : ℕ) → m * cond c n 0 ≡ cond c (m * n) 0
cond_times true m n = refl
cond_times false m n = mul-zero m

-- A factor goes before the sum.
pub scaled : (m : ℕ) (p : Line → Bool) (f : Line → ℕ) (ls : List Line) → sum_by (λ l. cond (p l) (m * f l) 0) ls ≡ m * total p f ls
scaled m p f [] = sym (mul-zero m)
scaled m p f (x ∷ xs) =
    let r = scaled m p f xs in
    let d = mul-add m (cond (p x) (f x) 0) (total p f xs) in
    let c = cond_times (p x) m (f x) in
    rw (sum_by-cons (λ l. cond (p l) (m * f l) 0) x xs, sum_by-cons (λ l. cond (p l) (f l) 0) x xs) (omega (arith, r, d, c))

-- A test that does not look at the line.
split_total : (c : Bool) (q : Line → Bool) (f : Line → ℕ) (ls : List Line) → total (λ l. c && q l) f ls ≡ cond c (total q f ls) 0
split_total true q f ls = refl
split_total false q f ls = sum_zero (λ (l : Line). 0) ls (all_of (λ (l : Line). ◌≡◌ {A = ℕ} 0 0) (λ l. refl) ls)

-- ---- line by line

-- Units of the contracts in, to the buyer or to the seller.
abbrev pub paid : ℕ → (Line → ℕ) → List Line → List Posting
paid m who ls = for_each (λ l. pays Securities (who l) l.asset (m * inside l)) ls

pub lines_leave : (m : ℕ) (who : Line → ℕ) (ls : List Line) (k a : ℕ) → leaves Securities k a (paid m who ls) ≡ cond (eqb 0 k) (m * total (of_asset a) inside ls) 0
lines_leave m who ls k a =
    each_sum (goes_out Securities k a) (λ l. pays Securities (who l) l.asset (m * inside l)) (λ l. cond (eqb 0 k && eqb l.asset a) (m * inside l) 0) ls (λ l. pays_leave Securities Securities k a (who l) l.asset (m * inside l))
    ∙ (scaled m (λ l. eqb 0 k && eqb l.asset a) inside ls
    ∙ (ap (λ x. m * x) (split_total (eqb 0 k) (of_asset a) inside ls)
    ∙ cond_times (eqb 0 k) m (total (of_asset a) inside ls)))

pub lines_enter : (m : ℕ) (who : Line → ℕ) (ls : List Line) (k a : ℕ) → enters Securities k a (paid m who ls) ≡ m * total (λ l. eqb (who l) k && eqb l.asset a) inside ls
lines_enter m who ls k a =
    each_sum (comes_in Securities k a) (λ l. pays Securities (who l) l.asset (m * inside l)) (λ l. cond (eqb (who l) k && eqb l.asset a) (m * inside l) 0) ls (λ l. pays_enter Securities Securities k a (who l) l.asset (m * inside l))
    ∙ scaled m (λ l. eqb (who l) k && eqb l.asset a) inside ls

-- No cash moves with them.
pub lines_no_cash : (m : ℕ) (who : Line → ℕ) (ls : List Line) (k a : ℕ) → (leaves Cash k a (paid m who ls) ≡ 0) × (enters Cash k a (paid m who ls) ≡ 0)
lines_no_cash m who ls k a = (
  each_sum (goes_out Cash k a) (λ l. pays Securities (who l) l.asset (m * inside l)) (λ _. 0) ls (λ l. pays_leave Cash Securities k a (who l) l.asset (m * inside l)) ∙ none,
  each_sum (comes_in Cash k a) (λ l. pays Securities (who l) l.asset (m * inside l)) (λ _. 0) ls (λ l. pays_enter Cash Securities k a (who l) l.asset (m * inside l)) ∙ none,
)
  where
    none : sum_by (λ (l : Line). 0) ls ≡ 0
    none = sum_zero (λ (l : Line). 0) ls (all_of (λ (l : Line). ◌≡◌ {A = ℕ} 0 0) (λ l. refl) ls)

pub lines_payouts : (m accounts assets : ℕ) (who : Line → ℕ) (ls : List Line) → AllByRecursion (λ l. (0 < who l) × (who l < accounts) × (l.asset < assets)) ls → AllByRecursion (Payout Securities accounts assets) (paid m who ls)
lines_payouts m accounts assets who ls all = each_all (Payout Securities accounts assets) (λ l. pays Securities (who l) l.asset (m * inside l)) ls
    (All-weaker (λ l. (0 < who l) × (who l < accounts) × (l.asset < assets)) (λ l. AllByRecursion (Payout Securities accounts assets) (pays Securities (who l) l.asset (m * inside l)))
    (λ l h. pays_payout Securities Securities accounts assets (who l) l.asset (m * inside l) (λ _ _. h)) ls all)

pub lines_no_payouts : (m accounts assets : ℕ) (who : Line → ℕ) (ls : List Line) → AllByRecursion (Payout Cash accounts assets) (paid m who ls)
lines_no_payouts m accounts assets who ls = each_all (Payout Cash accounts assets) (λ l. pays Securities (who l) l.asset (m * inside l)) ls
    (all_of (λ l. AllByRecursion (Payout Cash accounts assets) (pays Securities (who l) l.asset (m * inside l)))
    (λ l. pays_payout Cash Securities accounts assets (who l) l.asset (m * inside l) (λ _ e. absurd (false≢true e))) ls)

-- ---- agent by agent

abbrev pub paid_agents : (ℕ → ℕ) → List Posting
paid_agents f = for_agents (λ agent. pays Cash agent 0 (f agent))

split_sum : (c : Bool) (f : ℕ → ℕ) (ks : List ℕ) → sum_by (λ k. cond c (f k) 0) ks ≡ cond c (sum_by f ks) 0
split_sum true f ks = refl
split_sum false f ks = sum_zero (λ (k : ℕ). 0) ks (all_of (λ (k : ℕ). ◌≡◌ {A = ℕ} 0 0) (λ k. refl) ks)

pub agents_leave : (f : ℕ → ℕ) (k a : ℕ) → leaves Cash k a (paid_agents f) ≡ cond (eqb 0 k && eqb 0 a) (over_agents f) 0
agents_leave f k a =
    each_sum (goes_out Cash k a) (λ g. pays Cash g 0 (f g)) (λ g. cond (eqb 0 k && eqb 0 a) (f g) 0) (range_with_len 1 most_agent) (λ g. pays_leave Cash Cash k a g 0 (f g))
    ∙ split_sum (eqb 0 k && eqb 0 a) f (range_with_len 1 most_agent)

-- Each agent gets its own.
own : (f : ℕ → ℕ) (k g : ℕ) → cond (eqb g k) (f g) 0 ≡ cond (eqb k g) (f k) 0
own f k g = elim (cases_eq g k) [
  | inl e ↦ rw (eq-eqb g k e, eq-eqb k g (sym e)) (ap f e)
  | inr e ↦ rw (ne_eqb g k e, ne_eqb k g (λ z. e (sym z))) refl
]

at_agent : (f : ℕ → ℕ) (k : ℕ) → ((1 ≤ k) × (k < 1 + most_agent)) ⊎ (f k ≡ 0) → over_agents (λ g. cond (eqb g k) (f g) 0) ≡ f k
at_agent f k h = agents.same (λ g. cond (eqb g k) (f g) 0) (λ g. cond (eqb k g) (f k) 0) (own f k) ∙ elim h [
  | inl i ↦ agents.one k (f k) i
  | inr z ↦ ap (λ d. over_agents (λ g. cond (eqb k g) d 0)) z ∙ (agents.same (λ g. cond (eqb k g) 0 0) (λ _. 0) (λ g. nil (eqb k g)) ∙ (agents.none ∙ sym z))
]
  where
    nil : (c : Bool) → cond {A = ℕ} c 0 0 ≡ 0
    nil true = refl
    nil false = refl

pub agents_enter : (f : ℕ → ℕ) (k : ℕ) → ((1 ≤ k) × (k < 1 + most_agent)) ⊎ (f k ≡ 0) → enters Cash k 0 (paid_agents f) ≡ f k
agents_enter f k h =
    each_sum (comes_in Cash k 0) (λ g. pays Cash g 0 (f g)) (λ g. cond (eqb g k) (f g) 0) (range_with_len 1 most_agent) (λ g. pays_enter Cash Cash k 0 g 0 (f g) ∙ whole (eqb g k) (f g))
    ∙ at_agent f k h
  where
    whole : (c : Bool) (n : ℕ) → cond (c && true) n 0 ≡ cond c n 0
    whole true n = refl
    whole false n = refl

pub agents_enter_other : (f : ℕ → ℕ) (k a : ℕ) → enters Cash k (suc a) (paid_agents f) ≡ 0
agents_enter_other f k a =
    each_sum (comes_in Cash k (suc a)) (λ g. pays Cash g 0 (f g)) (λ _. 0) (range_with_len 1 most_agent)
    (λ g. pays_enter Cash Cash k (suc a) g 0 (f g) ∙ never (eqb g k) (eqb 0 (suc a)) (f g) (ne_eqb 0 (suc a) (λ z. omega arith)))
    ∙ sum_zero (λ (g : ℕ). 0) (range_with_len 1 most_agent) (all_of (λ (g : ℕ). ◌≡◌ {A = ℕ} 0 0) (λ g. refl) (range_with_len 1 most_agent))
  where
    never : (c d : Bool) (n : ℕ) → d ≡ false → cond (c && d) n 0 ≡ 0
    never true d n e = rw e refl
    never false d n e = refl

-- No units move with them.
pub agents_no_units : (f : ℕ → ℕ) (k a : ℕ) → (leaves Securities k a (paid_agents f) ≡ 0) × (enters Securities k a (paid_agents f) ≡ 0)
agents_no_units f k a = (
  each_sum (goes_out Securities k a) (λ g. pays Cash g 0 (f g)) (λ _. 0) (range_with_len 1 most_agent) (λ g. pays_leave Securities Cash k a g 0 (f g)) ∙ none,
  each_sum (comes_in Securities k a) (λ g. pays Cash g 0 (f g)) (λ _. 0) (range_with_len 1 most_agent) (λ g. pays_enter Securities Cash k a g 0 (f g)) ∙ none,
)
  where
    none : sum_by (λ (g : ℕ). 0) (range_with_len 1 most_agent) ≡ 0
    none = sum_zero (λ (g : ℕ). 0) (range_with_len 1 most_agent) (all_of (λ (g : ℕ). ◌≡◌ {A = ℕ} 0 0) (λ g. refl) (range_with_len 1 most_agent))

pub agents_payouts : (accounts assets : ℕ) (f : ℕ → ℕ) → ((k : ℕ) → 0 < f k → (0 < k) × (k < accounts)) → 0 < assets → AllByRecursion (Payout Cash accounts assets) (paid_agents f)
agents_payouts accounts assets f known some = each_all (Payout Cash accounts assets) (λ g. pays Cash g 0 (f g)) (range_with_len 1 most_agent)
    (all_of (λ g. AllByRecursion (Payout Cash accounts assets) (pays Cash g 0 (f g)))
    (λ g. pays_payout Cash Cash accounts assets g 0 (f g) (λ p _. let h = known g p in (h.0, h.1, some))) (range_with_len 1 most_agent))

pub agents_no_payouts : (accounts assets : ℕ) (f : ℕ → ℕ) → AllByRecursion (Payout Securities accounts assets) (paid_agents f)
agents_no_payouts accounts assets f = each_all (Payout Securities accounts assets) (λ g. pays Cash g 0 (f g)) (range_with_len 1 most_agent)
    (all_of (λ g. AllByRecursion (Payout Securities accounts assets) (pays Cash g 0 (f g)))
    (λ g. pays_payout Securities Cash accounts assets g 0 (f g) (λ _ e. absurd (false≢true e))) (range_with_len 1 most_agent))
