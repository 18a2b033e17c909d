-- In a whole settlement the draws held are what the nets above 0 are paid with, to the centavo.
use Rattle.std.proofs.Common.{◌≡◌, ℕ, ◌+◌, ◌-◌, ◌<◌, ◌≤◌, true, eqb, ltb, ◌⊎◌, List, is_ok, sum_by, sym, ◌∙◌, inl, inr, arith}
use Rattle.std.specs.List.{AllByRecursion, range_with_len}
use Rattle.std.proofs.ByRecursion.{All-weaker}
use Rattle.std.proofs.lemmas.Bool.{eqb-true, and_parts, not-true, ltb-false}
use Rattle.pairing.specs.declared.line.Line.{Line}
use Rattle.rules.specs.declared.call.Call.TheVariants as call
use Rattle.book.specs.Books.{Contents, Sound, In, value}
use Rattle.pairing.specs.Lines.{buyer_agent, seller_agent, value_bought, value_sold, debit}
use Rattle.rules.specs.Tally.{Opening, Tally, Drawn, held, all_held}
use Rattle.order.specs.First.{any}
use Rattle.rules.specs.Verdict.{verdict, checks, answer, all_taken, all_drawn}
use Rattle.book.specs.Limits.{most_agent}
use Rattle.rules.proofs.ByNumber.{Summing, counted, parts}
use Rattle.rules.proofs.Totals.{total_or}
use Rattle.rules.proofs.Kept.{Kept, Sane}
use Rattle.rules.proofs.Balances.{rows_all, agent_in}
use Rattle.rules.proofs.Checks.{ok_checks, not_any}

-- the sum over agents
abbrev pub over_agents : (ℕ → ℕ) → ℕ
over_agents f = sum_by f (range_with_len 1 most_agent)

pub agents : Summing over_agents (λ k. (1 ≤ k) × (k < 1 + most_agent))
agents = counted 1 most_agent

among : (k : ℕ) → In 1 64 k → (1 ≤ k) × (k < 1 + most_agent)
among k i = (i.0, let h = i.1 in omega (arith, h))

-- what one falls short by and what it is over, in sum
short_over : (f g : ℕ → ℕ) → over_agents (λ k. f k - g k) + over_agents g ≡ over_agents (λ k. g k - f k) + over_agents f
short_over f g =
    sym (agents.add (λ k. f k - g k) g)
    ∙ agents.same (λ k. f k - g k + g k) (λ k. g k - f k + f k) (λ k. omega arith)
    ∙ agents.add (λ k. g k - f k) f

-- What all agents buy, and what they sell, is the value of all lines.
pub bought_in_all : (b : Contents) (f : Line → ℕ) (ls : List Line) → Sound b → AllByRecursion (Sane b) ls → over_agents (value_bought b f ls) ≡ sum_by (λ l. value b l.asset (f l)) ls
bought_in_all b f ls s a = parts over_agents (λ k. (1 ≤ k) × (k < 1 + most_agent)) agents (buyer_agent b) (λ l. value b l.asset (f l)) ls
    (All-weaker (Sane b) (λ l. ((1 ≤ buyer_agent b l) × (buyer_agent b l < 1 + most_agent)) ⊎ (value b l.asset (f l) ≡ 0)) (λ l v. inl (among (buyer_agent b l) (agent_in b s l.buyer v.buyer))) ls a)

pub sold_in_all : (b : Contents) (f : Line → ℕ) (ls : List Line) → Sound b → AllByRecursion (Sane b) ls → over_agents (value_sold b f ls) ≡ sum_by (λ l. value b l.asset (f l)) ls
sold_in_all b f ls s a = parts over_agents (λ k. (1 ≤ k) × (k < 1 + most_agent)) agents (seller_agent b) (λ l. value b l.asset (f l)) ls
    (All-weaker (Sane b) (λ l. ((1 ≤ seller_agent b l) × (seller_agent b l < 1 + most_agent)) ⊎ (value b l.asset (f l) ≡ 0)) (λ l v. inl (among (seller_agent b l) (agent_in b s l.seller v.seller))) ls a)

-- an agent buys nothing, or what holds of every buyer's agent holds of it
buys_or : (b : Contents) (P : ℕ → Type 0) (ls : List Line) (k : ℕ) → AllByRecursion (λ l. P (buyer_agent b l)) ls → (value_bought b (λ l. l.contracts) ls k ≡ 0) ⊎ P k
buys_or b P ls k a = total_or (λ l. eqb (buyer_agent b l) k) (λ l. value b l.asset l.contracts) (P k) ls
    (All-weaker (λ l. P (buyer_agent b l)) (λ l. eqb (buyer_agent b l) k ≡ true → P k) (λ l h e. rw (eqb-true (buyer_agent b l) k e) at h) ls a)

pub held_all : (o : Opening) (t : Tally) → Sound o.book → Kept o t → over_agents (held t) ≡ all_held t
held_all o t s k =
    let b : Contents = o.book in
    let ls : List Line = t.lines in
    parts over_agents (λ k. (1 ≤ k) × (k < 1 + most_agent)) agents (λ (x : Drawn). x.agent) (λ x. x.amount) t.draws
    (All-weaker (λ (x : Drawn). x.amount ≡ debit b ls x.agent) (λ x. ((1 ≤ x.agent) × (x.agent < 1 + most_agent)) ⊎ (x.amount ≡ 0))
    (λ x h. elim (buys_or b (λ g. In 1 64 g) ls x.agent (All-weaker (Sane b) (λ l. In 1 64 (buyer_agent b l)) (λ l v. agent_in b s l.buyer v.buyer) ls k.lines))
    [ inl z ↦ inr (omega (arith, h, z)) | inr i ↦ inl (among x.agent i) ]) t.draws k.draws)

joined : (held all debits bought sold credits : ℕ) → held ≡ all → held ≡ debits → bought ≡ sold → debits + sold ≡ credits + bought → all ≡ credits
joined held all debits bought sold credits p r n m = omega arith

-- Where a whole settlement is accepted, what is held of each agent is its debit.
pub debits_held : (o : Opening) (t : Tally) → Kept o t → is_ok (verdict o t call.SettleWhole) ≡ true → (agent : ℕ) → held t agent ≡ debit o.book t.lines agent
debits_held o t k e x =
    let b : Contents = o.book in
    let ls : List Line = t.lines in
    let q = ok_checks (checks o t call.SettleWhole) call.SettleWhole (answer o t call.SettleWhole) e in
    let w = and_parts (all_taken t) (all_drawn o t) q.1.1.0 in
    let each = not_any (λ h. ltb (held t h.agent) (debit b ls h.agent)) (λ h. debit b ls h.agent ≤ held t h.agent) (λ h f. ltb-false (held t h.agent) (debit b ls h.agent) f) b.holders (not-true (any (λ h. ltb (held t h.agent) (debit b ls h.agent)) b.holders) w.1) in
    elim (k.drawn x) [
      | inr h ↦ h
      | inl h ↦ elim (buys_or b (λ g. debit b ls g ≤ held t g) ls x (All-weaker (Sane b) (λ l. debit b ls (buyer_agent b l) ≤ held t (buyer_agent b l)) (λ l v. rows_all (λ y. debit b ls y.agent ≤ held t y.agent) b each l.buyer v.buyer) ls k.lines))
          [ inl z ↦ omega (arith, h, z) | inr d ↦ omega (arith, h, d) ]
    ]

pub whole_pays : (o : Opening) (t : Tally) → Sound o.book → Kept o t → is_ok (verdict o t call.SettleWhole) ≡ true
    → all_held t ≡ over_agents (λ k. value_sold o.book (λ l. l.contracts) t.lines k - value_bought o.book (λ l. l.contracts) t.lines k)
whole_pays o t s k e =
    let b : Contents = o.book in
    let ls : List Line = t.lines in
    let p = held_all o t s k in
    let r = agents.same (held t) (debit b ls) (debits_held o t k e) in
    let n = bought_in_all b (λ l. l.contracts) ls s k.lines ∙ sym (sold_in_all b (λ l. l.contracts) ls s k.lines) in
    let m = short_over (value_bought b (λ l. l.contracts) ls) (value_sold b (λ l. l.contracts) ls) in
    joined (over_agents (held t)) (all_held t) (over_agents (debit b ls)) (over_agents (value_bought b (λ l. l.contracts) ls)) (over_agents (value_sold b (λ l. l.contracts) ls))
    (over_agents (λ x. value_sold b (λ l. l.contracts) ls x - value_bought b (λ l. l.contracts) ls x)) p r n m
