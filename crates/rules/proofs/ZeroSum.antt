-- The claims of agents 1 to 64 add up to 0.
use Rattle.std.proofs.Common.{◌≡◌, ℕ, zero, suc, ◌<◌, ◌≤◌, cond, eqb, List, [], ◌∷◌, ℤ, pos, ◌+ℤ◌, ◌-ℤ◌, refl, ◌∙◌, inl, inr, arith}
use Rattle.std.specs.List.{AllByRecursion}
use Rattle.std.proofs.lemmas.Int.{ints}
use Rattle.std.proofs.lemmas.Bool.{ne_eqb, eq-eqb, cases_eq}
use Rattle.pairing.specs.declared.line.Line.{Line}
use Rattle.book.specs.Books.{Contents, Sound}
use Rattle.pairing.specs.Lines.{sumℤ, claim_on, differences, buyer_agent, seller_agent}
use Rattle.rules.specs.Tally.{Tally, claim}
use Rattle.rules.specs.Law.{sum_agents}
use Rattle.rules.proofs.Kept.{Sane}
use Rattle.rules.proofs.Balances.{agent_in}

agents_same : (f g : ℕ → ℤ) (n : ℕ) → ((k : ℕ) → f k ≡ g k) → sum_agents f n ≡ sum_agents g n
agents_same f g zero e = refl
agents_same f g (suc n) e = let p = agents_same f g n e in let q = e (suc n) in omega (arith, ints)

agents_zero : (n : ℕ) → sum_agents (λ _. pos 0) n ≡ pos 0
agents_zero zero = refl
agents_zero (suc n) = let p = agents_zero n in omega (arith, ints)

agents_add : (f g : ℕ → ℤ) (n : ℕ) → sum_agents (λ k. f k +ℤ g k) n ≡ sum_agents f n +ℤ sum_agents g n
agents_add f g zero = refl
agents_add f g (suc n) = let p = agents_add f g n in omega (arith, ints)

agents_sub : (f g : ℕ → ℤ) (n : ℕ) → sum_agents (λ k. f k -ℤ g k) n ≡ sum_agents f n -ℤ sum_agents g n
agents_sub f g zero = refl
agents_sub f g (suc n) = let p = agents_sub f g n in omega (arith, ints)

-- one agent's amount, summed over the agents before it, and over those that have it
agents_before : (x : ℕ) (d : ℤ) (n : ℕ) → n < x → sum_agents (λ k. cond (eqb x k) d (pos 0)) n ≡ pos 0
agents_before x d zero lt = refl
agents_before x d (suc n) lt =
    let p = agents_before x d n (omega arith) in
    rw (ne_eqb x (suc n) (λ z. omega arith), p) refl

agents_one : (x : ℕ) (d : ℤ) (n : ℕ) → 1 ≤ x → x ≤ n → sum_agents (λ k. cond (eqb x k) d (pos 0)) n ≡ d
agents_one x d zero low high = absurd (omega arith)
agents_one x d (suc n) low high = elim (cases_eq x (suc n)) [
  | inl e ↦ let p = agents_before x d n (omega arith) in rw (eq-eqb x (suc n) e, p) (omega (arith, ints))
  | inr e ↦ let p = agents_one x d n low (omega arith) in rw (ne_eqb x (suc n) e, p) (omega (arith, ints))
]

line_zero : (b : Contents) (l : Line) → Sound b → Sane b l → sum_agents (λ k. claim_on b k l) 64 ≡ pos 0
line_zero b l s v =
    let x = agent_in b s l.buyer v.buyer in
    let y = agent_in b s l.seller v.seller in
    let p = agents_one (buyer_agent b l) (differences b l) 64 x.0 x.1 in
    let q = agents_one (seller_agent b l) (differences b l) 64 y.0 y.1 in
    agents_sub (λ k. cond (eqb (buyer_agent b l) k) (differences b l) (pos 0)) (λ k. cond (eqb (seller_agent b l) k) (differences b l) (pos 0)) 64
    ∙ rw (p, q) (omega (arith, ints))

lines_zero : (b : Contents) (ls : List Line) → Sound b → AllByRecursion (Sane b) ls → sum_agents (λ k. sumℤ (claim_on b k) ls) 64 ≡ pos 0
lines_zero b [] s a = agents_zero 64
lines_zero b (l ∷ ls) s a =
    agents_add (λ k. claim_on b k l) (λ k. sumℤ (claim_on b k) ls) 64 ∙ rw (line_zero b l s a.0, lines_zero b ls s a.1) refl

pub claims_zero : (b : Contents) (t : Tally) → Sound b → AllByRecursion (Sane b) t.closed → sum_agents (claim b t) 64 ≡ pos 0
claims_zero b t s a = lines_zero b t.closed s a

pub claims_zero_of : (b : Contents) (t : Tally) (f : ℕ → ℤ) → Sound b → AllByRecursion (Sane b) t.closed → ((k : ℕ) → f k ≡ claim b t k) → sum_agents f 64 ≡ pos 0
claims_zero_of b t f s a e = agents_same f (claim b t) 64 e ∙ claims_zero b t s a
