-- The parts of a list of bytes: the first, those after it, and their number, from any place on; and put together again.
use Rattle.std.proofs.Common.{◌≡◌, ℕ, suc, ◌<◌, true, false, cond, eqb, List, [], ◌∷◌, ◌++◌, length, get_or, take, drop, sym, refl, ap, ◌∙◌, ⊎_elim, arith, eq-eqb, ne_eqb}
use Rattle.std.proofs.lemmas.Bool.{cond-true, cond-false, cases_eq}
use Rattle.text.specs.Parts.{stop, onto, parts, later, together}

-- the first part, and the parts of the rest that its step leaves
pub parts_step : (b : ℕ) (s : List ℕ) → parts b s ≡ take (stop b s) s ∷ later b (drop (stop b s) s)
parts_step b [] = refl
parts_step b (c ∷ cs) =
    elim (eqb c b) as (λ v. cond v ([] ∷ parts b cs) (onto c (parts b cs)) ≡ take (cond v 0 (suc (stop b cs))) (c ∷ cs) ∷ later b (drop (cond v 0 (suc (stop b cs))) (c ∷ cs)))
    [ true ↦ refl | false ↦ ap (onto c) (parts_step b cs) ]

pub parts_some : (b : ℕ) (s : List ℕ) → 0 < length (parts b s)
parts_some b s = omega (arith, ap length (parts_step b s))

-- ---- how many there are, from a place on

-- ---- put together again

together_cut : (b : ℕ) (fs : List (List ℕ)) → 0 < length fs → together b ([] ∷ fs) ≡ b ∷ together b fs
together_cut b [] h = absurd (omega arith)
together_cut b (f ∷ fs) h = refl

together_onto : (b c : ℕ) (fs : List (List ℕ)) → 0 < length fs → together b (onto c fs) ≡ c ∷ together b fs
together_onto b c [] h = absurd (omega arith)
together_onto b c (f ∷ fs) h = refl

pub together_parts : (b : ℕ) (s : List ℕ) → together b (parts b s) ≡ s
together_parts b [] = refl
together_parts b (c ∷ cs) =
    ⊎_elim
    (λ (e : c ≡ b). ap (together b) (cond-true (eqb c b) _ _ (eq-eqb c b e)) ∙ together_cut b (parts b cs) (parts_some b cs) ∙ ap (λ t. b ∷ t) (together_parts b cs) ∙ ap (λ d. d ∷ cs) (sym e))
    (λ (n : c ≡ b → ⊥). ap (together b) (cond-false (eqb c b) _ _ (ne_eqb c b n)) ∙ together_onto b c (parts b cs) (parts_some b cs) ∙ ap (λ t. c ∷ t) (together_parts b cs))
    (cases_eq c b)

-- ---- bytes without a separator among them

-- no byte of s is b
abbrev pub Free : ℕ → List ℕ → Type 0
Free b [] = Unit {0}
Free b (c ∷ cs) = (c ≡ b → ⊥) × Free b cs

pub free_append : (b : ℕ) (s t : List ℕ) → Free b s → Free b t → Free b (s ++ t)
free_append b [] t f g = g
free_append b (c ∷ cs) t f g = (f.0, free_append b cs t f.1 g)

pub free_from : (b : ℕ) (s : List ℕ) → ((i : ℕ) → i < length s → get_or s i 0 ≡ b → ⊥) → Free b s
free_from b [] h = tt
free_from b (c ∷ cs) h = (h 0 (omega arith), free_from b cs (λ i k e. h (suc i) (omega arith) e))

-- they are one part
pub parts_free : (b : ℕ) (s : List ℕ) → Free b s → parts b s ≡ s ∷ []
parts_free b [] f = refl
parts_free b (c ∷ cs) f = cond-false (eqb c b) _ _ (ne_eqb c b f.0) ∙ ap (onto c) (parts_free b cs f.1)

-- and a separator after them ends the first part
pub parts_join : (b : ℕ) (s t : List ℕ) → Free b s → parts b (s ++ b ∷ t) ≡ s ∷ parts b t
parts_join b [] t f = cond-true (eqb b b) _ _ (eq-eqb b b refl)
parts_join b (c ∷ cs) t f = cond-false (eqb c b) _ _ (ne_eqb c b f.0) ∙ ap (onto c) (parts_join b cs t f.1)
