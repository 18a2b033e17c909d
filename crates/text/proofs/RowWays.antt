-- A line by its first field and the rest, as its step gives them.
use Rattle.std.proofs.Common.{◌≡◌, ℕ, ◌+◌, false, eqb, List, ◌∷◌, length, take, drop, ℤ, Err, Result, Vec, sym, ap, ◌∙◌, subst, ⊎_elim, arith, ne_eqb}
use Rattle.std.specs.Str.{bytes_eq}
use Rattle.std.proofs.lemmas.Slice.Eq.{bytes_eq-Decides}
use Rattle.std.proofs.lemmas.Bool.{cond-true, cond-false, cases_Bool}
use Rattle.std.specs.declared.alloc.Global.{Global}
use Rattle.text.specs.declared.row.RowFault.{RowFault}
use Rattle.text.specs.declared.row.RowFault.TheVariants.{Form}
use Rattle.text.specs.declared.row.RowError.{RowError}
use Rattle.text.specs.declared.row.RowError.TheVariants.{Refused, NoMemory}
use Rattle.text.specs.declared.row.Bound.{Bound}
use Rattle.text.specs.Parts.{stop, fields}
use Rattle.text.specs.Rows.{row, ranged, read, held_all, Answers}
use Rattle.text.proofs.PartsAt.{parts_step}
use Rattle.text.proofs.Ranges.{row_same, held_err}

-- the first field, as its step gives it, and the fields after it
pub fields_cut : (s f : List ℕ) → f ≡ take (stop 44 s) s → fields s ≡ f ∷ drop 1 (fields s)
fields_cut s f c =
    let e = parts_step 44 s in
    e ∙ ap (λ t. take (stop 44 s) s ∷ t) (sym (ap (drop 1) e)) ∙ ap (λ g. g ∷ drop 1 (fields s)) (sym c)

apart : (f g : List ℕ) → (f ≡ g → ⊥) → bytes_eq f g ≡ false
apart f g n = ⊎_elim (λ e. absurd (n ((bytes_eq-Decides f g).0 e))) (λ e. e) (cases_Bool (bytes_eq f g))

pub row_other : (kind : List ℕ) (bs : List Bound) (s f : List ℕ) → f ≡ take (stop 44 s) s → (f ≡ kind → ⊥) → row kind bs (fields s) ≡ Err (Form 1)
row_other kind bs s f c n = ap (row kind bs) (fields_cut s f c) ∙ cond-false (bytes_eq f kind) _ _ (apart f kind n)

later_count : (s f : List ℕ) (n : ℕ) → f ≡ take (stop 44 s) s → n + 1 ≡ length (fields s) → length (drop 1 (fields s)) ≡ n
later_count s f n c e = omega (arith, ap length (fields_cut s f c))

pub row_count : (kind : List ℕ) (bs : List Bound) (s f : List ℕ) (n : ℕ) → f ≡ take (stop 44 s) s → f ≡ kind → n + 1 ≡ length (fields s) → (n ≡ length bs → ⊥) → row kind bs (fields s) ≡ Err (Form 0)
row_count kind bs s f n c k e d =
    ap (row kind bs) (fields_cut s f c)
    ∙ cond-true (bytes_eq f kind) _ _ ((bytes_eq-Decides f kind).1 k)
    ∙ cond-false (eqb (length (drop 1 (fields s))) (length bs)) _ _ (ne_eqb (length (drop 1 (fields s))) (length bs) (λ z. d (sym (later_count s f n c e) ∙ z)))

-- a line of its kind with as many fields as bounds: how many, and what it gives
pub row_fields : (bs : List Bound) (s f : List ℕ) (n : ℕ) → f ≡ take (stop 44 s) s → n + 1 ≡ length (fields s) → n ≡ length bs → length (drop 1 (fields s)) ≡ length bs
row_fields bs s f n c e d = later_count s f n c e ∙ d

pub row_on : (kind : List ℕ) (bs : List Bound) (s f : List ℕ) (n : ℕ) → f ≡ take (stop 44 s) s → f ≡ kind → n + 1 ≡ length (fields s) → n ≡ length bs → row kind bs (fields s) ≡ ranged bs (read 2 (drop 1 (fields s)))
row_on kind bs s f n c k e d = ap (row kind bs) (fields_cut s f c) ∙ row_same kind bs f (drop 1 (fields s)) k (row_fields bs s f n c e d)

pub refuses : (e : RowError) (f : RowFault) (t : Result (List ℤ) RowFault) → e ≡ Refused f → t ≡ Err f → Answers (Err e) t
refuses e f t p q = subst (λ x. Answers (Err x) t) (sym p) q

-- a refusal of the numbers is one of the line
pub refused_on : (bs : List Bound) (r : Result (Vec ℤ Global) RowError) (e : RowError) (s t : Result (List ℤ) RowFault) → r ≡ Err e → Answers (Err e) (held_all s) → t ≡ ranged bs s → Answers r t
refused_on bs r (Refused f) s t p a q = subst (λ x. Answers x t) (sym p) (q ∙ ap (ranged bs) (held_err s f a))
refused_on bs r NoMemory s t p a q = subst (λ x. Answers x t) (sym p) tt
