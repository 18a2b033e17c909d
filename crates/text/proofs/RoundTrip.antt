-- A line that is accepted is the one that is written of its numbers, and that one is accepted.
use Rattle.std.proofs.Common.{◌≡◌, ℕ, suc, ◌^◌, ◌<◌, ◌≤◌, true, eqb, List, [], ◌∷◌, ◌++◌, map, length, take, drop, ℤ, pos, negsuc, Some, None, Ok, Err, decimal, Option, Result, sym, refl, ap, ◌∙◌, subst, append_assoc, arith, eq-eqb, leb-true}
use lib.Signed.{mag}
use Rattle.std.specs.List.{flat_map}
use Rattle.std.specs.Fmt.{signed_decimal}
use Rattle.std.proofs.lemmas.List.{length-map, append-nil}
use Rattle.std.proofs.lemmas.Str.Parse.{not_in_digits}
use Rattle.std.proofs.lemmas.Fmt.{digits_decimal}
use Rattle.std.proofs.lemmas.Bool.{cond-true, and_parts}
use Rattle.text.specs.declared.row.RowFault.{RowFault}
use Rattle.text.specs.declared.row.Bound.{Bound}
use Rattle.text.specs.Parts.{stop, parts, later, fields, together}
use Rattle.text.specs.Number.{number, near, most}
use Rattle.text.specs.Rows.{read, then, row, ranged, outside, line}
use Rattle.text.proofs.PartsAt.{parts_step, together_parts, Free, free_from, free_append, parts_free, parts_join}
use Rattle.text.proofs.NumberForms.{own, number_signed, number_reads}
use Rattle.text.proofs.Ranges.{Near, near_all, row_accepted, row_same}

near_small : (z : ℤ) → near z ≡ true → mag z < 2 ^ 63
near_small (pos n) h = let k : n ≤ most = leb-true _ _ h in omega arith
near_small (negsuc n) h = let k : n ≤ 999999999999999999 = leb-true _ _ (and_parts _ _ h).0 in omega arith

-- a written number has digits and a minus, and no other byte below 48
free_signed : (b : ℕ) (z : ℤ) → b < 45 → near z ≡ true → Free b (signed_decimal z)
free_signed b (pos n) l h = let k = near_small (pos n) h in free_from b (decimal n) (not_in_digits own (decimal n) b (digits_decimal own n (omega arith)) (λ p. omega arith))
free_signed b (negsuc n) l h = let k = near_small (negsuc n) h in ((λ e. omega arith), free_from b (decimal (suc n)) (not_in_digits own (decimal (suc n)) b (digits_decimal own (suc n) (omega arith)) (λ p. omega arith)))

-- ---- the fields of a written line

fields_together : (f : List ℕ) (zs : List ℤ) → Free 44 f → Near zs → fields (together 44 (f ∷ map signed_decimal zs)) ≡ f ∷ map signed_decimal zs
fields_together f [] h s = ap fields (append-nil f) ∙ parts_free 44 f h
fields_together f (z ∷ zs) h s =
    parts_join 44 f (together 44 (signed_decimal z ∷ map signed_decimal zs)) h ∙ ap (λ t. f ∷ t) (fields_together (signed_decimal z) zs (free_signed 44 z (omega arith) s.0) s.1)

then_ok : (o : Option ℤ) (k : ℕ) (r : Result (List ℤ) RowFault) (zs : List ℤ) → then o k r ≡ Ok zs → (z : ℤ) × (ys : List ℤ) × (o ≡ Some z) × (r ≡ Ok ys) × (zs ≡ z ∷ ys)
then_ok None k r zs e = let q : ◌≡◌ {A = ℕ} 0 1 = cc in absurd (omega arith)
then_ok (Some z) k (Err f) zs e = let q : ◌≡◌ {A = ℕ} 0 1 = cc in absurd (omega arith)
then_ok (Some z) k (Ok ys) zs e = (z, ys, refl, refl, cc)

read_signed : (k : ℕ) (zs : List ℤ) → Near zs → read k (map signed_decimal zs) ≡ Ok zs
read_signed k [] s = refl
read_signed k (z ∷ zs) s = ap (λ o. then o k (read (suc k) (map signed_decimal zs))) (number_signed z (near_small z s.0)) ∙ ap (then (Some z) k) (read_signed (suc k) zs s.1)

read_text : (k : ℕ) (fs : List (List ℕ)) (zs : List ℤ) → Near zs → read k fs ≡ Ok zs → fs ≡ map signed_decimal zs
read_text k [] zs s e = let q : zs ≡ [] = cc in ap (map signed_decimal) (sym q)
read_text k (f ∷ fs) zs s e =
    let p = then_ok (number f) k (read (suc k) fs) zs e in
    let t : Near (p.0 ∷ p.1) = subst Near p.4 s in
    ap (λ g. g ∷ fs) (number_reads f p.0 p.2 (near_small p.0 t.0)) ∙ ap (λ gs. signed_decimal p.0 ∷ gs) (read_text (suc k) fs p.1 t.1 p.3) ∙ ap (map signed_decimal) (sym p.4)

-- ---- the two halves, for every kind of line

-- numbers that a line may have: one for each bound, each allowed
abbrev pub Good : List Bound → List ℤ → Type 0
Good bs zs = (length zs ≡ length bs) × (outside 2 bs zs ≡ 0)

pub accepted_good : (kind : List ℕ) (bs : List Bound) (s : List ℕ) (zs : List ℤ) → row kind bs (fields s) ≡ Ok zs → Good bs zs
accepted_good kind bs s zs e = let p = row_accepted kind bs (fields s) zs e in (p.long, p.allowed)

pub accepted_is_text : (kind : List ℕ) (bs : List Bound) (s : List ℕ) (zs : List ℤ) → row kind bs (fields s) ≡ Ok zs → s ++ 10 ∷ [] ≡ line kind zs
accepted_is_text kind bs s zs e =
    let p = row_accepted kind bs (fields s) zs e in
    let close = near_all 2 bs zs p.long (omega arith) p.allowed in
    ap (λ t. t ++ 10 ∷ []) (sym (together_parts 44 s) ∙ ap (together 44) (p.fields_are ∙ ap (λ gs. kind ∷ gs) (read_text 2 p.rest zs close p.reads)))

-- the written line without its end
abbrev pub body : List ℕ → List ℤ → List ℕ
body kind zs = together 44 (kind ∷ map signed_decimal zs)

pub text_is_accepted : (kind : List ℕ) (bs : List Bound) (zs : List ℤ) → Free 44 kind → Good bs zs → row kind bs (fields (body kind zs)) ≡ Ok zs
text_is_accepted kind bs zs k g =
    let close = near_all 2 bs zs g.0 (omega arith) g.1 in
    ap (row kind bs) (fields_together kind zs k close)
    ∙ row_same kind bs kind (map signed_decimal zs) refl (length-map zs signed_decimal ∙ g.0)
    ∙ ap (ranged bs) (read_signed 2 zs close)
    ∙ cond-true (eqb (outside 2 bs zs) 0) _ _ (eq-eqb (outside 2 bs zs) 0 g.1)

-- ---- lines of a file

free_fields : (b : ℕ) (zs : List ℤ) → b < 44 → Near zs → Free b (flat_map (λ g. 44 ∷ g) (map signed_decimal zs))
free_fields b [] l s = tt
free_fields b (z ∷ zs) l s = ((λ e. omega arith), free_append b (signed_decimal z) _ (free_signed b z (omega arith) s.0) (free_fields b zs l s.1))

-- a written line is the first part of the file that begins with it, and its first field is its kind
pub line_parts : (kind : List ℕ) (bs : List Bound) (zs : List ℤ) (t : List ℕ) → Free 10 kind → Good bs zs → parts 10 (line kind zs ++ t) ≡ body kind zs ∷ parts 10 t
line_parts kind bs zs t f g =
    ap (parts 10) (append_assoc (body kind zs) (10 ∷ []) t)
    ∙ parts_join 10 (body kind zs) t (free_append 10 kind _ f (free_fields 10 zs (omega arith) (near_all 2 bs zs g.0 (omega arith) g.1)))

pub line_fields : (kind : List ℕ) (bs : List Bound) (zs : List ℤ) → Free 44 kind → Good bs zs → fields (body kind zs) ≡ kind ∷ map signed_decimal zs
line_fields kind bs zs k g = fields_together kind zs k (near_all 2 bs zs g.0 (omega arith) g.1)

pub line_kind : (kind : List ℕ) (bs : List Bound) (zs : List ℤ) → Free 44 kind → Good bs zs → take (stop 44 (body kind zs)) (body kind zs) ≡ kind
line_kind kind bs zs k g =
    let e : take (stop 44 (body kind zs)) (body kind zs) ∷ later 44 (drop (stop 44 (body kind zs)) (body kind zs)) ≡ kind ∷ map signed_decimal zs = sym (parts_step 44 (body kind zs)) ∙ line_fields kind bs zs k g in
    cc
