-- The number of a field: what the scan gives, and what `signed` writes.
use Rattle.std.proofs.Common.{◌≡◌, ℕ, zero, suc, ◌+◌, ◌-◌, ◌*◌, ◌^◌, ◌<◌, ◌≤◌, min, Bool, true, false, cond, not, ◌&&◌, ◌||◌, eqb, List, [], ◌∷◌, length, get_or, ℤ, pos, negsuc, Some, None, decimal, Option, sym, refl, ap, ◌∙◌, ⊎_elim, arith, rules, eq-eqb, ne_eqb}
use lib.Signed.{mag}
use Rattle.std.proofs.lemmas.Bool.{cond-true, cond-false, and_from, and_parts, cases_eq}
use Rattle.std.proofs.lemmas.Bool.Decides.{nat_tests}
use Rattle.std.specs.Fmt.{signed_decimal}
use Rattle.std.specs.Char.{is_ascii_digit}
use Rattle.std.specs.Option.{option_map}
use Rattle.std.specs.Str.{all_ascii_digits}
use Rattle.std.proofs.lemmas.Str.Parse.{IsNumeralModel, numerals_by_fold, not_in_digits}
use Rattle.std.proofs.lemmas.Fmt.{decimal_digit, decimal-digits_value, digits_decimal, digits_value-decimal, decimal_nonempty, first_decimal}
use Rattle.text.specs.Number.{read_on, natural, number, below, limit}
use Rattle.text.proofs.Scans.{scan}

pub own : IsNumeralModel (λ ds. all_ascii_digits ds ≡ true) (read_on 0)
own = numerals_by_fold _ (search rules) read_on (search rules)

read_on_held : (ds : List ℕ) (m n : ℕ) → min limit m ≡ min limit n → min limit (read_on m ds) ≡ min limit (read_on n ds)
read_on_held [] m n e = e
read_on_held (c ∷ cs) m n e = read_on_held cs (m * 10 + (c - 48)) (n * 10 + (c - 48)) (omega arith)

pub scan_is : (ds : List ℕ) (n : ℕ) → n ≤ limit → scan n ds ≡ cond (all_ascii_digits ds) (Some (min limit (read_on n ds))) None
scan_is [] n h = ap Some (omega arith)
scan_is (c ∷ cs) n h =
    let m : ℕ = n * 10 + (c - 48) in
    elim (is_ascii_digit c) as (λ v. cond v (scan (min limit m) cs) None ≡ cond (v && all_ascii_digits cs) (Some (min limit (read_on m cs))) None) [
      | true ↦ scan_is cs (min limit m) (omega arith) ∙ ap (λ k. cond (all_ascii_digits cs) (Some k) None) (read_on_held cs (min limit m) m (omega arith))
      | false ↦ refl
    ]

lone : (c : ℕ) (cs : List ℕ) → (c ≡ 48 → length cs ≡ 0) → (not (eqb c 48) || eqb (length cs) 0) ≡ true
lone c cs h = grind (arith, nat_tests)

pub number_plain : (s : List ℕ) → 0 < length s → (get_or s 0 0 ≡ 45 → ⊥) → number s ≡ option_map pos (natural s)
number_plain [] h e = absurd (omega arith)
number_plain (c ∷ cs) h e = cond-false (eqb c 45) _ _ (ne_eqb c 45 e)

-- what `signed` writes is read back

natural_of : (s : List ℕ) → 0 < length s → all_ascii_digits s ≡ true → (get_or s 0 0 ≡ 48 → length s ≡ 1) → natural s ≡ Some (read_on 0 s)
natural_of [] h d k = absurd (omega arith)
natural_of (c ∷ cs) h d k = cond-true _ _ _ (and_from (all_ascii_digits (c ∷ cs)) _ d (lone c cs (λ e. omega (arith, k e))))

first_lone : (n : ℕ) → n < 2 ^ 64 → get_or (decimal n) 0 0 ≡ 48 → length (decimal n) ≡ 1
first_lone zero h e = ap length (decimal_digit 0 (omega arith))
first_lone (suc n) h e = absurd (omega (arith, first_decimal (suc n) (omega arith) h))

pub natural_decimal : (n : ℕ) → n < 2 ^ 64 → natural (decimal n) ≡ Some n
natural_decimal n h =
    natural_of (decimal n) (decimal_nonempty n h) (digits_decimal own n h) (first_lone n h) ∙ ap Some (digits_value-decimal own n h)

pub number_signed : (z : ℤ) → mag z < 2 ^ 63 → number (signed_decimal z) ≡ Some z
number_signed (pos n) h =
    let s : n < 2 ^ 64 = omega arith in
    number_plain (decimal n) (decimal_nonempty n s) (not_in_digits own (decimal n) 45 (digits_decimal own n s) (λ p. omega arith) 0 (decimal_nonempty n s))
    ∙ ap (option_map pos) (natural_decimal n s)
number_signed (negsuc n) h = let s : suc n < 2 ^ 64 = omega arith in ap below (natural_decimal (suc n) s)

-- what is read is what `signed` writes

cond_some : (b : Bool) (m n : ℕ) → cond b (Some m) None ≡ Some n → (b ≡ true) × (m ≡ n)
cond_some true m n e = (refl, cc)
cond_some false m n e = let z : ◌≡◌ {A = ℕ} 0 1 = cc in absurd (omega arith)

lone_back : (c : ℕ) (cs : List ℕ) → (not (eqb c 48) || eqb (length cs) 0) ≡ true → c ≡ 48 → length cs ≡ 0
lone_back c cs h e = grind (arith, nat_tests)

pub natural_reads : (s : List ℕ) (n : ℕ) → natural s ≡ Some n → n < 2 ^ 64 → s ≡ decimal n
natural_reads [] n e h = let z : ◌≡◌ {A = ℕ} 0 1 = cc in absurd (omega arith)
natural_reads (c ∷ cs) n e h =
    let p = cond_some _ _ _ e in
    let q = and_parts (all_ascii_digits (c ∷ cs)) _ p.0 in
    sym (decimal-digits_value own (c ∷ cs) q.0 (omega arith) (λ k. omega (arith, lone_back c cs q.1 k)) (omega (arith, p.1))) ∙ ap decimal p.1

below_some : (o : Option ℕ) (z : ℤ) → below o ≡ Some z → (n : ℕ) × (o ≡ Some (suc n)) × (z ≡ negsuc n)
below_some None z e = let q : ◌≡◌ {A = ℕ} 0 1 = cc in absurd (omega arith)
below_some (Some zero) z e = let q : ◌≡◌ {A = ℕ} 0 1 = cc in absurd (omega arith)
below_some (Some (suc n)) z e = (n, refl, cc)

mapped_some : (o : Option ℕ) (z : ℤ) → option_map pos o ≡ Some z → (n : ℕ) × (o ≡ Some n) × (z ≡ pos n)
mapped_some None z e = let q : ◌≡◌ {A = ℕ} 0 1 = cc in absurd (omega arith)
mapped_some (Some n) z e = (n, refl, cc)

minus_reads : (s : List ℕ) (z : ℤ) → below (natural s) ≡ Some z → mag z < 2 ^ 63 → 45 ∷ s ≡ signed_decimal z
minus_reads s z e h =
    let p = below_some _ _ e in
    let m : mag z ≡ p.0 = ap mag p.2 in
    ap (λ t. 45 ∷ t) (natural_reads s (suc p.0) p.1 (omega arith)) ∙ ap signed_decimal (sym p.2)

plain_reads : (s : List ℕ) (z : ℤ) → option_map pos (natural s) ≡ Some z → mag z < 2 ^ 63 → s ≡ signed_decimal z
plain_reads s z e h =
    let p = mapped_some _ _ e in
    let m : mag z ≡ p.0 = ap mag p.2 in
    natural_reads s p.0 p.1 (omega arith) ∙ ap signed_decimal (sym p.2)

pub number_reads : (s : List ℕ) (z : ℤ) → number s ≡ Some z → mag z < 2 ^ 63 → s ≡ signed_decimal z
number_reads [] z e h = let q : ◌≡◌ {A = ℕ} 0 1 = cc in absurd (omega arith)
number_reads (c ∷ cs) z e h =
    ⊎_elim
    (λ (k : c ≡ 45). ap (λ d. d ∷ cs) k ∙ minus_reads cs z (sym (cond-true (eqb c 45) _ _ (eq-eqb c 45 k)) ∙ e) h)
    (λ (k : c ≡ 45 → ⊥). plain_reads (c ∷ cs) z (sym (cond-false (eqb c 45) _ _ (ne_eqb c 45 k)) ∙ e) h)
    (cases_eq c 45)
