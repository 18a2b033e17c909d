-- What writing answers and leaves: at the empty book, at a buffer that is too small, and else.
use Rattle.std.proofs.Common.{◌≡◌, ℕ, ◌<◌, Bool, true, false, cond, eqb, ltb, List, length, Ok, Err, Result, sym, refl, ap, ◌∙◌, arith, eq-eqb, ne_eqb}
use Rattle.std.proofs.lemmas.Bool.{cond-true, cond-false}
use Rattle.std.specs.Result.{MatchResult, IsErrAnd}
use Rattle.text.specs.declared.page.TooSmall.{TooSmall}
use Rattle.text.specs.Pages.{fitted, placed}
use Rattle.book.specs.declared.fault.WriteFault.{WriteFault}
use Rattle.book.specs.declared.fault.WriteFault.TheVariants.{EmptyBook, SmallBuffer}
use Rattle.book.specs.Books.{Contents}
use Rattle.book.specs.Format.{text}
use Rattle.book.specs.Data.{write_answer, write_leaves}

pub write_empty : (b : Contents) (out : List ℕ) → length b.holders ≡ 0 → (Err EmptyBook ≡ write_answer b out) × (out ≡ write_leaves b out)
write_empty b out h =
    let e = eq-eqb (length b.holders) 0 h in
    (sym (cond-true (eqb (length b.holders) 0) (Err EmptyBook) (cond (ltb (length out) (length (text b))) (Err SmallBuffer) (Ok (length (text b)))) e), sym (cond-true (eqb (length b.holders) 0) out (placed (text b) out) e))

abbrev too_small : TooSmall
too_small = record {}

fits : (v : Bool) (n k : ℕ) → Ok k ≡ cond v (Err too_small) (Ok n) → (v ≡ false) × (k ≡ n)
fits true n k h = let q : ◌≡◌ {A = ℕ} 0 1 = cc in absurd (omega arith)
fits false n k h = (refl, cc)

small : (v : Bool) (n : ℕ) (e : TooSmall) → Err e ≡ cond v (Err too_small) (Ok n) → v ≡ true
small true n e h = refl
small false n e h = let q : ◌≡◌ {A = ℕ} 0 1 = cc in absurd (omega arith)

-- t is what is put
write_fits : (b : Contents) (out t after : List ℕ) (k : ℕ) → 0 < length b.holders → t ≡ text b → Ok k ≡ fitted (length t) (length out) → after ≡ placed t out → (Ok k ≡ write_answer b out) × (after ≡ write_leaves b out)
write_fits b out t after k some e h a =
    let n = ne_eqb (length b.holders) 0 (λ z. omega arith) in
    let f = fits (ltb (length out) (length (text b))) (length (text b)) k (h ∙ ap (λ x. fitted (length x) (length out)) e) in (
      ap Ok f.1 ∙ sym (cond-false (ltb (length out) (length (text b))) (Err SmallBuffer) (Ok (length (text b))) f.0) ∙ sym (cond-false (eqb (length b.holders) 0) (Err EmptyBook) (cond (ltb (length out) (length (text b))) (Err SmallBuffer) (Ok (length (text b)))) n),
      a ∙ ap (λ x. placed x out) e ∙ sym (cond-false (eqb (length b.holders) 0) out (placed (text b) out) n),
    )

write_small : (b : Contents) (out t after : List ℕ) (x : TooSmall) → 0 < length b.holders → t ≡ text b → Err x ≡ fitted (length t) (length out) → after ≡ placed t out → (Err SmallBuffer ≡ write_answer b out) × (after ≡ write_leaves b out)
write_small b out t after x some e h a =
    let n = ne_eqb (length b.holders) 0 (λ z. omega arith) in
    let f = small (ltb (length out) (length (text b))) (length (text b)) x (h ∙ ap (λ y. fitted (length y) (length out)) e) in (
      sym (cond-true (ltb (length out) (length (text b))) (Err SmallBuffer) (Ok (length (text b))) f) ∙ sym (cond-false (eqb (length b.holders) 0) (Err EmptyBook) (cond (ltb (length out) (length (text b))) (Err SmallBuffer) (Ok (length (text b)))) n),
      a ∙ ap (λ y. placed y out) e ∙ sym (cond-false (eqb (length b.holders) 0) out (placed (text b) out) n),
    )

-- r is what the put answers, and q the same with the fault as one of the book's
pub write_put : (b : Contents) (out t after : List ℕ) (r : Result ℕ TooSmall) (q : Result ℕ WriteFault) (As : TooSmall → WriteFault → Type 0) → ((e : TooSmall) (f : WriteFault) → As e f → f ≡ SmallBuffer) → 0 < length b.holders → t ≡ text b → r ≡ fitted (length t) (length out) → after ≡ placed t out → MatchResult r (λ k. q ≡ Ok k) (λ e. IsErrAnd q (As e)) → (q ≡ write_answer b out) × (after ≡ write_leaves b out)
write_put b out t after (Ok k) q As is some e h a m = let p = write_fits b out t after k some e h a in (m ∙ p.0, p.1)
write_put b out t after (Err x) (Ok k) As is some e h a m = absurd m
write_put b out t after (Err x) (Err f) As is some e h a m = let p = write_small b out t after x some e h a in (ap Err (is x f m) ∙ p.0, p.1)
