-- A row that was read, and the fault that is told of it at its line.
use Rattle.std.proofs.Common.{◌≡◌, ℕ, List, ℤ, Ok, Err, vec_items, Result, Vec, sym, ap, subst, arith}
use Rattle.std.specs.Result.{MatchResult, IsErrAnd}
use Rattle.std.specs.declared.alloc.Global.{Global}
use Rattle.text.specs.declared.row.RowFault.{RowFault}
use Rattle.text.specs.declared.row.RowError.{RowError}
use Rattle.text.specs.declared.row.RowError.TheVariants as row_error
use Rattle.text.specs.Rows.{Answers}
use Rattle.book.specs.declared.fault.Refusal.{Refusal}
use Rattle.book.specs.declared.fault.ReadFault.{ReadFault}
use Rattle.book.specs.declared.fault.ReadFault.TheVariants.{Refused, NoMemory}
use Rattle.book.specs.Reading.{Draft, Read, on_row, placed}
use Rattle.book.specs.Data.{Gives, Does, fault_on, record_of}

-- q is the answer a with its fault told
pub fault_told : (Told : RowError → ReadFault → Type 0) (l : ℕ) (a : Result (Vec ℤ Global) RowError) (s : Result (List ℤ) RowFault) (q : Result (Vec ℤ Global) ReadFault) → Answers a s → MatchResult a (λ x. q ≡ Ok x) (λ e. IsErrAnd q (Told e)) → ((e : RowError) (f : ReadFault) → Told e f → f ≡ fault_on l e) → Gives (λ (v : Vec ℤ Global). vec_items v) q (record_of l s (λ zs. zs))
fault_told Told l (Ok v) s q h m is = subst (λ y. Gives (λ (w : Vec ℤ Global). vec_items w) y (record_of l s (λ zs. zs))) (sym m) (ap (λ t. record_of l t (λ zs. zs)) h)
fault_told Told l (Err e) s (Ok v) h m is = absurd m
fault_told Told l (Err (row_error.Refused x)) s (Err f) h m is = subst (λ y. Gives (λ (w : Vec ℤ Global). vec_items w) (Err y) (record_of l s (λ zs. zs))) (sym (is (row_error.Refused x) f m)) (ap (λ t. record_of l t (λ zs. zs)) h)
fault_told Told l (Err row_error.NoMemory) s (Err f) h m is = subst (λ y. Gives (λ (w : Vec ℤ Global). vec_items w) (Err y) (record_of l s (λ zs. zs))) (sym (is row_error.NoMemory f m)) tt

-- numbers that come of a row are the row's
pub row_is : (l : ℕ) (r : Result (List ℤ) RowFault) (zs : List ℤ) → ◌≡◌ {A = Result (List ℤ) Refusal} (record_of l r (λ ys. ys)) (Ok zs) → r ≡ Ok zs
row_is l (Ok ys) zs h = let e : ys ≡ zs = cc in ap Ok e
row_is l (Err e) zs h = let q : ◌≡◌ {A = ℕ} 0 1 = cc in absurd (omega arith)

-- a line whose record is refused is refused, whatever its numbers would be used for
pub unused : {X : Type 0} (from : List ℤ → X) (use_them : List ℤ → Read) (l : ℕ) (s : Result (List ℤ) RowFault) (f : ReadFault) (r : Result (Unit {0}) ReadFault) (d : Draft) → Gives (λ (x : X). x) (Err f) (record_of l s from) → r ≡ Err f → Does r (on_row l s use_them) d
unused from use_them l (Ok zs) (Refused e) r d h k = let q : ◌≡◌ {A = ℕ} 0 1 = cc in absurd (omega arith)
unused from use_them l (Err x) (Refused e) r d h k = let same : placed l x ≡ e = cc in subst (λ y. Does y (on_row l (Err x) use_them) d) (sym k) (ap Err same)
unused from use_them l s NoMemory r d h k = subst (λ y. Does y (on_row l s use_them) d) (sym k) tt
