-- An expiry with nothing in it stands with no call made.
use Rattle.std.proofs.Common.{◌≡◌, ℕ, zero, suc, ◌<◌, true, ◌&&◌, eqb, ltb, List, [], ◌∷◌, length, get_or, ℤ, pos, negsuc, nat_abs, None, refl, ap, inl, inr, arith, eqb-true}
use Rattle.std.proofs.lemmas.Bool.{and_parts, cases_Bool, ltb-true}
use Rattle.book.specs.Books.{Sound}
use Rattle.pairs.specs.declared.lots.SellerLots.{SellerLots}
use Rattle.rules.specs.declared.fault.OpeningFault.TheVariants.{EmptyBook}
use Rattle.rules.specs.declared.side.Side.{Side}
use Rattle.rules.specs.declared.side.Side.TheVariants.{Securities, Cash}
use Rattle.rules.specs.Tally.{Opening, empty, told}
use Rattle.rules.specs.Verdict.{opening_refused}
use Rattle.rules.specs.Histories.{Stands, Same, register}
use Rattle.rules.proofs.Begins.{told_at_first}
use Rattle.state.specs.declared.state.State.{State}
use Rattle.state.specs.Seeing.{record_of, seen}
use Rattle.expiry.specs.Opened.{zeros, even, blank, New}
use Rattle.state.proofs.FirstFailed.{fails}
use Rattle.expiry.proofs.Roomy.{opening_rest}

pub zeros_at : (ns : List ℕ) → zeros ns ≡ true → (i : ℕ) → get_or ns i 0 ≡ 0
zeros_at [] h i = refl
zeros_at (n ∷ ns) h zero = eqb-true n 0 (and_parts (eqb n 0) (zeros ns) h).0
zeros_at (n ∷ ns) h (suc i) = zeros_at ns (and_parts (eqb n 0) (zeros ns) h).1 i

nothing_at : (xs : List SellerLots) → blank xs ≡ true → (row a : ℕ) → get_or (record_of xs row).lots a 0 ≡ 0
nothing_at xs h zero a = refl
nothing_at [] h (suc row) a = refl
nothing_at (x ∷ xs) h (suc zero) a = zeros_at x.lots (and_parts (zeros x.lots) (eqb x.notified 0 && blank xs) h).0 a
nothing_at (x ∷ xs) h (suc (suc row)) a =
    nothing_at xs (and_parts (eqb x.notified 0) (blank xs) (and_parts (zeros x.lots) (eqb x.notified 0 && blank xs) h).1).1 (suc row) a

none_notified : (xs : List SellerLots) → blank xs ≡ true → (row : ℕ) → (record_of xs row).notified ≡ 0
none_notified xs h zero = refl
none_notified [] h (suc row) = refl
none_notified (x ∷ xs) h (suc zero) = eqb-true x.notified 0 (and_parts (eqb x.notified 0) (blank xs) (and_parts (zeros x.lots) (eqb x.notified 0 && blank xs) h).1).0
none_notified (x ∷ xs) h (suc (suc row)) =
    none_notified xs (and_parts (eqb x.notified 0) (blank xs) (and_parts (zeros x.lots) (eqb x.notified 0 && blank xs) h).1).1 (suc row)

nought : (z : ℤ) → nat_abs z ≡ 0 → z ≡ pos 0
nought (pos n) h = ap pos h
nought (negsuc n) h = absurd (omega arith)

even_at : (ns : List ℤ) → even ns ≡ true → (i : ℕ) → get_or ns i (pos 0) ≡ pos 0
even_at [] h i = refl
even_at (n ∷ ns) h zero = nought n (eqb-true (nat_abs n) 0 (and_parts (eqb (nat_abs n) 0) (even ns) h).0)
even_at (n ∷ ns) h (suc i) = even_at ns (and_parts (eqb (nat_abs n) 0) (even ns) h).1 i

pub some_holders : (o : Opening) → opening_refused o ≡ None → 0 < length o.book.holders
some_holders o h = elim (cases_Bool (ltb 0 (length o.book.holders))) [
  | inl e ↦ ltb-true 0 (length o.book.holders) e
  | inr e ↦ absurd (let f = fails (ltb 0 (length o.book.holders)) EmptyBook (opening_rest o) e in let z : ◌≡◌ {A = ℕ} 0 1 = cc (f, h) in omega arith)
]

pub begun : (o : Opening) (e : State) → Sound o.book → opening_refused o ≡ None → New o.book e → Stands o [] (seen e o.table o.securities o.cash)
begun o e sound passed n = record {
  opens = record { book = sound; not_refused = passed };
  lived = tt;
  book = n.book;
  session = n.session;
  lots = nothing_at e.lots n.lots;
  notified = none_notified e.lots n.lots;
  count = n.count;
  table = refl;
  draws = zeros_at e.draws n.draws;
  nets = even_at e.nets n.nets;
  claims = even_at e.claims n.claims;
  registers = both;
}
  where
    both : (side : Side) → Same (register (seen e o.table o.securities o.cash) side) (told o empty side)
    both Securities = told_at_first o Securities
    both Cash = told_at_first o Cash
