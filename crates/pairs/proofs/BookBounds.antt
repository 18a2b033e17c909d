-- What every book keeps, the empty one too: at most 4 assets, and at most 256 holders.
use Rattle.std.proofs.Common.{◌≡◌, ◌≤◌, true, ◌&&◌, eqb, List, [], ◌∷◌, length, sym, refl, ⊎_elim, arith}
use Rattle.std.proofs.lemmas.Bool.{and_parts, or_cases, eqb-true}
use Rattle.book.specs.declared.records.Holder.{Holder}
use Rattle.book.specs.declared.book.Book.{Book}
use Rattle.book.specs.Books.{Contents}
use Rattle.book.specs.Lawful.{nothing, lawful}
use Rattle.book.specs.Data.{contents}
use Rattle.book.proofs.SoundLawful.{sound_from}

none : (b : Contents) → nothing b ≡ true → (length b.assets ≡ 0) × (length b.holders ≡ 0)
none b h =
    let p = and_parts (eqb b.terms.multiplier 0) (eqb b.terms.price 0 && (eqb (length b.assets) 0 && eqb (length b.holders) 0)) h in
    let q = and_parts (eqb b.terms.price 0) (eqb (length b.assets) 0 && eqb (length b.holders) 0) p.1 in
    let r = and_parts (eqb (length b.assets) 0) (eqb (length b.holders) 0) q.1 in
    (eqb-true _ _ r.0, eqb-true _ _ r.1)

pub few_of_each : (b : Book) → (length (contents b).assets ≤ 4) × (length (contents b).holders ≤ 256)
few_of_each b = ⊎_elim
    (λ e. let z = none (contents b) e in (omega (arith, z.0), omega (arith, z.1)))
    (λ e. let s = sound_from (contents b) e in (s.asset_count.1, s.holder_count.1))
    (or_cases (nothing (contents b)) (lawful (contents b)) b.one_that_exists)

-- A book with no asset has no holder.
pub no_holders : (b : Book) → length (contents b).assets ≡ 0 → [] ≡ (contents b).holders
no_holders b h = sym (empty (contents b).holders (⊎_elim
    (λ e. (none (contents b) e).1)
    (λ e. let s = sound_from (contents b) e in absurd (omega (arith, s.asset_count.0, h)))
    (or_cases (nothing (contents b)) (lawful (contents b)) b.one_that_exists)))
  where
    empty : (hs : List Holder) → length hs ≡ 0 → hs ≡ []
    empty [] e = refl
    empty (x ∷ hs) e = absurd (omega arith)
