-- What pairing makes of lines stays, whatever is taken, settled or returned of them.
use Rattle.std.proofs.Common.{◌≡◌, ℕ, ◌+◌, Bool, true, cond, ◌&&◌, ◌||◌, eqb, List, [], ◌∷◌, map, length, sum_by, sym, refl, ap, ◌∙◌, subst}
use lib.IntN.{sub_ℕ}
use Rattle.std.specs.List.{AllByRecursion}
use Rattle.std.proofs.ByRecursion.{All-map}
use Rattle.std.proofs.lemmas.List.{length-map}
use Rattle.pairing.specs.declared.line.Line.{Line}
use Rattle.pairing.specs.declared.stage.Stage.{Stage}
use Rattle.book.specs.Books.{Contents, holder, buys, sells}
use Rattle.order.specs.First.{any}
use Rattle.pairing.specs.Lines.{total, of_seller}
use Rattle.pairing.specs.Laws.{WellPaired, position_on, within, different_pairs, group_of}
use Rattle.rules.proofs.Totals.{map_kept}
use Rattle.rules.proofs.Kept.{anew}

all_anew : (P : Line → Type 0) (ls : List Line) → AllByRecursion P (map anew ls) → AllByRecursion (λ l. P (anew l)) ls
all_anew P [] a = tt
all_anew P (l ∷ ls) a = (a.0, all_anew P ls a.1)

any_anew : (p : Line → Bool) (ls : List Line) → ((l : Line) → p (anew l) ≡ p l) → any p (map anew ls) ≡ any p ls
any_anew p [] e = refl
any_anew p (l ∷ ls) e = let q = e l in let r = any_anew p ls e in λ i. q i || r i

different_anew : (ls : List Line) → different_pairs (map anew ls) ≡ different_pairs ls
different_anew [] = refl
different_anew (l ∷ ls) =
    let r = different_anew ls in
    let q = any_anew (λ k. eqb k.buyer l.buyer && eqb k.seller l.seller) ls (λ _. refl) in
    λ i. cond (q i) 0 1 + r i

position_anew : (ls : List Line) (row : ℕ) → position_on (map anew ls) row ≡ position_on ls row
position_anew ls row =
    let p = map_kept (λ l. cond (eqb l.buyer row) l.contracts 0) anew ls (λ _. refl) in
    let q = map_kept (λ l. cond (eqb l.seller row) l.contracts 0) anew ls (λ _. refl) in
    λ i. sub_ℕ (p i) (q i)

within_anew : (b : Contents) (stage : Stage) (number : ℕ) (ls : List Line) → within b stage number (map anew ls) ≡ within b stage number ls
within_anew b stage number ls = map_kept (λ l. cond (eqb (group_of b stage l.buyer) number && eqb (group_of b stage l.seller) number) l.contracts 0) anew ls (λ _. refl)

to_anew : (b : Contents) (ls : List Line) → WellPaired b ls → WellPaired b (map anew ls)
to_anew b ls w = record {
  pairing = record {
    sides = All-map (λ l. (buys (holder b l.buyer) ≡ true) × (sells (holder b l.seller) ≡ true)) anew ls w.pairing.sides;
    positions = λ row. position_anew ls row ∙ w.pairing.positions row;
  };
  fewer = rw (different_anew ls) w.fewer;
  nearest = λ other p stage number. rw (within_anew b stage number ls) (w.nearest other p stage number);
}

from_anew : (b : Contents) (ls : List Line) → WellPaired b (map anew ls) → WellPaired b ls
from_anew b ls w = record {
  pairing = record {
    sides = all_anew (λ l. (buys (holder b l.buyer) ≡ true) × (sells (holder b l.seller) ≡ true)) ls w.pairing.sides;
    positions = λ row. sym (position_anew ls row) ∙ w.pairing.positions row;
  };
  fewer = rw (sym (different_anew ls)) w.fewer;
  nearest = λ other p stage number. rw (sym (within_anew b stage number ls)) (w.nearest other p stage number);
}

pub well_kept : (b : Contents) (ls ks : List Line) → map anew ls ≡ map anew ks → WellPaired b ks → WellPaired b ls
well_kept b ls ks e w = from_anew b ls (subst (λ (z : List Line). WellPaired b z) (sym e) (to_anew b ks w))

-- So do the contracts of a seller in an asset, and the number of lines.
pub sold_kept : (ls ks : List Line) → map anew ls ≡ map anew ks → (row asset : ℕ)
    → total (of_seller row asset) (λ l. l.contracts) ls ≡ total (of_seller row asset) (λ l. l.contracts) ks
sold_kept ls ks e row asset =
    sym (map_kept (λ l. cond (of_seller row asset l) l.contracts 0) anew ls (λ _. refl))
    ∙ ap (λ z. sum_by (λ (l : Line). cond (of_seller row asset l) l.contracts 0) z) e
    ∙ map_kept (λ l. cond (of_seller row asset l) l.contracts 0) anew ks (λ _. refl)

pub length_kept : (ls ks : List Line) → map anew ls ≡ map anew ks → length ls ≡ length ks
length_kept ls ks e = sym (length-map ls anew) ∙ ap length e ∙ length-map ks anew
