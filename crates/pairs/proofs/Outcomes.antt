-- From what is written to what pairing answers and leaves.
use Rattle.std.proofs.Common.{◌≡◌, ℕ, zero, suc, ◌*◌, ◌≤◌, Bool, true, false, cond, eqb, List, [], ◌∷◌, ◌++◌, map, length, get_or, take, drop, Ok, Err, Result, sym, refl, ap, ◌∙◌, subst}
use Rattle.std.proofs.lemmas.List.{length-take-le, take-append-drop, take_at}
use Rattle.std.proofs.lemmas.Bool.{le-ltb, and_parts, eqb-true}
use Rattle.book.specs.declared.records.Asset.{Asset}
use Rattle.book.specs.declared.records.Holder.{Holder}
use Rattle.book.specs.declared.book.Book.{Book}
use Rattle.book.specs.Books.{Contents}
use Rattle.book.specs.Data.{contents}
use Rattle.pairing.specs.Orders.{first_deliverable}
use Rattle.pairing.proofs.LinesAgree.{lines_agree}
use Rattle.pairing.specs.declared.line.Line.{Line}
use Rattle.pairing.specs.Pairing.{in_groups, all_groups, unpaired}
use Rattle.pairing.specs.Lines.{Lot, added, lines_of_pairs, lines_of, over}
use Rattle.pairs.specs.declared.fault.PairingFault.{PairingFault}
use Rattle.pairs.specs.declared.fault.PairingFault.TheVariants.{FewLines, FewRecords}
use Rattle.pairs.specs.declared.lots.SellerLots.{SellerLots}
use Rattle.pairs.specs.Records.{lots_from, lots_in, zeros, all_empty, handed_from, handed}
use Rattle.pairs.specs.Outcome.{too_small, pair_answer, pair_leaves, OfLines, too_few, hand_answer, hand_leaves, Adds}
use Rattle.pairs.proofs.BookBounds.{few_of_each}
use Rattle.pairs.proofs.HandedLots.{NothingHeld, handed_means, handed_unnotified}

pub record Paired (b : Contents) (lots : List Lot) (table out : List Line) (r : ℕ) : Type 0 where
  pub answer : Ok r ≡ pair_answer b lots table
  pub leaves : out ≡ pair_leaves b lots table

-- The first places of the table have the lines, and later ones stay.
pub written : (b : Contents) (lots : List Lot) (table out : List Line) (r : ℕ) → 4 * length b.holders ≤ length table
    → take r out ≡ lines_of b lots → drop r out ≡ drop r table → r ≤ length out → Paired b lots table out r
written b lots table out r room first later fits =
    let big : too_small b table ≡ false = le-ltb _ _ room in
    let count : r ≡ length (lines_of b lots) = sym (length-take-le r out fits) ∙ ap length first in
    record {
      answer = ap {B = Result ℕ PairingFault} Ok count ∙ sym (ap (λ t. cond {A = Result ℕ PairingFault} t (Err FewLines) (Ok (length (lines_of b lots)))) big);
      leaves = sym (take-append-drop r out) ∙ ap (λ (ls : List Line). ls ++ drop r out) first ∙ ap (λ (ls : List Line). lines_of b lots ++ ls) (later ∙ ap (λ n. drop n table) count)
          ∙ sym (ap (λ t. cond t table (over (lines_of b lots) table)) big);
    }

-- The lines of rows and so many assets are those of the book that has them.
pub rows_lines : (b : Contents) (xs : List Asset) (hs : List Holder) (records : List SellerLots) → xs ≡ b.assets → hs ≡ b.holders
    → lines_of_pairs (lots_from (length xs) 1 records) (length xs) (in_groups all_groups (map unpaired hs)).0 [] ≡ lines_of b (lots_in b records)
rows_lines b xs hs records ex eh =
    ap (λ (ys : List Asset). lines_of_pairs (lots_from (length ys) 1 records) (length ys) (in_groups all_groups (map unpaired hs)).0 []) ex
    ∙ ap (λ (ks : List Holder). lines_of_pairs (lots_in b records) (length b.assets) (in_groups all_groups (map unpaired ks)).0 []) eh

-- ---- the laws, of the lines in the table

module _ (b : Contents) (lots : List Lot) (table out : List Line) (r : Result ℕ PairingFault) (answer : r ≡ pair_answer b lots table) (leaves : out ≡ pair_leaves b lots table) where
  pub of_lines : (law : List Line → Type 0) → law (lines_of b lots) → OfLines r out law
  of_lines law holds = subst (λ q. OfLines q out law) (sym answer) (go (too_small b table) refl)
    where
      go : (t : Bool) → too_small b table ≡ t → OfLines (cond {A = Result ℕ PairingFault} t (Err FewLines) (Ok (length (lines_of b lots)))) out law
      go true e = tt
      go false e =
          let whole : out ≡ over (lines_of b lots) table = leaves ∙ ap (λ t. cond t table (over (lines_of b lots) table)) e in
          let first : take (length (lines_of b lots)) out ≡ lines_of b lots
          = ap (take (length (lines_of b lots))) whole ∙ take_at (lines_of b lots) (drop (length (lines_of b lots)) table) (length (lines_of b lots)) refl in
          subst law (sym first) holds

-- ---- the end of the notices

pub record HandedOut (b : Contents) (before after : List SellerLots) : Type 0 where
  pub answer : Ok tt ≡ hand_answer b before
  pub leaves : after ≡ hand_leaves b before
  pub adds : Adds b before after

pub handed_out : (book : Book) (before after : List SellerLots) (xs : List Asset) (hs : List Holder) (a : ℕ)
    → length (contents book).holders ≤ length before → xs ≡ (contents book).assets → hs ≡ (contents book).holders → a ≡ first_deliverable (contents book)
    → after ≡ handed_from (length xs) a hs before → HandedOut (contents book) before after
handed_out book before after xs hs a room ex eh ea is =
    let b = contents book in
    let enough : too_few b before ≡ false = le-ltb _ _ room in
    let all : after ≡ handed b before = is ∙ ap (λ (ys : List Asset). handed_from (length ys) a hs before) ex ∙ ap (λ (ks : List Holder). handed_from (length b.assets) a ks before) eh
    ∙ ap (λ n. handed_from (length b.assets) n b.holders before) ea in
    record {
      answer = sym (ap (λ t. cond {A = Result (Unit {0}) PairingFault} t (Err FewRecords) (Ok tt)) enough);
      leaves = all ∙ sym (ap (λ t. cond t before (handed b before)) enough);
      adds = subst (Adds b before) (sym all) (handed_means (length b.assets) (first_deliverable b) b.holders before (few_of_each book).0 room);
    }

-- Without notices, the records handed out give the lines of no lots but those that the end of the notices adds.
pub lines_unnotified : (book : Book) (before after : List SellerLots) → length (contents book).holders ≤ length before → NothingHeld before
    → after ≡ hand_leaves (contents book) before → lines_of (contents book) (lots_in (contents book) after) ≡ lines_of (contents book) (added (contents book) [])
lines_unnotified book before after room none is =
    let b = contents book in
    let all : after ≡ handed b before = is ∙ ap (λ t. cond t before (handed b before)) (le-ltb _ _ room) in
    ap (λ (xs : List SellerLots). lines_of b (lots_in b xs)) all
    ∙ lines_agree b (lots_in b (handed b before)) (added b []) (handed_unnotified (length b.assets) (first_deliverable b) b.holders before (few_of_each book).0 room none)

-- Lots that give the same lines give the same answer and leave the same table.
pub same_answer : (b : Contents) (xs ys : List Lot) (table : List Line) → lines_of b xs ≡ lines_of b ys → pair_answer b xs table ≡ pair_answer b ys table
same_answer b xs ys table e = ap (λ (ls : List Line). cond {A = Result ℕ PairingFault} (too_small b table) (Err FewLines) (Ok (length ls))) e

pub same_leaves : (b : Contents) (xs ys : List Lot) (table : List Line) → lines_of b xs ≡ lines_of b ys → pair_leaves b xs table ≡ pair_leaves b ys table
same_leaves b xs ys table e = ap (λ (ls : List Line). cond (too_small b table) table (over ls table)) e

-- ---- empty records hold nothing

zeros_at : (ns : List ℕ) → zeros ns ≡ true → (a : ℕ) → get_or ns a 0 ≡ 0
zeros_at [] e a = refl
zeros_at (n ∷ ns) e zero = eqb-true n 0 (and_parts (eqb n 0) (zeros ns) e).0
zeros_at (n ∷ ns) e (suc a) = zeros_at ns (and_parts (eqb n 0) (zeros ns) e).1 a

pub nothing_held : (xs : List SellerLots) → all_empty xs ≡ true → NothingHeld xs
nothing_held [] e place a = refl
nothing_held (x ∷ xs) e zero a = zeros_at x.lots (and_parts (zeros x.lots) (all_empty xs) e).0 a
nothing_held (x ∷ xs) e (suc k) a = nothing_held xs (and_parts (zeros x.lots) (all_empty xs) e).1 k a
