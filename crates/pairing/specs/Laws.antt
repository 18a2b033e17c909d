-- Pairings of a book, and what makes one good: few pairs, and most contracts near.
use Rattle.std.specs.Prelude.{◌≡◌, ℕ, ◌+◌, ◌*◌, ◌<◌, ◌≤◌, true, cond, ◌&&◌, List, [], ◌∷◌, ◌++◌, length, ℤ, sum_by, ◌==◌, nat_eq}
use Rattle.std.proofs.Math.IntN.{sub_ℕ}
use Rattle.std.specs.List.{AllByRecursion}
use Rattle.order.specs.First.{any}
use Rattle.book.specs.Books.{Contents, holder, buys, sells, volume}
use Rattle.pairing.specs.declared.stage.Stage.{Stage}
use Rattle.pairing.specs.declared.pair.Pair.{Pair}
use Rattle.pairing.specs.declared.line.Line.{Line}
use Rattle.pairing.specs.Pairing.{key, unpaired, pairs}
use Rattle.pairing.specs.InWords.{AsTold}
use Rattle.pairing.specs.Lines.{Lot, lot, total, of_seller}

-- What the lines of a row add up to: bought contracts count plus, sold ones minus.
abbrev pub position_on : List Line → ℕ → ℤ
position_on ls row = sub_ℕ (total (λ l. nat_eq l.buyer row) (λ l. l.contracts) ls) (total (λ l. nat_eq l.seller row) (λ l. l.contracts) ls)

-- A pairing of the book puts each contract bought against a sold one of its own: every line has a buyer and a seller of
-- the book, and each holder's lines add up to its position.
pub record Pairing (b : Contents) (ls : List Line) : Type 0 where
  pub sides : AllByRecursion (λ l. (buys (holder b l.buyer) ≡ true) × (sells (holder b l.seller) ≡ true)) ls
  pub positions : (row : ℕ) → position_on ls row ≡ (holder b row).position

-- The member, clearing member or payment agent of the holder in a row.
abbrev pub group_of : Contents → Stage → ℕ → ℕ
group_of b stage row = key stage (unpaired (holder b row))

-- The contracts within one member, clearing member or agent: those whose buyer and seller share it.
abbrev pub within : Contents → Stage → ℕ → List Line → ℕ
within b stage number ls = total (λ l. (group_of b stage l.buyer == number) && group_of b stage l.seller == number) (λ l. l.contracts) ls

-- How many different pairs of buyer and seller lines name.
abbrev pub different_pairs : List Line → ℕ
different_pairs [] = 0
different_pairs (l ∷ ls) = cond (any (λ k. (k.buyer == l.buyer) && k.seller == l.seller) ls) 0 1 + different_pairs ls

-- Every other pairing has at most as many contracts within each member, clearing member and agent.
abbrev pub Nearest : Contents → List Line → Type 0
Nearest b ls = (other : List Line) → Pairing b other → (stage : Stage) (number : ℕ) → within b stage number other ≤ within b stage number ls

-- Lines that pair a book as they should: each contract, in few pairs, and most contracts near.
pub record WellPaired (b : Contents) (ls : List Line) : Type 0 where
  pub pairing : Pairing b ls
  pub fewer : different_pairs ls < length b.holders
  pub nearest : Nearest b ls

-- ---- lots

-- Each seller's lots add up to its volume, and lots name assets of the book only.
pub record Notified (b : Contents) (lots : List Lot) : Type 0 where
  pub assets : AllByRecursion (λ x. x.asset < length b.assets) lots
  pub whole : (row : ℕ) → sells (holder b row) ≡ true → sum_by (λ x. cond (x.row == row) x.contracts 0) lots ≡ volume (holder b row)

-- Each seller's lines of an asset add up to its lot.
abbrev pub LotsUsed : Contents → List Lot → List Line → Type 0
LotsUsed b lots ls = (row : ℕ) → sells (holder b row) ≡ true → (a : ℕ) → a < length b.assets
    → total (of_seller row a) (λ l. l.contracts) ls ≡ lot lots row a

-- ---- pairs and lines

-- A line of a pair: of its stage, buyer and seller; rows are places and one.
abbrev pub Of : Pair → Line → Type 0
Of p l = (l.stage ≡ p.stage) × (l.buyer ≡ p.buyer + 1) × (l.seller ≡ p.seller + 1)

abbrev pub contracts_in : List Line → ℕ
contracts_in ls = sum_by (λ l. l.contracts) ls

-- The lines are parts of the pairs: for each pair, in order, some lines of it, which have its contracts.
pub data Parts : List Pair → List Line → Type 0 where
  done : Parts [] []
  part : {p : Pair} {ps : List Pair} {rest : List Line} (new : List Line) → AllByRecursion (Of p) new → contracts_in new ≡ p.contracts → Parts ps rest → Parts (p ∷ ps) (new ++ rest)

-- ---- the laws

-- The places that the lines of a book need for each holder.
abbrev pub places_a_holder : ℕ
places_a_holder = 4

-- What holds of the lines of a book that is not empty. The lines of some lots are all that these lots cover, so the last
-- four hold where each seller's lots add up to its volume.
pub record Lawful (b : Contents) (lots : List Lot) (ls : List Line) : Type 0 where
  pub pairs_as_told : AsTold b (pairs b)
  pub fewer_pairs_than_holders : different_pairs ls < length b.holders
  pub four_lines_a_holder : length ls ≤ places_a_holder * length b.holders
  pub parts_of_pairs : Notified b lots → Parts (pairs b) ls
  pub positions_are_met : Notified b lots → Pairing b ls
  pub lots_are_used_up : Notified b lots → LotsUsed b lots ls
  pub most_contracts_near : Notified b lots → Nearest b ls
