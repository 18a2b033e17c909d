-- Pair by pair, the lines are parts of the pairs, in the order made.
use Rattle.std.proofs.Common.{◌≡◌, ℕ, zero, suc, ◌+◌, ◌-◌, ◌<◌, ◌≤◌, min, Bool, true, false, cond, eqb, List, [], ◌∷◌, ◌++◌, length, sym, refl, ap, ◌∙◌, subst, append_assoc, append-nil, arith}
use native.Mathlib.Nat.{min-le_left}
use Rattle.std.specs.List.{AllByRecursion}
use Rattle.std.proofs.lemmas.List.Sums.{sum_by-append}
use Rattle.std.proofs.ByRecursion.{All-append}
use Rattle.std.proofs.lemmas.Bool.{eqb-true}
use Rattle.pairing.specs.declared.pair.Pair.{Pair}
use Rattle.pairing.specs.declared.line.Line.{Line}
use Rattle.book.specs.Books.{Contents, Sound}
use Rattle.pairing.specs.Pairing.{pairs}
use Rattle.pairing.specs.Lines.{Lot, left, add_line, fresh, lines_of_pair, lines_of_pairs, lines_of}
use Rattle.pairing.specs.Laws.{Notified, Of, contracts_in, Parts, done, part}
use Rattle.pairing.proofs.LineSums.{over_assets}
use Rattle.pairing.proofs.LineSteps.{InLots, room, pair_in_lots}
use Rattle.pairing.proofs.LineRuns.{Enough, covered, covers_rest, assets_rest}
use Rattle.pairing.proofs.LineLaws.{enough}

record Part (p : Pair) (n : ℕ) (ls rs : List Line) : Type 0 where
  new : List Line
  is : rs ≡ ls ++ new
  sums : contracts_in new ≡ n
  of : AllByRecursion (Of p) new

pair_part : (lots : List Lot) (p : Pair) (k a n : ℕ) (ls : List Line) → n ≤ over_assets (left lots ls (p.seller + 1)) a k → Part p n ls (lines_of_pair lots p k a n ls)
pair_part lots p zero a n ls h = record { new = []; is = sym (append-nil ls); sums = omega arith; of = tt }
pair_part lots p (suc k) a n ls h =
    let u = min n (left lots ls (p.seller + 1) a) in
    go u (min-le_left n (left lots ls (p.seller + 1) a)) (eqb u 0) refl (pair_part lots p k (a + 1) (n - u) (add_line ls (fresh p a u)) (room lots p k a n ls h))
  where
    go : (u : ℕ) → u ≤ n → (t : Bool) → eqb u 0 ≡ t → {rs : List Line} → Part p (n - u) (cond t ls (ls ++ (fresh p a u ∷ []))) rs → Part p n ls rs
    go u le true e q = record { new = q.new; is = q.is; sums = (let z = eqb-true u 0 e in let s = q.sums in omega (arith, z, s)); of = q.of }
    go u le false e q = record {
      new = (fresh p a u ∷ []) ++ q.new;
      is = q.is ∙ append_assoc ls (fresh p a u ∷ []) q.new;
      sums = (let s = q.sums in let c = sum_by-append (λ (l : Line). l.contracts) (fresh p a u ∷ []) q.new in omega (arith, s, c));
      of = All-append (Of p) (fresh p a u ∷ []) q.new ((refl, refl, refl), tt) q.of;
    }

record Runs (ps : List Pair) (ls rs : List Line) : Type 0 where
  new : List Line
  is : rs ≡ ls ++ new
  parts : Parts ps new

pairs_parts : (lots : List Lot) (K : ℕ) (ps : List Pair) (ls : List Line) → InLots lots ls → AllByRecursion (λ l. l.asset < K) ls → Enough lots K ps ls
    → Runs ps ls (lines_of_pairs lots K ps ls)
pairs_parts lots K [] ls fits assets enough = record { new = []; is = sym (append-nil ls); parts = done }
pairs_parts lots K (p ∷ ps) ls fits assets enough =
    let q = pair_part lots p K 0 p.contracts ls (covered lots K p ps ls fits assets enough) in
    let r = pairs_parts lots K ps (lines_of_pair lots p K 0 p.contracts ls) (pair_in_lots lots p K 0 p.contracts ls fits)
    (assets_rest lots K p ps ls fits assets) (covers_rest lots K p ps ls fits assets enough) in
    record {
      new = q.new ++ r.new;
      is = r.is ∙ ap (λ x. x ++ r.new) q.is ∙ append_assoc ls q.new r.new;
      parts = part q.new q.of q.sums r.parts;
    }

-- The lines of a sound book with its lots notified are parts of its pairs.
pub lines_parts : (b : Contents) → Sound b → (lots : List Lot) → Notified b lots → Parts (pairs b) (lines_of b lots)
lines_parts b ok lots full =
    let r = pairs_parts lots (length b.assets) (pairs b) [] (λ row a. omega arith) tt (enough b ok lots full) in
    subst (Parts (pairs b)) (sym r.is) r.parts
