-- What a loop over the fields of a line after the first goes through: each with its number.
use Rattle.std.proofs.Common.{◌≡◌, ℕ, Bool, false, List, drop, ◌==◌}
use Rattle.std.specs.Fn.{CalledAt}
use Rattle.std.specs.Slice.Iter as slice
use Rattle.std.specs.Iterator.Adapters.{skip_source, skip_count, skip_steps, enumerate_source, enumerate_count, enumerate_steps}
use Rattle.std.specs.List.{slice_split, enumerate_from}
use Rattle.std.proofs.lemmas.Iterator.{YieldsList}
use Rattle.std.proofs.lemmas.Iterator.Adapters.{YieldsList-from_skip}
use Rattle.std.proofs.lemmas.Iterator.Consumers.{YieldsList-from_enumerate}
use Rattle.std.proofs.lemmas.Iterator.Splits.{YieldsList-from_slice_split}
use denote.Param.Members.{Mut}
use denote.Ref.{Bor}

pub fields_come : {F : Type 0} {s : _} {g : Mut F (Bor ℕ × Unit {0}) Bool} {f : F} (line : List ℕ) → skip_count s ≡ 1 → enumerate_count (skip_source s) ≡ 0
    → slice.split_rest (enumerate_source (skip_source s)) ≡ line → slice.split_done (enumerate_source (skip_source s)) ≡ false → slice.split_callee (enumerate_source (skip_source s)) ≡ f
    → ((x : ℕ) (b : Bool) (q : F) → CalledAt g f x b q → (q ≡ f) × (b ≡ (x == 44)))
    → YieldsList (skip_steps (enumerate_steps (slice.split_steps g))) (λ p. (p.0, p.1.now)) s (drop 1 (enumerate_from 0 (slice_split (λ b. b == 44) line)))
fields_come {g = g} line n k r d p h = YieldsList-from_skip 1 (YieldsList-from_enumerate (YieldsList-from_slice_split g (λ b. b == 44) line r d p h) k) n
