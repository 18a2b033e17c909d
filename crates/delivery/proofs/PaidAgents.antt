-- Agents paid one after the other: what is left to post does the rest.
use Rattle.std.proofs.Common.{◌≡◌, ℕ, zero, suc, ◌+◌, ◌-◌, ◌<◌, ◌≤◌, Iter, List, [], ◌∷◌, ◌++◌, Some, None, Option, length, get_or, drop, sym, refl, ap, ◌∙◌, subst, arith}
use Rattle.std.specs.List.{range_with_len, enumerate_from}
use Rattle.std.proofs.lemmas.List.{length-drop, get_or_default}
use Rattle.std.proofs.lemmas.Grind.{get_or_after_one}
use Rattle.std.proofs.lemmas.List.FromFn.{length-enumerate_from, get_or-enumerate_from}
use Rattle.std.specs.declared.iter.Skip.{Skip}
use Rattle.std.specs.declared.iter.Enumerate.{Enumerate}
use Rattle.std.specs.Iterator.Adapters.{skip_steps, enumerate_steps}
use Rattle.std.proofs.iter.Yields.{fronts}
use Rattle.std.proofs.lemmas.Iterator.{YieldsList, YieldsList-from_slice}
use Rattle.std.proofs.lemmas.Iterator.Adapters.{YieldsList-from_skip}
use Rattle.std.proofs.lemmas.Iterator.Consumers.{YieldsList-from_enumerate, YieldsList-turn, YieldsList-end}
use Rattle.std.specs.Iterator.{Yields}
use denote.Ref.{Bor}
use Rattle.register.specs.Rules.{Meaning}
use Rattle.rules.specs.declared.side.Side.{Side}
use Rattle.rules.specs.declared.side.Side.TheVariants.{Cash}
use Rattle.book.specs.Limits.{most_agent}
use Rattle.rules.specs.Tally.{cash_asset}
use Rattle.rules.specs.Postings.{Posting, pays, for_each, for_agents, all_posted, NoneRefused}
use Rattle.delivery.specs.Handing.{paid_agents}
use Rattle.delivery.proofs.PostedRuns.{posted_append, none_append}

-- Those from number k up to the last are still to be paid.
pub record Paying (side : Side) (f : ℕ → List Posting) (last k : ℕ) (m₀ m : Meaning) (all : List Posting) : Type 0 where
  pub none_refused : NoneRefused side m (for_each f (range_with_len k (last - k)))
  pub posted : all_posted side m (for_each f (range_with_len k (last - k))) ≡ all_posted side m₀ all

next_count : (last k : ℕ) → k < last → range_with_len k (last - k) ≡ k ∷ range_with_len (k + 1) (last - (k + 1))
next_count last k h = let e : last - k ≡ suc (last - (k + 1)) = omega arith in ap (range_with_len k) e

pub paying_here : (side : Side) (f : ℕ → List Posting) (last k : ℕ) (m₀ m : Meaning) (all ps : List Posting) → k < last → ps ≡ f k → Paying side f last k m₀ m all → NoneRefused side m ps
paying_here side f last k m₀ m all ps h e go =
    let rest : List Posting = for_each f (range_with_len (k + 1) (last - (k + 1))) in
    let n : NoneRefused side m (f k ++ rest) = subst (λ (z : List ℕ). NoneRefused side m (for_each f z)) (next_count last k h) go.none_refused in
    subst (λ (z : List Posting). NoneRefused side m z) (sym e) (none_append side m (f k) rest n).0

pub paying_more : (side : Side) (f : ℕ → List Posting) (last k : ℕ) (m₀ m m' : Meaning) (all ps : List Posting) → k < last → ps ≡ f k → m' ≡ all_posted side m ps
    → Paying side f last k m₀ m all → Paying side f last (k + 1) m₀ m' all
paying_more side f last k m₀ m m' all ps h e made go =
    let rest : List Posting = for_each f (range_with_len (k + 1) (last - (k + 1))) in
    let p : m' ≡ all_posted side m (f k) = made ∙ ap (all_posted side m) e in
    let n : NoneRefused side m (f k ++ rest) = subst (λ (z : List ℕ). NoneRefused side m (for_each f z)) (next_count last k h) go.none_refused in
    let q : all_posted side m (f k ++ rest) ≡ all_posted side m₀ all = subst (λ (z : List ℕ). all_posted side m (for_each f z) ≡ all_posted side m₀ all) (next_count last k h) go.posted in
    record {
      none_refused = subst (λ (z : Meaning). NoneRefused side z rest) (sym p) (none_append side m (f k) rest n).1;
      posted = ap (λ z. all_posted side z rest) p ∙ (sym (posted_append side m (f k) rest) ∙ q);
    }

abbrev pub cash_to : List ℕ → ℕ → List Posting
cash_to amounts agent = pays Cash agent cash_asset (get_or amounts agent 0)

pub paying_none : (amounts : List ℕ) (m : Meaning) → NoneRefused Cash m (paid_agents amounts) → Paying Cash (cash_to amounts) 65 1 m m (paid_agents amounts)
unfolding paid_agents
paying_none amounts m n = record { none_refused = n; posted = refl }

-- The amounts after the first, each with its place.
abbrev pub numbered : List ℕ → List (ℕ × ℕ)
numbered amounts = drop 1 (enumerate_from 0 amounts)

numbered_length : (amounts : List ℕ) → length (numbered amounts) ≡ length amounts - 1
numbered_length amounts = let long = length-enumerate_from 0 amounts in length-drop 1 (enumerate_from 0 amounts) ∙ omega (arith, long)

cash_at : (amounts : List ℕ) (i : ℕ) (p : ℕ × ℕ) → i < length (numbered amounts) → p ≡ get_or (numbered amounts) i p → pays Cash p.0 cash_asset p.1 ≡ cash_to amounts (i + 1)
cash_at amounts i p h e =
    let long = numbered_length amounts in
    let within : 1 + i < length amounts = omega (arith, h, long) in
    let one : 0 + (1 + i) ≡ i + 1 = omega arith in
    let two : 1 + i ≡ i + 1 = omega arith in
    let at : p ≡ (i + 1, get_or amounts (i + 1) p.1) = e ∙ (get_or_after_one (enumerate_from 0 amounts) i p ∙ (get_or-enumerate_from 0 amounts (1 + i) p within ∙ (λ j. (one j, get_or amounts (two j) p.1)))) in
    let amount : p.1 ≡ get_or amounts (i + 1) 0 = ap (λ z. z.1) at ∙ get_or_default amounts (i + 1) p.1 0 (omega (arith, h, long)) in
    let place : p.0 ≡ i + 1 = ap (λ z. z.0) at in
    λ j. pays Cash (place j) cash_asset (amount j)

-- A walk over the amounts after the first: each turn has the next place and its amount, and it ends after the last.
abbrev pub Walk : Type 0
Walk = Skip (Enumerate (Iter ℕ))

abbrev pub Step : Walk → Option (ℕ × Bor ℕ) → Walk → Type 0
Step = skip_steps (enumerate_steps fronts)

abbrev pub Starts : List ℕ → Walk → Type 0
Starts amounts s = (s.iter.iter.rest.now ≡ amounts) × (s.iter.count ≡ 0) × (s.n ≡ 1)

walk : (amounts : List ℕ) (s : Walk) → Starts amounts s → YieldsList Step (λ p. (p.0, p.1.now)) s (numbered amounts)
walk amounts s (rest, count, n) = YieldsList-from_skip 1 (YieldsList-from_enumerate (YieldsList-from_slice amounts rest) count) n

pub walk_turn : (amounts : List ℕ) (s t u : Walk) (xs : List (ℕ × Bor ℕ)) (r : Option (ℕ × Bor ℕ)) (x : ℕ × Bor ℕ) → Starts amounts s → Yields Step s xs t → r ≡ Some x → Step t r u
    → (length xs + 1 < length amounts) × (pays Cash x.0 cash_asset x.1.now ≡ cash_to amounts (length xs + 1))
walk_turn amounts s t u xs r x start so_far some next =
    let turn = YieldsList-turn (walk amounts s start) xs t so_far r u x some next in
    let long = numbered_length amounts in
    (omega (arith, long, turn.0), cash_at amounts (length xs) (x.0, x.1.now) turn.0 turn.1)

-- Amounts that are another function's give that function's postings.
each_same : (f g : ℕ → List Posting) (k n : ℕ) → ((j : ℕ) → k ≤ j → j < k + n → f j ≡ g j) → for_each f (range_with_len k n) ≡ for_each g (range_with_len k n)
each_same f g k zero e = refl
each_same f g k (suc n) e =
    let here : f k ≡ g k = e k (omega arith) (omega arith) in
    let rest : for_each f (range_with_len (k + 1) n) ≡ for_each g (range_with_len (k + 1) n) = each_same f g (k + 1) n (λ j p q. e j (omega arith) (omega arith)) in
    λ i. here i ++ rest i

pub paid_agents_are : (amounts : List ℕ) (f : ℕ → ℕ) → ((k : ℕ) → 1 ≤ k → k ≤ most_agent → get_or amounts k 0 ≡ f k) → paid_agents amounts ≡ for_agents (λ agent. pays Cash agent cash_asset (f agent))
unfolding paid_agents
paid_agents_are amounts f e = each_same (cash_to amounts) (λ agent. pays Cash agent cash_asset (f agent)) 1 most_agent (λ k p q. ap (pays Cash k cash_asset) (e k p (omega arith)))
