-- The laws of the pairs of rows: a pairing, fewer pairs than holders, most contracts near.
use Rattle.std.proofs.Common.{◌≡◌, ℕ, zero, suc, ◌+◌, ◌<◌, ◌≤◌, Bool, cond, ◌&&◌, eqb, ltb, ◌⊎◌, List, [], ◌∷◌, ◌++◌, length, sym, refl, ap, ◌∙◌, subst, inl, inr, ⊎_elim, append_assoc, arith}
use Rattle.std.specs.List.{AllByRecursion}
use Rattle.std.proofs.ByRecursion.{All-append}
use Rattle.std.proofs.lemmas.List.Sums.{sum_by-cons, sum_by-append}
use Rattle.std.proofs.lemmas.Bool.{cases_eq, lt-ltb, le-ltb}
use Rattle.pairing.specs.declared.pair.Unpaired.{Unpaired}
use Rattle.pairing.specs.declared.pair.Pair.{Pair}
use Rattle.pairing.specs.declared.stage.Group.{Group}
use Rattle.pairing.specs.declared.stage.Stage.{Stage}
use Rattle.pairing.specs.declared.stage.Stage.TheVariants.{Member, Clearing, Agent, Whole}
use Rattle.pairing.specs.Pairing.{key, numbered}
use Rattle.pairing.specs.InWords.{at, bought, sold, Emptied}
use Rattle.pairing.proofs.PairRelations.{groups, Paired, group, over, stages, within, whole, Nested, rank, open_count, Made, SoundRows, Nearest, PairingLaws}
use Rattle.pairing.proofs.GroupShares.{at_most}
use Rattle.pairing.proofs.MadePairs.{made_pairing, all_used, made_near, made_fewer, made_append}
use Rattle.pairing.proofs.FairPairs.{in_group_made, in_group_emptied, paired_made, paired_split}

-- ---- the place of a group among all groups

-- Before the group of this stage and number stand only groups of this stage or a finer one.
pub record Stands (stage : Stage) (n : ℕ) (gs : List Group) : Type 0 where
  pub before : List Group
  pub after : List Group
  pub whole : gs ≡ before ++ (record { stage = stage; number = n } ∷ after)
  pub finer : AllByRecursion (λ g. rank g.stage ≤ rank stage) before

stands_in : (stage : Stage) (n from count : ℕ) → from ≤ n → n < from + count → Stands stage n (numbered stage from count)
stands_in stage n from zero low high = absurd (omega arith)
stands_in stage n from (suc c) low high = ⊎_elim
    (λ e. record { before = []; after = numbered stage (from + 1) c; whole = ap (λ j. record { stage = stage; number = j } ∷ numbered stage (from + 1) c) e; finer = tt })
    (λ ne. let s = stands_in stage n (from + 1) c (omega arith) (omega arith) in record {
      before = record { stage = stage; number = from } ∷ s.before;
      after = s.after;
      whole = ap (λ l. record { stage = stage; number = from } ∷ l) s.whole;
      finer = (omega arith, s.finer);
    })
    (cases_eq from n)

numbered_finer : (stage other : Stage) → rank stage ≤ rank other → (from count : ℕ) → AllByRecursion (λ g. rank g.stage ≤ rank other) (numbered stage from count)
numbered_finer stage other le from zero = tt
numbered_finer stage other le from (suc c) = (le, numbered_finer stage other le (from + 1) c)

stands_left : {stage : Stage} {n : ℕ} {gs : List Group} (hs : List Group) → Stands stage n gs → Stands stage n (gs ++ hs)
stands_left {stage = stage} {n = n} hs s = record {
  before = s.before;
  after = s.after ++ hs;
  whole = ap (λ l. l ++ hs) s.whole ∙ append_assoc s.before _ hs;
  finer = s.finer;
}

stands_right : {stage : Stage} {n : ℕ} {gs : List Group} (fs : List Group) → AllByRecursion (λ g. rank g.stage ≤ rank stage) fs → Stands stage n gs → Stands stage n (fs ++ gs)
stands_right {stage = stage} fs fine s = record {
  before = fs ++ s.before;
  after = s.after;
  whole = ap (λ l. fs ++ l) s.whole ∙ sym (append_assoc fs s.before _);
  finer = All-append (λ g. rank g.stage ≤ rank stage) fs s.before fine s.finer;
}

module _ (m c a : ℕ) where
  pub stands_member : (n : ℕ) → 1 ≤ n → n ≤ m → Stands Member n (stages m c a)
  unfolding stages
  stands_member n low high = stands_left _ (stands_in Member n 1 m low (omega arith))

  pub stands_clearing : (n : ℕ) → 1 ≤ n → n ≤ c → Stands Clearing n (stages m c a)
  unfolding stages
  stands_clearing n low high = stands_right (numbered Member 1 m) (numbered_finer Member Clearing (omega arith) 1 m)
      (stands_left _ (stands_in Clearing n 1 c low (omega arith)))

  pub stands_agent : (n : ℕ) → 1 ≤ n → n ≤ a → Stands Agent n (stages m c a)
  unfolding stages
  stands_agent n low high = stands_right (numbered Member 1 m) (numbered_finer Member Agent (omega arith) 1 m)
      (stands_right (numbered Clearing 1 c) (numbered_finer Clearing Agent (omega arith) 1 c) (stands_left _ (stands_in Agent n 1 a low (omega arith))))

  pub stands_book : Stands Whole 0 (stages m c a)
  unfolding stages
  stands_book = stands_right (numbered Member 1 m) (numbered_finer Member Whole (omega arith) 1 m)
      (stands_right (numbered Clearing 1 c) (numbered_finer Clearing Whole (omega arith) 1 c)
      (stands_right (numbered Agent 1 a) (numbered_finer Agent Whole (omega arith) 1 a) (stands_in Whole 0 0 1 (omega arith) (omega arith))))

stands : (hs : List Unpaired) → SoundRows hs → (stage : Stage) (k : ℕ) → k < length hs → Stands stage (key stage (at hs k)) groups
stands hs ok Member k h = stands_member 999 999 64 _ (ok.member_range k h).0 (ok.member_range k h).1
stands hs ok Clearing k h = stands_clearing 999 999 64 _ (ok.clearing_range k h).0 (ok.clearing_range k h).1
stands hs ok Agent k h = stands_agent 999 999 64 _ (ok.agent_range k h).0 (ok.agent_range k h).1
stands hs ok Whole k h = stands_book 999 999 64

-- ---- up to the end of a group's own pairing all its contracts of one side are within it

within_append : (place : ℕ → ℕ) (n : ℕ) (ps qs : List Pair) → within place n (ps ++ qs) ≡ within place n ps + within place n qs
within_append place n ps qs = sum_by-append (λ p. cond (eqb (place p.buyer) n && eqb (place p.seller) n) p.contracts 0) ps qs

module _ (stage : Stage) (n : ℕ) (hs : List Unpaired) (nest : Nested hs) where
  place : ℕ → ℕ
  place i = key stage (at hs i)

  Near : Group → Type 0
  Near g = rank g.stage ≤ rank stage

  reached : {after : List Group} {ps qs : List Pair} {ks ls : List Unpaired}
      → Made (λ g. rank g.stage ≤ rank stage) hs ps ks → Paired (record { stage = stage; number = n } ∷ after) ks qs ls
      → (bought (record { stage = stage; number = n }) hs ≤ within (λ i. key stage (at hs i)) n (ps ++ qs)) ⊎ (sold (record { stage = stage; number = n }) hs ≤ within (λ i. key stage (at hs i)) n (ps ++ qs))
  reached {ps = ps} m (group {ps = os} {qs = rs} i r) =
      let mine = made_append m (in_group_made {G = λ g. rank g.stage ≤ rank stage} (record { stage = stage; number = n }) (omega arith) i) in
      let near = made_near stage n (λ k. key stage (at hs k)) (λ g ok. ok) nest (λ k. refl) mine in
      let w1 = within_append (λ k. key stage (at hs k)) n ps os in
      let w2 = within_append (λ k. key stage (at hs k)) n os rs in
      let w3 = within_append (λ k. key stage (at hs k)) n ps (os ++ rs) in
      ⊎_elim (λ b. inl (omega (arith, near.0, w1, w2, w3, b))) (λ s. inr (omega (arith, near.1, w1, w2, w3, s)))
      (in_group_emptied (record { stage = stage; number = n }) i)

nearest : (hs ls : List Unpaired) (ps : List Pair) → SoundRows hs → Paired groups hs ps ls → Nearest hs ps
nearest hs ls ps ok run stage k h qs other =
    let n = key stage (at hs k) in
    let st = stands hs ok stage k h in
    let P : List Group → Type 0 = λ gs. Paired gs hs ps ls in
    let sp = paired_split st.before (record { stage = stage; number = n } ∷ st.after) (subst P st.whole run) in
    let got = reached stage n hs ok.nested (paired_made st.finer sp.runs_before) sp.runs_after in
    let most = at_most (record { stage = stage; number = n }) (λ i. key stage (at hs i)) qs hs (λ i. refl) other in
    let same = ap (within (λ i. key stage (at hs i)) n) sp.whole in
    ⊎_elim (λ b. omega (arith, b, most.0, same)) (λ s. omega (arith, s, most.1, same)) got

-- ---- the whole book is paired in the end

paired_ends : (fs : List Group) (g : Group) {hs : List Unpaired} {ps : List Pair} {ls : List Unpaired} → Paired (fs ++ (g ∷ [])) hs ps ls → Emptied g ls
paired_ends [] g (group i over) = in_group_emptied g i
paired_ends (f ∷ fs) g (group i r) = paired_ends fs g r

unit_all : (gs : List Group) → AllByRecursion (λ g. Unit {0}) gs
unit_all [] = tt
unit_all (g ∷ gs) = (tt, unit_all gs)

ends_book : (m c a : ℕ) {hs : List Unpaired} {ps : List Pair} {ls : List Unpaired} → Paired (stages m c a) hs ps ls → Emptied whole ls
unfolding stages
ends_book m c a {hs = hs} {ps = ps} {ls = ls} r =
    let M = numbered Member 1 m in let C = numbered Clearing 1 c in let A = numbered Agent 1 a in
    let P : List Group → Type 0 = λ gs. Paired gs hs ps ls in
    let e : M ++ (C ++ (A ++ (whole ∷ []))) ≡ (M ++ (C ++ A)) ++ (whole ∷ []) = sym (append_assoc M (C ++ A) (whole ∷ []) ∙ ap (λ l. M ++ l) (append_assoc C A (whole ∷ []))) in
    paired_ends (M ++ (C ++ A)) whole (subst P e r)

count_all : (xs : List Unpaired) → ((k : ℕ) → k < length xs → 0 < (at xs k).volume) → open_count xs ≡ length xs
count_all [] h = refl
count_all (x ∷ xs) h =
    let ih = count_all xs (λ k lt. h (suc k) (omega arith)) in
    let c = sum_by-cons (λ y. cond (ltb 0 y.volume) 1 0) x xs in
    let m = ap {A = Bool} {B = ℕ} (λ t. cond t 1 0) (lt-ltb 0 x.volume (h 0 (omega arith))) in
    omega (arith, ih, c, m)

count_none : (xs : List Unpaired) → ((k : ℕ) → k < length xs → (at xs k).volume ≡ 0) → open_count xs ≡ 0
count_none [] h = refl
count_none (x ∷ xs) h =
    let ih = count_none xs (λ k lt. h (suc k) (omega arith)) in
    let c = sum_by-cons (λ y. cond (ltb 0 y.volume) 1 0) x xs in
    let z = h 0 (omega arith) in
    let m = ap {A = Bool} {B = ℕ} (λ t. cond t 1 0) (le-ltb 0 x.volume (omega (arith, z))) in
    omega (arith, ih, c, m)

pub pairing_laws : PairingLaws
pairing_laws hs ls ps ok run =
    let m : Made (λ g. Unit {0}) hs ps ls = paired_made (unit_all groups) run in
    let ended = ends_book 999 999 64 run in
    let zero_left = count_none ls (all_used m ok.balanced ended) in
    let all_open = count_all hs ok.traded in
    record {
      pairing = made_pairing m ok.balanced ended;
      fewer = omega (arith, made_fewer m zero_left (omega (arith, all_open, ok.some)), all_open);
      nearest = nearest hs ls ps ok run;
    }
