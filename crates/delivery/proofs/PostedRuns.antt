-- Postings one after the other: a list after another, and lists whose postings are of the other side.
use Rattle.std.proofs.Common.{◌≡◌, ℕ, Bool, true, false, cond, eqb, List, [], ◌∷◌, ◌++◌, refl, ap, ◌∙◌, subst}
use Rattle.register.specs.Rules.{Meaning}
use Rattle.rules.specs.declared.side.Side.{Side}
use Rattle.rules.specs.declared.side.Side.TheVariants.{Securities, Cash}
use Rattle.rules.specs.Tally.{house}
use Rattle.rules.specs.Postings.{Posting, moves, pays, for_each, posted, all_posted, NoneRefused}

pub posted_append : (side : Side) (m : Meaning) (ps qs : List Posting) → all_posted side m (ps ++ qs) ≡ all_posted side (all_posted side m ps) qs
posted_append side m [] qs = refl
posted_append side m (p ∷ ps) qs = posted_append side (posted side m p) ps qs

pub none_append : (side : Side) (m : Meaning) (ps qs : List Posting) → NoneRefused side m (ps ++ qs) → NoneRefused side m ps × NoneRefused side (all_posted side m ps) qs
none_append side m [] qs n = (tt, n)
none_append side m (p ∷ ps) qs n =
    let rest = none_append side (posted side m p) ps qs n.1 in
    ((n.0, rest.0), rest.1)

-- ---- the other side

-- Postings that leave a register of this side as it is.
abbrev pub Leaves : Side → List Posting → Type 0
Leaves side ps = (m : Meaning) → all_posted side m ps ≡ m

units_at : (m : Meaning) (taker asset amount : ℕ) (zero? : Bool) → all_posted Cash m (cond zero? [] (moves Securities house taker asset amount ∷ [])) ≡ m
units_at m taker asset amount true = refl
units_at m taker asset amount false = refl

cash_at : (m : Meaning) (taker asset amount : ℕ) (zero? : Bool) → all_posted Securities m (cond zero? [] (moves Cash house taker asset amount ∷ [])) ≡ m
cash_at m taker asset amount true = refl
cash_at m taker asset amount false = refl

pub units_leave_cash : (taker asset amount : ℕ) → Leaves Cash (pays Securities taker asset amount)
units_leave_cash taker asset amount m = units_at m taker asset amount (eqb amount 0)

pub cash_leaves_units : (taker asset amount : ℕ) → Leaves Securities (pays Cash taker asset amount)
cash_leaves_units taker asset amount m = cash_at m taker asset amount (eqb amount 0)

pub each_leaves : {X : Type 0} (side : Side) (f : X → List Posting) (xs : List X) → ((x : X) → Leaves side (f x)) → Leaves side (for_each f xs)
each_leaves side f [] e m = refl
each_leaves side f (x ∷ xs) e m =
    posted_append side m (f x) (for_each f xs) ∙ (ap (λ z. all_posted side z (for_each f xs)) (e x m) ∙ each_leaves side f xs e m)

-- Of two lists, only the one or the other matters to a side.
pub only_first : (side : Side) (m : Meaning) (ps qs : List Posting) → Leaves side qs → NoneRefused side m (ps ++ qs) → NoneRefused side m ps × (all_posted side m (ps ++ qs) ≡ all_posted side m ps)
only_first side m ps qs e n = ((none_append side m ps qs n).0, posted_append side m ps qs ∙ e (all_posted side m ps))

pub only_second : (side : Side) (m : Meaning) (ps qs : List Posting) → Leaves side ps → NoneRefused side m (ps ++ qs) → NoneRefused side m qs × (all_posted side m (ps ++ qs) ≡ all_posted side m qs)
only_second side m ps qs e n = (
  subst (λ (z : Meaning). NoneRefused side z qs) (e m) (none_append side m ps qs n).1,
  posted_append side m ps qs ∙ ap (λ z. all_posted side z qs) (e m),
)
