-- Registers that mean the same refuse the same, and mean the same after the same postings.
use Rattle.std.proofs.Common.{◌≡◌, ℕ, Bool, true, false, cond, List, [], ◌∷◌, Some, None, Option, refl, ap, ◌∙◌, arith}
use Rattle.register.specs.declared.fault.RegisterFault.{RegisterFault}
use Rattle.register.specs.Rules.{Meaning, credit_refused, transfer_refused, with_credit, with_move, unless_refused, after_credit, after_transfer}
use Rattle.rules.specs.declared.side.Side.{Side}
use Rattle.rules.specs.Tally.{same_side}
use Rattle.rules.specs.Histories.{Same}
use Rattle.rules.specs.Postings.{Posting, credits, moves, refusal, posted, all_posted, NoneRefused, Followed}

pub same_then : (m k j : Meaning) → Same m k → Same k j → Same m j
same_then m k j e f = record {
  accounts = e.accounts ∙ f.accounts;
  assets = e.assets ∙ f.assets;
  balance = λ account asset. e.balance account asset ∙ f.balance account asset;
  issue = λ asset. e.issue asset ∙ f.issue asset;
}

same_credit : (m k : Meaning) → Same m k → (account asset amount : ℕ) → credit_refused m account asset amount ≡ credit_refused k account asset amount
same_credit m k e account asset amount = rw (e.accounts, e.assets, e.issue asset) refl

same_transfer : (m k : Meaning) → Same m k → (giver taker asset amount : ℕ) → transfer_refused m giver taker asset amount ≡ transfer_refused k giver taker asset amount
same_transfer m k e giver taker asset amount = rw (e.accounts, e.assets, e.balance giver asset) refl

-- A new meaning where it is accepted, the old one where it is refused.
either : (r q : Option RegisterFault) (m k m' k' : Meaning) → r ≡ q → Same m k → Same m' k' → Same (unless_refused r m' m) (unless_refused q k' k)
either None None m k m' k' e f g = g
either None (Some x) m k m' k' e f g = absurd (let z : ◌≡◌ {A = ℕ} 0 1 = cc in omega arith)
either (Some x) None m k m' k' e f g = absurd (let z : ◌≡◌ {A = ℕ} 0 1 = cc in omega arith)
either (Some x) (Some y) m k m' k' e f g = f

credited_same : (m k : Meaning) → Same m k → (account asset amount : ℕ) → Same (with_credit m account asset amount) (with_credit k account asset amount)
credited_same m k e account asset amount = record {
  accounts = e.accounts;
  assets = e.assets;
  balance = λ a s. rw (e.balance a s) refl;
  issue = λ s. rw (e.issue s) refl;
}

moved_same : (m k : Meaning) → Same m k → (giver taker asset amount : ℕ) → Same (with_move m giver taker asset amount) (with_move k giver taker asset amount)
moved_same m k e giver taker asset amount = record {
  accounts = e.accounts;
  assets = e.assets;
  balance = λ a s. rw (e.balance a s) refl;
  issue = e.issue;
}

one_side : (c : Bool) (m k m' k' : Meaning) → Same m k → Same m' k' → Same (cond c m' m) (cond c k' k)
one_side true m k m' k' e f = f
one_side false m k m' k' e f = e

pub same_refusal : (side : Side) (m k : Meaning) (p : Posting) → Same m k → refusal side m p ≡ refusal side k p
same_refusal side m k (credits on account asset amount) e = ap (λ (r : Option RegisterFault). cond (same_side on side) r None) (same_credit m k e account asset amount)
same_refusal side m k (moves on giver taker asset amount) e = ap (λ (r : Option RegisterFault). cond (same_side on side) r None) (same_transfer m k e giver taker asset amount)

same_posted : (side : Side) (m k : Meaning) (p : Posting) → Same m k → Same (posted side m p) (posted side k p)
same_posted side m k (credits on account asset amount) e =
    one_side (same_side on side) m k (after_credit m account asset amount) (after_credit k account asset amount) e
    (either (credit_refused m account asset amount) (credit_refused k account asset amount) m k (with_credit m account asset amount) (with_credit k account asset amount) (same_credit m k e account asset amount) e (credited_same m k e account asset amount))
same_posted side m k (moves on giver taker asset amount) e =
    one_side (same_side on side) m k (after_transfer m giver taker asset amount) (after_transfer k giver taker asset amount) e
    (either (transfer_refused m giver taker asset amount) (transfer_refused k giver taker asset amount) m k (with_move m giver taker asset amount) (with_move k giver taker asset amount) (same_transfer m k e giver taker asset amount) e (moved_same m k e giver taker asset amount))

pub same_all_posted : (side : Side) (m k : Meaning) (ps : List Posting) → Same m k → Same (all_posted side m ps) (all_posted side k ps)
same_all_posted side m k [] e = e
same_all_posted side m k (p ∷ ps) e = same_all_posted side (posted side m p) (posted side k p) ps (same_posted side m k p e)

same_none_refused : (side : Side) (m k : Meaning) (ps : List Posting) → Same m k → NoneRefused side k ps → NoneRefused side m ps
same_none_refused side m k [] e n = tt
same_none_refused side m k (p ∷ ps) e n = (same_refusal side m k p e ∙ n.0, same_none_refused side (posted side m p) (posted side k p) ps (same_posted side m k p e) n.1)

-- What follows from one register follows from another that means the same.
pub same_followed : (side : Side) (m k : Meaning) (ps : List Posting) (j : Meaning) → Same m k → Followed side k ps j → Followed side m ps j
same_followed side m k ps j e f = record {
  none_refused = same_none_refused side m k ps e f.none_refused;
  as_then = same_then (all_posted side m ps) (all_posted side k ps) j (same_all_posted side m k ps e) f.as_then;
}
