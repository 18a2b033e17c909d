-- What may be counted on wherever an expiry stands, of its own registers and its own table.
use Rattle.std.specs.Prelude.{◌≡◌, true, cond, List, [], ◌∷◌, length, is_ok, Some, None, Err}
use Rattle.register.specs.declared.fault.RegisterFault.TheVariants.{Short}
use Rattle.rules.specs.declared.side.Side.{Side}
use Rattle.rules.specs.declared.call.Call.{Call}
use Rattle.rules.specs.declared.fault.Fault.{Fault}
use Rattle.rules.specs.Tally.{Opening, Tally, told, accepted}
use Rattle.rules.specs.Verdict.{due, covers, verdict, too_small}
use Rattle.rules.specs.Histories.{Entry, tally_of, Seen, register, Stands}
use Rattle.rules.specs.Law.{paying_side}
use Rattle.rules.specs.Postings.{Posting, refusal, postings, Followed}

-- It has room for its book, so no call is refused as too small.
abbrev pub RoomStays : Type 0
RoomStays = (o : Opening) (h : List Entry) (n : Seen) (c : Call) → Stands o h n
    → too_small n.book (length n.table) n.securities n.cash c ≡ None

-- Left as it is, it stands after a call that the rules refuse.
abbrev pub RefusedStands : Type 0
RefusedStands = (o : Opening) (h : List Entry) (n : Seen) (c : Call) (e : Fault) → Stands o h n → verdict o (tally_of o h) c ≡ Err e
    → Stands o ((c, Err e) ∷ h) n

-- The postings of an accepted call, made of its registers, are all accepted, and leave them as the tally tells them after the call.
abbrev pub RegistersFollow : Type 0
RegistersFollow = (o : Opening) (h : List Entry) (n : Seen) (c : Call) → Stands o h n → is_ok (verdict o (tally_of o h) c) ≡ true
    → (side : Side) → Followed side (register n side) (postings o (tally_of o h) c) (told o (accepted o (tally_of o h) c) side)

-- The first posting of a due take, draw or line settlement is accepted by its register where it is covered, and else short.
abbrev pub FirstOf : Opening → Tally → Seen → Call → Side → List Posting → Type 0
FirstOf o t n c side [] = ⊥
FirstOf o t n c side (p ∷ ps) = refusal side (register n side) p ≡ cond (covers o t c) None (Some Short)

abbrev pub CoveredOrShort : Type 0
CoveredOrShort = (o : Opening) (h : List Entry) (n : Seen) (c : Call) (side : Side) → Stands o h n → due o (tally_of o h) c ≡ true → paying_side c ≡ Some side
    → FirstOf o (tally_of o h) n c side (postings o (tally_of o h) c)
