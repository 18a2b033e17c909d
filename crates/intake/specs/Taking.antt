-- What a take asks for.
use Rattle.std.specs.Prelude.{ℕ, min, max}
use Rattle.rules.specs.declared.session.Session.{Session}
use Rattle.rules.specs.declared.session.Session.TheVariants.{MembersNotices, ClearingNotices, Pairing, WholeDelivery, PartialDelivery, Closed}

-- Of so many contracts due, where the seller's units cover so many: in partial delivery those covered, but at least one;
-- else all.
abbrev pub asked_for : Session → ℕ → ℕ → ℕ
asked_for MembersNotices due covered = due
asked_for ClearingNotices due covered = due
asked_for Pairing due covered = due
asked_for WholeDelivery due covered = due
asked_for PartialDelivery due covered = min due (max covered 1)
asked_for Closed due covered = due
