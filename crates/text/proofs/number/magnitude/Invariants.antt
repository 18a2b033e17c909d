use Rattle.std.proofs.Common.{◌≡◌, ◌≤◌, drop}
use Rattle.text.proofs.Scans.{scan}
use Rattle.text.proofs.number.magnitude.Given as goal

abbrev pub invariant-loop-b : goal.invariant-loop-b
invariant-loop-b l = (scan l.n (drop l.b-index l.digits) ≡ scan 0 l.digits) × (l.n ≤ 1000000000000000001)
