-- When all is in: every contract taken, and every debit drawn.
use Rattle.std.specs.Prelude.{ℕ, Bool, not, ltb, List, nat_lt, slice_index}
use Rattle.book.specs.declared.records.Holder.{Holder}
use Rattle.book.specs.Books.{Contents}
use Rattle.order.specs.First.{any}
use Rattle.pairing.specs.declared.line.Line.{Line}
use Rattle.pairing.specs.Lines.{open_on, debit}

abbrev pub taken_in_full : List Line → Bool
taken_in_full ls = not (any (λ l. ltb 0 (open_on l)) ls)

-- Less is held of a holder's agent than its debit, where draws stand by number of agent.
abbrev pub short : Contents → List Line → List ℕ → Holder → Bool
short b ls draws h = nat_lt (slice_index draws h.agent) (debit b ls h.agent)

abbrev pub drawn_in_full : Contents → List Line → List ℕ → Bool
drawn_in_full b ls draws = not (any (short b ls draws) b.holders)
