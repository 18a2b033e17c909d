-- Registers of zeros to open a book with, and short words for the answers to calls.
use Rattle.std.specs.Prelude.{ℕ, ◌*◌, cond, ◌&&◌, List, map, length, replicate, Ok, Err, Result, ◌==◌}
use Rattle.register.specs.Rules.{Meaning}
use Rattle.book.specs.Books.{Contents}
use Rattle.rules.specs.declared.call.Call.{Call}
use Rattle.rules.specs.declared.answer.Answer.{Answer}
use Rattle.rules.specs.declared.answer.Answer.TheVariants.{Done, Lines, Contracts}
use Rattle.rules.specs.declared.fault.Fault.{Fault}
use Rattle.rules.specs.Numbers.{number}
use Rattle.rules.specs.Tally.{Opening, Tally, empty, no_line}
use Rattle.rules.specs.Verdict.{lines_a_holder}
use Rattle.rules.specs.Histories.{day}

-- ---- registers

-- So many accounts and assets, and nothing in them.
abbrev pub zeros : ℕ → ℕ → Meaning
zeros accounts assets = record { accounts = accounts; assets = assets; balance = λ _ _. 0; issue = λ _. 0 }

-- The same, but account 0 holds one unit of the asset a.
abbrev pub house_holds : ℕ → ℕ → ℕ → Meaning
house_holds accounts assets a = record
    { accounts = accounts; assets = assets; balance = λ k s. cond (k == 0 && s == a) 1 0; issue = λ s. cond (s == a) 1 0 }

abbrev pub opens_with : Contents → ℕ → Meaning → Meaning → Opening
opens_with b places securities cash = record { book = b; table = replicate places no_line; securities = securities; cash = cash }

-- With registers that are large enough for every book.
abbrev pub opening : Contents → Opening
opening b = opens_with b (lines_a_holder * length b.holders) (zeros 257 4) (zeros 65 1)

-- ---- answers

-- As numbers: 0 and what is answered, or the number of the refusal and 0.
abbrev pub answered : Answer → ℕ
answered Done = 0
answered (Lines n) = n
answered (Contracts n) = n

abbrev pub code : Result Answer Fault → ℕ × ℕ
code (Ok a) = (0, answered a)
code (Err e) = (number e.cause, 0)

-- The answers to calls, made one after the other, and the tally after them.
abbrev pub codes : Contents → List Call → List (ℕ × ℕ)
codes b cs = map code (day (opening b) empty cs).0

abbrev pub final : Contents → List Call → Tally
final b cs = (day (opening b) empty cs).1
