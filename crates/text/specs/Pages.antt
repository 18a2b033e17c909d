-- What a page holds, and what a buffer holds after a text was put into it.
use Rattle.std.specs.Prelude.{ℕ, cond, List, ◌++◌, length, drop, Ok, Err, Result, nat_lt}
use Rattle.text.specs.declared.page.Page.{Page}
use Rattle.text.specs.declared.page.TooSmall.{TooSmall}

-- the most bytes that a file may have
abbrev pub most_bytes : ℕ
most_bytes = 16384

-- the text that was written so far
abbrev pub written : Page → List ℕ
written p = p.bytes.items

-- the answer to a text of so many bytes for a buffer of so many: its length, or that the buffer is too small
abbrev pub fitted : ℕ → ℕ → Result ℕ TooSmall
fitted text room = cond (nat_lt room text) (Err (record {})) (Ok text)

-- a buffer after a text was put at its start: later bytes stay, and all of them where it is too small
abbrev pub placed : List ℕ → List ℕ → List ℕ
placed text out = cond (nat_lt (length out) (length text)) out (text ++ drop (length text) out)
