-- An expiry that was just opened, and what questions to one tell.
use Rattle.std.specs.Prelude.{◌≡◌, ℕ, Bool, true, ◌&&◌, List, [], ◌∷◌, ℤ, ◌==◌, unsigned_abs}
use Rattle.book.specs.Books.{Contents}
use Rattle.book.specs.Data.{contents}
use Rattle.register.specs.Rules.{Meaning}
use Rattle.pairing.specs.declared.line.Line.{Line}
use Rattle.pairs.specs.declared.lots.SellerLots.{SellerLots}
use Rattle.rules.specs.declared.session.Session.TheVariants.{MembersNotices}
use Rattle.rules.specs.Tally.{Opening}
use Rattle.rules.specs.Histories.{Entry, Stands}
use Rattle.state.specs.declared.state.State.{State}
use Rattle.state.specs.Seeing.{seen}

-- ---- an expiry with nothing in it yet

-- All are 0: counts, and amounts with a sign.
abbrev pub zeros : List ℕ → Bool
zeros [] = true
zeros (n ∷ ns) = n == 0 && zeros ns

abbrev pub even : List ℤ → Bool
even [] = true
even (n ∷ ns) = unsigned_abs n == 0 && even ns

-- No record has a contract in it.
abbrev pub blank : List SellerLots → Bool
blank [] = true
blank (x ∷ xs) = zeros x.lots && (x.notified == 0 && blank xs)

-- An expiry of the book in session 1, with nothing notified, paired, drawn or closed.
pub record New (b : Contents) (e : State) : Type 0 where
  pub book : contents e.book ≡ b
  pub session : e.session ≡ MembersNotices
  pub lots : blank e.lots ≡ true
  pub count : e.count ≡ 0
  pub draws : zeros e.draws ≡ true
  pub nets : even e.nets ≡ true
  pub claims : even e.claims ≡ true

-- ---- questions

-- What is so of the expiry, wherever it stands, with any lines and registers.
abbrev pub Tells : State → (Opening → List Entry → Type 0) → Type 0
Tells e told = (o : Opening) (h : List Entry) (lines : List Line) (securities cash : Meaning) → Stands o h (seen e lines securities cash) → told o h
