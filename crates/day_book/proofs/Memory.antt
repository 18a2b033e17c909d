-- Memory whose later places stay. Assumes nothing.
use Rattle.std.proofs.Common.{◌≡◌, ℕ, ◌*◌, List, sym, ap, ◌∙◌, subst}
use Rattle.register.specs.Rules.{Meaning}
use Rattle.register.specs.declared.instruction.Instruction.{Instruction}
use Rattle.register.specs.Instructions.{after_all}
use Rattle.register.proofs.Lawfuls.{all_accounts, all_assets}
use Rattle.table_register.specs.Table.{cell, table_meaning}
use Rattle.day_book.specs.DayTable.{LaterPlacesStay, Posted}

pub later_both : (first : ℕ) (xs ys zs : List ℕ) → LaterPlacesStay first xs ys → LaterPlacesStay first ys zs → LaterPlacesStay first xs zs
later_both first xs ys zs f g = record { same_size = g.same_size ∙ f.same_size; stay = λ p le. g.stay p le ∙ f.stay p le }

-- the places that a register of this meaning has in memory
abbrev pub size_of : Meaning → ℕ
size_of m = m.accounts * m.assets

pub all_size : (m : Meaning) (es : List Instruction) → size_of (after_all m es) ≡ size_of m
all_size m es = ap (λ n. n * (after_all m es).assets) (all_accounts m es) ∙ ap (λ n. m.accounts * n) (all_assets m es)

-- memory that came to the balances of a register, and whose later places stay
pub posted_all : (cells cells' : List ℕ) (accounts assets : ℕ) (issues' : List ℕ) (m : Meaning) (es : List Instruction) → table_meaning cells' accounts assets issues' ≡ after_all m es → LaterPlacesStay (m.accounts * m.assets) cells cells' → Posted (after_all m es) cells cells'
posted_all cells cells' accounts assets issues' m es same stay = record {
  tells = λ a s. ap (λ (k : Meaning). cell cells' k.accounts k.assets a s) (sym same) ∙ ap (λ (k : Meaning). k.balance a s) same;
  later = subst (λ (n : ℕ). LaterPlacesStay n cells cells') (sym (all_size m es)) stay;
}
