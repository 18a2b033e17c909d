-- An accepted credit or move, written to a table: what fits before, and what is so after. Assumes nothing.
use Rattle.std.proofs.Common.{◌≡◌, ℕ, ◌+◌, ◌-◌, ◌*◌, ◌<◌, ◌≤◌, List, length, get_or, set, None, refl, sym, subst, ap, ◌∙◌, arith}
use Rattle.register.specs.Rules.{most, Meaning, credit_refused, transfer_refused, with_credit, with_move}
use Rattle.register.proofs.Meanings.{same_meaning, CreditTold, MoveTold, credit_told, move_told}
use Rattle.table_register.specs.Table.{Covered, Bounded, table_meaning}
use Rattle.table_register.proofs.Tables.{size_set, held_in, held_le, issued_in, credit_cell, credit_issue, credit_covered, lower_covered, taken_stays, taken_le, move_cell, move_covered}

-- a table that came to a meaning: its memory has a place for each balance, and its issues cover the balances
pub record CameTo (m : Meaning) (cells : List ℕ) (accounts assets : ℕ) (issues : List ℕ) : Type 0 where
  pub meaning : table_meaning cells accounts assets issues ≡ m
  pub size : accounts * assets ≤ length cells
  pub covered : Covered cells accounts assets issues

module _ (cells : List ℕ) (accounts assets : ℕ) (issues : List ℕ) (size : accounts * assets ≤ length cells) (covered : Covered cells accounts assets issues) where
  -- a credit to the balance at the place p
  module _ (account asset amount p : ℕ) (accepted : credit_refused (table_meaning cells accounts assets issues) account asset amount ≡ None) (at : p ≡ account * assets + asset) where
    credited : CreditTold (table_meaning cells accounts assets issues) account asset amount
    credited = credit_told _ account asset amount accepted

    pub issue_fits : get_or issues asset 0 + amount ≤ most
    issue_fits = let told = credited in let had = issued_in issues assets asset told.asset_known in omega (arith, told.fits, had)

    pub credit_fits : get_or cells p 0 + amount ≤ most
    credit_fits =
        let told = credited in
        let le = held_le cells accounts assets account asset p size told.account_known told.asset_known at issues covered in
        omega (arith, le, issue_fits)

    pub credit_done : asset < length issues → CameTo (with_credit (table_meaning cells accounts assets issues) account asset amount) (set cells p (get_or cells p 0 + amount)) accounts assets (set issues asset (get_or issues asset 0 + amount))
    credit_done hl =
        let told = credited in
        record {
          meaning = same_meaning _ _ refl refl
              (credit_cell cells accounts assets account asset p size told.account_known told.asset_known at amount)
              (credit_issue cells accounts assets account asset p size told.account_known told.asset_known at issues amount hl);
          size = size_set _ _ _ _ size;
          covered = credit_covered cells accounts assets account asset p size told.account_known told.asset_known at issues amount hl covered;
        }

  -- a move from the balance at the place p to that at q
  module _ (giver taker asset amount p q : ℕ) (accepted : transfer_refused (table_meaning cells accounts assets issues) giver taker asset amount ≡ None) (at : p ≡ giver * assets + asset) (to : q ≡ taker * assets + asset) where
    moved : MoveTold (table_meaning cells accounts assets issues) giver taker asset amount
    moved = move_told _ giver taker asset amount accepted

    -- the memory with the giver's half done
    abbrev pub given : List ℕ
    given = set cells p (get_or cells p 0 - amount)

    pub enough_held : amount ≤ get_or cells p 0
    enough_held = let told = moved in let held = held_in cells accounts assets giver asset p size told.giver_known told.asset_known at in omega (arith, told.enough, held)

    pub given_covered : Covered (set cells p (get_or cells p 0 - amount)) accounts assets issues
    given_covered = let told = moved in lower_covered cells accounts assets giver asset p size told.giver_known told.asset_known at issues amount covered

    pub taker_stays : get_or (set cells p (get_or cells p 0 - amount)) q 0 ≡ get_or cells q 0
    taker_stays =
        let told = moved in
        taken_stays cells accounts assets giver taker asset p q amount size told.giver_known told.taker_known told.asset_known at to told.apart (get_or cells p 0 - amount)

    pub taken_fits : Bounded assets issues → get_or (set cells p (get_or cells p 0 - amount)) q 0 + amount ≤ most
    taken_fits bounded =
        let told = moved in
        let le = taken_le cells accounts assets giver taker asset p q amount size told.giver_known told.taker_known told.asset_known at to told.apart issues enough_held covered in
        let had = issued_in issues assets asset told.asset_known in
        omega (arith, le, taker_stays, bounded asset, had)

    pub move_done : CameTo (with_move (table_meaning cells accounts assets issues) giver taker asset amount) (set given q (get_or given q 0 + amount)) accounts assets issues
    move_done =
        let told = moved in
        record {
          meaning = ap (λ v. table_meaning (set given q (v + amount)) accounts assets issues) taker_stays ∙ same_meaning _ _ refl refl (move_cell cells accounts assets giver taker asset p q amount size told.giver_known told.taker_known told.asset_known at to told.apart) (λ s. refl);
          size = size_set _ _ _ _ (size_set _ _ _ _ size);
          covered = subst (λ v. Covered (set given q (v + amount)) accounts assets issues) (sym taker_stays) (move_covered cells accounts assets giver taker asset p q amount size told.giver_known told.taker_known told.asset_known at to told.apart issues enough_held covered);
        }
