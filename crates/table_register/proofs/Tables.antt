-- A write of one cell of a table. Assumes nothing.
use Rattle.std.proofs.Common.{◌≡◌, ℕ, ◌+◌, ◌-◌, ◌*◌, ◌/◌, ◌%◌, ◌<◌, ◌≤◌, cond, ◌&&◌, eqb, ltb, List, length, get_or, set, sym, ap, ◌∙◌, ⊎_elim, mul_comm, arith, length-set}
use Rattle.std.proofs.lemmas.Nat.{mul-add-lt, div-mul-add, mod-mul-add}
use Rattle.std.proofs.lemmas.List.{get_or-set_same, get_or-set_other}
use Rattle.std.proofs.lemmas.Bool.{cases_eq, cases_lt, lt-ltb, and_from, cond-true}
use Rattle.std.proofs.lemmas.Bool.Decides.{nat_tests}
use Rattle.register.specs.Rules.{most, credited, raised, moved}
use Rattle.table_register.specs.Table.{cell, issued, Covered, Bounded}
use Rattle.register.proofs.Sums.{sum_ext, at_most_sum, sum_credited, sum_moved, sum_le}

pub same_row : (a b w s t : ℕ) → s < w → t < w → a * w + s ≡ b * w + t → a ≡ b
same_row a b w s t hs ht e = sym (div-mul-add a w s hs) ∙ ap (λ n. n / w) e ∙ div-mul-add b w t ht

pub same_column : (a b w s t : ℕ) → s < w → t < w → a * w + s ≡ b * w + t → s ≡ t
same_column a b w s t hs ht e = sym (mod-mul-add a w s hs) ∙ ap (λ n. n % w) e ∙ mod-mul-add b w t ht

pub size_set : (n : ℕ) (cells : List ℕ) (p v : ℕ) → n ≤ length cells → n ≤ length (set cells p v)
size_set n cells p v le = omega (arith, length-set cells p v, le)

pub cell_set : (cells : List ℕ) (accounts assets account asset v : ℕ) → accounts * assets ≤ length cells → account < accounts → asset < assets → (a s : ℕ) → cell (set cells (account * assets + asset) v) accounts assets a s ≡ cond (eqb a account && eqb s asset) v (cell cells accounts assets a s)
cell_set cells accounts assets account asset v size ha hs a s =
    ⊎_elim
    (λ (la : a < accounts). ⊎_elim
    (λ (ls : s < assets). ⊎_elim
    (λ (p : a * assets + s ≡ account * assets + asset).
    let row = same_row a account assets s asset ls hs p in
    let column = same_column a account assets s asset ls hs p in
    let within : account * assets + asset < length cells = omega (arith, mul-add-lt account assets asset accounts ha hs, mul_comm assets accounts) in
    let read : get_or (set cells (account * assets + asset) v) (a * assets + s) 0 ≡ v = ap (λ k. get_or (set cells (account * assets + asset) v) k 0) p ∙ get_or-set_same cells (account * assets + asset) v 0 within in
    grind (arith, nat_tests, read, row, column))
    (λ ne.
    let read = get_or-set_other cells (account * assets + asset) (a * assets + s) v 0 ne in
    let apart : a ≡ account → s ≡ asset → ⊥ = λ p q. ne (ap (λ k. k * assets + s) p ∙ ap (λ k. account * assets + k) q) in
    grind (arith, nat_tests, read, apart))
    (cases_eq (a * assets + s) (account * assets + asset)))
    (λ (ls : assets ≤ s). grind (arith, nat_tests))
    (cases_lt s assets))
    (λ (la : accounts ≤ a). grind (arith, nat_tests))
    (cases_lt a accounts)

pub cell_in : (cells : List ℕ) (accounts assets a s : ℕ) → a < accounts → s < assets → cell cells accounts assets a s ≡ get_or cells (a * assets + s) 0
cell_in cells accounts assets a s ha hs = cond-true (ltb a accounts && ltb s assets) (get_or cells (a * assets + s) 0) 0 (and_from _ _ (lt-ltb a accounts ha) (lt-ltb s assets hs))

pub issued_in : (issues : List ℕ) (assets s : ℕ) → s < assets → issued issues assets s ≡ get_or issues s 0
issued_in issues assets s hs = cond-true (ltb s assets) (get_or issues s 0) 0 (lt-ltb s assets hs)

pub issued_set : (issues : List ℕ) (assets asset v : ℕ) → asset < assets → asset < length issues → (s : ℕ) → issued (set issues asset v) assets s ≡ cond (eqb s asset) v (issued issues assets s)
issued_set issues assets asset v ha hl s =
    ⊎_elim
    (λ (p : s ≡ asset).
    let read : get_or (set issues asset v) s 0 ≡ v = ap (λ k. get_or (set issues asset v) k 0) p ∙ get_or-set_same issues asset v 0 hl in
    grind (arith, nat_tests, read))
    (λ ne.
    let read = get_or-set_other issues asset s v 0 ne in
    grind (arith, nat_tests, read))
    (cases_eq s asset)

-- one write of a table: the cell of account and asset, at the place p
module _ (cells : List ℕ) (accounts assets account asset p : ℕ) (size : accounts * assets ≤ length cells) (ha : account < accounts) (hs : asset < assets) (at : p ≡ account * assets + asset) where
  pub held_in : cell cells accounts assets account asset ≡ get_or cells p 0
  held_in = cell_in cells accounts assets account asset ha hs ∙ ap (λ k. get_or cells k 0) (sym at)

  pub put_cell : (v a s : ℕ) → cell (set cells p v) accounts assets a s ≡ cond (eqb a account && eqb s asset) v (cell cells accounts assets a s)
  put_cell v a s = ap (λ k. cell (set cells k v) accounts assets a s) at ∙ cell_set cells accounts assets account asset v size ha hs a s

  pub held_le : (issues : List ℕ) → Covered cells accounts assets issues → get_or cells p 0 ≤ get_or issues asset 0
  held_le issues covered =
      let most_one = at_most_sum (λ a. cell cells accounts assets a asset) accounts account ha in
      omega (arith, most_one, covered asset, held_in, issued_in issues assets asset hs)

  pub credit_cell : (amount a s : ℕ) → cell (set cells p (get_or cells p 0 + amount)) accounts assets a s ≡ credited (cell cells accounts assets) account asset amount a s
  credit_cell amount a s =
      ⊎_elim
      (λ (e : a ≡ account). ⊎_elim
      (λ (f : s ≡ asset).
      let here : cell cells accounts assets a s ≡ get_or cells p 0 = ap (λ k. cell cells accounts assets k s) e ∙ ap (cell cells accounts assets account) f ∙ held_in in
      let put = put_cell (get_or cells p 0 + amount) a s in
      grind (arith, nat_tests, put, here))
      (λ ne. let put = put_cell (get_or cells p 0 + amount) a s in grind (arith, nat_tests, put))
      (cases_eq s asset))
      (λ ne. let put = put_cell (get_or cells p 0 + amount) a s in grind (arith, nat_tests, put))
      (cases_eq a account)

  pub credit_issue : (issues : List ℕ) (amount : ℕ) → asset < length issues → (s : ℕ) → issued (set issues asset (get_or issues asset 0 + amount)) assets s ≡ raised (issued issues assets) asset amount s
  credit_issue issues amount hl s =
      let put = issued_set issues assets asset (get_or issues asset 0 + amount) hs hl s in
      let had = issued_in issues assets asset hs in
      ⊎_elim
      (λ (e : s ≡ asset). let same : issued issues assets s ≡ issued issues assets asset = ap (issued issues assets) e in grind (arith, nat_tests, put, had, same))
      (λ ne. grind (arith, nat_tests, put))
      (cases_eq s asset)

  pub credit_covered : (issues : List ℕ) (amount : ℕ) → asset < length issues → Covered cells accounts assets issues → Covered (set cells p (get_or cells p 0 + amount)) accounts assets (set issues asset (get_or issues asset 0 + amount))
  credit_covered issues amount hl covered s =
      let sums = sum_ext (λ a. cell (set cells p (get_or cells p 0 + amount)) accounts assets a s) (λ a. credited (cell cells accounts assets) account asset amount a s) accounts (λ a l. credit_cell amount a s) in
      let added = sum_credited (cell cells accounts assets) accounts account asset amount s ha in
      let rose = credit_issue issues amount hl s in
      let before = covered s in
      ⊎_elim
      (λ (e : s ≡ asset). grind (arith, nat_tests, sums, added, rose, before))
      (λ ne. grind (arith, nat_tests, sums, added, rose, before))
      (cases_eq s asset)

  -- an issue that was raised covers what it covered
  pub raised_covered : (issues : List ℕ) (amount : ℕ) → asset < length issues → Covered cells accounts assets issues → Covered cells accounts assets (set issues asset (get_or issues asset 0 + amount))
  raised_covered issues amount hl covered s =
      let rose = credit_issue issues amount hl s in
      let before = covered s in
      grind (arith, nat_tests, rose, before)

  pub credit_bounded : (issues : List ℕ) (amount : ℕ) → asset < length issues → get_or issues asset 0 + amount ≤ most → Bounded assets issues → Bounded assets (set issues asset (get_or issues asset 0 + amount))
  credit_bounded issues amount hl fits bounded s =
      let rose = issued_set issues assets asset (get_or issues asset 0 + amount) hs hl s in
      let before = bounded s in
      ⊎_elim
      (λ (e : s ≡ asset). grind (arith, nat_tests, rose, before))
      (λ ne. grind (arith, nat_tests, rose, before))
      (cases_eq s asset)

  pub lower_cell : (amount a s : ℕ) → cell (set cells p (get_or cells p 0 - amount)) accounts assets a s ≤ cell cells accounts assets a s
  lower_cell amount a s =
      let put = put_cell (get_or cells p 0 - amount) a s in
      ⊎_elim
      (λ (e : a ≡ account). ⊎_elim
      (λ (f : s ≡ asset).
      let here : cell cells accounts assets a s ≡ get_or cells p 0 = ap (λ k. cell cells accounts assets k s) e ∙ ap (cell cells accounts assets account) f ∙ held_in in
      grind (arith, nat_tests, put, here))
      (λ ne. grind (arith, nat_tests, put))
      (cases_eq s asset))
      (λ ne. grind (arith, nat_tests, put))
      (cases_eq a account)

  pub lower_covered : (issues : List ℕ) (amount : ℕ) → Covered cells accounts assets issues → Covered (set cells p (get_or cells p 0 - amount)) accounts assets issues
  lower_covered issues amount covered s =
      let fell = sum_le (λ a. cell (set cells p (get_or cells p 0 - amount)) accounts assets a s) (λ a. cell cells accounts assets a s) accounts (λ a l. lower_cell amount a s) in
      omega (arith, fell, covered s)

-- two writes of a table, the giver's cell at p and then the taker's at q
module _ (cells : List ℕ) (accounts assets giver taker asset p q amount : ℕ) (size : accounts * assets ≤ length cells) (hg : giver < accounts) (ht : taker < accounts) (hs : asset < assets) (at : p ≡ giver * assets + asset) (to : q ≡ taker * assets + asset) (apart : giver ≡ taker → ⊥) where
  -- the taker's balance is as it was once the giver's is lowered
  pub taken_stays : (v : ℕ) → get_or (set cells p v) q 0 ≡ get_or cells q 0
  taken_stays v = get_or-set_other cells p q v 0 (λ e. apart (same_row giver taker assets asset asset hs hs (sym at ∙ sym e ∙ to)))

  pub move_cell : (a s : ℕ) → cell (set (set cells p (get_or cells p 0 - amount)) q (get_or cells q 0 + amount)) accounts assets a s ≡ moved (cell cells accounts assets) giver taker asset amount a s
  move_cell a s =
      let outer = put_cell (set cells p (get_or cells p 0 - amount)) accounts assets taker asset q (size_set _ _ _ _ size) ht hs to (get_or cells q 0 + amount) a s in
      let inner = put_cell cells accounts assets giver asset p size hg hs at (get_or cells p 0 - amount) a s in
      let gave = held_in cells accounts assets giver asset p size hg hs at in
      let took = held_in cells accounts assets taker asset q size ht hs to in
      ⊎_elim
      (λ (f : s ≡ asset). ⊎_elim
      (λ (e : a ≡ giver).
      let here : cell cells accounts assets a s ≡ get_or cells p 0 = ap (λ k. cell cells accounts assets k s) e ∙ ap (cell cells accounts assets giver) f ∙ gave in
      grind (arith, nat_tests, outer, inner, here, apart))
      (λ ng. ⊎_elim
      (λ (e : a ≡ taker).
      let here : cell cells accounts assets a s ≡ get_or cells q 0 = ap (λ k. cell cells accounts assets k s) e ∙ ap (cell cells accounts assets taker) f ∙ took in
      grind (arith, nat_tests, outer, inner, here, apart))
      (λ nt. grind (arith, nat_tests, outer, inner))
      (cases_eq a taker))
      (cases_eq a giver))
      (λ ne. grind (arith, nat_tests, outer, inner))
      (cases_eq s asset)

  pub move_covered : (issues : List ℕ) → amount ≤ get_or cells p 0 → Covered cells accounts assets issues → Covered (set (set cells p (get_or cells p 0 - amount)) q (get_or cells q 0 + amount)) accounts assets issues
  move_covered issues enough covered s =
      let gave = held_in cells accounts assets giver asset p size hg hs at in
      let sums = sum_ext (λ a. cell (set (set cells p (get_or cells p 0 - amount)) q (get_or cells q 0 + amount)) accounts assets a s) (λ a. moved (cell cells accounts assets) giver taker asset amount a s) accounts (λ a l. move_cell a s) in
      let same = sum_moved (cell cells accounts assets) accounts giver taker asset amount s hg ht apart (omega (arith, gave)) in
      omega (arith, sums, same, covered s)

  -- the taker's new balance is at most the issue
  pub taken_le : (issues : List ℕ) → amount ≤ get_or cells p 0 → Covered cells accounts assets issues → get_or cells q 0 + amount ≤ get_or issues asset 0
  taken_le issues enough covered =
      let after = move_covered issues enough covered in
      let here = held_in (set (set cells p (get_or cells p 0 - amount)) q (get_or cells q 0 + amount)) accounts assets taker asset q (size_set _ _ _ _ (size_set _ _ _ _ size)) ht hs to in
      let le = held_le (set (set cells p (get_or cells p 0 - amount)) q (get_or cells q 0 + amount)) accounts assets taker asset q (size_set _ _ _ _ (size_set _ _ _ _ size)) ht hs to issues after in
      let took = held_in cells accounts assets taker asset q size ht hs to in
      let made = move_cell taker asset in
      grind (arith, nat_tests, le, here, made, took, apart)
