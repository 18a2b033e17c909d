-- The end of the clearing members' notices goes on by the rules.
use Rattle.std.proofs.Common.{◌≡◌, ℕ, zero, suc, ◌+◌, ◌-◌, ◌≤◌, Bool, true, false, cond, ◌&&◌, eqb, List, [], ◌∷◌, ◌++◌, length, get_or, None, Ok, Err, Result, sym, refl, ap, ◌∙◌, subst, inl, inr, arith}
use Rattle.std.proofs.lemmas.List.Sums.{sum_by-append}
use Rattle.std.proofs.lemmas.Bool.{cases_lt, cond-false, le-ltb, ne_eqb}
use Rattle.book.specs.declared.records.Holder.{Holder}
use Rattle.book.specs.Books.{Contents, nobody, holder, sells, volume}
use Rattle.book.specs.Data.{contents}
use Rattle.register.specs.Rules.{Meaning}
use Rattle.pairing.specs.declared.line.Line.{Line}
use Rattle.pairing.specs.Orders.{first_deliverable}
use Rattle.pairing.specs.Lines.{Lot, lot, notified, added, added_from, net}
use Rattle.pairing.proofs.FirstDeliverable.{first_deliverable_in}
use Rattle.pairing.proofs.LineSums.{over_same, by_assets}
use Rattle.pairing.proofs.LotLaws.{added_assets}
use Rattle.pairs.specs.declared.fault.PairingFault.{PairingFault}
use Rattle.pairs.specs.declared.fault.PairingFault.TheVariants.{FewRecords}
use Rattle.pairs.specs.declared.lots.SellerLots.{SellerLots}
use Rattle.pairs.specs.Records.{no_lots, lots_in, filled, handed_from, handed}
use Rattle.pairs.specs.Outcome.{too_few, hand_answer, hand_leaves, Adds}
use Rattle.rules.specs.declared.session.Session.TheVariants.{ClearingNotices, Pairing}
use Rattle.rules.specs.declared.answer.Answer.TheVariants.{Done}
use Rattle.rules.specs.Numbers.{session_number}
use Rattle.rules.specs.Tally.{Opening, Tally, told, held, claim, ended, with_lots}
use Rattle.rules.specs.Verdict.{in_its_session}
use Rattle.rules.specs.Histories.{Entry, tally_of, Lived, Same, register, over, Stands}
use Rattle.rules.proofs.Kept.{for_sale}
use Rattle.rules.proofs.KeptAlways.{kept}
use Rattle.state.specs.declared.state.State.{State}
use Rattle.state.specs.Seeing.{record_of, seen}
use Rattle.state.proofs.Standing.{due_judged}
use Rattle.state.specs.Calls.{end_call}
use Rattle.notices.specs.NextSession.{notices_ended}
use Rattle.notices.proofs.HeldLots.{none_beyond, held_assets, lot_of_row, same_lots}
use Rattle.notices.proofs.Noticed.{with_records}

-- ---- there is a record for each holder

module _ (o : Opening) (h : List Entry) (e : State) (ls : List Line) (s c : Meaning) (st : Stands o h (seen e ls s c)) (long : length e.lots ≡ 256) where
  within : length o.book.holders ≤ length e.lots
  within = let f = st.opens.book.holder_count.1 in omega (arith, f, long)

  enough : too_few (contents e.book) e.lots ≡ false
  enough = let w = within in let q = ap (λ (b : Contents). length b.holders) st.book in le-ltb _ _ (omega (arith, w, q))

  pub never_few : (r : Result (Unit {0}) PairingFault) (fault : PairingFault) → r ≡ hand_answer (contents e.book) e.lots → r ≡ Err fault → ⊥
  never_few r fault is failed =
      let f : hand_answer (contents e.book) e.lots ≡ Ok tt = ap (λ (t : Bool). cond {A = Result (Unit {0}) PairingFault} t (Err FewRecords) (Ok tt)) enough in
      let z : ◌≡◌ {A = ℕ} 0 1 = cc in omega arith

-- ---- the records of the holders

-- What a seller has notified is then its volume; the others' stays.
handed_notified : (n a : ℕ) (hs : List Holder) (xs : List SellerLots) (place : ℕ) → length hs ≤ length xs
    → (get_or (handed_from n a hs xs) place no_lots).notified ≡ cond (sells (get_or hs place nobody)) (volume (get_or hs place nobody)) (get_or xs place no_lots).notified
handed_notified n a [] xs place l = refl
handed_notified n a (h ∷ hs) [] place l = absurd (omega arith)
handed_notified n a (h ∷ hs) (x ∷ xs) zero l = one (sells h)
  where
    one : (t : Bool) → (cond t (filled n a (volume h) x) x).notified ≡ cond t (volume h) x.notified
    one true = refl
    one false = refl
handed_notified n a (h ∷ hs) (x ∷ xs) (suc k) l = handed_notified n a hs xs k (omega arith)

-- A lot of another asset stays as it is, if it is empty.
filled_beyond : (n a v i : ℕ) (x : SellerLots) → (i ≡ a → ⊥) → get_or x.lots i 0 ≡ 0 → get_or (filled n a v x).lots i 0 ≡ 0
filled_beyond n a v zero x ne e = rw (ne_eqb 0 a ne) (omega (arith, e))
filled_beyond n a v (suc zero) x ne e = rw (ne_eqb 1 a ne) (omega (arith, e))
filled_beyond n a v (suc (suc zero)) x ne e = rw (ne_eqb 2 a ne) (omega (arith, e))
filled_beyond n a v (suc (suc (suc zero))) x ne e = rw (ne_eqb 3 a ne) (omega (arith, e))
filled_beyond n a v (suc (suc (suc (suc i)))) x ne e = refl

handed_beyond : (n a i : ℕ) (hs : List Holder) (xs : List SellerLots) (place : ℕ) → (i ≡ a → ⊥) → get_or (get_or xs place no_lots).lots i 0 ≡ 0
    → get_or (get_or (handed_from n a hs xs) place no_lots).lots i 0 ≡ 0
handed_beyond n a i [] xs place ne e = e
handed_beyond n a i (h ∷ hs) [] place ne e = refl
handed_beyond n a i (h ∷ hs) (x ∷ xs) zero ne e = one (sells h)
  where
    one : (t : Bool) → get_or (cond t (filled n a (volume h) x) x).lots i 0 ≡ 0
    one true = filled_beyond n a (volume h) i x ne e
    one false = e
handed_beyond n a i (h ∷ hs) (x ∷ xs) (suc k) ne e = handed_beyond n a i hs xs k ne e

-- ---- what is added

-- It hangs on the contracts notified alone.
added_same : (from : ℕ) (hs : List Holder) (a : ℕ) (xs ys : List Lot) → ((row : ℕ) → notified xs row ≡ notified ys row) → added_from from hs a xs ≡ added_from from hs a ys
added_same from [] a xs ys same = refl
added_same from (h ∷ hs) a xs ys same =
    rw (same from) (ap (λ (l : List Lot). record { row = from; asset = a; contracts = cond (sells h) (volume h - notified ys from) 0 } ∷ l) (added_same (from + 1) hs a xs ys same))

module _ (o : Opening) (h : List Entry) (e : State) (ls : List Line) (s c : Meaning) (st : Stands o h (seen e ls s c)) where
  -- the contracts notified are all those in lots
  same_notified : (row : ℕ) → notified (lots_in o.book e.lots) row ≡ notified (tally_of o h).lots row
  same_notified row =
      let n : ℕ = length o.book.assets in
      sym (by_assets (λ (x : Lot). eqb x.row row) (λ x. x.asset) (λ x. x.contracts) n (lots_in o.book e.lots) (held_assets n e.lots))
      ∙ (over_same (lot (lots_in o.book e.lots) row) (lot (tally_of o h).lots row) 0 n (λ a _. same_lots o h e ls s c st row a)
      ∙ by_assets (λ (x : Lot). eqb x.row row) (λ x. x.asset) (λ x. x.contracts) n (tally_of o h).lots (kept o h st.opens st.lived).lots_assets)

  -- the end adds to the lots of the records what it adds to those of the tally
  same_sum : (row a : ℕ) → lot (added o.book (lots_in o.book e.lots) ++ lots_in o.book e.lots) row a ≡ lot (added o.book (tally_of o h).lots ++ (tally_of o h).lots) row a
  same_sum row a =
      let part : Lot → ℕ = λ x. cond (eqb x.row row && eqb x.asset a) x.contracts 0 in
      let p = sum_by-append part (added o.book (lots_in o.book e.lots)) (lots_in o.book e.lots) in
      let q = sum_by-append part (added o.book (tally_of o h).lots) (tally_of o h).lots in
      let u = ap (λ (xs : List Lot). lot xs row a) (added_same 1 o.book.holders (first_deliverable o.book) (lots_in o.book e.lots) (tally_of o h).lots same_notified) in
      let v = same_lots o h e ls s c st row a in
      omega (arith, p, q, u, v)

-- ---- the end is accepted

module _ (o : Opening) (h : List Entry) (e : State) (ls : List Line) (s c : Meaning) (st : Stands o h (seen e ls s c)) (long : length e.lots ≡ 256)
    (clearing : e.session ≡ ClearingNotices) (now' : in_its_session (tally_of o h) end_call ≡ true)
    (after : List SellerLots) (leaves : after ≡ hand_leaves (contents e.book) e.lots) (adds : Adds (contents e.book) e.lots after) where
  abbrev t : Tally
  t = tally_of o h

  abbrev then : Tally
  then = with_lots t Pairing (added o.book t.lots ++ t.lots)

  told_then : ended o.book t t.session ≡ then
  told_then = ap (ended o.book t) (sym st.session ∙ clearing)

  lived : Lived o ((end_call, Ok Done) ∷ h)
  lived = (sym (due_judged o t end_call None now' refl refl), st.lived)

  all_handed : after ≡ handed o.book e.lots
  all_handed =
      leaves
      ∙ (cond-false (too_few (contents e.book) e.lots) e.lots (handed (contents e.book) e.lots) (enough o h e ls s c st long)
      ∙ ap (λ (b : Contents). handed b e.lots) st.book)

  adds_told : Adds o.book e.lots after
  adds_told = subst (λ (b : Contents). Adds b e.lots after) st.book adds

  -- no lot beyond the assets of the book
  beyond : (row a : ℕ) → length o.book.assets ≤ a → get_or (record_of (handed o.book e.lots) row).lots a 0 ≡ 0
  beyond zero a past = refl
  beyond (suc k) a past =
      let f = first_deliverable_in o.book st.opens.book in
      handed_beyond (length o.book.assets) (first_deliverable o.book) a o.book.holders e.lots k (λ z. omega (arith, f, past, z))
      (st.lots (suc k) a ∙ none_beyond t.lots (suc k) a (length o.book.assets) (kept o h st.opens st.lived).lots_assets past)

  lots_then : (row a : ℕ) → get_or (record_of after row).lots a 0 ≡ lot (added o.book t.lots ++ t.lots) row a
  lots_then row a = elim (cases_lt a (length o.book.assets)) [
    | inl lt ↦ sym (lot_of_row (length o.book.assets) row a after lt) ∙ (adds_told row a lt ∙ same_sum o h e ls s c st row a)
    | inr past ↦ ap (λ (xs : List SellerLots). get_or (record_of xs row).lots a 0) all_handed
        ∙ (beyond row a past
        ∙ sym (none_beyond (added o.book t.lots ++ t.lots) row a (length o.book.assets) (added_assets o.book st.opens.book t.lots (kept o h st.opens st.lived).lots_assets) past))
  ]

  -- a seller has its volume notified, and nobody else has anything
  volumes : (row : ℕ) → (record_of (handed o.book e.lots) row).notified ≡ for_sale o.book row
  volumes zero = refl
  volumes (suc k) =
      handed_notified (length o.book.assets) (first_deliverable o.book) o.book.holders e.lots k (within o h e ls s c st long)
      ∙ rest (sells (holder o.book (suc k))) (volume (holder o.book (suc k))) (record_of e.lots (suc k)).notified
      (let q = (kept o h st.opens st.lived).lots_within (suc k) in let r = st.notified (suc k) in omega (arith, q, r))
    where
      rest : (seller : Bool) (v x : ℕ) → x ≤ cond seller v 0 → cond seller v x ≡ cond seller v 0
      rest true v x le = refl
      rest false v x le = omega arith

  notified_then : (row : ℕ) → (record_of after row).notified ≡ notified (added o.book t.lots ++ t.lots) row
  notified_then row =
      ap (λ (xs : List SellerLots). (record_of xs row).notified) all_handed
      ∙ (volumes row
      ∙ sym (subst (λ (x : Tally). 3 ≤ session_number x.session → notified x.lots row ≡ for_sale o.book row) told_then
      (λ on. (kept o ((end_call, Ok Done) ∷ h) st.opens lived).lots_full on row) (omega arith)))

  pub end_accepted : Stands o ((end_call, Ok Done) ∷ h) (seen (notices_ended (with_records e after)) ls s c)
  end_accepted = record {
    opens = st.opens;
    lived = lived;
    book = st.book;
    session = ap (λ (x : Tally). x.session) (sym told_then);
    lots = λ row a. lots_then row a ∙ ap (λ (x : Tally). lot x.lots row a) (sym told_then);
    notified = λ row. notified_then row ∙ ap (λ (x : Tally). notified x.lots row) (sym told_then);
    count = st.count ∙ ap (λ (x : Tally). length x.lines) (sym told_then);
    table = st.table ∙ ap (λ (x : Tally). over x.lines o.table) (sym told_then);
    draws = λ agent. st.draws agent ∙ ap (λ (x : Tally). held x agent) (sym told_then);
    nets = λ agent. st.nets agent ∙ ap (λ (x : Tally). net o.book x.lines agent) (sym told_then);
    claims = λ agent. st.claims agent ∙ ap (λ (x : Tally). claim o.book x agent) (sym told_then);
    registers = λ side. subst (λ (x : Tally). Same (register (seen e ls s c) side) (told o x side)) (sym told_then) (st.registers side);
  }
