-- A due take, draw or line settlement meets no other refusal of a register than short, and that where it is not covered.
use Rattle.std.proofs.Common.{◌≡◌, ℕ, zero, suc, ◌*◌, ◌/◌, ◌<◌, ◌≤◌, min, Bool, true, false, cond, eqb, ltb, leb, List, length, get_or, Some, None, refl, ap, ◌∙◌, subst, inl, inr, mul-le-mul, mul-le-mul_left, arith}
use native.Mathlib.Nat.{mul-div-le}
use Rattle.std.specs.List.{AllByRecursion}
use Rattle.std.proofs.ByRecursion.{All-weaker, All-get_or}
use Rattle.std.proofs.lemmas.List.{get_or_past}
use Rattle.std.proofs.lemmas.Bool.{and_parts, ltb-true, eqb-true, eq-eqb, ne_eqb, cases_lt, cases_eq, le-leb}
use Rattle.register.specs.declared.fault.RegisterFault.TheVariants.{Short}
use Rattle.register.specs.Rules.{transfer_refused}
use Rattle.book.specs.Books.{Contents, Sound, AssetInRange, In, row_named, asset_at, no_asset, invoice, value}
use Rattle.pairing.specs.declared.line.Line.{Line}
use Rattle.pairing.specs.Lines.{of_seller, open_on, inside, outstanding, buyer_agent, debit}
use Rattle.rules.specs.declared.session.Session.TheVariants.{PartialDelivery}
use Rattle.rules.specs.declared.side.Side.TheVariants.{Securities, Cash}
use Rattle.rules.specs.declared.call.Call.TheVariants as call
use Rattle.rules.specs.Tally.{Opening, Tally, in_session, held, units, money, told, line, no_line}
use Rattle.rules.specs.Verdict.{in_its_session, something_due, due}
use Rattle.rules.specs.Histories.{tally_of, Opens}
use Rattle.rules.specs.Postings.{OnlyShort, asked}
use Rattle.rules.proofs.Totals.{total_or}
use Rattle.rules.proofs.Kept.{Kept, Sane}
use Rattle.rules.proofs.KeptAlways.{kept}
use Rattle.rules.proofs.Balances.{agent_in}
use Rattle.rules.proofs.Opened.{room_for}
use Rattle.rules.proofs.Posted.{known_move}

-- ---- amounts above 0

product_some : (x y : ℕ) → 0 < x → 0 < y → 0 < x * y
product_some x y p q = let m : 1 * 1 ≤ x * y = mul-le-mul {n₁ = 1} {m₁ = 1} {n₂ = x} {m₂ = y} p q in omega (arith, m)

pub invoice_some : (b : Contents) (a : ℕ) → Sound b → a < length b.assets → 0 < invoice b a
invoice_some b a s lt =
    let v = All-get_or AssetInRange b.assets a no_asset lt s.assets in
    let m : 100 * 100000 ≤ b.terms.price * (asset_at b a).factor = mul-le-mul s.price.0 v.factor.0 in
    omega (arith, m)

pub value_some : (b : Contents) (a n : ℕ) → Sound b → a < length b.assets → 0 < n → 0 < value b a n
value_some b a n s lt p = product_some (n * b.terms.multiplier) (invoice b a) (product_some n b.terms.multiplier p s.multiplier.0) (invoice_some b a s lt)

-- ---- who has something due is in the book

-- The seller and the asset of outstanding contracts.
pub outstanding_known : (b : Contents) (ls : List Line) (row a : ℕ) → AllByRecursion (Sane b) ls → 0 < outstanding ls row a → In 1 (length b.holders) row × (a < length b.assets)
outstanding_known b ls row a sane some =
    elim (total_or (of_seller row a) open_on (In 1 (length b.holders) row × (a < length b.assets)) ls
    (All-weaker (Sane b) (λ l. of_seller row a l ≡ true → In 1 (length b.holders) row × (a < length b.assets))
    (λ l v e. let q = and_parts (eqb l.seller row) (eqb l.asset a) e in
    (subst (In 1 (length b.holders)) (eqb-true l.seller row q.0) v.seller, subst (λ x. x < length b.assets) (eqb-true l.asset a q.1) v.asset)) ls sane))
    [ inl z ↦ absurd (omega (arith, z, some)) | inr p ↦ p ]

-- What holds of every buyer's agent holds of an agent with a debit.
pub debit_known : (b : Contents) (P : ℕ → Type 0) (ls : List Line) (k : ℕ) → AllByRecursion (λ l. P (buyer_agent b l)) ls → 0 < debit b ls k → P k
debit_known b P ls k all some =
    elim (total_or (λ l. eqb (buyer_agent b l) k) (λ l. value b l.asset l.contracts) (P k) ls
    (All-weaker (λ l. P (buyer_agent b l)) (λ l. eqb (buyer_agent b l) k ≡ true → P k) (λ l h e. subst P (eqb-true (buyer_agent b l) k e) h) ls all))
    [ inl z ↦ absurd (omega (arith, z, some)) | inr p ↦ p ]

-- A line with contracts in is one of the lines.
pub line_known : (b : Contents) (t : Tally) (i : ℕ) → AllByRecursion (Sane b) t.lines → 0 < inside (line t i) → Sane b (line t i)
line_known b t zero sane some = absurd (omega arith)
line_known b t (suc j) sane some = elim (cases_lt j (length t.lines)) [
  | inl lt ↦ All-get_or (Sane b) t.lines j no_line lt sane
  | inr past ↦ let z : inside (get_or t.lines j no_line) ≡ 0 = ap inside (get_or_past t.lines j no_line past) in absurd (omega (arith, z, some))
]

-- ---- the units that a take asks for are covered where the rules say so

asked_covered : (five : Bool) (m due u : ℕ) → 0 < m → 0 < due
    → leb (m * cond (eqb (cond five (min due (u / m)) due) 0) 1 (cond five (min due (u / m)) due)) u ≡ leb (m * cond five 1 due) u
asked_covered false m due u p q = rw (ne_eqb due 0 (λ z. omega arith)) refl
asked_covered true m due u p q = elim (cases_eq (u / m) 0) [
  | inl z ↦ let e : min due (u / m) ≡ 0 = omega (arith, z) in rw (eq-eqb (min due (u / m)) 0 e) refl
  | inr z ↦
      let some : 0 < u / m = above (u / m) z in
      let n : min due (u / m) ≡ 0 → ⊥ = λ e. omega (arith, e, some, q) in
      let d : m * (u / m) ≤ u = let x = mul-div-le u m in omega (arith, x) in
      let x : m * min due (u / m) ≤ m * (u / m) = mul-le-mul_left m (omega arith) in
      let y : m * 1 ≤ m * (u / m) = mul-le-mul_left m (omega (arith, some)) in
      rw (ne_eqb (min due (u / m)) 0 n, le-leb (m * min due (u / m)) u (omega (arith, d, x)), le-leb (m * 1) u (omega (arith, d, y))) refl
]
  where
    above : (n : ℕ) → (n ≡ 0 → ⊥) → 0 < n
    above zero z = absurd (z refl)
    above (suc n) z = omega arith

some_asked : (n : ℕ) → 0 < cond (eqb n 0) 1 n
some_asked zero = omega arith
some_asked (suc n) = rw (ne_eqb (suc n) 0 (λ z. omega arith)) (omega arith)

-- ---- the three calls

pub take_short : (o : Opening) (t : Tally) (row a : ℕ) → Opens o → Kept o t → 0 < outstanding t.lines row a
    → transfer_refused (told o t Securities) row 0 a (o.book.terms.multiplier * asked o t row a)
    ≡ cond (leb (o.book.terms.multiplier * cond (in_session PartialDelivery t) 1 (outstanding t.lines row a)) (units o t row a)) None (Some Short)
take_short o t row a p k some =
    let b : Contents = o.book in
    let m : ℕ = b.terms.multiplier in
    let due : ℕ = outstanding t.lines row a in
    let r = room_for o p in
    let w = outstanding_known b t.lines row a k.lines some in
    let low = w.0.0 in let high = w.0.1 in let in_book = w.1 in
    let rows = r.rows in let assets = r.assets in
    known_move (told o t Securities) row 0 a (m * asked o t row a) (omega (arith, high, rows)) (omega (arith, rows)) (omega (arith, in_book, assets)) (λ z. omega (arith, z, low))
    (product_some m (asked o t row a) p.book.multiplier.0 (some_asked (cond (in_session PartialDelivery t) (min due (units o t row a / m)) due)))
    ∙ ap (λ (c : Bool). cond c None (Some Short)) (asked_covered (in_session PartialDelivery t) m due (units o t row a) p.book.multiplier.0 some)

pub agents_known : (o : Opening) (t : Tally) → Opens o → Kept o t → AllByRecursion (λ l. (0 < buyer_agent o.book l) × (buyer_agent o.book l < o.cash.accounts)) t.lines
agents_known o t p k = All-weaker (Sane o.book) (λ l. (0 < buyer_agent o.book l) × (buyer_agent o.book l < o.cash.accounts))
    (λ l v. ((agent_in o.book p.book l.buyer v.buyer).0, (room_for o p).agents l.buyer v.buyer)) t.lines k.lines

pub draw_short : (o : Opening) (t : Tally) (agent : ℕ) → Opens o → Kept o t → 0 < debit o.book t.lines agent
    → transfer_refused (told o t Cash) agent 0 0 (debit o.book t.lines agent) ≡ cond (leb (debit o.book t.lines agent) (money o t agent 0)) None (Some Short)
draw_short o t agent p k some =
    let w = debit_known o.book (λ g. (0 < g) × (g < o.cash.accounts)) t.lines agent (agents_known o t p k) some in
    let low = w.0 in let high = w.1 in
    known_move (told o t Cash) agent 0 0 (debit o.book t.lines agent) high (omega (arith, high)) (room_for o p).cash (λ z. omega (arith, z, low)) some

line_short : (o : Opening) (t : Tally) (i : ℕ) → Opens o → Kept o t → 0 < inside (line t i)
    → transfer_refused (told o t Cash) (buyer_agent o.book (line t i)) 0 0 (value o.book (line t i).asset (inside (line t i)))
    ≡ cond (leb (value o.book (line t i).asset (inside (line t i))) (money o t (buyer_agent o.book (line t i)) 0)) None (Some Short)
line_short o t i p k some =
    let b : Contents = o.book in
    let v = line_known b t i k.lines some in
    let low = (agent_in b p.book (line t i).buyer v.buyer).0 in
    let high = (room_for o p).agents (line t i).buyer v.buyer in
    known_move (told o t Cash) (buyer_agent b (line t i)) 0 0 (value b (line t i).asset (inside (line t i))) high (omega (arith, high)) (room_for o p).cash (λ z. omega (arith, z, low))
    (value_some b (line t i).asset (inside (line t i)) p.book v.asset some)

pub only_short : OnlyShort
only_short o h (call.Notice speaker member number asset contracts) side p l d e = absurd (let z : ◌≡◌ {A = ℕ} 0 1 = cc in omega arith)
only_short o h call.End side p l d e = absurd (let z : ◌≡◌ {A = ℕ} 0 1 = cc in omega arith)
only_short o h call.Pair side p l d e = absurd (let z : ◌≡◌ {A = ℕ} 0 1 = cc in omega arith)
only_short o h (call.Credit on account asset amount) side p l d e = absurd (let z : ◌≡◌ {A = ℕ} 0 1 = cc in omega arith)
only_short o h (call.Take member number asset) Cash p l d e = absurd (let z : ◌≡◌ {A = ℕ} 0 1 = cc in omega arith)
only_short o h (call.Take member number asset) Securities p l d e =
    let t : Tally = tally_of o h in
    let row : ℕ = row_named o.book member number in
    let q = and_parts (in_its_session t (call.Take member number asset)) (something_due o t (call.Take member number asset)) d in
    take_short o t row asset p (kept o h p l) (ltb-true 0 (outstanding t.lines row asset) q.1)
only_short o h (call.Draw agent) Securities p l d e = absurd (let z : ◌≡◌ {A = ℕ} 0 1 = cc in omega arith)
only_short o h (call.Draw agent) Cash p l d e =
    let t : Tally = tally_of o h in
    let q = and_parts (in_its_session t (call.Draw agent)) (something_due o t (call.Draw agent)) d in
    let w = and_parts (ltb 0 (debit o.book t.lines agent)) (eqb (held t agent) 0) q.1 in
    draw_short o t agent p (kept o h p l) (ltb-true 0 (debit o.book t.lines agent) w.0)
only_short o h call.SettleWhole side p l d e = absurd (let z : ◌≡◌ {A = ℕ} 0 1 = cc in omega arith)
only_short o h (call.SettleLine i) Securities p l d e = absurd (let z : ◌≡◌ {A = ℕ} 0 1 = cc in omega arith)
only_short o h (call.SettleLine i) Cash p l d e =
    let t : Tally = tally_of o h in
    let q = and_parts (in_its_session t (call.SettleLine i)) (something_due o t (call.SettleLine i)) d in
    line_short o t i p (kept o h p l) (ltb-true 0 (inside (line t i)) q.1)
only_short o h call.Close side p l d e = absurd (let z : ◌≡◌ {A = ℕ} 0 1 = cc in omega arith)
