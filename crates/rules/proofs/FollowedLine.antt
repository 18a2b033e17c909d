-- The postings of a line settlement do what the tally tells.
use Rattle.std.proofs.Common.{◌≡◌, ℕ, zero, suc, ◌+◌, ◌-◌, ◌*◌, ◌<◌, ◌≤◌, Bool, true, false, cond, ◌&&◌, eqb, List, ◌∷◌, ◌++◌, length, get_or, set, None, refl, ap, ◌∙◌, mul-add, arith}
use Rattle.std.proofs.lemmas.List.Sums.{sum_by-cons, sum_by-append, sum_by-set}
use Rattle.std.proofs.ByRecursion.{All-append, All-get_or}
use Rattle.std.proofs.lemmas.Bool.{le-leb, ne_eqb, false≢true}
use Rattle.register.specs.Rules.{transfer_refused, with_move, moved}
use Rattle.book.specs.Books.{Contents, Sound, value}
use Rattle.pairing.specs.declared.line.Line.{Line}
use Rattle.pairing.specs.Lines.{total, of_seller, of_buyer, of_asset, inside, buyer_agent, seller_agent}
use Rattle.rules.specs.declared.side.Side.{Side}
use Rattle.rules.specs.declared.side.Side.TheVariants.{Securities, Cash}
use Rattle.rules.specs.Tally.{Opening, Tally, same_side, units, money, told, settle, no_line, with_lines}
use Rattle.rules.specs.Histories.{Opens}
use Rattle.rules.specs.Postings.{Posting, moves, pays, Followed}
use Rattle.rules.proofs.Totals.{value_add}
use Rattle.rules.proofs.Kept.{Kept, Sane, gave, got, spent, earned}
use Rattle.rules.proofs.KeptBySettlements.{set_kept}
use Rattle.rules.proofs.Balances.{agent_in}
use Rattle.rules.proofs.Opened.{room_for}
use Rattle.rules.proofs.OnlyShort.{value_some}
use Rattle.rules.proofs.Posted.{goes_out, comes_in, leaves, enters, known_move, moved_adds, run_move, Payout, payouts_run, pays_payout, pays_leave, pays_enter}
use Rattle.rules.proofs.PaidOut.{cond_times}
use Rattle.rules.proofs.Ledger.{run_follows, payouts_follow, units_ledger, money_ledger, other_money}

-- The postings of the line x: its worth from the buyer's agent through account 0 to the seller's, the units to the buyer.
abbrev pub for_line : Contents → Line → List Posting
for_line b x =
    moves Cash (buyer_agent b x) 0 0 (value b x.asset (inside x))
    ∷ (pays Cash (seller_agent b x) 0 (value b x.asset (inside x)) ++ pays Securities x.buyer x.asset (b.terms.multiplier * inside x))

-- ---- sums

both : {x y v w : ℕ} → x ≡ v → y ≡ w → x + y ≡ v + w
both e f = cc

line_out : (b : Contents) (x : Line) (side : Side) (k a : ℕ) → leaves side k a (for_line b x)
    ≡ goes_out side k a (moves Cash (buyer_agent b x) 0 0 (value b x.asset (inside x)))
    + (cond (same_side Cash side && (eqb 0 k && eqb 0 a)) (value b x.asset (inside x)) 0 + cond (same_side Securities side && (eqb 0 k && eqb x.asset a)) (b.terms.multiplier * inside x) 0)
line_out b x side k a =
    let w : ℕ = value b x.asset (inside x) in
    let ps : List Posting = pays Cash (seller_agent b x) 0 w in
    let qs : List Posting = pays Securities x.buyer x.asset (b.terms.multiplier * inside x) in
    sum_by-cons (goes_out side k a) (moves Cash (buyer_agent b x) 0 0 w) (ps ++ qs)
    ∙ ap (λ z. goes_out side k a (moves Cash (buyer_agent b x) 0 0 w) + z)
    (sum_by-append (goes_out side k a) ps qs ∙ both (pays_leave side Cash k a (seller_agent b x) 0 w) (pays_leave side Securities k a x.buyer x.asset (b.terms.multiplier * inside x)))

line_into : (b : Contents) (x : Line) (side : Side) (k a : ℕ) → enters side k a (for_line b x)
    ≡ comes_in side k a (moves Cash (buyer_agent b x) 0 0 (value b x.asset (inside x)))
    + (cond (same_side Cash side && (eqb (seller_agent b x) k && eqb 0 a)) (value b x.asset (inside x)) 0 + cond (same_side Securities side && (eqb x.buyer k && eqb x.asset a)) (b.terms.multiplier * inside x) 0)
line_into b x side k a =
    let w : ℕ = value b x.asset (inside x) in
    let ps : List Posting = pays Cash (seller_agent b x) 0 w in
    let qs : List Posting = pays Securities x.buyer x.asset (b.terms.multiplier * inside x) in
    sum_by-cons (comes_in side k a) (moves Cash (buyer_agent b x) 0 0 w) (ps ++ qs)
    ∙ ap (λ z. comes_in side k a (moves Cash (buyer_agent b x) 0 0 w) + z)
    (sum_by-append (comes_in side k a) ps qs ∙ both (pays_enter side Cash k a (seller_agent b x) 0 w) (pays_enter side Securities k a x.buyer x.asset (b.terms.multiplier * inside x)))

-- A part that grows, in a sum.
grows : (c : Bool) (x y more less : ℕ) → more + cond c x 0 ≡ less + cond c (x + y) 0 → more ≡ less + cond c y 0
grows true x y more less e = omega arith
grows false x y more less e = omega arith

-- ---- units

line_units : (o : Opening) (t : Tally) (j : ℕ) → j < length t.lines → Kept o t → Kept o (with_lines t t.session (set t.lines j (settle (get_or t.lines j no_line))) t.draws) → (k a : ℕ)
    → units o (with_lines t t.session (set t.lines j (settle (get_or t.lines j no_line))) t.draws) k a + leaves Securities k a (for_line o.book (get_or t.lines j no_line))
    ≡ units o t k a + enters Securities k a (for_line o.book (get_or t.lines j no_line))
line_units o t j lt s v k a =
    let b : Contents = o.book in
    let m : ℕ = b.terms.multiplier in
    let ls : List Line = t.lines in
    let x : Line = get_or ls j no_line in
    let ks : List Line = set ls j (settle x) in
    let u : Tally = with_lines t t.session ks t.draws in
    let used = (All-get_or (Sane b) ls j no_line lt s.lines).used in
    let g : m * gave ks k a ≡ m * gave ls k a = ap (λ z. m * z) (set_kept (λ l. cond (of_seller k a l) (l.taken - l.returned) 0) ls j (settle x) lt refl) in
    let r : got ks k a ≡ got ls k a + cond (of_buyer k a x) (inside x) 0 = grows (of_buyer k a x) x.settled (inside x) (got ks k a) (got ls k a) (sum_by-set (λ l. cond (of_buyer k a l) l.settled 0) ls j (settle x) no_line lt) in
    let mr : m * got ks k a ≡ m * got ls k a + cond (of_buyer k a x) (m * inside x) 0 = ap (λ z. m * z) r ∙ (mul-add m (got ls k a) (cond (of_buyer k a x) (inside x) 0) ∙ ap (λ z. m * got ls k a + z) (cond_times (of_buyer k a x) m (inside x))) in
    let h : total (of_asset a) inside ls ≡ total (of_asset a) inside ks + cond (of_asset a x) (inside x) 0 =
    emptied (of_asset a x) (inside x) (inside (settle x)) (total (of_asset a) inside ks) (total (of_asset a) inside ls) (omega (arith, used)) (sum_by-set (λ l. cond (of_asset a l) (inside l) 0) ls j (settle x) no_line lt) in
    let mh : m * total (of_asset a) inside ls ≡ m * total (of_asset a) inside ks + cond (of_asset a x) (m * inside x) 0 = ap (λ z. m * z) h ∙ (mul-add m (total (of_asset a) inside ks) (cond (of_asset a x) (inside x) 0) ∙ ap (λ z. m * total (of_asset a) inside ks + z) (cond_times (of_asset a x) m (inside x))) in
    let house = at_house (eqb 0 k) (of_asset a x) (m * total (of_asset a) inside ls) (m * total (of_asset a) inside ks) (m * inside x) mh in
    let out = line_out b x Securities k a in
    let into = line_into b x Securities k a in
    units_ledger o t u k a (leaves Securities k a (for_line b x)) (enters Securities k a (for_line b x)) s v refl (omega (arith, g, mr, house, out, into))
  where
    emptied : (c : Bool) (i n less more : ℕ) → n ≡ 0 → less + cond c i 0 ≡ more + cond c n 0 → more ≡ less + cond c i 0
    emptied true i n less more z e = omega arith
    emptied false i n less more z e = omega arith

    at_house : (c d : Bool) (more less i : ℕ) → more ≡ less + cond d i 0 → cond c more 0 ≡ cond c less 0 + cond (c && d) i 0
    at_house true d more less i e = e
    at_house false d more less i e = refl

-- ---- cash

line_money : (o : Opening) (t : Tally) (j : ℕ) → j < length t.lines → Sound o.book → Kept o t → Kept o (with_lines t t.session (set t.lines j (settle (get_or t.lines j no_line))) t.draws) → (k a : ℕ)
    → money o (with_lines t t.session (set t.lines j (settle (get_or t.lines j no_line))) t.draws) k a + leaves Cash k a (for_line o.book (get_or t.lines j no_line))
    ≡ money o t k a + enters Cash k a (for_line o.book (get_or t.lines j no_line))
line_money o t j lt d s v k zero =
    let b : Contents = o.book in
    let ls : List Line = t.lines in
    let x : Line = get_or ls j no_line in
    let w : ℕ = value b x.asset (inside x) in
    let ks : List Line = set ls j (settle x) in
    let u : Tally = with_lines t t.session ks t.draws in
    let add = value_add b x.asset x.settled (inside x) in
    let paid : spent b ks k ≡ spent b ls k + cond (eqb (buyer_agent b x) k) w 0 =
    grows (eqb (buyer_agent b x) k) (value b x.asset x.settled) w (spent b ks k) (spent b ls k)
    (sum_by-set (λ l. cond (eqb (buyer_agent b l) k) (value b l.asset l.settled) 0) ls j (settle x) no_line lt ∙ ap (λ z. spent b ls k + cond (eqb (buyer_agent b x) k) z 0) add) in
    let got_paid : earned b ks k ≡ earned b ls k + cond (eqb (seller_agent b x) k) w 0 =
    grows (eqb (seller_agent b x) k) (value b x.asset x.settled) w (earned b ks k) (earned b ls k)
    (sum_by-set (λ l. cond (eqb (seller_agent b l) k) (value b l.asset l.settled) 0) ls j (settle x) no_line lt ∙ ap (λ z. earned b ls k + cond (eqb (seller_agent b x) k) z 0) add) in
    let out : leaves Cash k 0 (for_line b x) ≡ cond (eqb (buyer_agent b x) k) w 0 + cond (eqb 0 k) w 0 = line_out b x Cash k 0 ∙ three (eqb (buyer_agent b x) k) (eqb 0 k) w in
    let into : enters Cash k 0 (for_line b x) ≡ cond (eqb 0 k) w 0 + cond (eqb (seller_agent b x) k) w 0 = line_into b x Cash k 0 ∙ three (eqb 0 k) (eqb (seller_agent b x) k) w in
    money_ledger o t u k (leaves Cash k 0 (for_line b x)) (enters Cash k 0 (for_line b x)) d s v refl (omega (arith, paid, got_paid, out, into))
  where
    three : (c e : Bool) (n : ℕ) → cond (c && true) n 0 + (cond (e && true) n 0 + 0) ≡ cond c n 0 + cond e n 0
    three true true n = omega arith
    three true false n = omega arith
    three false true n = omega arith
    three false false n = omega arith
line_money o t j lt d s v k (suc a) =
    let b : Contents = o.book in
    let x : Line = get_or t.lines j no_line in
    let w : ℕ = value b x.asset (inside x) in
    let z = ne_eqb 0 (suc a) (λ q. omega arith) in
    let out : leaves Cash k (suc a) (for_line b x) ≡ 0 = line_out b x Cash k (suc a) ∙ none (eqb (buyer_agent b x) k) (eqb 0 k) (eqb 0 (suc a)) w z in
    let into : enters Cash k (suc a) (for_line b x) ≡ 0 = line_into b x Cash k (suc a) ∙ none (eqb 0 k) (eqb (seller_agent b x) k) (eqb 0 (suc a)) w z in
    let same = other_money o t (with_lines t t.session (set t.lines j (settle x)) t.draws) k a d s v refl in
    omega (arith, out, into, same)
  where
    none : (c e z : Bool) (n : ℕ) → z ≡ false → cond (c && z) n 0 + (cond (e && z) n 0 + 0) ≡ 0
    none true true z n h = rw h refl
    none true false z n h = rw h refl
    none false true z n h = rw h refl
    none false false z n h = refl

pub line_follows : (o : Opening) (t : Tally) (j : ℕ) → j < length t.lines → Opens o → Kept o t → Kept o (with_lines t t.session (set t.lines j (settle (get_or t.lines j no_line))) t.draws)
    → 0 < inside (get_or t.lines j no_line)
    → value o.book (get_or t.lines j no_line).asset (inside (get_or t.lines j no_line)) ≤ money o t (buyer_agent o.book (get_or t.lines j no_line)) 0 → (side : Side)
    → Followed side (told o t side) (for_line o.book (get_or t.lines j no_line)) (told o (with_lines t t.session (set t.lines j (settle (get_or t.lines j no_line))) t.draws) side)
line_follows o t j lt p s v some le Securities =
    let b : Contents = o.book in
    let x : Line = get_or t.lines j no_line in
    let sane = All-get_or (Sane b) t.lines j no_line lt s.lines in
    let low = sane.buyer.0 in let high = sane.buyer.1 in let ast = sane.asset in
    let rows = (room_for o p).rows in let assets = (room_for o p).assets in
    payouts_follow o t (with_lines t t.session (set t.lines j (settle x)) t.draws) Securities (for_line b x) (
      (λ e. absurd (false≢true e)),
      All-append (Payout Securities o.securities.accounts o.securities.assets) (pays Cash (seller_agent b x) 0 (value b x.asset (inside x))) (pays Securities x.buyer x.asset (b.terms.multiplier * inside x))
          (pays_payout Securities Cash o.securities.accounts o.securities.assets (seller_agent b x) 0 (value b x.asset (inside x)) (λ _ e. absurd (false≢true e)))
          (pays_payout Securities Securities o.securities.accounts o.securities.assets x.buyer x.asset (b.terms.multiplier * inside x) (λ _ _. (omega (arith, low), omega (arith, high, rows), omega (arith, ast, assets)))),
    )
    refl (line_units o t j lt s v)
line_follows o t j lt p s v some le Cash =
    let b : Contents = o.book in
    let x : Line = get_or t.lines j no_line in
    let w : ℕ = value b x.asset (inside x) in
    let sane = All-get_or (Sane b) t.lines j no_line lt s.lines in
    let payer : ℕ = buyer_agent b x in
    let low = (agent_in b p.book x.buyer sane.buyer).0 in
    let high = (room_for o p).agents x.buyer sane.buyer in
    let cash = (room_for o p).cash in
    let apart : payer ≡ 0 → ⊥ = λ z. omega (arith, z, low) in
    let worth : 0 < w = value_some b x.asset (inside x) p.book sane.asset some in
    let ok : transfer_refused (told o t Cash) payer 0 0 w ≡ None = known_move (told o t Cash) payer 0 0 w high (omega (arith, high)) cash apart worth ∙ rw (le-leb w (money o t payer 0) le) refl in
    let ps : List Posting = pays Cash (seller_agent b x) 0 w in
    let qs : List Posting = pays Securities x.buyer x.asset (b.terms.multiplier * inside x) in
    let all = All-append (Payout Cash o.cash.accounts o.cash.assets) ps qs
    (pays_payout Cash Cash o.cash.accounts o.cash.assets (seller_agent b x) 0 w (λ _ _. ((agent_in b p.book x.seller sane.seller).0, (room_for o p).agents x.seller sane.seller, cash)))
    (pays_payout Cash Securities o.cash.accounts o.cash.assets x.buyer x.asset (b.terms.multiplier * inside x) (λ _ e. absurd (false≢true e))) in
    let cov : (a : ℕ) → leaves Cash 0 a (ps ++ qs) ≤ moved (money o t) payer 0 0 w 0 a = λ a.
    let out = sum_by-append (goes_out Cash 0 a) ps qs in
    let one = pays_leave Cash Cash 0 a (seller_agent b x) 0 w in
    let two = pays_leave Cash Securities 0 a x.buyer x.asset (b.terms.multiplier * inside x) in
    let q = moved_adds (money o t) payer 0 0 w apart le 0 a in
    let q' : moved (money o t) payer 0 0 w 0 a + 0 ≡ money o t 0 a + cond (eqb 0 a) w 0 = rw (ne_eqb payer 0 apart) at q in
    omega (arith, out, one, two, q') in
    run_follows o t (with_lines t t.session (set t.lines j (settle x)) t.draws) Cash (for_line b x)
    (run_move Cash Cash (told o t Cash) payer 0 0 w (ps ++ qs) refl ok apart le (payouts_run Cash (with_move (told o t Cash) payer 0 0 w) (ps ++ qs) all cov))
    refl (line_money o t j lt p.book s v)
