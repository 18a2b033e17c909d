-- The postings of a close, a whole settlement and a line settlement do what the tally tells.
use Rattle.std.proofs.Common.{◌≡◌, ℕ, zero, suc, ◌+◌, ◌-◌, ◌*◌, ◌<◌, ◌≤◌, Bool, true, false, cond, ◌&&◌, eqb, ltb, ◌⊎◌, List, [], map, length, is_ok, sym, refl, ap, ◌∙◌, subst, inl, inr, mul-zero, mul-add, arith}
use Rattle.std.specs.List.{AllByRecursion}
use Rattle.std.proofs.lemmas.List.Sums.{sum_by-append}
use Rattle.std.proofs.ByRecursion.{All-weaker, All-append}
use Rattle.std.proofs.lemmas.Bool.{and_parts, not-true, ltb-false, eqb-true, ne_eqb}
use Rattle.book.specs.Books.{Contents, Sound, In, value}
use Rattle.order.specs.First.{any}
use Rattle.pairing.specs.declared.line.Line.{Line}
use Rattle.pairing.specs.Lines.{total, of_seller, of_buyer, of_asset, open_on, inside, buyer_agent, seller_agent, value_bought, value_sold}
use Rattle.rules.specs.declared.session.Session.TheVariants.{Closed}
use Rattle.rules.specs.declared.side.Side.{Side}
use Rattle.rules.specs.declared.side.Side.TheVariants.{Securities, Cash}
use Rattle.rules.specs.declared.call.Call.TheVariants as call
use Rattle.rules.specs.Numbers.{session_number}
use Rattle.book.specs.Limits.{most_agent}
use Rattle.rules.specs.Tally.{Opening, Tally, held, units, money, told, settle, give_back, with_lines, with_closed, accepted}
use Rattle.rules.specs.Verdict.{checks, answer, verdict, all_taken, all_drawn}
use Rattle.rules.specs.Histories.{Opens}
use Rattle.rules.specs.Postings.{Posting, net_credit, postings, Followed}
use Rattle.rules.proofs.Totals.{map_kept, map_split, map_more, map_zero, total_or}
use Rattle.rules.proofs.Kept.{Kept, Sane, Untouched, gave, got, spent, earned}
use Rattle.rules.proofs.KeptBySettlements.{Full, all_full, unspent, whole_spent, whole_earned}
use Rattle.rules.proofs.Balances.{agent_in}
use Rattle.rules.proofs.Checks.{ok_checks, not_any}
use Rattle.rules.proofs.Opened.{room_for}
use Rattle.rules.proofs.WholePays.{over_agents, whole_pays, debits_held}
use Rattle.rules.proofs.Posted.{goes_out, comes_in, leaves, enters, Payout}
use Rattle.rules.proofs.PaidOut.{paid, lines_leave, lines_enter, lines_no_cash, lines_payouts, lines_no_payouts, paid_agents, agents_leave, agents_enter, agents_enter_other, agents_no_units, agents_payouts, agents_no_payouts}
use Rattle.rules.proofs.Ledger.{payouts_follow, house_units, house_cash, units_ledger, money_ledger, other_money}

-- ---- rows and assets of lines are known

rows_known : (o : Opening) (t : Tally) (who : Line → ℕ) → Opens o → ((l : Line) → Sane o.book l → In 1 (length o.book.holders) (who l)) → Kept o t
    → AllByRecursion (λ l. (0 < who l) × (who l < o.securities.accounts) × (l.asset < o.securities.assets)) t.lines
rows_known o t who p row k = All-weaker (Sane o.book) (λ l. (0 < who l) × (who l < o.securities.accounts) × (l.asset < o.securities.assets))
    (λ l v. let r = row l v in let low = r.0 in let high = r.1 in let a = v.asset in let x = (room_for o p).rows in let y = (room_for o p).assets in (omega (arith, low), omega (arith, high, x), omega (arith, a, y))) t.lines k.lines

-- Nothing is in any more.
none_in_house : (b : Contents) (f : Line → Line) (ls : List Line) (a : ℕ) → ((l : Line) → Sane b l → inside (f l) ≡ 0) → AllByRecursion (Sane b) ls → total (of_asset a) inside (map f ls) ≡ 0
none_in_house b f ls a none sane = map_zero (λ l. cond (of_asset a l) (inside l) 0) f ls (All-weaker (Sane b) (λ l. cond (of_asset a (f l)) (inside (f l)) 0 ≡ 0) (λ l v. nothing (of_asset a (f l)) (inside (f l)) (none l v)) ls sane)
  where
    nothing : (c : Bool) (n : ℕ) → n ≡ 0 → cond c n 0 ≡ 0
    nothing true n e = e
    nothing false n e = refl

empty_house : (k m h : ℕ) → h ≡ 0 → cond (eqb 0 k) (m * h) 0 ≡ 0
empty_house k m h e = go (eqb 0 k)
  where
    go : (c : Bool) → cond c (m * h) 0 ≡ 0
    go true = ap (λ x. m * x) e ∙ mul-zero m
    go false = refl

-- ---- close

close_units : (o : Opening) (t : Tally) → Kept o t → Kept o (with_closed t (map give_back t.lines)) → (k a : ℕ)
    → units o (with_closed t (map give_back t.lines)) k a + leaves Securities k a (postings o t call.Close) ≡ units o t k a + enters Securities k a (postings o t call.Close)
close_units o t s v k a =
    let m : ℕ = o.book.terms.multiplier in
    let b : Contents = o.book in
    let ls : List Line = t.lines in
    let u : Tally = with_closed t (map give_back ls) in
    let out = lines_leave m (λ l. l.seller) ls k a in
    let into = lines_enter m (λ l. l.seller) ls k a in
    let g : gave ls k a ≡ gave (map give_back ls) k a + total (of_seller k a) inside ls =
    map_split (λ l. cond (of_seller k a l) (l.taken - l.returned) 0) (λ l. cond (of_seller k a l) (l.taken - l.returned) 0) (λ l. cond (of_seller k a l) (inside l) 0) give_back ls
    (All-weaker (Sane b) (λ l. cond (of_seller k a l) (l.taken - l.returned) 0 ≡ cond (of_seller k a l) (l.taken - (l.returned + inside l)) 0 + cond (of_seller k a l) (inside l) 0) (λ l w. returned (of_seller k a l) l w.used) ls s.lines) in
    let mg : m * gave ls k a ≡ m * gave (map give_back ls) k a + m * total (of_seller k a) inside ls = ap (λ x. m * x) g ∙ mul-add m (gave (map give_back ls) k a) (total (of_seller k a) inside ls) in
    let r : m * got (map give_back ls) k a ≡ m * got ls k a = ap (λ x. m * x) (map_kept (λ l. cond (of_buyer k a l) l.settled 0) give_back ls (λ _. refl)) in
    let none : house_units o u k a ≡ 0 = empty_house k m (total (of_asset a) inside (map give_back ls)) (none_in_house b give_back ls a (λ l w. let h = w.used in omega arith) s.lines) in
    units_ledger o t u k a (leaves Securities k a (postings o t call.Close)) (enters Securities k a (postings o t call.Close)) s v refl
    (omega (arith, mg, r, none, out, into))
  where
    returned : (c : Bool) (l : Line) → l.settled + l.returned ≤ l.taken → cond c (l.taken - l.returned) 0 ≡ cond c (l.taken - (l.returned + inside l)) 0 + cond c (inside l) 0
    returned true l h = omega arith
    returned false l h = refl

close_money : (o : Opening) (t : Tally) → Sound o.book → Kept o t → Kept o (with_closed t (map give_back t.lines)) → (k a : ℕ)
    → money o (with_closed t (map give_back t.lines)) k a + leaves Cash k a (postings o t call.Close) ≡ money o t k a + enters Cash k a (postings o t call.Close)
close_money o t d s v k a =
    let m : ℕ = o.book.terms.multiplier in
    let n = lines_no_cash m (λ l. l.seller) t.lines k a in
    let x = n.0 in let y = n.1 in
    let e = still a in
    omega (arith, x, y, e)
  where
    still : (a : ℕ) → money o (with_closed t (map give_back t.lines)) k a ≡ money o t k a
    still zero =
        let b : Contents = o.book in
        let ls : List Line = t.lines in
        let x : spent b (map give_back ls) k ≡ spent b ls k = map_kept (λ l. cond (eqb (buyer_agent b l) k) (value b l.asset l.settled) 0) give_back ls (λ _. refl) in
        let y : earned b (map give_back ls) k ≡ earned b ls k = map_kept (λ l. cond (eqb (seller_agent b l) k) (value b l.asset l.settled) 0) give_back ls (λ _. refl) in
        let r = money_ledger o t (with_closed t (map give_back ls)) k 0 0 d s v refl (omega (arith, x, y)) in
        omega (arith, r)
    still (suc a) = other_money o t (with_closed t (map give_back t.lines)) k a d s v refl

pub close_follows : (o : Opening) (t : Tally) → Opens o → Kept o t → Kept o (accepted o t call.Close) → (side : Side)
    → Followed side (told o t side) (postings o t call.Close) (told o (accepted o t call.Close) side)
close_follows o t p s v Securities = payouts_follow o t (accepted o t call.Close) Securities (postings o t call.Close)
    (lines_payouts o.book.terms.multiplier o.securities.accounts o.securities.assets (λ l. l.seller) t.lines (rows_known o t (λ l. l.seller) p (λ l w. w.seller) s)) refl (close_units o t s v)
close_follows o t p s v Cash = payouts_follow o t (accepted o t call.Close) Cash (postings o t call.Close)
    (lines_no_payouts o.book.terms.multiplier o.cash.accounts o.cash.assets (λ l. l.seller) t.lines) refl (close_money o t p.book s v)

-- ---- whole settlement

whole_units : (o : Opening) (t : Tally) → Kept o t → Kept o (with_lines t Closed (map settle t.lines) []) → (k a : ℕ)
    → units o (with_lines t Closed (map settle t.lines) []) k a + leaves Securities k a (postings o t call.SettleWhole) ≡ units o t k a + enters Securities k a (postings o t call.SettleWhole)
whole_units o t s v k a =
    let m : ℕ = o.book.terms.multiplier in
    let b : Contents = o.book in
    let ls : List Line = t.lines in
    let u : Tally = with_lines t Closed (map settle ls) [] in
    let ps : List Posting = paid m (λ l. l.buyer) ls in
    let qs : List Posting = paid_agents (net_credit o t) in
    let out = sum_by-append (goes_out Securities k a) ps qs in
    let into = sum_by-append (comes_in Securities k a) ps qs in
    let out_lines = lines_leave m (λ l. l.buyer) ls k a in
    let into_lines = lines_enter m (λ l. l.buyer) ls k a in
    let none_agents = agents_no_units (net_credit o t) k a in
    let na = none_agents.0 in let nb = none_agents.1 in
    let g : m * gave (map settle ls) k a ≡ m * gave ls k a = ap (λ x. m * x) (map_kept (λ l. cond (of_seller k a l) (l.taken - l.returned) 0) settle ls (λ _. refl)) in
    let r : got (map settle ls) k a ≡ got ls k a + total (of_buyer k a) inside ls =
    map_more (λ l. cond (of_buyer k a l) l.settled 0) (λ l. cond (of_buyer k a l) (inside l) 0) settle ls
    (All-weaker (Sane b) (λ l. cond (of_buyer k a l) (l.settled + inside l) 0 ≡ cond (of_buyer k a l) l.settled 0 + cond (of_buyer k a l) (inside l) 0) (λ l w. both (of_buyer k a l) l.settled (inside l)) ls s.lines) in
    let mr : m * got (map settle ls) k a ≡ m * got ls k a + m * total (of_buyer k a) inside ls = ap (λ x. m * x) r ∙ mul-add m (got ls k a) (total (of_buyer k a) inside ls) in
    let none : house_units o u k a ≡ 0 = empty_house k m (total (of_asset a) inside (map settle ls)) (none_in_house b settle ls a (λ l w. let h = w.used in omega arith) s.lines) in
    units_ledger o t u k a (leaves Securities k a (postings o t call.SettleWhole)) (enters Securities k a (postings o t call.SettleWhole)) s v refl
    (chained (m * gave ls k a) (m * gave (map settle ls) k a) (m * got (map settle ls) k a) (m * got ls k a) (m * total (of_buyer k a) inside ls) (house_units o u k a) (house_units o t k a)
    (leaves Securities k a (postings o t call.SettleWhole)) (enters Securities k a (postings o t call.SettleWhole)) g mr none
    (out ∙ omega (arith, out_lines, na)) (into ∙ omega (arith, into_lines, nb)))
  where
    both : (c : Bool) (x y : ℕ) → cond c (x + y) 0 ≡ cond c x 0 + cond c y 0
    both true x y = refl
    both false x y = refl

    chained : (gt gu gou got i hu ht out into : ℕ) → gu ≡ gt → gou ≡ got + i → hu ≡ 0 → out ≡ ht → into ≡ i → gt + gou + hu + out ≡ gu + got + ht + into
    chained gt gu gou got i hu ht out into g r n x y = omega arith

-- An agent to be paid sells, so it is an agent of the book.
credit_known : (b : Contents) (P : ℕ → Type 0) (ls : List Line) (k : ℕ) → AllByRecursion (λ l. P (seller_agent b l)) ls → (value_sold b (λ l. l.contracts) ls k ≡ 0) ⊎ P k
credit_known b P ls k all = total_or (λ l. eqb (seller_agent b l) k) (λ l. value b l.asset l.contracts) (P k) ls
    (All-weaker (λ l. P (seller_agent b l)) (λ l. eqb (seller_agent b l) k ≡ true → P k) (λ l h e. subst P (eqb-true (seller_agent b l) k e) h) ls all)

whole_money : (o : Opening) (t : Tally) → Sound o.book → Kept o t → Kept o (with_lines t Closed (map settle t.lines) []) → is_ok (verdict o t call.SettleWhole) ≡ true → AllByRecursion Full t.lines → AllByRecursion Untouched t.lines → (k a : ℕ)
    → money o (with_lines t Closed (map settle t.lines) []) k a + leaves Cash k a (postings o t call.SettleWhole) ≡ money o t k a + enters Cash k a (postings o t call.SettleWhole)
whole_money o t d s v e full un k zero =
    let m : ℕ = o.book.terms.multiplier in
    let b : Contents = o.book in
    let ls : List Line = t.lines in
    let u : Tally = with_lines t Closed (map settle ls) [] in
    let ps : List Posting = paid m (λ l. l.buyer) ls in
    let qs : List Posting = paid_agents (net_credit o t) in
    let no_cash = lines_no_cash m (λ l. l.buyer) ls k 0 in
    let n0 = no_cash.0 in let n1 = no_cash.1 in
    let sold = credit_known b (λ g. (1 ≤ g) × (g < 1 + most_agent)) ls k (All-weaker (Sane b) (λ l. (1 ≤ seller_agent b l) × (seller_agent b l < 1 + most_agent)) (λ l w. let i = agent_in b d l.seller w.seller in let h = i.1 in (i.0, omega (arith, h))) ls s.lines) in
    let paid_one : enters Cash k 0 qs ≡ net_credit o t k = agents_enter (net_credit o t) k (elim sold [ inl z ↦ inr (omega (arith, z)) | inr i ↦ inl i ]) in
    let paid_all : leaves Cash k 0 qs ≡ house_cash t k = agents_leave (net_credit o t) k 0 ∙ (whole (eqb 0 k) (over_agents (net_credit o t)) ∙ ap (λ x. cond (eqb 0 k) x 0) (sym (whole_pays o t d s e))) in
    let out : leaves Cash k 0 (postings o t call.SettleWhole) ≡ house_cash t k = sum_by-append (goes_out Cash k 0) ps qs ∙ add_none (leaves Cash k 0 ps) (leaves Cash k 0 qs) (house_cash t k) n0 paid_all in
    let into : enters Cash k 0 (postings o t call.SettleWhole) ≡ net_credit o t k = sum_by-append (comes_in Cash k 0) ps qs ∙ add_none (enters Cash k 0 ps) (enters Cash k 0 qs) (net_credit o t k) n1 paid_one in
    let z₁ : spent b ls k ≡ 0 = unspent b (λ l. eqb (buyer_agent b l) k) ls un in
    let z₂ : earned b ls k ≡ 0 = unspent b (λ l. eqb (seller_agent b l) k) ls un in
    let e₁ = whole_spent b ls k full in
    let e₂ = whole_earned b ls k full in
    let h = debits_held o t s e k in
    let none : house_cash u k ≡ 0 = nil (eqb 0 k) in
    money_ledger o t u k (leaves Cash k 0 (postings o t call.SettleWhole)) (enters Cash k 0 (postings o t call.SettleWhole)) d s v refl
    (chained (spent b ls k) (held t k) (earned b (map settle ls) k) (house_cash u k) (leaves Cash k 0 (postings o t call.SettleWhole)) (spent b (map settle ls) k) (earned b ls k) (house_cash t k) (enters Cash k 0 (postings o t call.SettleWhole))
    (value_bought b (λ l. l.contracts) ls k) (value_sold b (λ l. l.contracts) ls k) z₁ z₂ e₁ e₂ h none out into)
  where
    nil : (c : Bool) → cond {A = ℕ} c 0 0 ≡ 0
    nil true = refl
    nil false = refl

    whole : (c : Bool) (n : ℕ) → cond (c && true) n 0 ≡ cond c n 0
    whole true n = refl
    whole false n = refl

    add_none : (x y z : ℕ) → x ≡ 0 → y ≡ z → x + y ≡ z
    add_none x y z p q = omega arith

    chained : (st ht eu cu out su et ct into bought sold : ℕ) → st ≡ 0 → et ≡ 0 → su ≡ bought → eu ≡ sold → ht ≡ bought - sold → cu ≡ 0 → out ≡ ct → into ≡ sold - bought
        → st + ht + eu + cu + out ≡ su + 0 + et + ct + into
    chained st ht eu cu out su et ct into bought sold a b c d e f g h = omega arith
whole_money o t d s v e full un k (suc a) =
    let m : ℕ = o.book.terms.multiplier in
    let ls : List Line = t.lines in
    let ps : List Posting = paid m (λ l. l.buyer) ls in
    let qs : List Posting = paid_agents (net_credit o t) in
    let no_cash = lines_no_cash m (λ l. l.buyer) ls k (suc a) in
    let out : leaves Cash k (suc a) (postings o t call.SettleWhole) ≡ 0 = sum_by-append (goes_out Cash k (suc a)) ps qs ∙ two (leaves Cash k (suc a) ps) (leaves Cash k (suc a) qs) no_cash.0 (agents_leave (net_credit o t) k (suc a) ∙ never (eqb 0 k) (eqb 0 (suc a)) (over_agents (net_credit o t)) (ne_eqb 0 (suc a) (λ z. omega arith))) in
    let into : enters Cash k (suc a) (postings o t call.SettleWhole) ≡ 0 = sum_by-append (comes_in Cash k (suc a)) ps qs ∙ two (enters Cash k (suc a) ps) (enters Cash k (suc a) qs) no_cash.1 (agents_enter_other (net_credit o t) k a) in
    let same = other_money o t (with_lines t Closed (map settle ls) []) k a d s v refl in
    done (money o (with_lines t Closed (map settle ls) []) k (suc a)) (leaves Cash k (suc a) (postings o t call.SettleWhole)) (money o t k (suc a)) (enters Cash k (suc a) (postings o t call.SettleWhole)) same out into
  where
    two : (x y : ℕ) → x ≡ 0 → y ≡ 0 → x + y ≡ 0
    two x y p q = omega arith

    never : (c d : Bool) (n : ℕ) → d ≡ false → cond (c && d) n 0 ≡ 0
    never true d n e = rw e refl
    never false d n e = refl

    done : (x y z w : ℕ) → x ≡ z → y ≡ 0 → w ≡ 0 → x + y ≡ z + w
    done x y z w p q r = omega arith

pub whole_follows : (o : Opening) (t : Tally) → Opens o → Kept o t → Kept o (accepted o t call.SettleWhole) → is_ok (verdict o t call.SettleWhole) ≡ true → (side : Side)
    → Followed side (told o t side) (postings o t call.SettleWhole) (told o (accepted o t call.SettleWhole) side)
whole_follows o t p s v e Securities = payouts_follow o t (accepted o t call.SettleWhole) Securities (postings o t call.SettleWhole)
    (All-append (Payout Securities o.securities.accounts o.securities.assets) (paid o.book.terms.multiplier (λ l. l.buyer) t.lines) (paid_agents (net_credit o t))
    (lines_payouts o.book.terms.multiplier o.securities.accounts o.securities.assets (λ l. l.buyer) t.lines (rows_known o t (λ l. l.buyer) p (λ l w. w.buyer) s))
    (agents_no_payouts o.securities.accounts o.securities.assets (net_credit o t))) refl (whole_units o t s v)
whole_follows o t p s v e Cash =
    let b : Contents = o.book in
    let ls : List Line = t.lines in
    let q = ok_checks (checks o t call.SettleWhole) call.SettleWhole (answer o t call.SettleWhole) e in
    let w = and_parts (all_taken t) (all_drawn o t) q.1.1.0 in
    let s4 = eqb-true (session_number t.session) 4 q.0 in
    let taken = not_any (λ l. ltb 0 (open_on l)) (λ l. l.contracts ≤ l.taken) (λ l f. let z = ltb-false 0 (open_on l) f in omega arith) ls (not-true (any (λ l. ltb 0 (open_on l)) ls) w.0) in
    let un = s.untouched (omega (arith, s4)) in
    let full = all_full ls un taken (All-weaker (Sane b) (λ l. l.taken ≤ l.contracts) (λ l x. x.within) ls s.lines) in
    payouts_follow o t (accepted o t call.SettleWhole) Cash (postings o t call.SettleWhole)
    (All-append (Payout Cash o.cash.accounts o.cash.assets) (paid b.terms.multiplier (λ l. l.buyer) ls) (paid_agents (net_credit o t))
    (lines_no_payouts b.terms.multiplier o.cash.accounts o.cash.assets (λ l. l.buyer) ls)
    (agents_payouts o.cash.accounts o.cash.assets (net_credit o t)
    (λ k some. elim (credit_known b (λ g. (0 < g) × (g < o.cash.accounts)) ls k (All-weaker (Sane b) (λ l. (0 < seller_agent b l) × (seller_agent b l < o.cash.accounts)) (λ l x. ((agent_in b p.book l.seller x.seller).0, (room_for o p).agents l.seller x.seller)) ls s.lines))
    [ inl z ↦ absurd (omega (arith, z, some)) | inr i ↦ i ])
    (room_for o p).cash)) refl (whole_money o t p.book s v e full un)
