-- What a draft keeps from line to line: it can be part of a book, and the lines read so far are its text.
use Rattle.std.proofs.Common.{◌≡◌, ℕ, suc, ◌<◌, ◌≤◌, true, false, cond, ◌&&◌, eqb, ltb, leb, List, [], ◌∷◌, ◌++◌, length, Ok, Err, codes, sym, refl, ap, ◌∙◌, subst, ⊎_elim, append_assoc, arith, length-append, ltb-true, eq-eqb, eqb-true, leb-false}
use Rattle.std.specs.List.{flat_map, list_all}
use Rattle.std.proofs.lemmas.List.Folds.{list_all-append}
use Rattle.std.specs.Str.{bytes_eq}
use Rattle.std.proofs.lemmas.Slice.Eq.{bytes_eq-Decides}
use Rattle.std.proofs.lemmas.List.{append-nil, nil_from_length, flat_map_more}
use Rattle.std.proofs.lemmas.Bool.{and_parts, and_from, cases_Bool}
use Rattle.text.specs.Parts.{fields, together}
use Rattle.text.specs.Rows.{row, line, outside}
use Rattle.text.proofs.RoundTrip.{accepted_good, accepted_is_text}
use Rattle.book.specs.declared.records.Holder.{Holder}
use Rattle.book.specs.declared.awaits.Awaits.{Awaits}
use Rattle.book.specs.declared.awaits.Awaits.TheVariants as awaits
use Rattle.book.specs.declared.fault.Cause.TheVariants as cause
use Rattle.book.specs.Limits.{most_assets, most_holders}
use Rattle.book.specs.Books.{Contents, empty}
use Rattle.book.specs.Format.{heading, terms_bounds, asset_bounds, holder_bounds, terms_from, asset_from, holder_from, terms_values, asset_values, holder_values, terms_line, asset_line, holder_line, text}
use Rattle.book.specs.Lawful.{terms_ok, asset_ok, holder_ok, ascends, agrees, rows}
use Rattle.book.specs.Reading.{Draft, drafted, refuse, next, next_by, heading_read, terms_read, asset_read, holder_read, row_added, row_read, overfull, asset_next, holder_next, is_kind, with_terms, with_asset, with_holder, read_on}
use Rattle.book.proofs.Inversions.{passed, spared, on_row_ok, onward_ok, never, same_ok}
use Rattle.book.proofs.RecordValues.{terms_back, asset_back, holder_row}

-- what terms, assets and rows of a draft have, as far as they go
pub record Partial (b : Contents) : Type 0 where
  pub terms : terms_ok b.terms ≡ true
  pub assets : list_all asset_ok b.assets ≡ true
  pub few_assets : length b.assets ≤ most_assets
  pub rows : rows [] b.holders ≡ true
  pub few_holders : length b.holders ≤ most_holders
  pub assets_first : 0 < length b.holders → 0 < length b.assets

abbrev pub Keeps : Awaits → Contents → Type 0
Keeps awaits.Heading b = b ≡ empty
Keeps awaits.Terms b = b ≡ empty
Keeps awaits.Rows b = Partial b

-- the lines that were read
abbrev pub so_far : Awaits → Contents → List ℕ
so_far awaits.Heading b = []
so_far awaits.Terms b = heading ++ 10 ∷ []
so_far awaits.Rows b = text b

-- a draft after one line more
pub record Grown (a : Awaits) (b : Contents) (s : List ℕ) (d : Draft) : Type 0 where
  pub keeps : Keeps d.awaits d.book
  pub reads : so_far d.awaits d.book ≡ so_far a b ++ (s ++ 10 ∷ [])

-- ---- the pieces of a text

asset_after : (p t a x h : List ℕ) → h ≡ [] → p ++ (t ++ ((a ++ x) ++ h)) ≡ (p ++ (t ++ (a ++ h))) ++ x
asset_after p t a x h e =
    ap (λ y. p ++ (t ++ ((a ++ x) ++ y))) e ∙ (simp (append-nil, append_assoc)) ∙ ap (λ y. (p ++ (t ++ (a ++ y))) ++ x) (sym e)

holder_after : (p t a h x : List ℕ) → p ++ (t ++ (a ++ (h ++ x))) ≡ (p ++ (t ++ (a ++ h))) ++ x
holder_after p t a h x = simp append_assoc

joined_push : {X : Type 0} (f : X → List ℕ) (xs : List X) (x : X) → flat_map f (xs ++ x ∷ []) ≡ flat_map f xs ++ f x
joined_push f xs x = sym (flat_map_more f [] xs x)

pub rows_push : (gs hs : List Holder) (h : Holder) → rows gs hs ≡ true → (holder_ok h && (ascends (gs ++ hs) h && agrees (gs ++ hs) h)) ≡ true → rows gs (hs ++ h ∷ []) ≡ true
rows_push gs [] h r f = and_from (holder_ok h && (ascends gs h && agrees gs h)) true (ap (λ l. holder_ok h && (ascends l h && agrees l h)) (sym (append-nil gs)) ∙ f) refl
rows_push gs (k ∷ ks) h r f =
    let p = and_parts (holder_ok k && (ascends gs k && agrees gs k)) (rows (gs ++ k ∷ []) ks) r in
    and_from (holder_ok k && (ascends gs k && agrees gs k)) _ p.0 (rows_push (gs ++ k ∷ []) ks h p.1 (ap (λ l. holder_ok h && (ascends l h && agrees l h)) (append_assoc gs (k ∷ []) ks) ∙ f))

-- ---- each kind of line

heading_grows : (l : ℕ) (b : Contents) (s : List ℕ) (d : Draft) → b ≡ empty → heading_read l b s true ≡ Ok d → Grown awaits.Heading b s d
heading_grows l b s d e h =
    let p = passed (bytes_eq s heading) (Ok (drafted awaits.Terms b)) (refuse cause.Heading l 0) d h in
    let q : drafted awaits.Terms b ≡ d = same_ok (drafted awaits.Terms b) d p.1 in
    subst (λ x. Grown awaits.Heading b s x) q (record { keeps = e; reads = ap (λ t. t ++ 10 ∷ []) (sym ((bytes_eq-Decides s heading).0 p.0)) })

terms_grow : (l : ℕ) (b : Contents) (s : List ℕ) (d : Draft) → b ≡ empty → terms_read l b s ≡ Ok d → Grown awaits.Terms b s d
terms_grow l b s d e h =
    let p = on_row_ok l (row (codes "terms") terms_bounds (fields s)) (λ zs. Ok (drafted awaits.Rows (with_terms b (terms_from zs)))) d h in
    let good = accepted_good (codes "terms") terms_bounds s p.0 p.1 in
    let back = terms_back p.0 good in
    let new : Contents = with_terms empty (terms_from p.0) in
    let is : drafted awaits.Rows new ≡ d = ap (λ x. drafted awaits.Rows (with_terms x (terms_from p.0))) (sym e) ∙ same_ok (drafted awaits.Rows (with_terms b (terms_from p.0))) d p.2 in
    let written : line (codes "terms") (terms_values (terms_from p.0)) ≡ s ++ 10 ∷ [] = ap (line (codes "terms")) back ∙ sym (accepted_is_text (codes "terms") terms_bounds s p.0 p.1) in
    subst (λ x. Grown awaits.Terms b s x) is (record {
      keeps = record {
        terms = eq-eqb (outside 2 terms_bounds (terms_values (terms_from p.0))) 0 (ap (outside 2 terms_bounds) back ∙ good.1);
        assets = refl;
        few_assets = omega arith;
        rows = refl;
        few_holders = omega arith;
        assets_first = λ k. k;
      };
      reads = ap (λ t. (heading ++ 10 ∷ []) ++ t) (append-nil (terms_line (terms_from p.0)) ∙ written);
    })

asset_grows : (l : ℕ) (b : Contents) (s : List ℕ) (d : Draft) → Partial b → asset_next b s ≡ true → asset_read l b s ≡ Ok d → Grown awaits.Rows b s d
asset_grows l b s d k a h =
    let may = and_parts (eqb (length b.holders) 0) (ltb (length b.assets) most_assets) (and_parts (is_kind s (codes "asset")) _ a).1 in
    let none : b.holders ≡ [] = nil_from_length b.holders (eqb-true _ _ may.0) in
    let room : length b.assets < most_assets = ltb-true _ _ may.1 in
    let p = on_row_ok l (row (codes "asset") asset_bounds (fields s)) (λ zs. Ok (drafted awaits.Rows (with_asset b (asset_from zs)))) d h in
    let good = accepted_good (codes "asset") asset_bounds s p.0 p.1 in
    let x = asset_from p.0 in
    let back = asset_back p.0 good in
    let is : drafted awaits.Rows (with_asset b x) ≡ d = same_ok (drafted awaits.Rows (with_asset b x)) d p.2 in
    let written : asset_line x ≡ s ++ 10 ∷ [] = ap (line (codes "asset")) back ∙ sym (accepted_is_text (codes "asset") asset_bounds s p.0 p.1) in
    let ok : asset_ok x ≡ true = eq-eqb (outside 2 asset_bounds (asset_values x)) 0 (ap (outside 2 asset_bounds) back ∙ good.1) in
    subst (λ y. Grown awaits.Rows b s y) is (record {
      keeps = record {
        terms = k.terms;
        assets = list_all-append asset_ok b.assets (x ∷ []) ∙ and_from (list_all asset_ok b.assets) _ k.assets (and_from (asset_ok x) true ok refl);
        few_assets = omega (arith, length-append b.assets (x ∷ []));
        rows = k.rows;
        few_holders = k.few_holders;
        assets_first = λ _. omega (arith, length-append b.assets (x ∷ []));
      };
      reads =
          ap (λ t. (heading ++ 10 ∷ []) ++ (terms_line b.terms ++ (t ++ flat_map holder_line b.holders))) (joined_push asset_line b.assets x)
          ∙ asset_after (heading ++ 10 ∷ []) (terms_line b.terms) (flat_map asset_line b.assets) (asset_line x) (flat_map holder_line b.holders) (ap (flat_map holder_line) none)
          ∙ ap (λ t. text b ++ t) written;
    })

holder_grows : (l : ℕ) (b : Contents) (s : List ℕ) (d : Draft) → Partial b → overfull b s ≡ false → holder_next b s ≡ true → holder_read l b s ≡ Ok d → Grown awaits.Rows b s d
holder_grows l b s d k o a h =
    let is_holder = and_parts (is_kind s (codes "holder")) (ltb 0 (length b.assets)) a in
    let some : 0 < length b.assets = ltb-true _ _ is_holder.1 in
    let full : leb most_holders (length b.holders) ≡ false = ap (λ v. v && leb most_holders (length b.holders)) (sym is_holder.0) ∙ o in
    let room : length b.holders < most_holders = leb-false _ _ full in
    let p = on_row_ok l (row (codes "holder") holder_bounds (fields s)) (λ zs. row_added l b (holder_from zs)) d h in
    let good = accepted_good (codes "holder") holder_bounds s p.0 p.1 in
    let x = holder_from p.0 in
    let back = (holder_row p.0 good).back in
    let up = passed (ascends b.holders x) _ (refuse cause.Order l 0) d p.2 in
    let one = passed (agrees b.holders x) (Ok (drafted awaits.Rows (with_holder b x))) (refuse cause.Grouping l 0) d up.1 in
    let is : drafted awaits.Rows (with_holder b x) ≡ d = same_ok (drafted awaits.Rows (with_holder b x)) d one.1 in
    let written : holder_line x ≡ s ++ 10 ∷ [] = ap (line (codes "holder")) back ∙ sym (accepted_is_text (codes "holder") holder_bounds s p.0 p.1) in
    let ok : holder_ok x ≡ true = eq-eqb (outside 2 holder_bounds (holder_values x)) 0 (ap (outside 2 holder_bounds) back ∙ good.1) in
    subst (λ y. Grown awaits.Rows b s y) is (record {
      keeps = record {
        terms = k.terms;
        assets = k.assets;
        few_assets = k.few_assets;
        rows = rows_push [] b.holders x k.rows (and_from (holder_ok x) _ ok (and_from (ascends b.holders x) (agrees b.holders x) up.0 one.0));
        few_holders = omega (arith, length-append b.holders (x ∷ []));
        assets_first = λ _. some;
      };
      reads =
          ap (λ t. (heading ++ 10 ∷ []) ++ (terms_line b.terms ++ (flat_map asset_line b.assets ++ t))) (joined_push holder_line b.holders x)
          ∙ holder_after (heading ++ 10 ∷ []) (terms_line b.terms) (flat_map asset_line b.assets) (flat_map holder_line b.holders) (holder_line x)
          ∙ ap (λ t. text b ++ t) written;
    })

row_grows : (l : ℕ) (b : Contents) (s : List ℕ) (d : Draft) → Partial b → overfull b s ≡ false → row_read l b s ≡ Ok d → Grown awaits.Rows b s d
row_grows l b s d k o h =
    ⊎_elim
    (λ (e : asset_next b s ≡ true). asset_grows l b s d k e (ap (λ v. cond v (asset_read l b s) (cond (holder_next b s) (holder_read l b s) (Err (refuse cause.Form l 1)))) (sym e) ∙ h))
    (λ (e : asset_next b s ≡ false).
    let p = passed (holder_next b s) (holder_read l b s) (refuse cause.Form l 1) d (ap (λ v. cond v (asset_read l b s) (cond (holder_next b s) (holder_read l b s) (Err (refuse cause.Form l 1)))) (sym e) ∙ h) in
    holder_grows l b s d k o p.0 p.1)
    (cases_Bool (asset_next b s))

-- one line, whatever comes next
next_grows : (a : Awaits) (l : ℕ) (b : Contents) (s : List ℕ) (d : Draft) → Keeps a b → next_by a l b s true ≡ Ok d → Grown a b s d
next_grows awaits.Heading l b s d k h = heading_grows l b s d k h
next_grows awaits.Terms l b s d k h = terms_grow l b s d k h
next_grows awaits.Rows l b s d k h = let p = spared (overfull b s) (row_read l b s) (refuse cause.Size l 0) d h in row_grows l b s d k p.0 p.1

-- a line without its end is never accepted
unended : (a : Awaits) (l : ℕ) (b : Contents) (s : List ℕ) (d : Draft) → next_by a l b s false ≡ Ok d → ⊥
unended awaits.Heading l b s d h = never (refuse cause.Form l 0) d (passed (bytes_eq s heading) (Err (refuse cause.Form l 0)) (refuse cause.Heading l 0) d h).1
unended awaits.Terms l b s d h = never (refuse cause.Form l 0) d h
unended awaits.Rows l b s d h = never (refuse cause.Form l 0) d (spared (overfull b s) (Err (refuse cause.Form l 0)) (refuse cause.Size l 0) d h).1

-- all lines
pub record ReadAs (a : Awaits) (b : Contents) (ps : List (List ℕ)) (d : Draft) : Type 0 where
  pub keeps : Keeps d.awaits d.book
  pub reads : so_far d.awaits d.book ≡ so_far a b ++ together 10 ps

nothing_more : (a : Awaits) (b : Contents) (ps : List (List ℕ)) (d : Draft) → Keeps a b → drafted a b ≡ d → together 10 ps ≡ [] → ReadAs a b ps d
nothing_more a b ps d k e t = subst (λ x. ReadAs a b ps x) e (record { keeps = k; reads = sym (ap (λ x. so_far a b ++ x) t ∙ append-nil (so_far a b)) })

pub lines_grow : (l : ℕ) (a : Awaits) (b : Contents) (ps : List (List ℕ)) (d : Draft) → Keeps a b → read_on l (drafted a b) ps ≡ Ok d → ReadAs a b ps d
lines_grow l a b [] d k h = nothing_more a b [] d k (same_ok (drafted a b) d h) refl
lines_grow l a b (s ∷ []) d k h =
    ⊎_elim
    (λ (e : eqb (length s) 0 ≡ true). nothing_more a b (s ∷ []) d k (same_ok (drafted a b) d (ap (λ v. cond v (Ok (drafted a b)) (next l (drafted a b) s false)) (sym e) ∙ h)) (append-nil s ∙ nil_from_length s (eqb-true _ _ e)))
    (λ (e : eqb (length s) 0 ≡ false). absurd (unended a l b s d (ap (λ v. cond v (Ok (drafted a b)) (next l (drafted a b) s false)) (sym e) ∙ h)))
    (cases_Bool (eqb (length s) 0))
lines_grow l a b (s ∷ t ∷ ts) d k h =
    let p = onward_ok (next l (drafted a b) s true) (λ e. read_on (suc l) e (t ∷ ts)) d h in
    let g = next_grows a l b s p.0 k p.1 in
    let r = lines_grow (suc l) p.0.awaits p.0.book (t ∷ ts) d g.keeps p.2 in
    record {
      keeps = r.keeps;
      reads = r.reads ∙ ap (λ x. x ++ together 10 (t ∷ ts)) g.reads ∙ append_assoc (so_far a b) (s ++ 10 ∷ []) (together 10 (t ∷ ts)) ∙ ap (λ x. so_far a b ++ x) (append_assoc s (10 ∷ []) (together 10 (t ∷ ts)));
    }
