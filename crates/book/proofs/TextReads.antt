-- The text of a lawful book is read back, line by line.
use Rattle.std.proofs.Common.{◌≡◌, ℕ, suc, ◌+◌, ◌<◌, ◌≤◌, true, false, cond, ◌&&◌, eqb, ltb, leb, List, [], ◌∷◌, ◌++◌, length, take, Ok, Err, codes, sym, refl, ap, ◌∙◌, append_assoc, arith, length-append, ltb-true, le-ltb, lt-ltb, eqb-true, leb-true}
use borrow.Author.Tests.{lt-leb}
use Rattle.std.specs.List.{flat_map, list_all}
use Rattle.std.specs.Str.{bytes_eq}
use Rattle.std.proofs.lemmas.List.{append-nil}
use Rattle.std.proofs.lemmas.Bool.{and_parts, cond-true, cond-false, and_left, and_right}
use Rattle.text.specs.Parts.{stop, parts, fields}
use Rattle.text.specs.Rows.{row}
use Rattle.text.specs.Pages.{most_bytes}
use Rattle.text.proofs.PartsAt.{Free, parts_join}
use Rattle.text.proofs.RoundTrip.{Good, body, text_is_accepted, line_parts, line_kind}
use Rattle.book.specs.declared.records.Terms.{Terms}
use Rattle.book.specs.declared.records.Asset.{Asset}
use Rattle.book.specs.declared.records.Holder.{Holder}
use Rattle.book.specs.declared.fault.Cause.TheVariants as cause
use Rattle.book.specs.declared.awaits.Awaits.TheVariants as awaits
use Rattle.book.specs.Limits.{most_assets, most_holders}
use Rattle.book.specs.Books.{Contents, empty}
use Rattle.book.specs.Format.{heading, terms_bounds, asset_bounds, holder_bounds, terms_from, asset_from, holder_from, terms_values, asset_values, holder_values, terms_line, asset_line, holder_line, text}
use Rattle.book.specs.Lawful.{terms_ok, asset_ok, holder_ok, ascends, agrees, rows, headed, complete, lawful}
use Rattle.book.specs.Reading.{Draft, drafted, refuse, next, on_row, asset_read, holder_read, row_added, row_read, overfull, asset_next, holder_next, is_kind, with_asset, onward, read_on, finished, start, reading}
use Rattle.book.proofs.ReaderTurns.{read_line}

-- no byte of a kind of line is a comma or a line end
free_kind : (b : ℕ) → b < 60 → Free b (codes "terms") × Free b (codes "asset") × Free b (codes "holder")
free_kind b h = (
  ((λ e. omega arith), ((λ e. omega arith), ((λ e. omega arith), ((λ e. omega arith), ((λ e. omega arith), tt))))),
  ((λ e. omega arith), ((λ e. omega arith), ((λ e. omega arith), ((λ e. omega arith), ((λ e. omega arith), tt))))),
  ((λ e. omega arith), ((λ e. omega arith), ((λ e. omega arith), ((λ e. omega arith), ((λ e. omega arith), ((λ e. omega arith), tt)))))),
)

free_heading : Free 10 heading
free_heading = ((λ e. omega arith), ((λ e. omega arith), ((λ e. omega arith), ((λ e. omega arith), ((λ e. omega arith), ((λ e. omega arith), tt))))))

-- ---- one line: what it is, and what it gives

abbrev terms_body : Terms → List ℕ
terms_body t = body (codes "terms") (terms_values t)

abbrev asset_body : Asset → List ℕ
asset_body x = body (codes "asset") (asset_values x)

abbrev holder_body : Holder → List ℕ
holder_body h = body (codes "holder") (holder_values h)

terms_good : (t : Terms) → terms_ok t ≡ true → Good terms_bounds (terms_values t)
terms_good t h = (refl, eqb-true _ _ h)

asset_good : (x : Asset) → asset_ok x ≡ true → Good asset_bounds (asset_values x)
asset_good x h = (refl, eqb-true _ _ h)

holder_good : (x : Holder) → holder_ok x ≡ true → Good holder_bounds (holder_values x)
holder_good x h = (refl, eqb-true _ _ h)

asset_kind : (x : Asset) → asset_ok x ≡ true → take (stop 44 (asset_body x)) (asset_body x) ≡ codes "asset"
asset_kind x h = line_kind (codes "asset") asset_bounds (asset_values x) (free_kind 44 (omega arith)).1 (asset_good x h)

holder_kind : (x : Holder) → holder_ok x ≡ true → take (stop 44 (holder_body x)) (holder_body x) ≡ codes "holder"
holder_kind x h = line_kind (codes "holder") holder_bounds (holder_values x) (free_kind 44 (omega arith)).2 (holder_good x h)

asset_next_reads : (l : ℕ) (t : Terms) (xs : List Asset) (x : Asset) → asset_ok x ≡ true → length xs < most_assets →
    next l (drafted awaits.Rows (record { terms = t; assets = xs; holders = [] })) (asset_body x) true ≡ Ok (drafted awaits.Rows (record { terms = t; assets = xs ++ x ∷ []; holders = [] }))
asset_next_reads l t xs x h n =
    let b : Contents = record { terms = t; assets = xs; holders = [] } in
    let s = asset_body x in
    let kind = asset_kind x h in
    let spare : overfull b s ≡ false = ap (λ k. bytes_eq k (codes "holder") && false) kind in
    let comes : asset_next b s ≡ true = ap (λ k. bytes_eq k (codes "asset") && ltb (length xs) most_assets) kind ∙ lt-ltb (length xs) most_assets n in
    let reads : row (codes "asset") asset_bounds (fields s) ≡ Ok (asset_values x) = text_is_accepted (codes "asset") asset_bounds (asset_values x) (free_kind 44 (omega arith)).1 (asset_good x h) in
    cond-false (overfull b s) (Err (refuse cause.Size l 0)) (row_read l b s) spare
    ∙ cond-true (asset_next b s) _ _ comes
    ∙ ap (λ r. on_row l r (λ zs. Ok (drafted awaits.Rows (with_asset b (asset_from zs))))) reads

holder_next_reads : (l : ℕ) (t : Terms) (xs : List Asset) (hs : List Holder) (x : Holder) → 0 < length xs → length hs < most_holders → (holder_ok x && (ascends hs x && agrees hs x)) ≡ true →
    next l (drafted awaits.Rows (record { terms = t; assets = xs; holders = hs })) (holder_body x) true ≡ Ok (drafted awaits.Rows (record { terms = t; assets = xs; holders = hs ++ x ∷ [] }))
holder_next_reads l t xs hs x some n f =
    let b : Contents = record { terms = t; assets = xs; holders = hs } in
    let s = holder_body x in
    let p = and_parts (holder_ok x) (ascends hs x && agrees hs x) f in
    let q = and_parts (ascends hs x) (agrees hs x) p.1 in
    let kind = holder_kind x p.0 in
    let spare : overfull b s ≡ false = and_right (is_kind s (codes "holder")) (leb most_holders (length hs)) (lt-leb most_holders (length hs) n) in
    let other : asset_next b s ≡ false = and_left (is_kind s (codes "asset")) (eqb (length hs) 0 && ltb (length xs) most_assets) (ap (λ k. bytes_eq k (codes "asset")) kind) in
    let comes : holder_next b s ≡ true = ap (λ k. bytes_eq k (codes "holder") && ltb 0 (length xs)) kind ∙ lt-ltb 0 (length xs) some in
    let reads : row (codes "holder") holder_bounds (fields s) ≡ Ok (holder_values x) = text_is_accepted (codes "holder") holder_bounds (holder_values x) (free_kind 44 (omega arith)).2 (holder_good x p.0) in
    cond-false (overfull b s) (Err (refuse cause.Size l 0)) (row_read l b s) spare
    ∙ cond-false (asset_next b s) (asset_read l b s) (cond (holder_next b s) (holder_read l b s) (Err (refuse cause.Form l 1))) other
    ∙ cond-true (holder_next b s) _ _ comes
    ∙ ap (λ r. on_row l r (λ zs. row_added l b (holder_from zs))) reads
    ∙ cond-true (ascends hs x) _ _ q.0
    ∙ cond-true (agrees hs x) _ _ q.1

-- ---- all lines

assets_read : (l : ℕ) (t : Terms) (xs more : List Asset) (rest : List ℕ) → list_all asset_ok more ≡ true → length xs + length more ≤ most_assets →
    (m : ℕ) × (read_on l (drafted awaits.Rows (record { terms = t; assets = xs; holders = [] })) (parts 10 (flat_map asset_line more ++ rest)) ≡ read_on m (drafted awaits.Rows (record { terms = t; assets = xs ++ more; holders = [] })) (parts 10 rest))
assets_read l t xs [] rest a n = (l, ap (λ ys. read_on l (drafted awaits.Rows (record { terms = t; assets = ys; holders = [] })) (parts 10 rest)) (sym (append-nil xs)))
assets_read l t xs (x ∷ more) rest a n =
    let p = and_parts (asset_ok x) (list_all asset_ok more) a in
    let d : Draft = drafted awaits.Rows (record { terms = t; assets = xs; holders = [] }) in
    let i = assets_read (suc l) t (xs ++ x ∷ []) more rest p.1 (omega (arith, length-append xs (x ∷ []))) in (
      i.0,
      ap (λ u. read_on l d (parts 10 u)) (append_assoc (asset_line x) (flat_map asset_line more) rest)
          ∙ ap (read_on l d) (line_parts (codes "asset") asset_bounds (asset_values x) (flat_map asset_line more ++ rest) (free_kind 10 (omega arith)).1 (asset_good x p.0))
          ∙ read_line l d (asset_body x) (flat_map asset_line more ++ rest)
          ∙ ap (λ r. onward r (λ e. read_on (suc l) e (parts 10 (flat_map asset_line more ++ rest)))) (asset_next_reads l t xs x p.0 (omega arith))
          ∙ i.1
          ∙ ap (λ ys. read_on i.0 (drafted awaits.Rows (record { terms = t; assets = ys; holders = [] })) (parts 10 rest)) (append_assoc xs (x ∷ []) more),
    )

holders_read : (l : ℕ) (t : Terms) (xs : List Asset) (hs more : List Holder) → 0 < length xs → rows hs more ≡ true → length hs + length more ≤ most_holders →
    read_on l (drafted awaits.Rows (record { terms = t; assets = xs; holders = hs })) (parts 10 (flat_map holder_line more)) ≡ Ok (drafted awaits.Rows (record { terms = t; assets = xs; holders = hs ++ more }))
holders_read l t xs hs [] some r n = ap (λ ys. Ok (drafted awaits.Rows (record { terms = t; assets = xs; holders = ys }))) (sym (append-nil hs))
holders_read l t xs hs (x ∷ more) some r n =
    let p = and_parts (holder_ok x && (ascends hs x && agrees hs x)) (rows (hs ++ x ∷ []) more) r in
    let ok = (and_parts (holder_ok x) (ascends hs x && agrees hs x) p.0).0 in
    let d : Draft = drafted awaits.Rows (record { terms = t; assets = xs; holders = hs }) in
    ap (read_on l d) (line_parts (codes "holder") holder_bounds (holder_values x) (flat_map holder_line more) (free_kind 10 (omega arith)).2 (holder_good x ok))
    ∙ read_line l d (holder_body x) (flat_map holder_line more)
    ∙ ap (λ r. onward r (λ e. read_on (suc l) e (parts 10 (flat_map holder_line more)))) (holder_next_reads l t xs hs x some (omega arith) p.0)
    ∙ holders_read (suc l) t xs (hs ++ x ∷ []) more some p.1 (omega (arith, length-append hs (x ∷ [])))
    ∙ ap (λ ys. Ok (drafted awaits.Rows (record { terms = t; assets = xs; holders = ys }))) (append_assoc hs (x ∷ []) more)

-- the parts of a lawful book
pub record PartsOf (b : Contents) : Type 0 where
  pub terms : terms_ok b.terms ≡ true
  pub some_assets : 0 < length b.assets
  pub few_assets : length b.assets ≤ most_assets
  pub assets : list_all asset_ok b.assets ≡ true
  pub few_holders : length b.holders ≤ most_holders
  pub rows : rows [] b.holders ≡ true
  pub complete : complete b ≡ true

pub parts_of : (b : Contents) → lawful b ≡ true → PartsOf b
parts_of b h =
    let p = and_parts (headed b.terms b.assets) (leb (length b.holders) most_holders && (rows [] b.holders && complete b)) h in
    let q = and_parts (terms_ok b.terms) (ltb 0 (length b.assets) && (leb (length b.assets) most_assets && list_all asset_ok b.assets)) p.0 in
    let r = and_parts (ltb 0 (length b.assets)) (leb (length b.assets) most_assets && list_all asset_ok b.assets) q.1 in
    let s = and_parts (leb (length b.assets) most_assets) (list_all asset_ok b.assets) r.1 in
    let u = and_parts (leb (length b.holders) most_holders) (rows [] b.holders && complete b) p.1 in
    let v = and_parts (rows [] b.holders) (complete b) u.1 in
    record { terms = q.0; some_assets = ltb-true _ _ r.0; few_assets = leb-true _ _ s.0; assets = s.1; few_holders = leb-true _ _ u.0; rows = v.0; complete = v.1 }

lines_read : (b : Contents) → PartsOf b → read_on 1 start (parts 10 (text b)) ≡ Ok (drafted awaits.Rows b)
lines_read b k =
    let tail = flat_map asset_line b.assets ++ flat_map holder_line b.holders in
    let t = b.terms in
    let bare : Draft = drafted awaits.Rows (record { terms = t; assets = []; holders = [] }) in
    let reads : row (codes "terms") terms_bounds (fields (terms_body t)) ≡ Ok (terms_values t) = text_is_accepted (codes "terms") terms_bounds (terms_values t) (free_kind 44 (omega arith)).0 (terms_good t k.terms) in
    let a = assets_read 3 t [] b.assets (flat_map holder_line b.holders) k.assets (omega (arith, k.few_assets)) in
    ap (λ u. read_on 1 start (parts 10 u)) (append_assoc heading (10 ∷ []) (terms_line t ++ tail))
    ∙ ap (read_on 1 start) (parts_join 10 heading (terms_line t ++ tail) free_heading)
    ∙ read_line 1 start heading (terms_line t ++ tail)
    ∙ ap (read_on 2 (drafted awaits.Terms empty)) (line_parts (codes "terms") terms_bounds (terms_values t) tail (free_kind 10 (omega arith)).0 (terms_good t k.terms))
    ∙ read_line 2 (drafted awaits.Terms empty) (terms_body t) tail
    ∙ ap (λ r. onward (on_row 2 r (λ zs. Ok (drafted awaits.Rows (record { terms = terms_from zs; assets = []; holders = [] })))) (λ e. read_on 3 e (parts 10 tail))) reads
    ∙ a.1
    ∙ holders_read a.0 t b.assets [] b.holders k.some_assets k.rows (omega (arith, k.few_holders))

pub reads_back : (b : Contents) → lawful b ≡ true → length (text b) ≤ most_bytes → reading (text b) ≡ Ok b
reads_back b h n =
    let k = parts_of b h in
    cond-false (ltb most_bytes (length (text b))) _ _ (le-ltb most_bytes (length (text b)) n)
    ∙ ap (λ r. onward r finished) (lines_read b k)
    ∙ cond-true (complete b) _ _ k.complete
