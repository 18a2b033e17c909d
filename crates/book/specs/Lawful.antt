-- Whether terms, assets and rows make a book, as a test.
use Rattle.std.specs.Prelude.{Bool, true, not, ◌&&◌, ◌||◌, List, [], ◌∷◌, ◌++◌, length, ◌==◌, nat_le, nat_lt}
use Rattle.std.specs.List.{list_all}
use Rattle.text.specs.Rows.{outside}
use Rattle.book.specs.declared.records.Terms.{Terms}
use Rattle.book.specs.declared.records.Asset.{Asset}
use Rattle.book.specs.declared.records.Holder.{Holder}
use Rattle.book.specs.Limits.{most_bought, most_assets, most_holders}
use Rattle.book.specs.Books.{Contents, stands_before, bought_by, sold_by}
use Rattle.book.specs.Format.{terms_values, terms_bounds, asset_values, asset_bounds, holder_values, holder_bounds}

-- each number is in its range
abbrev pub terms_ok : Terms → Bool
terms_ok t = outside 2 terms_bounds (terms_values t) == 0

abbrev pub asset_ok : Asset → Bool
asset_ok x = outside 2 asset_bounds (asset_values x) == 0

abbrev pub holder_ok : Holder → Bool
holder_ok h = outside 2 holder_bounds (holder_values h) == 0

-- a row ascends after those before it
abbrev pub ascends : List Holder → Holder → Bool
ascends gs h = list_all (λ g. stands_before g h) gs

-- two rows of one member have one clearing member, and two of one clearing member one payment agent
abbrev pub agree : Holder → Holder → Bool
agree g h = (not (g.member == h.member) || g.clearing == h.clearing) && (not (g.clearing == h.clearing) || g.agent == h.agent)

abbrev pub agrees : List Holder → Holder → Bool
agrees gs h = list_all (λ g. agree g h) gs

-- the rows hs may stand one after the other, after the rows gs
abbrev pub rows : List Holder → List Holder → Bool
rows gs [] = true
rows gs (h ∷ hs) = (holder_ok h && (ascends gs h && agrees gs h)) && rows (gs ++ h ∷ []) hs

-- there are holders, as much is bought as sold, and not too much
abbrev pub complete_rows : List Holder → Bool
complete_rows hs = nat_lt 0 (length hs) && (bought_by hs == sold_by hs && nat_le (bought_by hs) most_bought)

abbrev pub complete : Contents → Bool
complete b = complete_rows b.holders

-- terms and assets as a book has them
abbrev pub headed : Terms → List Asset → Bool
headed t xs = terms_ok t && (nat_lt 0 (length xs) && (nat_le (length xs) most_assets && list_all asset_ok xs))

-- the contents of a book that exists
abbrev pub lawful : Contents → Bool
lawful b = headed b.terms b.assets && (nat_le (length b.holders) most_holders && (rows [] b.holders && complete b))

-- the empty book, all zero
abbrev pub nothing : Contents → Bool
nothing b = b.terms.multiplier == 0 && (b.terms.price == 0 && (length b.assets == 0 && length b.holders == 0))

-- what the type of a book keeps
abbrev pub kept : Terms → List Asset → List Holder → Bool
kept t xs hs = let b : Contents = record { terms = t; assets = xs; holders = hs } in nothing b || lawful b
