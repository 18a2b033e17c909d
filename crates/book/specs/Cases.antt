-- Worked cases of the definitions.
use Rattle.std.specs.Prelude.{◌≡◌, ℕ, List, [], ◌∷◌, ◌++◌, pos, negsuc, Ok, Err, codes}
use Rattle.book.specs.declared.fault.Cause.TheVariants.{Form, Holdings}
use Rattle.book.specs.Books.{Contents, invoice_of, invoice}
use Rattle.book.specs.Reading.{reading, refuse}

-- The example book: two assets, and five holders of four members.
abbrev pub example : Contents
example = record {
  terms = record { multiplier = 10; price = 1000 };
  assets = record { factor = 1000000; accrued = 0; market = 1010 } ∷ record { factor = 900000; accrued = 50; market = 940 } ∷ [];
  holders =
      record { member = 1; number = 1; clearing = 1; agent = 1; position = negsuc 4 }
      ∷ record { member = 1; number = 2; clearing = 1; agent = 1; position = pos 3 }
      ∷ record { member = 2; number = 1; clearing = 1; agent = 1; position = pos 4 }
      ∷ record { member = 3; number = 1; clearing = 2; agent = 1; position = negsuc 3 }
      ∷ record { member = 4; number = 1; clearing = 3; agent = 2; position = pos 2 } ∷ [];
}

abbrev pub line_end : List ℕ
line_end = 10 ∷ []

-- its file
abbrev pub example_file : List ℕ
example_file =
    codes "book,1" ++ (line_end ++ (codes "terms,10,1000" ++ (line_end ++ (codes "asset,1000000,0,1010" ++ (line_end ++ (codes "asset,900000,50,940" ++ (line_end
    ++ (codes "holder,1,1,1,1,-5" ++ (line_end ++ (codes "holder,1,2,1,1,3" ++ (line_end ++ (codes "holder,2,1,1,1,4" ++ (line_end ++ (codes "holder,3,1,2,1,-4" ++ (line_end ++ (codes "holder,4,1,3,2,2" ++ line_end))))))))))))))))

-- a small file with these two positions
abbrev pub two_holders : List ℕ → List ℕ → List ℕ
two_holders bought sold =
    codes "book,1" ++ (line_end ++ (codes "terms,10,1000" ++ (line_end ++ (codes "asset,1000000,0,1010" ++ (line_end
    ++ (codes "holder,1,1,1,1," ++ (bought ++ (line_end ++ (codes "holder,1,2,1,1,-" ++ (sold ++ line_end))))))))))

-- a small file with these four positions, two of them bought
abbrev pub four_holders : List ℕ → List ℕ → List ℕ
four_holders bought sold =
    codes "book,1" ++ (line_end ++ (codes "terms,10,1000" ++ (line_end ++ (codes "asset,1000000,0,1010" ++ (line_end
    ++ (codes "holder,1,1,1,1," ++ (bought ++ (line_end ++ (codes "holder,1,2,1,1,1" ++ (line_end ++ (codes "holder,1,3,1,1,-" ++ (sold ++ (line_end ++ (codes "holder,1,4,1,1,-1" ++ line_end))))))))))))))

pub record WorkedCases : Type 0 where
  -- price 105, factor 900,000, no accrued interest
  pub rounded_up : invoice_of 105 (record { factor = 900000; accrued = 0; market = 1 }) ≡ 95
  pub example_prices : (invoice example 0 ≡ 1000) × (invoice example 1 ≡ 950)
  pub example_reads : reading example_file ≡ Ok example
  -- a million contracts are bought, or one more
  pub a_million : reading (two_holders (codes "1000000") (codes "1000000")) ≡ Ok (record {
    terms = record { multiplier = 10; price = 1000 };
    assets = record { factor = 1000000; accrued = 0; market = 1010 } ∷ [];
    holders = record { member = 1; number = 1; clearing = 1; agent = 1; position = pos 1000000 } ∷ record { member = 1; number = 2; clearing = 1; agent = 1; position = negsuc 999999 } ∷ [];
  })
  pub one_more : reading (four_holders (codes "1000000") (codes "1000000")) ≡ Err (refuse Holdings 0 0)
  -- a leading zero
  pub leading_zero : reading (two_holders (codes "05") (codes "5")) ≡ Err (refuse Form 4 6)
