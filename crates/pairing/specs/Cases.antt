-- Worked cases: what the rule gives for books that can be paired by hand.
use Rattle.std.specs.Prelude.{◌≡◌, ℕ, List, [], ◌∷◌, map, pos, negsuc, neg_ℤ}
use Rattle.book.specs.declared.records.Asset.{Asset}
use Rattle.book.specs.declared.records.Holder.{Holder}
use Rattle.book.specs.Books.{Contents, Sound, invoice, invoice_of, value}
use Rattle.pairing.specs.declared.stage.Stage.{Stage}
use Rattle.pairing.specs.declared.stage.Stage.TheVariants.{Member, Clearing, Agent, Whole}
use Rattle.pairing.specs.declared.pair.Pair.{Pair}
use Rattle.pairing.specs.declared.line.Line.{Line}
use Rattle.pairing.specs.Orders.{first_deliverable}
use Rattle.pairing.specs.Pairing.{pairs}
use Rattle.pairing.specs.Lines.{added, lines_of, net}
use Rattle.pairing.specs.Laws.{Notified}

-- ---- short words

abbrev pub asset : ℕ → ℕ → ℕ → Asset
asset factor accrued market = record { factor = factor; accrued = accrued; market = market }

-- Member, number, clearing member, payment agent, contracts.
abbrev pub buyer : ℕ → ℕ → ℕ → ℕ → ℕ → Holder
buyer member number clearing agent contracts = record { member = member; number = number; clearing = clearing; agent = agent; position = pos contracts }

abbrev pub seller : ℕ → ℕ → ℕ → ℕ → ℕ → Holder
seller member number clearing agent contracts = record { member = member; number = number; clearing = clearing; agent = agent; position = neg_ℤ (pos contracts) }

abbrev pub book : ℕ → ℕ → List Asset → List Holder → Contents
book multiplier price assets holders = record { terms = record { multiplier = multiplier; price = price }; assets = assets; holders = holders }

-- Stage, buyer's place, seller's place, contracts.
abbrev pub a_pair : Stage → ℕ → ℕ → ℕ → Pair
a_pair stage buyer seller contracts = record { stage = stage; buyer = buyer; seller = seller; contracts = contracts }

-- Stage, buyer's row, seller's row, asset, contracts.
abbrev pub a_line : Stage → ℕ → ℕ → ℕ → ℕ → Line
a_line stage buyer seller asset contracts = record
    { stage = stage; buyer = buyer; seller = seller; asset = asset; contracts = contracts; taken = 0; settled = 0; returned = 0 }

-- Holders of one member, so that stage 1 makes every pair.
abbrev pub one_group : List Holder → Contents
one_group holders = book 1 1000 (asset 1000000 0 1000 ∷ []) holders

-- A book whose pairs come from every stage.
abbrev pub example : Contents
example = book 10 1000 (asset 1000000 0 1010 ∷ asset 900000 50 940 ∷ [])
    (seller 1 1 1 1 5 ∷ buyer 1 2 1 1 3 ∷ buyer 2 1 1 1 4 ∷ seller 3 1 2 1 4 ∷ buyer 4 1 3 2 2 ∷ [])

-- ---- cases

-- Letters are holders in ascending order, of one group; places count from 0.
pub record PairingCases : Type 0 where
  -- Buyers A 5, B 4; sellers C 4, D 3, E 2: BC 4, AD 3, AE 2.
  pub equal_volumes_first : pairs (one_group (buyer 1 1 1 1 5 ∷ buyer 1 2 1 1 4 ∷ seller 1 3 1 1 4 ∷ seller 1 4 1 1 3 ∷ seller 1 5 1 1 2 ∷ []))
      ≡ a_pair Member 1 2 4 ∷ a_pair Member 0 3 3 ∷ a_pair Member 0 4 2 ∷ []
  -- The equal volume need not be the largest of either side. A 5, B 2; C 4, D 2, E 1: BD 2, AC 4, AE 1.
  pub equal_volumes_below : pairs (one_group (buyer 1 1 1 1 5 ∷ buyer 1 2 1 1 2 ∷ seller 1 3 1 1 4 ∷ seller 1 4 1 1 2 ∷ seller 1 5 1 1 1 ∷ []))
      ≡ a_pair Member 1 3 2 ∷ a_pair Member 0 2 4 ∷ a_pair Member 0 4 1 ∷ []
  -- A lowered holder takes its new place. A 7, B 5; C 6, D 4, E 2: AC 6, BD 4, AE 1, BE 1.
  pub order_read_again : pairs (one_group (buyer 1 1 1 1 7 ∷ buyer 1 2 1 1 5 ∷ seller 1 3 1 1 6 ∷ seller 1 4 1 1 4 ∷ seller 1 5 1 1 2 ∷ []))
      ≡ a_pair Member 0 2 6 ∷ a_pair Member 1 3 4 ∷ a_pair Member 0 4 1 ∷ a_pair Member 1 4 1 ∷ []
  -- Equal volumes that come up later are not looked for. A 10, B 4; C 7, D 3, E 2, F 2: AC 7, BD 3, AE 2, AF 1, BF 1.
  pub equal_volumes_not_again : pairs (one_group (buyer 1 1 1 1 10 ∷ buyer 1 2 1 1 4 ∷ seller 1 3 1 1 7 ∷ seller 1 4 1 1 3 ∷ seller 1 5 1 1 2 ∷ seller 1 6 1 1 2 ∷ []))
      ≡ a_pair Member 0 2 7 ∷ a_pair Member 1 3 3 ∷ a_pair Member 0 4 2 ∷ a_pair Member 0 5 1 ∷ a_pair Member 1 5 1 ∷ []

-- Prices, lines, values and nets. The example is paired without notices.
pub record PriceCases : Type 0 where
  -- Price 105, factor 900,000, no accrued interest: 94.5 rounds to 95.
  pub half_up : invoice_of 105 (asset 900000 0 1) ≡ 95
  pub invoice_prices : (invoice example 0 ≡ 1000) × (invoice example 1 ≡ 950)
  -- 940 less 950 is below 1,010 less 1,000.
  pub first : first_deliverable example ≡ 1
  pub lines : lines_of example (added example []) ≡ a_line Member 2 1 1 3 ∷ a_line Clearing 3 1 1 2 ∷ a_line Agent 3 4 1 2 ∷ a_line Whole 5 4 1 2 ∷ []
  pub values : map (λ l. value example l.asset l.contracts) (lines_of example (added example [])) ≡ 28500 ∷ 19000 ∷ 19000 ∷ 19000 ∷ []
  pub nets : (net example (lines_of example (added example [])) 1 ≡ pos 19000) × (net example (lines_of example (added example [])) 2 ≡ negsuc 18999)

abbrev pub WorkedCases : Type 0
WorkedCases = PairingCases × PriceCases

-- What the laws suppose can be had: the example is a book that exists, and without notices its lots add up.
abbrev pub PremisesHold : Type 0
PremisesHold = Sound example × Notified example (added example [])
