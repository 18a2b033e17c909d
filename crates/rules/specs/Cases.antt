-- Worked cases: what the rules give for books and calls that can be worked out by hand.
use Rattle.std.specs.Prelude.{◌≡◌, List, [], ◌∷◌, pos, negsuc, Some, None, Err}
use Rattle.register.specs.declared.fault.RegisterFault.TheVariants.{UnknownAccount}
use Rattle.pairing.specs.declared.stage.Stage.TheVariants.{Member, Clearing, Agent, Whole}
use Rattle.pairing.specs.Lines.{net}
use Rattle.pairing.specs.Cases as pairing
use Rattle.pairing.specs.Cases.{book, a_line, example}
use Rattle.rules.specs.declared.side.Side.TheVariants.{Securities, Cash}
use Rattle.rules.specs.declared.call.Call.{Call}
use Rattle.rules.specs.declared.call.Call.TheVariants as call
use Rattle.rules.specs.declared.fault.Cause.TheVariants.{Register}
use Rattle.rules.specs.declared.fault.Part.TheVariants as part
use Rattle.rules.specs.declared.fault.OpeningFault.TheVariants as opening
use Rattle.rules.specs.Tally.{empty, claim}
use Rattle.rules.specs.Verdict.{opening_refused, verdict}
use Rattle.rules.specs.Examples.{zeros, house_holds, opens_with, opening, codes, final}

-- The example book has no notices before it is paired.
abbrev pub to_pairing : List Call
to_pairing = call.End ∷ call.End ∷ call.Pair ∷ []

-- All but line 4 is settled, and then closed: nothing is in on line 4 (13).
abbrev pub but_line_4 : List Call
but_line_4 = call.End ∷ call.End ∷ call.Pair ∷ call.Credit Securities 1 1 50 ∷ call.Credit Securities 4 1 25 ∷ call.End
    ∷ call.Take 1 1 1 ∷ call.Take 3 1 1 ∷ call.Credit Cash 1 0 66500
    ∷ call.SettleLine 1 ∷ call.SettleLine 2 ∷ call.SettleLine 3 ∷ call.SettleLine 4 ∷ call.Close ∷ []

pub record DeliveryCases : Type 0 where
  -- The calls make the lines of the book, and tell its nets.
  pub lines : (final example to_pairing).lines ≡ a_line Member 2 1 1 3 ∷ a_line Clearing 3 1 1 2 ∷ a_line Agent 3 4 1 2 ∷ a_line Whole 5 4 1 2 ∷ []
  pub nets : (net example (final example to_pairing).lines 1 ≡ pos 19000) × (net example (final example to_pairing).lines 2 ≡ negsuc 18999)
  -- Holder 3,1 in row 4 has 25 units, and 4 contracts of 10 units: a take is short (24) in session 4 and 2 contracts in 5.
  pub take_with_25 : codes example (call.End ∷ call.End ∷ call.Pair ∷ call.Credit Securities 4 1 25 ∷ call.Take 3 1 1 ∷ call.End ∷ call.Take 3 1 1 ∷ call.Take 3 1 1 ∷ [])
      ≡ (0, 0) ∷ (0, 0) ∷ (0, 4) ∷ (0, 0) ∷ (24, 0) ∷ (0, 0) ∷ (0, 2) ∷ (24, 0) ∷ []
  -- With 9 units it is short in both.
  pub take_with_9 : codes example (call.End ∷ call.End ∷ call.Pair ∷ call.Credit Securities 4 1 9 ∷ call.Take 3 1 1 ∷ call.End ∷ call.Take 3 1 1 ∷ [])
      ≡ (0, 0) ∷ (0, 0) ∷ (0, 4) ∷ (0, 0) ∷ (24, 0) ∷ (0, 0) ∷ (24, 0) ∷ []
  pub but_line_4_answers : codes example but_line_4
      ≡ (0, 0) ∷ (0, 0) ∷ (0, 4) ∷ (0, 0) ∷ (0, 0) ∷ (0, 0) ∷ (0, 5) ∷ (0, 2) ∷ (0, 0) ∷ (0, 3) ∷ (0, 2) ∷ (0, 2) ∷ (13, 0) ∷ (0, 0) ∷ []
  -- 2 contracts of 10 units, each 10 centavos below its invoice price.
  pub claims : (claim example (final example but_line_4) 1 ≡ pos 200) × (claim example (final example but_line_4) 2 ≡ negsuc 199)
  -- A refusal has the call, whole, and the side.
  pub named_refusal : verdict (opening example) empty (call.Credit Cash 65 0 1) ≡ Err (record { cause = Register Cash UnknownAccount; call = call.Credit Cash 65 0 1 })

-- An empty book comes first, then what is too small (line table, securities, cash), then a house that holds (securities, cash).
pub record OpeningCases : Type 0 where
  pub empty_book_first : opening_refused (opens_with (book 0 0 [] []) 0 (zeros 0 0) (zeros 0 0)) ≡ Some opening.EmptyBook
  pub table_next : opening_refused (opens_with example 19 (house_holds 5 1 0) (house_holds 2 0 0)) ≡ Some (opening.TooSmall part.LineTable)
  pub too_few_holders_accounts : opening_refused (opens_with example 20 (house_holds 5 2 0) (house_holds 2 1 0)) ≡ Some (opening.TooSmall (part.Register Securities))
  pub too_few_assets : opening_refused (opens_with example 20 (house_holds 6 1 0) (house_holds 2 1 0)) ≡ Some (opening.TooSmall (part.Register Securities))
  pub too_few_agents_accounts : opening_refused (opens_with example 20 (house_holds 6 2 0) (house_holds 2 1 0)) ≡ Some (opening.TooSmall (part.Register Cash))
  pub no_cash_asset : opening_refused (opens_with example 20 (house_holds 6 2 0) (house_holds 3 0 0)) ≡ Some (opening.TooSmall (part.Register Cash))
  pub house_holds_units : opening_refused (opens_with example 20 (house_holds 6 2 1) (house_holds 3 1 0)) ≡ Some (opening.HouseHolds Securities)
  pub house_holds_cash : opening_refused (opens_with example 20 (house_holds 6 3 2) (house_holds 3 1 0)) ≡ Some (opening.HouseHolds Cash)
  -- What the book does not deliver, and what is not cash, a house may hold.
  pub just_enough : opening_refused (opens_with example 20 (house_holds 6 3 2) (house_holds 3 2 1)) ≡ None

-- With those of pairing: pairs, prices, the lines of the example book and their values.
abbrev pub WorkedCases : Type 0
WorkedCases = pairing.WorkedCases × DeliveryCases × OpeningCases
