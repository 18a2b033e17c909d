-- The worked cases, by computation.
use Rattle.std.proofs.Common.{refl}
use Rattle.pairing.specs.Pairing.{all_groups}
use Rattle.pairing.specs.Cases.{example, PairingCases, PriceCases, WorkedCases, PremisesHold}
use Rattle.book.specs.Books.{Sound}
use Rattle.book.proofs.SoundLawful.{sound_from}
use Rattle.pairing.proofs.LinesLawful.{all_notified}

pairing_cases : PairingCases
unfolding all_groups
pairing_cases = record { equal_volumes_first = refl; equal_volumes_below = refl; order_read_again = refl; equal_volumes_not_again = refl }

price_cases : PriceCases
unfolding all_groups
price_cases = record { half_up = refl; invoice_prices = (refl, refl); first = refl; lines = refl; values = refl; nets = (refl, refl) }

pub worked_cases : WorkedCases
worked_cases = (pairing_cases, price_cases)

example_sound : Sound example
example_sound = sound_from example refl

pub premises_hold : PremisesHold
premises_hold = (example_sound, all_notified example example_sound)
