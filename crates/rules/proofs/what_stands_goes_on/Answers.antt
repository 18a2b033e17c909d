use Rattle.rules.proofs.WhereItStands.{room_stays, refused_stands, registers_follow, covered_or_short}
use Rattle.rules.proofs.what_stands_goes_on.Goals as goal

pub returns : goal.returns
returns c = record {
  room_is_never_too_small = room_stays;
  refused_moves_nothing = refused_stands;
  its_registers_follow_the_tally = registers_follow;
  short_is_the_only_refusal = covered_or_short;
}
