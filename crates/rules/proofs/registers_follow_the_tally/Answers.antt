use Rattle.rules.proofs.PostingsFollow.{postings_follow}
use Rattle.rules.proofs.registers_follow_the_tally.Goals as goal

pub returns : goal.returns
returns c = record { postings_do_what_the_tally_tells = postings_follow }
