-- What stands before a blank is within its text.
use Rattle.std.proofs.Common.{arith}
use Rattle.lus_asked.proofs.Pieces.{blank_within}
use Rattle.lus_asked.proofs.asked.split_blank.Goals as goal

pub split_at-requires : goal.split_at-requires
split_at-requires c = omega (arith, c.blank_place.ensures, blank_within c.args.text.now)
