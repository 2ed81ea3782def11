-- Flags hold in worlds and in those that they call.
use Rattle.lus_streams.proofs.FlagLaw.{flags_hold_in_worlds}
use Rattle.lus_streams.proofs.flags_hold.Goals as goal

pub returns : goal.returns
returns c = flags_hold_in_worlds
