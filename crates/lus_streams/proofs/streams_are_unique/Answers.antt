-- Inputs determine the world.
use Rattle.lus_streams.proofs.Unique.{streams_unique}
use Rattle.lus_streams.proofs.streams_are_unique.Goals as goal

pub returns : goal.returns
returns c = streams_unique
