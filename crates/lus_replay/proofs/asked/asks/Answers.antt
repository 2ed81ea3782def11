-- The line with the reply `done` begins as the request's.
use Rattle.std.proofs.Common.{◌∙◌}
use Rattle.lus_replay.proofs.Lines.{begins_asked}
use Rattle.lus_replay.proofs.asked.asks.Goals as goal

pub returns : goal.returns
returns c = begins_asked _ _ _ _ _ _ _ (c.as_bytes.ensures.value ∙ c.in_ok-spell.ensures) c.begins_as.ensures
