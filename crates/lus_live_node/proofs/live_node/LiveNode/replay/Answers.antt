-- The instance of a right line takes the place of the one before it.
use Rattle.lus_live_node.proofs.LiveLaws.{replayed}
use Rattle.lus_live_node.proofs.live_node.LiveNode.replay.Goals as goal

pub invariant_of-self : goal.invariant_of-self
invariant_of-self c = replayed c.in-Ok.verdict _ _ _ _ _ _ _ c.self.invariant c.self.view_is c.in-Ok.ensures c.in-Right.is
