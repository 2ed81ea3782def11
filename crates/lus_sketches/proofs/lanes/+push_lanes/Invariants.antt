-- One level fewer is left below the fields.
use Rattle.lus_sketches.proofs.lanes.+push_lanes.Given as goal

abbrev pub decreases-push_lanes : goal.decreases-push_lanes
decreases-push_lanes l = l.levels
