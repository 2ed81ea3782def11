-- What inputs are tested for was found to be shaped.
use Rattle.lus_growth_tests.proofs.without_memory.is_object_answered.Goals as goal

pub are_inputs_answered-fits-requires : goal.are_inputs_answered-fits-requires
are_inputs_answered-fits-requires c = c.shaped.ensures.0 c.if-shaped.true
