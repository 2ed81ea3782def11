-- What is stepped was found to be shaped.
use Rattle.lus_surface_tests.proofs.objects.step_object.Goals as goal

pub step_fitting-requires : goal.step_fitting-requires
step_fitting-requires c = c.shaped.ensures.0 c.if-shaped.true
