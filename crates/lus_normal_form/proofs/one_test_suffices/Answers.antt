-- The newest test of a clock tells the clock.
use Rattle.lus_normal_form.proofs.OneTest.{one_test_suffices}
use Rattle.lus_normal_form.proofs.one_test_suffices.Goals as goal

pub returns : goal.returns
returns c = one_test_suffices
