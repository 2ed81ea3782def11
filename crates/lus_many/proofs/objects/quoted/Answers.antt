use Rattle.std.proofs.Common.{rules}
use Rattle.lus_many.specs.Objects.{quoted}
use Rattle.lus_many.proofs.objects.quoted.Goals as goal

pub returns : goal.returns
unfolding quoted
returns c = search rules
