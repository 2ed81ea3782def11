-- What was found is what is idle so far.
use Rattle.std.proofs.Common.{◌≡◌, take}
use Rattle.std.specs.List.{filter}
use Rattle.lus_warnings.specs.Uses.{is_idle_by}
use Rattle.lus_warnings.proofs.unused.idle_of.Given as goal

abbrev pub invariant-loop-declaration : goal.invariant-loop-declaration
invariant-loop-declaration l = l.found.items ≡ filter (is_idle_by l.names) (take l.declaration-index l.declared)
