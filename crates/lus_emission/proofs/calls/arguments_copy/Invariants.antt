use Rattle.std.proofs.Common.{◌≡◌, map, take}
use Rattle.lus_emission.specs.Calls.{seen_argument}
use Rattle.lus_emission.proofs.calls.arguments_copy.Given as goal

abbrev pub invariant-loop-argument : goal.invariant-loop-argument
invariant-loop-argument l = map seen_argument l.all.items ≡ map seen_argument (take l.argument-index l.arguments)
