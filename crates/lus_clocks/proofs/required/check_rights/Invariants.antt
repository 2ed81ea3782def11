-- The rest meets its requirements where the whole does.
use Rattle.std.proofs.Common.{◌≡◌, drop}
use Rattle.lus_clocks.specs.Raising.{flags_in, rights_meet}
use Rattle.lus_clocks.proofs.required.check_rights.Given as goal

abbrev pub invariant-loop-equation : goal.invariant-loop-equation
invariant-loop-equation l = rights_meet (flags_in l.flags) (drop l.equation-index l.node.equations.items) ≡ rights_meet (flags_in l.flags) l.node.equations.items
