-- A program that is not resolved: its call has no output.
use Rattle.std.proofs.Common.{[], ◌∷◌, arith}
use Rattle.lus_program.specs.Programs.{Program, call, none, empty_node}
use Rattle.lus_streams.specs.Clocks.{at}
use Rattle.lus_streams.specs.Flags.{HasOutput}

-- node g() returns (); let tel
abbrev silent : Program
silent = record { types = []; nodes = empty_node ∷ [] }

bare_has_no_output : HasOutput silent (at [] (call 0 0 none)) → ⊥
bare_has_no_output some = absurd (omega (arith, some))
