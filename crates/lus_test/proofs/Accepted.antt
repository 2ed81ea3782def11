-- What an accepted program has: its nodes need variables alone, whose places have 32 bits.
use Rattle.std.proofs.Common.{sym, subst}
use Rattle.lus_values.specs.Lists.{Each}
use Rattle.lus_program.specs.Programs.{Program}
use Rattle.lus_program.specs.Resolved.{Resolved}
use Rattle.lus_program.specs.Sound.{IsLimited}
use Rattle.lus_types.proofs.ProgramsMeant.{meant_programs_are_sound}
use Rattle.lus_streams.proofs.NeedsResolved.{resolved_needs_are_variables}
use Rattle.lus_order.specs.Orders.{IsNarrow, NeedsVariables}
use Rattle.lus_order.proofs.Narrow.{few_are_narrow}
use Rattle.lus_cli.specs.MachineSpecs.Acceptance.{IsAccepted}

pub accepted_needs : (p : Program) → IsAccepted p → Each NeedsVariables p.nodes
accepted_needs p a = resolved_needs_are_variables p (subst Resolved (sym a.1.means) (meant_programs_are_sound a.1.tree a.1.formed).resolved)

pub accepted_narrow : (p : Program) → IsAccepted p → Each IsNarrow p.nodes
accepted_narrow p a =
    few_are_narrow p.nodes (subst IsLimited (sym a.1.means) (meant_programs_are_sound a.1.tree a.1.formed).limited).variables
