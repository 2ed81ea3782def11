-- What was appended and what the rest appends are the parts of the node.
use Rattle.std.proofs.Common.{◌≡◌, ◌≤◌, ◌++◌, drop, length, map}
use Rattle.lus_program.specs.View.{equations_from, node_of, program_seen}
use Rattle.lus_streams.specs.Equations.{equation_parts, node_parts}
use Rattle.lus_parts.specs.Parts.{part_of}
use Rattle.lus_parts.proofs.listing.parts_of.Given as goal

abbrev pub invariant-loop-equation : goal.invariant-loop-equation
invariant-loop-equation l =
    let p = program_seen l.program in
    let f = node_of l.node in
    record {
      room : l.next ≤ length l.found.items;
      found : map part_of l.found.items ++ equation_parts p f (equations_from l.next (drop l.equation-index l.node.equations.items)) ≡ node_parts p f;
    }
