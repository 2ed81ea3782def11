-- The steps so far come before those of the rows that are left.
use Rattle.std.proofs.Common.{◌≡◌, ◌++◌, drop, map, option_map, string_bytes}
use Rattle.std.specs.Arc.{arc_value}
use Rattle.csv.specs.Records.{fields_of}
use Rattle.lus_live_instance.specs.MachineSpecs.CodeSpecs.Codes.{program_of}
use Rattle.lus_scripts.specs.Forms.{each}
use Rattle.lus_test.specs.Tables.{step_under}
use Rattle.lus_test.proofs.table.read_steps.Given as goal

abbrev pub invariant-loop-place : goal.invariant-loop-place
invariant-loop-place l =
    each (step_under (program_of (arc_value l.program)) l.node.0 (map string_bytes l.head.keys)) (map fields_of l.rows)
    ≡ option_map (λ rest. l.steps.items ++ rest)
    (each (step_under (program_of (arc_value l.program)) l.node.0 (map string_bytes l.head.keys)) (map fields_of (drop l.place l.rows)))
