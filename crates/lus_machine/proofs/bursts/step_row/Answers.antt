use Rattle.std.proofs.Common.{rules, ◌≡◌, true, false}
use Rattle.lus_eval.specs.SimulationSpecs.Fitting.{has_shape, has_presence}
use Rattle.lus_eval.specs.CodeSpecs.Codes.{program_of}
use Rattle.lus_machine.proofs.RowSteps.{row_misshapen, row_misplaced, row_faults, row_goes}
use Rattle.lus_machine.proofs.bursts.step_row.Goals as goal

pub returns-then-not-fits_shape-clause-refused : goal.returns-then-not-fits_shape-clause-refused
returns-then-not-fits_shape-clause-refused c =
    let shape : has_shape (program_of c.args.code.now) c.args.object.now.node c.args.row.now ≡ false = search rules in
    row_misshapen c.args.code.now c.args.object.now c.args.row.now shape

pub returns-then-not-fits_presence-clause-refused : goal.returns-then-not-fits_presence-clause-refused
returns-then-not-fits_presence-clause-refused c =
    let shape : has_shape (program_of c.args.code.now) c.args.object.now.node c.args.row.now ≡ true = search rules in
    let presence : has_presence (program_of c.args.code.now) c.args.object.now.node c.args.row.now ≡ false = search rules in
    row_misplaced c.args.code.now c.args.object.now c.args.row.now shape presence

pub returns-in-Ok-clause-ok : goal.returns-in-Ok-clause-ok
returns-in-Ok-clause-ok c =
    let shape : has_shape (program_of c.args.code.now) c.args.object.now.node c.args.row.now ≡ true = search rules in
    let presence : has_presence (program_of c.args.code.now) c.args.object.now.node c.args.row.now ≡ true = search rules in
    row_goes c.args.code.now c.args.object.now c.args.row.now c.in-Ok.outputs c.step.new.self shape presence c.in-Ok.ensures.ok

pub returns-in-Err-Fault-clause-refused : goal.returns-in-Err-Fault-clause-refused
returns-in-Err-Fault-clause-refused c =
    let shape : has_shape (program_of c.args.code.now) c.args.object.now.node c.args.row.now ≡ true = search rules in
    let presence : has_presence (program_of c.args.code.now) c.args.object.now.node c.args.row.now ≡ true = search rules in
    row_faults c.args.code.now c.args.object.now c.args.row.now shape presence (c.in-Err-Fault.ensures.fault c.in-Err-Fault.field-0-is)
