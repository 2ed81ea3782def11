-- The line is written in three pieces; where one fails, a beginning of the line is written.
use Rattle.std.proofs.Common.{◌++◌, codes, refl}
use Rattle.lus_cli.specs.Faults.{fault_line, fault_text}
use Rattle.lus_cli.proofs.Pieces.{all_written, writes_cut, writes_on, writes_short}
use Rattle.lus_cli.proofs.shell.write_line.Goals as goal

pub returns-in_err-write_all : goal.returns-in_err-write_all
returns-in_err-write_all g c =
    let fault = c.args.fault.now in
    writes_short c.from_residual.result c.from_residual.ensures.0 (g.F.Sink.written c.args.faults.now) (g.F.Sink.written c.write_all.new.sink)
    (g.F.Sink.failures c.args.faults.now) (g.F.Sink.failures c.write_all.new.sink) (codes "error ") (fault_text fault ++ codes "\n") (fault_line fault) refl
    c.in_err-write_all.ensures.beginning c.in_err-write_all.ensures.failed

pub returns-in_err-write_fault : goal.returns-in_err-write_fault
returns-in_err-write_fault g c =
    let fault = c.args.fault.now in
    writes_cut (g.F.Sink.written c.args.faults.now) (g.F.Sink.written c.write_all.new.sink) (g.F.Sink.failures c.args.faults.now)
    (g.F.Sink.failures c.write_all.new.sink) (codes "error ") c.in_ok-write_all.ensures.whole c.in_ok-write_all.ensures.quiet
    c.from_residual-in_err-write_fault.result c.from_residual-in_err-write_fault.ensures.0 (g.F.Sink.written c.write_fault.new.faults)
    (g.F.Sink.failures c.write_fault.new.faults) (fault_text fault) (codes "\n") (fault_line fault) refl
    c.in_err-write_fault.ensures.0 c.in_err-write_fault.ensures.1

pub returns : goal.returns
returns g c =
    let fault = c.args.fault.now in
    let written = g.F.Sink.written in
    let failures = g.F.Sink.failures in
    let e = c.write_all-2.ensures in
    writes_on (written c.args.faults.now) (written c.write_all.new.sink) (failures c.args.faults.now) (failures c.write_all.new.sink) (codes "error ")
    c.in_ok-write_all.ensures.whole c.in_ok-write_all.ensures.quiet c.write_all-2.result (written c.write_all-2.new.sink) (failures c.write_all-2.new.sink)
    (fault_text fault ++ codes "\n")
    (writes_on (written c.write_all.new.sink) (written c.write_fault.new.faults) (failures c.write_all.new.sink) (failures c.write_fault.new.faults)
    (fault_text fault) c.in_ok-write_fault.ensures.0 c.in_ok-write_fault.ensures.1 c.write_all-2.result (written c.write_all-2.new.sink)
    (failures c.write_all-2.new.sink) (codes "\n")
    (all_written c.write_all-2.result (codes "\n") (written c.write_fault.new.faults) (written c.write_all-2.new.sink)
    (failures c.write_fault.new.faults) (failures c.write_all-2.new.sink) e.whole e.quiet e.beginning e.failed))
