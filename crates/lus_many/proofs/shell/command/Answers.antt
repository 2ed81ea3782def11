-- A fault is told behind what was said before.
use Rattle.std.proofs.Common.{Err}
use Rattle.lus_cli.proofs.TellingLemmas.{told_alone}
use Rattle.lus_many.proofs.shell.command.Goals as goal

pub returns-clause-ends : goal.returns-clause-ends
returns-clause-ends g c = record {
  outcome = Err c.in-Err.fault;
  ends = c.in-Err.ensures.ends;
  told = told_alone c.tell-in-Err.result (g.F.Sink.written c.args.faults.now) (g.F.Sink.written c.perform.new.faults) (g.F.Sink.written c.tell-in-Err.new.faults)
      (g.F.Sink.failures c.args.faults.now) (g.F.Sink.failures c.perform.new.faults) (g.F.Sink.failures c.tell-in-Err.new.faults) c.in-Err.fault
      c.in-Err.ensures.quiet c.tell-in-Err.ensures;
}
