use Rattle.std.proofs.Common.{◌≡◌, drop, take}
use Rattle.lus_emission.specs.Calls.{AreCallsAt, cells_end}
use Rattle.lus_emission.proofs.calls.calls_of.Given as goal

abbrev pub invariant-loop-call : goal.invariant-loop-call
invariant-loop-call l = record {
  at : AreCallsAt l.emitted l.from (take l.call-index l.calls) l.made.items l.end;
  rest : cells_end l.emitted l.end (drop l.call-index l.calls) ≡ cells_end l.emitted l.from l.calls;
}
