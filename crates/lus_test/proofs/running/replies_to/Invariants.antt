-- The history so far is that of the requests so far, and the replies are its.
use Rattle.std.proofs.Common.{◌≡◌, map, take}
use Rattle.std.specs.Arc.{arc_value}
use Rattle.lus_live_instance.specs.MachineSpecs.CodeSpecs.Codes.{program_of}
use Rattle.lus_live_instance.specs.MachineSpecs.Machines.{IsLawful}
use Rattle.lus_test.proofs.running.replies_to.Given as goal

abbrev pub invariant-loop-request : goal.invariant-loop-request
invariant-loop-request l = record {
  program : l.reactor.program ≡ program_of (arc_value l.program);
  node : l.reactor.node ≡ l.fn.node.0;
  lawful : IsLawful l.reactor;
  asked : map (λ e. e.request) l.reactor.history ≡ take l.request-index l.requests;
  answered : map (λ e. e.reply) l.reactor.history ≡ l.replies.items;
}
