-- The entry was seen, or there was no memory for it.
use Rattle.std.proofs.Common.{rules, ◌≡◌}
use Rattle.std.specs.Arc.{arc_value}
use Rattle.lus_live_instance.specs.MachineSpecs.CodeSpecs.Codes.{program_of}
use Rattle.lus_lawful.proofs.Observing.{seen_more, seen_no_more}
use Rattle.lus_lawful.proofs.observed.ObservedReacts.call.Goals as goal

pub returns-in-Ok-clause-same : goal.returns-in-Ok-clause-same
returns-in-Ok-clause-same g c p f observed =
    let same : program_of c.deref.result.now ≡ program_of (arc_value c.args.self.now.program) = search rules in
    seen_more (g.O.Observer.seen c.args.self.now.observer) (g.O.Observer.seen c.see-seen.new.self) p f _ _ _ _ _ observed (c.call.ensures.same p f) _ _ same c.in_ok-reply.ensures.ok c.in-Ok.ensures

pub returns-in-Err-clause-same : goal.returns-in-Err-clause-same
returns-in-Err-clause-same g c p f observed = seen_no_more (g.O.Observer.seen c.args.self.now.observer) (g.O.Observer.seen c.see-seen.new.self) p f _ _ _ _ _ observed (c.call.ensures.same p f)
