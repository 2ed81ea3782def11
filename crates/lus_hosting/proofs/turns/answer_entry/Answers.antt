-- By what was replayed.
use Rattle.std.proofs.Common.{string_bytes, subst, sym}
use Rattle.std.specs.Arc.{arc_value}
use Rattle.lus_live_instance.specs.MachineSpecs.CodeSpecs.Codes.{program_of}
use Rattle.lus_hosting.specs.Hosts.{Answers}
use Rattle.lus_hosting.proofs.AnswerLaws.{answered_entry}
use Rattle.lus_hosting.proofs.turns.answer_entry.Goals as goal

pub returns : goal.returns
returns c = λ reads j s log line words keeps.
    subst (λ k. Answers k reads (program_of (arc_value c.args.host.program.now)) c.args.host.node.0 j s log line (string_bytes c.clear.new.texts.entry)
    (string_bytes c.clear.new.texts.answer) c.replay_on.new.instances) (sym c.kind_of.ensures)
    (answered_entry _ _ _ _ _ log line _ _ c.replay_on.new.instances c.in_ok-verdict.verdict c.args.instance.now c.args.entry.now _ words.0 words.1 words.2
    (c.in_ok-verdict.ensures log keeps) c.clear.ensures.0 c.clear.ensures.1)
