-- The line is judged on a copy of the instance.
use Rattle.std.proofs.Common.{◌∙◌, ap}
use Rattle.lus_machine.specs.CodeSpecs.Codes.{program_of}
use Rattle.lus_machine.specs.Constructors.{names_of}
use Rattle.lus_live_node.proofs.LiveLaws.{tried}
use Rattle.lus_live_node.proofs.live_node.LiveNode.try_line.Goals as goal

pub returns : goal.returns
returns c =
    tried c.in_ok-verdict.verdict _ _ _ _ _ _ _ _ _ _ c.self.invariant c.self.view_is c.in_ok-copy.ensures
    (c.names-names.ensures ∙ ap (λ p. names_of (program_of p)) c.deref.ensures) c.in_ok-verdict.ensures.judged c.in_ok-verdict.ensures.same
