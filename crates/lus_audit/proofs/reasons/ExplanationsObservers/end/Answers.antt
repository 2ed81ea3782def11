-- The journal's reasons stand behind those before them.
use Rattle.std.proofs.Common.{◌∙◌}
use Rattle.lus_audit.proofs.ReasonLaws.{tells_more}
use Rattle.lus_audit.proofs.reasons.ExplanationsObservers.end.Goals as goal

pub returns : goal.returns
returns c = λ js j instance named told so_far.
    tells_more _ js j _ _ _ _ _ named told (c.as_bytes.ensures.value ∙ c.text.ensures) c.in_ok-extend_from_slice.ensures.items so_far
