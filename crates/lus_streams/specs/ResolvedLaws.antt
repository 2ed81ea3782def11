-- What each resolved program keeps of the streams that it means.
use Rattle.std.specs.Prelude.{◌<◌, length}
use Rattle.lus_values.specs.Lists.{Each, Below}
use Rattle.lus_program.specs.Programs.{Program}
use Rattle.lus_streams.specs.Flags.{CallsHaveOutputs}
use Rattle.lus_streams.specs.Order.{needed}
use Rattle.lus_program.specs.Resolved.{Resolved}

-- calls of a resolved program have outputs, one for each variable on their left
abbrev pub ResolvedCallsHaveOutputs : Type 0
ResolvedCallsHaveOutputs = (p : Program) → Resolved p → Each (CallsHaveOutputs p) p.nodes

-- in a resolved program what variables need at the same instant are variables of their node
abbrev pub ResolvedNeedsAreVariables : Type 0
ResolvedNeedsAreVariables = (p : Program) → Resolved p → Each (λ f. Below (length f.variables) (λ x. Each (λ y. y < length f.variables) (needed f x))) p.nodes
