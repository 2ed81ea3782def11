-- The formals are the first variables, inputs and outputs.
use Rattle.std.proofs.Common.{◌+◌, take, ap₂, ◌∙◌}
use Rattle.lus_program.specs.View.{variable_of}
use Rattle.lus_clocks.proofs.Lookups.{map-take}
use Rattle.lus_clocks.proofs.formals.formals_at.Goals as goal

pub returns-then-count-variables : goal.returns-then-count-variables
returns-then-count-variables c =
    map-take variable_of (c.inputs_at.result + c.outputs_at.result) c.variables_at-variables.result.now
    ∙ ap₂ take (ap₂ ◌+◌ c.inputs_at.ensures c.outputs_at.ensures) c.variables_at-variables.ensures
