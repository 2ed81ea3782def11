use Rattle.std.proofs.Common.{◌≡◌, ◌++◌, ℕ, map, drop}
use Rattle.lus_classes.specs.View.{taken}
use Rattle.lus_translation.specs.Forms.{answers_form}
use Rattle.lus_translation.proofs.steps.targets_of.Given as goal

abbrev pub invariant-loop-variable : goal.invariant-loop-variable
invariant-loop-variable l =
    (number : ℕ) → map (taken number) l.found.items ++ answers_form number l.inputs l.targets (drop l.variable-index l.variables) ≡ answers_form number l.inputs l.targets l.variables
