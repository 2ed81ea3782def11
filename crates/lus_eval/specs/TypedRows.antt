-- Rows against the types of variables, as the code holds them.
use Rattle.std.specs.Prelude.{Bool, List, Option, map}
use Rattle.lus_values.specs.declared.value.Value.{Value}
use Rattle.lus_values.specs.Values.{fields_of}
use Rattle.lus_values.specs.View.{value_of, entry_of}
use Rattle.lus_program.specs.declared.types.Field.{Field as StoredField}
use Rattle.lus_program.specs.declared.node.Variable.{Variable as StoredVariable}
use Rattle.lus_program.specs.Programs.{Program, Field, Variable}
use Rattle.lus_program.specs.View.{field_of, variable_of}
use Rattle.lus_code.specs.SimulationSpecs.Fitting.{are_of, row_fits}

module _ (p : Program) where
  -- values are of the types of fields
  abbrev pub values_fit : List StoredField → List Value → Bool
  values_fit fs vs = are_of p (map (λ (f : Field). f.kind) (map field_of fs)) (fields_of (map value_of vs))

  -- entries are absent or of the types of variables
  abbrev pub entries_fit : List StoredVariable → List (Option Value) → Bool
  entries_fit xs es = row_fits p (map (λ (v : Variable). v.kind) (map variable_of xs)) (map entry_of es)
