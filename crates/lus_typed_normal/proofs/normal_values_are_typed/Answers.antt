-- Types hold in the worlds of normal forms.
use Rattle.lus_typed_normal.proofs.Literals.{normal_literals_are_declared}
use Rattle.lus_typed_normal.proofs.Made.{normal_equations_fit, normal_values_have_types, normal_values_have_declared_types, normal_streams_have_declared_types}
use Rattle.lus_typed_normal.proofs.normal_values_are_typed.Goals as goal

pub returns : goal.returns
returns c = record {
  equations = normal_equations_fit;
  worlds = normal_values_have_types;
  literals = normal_literals_are_declared;
  declared = normal_values_have_declared_types;
  streams = normal_streams_have_declared_types;
}
