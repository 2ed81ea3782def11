-- What a well-formed tree means is sound, and what is found of its nodes and types holds of the program.
use Rattle.std.proofs.Common.{◌≡◌, sym, subst, ℕ, List}
use Rattle.lus_graph.specs.Ways.{IsOrder}
use Rattle.lus_syntax.specs.Trees.{Tree}
use Rattle.lus_program.specs.Programs.{Program}
use Rattle.lus_program.specs.Leaves.{AreTheLeaves}
use Rattle.lus_program.specs.Sound.{AreFound, HaveOrder}
use Rattle.lus_source.specs.Loopless.{node_uses, type_uses}
use Rattle.lus_source.specs.Meaning.{program_of}
use Rattle.lus_source.specs.Refusals.{WellFormed}
use Rattle.lus_source.proofs.FieldsMeant.{meant_fields}
use Rattle.lus_source.proofs.TypesMeant.{types_loopless, types_order}
use Rattle.lus_types.specs.Laws.{MeantProgramsAreSound}
use Rattle.lus_types.proofs.CallsNamed.{meant_loopless, meant_order}
use Rattle.lus_types.proofs.KindsMeant.{meant_kinds}
use Rattle.lus_types.proofs.Limited.{meant_limited}
use Rattle.lus_types.proofs.LiteralsMeant.{meant_literals}
use Rattle.lus_types.proofs.NodesMeant.{meant_nodes_resolved}

pub meant_programs_are_sound : MeantProgramsAreSound
meant_programs_are_sound t formed = record {
  resolved = record { nodes = meant_nodes_resolved t formed; loopless = meant_loopless t formed.loopless.nodes };
  literals = meant_literals t;
  kinds = meant_kinds t;
  loopless = types_loopless t formed.loopless.types;
  fields = meant_fields t formed.counted;
  limited = meant_limited t formed;
}

pub found : (t : Tree) (p : Program) (nodes leaves : List ℕ) → WellFormed t → p ≡ program_of t → IsOrder (node_uses t) nodes → HaveOrder (type_uses t) → AreTheLeaves (program_of t) leaves → AreFound p nodes leaves
found t p nodes leaves formed means order types are_leaves =
    subst (λ q. AreFound q nodes leaves) (sym means) (record { sound = meant_programs_are_sound t formed; order = meant_order t nodes order; types = (types.0, types_order t types.0 types.1); leaves_are = are_leaves })
