-- A program that a well-formed source means is within the limits of its declarations.
use Rattle.std.proofs.Common.{arith, ◌≡◌, ℕ, ◌≤◌, List, [], ◌∷◌, length, map}
use Rattle.std.proofs.Math.ListN.{length-map}
use Rattle.lus_values.specs.Lists.{Each}
use Rattle.lus_syntax.specs.Limits.{most_constructors, most_variables}
use Rattle.lus_syntax.specs.Trees.{Definition, Enumeration, Node as SourceNode, Tree, TypeDeclaration}
use Rattle.lus_source.specs.Meaning.{node_meant, program_of}
use Rattle.lus_source.specs.Refusals.{WellFormed}
use Rattle.lus_source.specs.Sized.{DefinitionCounted, variable_count}
use Rattle.lus_program.specs.Sound.{IsLimited}
use Rattle.lus_source.specs.Tables.{declared_as, groups, scope, text_of}
use Rattle.lus_program.specs.Kinds.{constructors_in}
use Rattle.lus_source.proofs.Placing.{length-for_each}
use Rattle.lus_types.proofs.Scoped.{variable_meant}

constructors_few : (p : Tree) (d : Definition) → DefinitionCounted d → constructors_in (declared_as p d) ≤ most_constructors
constructors_few p (Enumeration cs) h = let size = length-map cs text_of in omega (arith, h, size)
constructors_few p d h = omega arith

types_few : (p : Tree) (ds : List TypeDeclaration) → Each (λ d. DefinitionCounted d.definition) ds
    → Each (λ d. constructors_in d ≤ most_constructors) (map (λ d. declared_as p d.definition) ds)
types_few p [] h = tt
types_few p (d ∷ ds) h = (constructors_few p d.definition h.0, types_few p ds h.1)

few_here : {m n : ℕ} → n ≤ most_variables → m ≡ n → m ≤ most_variables
few_here h e = omega (arith, h, e)

variables_few : (p : Tree) (fs : List SourceNode) → Each (λ f. variable_count (groups f) ≤ most_variables) fs
    → Each (λ f. length f.variables ≤ most_variables) (map (node_meant p) fs)
variables_few p [] h = tt
variables_few p (f ∷ fs) h = (few_here h.0 (length-for_each (variable_meant p (scope p f)) (groups f)), variables_few p fs h.1)

pub meant_limited : (t : Tree) → WellFormed t → IsLimited (program_of t)
meant_limited t formed = record {
  nodes = (
      let many = length-map t.nodes (node_meant t) in
      let nodes = formed.counted.nodes in
      omega (arith, many, nodes));
  variables = variables_few t t.nodes formed.counted.variables;
  constructors = types_few t t.types formed.counted.definitions;
}
