-- What a typed program keeps: it is resolved, each constructor in its text is declared, its types are what they are named as, no
-- structure has itself among its fields, directly or round, each has one, and there are no more nodes, nor is a node or type larger,
-- than a source may declare. Passes after types rely on this, and on nothing of the tree.
use Rattle.std.specs.Prelude.{◌<◌, ◌≤◌, ℕ, List, [], ◌∷◌, map, flat_map, length}
use Rattle.lus_values.specs.Lists.{Each}
use Rattle.lus_graph.specs.Ways.{Uses, HasNoWayBack, IsOrder}
use Rattle.lus_syntax.specs.Limits.{most_declarations, most_variables, most_constructors}
use Rattle.lus_program.specs.declared.types.Kind.{Kind}
use Rattle.lus_program.specs.declared.types.Kind.TheVariants as kinds
use Rattle.lus_program.specs.Programs.{Declared, alias, enumeration, structure, Program}
use Rattle.lus_program.specs.Kinds.{constructors_in}
use Rattle.lus_program.specs.Literals.{HasDeclaredLiterals}
use Rattle.lus_program.specs.NamedKinds.{KindsAreNamedRight}
use Rattle.lus_program.specs.Resolved.{Resolved, program_uses}
use Rattle.lus_program.specs.Leaves.{AreTheLeaves}

-- the structure that a type is, if it is one
abbrev pub structures_in : Kind → List ℕ
structures_in (kinds.Struct t) = t ∷ []
structures_in k = []

abbrev pub declared_uses : Declared → List ℕ
declared_uses (alias k) = structures_in k
declared_uses (enumeration cs) = []
declared_uses (structure fs) = flat_map (λ g. structures_in g.kind) fs

-- the structures that each type's declaration names
abbrev pub type_uses : Program → Uses
type_uses p = map declared_uses p.types

-- there are no more nodes, no node has more variables, and no type more constructors, than a source may declare
pub record IsLimited (p : Program) : Type 0 where
  pub nodes : length p.nodes ≤ most_declarations
  pub variables : Each (λ f. length f.variables ≤ most_variables) p.nodes
  pub constructors : Each (λ d. constructors_in d ≤ most_constructors) p.types

-- a structure has fields, as each that can be written has
abbrev pub HasFields : Declared → Type 0
HasFields (structure fs) = 0 < length fs
HasFields d = Unit {0}

abbrev pub HaveFields : Program → Type 0
HaveFields p = Each HasFields p.types

pub record IsSound (p : Program) : Type 0 where
  pub resolved : Resolved p
  pub literals : HasDeclaredLiterals p
  pub kinds : KindsAreNamedRight p
  pub loopless : HasNoWayBack (type_uses p)
  pub fields : HaveFields p
  pub limited : IsLimited p

-- things have an order in which what one uses stands before it
abbrev pub HaveOrder : Uses → Type 0
HaveOrder uses = (order : List ℕ) × IsOrder uses order

-- what was found of a sound program: an order in which the nodes that one calls stand before it, that there is one of its types, and
-- the leaves of these
pub record AreFound (p : Program) (nodes leaves : List ℕ) : Type 0 where
  pub sound : IsSound p
  pub order : IsOrder (program_uses p) nodes
  pub types : HaveOrder (type_uses p)
  pub leaves_are : AreTheLeaves p leaves
