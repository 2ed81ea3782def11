-- What types are named as: one that is named as a structure is declared as one, and one that is named as an enumeration as one.
use Rattle.lus_values.specs.Lists.{Each}
use Rattle.lus_program.specs.declared.types.Kind.{Kind}
use Rattle.lus_program.specs.declared.types.Kind.TheVariants as kinds
use Rattle.lus_program.specs.Kinds.{fields_in}
use Rattle.lus_program.specs.Programs.{Declared, alias, enumeration, structure, Program}
use Rattle.lus_program.specs.Resolved.{declared_in}

abbrev pub IsStructure : Declared → Type 0
IsStructure (structure fs) = Unit {0}
IsStructure d = ⊥

abbrev pub IsEnumeration : Declared → Type 0
IsEnumeration (enumeration cs) = Unit {0}
IsEnumeration d = ⊥

abbrev pub IsNamedRight : Program → Kind → Type 0
IsNamedRight p (kinds.Struct t) = IsStructure (declared_in p t)
IsNamedRight p (kinds.Enum t) = IsEnumeration (declared_in p t)
IsNamedRight p k = Unit {0}

-- so are the types of fields and of variables
pub record KindsAreNamedRight (p : Program) : Type 0 where
  pub fields : Each (λ d. Each (λ g. IsNamedRight p g.kind) (fields_in d)) p.types
  pub variables : Each (λ f. Each (λ v. IsNamedRight p v.kind) f.variables) p.nodes
