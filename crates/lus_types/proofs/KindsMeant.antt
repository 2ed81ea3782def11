-- The types of the fields and variables of what a tree means are named as they are declared.
use Rattle.std.proofs.Common.{◌≡◌, refl, sym, subst, ℕ, zero, suc, List, [], ◌∷◌, length, map, flat_map, Option, Some, None}
use Rattle.lus_values.specs.Lists.{item, Each}
use Rattle.lus_values.proofs.Lists.{each_append}
use Rattle.lus_graph.specs.Along.{within}
use Rattle.lus_syntax.specs.Trees as tree
use Rattle.lus_syntax.specs.Trees.{Named, TypeName, BoolName, IntName, DeclaredName, Fields, Definition, Alias, Enumeration, StructureOf, TypeDeclaration, Group, Tree}
use Rattle.lus_program.specs.declared.types.Kind.{Kind}
use Rattle.lus_program.specs.declared.types.Kind.TheVariants as kinds
use Rattle.lus_program.specs.Kinds.{fields_in, nothing_declared}
use Rattle.lus_program.specs.NamedKinds.{IsStructure, IsEnumeration, IsNamedRight, KindsAreNamedRight}
use Rattle.lus_program.specs.Programs.{Field, Variable}
use Rattle.lus_program.specs.Resolved.{declared_in}
use Rattle.lus_source.specs.Loopless.{place_in, type_names}
use Rattle.lus_source.specs.Meaning.{variables_of, node_meant, program_of}
use Rattle.lus_source.specs.Tables.{of_type, definition_at, no_definition, definition_kind, kind_named, fields_declared, fields_of_kind, declared_as, groups, scope}

module _ (p : Tree) where
  abbrev Right : Kind → Type 0
  Right = IsNamedRight (program_of p)

  declared_from : (ds : List TypeDeclaration) (t : ℕ) → item nothing_declared (map (λ d. declared_as p d.definition) ds) t ≡ declared_as p (item no_definition (map (λ d. d.definition) ds) t)
  declared_from (d ∷ ds) (suc t) = declared_from ds t
  declared_from ds t = refl

  -- the type of a declaration, its names followed n times
  abbrev followed : ℕ → ℕ → Kind
  followed n = within n kinds.Bool (λ at t. definition_kind (type_names p) at t (definition_at p t))

  place_right : (at : ℕ → Kind) → ((s : ℕ) → Right (at s)) → (o : Option ℕ) → Right (elim o [ Some s ↦ at s | None ↦ kinds.Bool ])
  place_right at h None = tt
  place_right at h (Some s) = h s

  name_right : (at : ℕ → Kind) → ((s : ℕ) → Right (at s)) → (y : TypeName) → Right (of_type (type_names p) at y)
  name_right at h (BoolName s) = tt
  name_right at h (IntName s) = tt
  name_right at h (DeclaredName n) = place_right at h (place_in (type_names p) n.text)

  definition_right : (at : ℕ → Kind) → ((s : ℕ) → Right (at s)) → (t : ℕ) (d : Definition) → declared_in (program_of p) t ≡ declared_as p d → Right (definition_kind (type_names p) at t d)
  definition_right at h t (Alias y) is = name_right at h y
  definition_right at h t (Enumeration cs) is = subst IsEnumeration (sym is) tt
  definition_right at h t (StructureOf fs) is = subst IsStructure (sym is) tt

  followed_right : (n s : ℕ) → Right (followed n s)
  followed_right zero s = tt
  followed_right (suc n) s = definition_right (followed n) (followed_right n) s (definition_at p s) (declared_from p.types s)

  named_right : (y : TypeName) → Right (kind_named p y)
  named_right y = name_right (followed (length p.types)) (followed_right (length p.types)) y

  -- fields
  group_right : (k : Kind) → Right k → (ns : List Named) → Each (λ g. Right g.kind) (fields_of_kind ns k)
  group_right k h [] = tt
  group_right k h (n ∷ ns) = (h, group_right k h ns)

  fields_right : (fs : List Fields) → Each (λ g. Right g.kind) (fields_declared p fs)
  fields_right [] = tt
  fields_right (g ∷ fs) =
      each_append (λ (f : Field). Right f.kind) (fields_of_kind g.names (kind_named p g.type_name)) (fields_declared p fs)
      (group_right (kind_named p g.type_name) (named_right g.type_name) g.names)
      (fields_right fs)

  declared_right : (d : Definition) → Each (λ g. Right g.kind) (fields_in (declared_as p d))
  declared_right (Alias y) = tt
  declared_right (Enumeration cs) = tt
  declared_right (StructureOf fs) = fields_right fs

  types_right : (ds : List TypeDeclaration) → Each (λ d. Each (λ g. Right g.kind) (fields_in d)) (map (λ d. declared_as p d.definition) ds)
  types_right [] = tt
  types_right (d ∷ ds) = (declared_right d.definition, types_right ds)

  -- variables
  variables_right : (f : tree.Node) (g : Group) → Each (λ v. Right v.kind) (variables_of p (scope p f) g)
  variables_right f g = by g.names
    where
      by : (ns : List Named) → Each (λ v. Right v.kind) (variables_of p (scope p f) (record g { names = ns }))
      by [] = tt
      by (n ∷ ns) = (named_right g.type_name, by ns)

  groups_right : (f : tree.Node) (gs : List Group) → Each (λ v. Right v.kind) (flat_map (variables_of p (scope p f)) gs)
  groups_right f [] = tt
  groups_right f (g ∷ gs) = each_append (λ (v : Variable). Right v.kind) (variables_of p (scope p f) g) (flat_map (variables_of p (scope p f)) gs) (variables_right f g) (groups_right f gs)

  nodes_right : (fs : List tree.Node) → Each (λ f. Each (λ v. Right v.kind) f.variables) (map (node_meant p) fs)
  nodes_right [] = tt
  nodes_right (f ∷ fs) = (groups_right f (groups f), nodes_right fs)

  -- of each tree, well formed or not
  pub meant_kinds : KindsAreNamedRight (program_of p)
  meant_kinds = record { fields = types_right p.types; variables = nodes_right p.nodes }
