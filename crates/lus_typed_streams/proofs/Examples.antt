-- Small nodes, and the types of their values.
use Rattle.std.proofs.Common.{true, pos, List, [], ◌∷◌, Option, Some, None, sym, rules, true≢false}
use Rattle.lus_values.specs.Values.{Value, int, enum, struct, nil, end, field}
use Rattle.lus_program.specs.declared.types.Kind.{Kind}
use Rattle.lus_program.specs.declared.types.Kind.TheVariants.{Int as IntKind, Enum as EnumKind, Struct as StructKind}
use Rattle.lus_program.specs.Programs.{literal, variable, pre, Declared, enumeration, structure, Field, Variable, Node, Program}
use Rattle.lus_values.specs.Lists.{Each}
use Rattle.lus_streams.specs.Equations.{node_parts}
use Rattle.lus_streams.specs.Order.{IsCausal}
use Rattle.lus_streams.specs.Streams.{Instant, Streams}
use Rattle.lus_streams.proofs.Examples.{equation, node, some, truth, at_base, swapped}
use Rattle.lus_typed_streams.specs.Types.{declares, any_number, HasType}
use Rattle.lus_typed_streams.specs.Laws.{EquationsFit, HasLiteralsOf, PartHasType, TypesHoldOver}
use Rattle.lus_typed_streams.proofs.Worlds.{values_have_types}

abbrev of_kind : Kind → Variable
of_kind k = record { name = []; kind = k; test = None }

-- a field of int
abbrev whole_field : Field
whole_field = record { name = []; kind = IntKind }

-- type pair = struct { x : int; y : int }; type color = enum { Red, Green };
abbrev types : List Declared
types = structure (whole_field ∷ whole_field ∷ []) ∷ enumeration ([] ∷ [] ∷ []) ∷ []

abbrev program_of : Node → Program
program_of f = record { types = types; nodes = f ∷ [] }

-- of pair a: b = pair { y = a.x; x = a.y }; s = a.x + a.y
abbrev pairs : Program
pairs = program_of (node 1 2 (of_kind (StructKind 0) ∷ of_kind (StructKind 0) ∷ of_kind IntKind ∷ []) swapped.equations)

abbrev pair : Value → Value → Option Value
pair x y = Some (struct (field x (field y end)))

abbrev pairs_at : Instant
pairs_at = at_base (pair (int (pos 1)) (int (pos 2)) ∷ pair (int (pos 2)) (int (pos 1)) ∷ some 3 ∷ [])

pairs_are_in_streams : Streams pairs 0 ((pair (int (pos 1)) (int (pos 2)) ∷ []) ∷ []) (pairs_at ∷ [])
pairs_are_in_streams = search rules

pairs_fit : EquationsFit pairs
pairs_fit = search rules

-- each expression, by computation
parts_of_pairs : Each (λ f. Each (PartHasType pairs any_number f pairs_at []) (node_parts pairs f)) pairs.nodes
parts_of_pairs = search rules

-- and all, by the law
pairs_are_typed : IsCausal pairs → TypesHoldOver pairs any_number 0 (pairs_at ∷ [])
pairs_are_typed causal = values_have_types pairs any_number pairs_fit (search rules) causal 0 (pairs_at ∷ []) pairs_are_in_streams.satisfied (search rules)

-- nil has each type, and a structure with nil inside has none
nil_has_types : HasType pairs any_number (StructKind 0) (Some nil)
nil_has_types = search rules

nil_is_no_field : HasType pairs any_number (StructKind 0) (pair (int (pos 1)) nil) → ⊥
nil_is_no_field h = true≢false (sym h)

-- y = pre x: nil at the first instant
abbrev delayed : Program
delayed = program_of (node 1 1 (of_kind IntKind ∷ of_kind IntKind ∷ []) (equation 1 (pre (variable 0)) ∷ []))

delayed_is_nil : Streams delayed 0 ((some 4 ∷ []) ∷ []) (at_base (some 4 ∷ Some nil ∷ []) ∷ [])
delayed_is_nil = search rules

-- x = x, of int: some streams have true there, so the law wants a causal program
abbrev itself : Program
itself = program_of (node 0 1 (of_kind IntKind ∷ []) (equation 0 (variable 0) ∷ []))

itself_fits : EquationsFit itself
itself_fits = search rules

itself_may_be_true : Streams itself 0 ([] ∷ []) (at_base (truth true ∷ []) ∷ [])
itself_may_be_true = search rules

true_is_no_int : HasType itself any_number IntKind (truth true) → ⊥
true_is_no_int h = true≢false (sym h)

-- c = the constructor of color at place 2, which there isn't: a number, and none that the program declares
abbrev blue : Program
blue = program_of (node 0 1 (of_kind (EnumKind 1) ∷ []) (equation 0 (literal (enum 1 2)) ∷ []))

blue_fits : EquationsFit blue
blue_fits = search rules

blue_is_in_streams : Streams blue 0 ([] ∷ []) (at_base (Some (enum 1 2) ∷ []) ∷ [])
blue_is_in_streams = search rules

blue_is_a_number : HasType blue any_number (EnumKind 1) (Some (enum 1 2))
blue_is_a_number = search rules

blue_is_not_declared : HasType blue (declares blue) (EnumKind 1) (Some (enum 1 2)) → ⊥
blue_is_not_declared h = true≢false (sym h)

blue_has_other_literals : HasLiteralsOf blue (declares blue) → ⊥
blue_has_other_literals h = true≢false (sym h.0.0)
