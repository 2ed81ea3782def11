-- The places of what a node's text names: labels, tests, branches and fields; None where there is none. Lustre V6 reference manual,
-- "Enumerated types", "Clocks", "Structures".
use Rattle.std.specs.Prelude.{◌&&◌, ℕ, zero, suc, Bool, true, false, List, [], ◌∷◌, Option, Some, None, cond, length, nat_eq, nat_le, option_map}
use Rattle.std.specs.Option.{option_and_then}
use Rattle.std.specs.Str.{bytes_eq}
use Rattle.lus_syntax.specs.Limits.{most_fields}
use Rattle.lus_syntax.specs.Lexemes.{Text}
use Rattle.lus_syntax.specs.Trees.{Label, Constructor, Boolean, Test, Holds, Fails, Is, Lead, Of, Branch, Parts, End, More}
use Rattle.lus_values.specs.Values.{Value, enum}
use Rattle.lus_values.specs.declared.test.Test.{Test as PlacedTest}
use Rattle.lus_program.specs.declared.types.Kind.{Kind}
use Rattle.lus_program.specs.declared.types.Kind.TheVariants as kinds
use Rattle.lus_program.specs.Programs.{Declared, Field as DeclaredField}
use Rattle.lus_program.specs.Kinds.{same, where_true, count, fields_in}
use Rattle.lus_program.specs.Resolved.{declared_in, values_of}
use Rattle.lus_source.specs.declared.entries.Placed.{Placed}
use Rattle.lus_source.specs.Heads.{heads}
use Rattle.lus_source.specs.Scopes.{Scope, entry}

-- the numbers from c on, n of them, stand in the list, each exactly once
abbrev pub each_counted : ℕ → ℕ → List ℕ → Bool
each_counted c zero ms = true
each_counted c (suc n) ms = nat_eq (count c ms) 1 && each_counted (suc c) n ms

-- the numbers below n stand in the list, each exactly once, and no other
abbrev pub each_once : ℕ → List ℕ → Bool
each_once n ms = each_counted 0 n ms && nat_eq (length ms) n

-- the field of this name, by its place, those before it being n
abbrev pub field_from : ℕ → List DeclaredField → Text → Option Placed
field_from n [] x = None
field_from n (f ∷ fs) x = cond (bytes_eq x f.name) (Some (record { place = n; kind = f.kind })) (field_from (suc n) fs x)

abbrev pub field_named : List DeclaredField → Text → Option Placed
field_named fs x = field_from 0 fs x

-- no structure has more fields than the limit
abbrev pub has_few_fields : Declared → Bool
has_few_fields d = nat_le (length (fields_in d)) most_fields

-- a test by its constructor and its variable: `c` is `true(c)`, `not c` is `false(c)`
abbrev pub test_variable : Test → Text
test_variable (Holds c) = c.text
test_variable (Fails p c) = c.text
test_variable (Is l c) = c.text

-- the place of a truth value among those of bool: false, true
abbrev pub truth_place : Kind → Bool → Option ℕ
truth_place k true = where_true (same k kinds.Bool) (Some 1)
truth_place k false = where_true (same k kinds.Bool) (Some 0)

module _ (s : Scope) where
  -- the value that a constant or a constructor stands for
  abbrev pub name_value : Text → Option Value
  name_value n = elim (entry s.constants n) [
    | Some v ↦ Some v
    | None ↦ option_map (λ c. enum c.enumeration c.place) (entry s.constructors n)
  ]

  -- the constructors of a type, as many as there are
  abbrev pub size_of : Kind → ℕ
  size_of = values_of (heads s)

  abbrev pub fields_of : Kind → List DeclaredField
  fields_of (kinds.Struct t) = fields_in (declared_in (heads s) t)
  fields_of k = []

  -- the place of a label among the constructors of a type
  abbrev pub label_place : Kind → Label → Option ℕ
  label_place k (Boolean b p) = truth_place k b
  label_place k (Constructor n) =
      option_and_then (λ c. where_true (same k (kinds.Enum c.enumeration)) (Some c.place)) (entry s.constructors n.text)

  -- `c` asks for true, `not c` for false
  abbrev pub asked_place : Kind → Test → Option ℕ
  asked_place k (Holds c) = truth_place k true
  asked_place k (Fails p c) = truth_place k false
  asked_place k (Is l c) = label_place k l

  abbrev pub asked_of : Test → Placed → Option PlacedTest
  asked_of t x = option_map (λ c. record { variable = x.place; constructor = c }) (asked_place x.kind t)

  -- the test of the program: its label is of its variable's type
  abbrev pub test_placed : Test → Option PlacedTest
  test_placed t = option_and_then (asked_of t) (entry s.variables (test_variable t))

  abbrev pub branch_place : Kind → Lead → Option ℕ
  branch_place k (Branch p l) = label_place k l
  branch_place k l = None

  -- the constructors before the arrows of a merge over a variable of type k
  abbrev pub branch_places : Kind → Parts → Option (List ℕ)
  branch_places k End = Some []
  branch_places k (More l e ps) = option_and_then (λ c. option_map (λ cs. c ∷ cs) (branch_places k ps)) (branch_place k l)

  abbrev pub field_asked : Kind → Lead → Option Placed
  field_asked k (Of x) = field_named (fields_of k) x.text
  field_asked k l = None

  -- the fields of a structure of type k, as its parts name them
  abbrev pub fields_asked : Kind → Parts → Option (List Placed)
  fields_asked k End = Some []
  fields_asked k (More l e ps) = option_and_then (λ x. option_map (λ xs. x ∷ xs) (fields_asked k ps)) (field_asked k l)
