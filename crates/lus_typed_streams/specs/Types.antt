-- Which values are of a type, and which entries have one.
use Rattle.std.specs.Prelude.{ℕ, Bool, true, false, ◌&&◌, ◌||◌, nat_eq, List, [], ◌∷◌, Option, Some, None, IsTrue}
use Rattle.lus_values.specs.Operators.{is_nil}
use Rattle.lus_values.specs.Values.{Value, bool, int, enum, struct, Fields, end, field, Row}
use Rattle.lus_program.specs.declared.types.Kind.{Kind}
use Rattle.lus_program.specs.declared.types.Kind.TheVariants as kinds
use Rattle.lus_program.specs.Programs.{Program, node_at}
pub use Rattle.lus_program.specs.Literals.{declares}
use Rattle.lus_program.specs.Resolved.{field_kinds, input_kinds}

-- which numbers are those of constructors: a type's number and the constructor's own
abbrev pub Constructors : Type 0
Constructors = ℕ → ℕ → Bool

-- any number of any type
abbrev pub any_number : Constructors
any_number t c = true

module _ (p : Program) (constructors : Constructors) where
  -- a value is one of a type, where enumerations have these constructors; nil is of none, and so is a structure with nil inside
  abbrev mutual
    pub is_of_type : Kind → Value → Bool
    is_of_type kinds.Bool (bool b) = true
    is_of_type kinds.Int (int z) = true
    is_of_type (kinds.Enum t) (enum u c) = nat_eq u t && constructors t c
    is_of_type (kinds.Struct t) (struct fs) = are_of_types (field_kinds p (kinds.Struct t)) fs
    is_of_type _ _ = false

    pub are_of_types : List Kind → Fields → Bool
    are_of_types [] end = true
    are_of_types (k ∷ ks) (field v fs) = is_of_type k v && are_of_types ks fs
    are_of_types _ _ = false

  -- an entry has a type where it is absent, nil or of the type
  abbrev pub HasType : Kind → Option Value → Type 0
  HasType k None = Unit {0}
  HasType k (Some v) = IsTrue (is_nil v || is_of_type k v)

  -- as many entries as types, each of its type
  abbrev pub HaveTypes : List Kind → Row → Type 0
  HaveTypes [] [] = Unit {0}
  HaveTypes (k ∷ ks) (e ∷ es) = HasType k e × HaveTypes ks es
  HaveTypes _ _ = ⊥

module _ (p : Program) where
  -- a value is one of a type, its constructors among those that the program declares
  abbrev pub is_of : Kind → Value → Bool
  is_of = is_of_type p (declares p)

  abbrev pub are_of : List Kind → Fields → Bool
  are_of = are_of_types p (declares p)

  -- an entry is absent or of its variable's type
  abbrev pub entry_fits : Kind → Option Value → Bool
  entry_fits k None = true
  entry_fits k (Some v) = is_of k v

  -- as many entries as types
  abbrev pub row_fits : List Kind → Row → Bool
  row_fits [] [] = true
  row_fits (k ∷ ks) (e ∷ es) = entry_fits k e && row_fits ks es
  row_fits _ _ = false

  -- a row has as many entries as node f has inputs, each of its input's type where it is present
  abbrev pub has_shape : ℕ → Row → Bool
  has_shape f i = row_fits (input_kinds (node_at p f)) i
