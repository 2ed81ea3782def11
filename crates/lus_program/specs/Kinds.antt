-- Types of operands and results, and what a declared type holds. Lustre V6 reference manual, "Predefined operators", "Types".
use Rattle.std.specs.Prelude.{◌&&◌, ℕ, suc, Bool, true, false, List, [], ◌∷◌, Option, Some, None, cond, length, nat_eq}
use Rattle.std.specs.List.{list_all}
use Rattle.lus_values.specs.Values.{Value, bool, int, enum}
use Rattle.lus_program.specs.declared.types.Kind.{Kind}
use Rattle.lus_program.specs.declared.types.Kind.TheVariants as kinds
use Rattle.lus_program.specs.Programs.{Declared, alias, enumeration, structure, Field}

abbrev pub same : Kind → Kind → Bool
same kinds.Bool kinds.Bool = true
same kinds.Int kinds.Int = true
same (kinds.Enum t) (kinds.Enum u) = nat_eq t u
same (kinds.Struct t) (kinds.Struct u) = nat_eq t u
same k l = false

abbrev pub all_same : List Kind → List Kind → Bool
all_same [] [] = true
all_same (k ∷ ks) (l ∷ ls) = same k l && all_same ks ls
all_same ks ls = false

abbrev pub where_true : {X : Type 0} → Bool → Option X → Option X
where_true true x = x
where_true false x = None

-- two of one type have that type
abbrev pub alike : Kind → Kind → Option Kind
alike k l = where_true (same k l) (Some k)

-- `if`
abbrev pub choice_kind : Kind → Kind → Kind → Option Kind
choice_kind c k l = where_true (same kinds.Bool c) (alike k l)

abbrev pub value_kind : Value → Option Kind
value_kind (bool b) = Some kinds.Bool
value_kind (int z) = Some kinds.Int
value_kind (enum t c) = Some (kinds.Enum t)
value_kind v = None

abbrev pub the_one : List Kind → Option Kind
the_one (k ∷ []) = Some k
the_one ks = None

-- the one type of all branches
abbrev pub common_kind : List Kind → Option Kind
common_kind [] = None
common_kind (k ∷ ks) = where_true (list_all (same k) ks) (Some k)

abbrev pub count : ℕ → List ℕ → ℕ
count n [] = 0
count n (m ∷ ms) = cond (nat_eq n m) (suc (count n ms)) (count n ms)

abbrev pub fields_in : Declared → List Field
fields_in (structure fs) = fs
fields_in d = []

abbrev pub constructors_in : Declared → ℕ
constructors_in (enumeration cs) = length cs
constructors_in d = 0

abbrev pub nothing_declared : Declared
nothing_declared = alias kinds.Bool
