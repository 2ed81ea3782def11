-- What the check of flags computes: the least flags that meet each local's equation, where inputs and outputs have flag 0, and
-- whether all else that is required holds of them.
use Rattle.std.specs.Prelude.{◌≡◌, ℕ, ◌+◌, ◌<◌, nat_lt, Bool, true, false, not, ◌&&◌, List, [], ◌∷◌, length, Some, None, if◌then◌else◌, slice_set, take}
use Rattle.lus_values.specs.Lists.{item}
use Rattle.lus_program.specs.declared.node.Equation.{Equation as StoredEquation}
use Rattle.lus_program.specs.Programs.{Expression, literal, variable, operate, pre, arrow, when, merge, call, Operands, none, more, Variable, Node, Program}
use Rattle.lus_program.specs.View.{expression_of}
use Rattle.lus_streams.specs.Order.{is_in}
use Rattle.lus_streams.specs.Flags.{nil_free, flag, greatest, AreFlagsOf}

-- the flags in a list, false past its end
abbrev pub flags_in : List Bool → ℕ → Bool
flags_in bs x = item false bs x

-- one flag for these variables; those past the end of the list are left out
abbrev pub given : List Bool → List ℕ → Bool → List Bool
given bs [] b = bs
given bs (x ∷ xs) b = given (slice_set bs x b) xs b

module _ (flags : ℕ → Bool) where
  -- an expression and its parts meet their requirements
  abbrev mutual
    pub meets : Expression → Bool
    meets (literal v) = nil_free v
    meets (variable x) = true
    meets (operate o es) = all_meet es
    meets (pre a) = not (flag flags a) && meets a
    meets (arrow a b) = meets a && meets b
    meets (when t a) = not (flags t.variable) && meets a
    meets (merge x bs) = not (flags x) && (not (greatest flags bs) && all_meet bs)
    meets (call g c args) = not (greatest flags args) && all_meet args

    pub all_meet : Operands → Bool
    all_meet none = true
    all_meet (more e es) = meets e && all_meet es

  -- the flag of a variable by the first equation that has it on the left, false without one
  abbrev pub raised : List StoredEquation → ℕ → Bool
  raised [] x = false
  raised (q ∷ qs) x = if is_in q.targets.items x then flag flags (expression_of q.right) else raised qs x

  -- the flag of a local by its equation; each of the first n variables, which are inputs and outputs, has flag false
  -- whatever its equation is, so that an output which may be nil is at fault by its own equation alone
  abbrev pub raised_local : ℕ → List StoredEquation → ℕ → Bool
  raised_local n qs x = not (nat_lt x n) && raised qs x

  -- the flags of the variables on the left, that of the first equation last
  abbrev pub all_given : List StoredEquation → List Bool → List Bool
  all_given [] bs = bs
  all_given (q ∷ qs) bs = given (all_given qs bs) q.targets.items (flag flags (expression_of q.right))

  abbrev pub rights_meet : List StoredEquation → Bool
  rights_meet [] = true
  rights_meet (q ∷ qs) = meets (expression_of q.right) && rights_meet qs

  -- the variables that these are declared with have flag false
  abbrev pub tests_meet : List Variable → Bool
  tests_meet [] = true
  tests_meet (v ∷ vs) = elim v.test [ None ↦ true | Some t ↦ not (flags t.variable) ] && tests_meet vs

abbrev pub none_raised : List Bool → Bool
none_raised [] = true
none_raised (b ∷ bs) = not b && none_raised bs

-- what else is required of flags that meet the equations of locals, under which the equations give these flags: 0 of the
-- equations of inputs and outputs, of tested variables, and in the text
abbrev pub all_required : Node → List StoredEquation → List Bool → List Bool → Bool
all_required f qs bs given =
    none_raised (take (f.inputs + f.outputs) given)
    && (tests_meet (flags_in bs) f.variables && rights_meet (flags_in bs) qs)

-- so many flags, all false
pub record AreFalse (n : ℕ) (bs : List Bool) : Type 0 where
  pub size : length bs ≡ n
  pub all : (x : ℕ) → flags_in bs x ≡ false

-- how many flags are true
abbrev pub raised_count : List Bool → ℕ
raised_count [] = 0
raised_count (b ∷ bs) = (if b then 1 else 0) + raised_count bs

-- the flags that equations give to the variables under these
pub record AreGiven (qs : List StoredEquation) (bs given : List Bool) : Type 0 where
  pub size : length given ≡ length bs
  pub each : (x : ℕ) → x < length bs → flags_in given x ≡ raised (flags_in bs) qs x

-- these flags, the first n of them false
pub record AreLowered (n : ℕ) (bs lowered : List Bool) : Type 0 where
  pub size : length lowered ≡ length bs
  pub each : (x : ℕ) → x < length bs → flags_in lowered x ≡ not (nat_lt x n) && flags_in bs x

-- the flags that equations give under these to the variables past the first n, which have flag false
pub record IsNext (n : ℕ) (qs : List StoredEquation) (bs next : List Bool) : Type 0 where
  pub size : length next ≡ length bs
  pub given : (x : ℕ) → x < length bs → flags_in next x ≡ raised_local (flags_in bs) n qs x

-- each local has at least the flag that its equation gives it
abbrev pub AreAtLeast : Node → List StoredEquation → (ℕ → Bool) → Type 0
AreAtLeast f qs flags = (x : ℕ) → x < length f.variables → raised_local flags (f.inputs + f.outputs) qs x ≡ true → flags x ≡ true

-- of these flags, each local's is its equation's and all others are false, and any flags of which each local's is at least
-- its equation's are at least these
pub record AreLeast (f : Node) (qs : List StoredEquation) (bs : List Bool) : Type 0 where
  pub size : length bs ≡ length f.variables
  pub fixed : (x : ℕ) → x < length bs → flags_in bs x ≡ raised_local (flags_in bs) (f.inputs + f.outputs) qs x
  pub least : (flags : ℕ → Bool) → AreAtLeast f qs flags → (x : ℕ) → flags_in bs x ≡ true → flags x ≡ true

-- some flags meet all that is required of a node
abbrev pub HasFlags : Program → Node → Type 0
HasFlags p f = (flags : ℕ → Bool) × AreFlagsOf flags p f
