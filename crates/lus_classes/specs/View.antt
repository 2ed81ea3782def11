-- The plain classes that the code's values are.
use Rattle.std.specs.Prelude.{ℕ, zero, suc, List, [], ◌∷◌, ◌++◌, length, map, Option, Some, None}
use Rattle.lus_values.specs.Lists.{item}
use Rattle.lus_values.specs.View.{value_of}
use Rattle.lus_streams.specs.Clocks.{Clock}
use Rattle.lus_values.specs.declared.test.Test.{Test}
use Rattle.lus_instructions.specs.declared.formula.Atom.{Atom as StoredAtom}
use Rattle.lus_instructions.specs.declared.formula.Atom.TheVariants as atoms
use Rattle.lus_instructions.specs.declared.formula.Formula.{Formula, Fixed, Fetch, Compute', Recall, Choose', Select', Row_of-Formula, end_of-Formula, more_of-Formula}
use Rattle.lus_instructions.specs.declared.class.Target.{Target}
use Rattle.lus_instructions.specs.declared.class.Step.{Step as StoredStep}
use Rattle.lus_instructions.specs.declared.class.Step.TheVariants as steps
use Rattle.lus_instructions.specs.declared.class.Cell.{Cell}
use Rattle.lus_instructions.specs.declared.class.Argument.{Argument as StoredArgument}
use Rattle.lus_instructions.specs.declared.class.Call.{Call as StoredCall}
use Rattle.lus_instructions.specs.declared.class.Class.{Class as StoredClass}
use Rattle.lus_classes.specs.Classes.{Atom, constant, named, Code, fixed, fetch, compute, recall, choose, select, answer, Codes, no_code, also_code, Step, Memory, Argument, Call, Class}

abbrev pub atom_of : StoredAtom → Atom
atom_of (atoms.Constant v) = constant (value_of v)
atom_of (atoms.Variable x) = named x

abbrev mutual
  pub code_of : Formula → Code
  code_of (Fixed v) = fixed (value_of v)
  code_of (Fetch x) = fetch x
  code_of (Compute' o shape ds) = compute o (codes_in ds)
  code_of (Recall j) = recall j
  code_of (Choose' j q a r b) = choose j (code_of a) (code_of b)
  code_of (Select' x shape ds) = select x (codes_in ds)

  pub codes_in : {m : _} → Row_of-Formula m → Codes
  codes_in end_of-Formula = no_code
  codes_in (more_of-Formula d rest) = also_code (code_of d) (codes_in rest)

-- the codes of formulas in a list
abbrev pub codes_of : List Formula → Codes
codes_of [] = no_code
codes_of (d ∷ ds) = also_code (code_of d) (codes_of ds)

-- a variable that call n gives
abbrev pub taken : ℕ → Target → Step
taken n t = record { target = t.variable; code = answer n t.place }

-- each step gives one variable
abbrev pub steps_in : StoredStep → List Step
steps_in (steps.Give x d) = record { target = x; code = code_of d } ∷ []
steps_in (steps.Call n ts) = map (taken n) ts.items

abbrev pub steps_of : List StoredStep → List Step
steps_of [] = []
steps_of (s ∷ ss) = steps_in s ++ steps_of ss

-- the clock of a variable, where variables have these newest tests, through at most n tests
abbrev pub chain_in : ℕ → List (Option Test) → ℕ → Clock
chain_in zero ts x = []
chain_in (suc n) ts x = elim (item None ts x) [ None ↦ [] | Some t ↦ t ∷ chain_in n ts t.variable ]

-- the clock with this newest test, where variables have those: the older ones are those of the test's variable
abbrev pub clock_from : List (Option Test) → Option Test → Clock
clock_from ts None = []
clock_from ts (Some t) = t ∷ chain_in (length ts) ts t.variable

module _ (ts : List (Option Test)) where
  abbrev pub memory_of : Cell → Memory
  memory_of m = record { clock = clock_from ts m.test; operand = atom_of m.operand }

  abbrev pub argument_of : StoredArgument → Argument
  argument_of a = record { clock = clock_from ts a.test; atom = atom_of a.atom }

  abbrev pub call_of : StoredCall → Call
  call_of q = record { node = q.node; base = clock_from ts q.base; arguments = map argument_of q.arguments.items }

abbrev pub class_of : StoredClass → Class
class_of c =
    let ts = c.tests.items in
    record {
      inputs = c.inputs;
      clocks = map (clock_from ts) ts;
      steps = steps_of c.steps.items;
      memories = map (memory_of ts) c.cells.items;
      firsts = map (clock_from ts) c.firsts.items;
      calls = map (call_of ts) c.calls.items;
    }

abbrev pub classes_of : List StoredClass → List Class
classes_of cs = map class_of cs
