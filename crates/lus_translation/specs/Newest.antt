-- What a class keeps of whole clocks: their newest tests.
use Rattle.std.specs.Prelude.{◌≡◌, ℕ, List, [], ◌∷◌, map, Option, Some, None}
use Rattle.lus_values.specs.declared.test.Test.{Test}
use Rattle.lus_program.specs.Programs.{Variable, Node}
use Rattle.lus_streams.specs.Clocks.{Clock}
use Rattle.lus_classes.specs.Classes.{Atom, Memory, Argument, Call, Class}
use Rattle.lus_instructions.specs.declared.class.Cell.{Cell}
use Rattle.lus_instructions.specs.declared.class.Argument.{Argument as StoredArgument}
use Rattle.lus_instructions.specs.declared.class.Call.{Call as StoredCall}
use Rattle.lus_instructions.specs.declared.class.Class.{Class as StoredClass}
use Rattle.lus_classes.specs.View.{atom_of, clock_from, steps_of}

abbrev pub newest : Clock → Option Test
newest [] = None
newest (t ∷ k) = Some t

-- an atom on a clock with this newest test
pub record Tested : Type 0 where
  pub test : Option Test
  pub atom : Atom

-- a call whose base has this newest test
pub record TestedCall : Type 0 where
  pub node : ℕ
  pub base : Option Test
  pub arguments : List Tested

-- what is stored
abbrev pub cell_seen : Cell → Tested
cell_seen m = record { test = m.test; atom = atom_of m.operand }

abbrev pub argument_seen : StoredArgument → Tested
argument_seen a = record { test = a.test; atom = atom_of a.atom }

abbrev pub call_seen : StoredCall → TestedCall
call_seen q = record { node = q.node; base = q.base; arguments = map argument_seen q.arguments.items }

-- and what is kept of whole clocks
abbrev pub tested_memory : Memory → Tested
tested_memory m = record { test = newest m.clock; atom = m.operand }

abbrev pub tested_argument : Argument → Tested
tested_argument a = record { test = newest a.clock; atom = a.atom }

abbrev pub tested_call : Call → TestedCall
tested_call q = record { node = q.node; base = newest q.base; arguments = map tested_argument q.arguments }

-- a class is this one but for the older tests of its clocks, and its variables have the newest tests of those of node f
pub record HasNewest (f : Node) (stored : StoredClass) (c : Class) : Type 0 where
  pub inputs : stored.inputs ≡ c.inputs
  pub tests : stored.tests.items ≡ map (λ (v : Variable). v.test) f.variables
  pub steps : steps_of stored.steps.items ≡ c.steps
  pub cells : map cell_seen stored.cells.items ≡ map tested_memory c.memories
  pub firsts : map (clock_from stored.tests.items) stored.firsts.items ≡ c.firsts
  pub calls : map call_seen stored.calls.items ≡ map tested_call c.calls
