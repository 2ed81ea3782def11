-- Classes as their steps look at them: at the newest test of a clock alone.
use Rattle.std.specs.Prelude.{List, [], map, Option}
use Rattle.lus_values.specs.declared.test.Test.{Test}
use Rattle.lus_streams.specs.Clocks.{Clock}
use Rattle.lus_classes.specs.Classes.{Memory, Argument, Call, Class}
use Rattle.lus_instructions.specs.declared.class.Cell.{Cell}
use Rattle.lus_instructions.specs.declared.class.Argument.{Argument as StoredArgument}
use Rattle.lus_instructions.specs.declared.class.Call.{Call as StoredCall}
use Rattle.lus_instructions.specs.declared.class.Class.{Class as StoredClass}
use Rattle.lus_classes.specs.View.{clock_from, memory_of, argument_of, call_of, steps_of}

-- the newest test of a clock alone
abbrev pub newest : Option Test → Clock
newest t = clock_from [] t

abbrev pub short_memory : Cell → Memory
short_memory m = memory_of [] m

abbrev pub short_argument : StoredArgument → Argument
short_argument a = argument_of [] a

abbrev pub short_call : StoredCall → Call
short_call q = call_of [] q

-- a class with each clock cut to its newest test
abbrev pub short_of : StoredClass → Class
short_of c =
    record {
      inputs = c.inputs;
      clocks = map newest c.tests.items;
      steps = steps_of c.steps.items;
      memories = map short_memory c.cells.items;
      firsts = map newest c.firsts.items;
      calls = map short_call c.calls.items;
    }

abbrev pub shorts_of : List StoredClass → List Class
shorts_of cs = map short_of cs
