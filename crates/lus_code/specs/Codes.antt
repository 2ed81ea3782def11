-- How contracts see the code of a program: the ordered program that it is made of, a class for each node with its code, and the state
-- cells of each.
use Rattle.std.specs.Prelude.{ℕ, List}
use Rattle.lus_program.specs.Programs.{Program}
use Rattle.lus_program.specs.View.{program_seen}
use Rattle.lus_classes.specs.Classes.{Class}
use Rattle.lus_order.specs.OrderedPrograms.{OrderedProgram}
use Rattle.lus_simulation.specs.Codes.{AreCodeOf}
use Rattle.lus_instructions.specs.declared.class.Class.{Class as StoredClass}
use Rattle.lus_classes.specs.View.{classes_of}
use Rattle.lus_orders.specs.declared.class.Class.{Class as Emitted}

pub record ProgramCode : Type 0 where
  pub source : OrderedProgram
  pub classes : List StoredClass
  pub emitted : List Emitted
  pub cells : List ℕ

-- the plain program and the plain classes of a code
abbrev pub program_of : ProgramCode → Program
program_of c = program_seen c.source.program

abbrev pub plain_classes : ProgramCode → List Class
plain_classes c = classes_of c.classes

-- the classes belong to the nodes of a normal form of the program
abbrev pub IsCodeOf : Program → List Class → Type 0
IsCodeOf p classes = (q : Program) × AreCodeOf p q classes
