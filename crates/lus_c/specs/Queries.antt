-- What C is told of a program that a handle holds.
use Rattle.std.specs.Prelude.{◌≡◌, ◌==◌, ◌<◌, ◌≤◌, ℕ, Option, Some, None, IsTrue, IsUtf8, length, slice_get}
use Rattle.std.specs.Option.{option_map, option_and_then}
use Rattle.std.specs.Arc.{arc_value}
use Rattle.lus_syntax.specs.Lexemes.{Text}
use Rattle.lus_values.specs.Names.{name_of}
use Rattle.lus_program.specs.Programs.{Program, Node, Variable, Field}
use Rattle.lus_values.specs.declared.test.Test.{Test}
use Rattle.lus_program.specs.declared.types.Kind.{Kind}
use Rattle.lus_program.specs.declared.types.Kind.TheVariants.{Bool, Int, Enum, Struct}
use Rattle.lus_program.specs.Kinds.{fields_in}
use Rattle.lus_program.specs.Resolved.{declared_in}
use Rattle.lus_leaves.specs.Writing.{over}
use Rattle.lus_shared.specs.CodeSpecs.Codes.{ProgramCode, program_of}
use Rattle.lus_shared.specs.MachineSpecs.Constructors.{names_of}
use Rattle.lus_shared.specs.MachineSpecs.CostSpecs.Costs.{IsCost}
use Rattle.lus_shared.specs.MachineSpecs.CostSpecs.Places.{place_bytes}
use Rattle.lus_shared.specs.MachineSpecs.CostSpecs.declared.cost.Cost.{Cost}
use Rattle.lus_shared.specs.MachineSpecs.Formals.{node_named, inputs_of, outputs_of}
pub use Rattle.lus_foreign.specs.Holds.{IsHandle}
use Rattle.lus_c.specs.Held.{IsOkay}
use Rattle.lus_c.specs.Served.{IsNone}
use Rattle.lus_c.specs.declared.programs.CostOut.{CostOut}
use Rattle.lus_c.specs.declared.programs.FormalOut.{FormalOut}
use Rattle.lus_foreign.specs.declared.content.Content.{Content as ContentType}
use Rattle.lus_foreign.specs.declared.content.Content.TheVariants.{Program as IsProgram}

-- the number TEXT
abbrev pub IsText : ℕ → Type 0
IsText n = IsTrue (n == 10)

-- this holds of the program behind the handle; where there is none C is answered HANDLE
abbrev pub OfHeldProgram : Option ContentType → ℕ → (Program → Type 0) → Type 0
OfHeldProgram (Some (IsProgram p)) status P = P (program_of (arc_value p))
OfHeldProgram _ status P = IsHandle status

-- likewise of its code
abbrev pub OfHeldCode : Option ContentType → ℕ → (ProgramCode → Type 0) → Type 0
OfHeldCode (Some (IsProgram p)) status P = P (arc_value p)
OfHeldCode _ status P = IsHandle status

-- how many nodes there are
abbrev pub NodesAreTold : Program → (status count : ℕ) → Type 0
NodesAreTold p status count = IsOkay status × (count ≡ length p.nodes)

-- the number, or that there is none
abbrev pub NumberIsTold : Option ℕ → (status number : ℕ) → Type 0
NumberIsTold None status number = IsNone status
NumberIsTold (Some n) status number = IsOkay status × (number ≡ n)

-- the number of the first node of this name, which is UTF-8
pub record NodeIsTold (p : Program) (name : Text) (status number : ℕ) : Type 0 where
  pub named : IsUtf8 name → NumberIsTold (node_named p name) status number
  pub text : ¬ (IsUtf8 name) → IsText status

-- the length of the name and the name, as far as the array has room, or that there is none
abbrev pub NameIsTold : Option Text → (status bytes : ℕ) → (olds news : Text) → Type 0
NameIsTold None status bytes olds news = IsNone status
NameIsTold (Some name) status bytes olds news = IsOkay status × (bytes ≡ length name) × (news ≡ over olds name)

-- how many inputs and outputs the node has, or that there is none
abbrev pub FormalsAreTold : Option Node → (status inputs outputs : ℕ) → Type 0
FormalsAreTold None status inputs outputs = IsNone status
FormalsAreTold (Some f) status inputs outputs = IsOkay status × (inputs ≡ f.inputs) × (outputs ≡ f.outputs)

abbrev pub cost_out : Cost → CostOut
cost_out k = record { orders = k.orders; row = k.row; instance_bytes = k.instance_bytes; saved_bytes = k.saved_bytes }

-- what a node costs that there is
abbrev pub NodeCosts : ProgramCode → (node : ℕ) → CostOut → Type 0
NodeCosts c node out = (cost : Cost) × IsCost c.emitted (place_bytes c.source.program) node cost × (out ≡ cost_out cost)

-- what the node costs, or that there is none
pub record CostIsTold (c : ProgramCode) (node status : ℕ) (out : CostOut) : Type 0 where
  pub costs : node < length (program_of c).nodes → IsOkay status × NodeCosts c node out
  pub none : length (program_of c).nodes ≤ node → IsNone status

-- the number of a kind of values, and that of an enumeration's or a structure's type
abbrev pub kind_code : Kind → ℕ
kind_code Bool = 1
kind_code Int = 2
kind_code (Enum t) = 3
kind_code (Struct t) = 4

abbrev pub type_of : Kind → ℕ
type_of Bool = 0
type_of Int = 0
type_of (Enum t) = t
type_of (Struct t) = t

-- 1 where there is a clock
abbrev pub clock_code : Option Test → ℕ
clock_code None = 0
clock_code (Some t) = 1

-- what C is told of a variable beside its name
abbrev pub formal_out : Variable → FormalOut
formal_out v = record { kind = kind_code v.kind; of = type_of v.kind; clocked = clock_code v.test; unused = 0; bytes = length v.name }

-- the variable and its name, as far as the array has room, or that there is none
abbrev pub FormalIsTold : Option Variable → (status : ℕ) → FormalOut → (olds news : Text) → Type 0
FormalIsTold None status out olds news = IsNone status
FormalIsTold (Some v) status out olds news = IsOkay status × (out ≡ formal_out v) × (news ≡ over olds v.name)

-- ---- what is asked for, by numbers and places from 0

abbrev pub node_name_at : Program → (node : ℕ) → Option Text
node_name_at p node = option_map (λ f. f.name) (slice_get p.nodes node)

abbrev pub input_at : Program → (node place : ℕ) → Option Variable
input_at p node place = option_and_then (λ f. slice_get (inputs_of f) place) (slice_get p.nodes node)

abbrev pub output_at : Program → (node place : ℕ) → Option Variable
output_at p node place = option_and_then (λ f. slice_get (outputs_of f) place) (slice_get p.nodes node)

-- a field as a variable that is on no clock
abbrev pub as_variable : Field → Variable
as_variable f = record { name = f.name; kind = f.kind; test = None }

abbrev pub field_at : Program → (structure place : ℕ) → Option Variable
field_at p structure place = option_map as_variable (slice_get (fields_in (declared_in p structure)) place)

abbrev pub constructor_at : Program → (enumeration constructor : ℕ) → Option Text
constructor_at p enumeration constructor = name_of (names_of p) enumeration constructor
