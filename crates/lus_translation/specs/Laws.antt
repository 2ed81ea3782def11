-- What the codes and calls that are made belong to.
use Rattle.std.specs.Prelude.{◌≡◌, ℕ, ◌<◌, ◌≤◌, List, ◌++◌, Option, Some, length, slice_get}
use Rattle.lus_values.specs.Lists.{Each}
use Rattle.lus_program.specs.declared.node.Equation.{Equation as StoredEquation}
use Rattle.lus_program.specs.View.{equations_from}
use Rattle.lus_program.specs.Programs.{Expression, call, Operands, Node, Program, node_at}
use Rattle.lus_streams.specs.Clocks.{Clock, clock_of, formal_clock, base_of, parts, all_parts}
use Rattle.lus_streams.specs.Equations.{equation_clock, Site, sites}
use Rattle.lus_streams.specs.OnClock.{PartOnClock}
use Rattle.lus_streams.specs.Order.{clock_variables}
use Rattle.lus_classes.specs.Classes.{Class, clock_in}
use Rattle.lus_classes.specs.ClassesOf.{AtomOn, IsCode, IsCall, AreCalls}
use Rattle.lus_normal_form.specs.NormalForm.{AreAtoms, IsSimple}
use Rattle.lus_normal_form.specs.Named.{Known, GivesOutput, Uses}
use Rattle.lus_normal_form.specs.Computed.{HaveFormals}
use Rattle.lus_normal_form.specs.Ready.{Declared, IsReady, operand_size}
use Rattle.lus_instructions.specs.declared.class.Class.{Class as StoredClass}
use Rattle.lus_classes.specs.View.{class_of}
use Rattle.lus_values.specs.declared.test.Test.{Test}
use Rattle.lus_translation.specs.Firsts.{place_of}
use Rattle.lus_translation.specs.Newest.{HasNewest, newest}
use Rattle.lus_translation.specs.Forms.{Turn, class_form, code_form, call_form, calls_form, kept_cells, kept_firsts, numbers_form}

-- a list has these items from place n on
pub record HasFrom {X : Type 0} (all : List X) (n : ℕ) (xs : List X) : Type 0 where
  pub before : List X
  pub after : List X
  pub place : length before ≡ n
  pub whole : all ≡ before ++ (xs ++ after)

-- each part of an expression is on its clock and names variables of the node
pub record IsFitting (p : Program) (f : Node) (e : Expression) (k : Clock) : Type 0 where
  pub on_clock : Each (PartOnClock p f) (parts p e k)
  pub known : Each (Uses (Known f) (GivesOutput p f)) (parts p e k)

-- a class has a first-flag of this clock, where first-flags are those of clocks with these newest tests
abbrev pub HasFlag : Class → List (Option Test) → Clock → Type 0
HasFlag c fs k = slice_get c.firsts (place_of (newest k) fs) ≡ Some k

-- the code of an expression in normal form belongs to it, in each class that keeps what it wants
abbrev pub CodesBelong : Type 0
CodesBelong =
    (p : Program) (f : Node) (c : Class) (m : ℕ) (fs : List (Option Test)) (e : Expression) (k : Clock) → IsSimple e → IsFitting p f e k
    → HasFrom c.memories m (kept_cells e k) → Each (HasFlag c fs) (kept_firsts e k) → IsCode p f c e (code_form m fs e k) k

-- the arguments of a call in normal form with a base are on the clocks of all formals and name variables of the node
pub record IsFittingCall (p : Program) (f : Node) (g : ℕ) (args : Operands) (base : Clock) : Type 0 where
  pub atoms : AreAtoms args
  pub on_clock : Each (PartOnClock p f) (all_parts p args (formal_clock (node_at p g) args base) 0)
  pub known : Each (Uses (Known f) (GivesOutput p f)) (all_parts p args (formal_clock (node_at p g) args base) 0)
  pub size : operand_size args ≡ (node_at p g).inputs
  pub formals : HaveFormals (node_at p g) args args 0
  pub declared : Declared (node_at p g)

-- the call that is made belongs to a call of the text
abbrev pub CallsBelong : Type 0
CallsBelong =
    (p : Program) (f : Node) (c : Class) (s : Site) (k : Clock) → s.base ≡ base_of (node_at p s.node) k → IsFittingCall p f s.node s.args s.base
    → IsCall p f c s (call_form p s.node s.args k) s.number

-- a whole right side in normal form
abbrev pub IsFittingRight : Program → Node → Expression → Clock → Type 0
IsFittingRight p f (call g n args) k = IsFittingCall p f g args (base_of (node_at p g) k)
IsFittingRight p f e k = IsSimple e × IsFitting p f e k

-- so each right side fits
abbrev pub ReadyRightsFit : Type 0
ReadyRightsFit = (p : Program) (f : Node) → IsReady p f → Each (λ q. IsFittingRight p f q.right (equation_clock f q)) f.equations

-- and the calls that are made, in the order of the equations, are those of the text by their numbers
abbrev pub AllCallsBelong : Type 0
AllCallsBelong = (p : Program) (f : Node) (c : Class) → IsReady p f → AreCalls p f c (sites p f) (calls_form p f f.equations) 0

-- a class has the clocks of the variables of f, of which those of inputs test inputs alone, and the calls of the text; what its
-- memories keep is on their clocks: what is asked of a class but of its steps
pub record HasShapeOf (p : Program) (f : Node) (c : Class) : Type 0 where
  pub inputs : c.inputs ≡ f.inputs
  pub narrow : f.inputs ≤ length f.variables
  pub width : length c.clocks ≡ length f.variables
  pub clocks : (x : ℕ) → clock_in c x ≡ clock_of f x
  pub input_clocks : (x : ℕ) → x < f.inputs → Each (λ y. y < f.inputs) (clock_variables (clock_of f x))
  pub calls : AreCalls p f c (sites p f) c.calls 0
  pub memories : Each (λ m. AtomOn p f c m.operand m.clock) c.memories

-- the class that is made has that, whatever turns its equations have
abbrev pub ClassesHaveShape : Type 0
ClassesHaveShape =
    (p : Program) (f : Node) → IsReady p f → (qs : List StoredEquation) → f.equations ≡ equations_from 0 qs → (ts : List Turn) → HasShapeOf p f (class_form p f qs (numbers_form 0 qs) ts)

-- a class that keeps the newest tests of the class that is made is that class: the older ones are those of the tests' variables
abbrev pub NewestSuffice : Type 0
NewestSuffice =
    (p : Program) (f : Node) → IsReady p f → (qs : List StoredEquation) → f.equations ≡ equations_from 0 qs → (ts : List Turn) (c : StoredClass)
    → HasNewest f c (class_form p f qs (numbers_form 0 qs) ts) → class_of c ≡ class_form p f qs (numbers_form 0 qs) ts
