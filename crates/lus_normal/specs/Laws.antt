-- What the code takes out of a node is what its normal form takes out, on the same clocks.
use Rattle.std.specs.Prelude.{◌≡◌, List, [], ◌∷◌, ◌++◌, Some, length, map, string_bytes}
use Rattle.lus_values.specs.Lists.{item, Each}
use Rattle.lus_program.specs.declared.node.Equation.{Equation as StoredEquation}
use Rattle.lus_program.specs.declared.node.Node.{Node as StoredNode}
use Rattle.lus_program.specs.declared.node.Variable.{Variable as StoredVariable}
use Rattle.lus_normal.specs.declared.taking.Taken.{Taken as StoredTaken}
use Rattle.lus_program.specs.declared.node.Program.{Program as StoredProgram}
use Rattle.lus_program.specs.Programs.{Node, Program, Variable, node_at}
use Rattle.lus_program.specs.View.{expression_of, equations_from, node_of, program_seen, variable_of}
use Rattle.lus_streams.specs.OnClock.{IsOnClocks, ProgramOnClocks, test_of}
use Rattle.lus_program.specs.Resolved.{kind_in, Resolved}
use Rattle.lus_streams.specs.Order.{IsCausal}
use Rattle.lus_normal_form.specs.Laws.{KeepsWorlds}
use Rattle.lus_normal_form.specs.NormalNodes.{IsNormalOf}
use Rattle.lus_normal_form.specs.Needs.{NeedsVariables}
use Rattle.lus_normal_form.specs.Forms.{normal_equations}
use Rattle.lus_normal_form.specs.Nodes.{IsMadeFrom, part_test}
use Rattle.lus_normal_form.specs.Parts.{node_taken}
use Rattle.lus_normal_form.specs.Ready.{AreReady}
use Rattle.lus_normal.specs.Forms.{Taken, right_takes}
use Rattle.lus_normal.specs.View.{all_taken_seen, equations_seen}

-- what the code takes out of the equations that it holds, one after the other
abbrev pub equations_take : Program → Node → List StoredEquation → List Taken
equations_take p f [] = []
equations_take p f (q ∷ qs) = right_takes p f (expression_of q.right) (test_of f (item 0 q.targets.items 0)) ++ equations_take p f qs

-- the tests of what the code takes out are the newest of the parts' clocks
abbrev pub TestsAreNewest : Type 0
TestsAreNewest =
    (p : Program) → ProgramOnClocks p → (f : Node) → IsOnClocks p f → (qs : List StoredEquation) → f.equations ≡ equations_from 0 qs
    → map (λ t. t.test) (equations_take p f qs) ≡ map part_test (node_taken p f)

-- the variables of f, and one more for each part that is taken out, with the part's test and its type
pub record AddsVariables (p : Program) (f : Node) (vs : List Variable) (ts : List Taken) : Type 0 where
  pub added : List Variable
  pub variables : vs ≡ f.variables ++ added
  pub tests : map (λ v. v.test) added ≡ map (λ t. t.test) ts
  pub kinds : map (λ v. Some v.kind) added ≡ map (λ t. kind_in p f t.operand) ts

-- the variables that the code declares for node f are its own, and one more for each of these parts
abbrev pub DeclaresTaken : Program → StoredNode → List StoredVariable → List StoredTaken → Type 0
DeclaresTaken p f vs ts = AddsVariables p (node_of f) (map variable_of vs) (all_taken_seen ts)

-- what the code makes of node f: its kind, name, inputs and outputs, its variables and one more for each part that is taken out, with the
-- part's test and type, and its equations in normal form
pub record IsMadeOf (p : Program) (f f' : StoredNode) : Type 0 where
  pub kind : f'.kind ≡ f.kind
  pub name : string_bytes f'.name ≡ string_bytes f.name
  pub inputs : f'.inputs ≡ f.inputs
  pub outputs : f'.outputs ≡ f.outputs
  pub variables : AddsVariables p (node_of f) (node_of f').variables (equations_take p (node_of f) f.equations.items)
  pub equations : equations_seen f'.equations.items ≡ normal_equations (length (node_of f).variables) (equations_seen f.equations.items)

-- one by one
abbrev pub AreMadeOf : Program → List StoredNode → List StoredNode → Type 0
AreMadeOf p [] fs' = fs' ≡ []
AreMadeOf p (f ∷ fs) fs' = (f' : StoredNode) × (rest : List StoredNode) × (fs' ≡ f' ∷ rest) × IsMadeOf p f f' × AreMadeOf p fs rest

-- a node that the code makes of a node on clocks is made from it
abbrev pub NodesAreMade : Type 0
NodesAreMade =
    (p : Program) → ProgramOnClocks p → (f f' : StoredNode) → IsOnClocks p (node_of f) → IsMadeOf p f f'
    → IsMadeFrom p (node_of f) (node_of f')

-- p' is the normal form of p, with new variables for all that is taken out of each node
abbrev pub IsNormalProgram : Program → Program → Type 0
IsNormalProgram p p' = IsNormalOf p p' (λ g. node_taken p (node_at p g))

-- a program whose nodes the code makes of those of a resolved program on clocks is its normal form
abbrev pub ProgramsAreNormal : Type 0
ProgramsAreNormal =
    (p p' : StoredProgram) → Resolved (program_seen p) → ProgramOnClocks (program_seen p)
    → AreMadeOf (program_seen p) p.nodes.items p'.nodes.items
    → IsNormalProgram (program_seen p) (program_seen p')

-- such a program has as many nodes as its source, its worlds and no others, it is on clocks, its names are known, its calls have
-- arguments and outputs and its variables one definition each, its variables need its variables, and it is causal where its source is
pub record IsMadeRight (p p' : Program) : Type 0 where
  pub size : length p'.nodes ≡ length p.nodes
  pub worlds : KeepsWorlds p p'
  pub on_clocks : ProgramOnClocks p'
  pub ready : AreReady p'
  pub needs : Each NeedsVariables p'.nodes
  pub causal : IsCausal p → IsCausal p'

abbrev pub ProgramsAreRight : Type 0
ProgramsAreRight =
    (p p' : StoredProgram) → Resolved (program_seen p) → ProgramOnClocks (program_seen p)
    → AreMadeOf (program_seen p) p.nodes.items p'.nodes.items
    → IsMadeRight (program_seen p) (program_seen p')
