-- The normal form of a program: each node has its own variables, defined by normal forms of their right sides, and then
-- one new variable for each part that was taken out, with an equation of its own on the part's clock.
use Rattle.std.specs.Prelude.{◌≡◌, ℕ, suc, ◌+◌, List, [], ◌∷◌, ◌++◌, length, Option, Some, None}
use Rattle.lus_values.specs.Lists.{Each, Below}
use Rattle.lus_program.specs.Programs.{Expression, literal, variable, operate, pre, arrow, when, merge, call, Operands, none, more, Equation, Node, Program, node_at}
use Rattle.lus_streams.specs.Clocks.{Clock, clock_of, Part, at, parts}
use Rattle.lus_streams.specs.Equations.{Definition, given_by, definition_of, node_parts, Site, sites}
use Rattle.lus_normal_form.specs.NormalForm.{StandsFor, IsCallOf, IsRight, IsSimpleRight}
use Rattle.lus_normal_form.specs.Named.{DefinesFirst}

-- P holds of each item and its place, the first place being n
abbrev pub EachFrom : {X : Type 0} → (ℕ → X → Type 0) → ℕ → List X → Type 0
EachFrom P n [] = Unit {0}
EachFrom P n (x ∷ xs) = P n x × EachFrom P (suc n) xs

-- New y k a says that y is the new variable for a on k
module _ (p : Program) (New : ℕ → Clock → Expression → Type 0) where
  -- the same output of a right side in normal form, with the same variables on the left, on the same clock
  abbrev pub IsDefinition : Option Definition → Option Definition → Type 0
  IsDefinition None d' = d' ≡ None
  IsDefinition (Some (given_by e n xs k)) d' = (e' : Expression) × (d' ≡ Some (given_by e' n xs k)) × IsRight p New e e' k

  -- the same calls in the same order, with arguments in normal form
  abbrev pub AreSites : List Site → List Site → Type 0
  AreSites [] ss' = ss' ≡ []
  AreSites (s ∷ ss) ss' = (args' : Operands) × (rest : List Site) × (ss' ≡ record s { args = args' } ∷ rest) × IsCallOf p New s.node s.args args' s.base × AreSites ss rest

-- the sub-expressions of a part stand together among these
abbrev pub IsWithin : Program → List Part → Part → Type 0
IsWithin p all (at k a) = (before after : List Part) × (all ≡ before ++ (parts p a k ++ after))

-- in f', y is on the clock of the part that it stands for, and the part's normal form defines it alone
abbrev pub DefinesNew : Program → Node → (ℕ → Clock → Expression → Type 0) → ℕ → Part → Type 0
DefinesNew p f' New y (at k a) = (clock_of f' y ≡ k) × IsDefinition p New (Some (given_by a 0 (y ∷ []) k)) (definition_of f' y)

-- a count over the text of an expression: u for each `pre`, v for each `->` and w for each call
abbrev mutual
  pub counted : (u v w : ℕ) → Expression → ℕ
  counted u v w (literal x) = 0
  counted u v w (variable x) = 0
  counted u v w (operate o es) = all_counted u v w es
  counted u v w (pre a) = u + counted u v w a
  counted u v w (arrow a b) = v + (counted u v w a + counted u v w b)
  counted u v w (when t a) = counted u v w a
  counted u v w (merge x bs) = all_counted u v w bs
  counted u v w (call g c args) = w + all_counted u v w args

  pub all_counted : (u v w : ℕ) → Operands → ℕ
  all_counted u v w none = 0
  all_counted u v w (more e es) = counted u v w e + all_counted u v w es

-- how many memories an expression wants: one for each `pre`
abbrev pub memories : Expression → ℕ
memories = counted 1 0 0

abbrev pub all_memories : Operands → ℕ
all_memories = all_counted 1 0 0

-- how many marks of a first instant it wants: one for each `->`
abbrev pub firsts : Expression → ℕ
firsts = counted 0 1 0

abbrev pub all_firsts : Operands → ℕ
all_firsts = all_counted 0 1 0

-- a count over right sides
abbrev pub count_rights : (Expression → ℕ) → List Equation → ℕ
count_rights count [] = 0
count_rights count (q ∷ qs) = count q.right + count_rights count qs

-- how many memories a node itself wants, the nodes that it calls aside
abbrev pub node_memories : Node → ℕ
node_memories f = count_rights memories f.equations

-- how many marks of a first instant it wants
abbrev pub node_firsts : Node → ℕ
node_firsts f = count_rights firsts f.equations

-- f' is the normal form of f, its new variables after those of f being for these parts of f
pub record IsNormalNode (p p' : Program) (f f' : Node) (new_parts : List Part) : Type 0 where
  pub inputs : f'.inputs ≡ f.inputs
  pub outputs : f'.outputs ≡ f.outputs
  pub width : length f'.variables ≡ length f.variables + length new_parts
  pub clocks : Below (length f.variables) (λ x. clock_of f' x ≡ clock_of f x)
  pub definitions : Below (length f.variables) (λ x. IsDefinition p (StandsFor (length f.variables) new_parts) (definition_of f x) (definition_of f' x))
  pub new_definitions : EachFrom (DefinesNew p f' (StandsFor (length f.variables) new_parts)) (length f.variables) new_parts
  pub within : Each (IsWithin p (node_parts p f)) new_parts
  pub calls : AreSites p (StandsFor (length f.variables) new_parts) (sites p f) (sites p' f')
  pub equations : Each (DefinesFirst f') f'.equations
  pub same_memories : node_memories f' ≡ node_memories f
  pub same_firsts : node_firsts f' ≡ node_firsts f

-- p' is the normal form of p, with new variables for these parts of each node
abbrev pub IsNormalOf : Program → Program → (ℕ → List Part) → Type 0
IsNormalOf p p' new_parts = (f : ℕ) → IsNormalNode p p' (node_at p f) (node_at p' f) (new_parts f)

-- each right side is a call of literals and variables, or simple
abbrev pub IsSimpleNode : Node → Type 0
IsSimpleNode f = Each (λ q. IsSimpleRight q.right) f.equations
