-- Streams (Halbwachs, Caspi, Raymond and Pilaud 1991, on variables, sequence operators and clocks; Lustre V6 reference
-- manual, "Clocks"): what the variables of a node hold at each instant.
use Rattle.std.specs.Prelude.{◌≡◌, ℕ, zero, suc, ◌+◌, drop, Bool, true, false, ◌&&◌, nat_eq, nat_lt, List, [], ◌∷◌, map, length, take, Option, Some, None, is_some, IsSome, IsTrue, MatchBool, if◌then◌else◌}
use Rattle.lus_values.specs.Lists.{item, Each, Below}
use Rattle.lus_values.specs.Operators.{apply}
use Rattle.lus_values.specs.Values.{Value, nil, Row}
use Rattle.lus_values.specs.Entries.{is_constructor, with_operand, with_operands}
use Rattle.lus_program.specs.Programs.{Expression, literal, variable, operate, pre, arrow, when, merge, call, Operands, none, more, Node, Program, node_at}
use Rattle.lus_streams.specs.Clocks.{Clock, clock_of, Part, at, formal_clock}
use Rattle.lus_streams.specs.Equations.{Definition, given_by, definition_of, node_parts, Site, sites}

-- an instant of a node: whether its base clock is present, the entries of its variables, and the same instant of each
-- called node, by the calls' numbers
mutual
  pub data Instant : Type 0 where
    instant : Bool → Row → Called → Instant

  pub data Called : Type 0 where
    nobody : Called
    also : Instant → Called → Called

-- a world of a node: its instants, the newest first; so the tail of a world is its past
abbrev pub World : Type 0
World = List Instant

-- the base clock is present
abbrev pub is_present : Instant → Bool
is_present (instant b row js) = b

abbrev pub row_of : Instant → Row
row_of (instant b row js) = row

-- what a variable holds, None where it is absent
abbrev pub entry : Instant → ℕ → Option Value
entry i x = item None (row_of i) x

-- the instant of a called node by the call's number, or one without variables past the end
abbrev pub called_at : Called → ℕ → Instant
called_at nobody c = instant false [] nobody
called_at (also j js) zero = j
called_at (also j js) (suc c) = called_at js c

-- the same instant of the node that call c calls
abbrev pub called_instant : ℕ → Instant → Instant
called_instant c (instant b row js) = called_at js c

-- the world of the node that call c calls
abbrev pub called_world : ℕ → World → World
called_world c w = map (called_instant c) w

-- variable x holds constructor c
abbrev pub holds : ℕ → ℕ → Instant → Bool
holds x c i = is_constructor c (entry i x)

-- a clock is present: its base is, and each test holds
abbrev pub is_on : Clock → Instant → Bool
is_on [] i = is_present i
is_on (t ∷ k) i = holds t.variable t.constructor i && is_on k i

-- what f gives at the last instant of a past at which k is present, or d without one
abbrev pub at_last : {X : Type 0} → Clock → World → X → (Instant → World → X) → X
at_last k [] d f = d
at_last k (i ∷ past) d f = elim (is_on k i) [ true ↦ f i past | false ↦ at_last k past d f ]

-- an entry is absent where its clock is
abbrev pub where_on : Bool → Option Value → Option Value
where_on true v = v
where_on false v = None

module _ (p : Program) where
  -- output n of call c, which calls g: the outputs follow the inputs
  abbrev pub output : ℕ → ℕ → ℕ → Instant → Option Value
  output g c n now = entry (called_instant c now) ((node_at p g).inputs + n)

  -- the value of an expression on k at an instant at which k is present, nil too, or None where it has no value: `pre` has
  -- the operand's value at the last instant of the clock, nil without one; `->` is its first operand at the first instant
  -- of the clock, its second at all later ones; `when` is its operand on the clock without the test; a merge is the branch
  -- of the constructor that its variable holds
  abbrev mutual
    pub value : Expression → Clock → Instant → World → Option Value
    value (literal v) k now past = Some v
    value (variable x) k now past = entry now x
    value (operate o es) k now past = with_operands (apply o) (values es k now past)
    value (pre a) k now past = at_last k past (Some nil) (λ i before. value a k i before)
    value (arrow a b) k now past = at_last k past (value a k now past) (λ i before. value b k now past)
    value (when t a) k now past = value a (drop 1 k) now past
    value (merge x bs) k now past = branch bs x 0 k now past
    value (call g c args) k now past = output g c 0 now

    pub values : Operands → Clock → Instant → World → Option (List Value)
    values none k now past = Some []
    values (more e es) k now past = with_operand (value e k now past) (values es k now past)

    pub branch : Operands → ℕ → ℕ → Clock → Instant → World → Option Value
    branch none x c k now past = None
    branch (more e es) x c k now past =
        elim (holds x c now) [
          | true ↦ value e (record { variable = x; constructor = c } ∷ k) now past
          | false ↦ branch es x (suc c) k now past
        ]

  -- what the inputs of a called node hold, from formal m on
  abbrev pub inputs_given : Operands → Node → Operands → Clock → ℕ → Instant → World → Row
  inputs_given none g args base m now past = []
  inputs_given (more e es) g args base m now past =
      where_on (is_on (formal_clock g args base m) now) (value e (formal_clock g args base m) now past) ∷ inputs_given es g args base (suc m) now past

module _ (p : Program) where
  -- the value of a variable by its definition: of its own output, where that is a call's
  abbrev pub definition_value : Option Definition → Instant → World → Option Value
  definition_value None now past = None
  definition_value (Some (given_by (call g c args) n xs k)) now past = output p g c n now
  definition_value (Some (given_by e n xs k)) now past = value p e k now past

  -- a part has a value, or is nil, where its clock is present
  abbrev pub HasValue : Part → Instant → World → Type 0
  HasValue (at k e) now past = IsTrue (is_on k now) → IsSome (value p e k now past)

  -- an input is present exactly where its clock is; any other variable has what its equation gives, where its clock is present
  abbrev pub Follows : Node → Instant → World → ℕ → Type 0
  Follows f now past x =
      MatchBool (nat_lt x f.inputs)
      (is_some (entry now x) ≡ is_on (clock_of f x) now)
      (entry now x ≡ where_on (is_on (clock_of f x) now) (definition_value (definition_of f x) now past))

  -- the equations of f hold at an instant, and nothing in its text is at fault: each expression is computed wherever its own
  -- clock is present, used or not
  pub record EquationsHold (f : Node) (now : Instant) (past : World) : Type 0 where
    pub width : length (row_of now) ≡ length f.variables
    pub variables : Below (length f.variables) (λ x. Follows f now past x)
    pub no_fault : Each (λ e. HasValue e now past) (node_parts p f)

  -- instant j of a called node is the call's: it has the call's base as base and the arguments' values as inputs
  pub record IsFed (s : Site) (j now : Instant) (past : World) : Type 0 where
    pub numbered : called_instant s.number now ≡ j
    pub base : is_present j ≡ is_on s.base now
    pub inputs : take (node_at p s.node).inputs (row_of j) ≡ inputs_given p s.args (node_at p s.node) s.args s.base 0 now past

  -- an instant of node f after a past, with the instants of the nodes that f calls
  abbrev mutual
    pub IsInstant : Instant → ℕ → World → Type 0
    IsInstant (instant b row js) f past =
        EquationsHold (node_at p f) (instant b row js) past × EachCall js (sites p (node_at p f)) (instant b row js) past

    pub EachCall : Called → List Site → Instant → World → Type 0
    EachCall nobody [] now past = Unit {0}
    EachCall nobody (s ∷ ss) now past = ⊥
    EachCall (also j js) [] now past = ⊥
    EachCall (also j js) (s ∷ ss) now past = IsFed s j now past × IsInstant j s.node (called_world s.number past) × EachCall js ss now past

  -- a world satisfies the equations of node f, and the worlds of its calls those of the called nodes
  abbrev pub Satisfies : ℕ → World → Type 0
  Satisfies f [] = Unit {0}
  Satisfies f (now ∷ past) = IsInstant now f past × Satisfies f past

  -- the streams of node f for a list of inputs, the newest first: a world that is present at every instant, with these inputs
  pub record Streams (f : ℕ) (inputs : List Row) (w : World) : Type 0 where
    pub satisfied : Satisfies f w
    pub always : Each (λ i. IsTrue (is_present i)) w
    pub rows : map (λ i. take (node_at p f).inputs (row_of i)) w ≡ inputs
