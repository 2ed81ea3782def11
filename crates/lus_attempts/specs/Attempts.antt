-- What the equations of a node give at an instant, where something in its text may be at fault: an expression that has no value
-- then gives none to what is made of it, and is absent as a variable and as an input of a called node (Halbwachs, Caspi, Raymond
-- and Pilaud 1991, on variables and equations).
use Rattle.std.specs.Prelude.{◌≡◌, ℕ, true, nat_lt, List, [], ◌∷◌, length, take, Contains, None, is_some, IsTrue, MatchBool}
use Rattle.lus_values.specs.Lists.{Each, Below}
use Rattle.lus_values.specs.Values.{Row}
use Rattle.lus_program.specs.Programs.{Node, Program, node_at}
use Rattle.lus_streams.specs.Clocks.{clock_of, Part, at}
use Rattle.lus_streams.specs.Equations.{definition_of, node_parts, Site, sites}
use Rattle.lus_streams.specs.Streams.{Instant, instant, Called, nobody, also, World, is_present, row_of, entry, called_instant, called_world, is_on, where_on, value, definition_value, HasValue, IsFed}

module _ (p : Program) where
  -- an input has an entry only where its clock is present; any other variable has what its equation gives, where its clock is present
  abbrev pub FollowsFaults : Node → Instant → World → ℕ → Type 0
  FollowsFaults f now past x =
      MatchBool (nat_lt x f.inputs)
      (is_some (entry now x) ≡ true → is_on (clock_of f x) now ≡ true)
      (entry now x ≡ where_on (is_on (clock_of f x) now) (definition_value p (definition_of f x) now past))

  -- the equations of f hold at an instant, whatever is at fault
  pub record EquationsFollow (f : Node) (now : Instant) (past : World) : Type 0 where
    pub width : length (row_of now) ≡ length f.variables
    pub variables : Below (length f.variables) (λ x. FollowsFaults f now past x)

  -- what the equations of node f and of the nodes that it calls give after a past, faults or none
  abbrev mutual
    pub IsAttempt : Instant → ℕ → World → Type 0
    IsAttempt (instant b row js) f past =
        EquationsFollow (node_at p f) (instant b row js) past × EachAttempt js (sites p (node_at p f)) (instant b row js) past

    pub EachAttempt : Called → List Site → Instant → World → Type 0
    EachAttempt nobody [] now past = Unit {0}
    EachAttempt nobody (s ∷ ss) now past = ⊥
    EachAttempt (also j js) [] now past = ⊥
    EachAttempt (also j js) (s ∷ ss) now past = IsFed p s j now past × IsAttempt j s.node (called_world s.number past) × EachAttempt js ss now past

  -- nothing in the text of node f is at fault
  abbrev pub HasNoFault : ℕ → Instant → World → Type 0
  HasNoFault f now past = Each (λ e. HasValue p e now past) (node_parts p (node_at p f))

  -- each input of node f has an entry wherever its clock is present
  abbrev pub HasInputs : ℕ → Instant → World → Type 0
  HasInputs f now past =
      let g = node_at p f in
      Below (length g.variables) (λ x. MatchBool (nat_lt x g.inputs) (is_some (entry now x) ≡ is_on (clock_of g x) now) (Unit {0}))

  -- an instant of node f after a past at which its base is present, with these inputs
  pub record Tries (f : ℕ) (given : Row) (now : Instant) (past : World) : Type 0 where
    pub attempt : IsAttempt now f past
    pub present : IsTrue (is_present now)
    pub inputs : take (node_at p f).inputs (row_of now) ≡ given
    pub whole : HasInputs f now past

  -- a part is at fault: its own clock is present, and it has no value
  abbrev pub IsAtFault : Part → Instant → World → Type 0
  IsAtFault (at k e) now past = IsTrue (is_on k now) × (value p e k now past ≡ None)

  -- a part is at fault in the text of the node that a way of calls leads to: each call is of the node before, by its number
  abbrev pub FaultAt : List ℕ → Part → ℕ → Instant → World → Type 0
  FaultAt [] e f now past = Contains (node_parts p (node_at p f)) e × IsAtFault e now past
  FaultAt (c ∷ way) e f now past =
      (s : Site) × Contains (sites p (node_at p f)) s × (s.number ≡ c) × FaultAt way e s.node (called_instant c now) (called_world c past)
