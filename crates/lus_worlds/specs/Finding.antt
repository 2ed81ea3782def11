-- Instants of nodes that were found so far, and instants that are sought.
use Rattle.std.specs.Prelude.{◌≡◌, ◌<◌, ◌≤◌, ℕ, zero, suc, Bool, true, false, List, [], ◌∷◌, ◌++◌, length, map, reverse, take, Option, Some, None, is_some, MatchOption, slice_get, slice_set}
use Rattle.lus_values.specs.Lists.{item, Each}
use Rattle.lus_values.specs.Values.{Row, Value}
use Rattle.lus_values.specs.View.{entry_of}
use Rattle.lus_program.specs.Programs.{call, Operands, Node, Program, node_at}
use Rattle.lus_program.specs.View.{expression_of}
use Rattle.lus_program.specs.Resolved.{Resolved}
use Rattle.lus_streams.specs.Clocks.{clock_of, Part, at}
use Rattle.lus_streams.specs.Equations.{node_parts, Site, sites}
use Rattle.lus_streams.specs.OnClock.{ProgramOnClocks}
use Rattle.lus_streams.specs.Order.{IsOrder}
use Rattle.lus_streams.specs.Streams.{Instant, instant, Called, nobody, also, World, called_world, is_present, row_of, entry, is_on, inputs_given}
use Rattle.lus_attempts.specs.Attempts.{IsAttempt}
use Rattle.lus_reference.specs.Given.{callee}
use Rattle.lus_worlds.specs.declared.finding.Found.{Found}
use Rattle.lus_worlds.specs.declared.moment.Moment.{Moment}
use Rattle.lus_parts.specs.declared.part.Part.{Part as StoredPart}
use Rattle.lus_parts.specs.Parts.{part_of}
use Rattle.lus_worlds.specs.Following.{IsMeant}
use Rattle.lus_worlds.specs.Turns.{CanRunInTurn}
use Rattle.lus_worlds.specs.Moments.{instant_of, row_in, IsNext, KeepsBehind}

-- a call that did not run yet has neither a row nor an instant
abbrev pub row_so_far : Option Moment → Row
row_so_far None = []
row_so_far (Some m) = row_in m

abbrev pub called_so_far : List (Option Moment) → Called
called_so_far [] = nobody
called_so_far (None ∷ os) = also (instant false [] nobody) (called_so_far os)
called_so_far (Some m ∷ os) = also (instant_of m) (called_so_far os)

-- a call ran, or there is none of this number
abbrev pub has_run : List (Option Moment) → ℕ → Bool
has_run [] c = true
has_run (o ∷ os) zero = is_some o
has_run (o ∷ os) (suc c) = has_run os c

-- the instants of the nodes that are called
abbrev pub called_by : Instant → Called
called_by (instant b row js) = js

-- an instant is the one that is sought, and it is the next one of node f
abbrev pub IsFoundNext : Program → ℕ → Instant → World → Moment → Type 0
IsFoundNext p f now past m = (instant_of m ≡ now) × IsNext p m f past

-- where a call ran, its instant is the one that is sought
abbrev pub HaveRun : Program → World → List (Option Moment) → Called → List Site → Type 0
HaveRun p past [] nobody [] = Unit {0}
HaveRun p past (o ∷ os) (also j js) (s ∷ ss) = MatchOption o (Unit {0}) (IsFoundNext p s.node j (called_world s.number past)) × HaveRun p past os js ss
HaveRun p past _ _ _ = ⊥

-- the entry of a variable is the one that is sought
abbrev pub IsFound : (row : Row) → Instant → ℕ → Type 0
IsFound row now x = item None row x ≡ entry now x

-- a resolved program on clocks, with an order of the variables of each node
pub record IsPrepared (p : Program) (orders : List (List ℕ)) : Type 0 where
  pub resolved : Resolved p
  pub clocks : ProgramOnClocks p
  pub ordered : (f : ℕ) → f < length p.nodes → IsOrder (node_at p f) (reverse (item [] orders f))

-- and node f is one of the program's
abbrev pub IsReady : Program → List (List ℕ) → ℕ → Type 0
IsReady p orders f = IsPrepared p orders × (f < length p.nodes)

-- an instant of node f is sought: what the equations give behind this, with this base
pub record IsSought (p : Program) (f : ℕ) (present : Bool) (old : Moment) (now : Instant) (past : World) : Type 0 where
  pub keeps : KeepsBehind p old f past
  pub attempt : IsAttempt p now f past
  pub base : is_present now ≡ present

-- what was found so far is of the instant that is sought, and its inputs are there
pub record IsOf (p : Program) (f : ℕ) (now : Instant) (past : World) (found : Found) : Type 0 where
  pub width : length found.row.items ≡ length (node_at p f).variables
  pub inputs : (x : ℕ) → x < (node_at p f).inputs → IsFound (map entry_of found.row.items) now x
  pub rows : found.rows.items ≡ map row_so_far found.called.items
  pub called : HaveRun p past found.called.items (called_by now) (sites p (node_at p f))

-- more calls ran
pub record RanMore (p : Program) (f : ℕ) (now : Instant) (past : World) (old new : Found) : Type 0 where
  pub row : new.row ≡ old.row
  pub stays : (c : ℕ) → has_run old.called.items c ≡ true → has_run new.called.items c ≡ true
  pub of : IsOf p f now past new

-- whichever instant with this base and these inputs is sought is found
abbrev pub Finds : Program → ℕ → Bool → (given : Row) → Moment → Option Moment → Type 0
Finds p f present given old o =
    (now : Instant) (past : World) → IsSought p f present old now past → take (node_at p f).inputs (row_of now) ≡ given → MatchOption o ⊥ (IsFoundNext p f now past)

-- variable x is found by its equation from these entries and these rows of calls; an input is as it was
abbrev pub IsFoundBy : Program → Node → ℕ → Bool → (kept : Row) → List Row → (row row' : Row) → Type 0
IsFoundBy p f x present kept rows row row' =
    (x < f.inputs → row' ≡ row)
    × (f.inputs ≤ x → (v : Option Value) × IsMeant p row f x (is_on (clock_of f x) (instant present row nobody)) kept rows v × (row' ≡ slice_set row x v))

-- nothing where it is held back
abbrev pub unless : Bool → List ℕ → List ℕ
unless true cs = []
unless false cs = cs

module _ (p : Program) (orders : List (List ℕ)) (present : Bool) (old : Moment) where
  -- of whichever instant is sought, these calls run where they can run in turn behind those that ran
  abbrev pub RunsInTurn : List StoredPart → List ℕ → (found found' : Found) → Type 0
  RunsInTurn parts cs found found' =
      (f : ℕ) (now : Instant) (past : World) (before : List ℕ) → IsPrepared p orders → map part_of parts ≡ node_parts p (node_at p f) → IsSought p f present old now past → IsOf p f now past found
      → CanRunInTurn (sites p (node_at p f)) (IsFound (map entry_of found.row.items) now) before cs → Each (λ c. has_run found.called.items c ≡ true) before
      → RanMore p f now past found found' × Each (λ c. has_run found'.called.items c ≡ true) cs

  -- the node of call c runs, with this base and these inputs, where they are those of the instant that is sought
  abbrev pub RunsNode : (c g : ℕ) → Bool → (given : Row) → (found found' : Found) → Type 0
  RunsNode c g on given found found' =
      (f : ℕ) (now : Instant) (past : World) (s : Site) → IsPrepared p orders → IsSought p f present old now past → IsOf p f now past found
      → slice_get (sites p (node_at p f)) c ≡ Some s → s.node ≡ g → on ≡ is_on s.base now → given ≡ inputs_given p s.args (node_at p g) s.args s.base 0 now past
      → RanMore p f now past found found' × (has_run found'.called.items c ≡ true)

  -- all variables are found, and all calls ran
  abbrev pub FindsAll : Node → List ℕ → (found found' : Found) → Type 0
  FindsAll g order found found' =
      (f : ℕ) (now : Instant) (past : World) → IsPrepared p orders → g ≡ node_at p f → IsOrder g (reverse order) → IsSought p f present old now past → IsOf p f now past found
      → IsOf p f now past found' × ((x : ℕ) → IsFound (map entry_of found'.row.items) now x) × ((c : ℕ) → has_run found'.called.items c ≡ true)

-- the places of the calls among parts, the first of which is at place i
abbrev pub call_place : StoredPart → ℕ → List ℕ
call_place q i = elim (callee (expression_of q.expr.now)) [ None ↦ [] | Some g ↦ i ∷ [] ]

abbrev pub call_places : List StoredPart → ℕ → List ℕ
call_places [] i = []
call_places (q ∷ qs) i = call_place q i ++ call_places qs (suc i)

-- a part that isn't call c
abbrev pub IsOther : ℕ → Part → Type 0
IsOther c (at k (call g n args)) = n ≡ c → ⊥
IsOther c _ = Unit {0}

-- a part that is call c, of node g with these arguments
abbrev pub CallsHere : ℕ → StoredPart → ℕ → Operands → Type 0
CallsHere c q g es = (q.number ≡ c) × (expression_of q.expr.now ≡ call g 0 es)
