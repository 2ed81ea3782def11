-- Rows at which a part is at fault.
use Rattle.std.specs.Prelude.{ℕ, Bool, IsTrue, List, [], take}
use Rattle.lus_values.specs.Lists.{item}
use Rattle.lus_values.specs.Values.{Row}
use Rattle.lus_program.specs.Programs.{Program}
use Rattle.lus_streams.specs.Streams.{Instant, World, Streams}
use Rattle.lus_attempts.specs.Attempts.{Tries}
use Rattle.lus_simulation.specs.Lineages.{Lineage}
use Rattle.lus_requests.specs.declared.request.Why.TheVariants.{Fault as ForFault}
use Rattle.lus_history.specs.Pasts.{joined}
use Rattle.lus_history.specs.Replies.{HasRefused}
use Rattle.lus_worlds.specs.declared.moment.Fault.{Fault}
use Rattle.lus_worlds.specs.declared.moment.Moment.{Moment}
use Rattle.lus_worlds.specs.Moments.{KeepsBehind, NamesFault}

-- behind a lineage and the rows before it, the equations of node f give this fault at a row
pub record FaultsAt (p : Program) (f : ℕ) (l : Lineage) (rows : List Row) (t : Fault) (row : ℕ) : Type 0 where
  pub past : World
  pub now : Instant
  pub streams : Streams p f (joined (take row rows) l) past
  pub tries : Tries p f (item [] rows row) now past
  pub named : NamesFault p t f now past

-- and so behind each lineage of whose streams this is kept
abbrev pub HasFault : Program → ℕ → List Row → Moment → Fault → ℕ → Type 0
HasFault p f rows old t row = (l : Lineage) (w : World) → Streams p f l w → KeepsBehind p old f w → FaultsAt p f l rows t row

-- nor is any of the rows refused for a fault
abbrev pub HasNone : Program → ℕ → List Row → Moment → Type 0
HasNone p f rows old = (l : Lineage) (w : World) → Streams p f l w → KeepsBehind p old f w → HasRefused p f l rows ForFault → ⊥

-- none of these rows is refused for a fault behind a lineage, if there are streams for that; which is said where it is sure
abbrev pub NoneRefused : Bool → Program → ℕ → Lineage → List Row → Type 0
NoneRefused sure p f l rows = IsTrue sure → (w : World) → Streams p f l w → HasRefused p f l rows ForFault → ⊥

-- behind each such lineage and the rows this is kept of their streams
abbrev pub ReachesBehind : Program → ℕ → List Row → Moment → Moment → Type 0
ReachesBehind p f rows old m = (l : Lineage) (w : World) → Streams p f l w → KeepsBehind p old f w → (w' : World) × Streams p f (joined rows l) w' × KeepsBehind p m f w'
