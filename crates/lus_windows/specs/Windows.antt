-- What is kept of the lineages of an instance.
use Rattle.std.specs.Prelude.{◌≡◌, ◌<◌, ◌&&◌, ℕ, Bool, true, nat_lt, List, [], ◌∷◌, length, map, Option, MatchOption, IsTrue, is_none}
use Rattle.lus_program.specs.Programs.{Program}
use Rattle.lus_program.specs.Resolved.{Resolved}
use Rattle.lus_order.specs.Orders.{AreOrders}
use Rattle.lus_requests.specs.declared.request.Request.{Request}
use Rattle.lus_requests.specs.declared.request.Request.TheVariants.{Restore}
use Rattle.lus_requests.specs.declared.request.Reply.{Reply}
use Rattle.lus_requests.specs.declared.request.Reply.TheVariants.{Done}
use Rattle.lus_requests.specs.declared.request.Entry.{Entry}
use Rattle.lus_streams.specs.Streams.{World, Streams}
use Rattle.lus_simulation.specs.Lineages.{Lineage, HasNoStreams}
use Rattle.lus_history.specs.Pasts.{Past, past_of, lineage}
use Rattle.lus_history.specs.Keeping.{Keeps}
use Rattle.lus_history.specs.Replies.{slots}
use Rattle.lus_worlds.specs.declared.moment.Moment.{Moment}
use Rattle.lus_worlds.specs.Moments.{KeepsBehind}
use Rattle.lus_windows.specs.declared.window.Reached.{Reached}
use Rattle.lus_windows.specs.declared.window.Window.{Window}

-- a slot that was restored is one
abbrev pub has_slot : Request → Reply → Bool
has_slot (Restore n) Done = nat_lt n slots
has_slot _ _ = true

abbrev pub have_slots : List Entry → Bool
have_slots [] = true
have_slots (e ∷ h) = has_slot e.request e.reply && have_slots h

-- this is kept of streams of node f for a lineage; nothing is kept where there are none, which is said where it is sure
abbrev pub IsKept : Bool → Program → ℕ → Lineage → Option Moment → Type 0
IsKept sure p f l o = MatchOption o (IsTrue sure → HasNoStreams p f l) (λ m. (w : World) × Streams p f l w × KeepsBehind p m f w)

abbrev pub IsReached : Bool → Program → ℕ → Lineage → Reached → Type 0
IsReached sure p f l r = IsKept sure p f l r.moment

abbrev pub orders_in : Window → List (List ℕ)
orders_in w = map (λ order. order.items) w.orders.items

-- a window of node f of a resolved program keeps what a past has: of its lineage, and in each slot of what that saves
pub record KeepsPast (sure : Bool) (p : Program) (f : ℕ) (past : Past) (w : Window) : Type 0 where
  pub resolved : Resolved p
  pub within : f < length p.nodes
  pub orders : AreOrders p (orders_in w)
  pub node : w.node ≡ f
  pub keeps : Keeps p f (λ r l. IsReached sure p f l r) past w.reached w.saved.items

-- and what these entries leave: nothing is kept only where there are no streams, unless a slot was restored that there isn't
abbrev pub HasFollowed : Program → ℕ → List Entry → Window → Type 0
HasFollowed p f h w = KeepsPast (have_slots h) p f (past_of h) w

-- node f has no streams for the lineage that these entries leave, unless a slot was restored that there isn't
abbrev pub HaveNoStreams : Program → ℕ → List Entry → Type 0
HaveNoStreams p f h = IsTrue (have_slots h) → HasNoStreams p f (lineage h)

-- a caller's entry
abbrev pub entry_by : ℕ → Request → Reply → Entry
entry_by c request reply = record { caller = c; request = request; reply = reply }

-- nothing is kept of the lineage
abbrev pub is_lost : Window → Bool
is_lost w = is_none w.reached.moment
