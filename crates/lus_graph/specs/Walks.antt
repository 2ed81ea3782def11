-- What the walk keeps.
use Rattle.std.specs.Prelude.{◌≡◌, ℕ, suc, ◌+◌, ◌<◌, ◌≤◌, List, ◌++◌, length, drop, take, map, sum_by, Contains, Vec}
use Rattle.std.specs.declared.alloc.Global.{Global}
use Rattle.lus_values.specs.Lists.{item}
use Rattle.lus_graph.specs.declared.walk.Mark.{Mark}
use Rattle.lus_graph.specs.declared.walk.Mark.TheVariants as marks
use Rattle.lus_graph.specs.declared.walk.GraphError.{GraphError}
use Rattle.lus_graph.specs.declared.walk.GraphError.TheVariants as errors
use Rattle.lus_graph.specs.Ways.{Uses, used, IsOrdered, IsWay, IsCycle}

abbrev pub uses_of : List (Vec ℕ Global) → Uses
uses_of vs = map (λ v. v.items) vs

-- the mark of a thing; nothing past the end is ever met
abbrev pub mark_at : List Mark → ℕ → Mark
mark_at ms x = item marks.New ms x

abbrev pub one_if_new : Mark → ℕ
one_if_new marks.New = 1
one_if_new (marks.Open k) = 0
one_if_new marks.Done = 0

abbrev pub new_count : List Mark → ℕ
new_count ms = sum_by one_if_new ms

-- marks tell what stands on the path and in the order
pub record IsSound (uses : Uses) (ms : List Mark) (path order : List ℕ) : Type 0 where
  pub size : length ms ≡ length uses
  pub counted : length path + length order + new_count ms ≡ length uses
  pub path_open : (k : ℕ) → k < length path → mark_at ms (item 0 path k) ≡ marks.Open k
  pub open_path : (x k : ℕ) → mark_at ms x ≡ marks.Open k → (k < length path) × (item 0 path k ≡ x)
  pub way : IsWay uses path
  pub ordered : IsOrdered uses order
  pub order_done : (x : ℕ) → Contains order x → mark_at ms x ≡ marks.Done
  pub done_order : (x : ℕ) → mark_at ms x ≡ marks.Done → Contains order x

-- the last thing of a path uses this one
abbrev pub IsReached : Uses → List ℕ → ℕ → Type 0
IsReached uses path x = (last : ℕ) → suc last ≡ length path → Contains (used uses (item 0 path last)) x

abbrev pub IsCycleError : Uses → GraphError → Type 0
IsCycleError uses errors.Memory = Unit {0}
IsCycleError uses (errors.Cycle cycle) = IsCycle uses cycle.items

-- the same things in the same round, the least first
pub record IsTurned (round turned : List ℕ) : Type 0 where
  pub least : ℕ
  pub within : least < length round
  pub same : turned ≡ drop least round ++ take least round
  pub lowest : (k : ℕ) → k < length round → item 0 round least ≤ item 0 round k
