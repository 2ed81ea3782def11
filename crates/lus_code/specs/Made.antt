-- The classes of a program in normal form, as they are made.
use Rattle.std.specs.Prelude.{◌≡◌, ℕ, ◌+◌, ◌^◌, ◌<◌, ◌≤◌, List, length, sum_by}
use Rattle.lus_values.specs.Lists.{item}
use Rattle.lus_syntax.specs.Limits.{most_cells}
use Rattle.lus_graph.specs.Ways.{IsOrder}
use Rattle.lus_program.specs.Programs.{Program, node_at}
use Rattle.lus_program.specs.Resolved.{program_uses}
use Rattle.lus_streams.specs.Clocks.{Part}
use Rattle.lus_streams.specs.Equations.{sites}
use Rattle.lus_normal_form.specs.NormalNodes.{IsNormalOf, node_firsts, node_memories}
use Rattle.lus_simulation.specs.Checked.{IsChecked}
use Rattle.lus_turns.specs.Turned.{HaveOneLeft}

-- p is a normal form of a checked program, whose nodes stand in an order behind those that they call
pub record HasSource (p : Program) (order : List ℕ) : Type 0 where
  pub source : Program
  pub new_parts : ℕ → List Part
  pub checked : IsChecked source
  pub normal : IsNormalOf source p new_parts
  pub size : length p.nodes ≡ length source.nodes
  pub ordered : IsOrder (program_uses source) order

-- each node keeps no more than its count: its memories, its marks of a first instant, and for each call what the called node's
-- count says
abbrev pub NodesKeepTo : List ℕ → Program → Type 0
NodesKeepTo counts p =
    (g : ℕ) → node_memories (node_at p g) + node_firsts (node_at p g) + sum_by (λ s. item 0 counts s.node) (sites p (node_at p g)) ≤ item 0 counts g

-- nodes and their variables can be numbered, nodes keep to counts within the limit of state cells, and right sides that are no calls
-- give one variable
pub record AreSmall (p : Program) : Type 0 where
  pub nodes : length p.nodes < 2 ^ 32
  pub variables : (g : ℕ) → length (node_at p g).variables + 1 < 2 ^ 32
  pub counts : List ℕ
  pub kept : NodesKeepTo counts p
  pub few : (g : ℕ) → item 0 counts g ≤ most_cells
  pub lefts : (g : ℕ) → HaveOneLeft (node_at p g)
