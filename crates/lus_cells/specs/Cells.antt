-- State cells: how much an instance of a node keeps from one instant to the next. That they are limited, and how they are
-- counted, is this project's choice.
use Rattle.std.specs.Prelude.{◌≡◌, ◌<◌, ◌≤◌, ◌+◌, ℕ, max, sum_by, List, length, Option, Some, None, slice_get}
use Rattle.lus_values.specs.Lists.{item, Each, Below}
use Rattle.lus_syntax.specs.Limits.{most_cells}
use Rattle.lus_program.specs.declared.node.Node.{Node as StoredNode}
use Rattle.lus_program.specs.declared.node.Program.{Program as StoredProgram}
use Rattle.lus_program.specs.declared.types.Kind.{Kind}
use Rattle.lus_program.specs.Programs.{Expression, literal, variable, operate, pre, arrow, when, merge, call, Operands, none, more, Node, Program, node_at}
use Rattle.lus_program.specs.View.{program_seen}
use Rattle.lus_program.specs.Resolved.{kind_in}
pub use Rattle.lus_program.specs.Leaves.{kind_leaves, AreLeaves, HaveLeaves}

-- the leaves of what an expression gives
abbrev pub leaves_given : (ℕ → ℕ) → Option Kind → ℕ
leaves_given at None = 0
leaves_given at (Some k) = kind_leaves at k

-- The cells of an expression, where what an expression gives has `size` leaves and node g has `at g` cells: for each `pre`
-- the leaves of its type, one for each `->`, and for each call the cells of the called node, but at least one.
module _ (size : Expression → ℕ) (at : ℕ → ℕ) where
  abbrev mutual
    pub expression_cells : Expression → ℕ
    expression_cells (literal v) = 0
    expression_cells (variable x) = 0
    expression_cells (operate o es) = operand_cells es
    expression_cells (pre a) = size a + expression_cells a
    expression_cells (arrow a b) = 1 + (expression_cells a + expression_cells b)
    expression_cells (when t a) = expression_cells a
    expression_cells (merge x bs) = operand_cells bs
    expression_cells (call g n es) = max 1 (at g) + operand_cells es

    pub operand_cells : Operands → ℕ
    operand_cells none = 0
    operand_cells (more e es) = expression_cells e + operand_cells es

-- the cells of a node, where declared types have these leaves and nodes these cells
abbrev pub node_cells : Program → (ℕ → ℕ) → (ℕ → ℕ) → Node → ℕ
node_cells p leaves at f = sum_by (λ q. expression_cells (λ e. leaves_given leaves (kind_in p f e)) at q.right) f.equations

-- the cells of the nodes. Since no node calls itself, directly or round, there is one such list
pub record AreCells (p : Program) (cells : List ℕ) : Type 0 where
  pub leaves : ℕ → ℕ
  pub leaves_are : AreLeaves p leaves
  pub size : length cells ≡ length p.nodes
  pub each : Below (length p.nodes) (λ f. item 0 cells f ≡ node_cells p leaves (item 0 cells) (node_at p f))

-- the cells of the nodes, none of which has too many
pub record AreStateCells (p : Program) (cells : List ℕ) : Type 0 where
  pub exact : AreCells p cells
  pub few : Each (λ n. n ≤ most_cells) cells

-- no node has too many state cells
abbrev pub FitsCells : Program → Type 0
FitsCells p = (cells : List ℕ) × AreStateCells p cells

-- node f has too many
abbrev pub HasTooMany : Program → ℕ → Type 0
HasTooMany p f = (cells : List ℕ) × AreCells p cells × (most_cells < item 0 cells f)

-- at this line and column stands the name of a node that has too many
pub record NamesTooMany (p : StoredProgram) (line column : ℕ) : Type 0 where
  pub number : ℕ
  pub node : StoredNode
  pub found : slice_get p.nodes.items number ≡ Some node
  pub line_is : line ≡ node.place.line
  pub column_is : column ≡ node.place.column
  pub many : HasTooMany (program_seen p) number
