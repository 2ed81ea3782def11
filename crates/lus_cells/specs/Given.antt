-- Leaves and cells of expressions, by the types that are found without their tests.
use Rattle.std.specs.Prelude.{ℕ, List}
use Rattle.lus_values.specs.Lists.{item}
use Rattle.lus_program.specs.Programs.{Expression, Operands, Node, Program}
use Rattle.lus_program.specs.Given.{given}
use Rattle.lus_program.specs.Leaves.{kind_leaves}
use Rattle.lus_cells.specs.Cells.{expression_cells, operand_cells}

-- the greatest count that a table holds
abbrev pub most : ℕ
most = 4294967295

module _ (p : Program) (f : Node) where
  -- the leaves of what an expression gives, in this table
  abbrev pub given_leaves : List ℕ → Expression → ℕ
  given_leaves leaves e = kind_leaves (item 1 leaves) (given p f e)

  -- the cells of an expression, by the tables of leaves and cells
  abbrev pub counted : List ℕ → List ℕ → Expression → ℕ
  counted leaves cells = expression_cells (given_leaves leaves) (item 0 cells)

  abbrev pub all_counted : List ℕ → List ℕ → Operands → ℕ
  all_counted leaves cells = operand_cells (given_leaves leaves) (item 0 cells)
