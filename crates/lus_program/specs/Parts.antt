-- How many parts a program has: its equations, and the expressions in them.
use Rattle.std.specs.Prelude.{◌+◌, ℕ, suc, sum_by}
use Rattle.lus_program.specs.Programs.{Expression, literal, variable, operate, pre, arrow, when, merge, call, Operands, none, more, Node, Program}

-- an expression counts one, and what its operands count
abbrev mutual
  pub parts : Expression → ℕ
  parts (literal v) = 1
  parts (variable x) = 1
  parts (operate o es) = suc (parts_all es)
  parts (pre a) = suc (parts a)
  parts (arrow a b) = suc (parts a + parts b)
  parts (when t a) = suc (parts a)
  parts (merge x bs) = suc (parts_all bs)
  parts (call g c es) = suc (parts_all es)

  pub parts_all : Operands → ℕ
  parts_all none = 0
  parts_all (more e es) = parts e + parts_all es

-- each equation counts one, and what its right side counts
abbrev pub node_parts : Node → ℕ
node_parts f = sum_by (λ q. suc (parts q.right)) f.equations

abbrev pub program_parts : Program → ℕ
program_parts p = sum_by node_parts p.nodes
