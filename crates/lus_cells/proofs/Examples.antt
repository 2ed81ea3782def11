-- State cells of small programs.
use Rattle.std.proofs.Common.{refl, lit<, ℕ, zero, suc, [], ◌∷◌, None, arith}
use Rattle.lus_values.specs.declared.operator.Op.TheVariants.{Add}
use Rattle.lus_values.specs.declared.operator.Operator.TheVariants.{Compute}
use Rattle.lus_program.specs.declared.types.Kind.TheVariants as kinds
use Rattle.lus_program.specs.Programs.{variable, operate, arrow, fby, pre, call, none, structure, Variable, Node, Program}
use Rattle.lus_streams.proofs.Examples.{plain, equation, node, program, one, two, number, counter}
use Rattle.lus_cells.specs.Cells.{AreLeaves, AreStateCells, HasTooMany}

-- y = f(), of node g
abbrev calling : ℕ → Node
calling g = node 0 1 (plain ∷ []) (equation 0 (call g 0 none) ∷ [])

-- y = 0
abbrev still : Node
still = node 0 1 (plain ∷ []) (equation 0 (number 0) ∷ [])

-- n = 0 -> pre n + 1 keeps two; a call keeps what the called node does, but at least one
calls_keep : AreStateCells (program (counter ∷ calling 0 ∷ still ∷ calling 2 ∷ [])) (2 ∷ 2 ∷ 0 ∷ 1 ∷ [])
calls_keep = record {
  exact = record { leaves = λ t. 1; leaves_are = λ t. refl; size = refl; each = (refl, (refl, (refl, (refl, tt)))) };
  few = (omega arith, (omega arith, (omega arith, (omega arith, tt))));
}

-- type p = struct { x: int; y: int }
abbrev pairs : Node → Program
pairs f = record { types = structure (record { name = 120 ∷ []; kind = kinds.Int } ∷ record { name = 121 ∷ []; kind = kinds.Int } ∷ []) ∷ []; nodes = f ∷ [] }

abbrev pair : Variable
pair = record { name = []; kind = kinds.Struct 0; test = None }

-- b = a fby a
abbrev delayed_pair : Node
delayed_pair = node 1 1 (pair ∷ pair ∷ []) (equation 1 (fby (variable 0) (variable 0)) ∷ [])

abbrev pair_leaves : ℕ → ℕ
pair_leaves zero = 2
pair_leaves (suc t) = 1

pairs_have : AreLeaves (pairs delayed_pair) pair_leaves
pairs_have zero = refl
pairs_have (suc t) = refl

-- both leaves, and the mark of a first instant
pairs_keep : AreStateCells (pairs delayed_pair) (3 ∷ [])
pairs_keep = record {
  exact = record { leaves = pair_leaves; leaves_are = pairs_have; size = refl; each = (refl, tt) };
  few = (omega arith, tt);
}

-- y = 0 -> pre x
abbrev delayed : Node
delayed = node 1 1 (plain ∷ plain ∷ []) (equation 1 (arrow (number 0) (pre (variable 0))) ∷ [])

-- y = g(x) + g(x)
abbrev doubling : ℕ → Node
doubling g = node 1 1 (plain ∷ plain ∷ []) (equation 1 (operate (Compute Add) (two (call g 0 (one (variable 0))) (call g 1 (one (variable 0))))) ∷ [])

-- each node doubles the cells of the one before: the seventeenth has too many
doubles_pass : HasTooMany (program (delayed ∷ doubling 0 ∷ doubling 1 ∷ doubling 2 ∷ doubling 3 ∷ doubling 4 ∷ doubling 5 ∷ doubling 6 ∷ doubling 7 ∷ doubling 8 ∷ doubling 9 ∷ doubling 10 ∷ doubling 11 ∷ doubling 12 ∷ doubling 13 ∷ doubling 14 ∷ doubling 15 ∷ [])) 16
doubles_pass = (
  2 ∷ 4 ∷ 8 ∷ 16 ∷ 32 ∷ 64 ∷ 128 ∷ 256 ∷ 512 ∷ 1024 ∷ 2048 ∷ 4096 ∷ 8192 ∷ 16384 ∷ 32768 ∷ 65536 ∷ 131072 ∷ [],
  record { leaves = λ t. 1; leaves_are = λ t. refl; size = refl; each = (refl, (refl, (refl, (refl, (refl, (refl, (refl, (refl, (refl, (refl, (refl, (refl, (refl, (refl, (refl, (refl, (refl, tt))))))))))))))))) },
  lit< tt,
)
