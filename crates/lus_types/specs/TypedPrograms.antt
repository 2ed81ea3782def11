-- How contracts see a typed source: its tree, and the program that it means.
use Rattle.std.specs.Prelude.{◌≡◌}
use Rattle.lus_syntax.specs.declared.tree.Tree.{Tree}
use Rattle.lus_syntax.specs.View.{tree_seen}
use Rattle.lus_program.specs.declared.node.Program.{Program}
use Rattle.lus_program.specs.View.{program_seen}
use Rattle.lus_source.specs.Meaning.{program_of}
use Rattle.lus_source.specs.Refusals.{WellFormed}

pub record TypedProgram : Type 0 where
  pub tree : Tree
  pub program : Program

-- the tree is well typed, within all its limits and without recursion, and the program is the one that it means
pub record IsTypedSource (tree : Tree) (program : Program) : Type 0 where
  pub formed : WellFormed (tree_seen tree)
  pub means : program_seen program ≡ program_of (tree_seen tree)
