-- Which first lines of journals are read.
use Rattle.std.specs.Prelude.{◌≡◌, ◌++◌, Option, Some, None, codes}
use Rattle.lus_values.specs.Names.{Text}
use Rattle.lus_asked.specs.Asked.{IsCaller}
use Rattle.lus_lawful.specs.Journals.{head_of}
use Rattle.lus_lawful.specs.declared.head.Head.{Head}

-- these names were read
abbrev pub IsHead : Text → Text → Option Head → Type 0
IsHead instance node None = ⊥
IsHead instance node (Some h) = (h.instance.now ≡ instance) × (h.node.now ≡ node)

-- the first line of an instance and a node whose names are one word each is read
abbrev pub ReadsHead : Text → Option Head → Type 0
ReadsHead line o = (instance node : Text) → IsCaller instance → IsCaller node → line ≡ head_of instance node ++ codes "\n" → IsHead instance node o
