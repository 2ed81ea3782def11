-- What the program keeps that a well-formed tree means.
use Rattle.lus_syntax.specs.Trees.{Tree}
use Rattle.lus_source.specs.Meaning.{program_of}
use Rattle.lus_source.specs.Refusals.{WellFormed}
use Rattle.lus_program.specs.Sound.{IsSound}

-- a well-formed tree means a sound program
abbrev pub MeantProgramsAreSound : Type 0
MeantProgramsAreSound = (t : Tree) → WellFormed t → IsSound (program_of t)
