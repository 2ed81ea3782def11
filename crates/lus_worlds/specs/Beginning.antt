-- What is kept before the first instant.
use Rattle.std.specs.Prelude.{◌≡◌, ◌<◌, ℕ, zero, suc, List, [], ◌++◌, length}
use Rattle.lus_values.specs.Lists.{Each}
use Rattle.lus_program.specs.Programs.{Program, node_at}
use Rattle.lus_streams.specs.Equations.{Site, site_first, sites}
use Rattle.lus_parts.specs.declared.part.Part.{Part as StoredPart}
use Rattle.lus_parts.specs.Parts.{part_of}
use Rattle.lus_worlds.specs.declared.moment.Moment.{Moment}
use Rattle.lus_worlds.specs.Moments.{EachKeeps}

-- what was appended is kept before the first instant of the call at this part, if it is one
abbrev pub Begins : Program → StoredPart → List Moment → List Moment → Type 0
Begins p q old new =
    (added : List Moment) × (new ≡ old ++ added)
    × ((later : List Moment) (ss : List Site) → EachKeeps p later ss [] → EachKeeps p (added ++ later) (site_first p (part_of q) ss) [])

-- node f is of the program, and its calls are no deeper than this, those in the called nodes too
abbrev pub IsWithin : Program → ℕ → ℕ → Type 0
IsWithin p zero f = ⊥
IsWithin p (suc n) f = (f < length p.nodes) × Each (λ s. IsWithin p n s.node) (sites p (node_at p f))
