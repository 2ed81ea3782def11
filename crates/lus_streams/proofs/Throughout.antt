-- What holds at an instant and in the nodes called at it.
use Rattle.std.proofs.Common.{ℕ, List, [], ◌∷◌}
use Rattle.lus_program.specs.Programs.{Program, node_at}
use Rattle.lus_streams.specs.Equations.{Site, sites}
use Rattle.lus_streams.specs.Streams.{Instant, instant, Called, nobody, also, World, called_world}
use Rattle.lus_streams.specs.Throughout.{Throughout, ThroughoutCalls}

pub throughout_here : (p : Program) (P : ℕ → Instant → World → Type 0) (i : Instant) (f : ℕ) (past : World) → Throughout p P i f past → P f i past
throughout_here p P (instant b row js) f past h = h.0

module _ (p : Program) (P Q : ℕ → Instant → World → Type 0) (follows : (f : ℕ) (i : Instant) (past : World) → P f i past → Q f i past) where
  mutual
    pub throughout_implies : (i : Instant) (f : ℕ) (past : World) → Throughout p P i f past → Throughout p Q i f past
    throughout_implies (instant b row js) f past h = (follows f (instant b row js) past h.0, calls_imply js (sites p (node_at p f)) past h.1)

    calls_imply : (js : Called) (ss : List Site) (past : World) → ThroughoutCalls p P js ss past → ThroughoutCalls p Q js ss past
    calls_imply nobody ss past h = tt
    calls_imply (also j js) [] past h = tt
    calls_imply (also j js) (s ∷ ss) past h = (throughout_implies j s.node (called_world s.number past) h.0, calls_imply js ss past h.1)
