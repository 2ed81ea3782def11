-- What is kept of parts from instant to instant.
use Rattle.std.proofs.Common.{true, false, List, [], ◌∷◌, drop, refl, ap}
use Rattle.lus_values.specs.Lists.{Each}
use Rattle.lus_values.specs.Values.{Row}
use Rattle.lus_program.specs.Programs.{Program}
use Rattle.lus_streams.specs.Clocks.{Part, at}
use Rattle.lus_streams.specs.Streams.{Instant, World, is_on, value, HasValue}
use Rattle.lus_reference.specs.Kept.{Keeps, renewed}
use Rattle.lus_reference.specs.Laws.{KeepsOn}

module _ (p : Program) where
  kept_first : (es : List Part) → Keeps p [] es []
  kept_first [] = tt
  kept_first (at k e ∷ es) = (refl, tt, kept_first es)

  kept_next : (es : List Part) (kept : Row) (now : Instant) (past : World) → Keeps p past es kept → Each (λ e. HasValue p e now past) es → Keeps p (now ∷ past) es (renewed p now past es kept)
  kept_next [] kept now past h has = tt
  kept_next (at k e ∷ es) kept now past h has =
      (ap (λ o. elim (is_on k now) [ true ↦ value p e k now past | false ↦ o ]) h.0, (has.0, h.1), kept_next es (drop 1 kept) now past h.2 has.1)

  pub keeps_on : KeepsOn p
  keeps_on = record { at_first = kept_first; at_next = kept_next }
