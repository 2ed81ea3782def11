-- Laws of what is kept and of what is recalled from it.
use Rattle.std.specs.Prelude.{List, [], ◌∷◌}
use Rattle.lus_values.specs.Lists.{Each}
use Rattle.lus_values.specs.Values.{Row}
use Rattle.lus_program.specs.Programs.{Program}
use Rattle.lus_streams.specs.Clocks.{Part}
use Rattle.lus_streams.specs.Streams.{Instant, World, HasValue}
use Rattle.lus_reference.specs.Kept.{Keeps, renewed}

-- nothing is kept before the first instant; after an instant at which no part is at fault the parts' new values are kept
pub record KeepsOn (p : Program) : Type 0 where
  pub at_first : (es : List Part) → Keeps p [] es []
  pub at_next : (es : List Part) (kept : Row) (now : Instant) (past : World) → Keeps p past es kept → Each (λ e. HasValue p e now past) es → Keeps p (now ∷ past) es (renewed p now past es kept)

abbrev pub ValuesAreKept : Type 0
ValuesAreKept = (p : Program) → KeepsOn p
