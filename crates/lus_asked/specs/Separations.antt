-- What stands behind an item of a list.
use Rattle.std.specs.Prelude.{◌≡◌, Option, Some, None}
use Rattle.lus_values.specs.Names.{Text}
use Rattle.lus_asked.specs.declared.piece.Separation.{Separation}
use Rattle.lus_asked.specs.declared.piece.Separation.TheVariants.{End, Item, Neither}

-- by what stands behind the end of a list, and behind a separator
abbrev pub IsSeparated : Separation → Option Text → Option Text → Type 0
IsSeparated (End rest) close separator = close ≡ Some rest.now
IsSeparated (Item later) close separator = (close ≡ None) × (separator ≡ Some later.now)
IsSeparated Neither close separator = (close ≡ None) × (separator ≡ None)
