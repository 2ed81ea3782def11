use Rattle.std.proofs.Common.{◌≡◌, map, take}
use Rattle.lus_syntax.specs.View.{names_seen}
use Rattle.lus_source.specs.Tables.{text_of}
use Rattle.std.specs.Prelude.{string_bytes}
use Rattle.lus_source.proofs.types.texts.Given as goal

abbrev pub invariant-loop-name : goal.invariant-loop-name
invariant-loop-name l = map string_bytes l.copies.items ≡ map text_of (names_seen (take l.name-index l.names))
