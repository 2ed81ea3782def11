-- The rest passes where the whole does.
use Rattle.std.proofs.Common.{◌≡◌, drop, map}
use Rattle.std.specs.List.{list_all}
use Rattle.lus_syntax.specs.View.{names_seen}
use Rattle.lus_source.specs.Tables.{text_of}
use Rattle.lus_source.specs.Named.{is_in}
use Rattle.lus_source.specs.NameView.{differs, texts}
use Rattle.lus_source.proofs.naming.first_name.Given as goal

abbrev pub invariant-loop-name : goal.invariant-loop-name
invariant-loop-name l = list_all (λ n. differs l.among (is_in (texts l.table.keys) n)) (map text_of (names_seen (drop l.name-index l.names))) ≡ list_all (λ n. differs l.among (is_in (texts l.table.keys) n)) (map text_of (names_seen l.names))
