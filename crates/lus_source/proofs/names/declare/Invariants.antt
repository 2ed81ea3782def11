use Rattle.std.proofs.Common.{◌≡◌, ◌++◌, drop, take, map}
use Rattle.lus_syntax.specs.View.{names_seen}
use Rattle.lus_source.specs.Tables.{text_of}
use Rattle.lus_source.specs.Named.{all_new}
use Rattle.lus_source.specs.NameView.{texts}
use Rattle.lus_source.proofs.names.declare.Given as goal

abbrev pub invariant-loop-name : goal.invariant-loop-name
invariant-loop-name l = record {
  kept : texts l.table.keys ≡ texts l.fn.table.keys ++ map text_of (names_seen (take l.name-index l.names));
  same : all_new (texts l.table.keys) (map text_of (names_seen (drop l.name-index l.names))) ≡ all_new (texts l.fn.table.keys) (map text_of (names_seen l.names));
}
