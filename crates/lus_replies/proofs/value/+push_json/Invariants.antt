-- The fields so far come before those that are left.
use Rattle.std.proofs.Common.{◌≡◌, ◌++◌, [], drop, map, string_bytes}
use denote.Text.{Utf8}
use denote.Shadow.{shadow}
use Rattle.lus_program.specs.View.{field_of, program_seen}
use Rattle.lus_replies.proofs.Texts.{fields_behind}
use Rattle.lus_replies.proofs.value.+push_json.Given as goal

abbrev pub invariant-loop-place : goal.invariant-loop-place
invariant-loop-place l =
    shadow (Utf8 l.before)
    × (string_bytes l.text ++ fields_behind (program_seen l.program) l.names (map field_of l.fields) l.place l.before (drop l.place l.field_value-items)
    ≡ string_bytes l.initial.text ++ fields_behind (program_seen l.program) l.names (map field_of l.fields) 0 [] l.field_value-items)
