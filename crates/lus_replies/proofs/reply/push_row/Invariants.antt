-- The items so far come before those that are left.
use Rattle.std.proofs.Common.{◌≡◌, ◌++◌, [], drop, map, string_bytes}
use denote.Text.{Utf8}
use denote.Shadow.{shadow}
use Rattle.lus_values.specs.View.{entry_of}
use Rattle.lus_program.specs.View.{program_seen, variable_of}
use Rattle.lus_replies.proofs.Texts.{items_behind}
use Rattle.lus_replies.proofs.reply.push_row.Given as goal

abbrev pub invariant-loop-place : goal.invariant-loop-place
invariant-loop-place l =
    shadow (Utf8 l.before)
    × (string_bytes l.text
    ++ items_behind (program_seen l.program) l.names (map variable_of l.outputs) l.place l.before (map entry_of (drop l.place l.item-items))
    ≡ string_bytes l.initial.text ++ items_behind (program_seen l.program) l.names (map variable_of l.outputs) 0 [] (map entry_of l.item-items))
