-- The changes so far are appended.
use Rattle.std.proofs.Common.{◌≡◌, ◌++◌, flat_map, string_bytes, take}
use Rattle.lus_queries.specs.Edits.{other_edit_text}
use Rattle.lus_queries.proofs.renames.push_others.Given as goal

abbrev pub invariant-loop-change : goal.invariant-loop-change
invariant-loop-change l =
    string_bytes l.text ≡ string_bytes l.initial.text ++ flat_map other_edit_text (take l.change-index l.changes)
