-- The line has the rows so far.
use Rattle.std.proofs.Common.{◌≡◌, ◌++◌, string_bytes, flat_map, take}
use Rattle.lus_devices.specs.Journals.{later_row_text}
use Rattle.lus_devices.proofs.line.push_listed_rows.Given as goal

abbrev pub invariant-loop-row : goal.invariant-loop-row
invariant-loop-row l =
    string_bytes l.line ≡ string_bytes l.initial.line ++ flat_map (later_row_text l.names) (take l.row-index l.later)
