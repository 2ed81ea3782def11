-- The text has the rows so far.
use Rattle.std.proofs.Common.{◌≡◌, ◌++◌, codes, string_bytes, flat_map, map, take}
use Rattle.lus_program.specs.View.{program_seen, variable_of}
use Rattle.lus_replies.specs.Replies.{row_json}
use Rattle.lus_replies.proofs.reply.push_listed_rows.Given as goal

abbrev pub invariant-loop-row : goal.invariant-loop-row
invariant-loop-row l =
    string_bytes l.text
    ≡ string_bytes l.initial.text
    ++ flat_map (λ row. codes "," ++ row_json (program_seen l.program) l.names (map variable_of l.outputs) row) (take l.row-index l.later)
