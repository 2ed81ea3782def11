-- The lines so far.
use Rattle.std.proofs.Common.{◌≡◌, map, take}
use Rattle.lus_traces.specs.Pages.{line_seen, plain}
use Rattle.lus_traces.proofs.lines.lines_of.Given as goal

abbrev pub invariant-loop-text : goal.invariant-loop-text
invariant-loop-text l = map line_seen l.lines.items ≡ map plain (map (λ t. t.now) (take l.text-index l.text-items))
