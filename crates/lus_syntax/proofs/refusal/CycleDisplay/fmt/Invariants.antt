use Rattle.std.proofs.Common.{◌∷◌, ◌++◌, map, string_bytes, take, codes}
use Rattle.std.specs.Fmt.{HasWritten, IsPlainFormatter}
use Rattle.std.specs.List.{flat_map}
use Rattle.lus_syntax.proofs.refusal.CycleDisplay.fmt.Given as goal

abbrev pub invariant-loop-name : goal.invariant-loop-name
invariant-loop-name g l =
    IsPlainFormatter l.fn.f → HasWritten g.W.Write.write_str_gives l.fn.f (codes "cycle" ++ flat_map (λ n. 32 ∷ n) (map string_bytes (take l.name-index l.names))) l.f
