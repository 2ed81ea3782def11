use Rattle.std.proofs.Common.{◌≡◌, ◌++◌, drop, map}
use Rattle.lus_syntax.specs.View.{names_seen}
use Rattle.lus_source.specs.Tables.{constructors_from}
use Rattle.lus_source.proofs.values.push_in_order.Given as goal

abbrev pub invariant-loop-number : goal.invariant-loop-number
invariant-loop-number l =
    l.all.items ++ map (λ e. e.1) (constructors_from l.enumeration l.number (names_seen (drop l.number l.names))) ≡ l.fn.all.items ++ map (λ e. e.1) (constructors_from l.enumeration 0 (names_seen l.names))
