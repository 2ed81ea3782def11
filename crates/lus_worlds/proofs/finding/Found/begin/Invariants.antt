-- The inputs so far stand in the row, and none of the calls so far ran.
use Rattle.std.proofs.Common.{◌≡◌, ◌<◌, ℕ, None, length, map}
use Rattle.lus_values.specs.Lists.{Each, item}
use Rattle.lus_values.specs.View.{entry_of}
use Rattle.lus_worlds.specs.Finding.{row_so_far}
use Rattle.lus_worlds.proofs.finding.Found.begin.Given as goal

abbrev pub invariant-loop-index : goal.invariant-loop-index
invariant-loop-index l =
    record {
      width : length l.row.items ≡ l.index;
      inputs : (x : ℕ) → x < l.index → item None (map entry_of l.row.items) x ≡ item None (map entry_of l.inputs) x;
    }

abbrev pub invariant-loop-call : goal.invariant-loop-call
invariant-loop-call l =
    record {
      count : length l.called.items ≡ l._call;
      blank : Each (λ m. m ≡ None) l.called.items;
      rows : l.rows.items ≡ map row_so_far l.called.items;
    }
