use Rattle.std.proofs.Common.{◌≡◌, ℕ, List, take, count_by, unwrap_or, bytes_eq}
use Rattle.indexmap.specs.IndexMap.{get_by}
use Rattle.lus_warnings.proofs.table.counted.Given as goal

abbrev pub invariant-loop-w : goal.invariant-loop-w
invariant-loop-w l = (q : List ℕ) → unwrap_or (get_by (λ k. bytes_eq q k.now) l.names) 0 ≡ count_by (λ w. bytes_eq q w.now) (take l.w-index l.words)
