-- The rest of the clock is present where the whole is.
use Rattle.std.proofs.Common.{◌≡◌, drop, map}
use Rattle.lus_values.specs.View.{entry_of}
use Rattle.lus_streams.specs.Streams.{instant, is_on, nobody}
use Rattle.lus_reference.proofs.renewal.is_on.Given as goal

abbrev pub invariant-loop-test : goal.invariant-loop-test
invariant-loop-test l =
    let now = instant l.present (map entry_of l.row) nobody in
    is_on (drop l.test-index l.clock) now ≡ is_on l.clock now
