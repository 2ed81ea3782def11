use Rattle.std.proofs.Common.{sym}
use Rattle.lus_running.proofs.saved.SavedCells.holding.Goals as goal

pub returns-in_ok-keeping-in-Words : goal.returns-in_ok-keeping-in-Words
returns-in_ok-keeping-in-Words c = λ n. rw c.in-Words.is (rw (sym c.deref.ensures.value) (c.in_ok-keeping-in-Words.ensures n))

pub returns-in_ok-keeping-in-Entries : goal.returns-in_ok-keeping-in-Entries
returns-in_ok-keeping-in-Entries c = λ n. rw c.in-Entries.is (rw (sym c.deref-in-Entries.ensures.value) (c.in_ok-keeping-in-Entries.ensures n))
