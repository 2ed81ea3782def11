-- A copy keeps the same.
use Rattle.std.proofs.Common.{subst}
use Rattle.lus_windows.specs.Windows.{IsKept}
use Rattle.lus_windows.proofs.Following.{kept_copy}
use Rattle.lus_windows.proofs.window.copy_of.Goals as goal

pub returns-in_ok-kept-in-Some : goal.returns-in_ok-kept-in-Some
returns-in_ok-kept-in-Some c = λ sure p f l k. kept_copy sure p f c.in-Some.moment c.in_ok-kept-in-Some.kept l c.in_ok-kept-in-Some.ensures (subst (IsKept sure p f l) c.in-Some.is k)

pub returns-in-None : goal.returns-in-None
returns-in-None c = λ sure p f l k. subst (IsKept sure p f l) c.in-None.is k
