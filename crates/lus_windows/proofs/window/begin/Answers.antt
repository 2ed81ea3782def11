-- Something is kept of each node of a resolved program.
use Rattle.lus_program.specs.View.{program_seen}
use Rattle.lus_windows.proofs.Following.{kept_first}
use Rattle.lus_windows.proofs.window.begin.Goals as goal

pub returns : goal.returns
returns c = λ sure. kept_first sure (program_seen c.args.program.now) c.args.node c.in_ok-moment.moment c.in_ok-moment.ensures
