-- Rows tried as steps of an object, one behind another.
use Rattle.std.specs.Prelude.{◌≡◌, List}
use Rattle.lus_values.specs.Values.{Row}
use Rattle.lus_history.specs.Keeping.{RunsThrough, Refuses}
use Rattle.lus_eval.specs.CodeSpecs.Codes.{ProgramCode, program_of}
use Rattle.lus_eval.specs.Objects.{Kept, IsObjectOf, ObjectLived}
use Rattle.lus_machine.specs.declared.bursts.NoOutputs.{NoOutputs}
use Rattle.lus_machine.specs.declared.bursts.NoOutputs.TheVariants.{Refused, Memory}

-- the rows have these outputs, and object o' is o behind them
pub record GoesThrough (c : ProgramCode) (o : Kept) (rows outputs : List Row) (o' : Kept) : Type 0 where
  pub node : o'.node ≡ o.node
  pub shaped : IsObjectOf c o'
  pub runs : RunsThrough (program_of c) o.node (ObjectLived c o.node) o rows outputs o'

-- one of the rows is refused for this reason, and none before it; nothing is said where memory was wanted
abbrev pub AreRefused : ProgramCode → Kept → List Row → NoOutputs → Type 0
AreRefused c o rows (Refused why) = Refuses (program_of c) o.node (ObjectLived c o.node) o rows why
AreRefused c o rows Memory = Unit {0}
