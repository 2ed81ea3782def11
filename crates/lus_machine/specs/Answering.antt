-- That a reply is right, and that what is kept behind it keeps the past after it.
use Rattle.std.specs.Prelude.{List, Option}
use Rattle.lus_requests.specs.declared.request.Request.{Request}
use Rattle.lus_requests.specs.declared.request.Request.TheVariants.{Burst, Step}
use Rattle.lus_requests.specs.declared.request.Reply.{Reply}
use Rattle.lus_requests.specs.declared.request.Reply.TheVariants.{Refused}
use Rattle.lus_values.specs.Values.{Row}
use Rattle.lus_history.specs.Keeping.{Answers}
use Rattle.lus_eval.specs.CodeSpecs.Codes.{ProgramCode, program_of}
use Rattle.lus_eval.specs.Objects.{Kept, ObjectLived}
use Rattle.lus_machine.specs.declared.bursts.NoOutputs.{NoOutputs}
use Rattle.lus_machine.specs.declared.bursts.NoOutputs.TheVariants as none

-- of an instance of object o with these slots: the reply is right to the request, and object o' and its slots keep the past after it
abbrev pub Answered : ProgramCode → Kept → List (Option Kept) → Request → Reply → Kept → List (Option Kept) → Type 0
Answered c o kept request reply o' kept' = Answers (program_of c) o.node (ObjectLived c o.node) o kept request reply o' kept'

-- the same of a step, whatever the slots hold: it leaves them
abbrev pub Stepped : ProgramCode → Kept → Row → Reply → Kept → Type 0
Stepped c o i reply o' = (kept : List (Option Kept)) → Answered c o kept (Step i) reply o' kept

-- of a burst
abbrev pub BurstAnswered : ProgramCode → Kept → List Row → Reply → Kept → Type 0
BurstAnswered c o rows reply o' = (kept : List (Option Kept)) → Answered c o kept (Burst rows) reply o' kept

-- a burst is refused for this reason; nothing is said where memory was wanted
abbrev pub BurstRefused : ProgramCode → Kept → List Row → NoOutputs → Type 0
BurstRefused c o rows (none.Refused why) = BurstAnswered c o rows (Refused why) o
BurstRefused c o rows none.Memory = Unit {0}
