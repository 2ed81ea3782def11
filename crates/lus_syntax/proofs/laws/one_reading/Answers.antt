use Rattle.lus_syntax.proofs.Meanings.{no_meaning_is}
use Rattle.lus_syntax.proofs.Spans.{fault_stands}
use Rattle.lus_syntax.proofs.Unique.{one_reading, one_fault, no_fault, fault_number}
use Rattle.lus_syntax.proofs.laws.one_reading.Goals as goal

pub returns-clause-tokens : goal.returns-clause-tokens
returns-clause-tokens c = one_reading

pub returns-clause-faults : goal.returns-clause-faults
returns-clause-faults c = one_fault

pub returns-clause-apart : goal.returns-clause-apart
returns-clause-apart c = no_fault

pub returns-clause-numbers : goal.returns-clause-numbers
returns-clause-numbers c = fault_number

pub returns-clause-stands : goal.returns-clause-stands
returns-clause-stands c = fault_stands

pub returns-clause-no_meaning : goal.returns-clause-no_meaning
returns-clause-no_meaning c = no_meaning_is
