-- The entry is explained, or its instance is named.
use Rattle.std.proofs.Common.{subst, Option}
use Rattle.std.specs.Option.{option_map}
use Rattle.lus_cli.specs.CodeSpecs.Codes.{program_of}
use Rattle.lus_hosting.specs.LastEntries.{IsEntryOf}
use Rattle.lus_audit.proofs.LogLaws.{explained_lines}
use Rattle.lus_audit.proofs.log_reasons.ExplanationsLogObserver.see.Goals as goal

pub returns-clause-seen : goal.returns-clause-seen
returns-clause-seen c = λ lines l number is has.
    c.in_ok-go_on.ensures lines l number (subst (λ o. IsEntryOf (option_map (λ e. e.now) o) l) c.in-Some.is is)
    (explained_lines (program_of c.args.program.now) c.args.node.0 lines c.args.self.now has c.args.line)
