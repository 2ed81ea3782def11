-- The explanations have seen the lines that were found.
use Rattle.std.specs.Arc.{arc_value}
use Rattle.lus_cli.specs.CodeSpecs.Codes.{program_of}
use Rattle.lus_cli.proofs.ProgramLemmas.{file_then}
use Rattle.lus_audit.proofs.LogEnds.{found_as}
use Rattle.lus_audit.proofs.logs.audit_following.Goals as goal

pub returns-clause-audited : goal.returns-clause-audited
returns-clause-audited g c =
    let p = program_of (arc_value c.args.program.now) in
    let f = c.args.node.0 in
    let report = c.in_ok-report.report in
    file_then (g.D.Folder.known c.args.folder.now c.args.log.now) _ _
    (λ bytes found. found_as p f _ _ report.is_lawful report.text.items bytes (λ lines observes follows. observes (c.new-explanations.ensures p f follows)) found)
    c.in_ok-report.ensures.audited
