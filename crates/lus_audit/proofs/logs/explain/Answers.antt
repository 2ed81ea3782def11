-- Reasons are reported of the first audit, where each is there, or of the second.
use Rattle.std.proofs.Common.{[], string_bytes, subst, sym}
use Rattle.std.proofs.lemmas.Result.{IfErr-weaker, IfOk-weaker}
use Rattle.std.specs.Arc.{arc_value}
use Rattle.indexmap.specs.IndexMap.{get_by_text}
use Rattle.lus_cli.specs.CodeSpecs.Codes.{program_of}
use Rattle.lus_cli.proofs.ProgramLemmas.{file_then}
use Rattle.lus_audit.specs.LogReasons.{ExplainsFrom}
use Rattle.lus_audit.specs.Logs.{LogIsLost}
use Rattle.lus_audit.proofs.LogEnds.{file_both, named_follow, reported_with}
use Rattle.lus_audit.proofs.LogLaws.{follows_none, none_named}
use Rattle.lus_audit.proofs.logs.explain.Goals as goal

pub returns-then-first-clause-audited : goal.returns-then-first-clause-audited
returns-then-first-clause-audited g c =
    let p = program_of (arc_value c.args.program.now) in
    let f = c.args.node.0 in
    let report = c.in_ok-report.report in
    let first = c.in_ok-report.first in
    let named = get_by_text c.with_hasher-none.result in
    let none = none_named c.with_hasher-none.result c.with_hasher-none.ensures.empty in
    IfOk-weaker c.with_reasons.result _ _
    (λ r made.
    file_then (g.D.Folder.known c.args.folder.now c.args.log.now) _ _
    (λ bytes found. reported_with p f (ExplainsFrom p f named first) report.is_lawful r.is_lawful report.text.items (string_bytes first.text) r.text.items bytes
    found (λ lines seen. (seen (follows_none p f [] named none)).tells c.if-first.true) made.0 made.1)
    c.in_ok-report.ensures.audited)
    c.with_reasons.ensures.ok

pub returns-then-first-clause-fault : goal.returns-then-first-clause-fault
returns-then-first-clause-fault g c =
    IfErr-weaker c.with_reasons.result _ _
    (λ e memory. subst (LogIsLost (program_of (arc_value c.args.program.now)) (g.D.Folder.known c.args.folder.now c.args.log.now)) (sym memory) tt)
    c.with_reasons.ensures.memory

pub returns-then-lines-second-clause-audited : goal.returns-then-lines-second-clause-audited
returns-then-lines-second-clause-audited g c =
    let p = program_of (arc_value c.args.program.now) in
    let f = c.args.node.0 in
    let report = c.in_ok-report.report in
    let first = c.in_ok-report.first in
    let again = c.in_ok-again.again in
    let second = c.in_ok-again.second in
    let named = get_by_text c.with_hasher-none.result in
    let none = none_named c.with_hasher-none.result c.with_hasher-none.ensures.empty in
    IfOk-weaker c.with_reasons-then-lines-second.result _ _
    (λ r made.
    file_both (g.D.Folder.known c.args.folder.now c.args.log.now) _ _ _
    (λ bytes found here. reported_with p f (ExplainsFrom p f (get_by_text first.unfollowed) second) again.is_lawful r.is_lawful again.text.items
    (string_bytes second.text) r.text.items bytes here
    (λ lines seen. (seen (named_follow p f named first report.is_lawful report.text.items bytes none found)).tells c.if-second.true) made.0 made.1)
    c.in_ok-report.ensures.audited c.in_ok-again.ensures.audited)
    c.with_reasons-then-lines-second.ensures.ok

pub returns-then-lines-second-clause-fault : goal.returns-then-lines-second-clause-fault
returns-then-lines-second-clause-fault g c =
    IfErr-weaker c.with_reasons-then-lines-second.result _ _
    (λ e memory. subst (LogIsLost (program_of (arc_value c.args.program.now)) (g.D.Folder.known c.args.folder.now c.args.log.now)) (sym memory) tt)
    c.with_reasons-then-lines-second.ensures.memory
