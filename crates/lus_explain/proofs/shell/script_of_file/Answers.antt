-- What is so of the bytes that were read is so of the file's.
use Rattle.std.proofs.Common.{◌≡◌, ◌+◌, refl, subst, take}
use Rattle.std.proofs.lemmas.Result.{IfOk-weaker}
use Rattle.lus_syntax.specs.Limits.{most_bytes}
use Rattle.lus_explain.specs.Skeletons.{IsAnswer}
use Rattle.lus_explain.proofs.Left.{answer_left, file_then}
use Rattle.lus_explain.proofs.shell.script_of_file.Goals as goal

pub returns-clause-answer : goal.returns-clause-answer
returns-clause-answer g c =
    let node = c.args.node.now in
    let read = c.in_ok-bytes.bytes.items in
    IfOk-weaker c.script_for.result _ _ (λ s answer. file_then (g.D.Folder.known c.args.folder.now c.args.program.now) (λ bs. read ≡ take (most_bytes + 1) bs)
    (λ text. IsAnswer text node s)
    (λ text same. answer_left most_bytes (most_bytes + 1) refl refl read text same node
    (subst (λ bs. IsAnswer bs node s) c.deref.ensures.value answer))
    c.in_ok-bytes.ensures.bytes) c.script_for.ensures.answer
