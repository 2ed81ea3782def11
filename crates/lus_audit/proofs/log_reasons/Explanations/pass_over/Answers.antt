-- An entry that was accepted has no reason, and the instance of one that was refused is named.
use Rattle.std.proofs.Common.{◌∙◌, false, ap, refl, sym, subst}
use Rattle.std.proofs.lemmas.Bool.{true≢false}
use Rattle.std.proofs.lemmas.Result.{on_ok_weaker}
use Rattle.lus_cli.specs.CodeSpecs.Codes.{program_of}
use Rattle.lus_requests.specs.declared.request.Entry.{Entry}
use Rattle.lus_audit.specs.LogReasons.{IsRefused}
use Rattle.lus_audit.specs.declared.log_reasons.Explanations.{Explanations}
use Rattle.lus_audit.proofs.LogLaws.{explained_accepted, explained_named}
use Rattle.lus_audit.proofs.log_reasons.Explanations.pass_over.Goals as goal

pub returns-then-not-is_refused : goal.returns-then-not-is_refused
returns-then-not-is_refused c = λ lines l is none has.
    explained_accepted (program_of c.args.program.now) c.args.node.0 lines c.args.self.now has l none
    (λ refused. true≢false (sym (c.is_refused.ensures.1 (subst IsRefused (sym (ap (λ (e : Entry). e.reply) is.1)) refused)) ∙ c.if-not-is_refused.true))

pub returns : goal.returns
returns c =
    let old = c.args.self.now in
    let new : Explanations = record old { is_whole = false; unfollowed = c.name_instance.new.explainers } in
    on_ok_weaker c.name_instance.result
    (λ named lines l is none has. explained_named (program_of c.args.program.now) c.args.node.0 lines old has l new none refl refl (named has.unfollowed))
    c.name_instance.ensures
