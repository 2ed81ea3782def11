-- By what clap says of the words.
use Rattle.std.proofs.Common.{rules, ◌≡◌, ◌∙◌, ap, Some}
use Rattle.std.proofs.lemmas.Result.{IfOk-weaker}
use Rattle.clap.specs.Words.{new_rule, rule_of, with_rule, app_of}
use Rattle.clap.specs.declared.builder.ArgAction.TheVariants.{SetTrue}
use Rattle.lus_cli.proofs.tool.with_flag.Goals as goal

pub returns : goal.returns
returns c =
    let flag_is : rule_of c.action-flag.result ≡ record (new_rule c.args.name.now) { long = Some c.args.name.now; action = Some SetTrue } = search rules in
    IfOk-weaker c.arg.result _ _ (λ m h. h.shape (search rules) ∙ ap (with_rule (app_of c.args.command)) flag_is) c.arg.ensures
