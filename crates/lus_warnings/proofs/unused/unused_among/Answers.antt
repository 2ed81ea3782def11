-- The table counts what the tokens have.
use Rattle.std.proofs.Common.{◌∙◌, ap, string_bytes}
use Rattle.std.proofs.lemmas.List.Elements.{filter_agree}
use Rattle.std.proofs.lemmas.Result.{IfOk-weaker}
use Rattle.lus_warnings.specs.declared.unused.Declaration.{Declaration}
use Rattle.lus_warnings.specs.Uses.{is_idle, is_idle_by, is_unused}
use Rattle.lus_warnings.proofs.unused.unused_among.Goals as goal

pub returns : goal.returns
returns c =
    IfOk-weaker c.idle_of.result _ _
    (λ found same. same ∙ filter_agree (is_idle_by c.in_ok-names.names) (is_unused c.args.tokens.now)
    (λ (d : Declaration). ap (λ n. is_idle n (string_bytes d.name.now.text)) (c.in_ok-names.ensures (string_bytes d.name.now.text))) c.args.declared.now)
    c.idle_of.ensures
