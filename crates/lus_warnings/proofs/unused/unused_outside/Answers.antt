-- The table counts what the tokens have, and what a filter keeps passes it.
use Rattle.std.proofs.Common.{◌∙◌, ap, string_bytes, subst, sym}
use Rattle.std.specs.List.{All}
use Rattle.std.specs.Prelude.{IsTrue, List}
use Rattle.std.proofs.lemmas.List.Elements.{filter_agree, filter_passes}
use Rattle.std.proofs.lemmas.Result.{IfOk-weaker}
use Rattle.lus_warnings.specs.declared.unused.Declaration.{Declaration}
use Rattle.lus_warnings.specs.Uses.{is_idle, is_idle_by, is_unused}
use Rattle.lus_warnings.proofs.unused.unused_outside.Goals as goal

pub returns : goal.returns
returns c =
    IfOk-weaker c.idle_of.result _ _
    (λ found same. subst (λ (ds : List Declaration). All (λ d. IsTrue (is_unused c.args.tokens.now d)) ds)
    (sym (same ∙ filter_agree (is_idle_by c.in_ok-names.names) (is_unused c.args.tokens.now)
    (λ (d : Declaration). ap (λ n. is_idle n (string_bytes d.name.now.text)) (c.in_ok-names.ensures (string_bytes d.name.now.text))) c.deref.result.now))
    (filter_passes (is_unused c.args.tokens.now) c.deref.result.now))
    c.idle_of.ensures
