-- The least flags meet what is required where any do.
use Rattle.std.proofs.Common.{◌≡◌, true, false, is_ok, sym, ap, ap₂, ◌∙◌, subst}
use Rattle.lus_program.specs.View.{node_of}
use Rattle.lus_clocks.specs.Raising.{all_required, flags_in, AreGiven}
use Rattle.lus_clocks.proofs.Flagged.{least_meet, none_meet}
use Rattle.lus_clocks.proofs.flagging.check_node.Goals as goal

pub returns-in-Ok-clause-ok : goal.returns-in-Ok-clause-ok
returns-in-Ok-clause-ok c =
    let node = c.args.node.now in
    let bs = c.in_ok-flags.flags.items in
    let given = c.in_ok-given.given.items in
    let g : AreGiven node.equations.items bs given = subst (λ l. AreGiven l bs given) c.deref.ensures.value (subst (λ l. AreGiven c.deref.result.now l given) c.deref-2.ensures.value c.in_ok-given.ensures) in
    let seen = ap₂ (all_required (node_of node) node.equations.items) (sym c.deref-3.ensures.value) (sym c.deref-4.ensures.value) in
    let all : all_required (node_of node) node.equations.items bs given ≡ true = seen ∙ sym c.check_required.ensures ∙ ap is_ok c.in-Ok.is in
    λ p. (flags_in bs, least_meet p node bs given c.in_ok-flags.ensures g all)

pub returns-clause-err : goal.returns-clause-err
returns-clause-err c =
    let node = c.args.node.now in
    let bs = c.in_ok-flags.flags.items in
    let given = c.in_ok-given.given.items in
    let g : AreGiven node.equations.items bs given = subst (λ l. AreGiven l bs given) c.deref.ensures.value (subst (λ l. AreGiven c.deref.result.now l given) c.deref-2.ensures.value c.in_ok-given.ensures) in
    let seen = ap₂ (all_required (node_of node) node.equations.items) (sym c.deref-3.ensures.value) (sym c.deref-4.ensures.value) in
    let not_all : all_required (node_of node) node.equations.items bs given ≡ false = seen ∙ sym c.check_required.ensures ∙ ap is_ok c.in-Err.is in
    λ _ p h. none_meet p node bs given c.in_ok-flags.ensures g not_all h
