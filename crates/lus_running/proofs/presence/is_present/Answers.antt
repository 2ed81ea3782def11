use Rattle.std.proofs.Common.{◌∙◌, None, arith, sym, ap, map}
use Rattle.lus_values.specs.Lists.{item}
use Rattle.lus_classes.specs.Steps.{is_on_row}
use Rattle.lus_classes.specs.Looks.{newest}
use Rattle.lus_classes.proofs.ShortTurns.{short_clock_at}
use Rattle.lus_running.proofs.presence.is_present.Goals as goal

pub returns-in-Some : goal.returns-in-Some
returns-in-Some g c =
    let x = c.args.variable in
    let r = map g.T.Held.entry c.args.row.now in
    c.is_on.ensures
    ∙ ap (λ t. is_on_row (newest t) r) (c.in-Some.ensures.lookup.3.1 None ∙ ap (λ l. item None l x) c.deref.ensures.value)
    ∙ sym (ap (λ k. is_on_row k r) (short_clock_at c.args.class.now x))

pub returns-in-None : goal.returns-in-None
returns-in-None g c =
    let x = c.args.variable in
    let r = map g.T.Held.entry c.args.row.now in
    ap (λ t. is_on_row (newest t) r) (c.in-None.ensures.lookup.4 (omega arith) None ∙ ap (λ l. item None l x) c.deref.ensures.value)
    ∙ sym (ap (λ k. is_on_row k r) (short_clock_at c.args.class.now x))
