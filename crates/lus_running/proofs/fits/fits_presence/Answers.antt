use Rattle.std.proofs.Common.{rules, ◌≡◌, ◌∙◌, ◌<◌, false, map, arith, refl, sym, true≢false}
use Rattle.lus_values.specs.View.{entry_of}
use Rattle.lus_running.proofs.FittingLooks.{looks_fit, fit_looks}
use Rattle.lus_running.proofs.fits.fits_presence.Goals as goal

pub returns-then-not-fits_look : goal.returns-then-not-fits_look
returns-then-not-fits_look c =
    let k = c.args.class.now in
    let i = map entry_of c.args.inputs.now in
    let x = c.loop-variable.variable in
    let lt : x < k.inputs = search rules in
    let off : c.fits_look.result ≡ false = search rules in
    (λ no. absurd (true≢false (sym no)), λ fits. absurd (true≢false (sym (c.fits_look.ensures.1 (fit_looks k i c.requires fits x lt)) ∙ off)))

pub returns : goal.returns
returns c =
    let k = c.args.class.now in
    let i = map entry_of c.args.inputs.now in
    (λ yes. looks_fit k i c.requires (λ x lt. c.loop-variable.invariant x (omega (arith, lt, c.loop-variable-test.false))), λ fits. refl)
