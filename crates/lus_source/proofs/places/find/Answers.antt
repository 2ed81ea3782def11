use Rattle.std.proofs.Common.{◌∙◌, ap, sym}
use Rattle.std.specs.Prelude.{slice_get}
use Rattle.std.specs.Option.{option_and_then}
use Rattle.lus_source.proofs.Lookups.{entry_at}
use Rattle.lus_source.proofs.places.find.Goals as goal

pub returns-in-Some : goal.returns-in-Some
returns-in-Some g c = c.at.ensures ∙ ap (option_and_then (slice_get c.args.values.now)) (sym c.in-Some.is ∙ c.place.ensures) ∙ entry_at c.args.names.now c.args.values.now c.args.name.now

pub returns-in-None : goal.returns-in-None
returns-in-None g c = ap (option_and_then (slice_get c.args.values.now)) (sym c.in-None.is ∙ c.place.ensures) ∙ entry_at c.args.names.now c.args.values.now c.args.name.now
