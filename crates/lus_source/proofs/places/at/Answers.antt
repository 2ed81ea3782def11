use Rattle.std.proofs.Common.{length, refl, sym}
use Rattle.std.proofs.lemmas.Option.{slice_get_past, slice_get_read}
use Rattle.lus_source.proofs.places.at.Goals as goal

pub returns-then-place-values : goal.returns-then-place-values
returns-then-place-values g c = sym (slice_get_read c.args.values.now (length c.args.values.now) c.args.place c.index-values-place.result refl c.if-place-values.true c.index-values-place.is)

pub returns-else-place-values : goal.returns-else-place-values
returns-else-place-values g c = sym (slice_get_past c.args.values.now c.args.place c.if-place-values.false)
