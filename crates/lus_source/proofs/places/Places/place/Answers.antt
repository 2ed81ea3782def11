use Rattle.std.proofs.Common.{◌∙◌, ap, sym}
use Rattle.lus_source.specs.Loopless.{place_in}
use Rattle.lus_source.proofs.Lookups.{place_found}
use Rattle.lus_source.proofs.places.Places.place.Goals as goal

pub returns-in-Some : goal.returns-in-Some
returns-in-Some c =
    sym c.in-Some.is ∙ c.get_index_of.ensures.index ∙ place_found c.args.name.now c.self.inside.names.keys ∙ ap (λ ns. place_in ns c.args.name.now) c.self.view_is

pub returns-in-None : goal.returns-in-None
returns-in-None c =
    sym c.in-None.is ∙ c.get_index_of.ensures.index ∙ place_found c.args.name.now c.self.inside.names.keys ∙ ap (λ ns. place_in ns c.args.name.now) c.self.view_is
