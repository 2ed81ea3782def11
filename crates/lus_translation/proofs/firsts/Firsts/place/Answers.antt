use Rattle.std.proofs.Common.{◌∙◌, ap₂, sym}
use Rattle.lus_translation.specs.Firsts.{place_of}
use Rattle.lus_translation.proofs.FirstTables.{place_found, place_past}
use Rattle.lus_translation.proofs.firsts.Firsts.place.Goals as goal

pub returns-in-Some : goal.returns-in-Some
returns-in-Some c =
    place_found c.key_of.result c.self.inside.tests.keys c.in-Some.place (sym c.in-Some.is ∙ c.get_index_of.ensures.index) ∙ ap₂ place_of c.key_of.ensures c.self.view_is

pub returns-in-None : goal.returns-in-None
returns-in-None c =
    c.len.ensures.len ∙ place_past c.key_of.result c.self.inside.tests.keys (sym c.in-None.is ∙ c.get_index_of.ensures.index) ∙ ap₂ place_of c.key_of.ensures c.self.view_is
