use Rattle.std.proofs.Common.{ap, refl, ◌∙◌, arith}
use Rattle.lus_shared.specs.Told.{its_facts}
use Rattle.lus_shared.proofs.Keeps.{looks, takes_it}
use Rattle.lus_shared.proofs.Steps.{Sat, looked_told}
use Rattle.lus_shared.proofs.place.take.Goals as goal

pub load-word-requires : goal.load-word-requires
load-word-requires c = (c.requires.table.0, omega (arith, c.requires.table.1), looks _ _ _ _)

pub compare_exchange-found-requires : goal.compare_exchange-found-requires
compare_exchange-found-requires c =
    let told = looked_told (its_facts c.args.place.now.me) _ _ _ c.requires.alone c.load-word.ensures.2 in
    (c.load-word.ensures.0 ∙ c.requires.table.0, omega (arith, c.requires.table.1), takes_it _ _ _ _ _ _ _ (ap (λ (m : Sat). m.0) told.view) (omega arith) refl)
