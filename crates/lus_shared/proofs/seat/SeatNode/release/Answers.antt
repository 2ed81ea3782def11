use Rattle.std.proofs.Common.{[], ap, sym, ◌∙◌, arith}
use Rattle.std.proofs.lemmas.List.{append-nil}
use Rattle.lus_shared.specs.Knowledge.{Holding, Instance}
use Rattle.lus_shared.specs.Told.{its_facts}
use Rattle.lus_shared.proofs.Keeps.{gives_it}
use Rattle.lus_shared.proofs.seat.SeatNode.release.Goals as goal

pub store-requires : goal.store-requires
store-requires c =
    let table = ap (λ (h : Holding). h.standing.instance.table) c.held.view_is ∙ (ap (λ (i : Instance). i.table) c.requires ∙ sym (ap (λ (i : Instance). i.table) c.self.view_is)) in
    let f = its_facts c.held.inside.place.me in
    let t = c.held.invariant in
    (table, omega (arith, c.self.invariant.0), gives_it _ _ _ _ f [] f.seen _ t.view (sym (append-nil f.seen)) tt t.legal t.short t.found_is)
