-- One journal more is drawn.
use Rattle.std.proofs.Common.{◌≡◌, ◌∙◌, ◌++◌, ◌∷◌, [], true, map, string_bytes, subst, sym}
use Rattle.std.specs.Str.{bytes_eq}
use Rattle.std.proofs.lemmas.Slice.Eq.{bytes_eq-Decides}
use Rattle.lus_cli.specs.CodeSpecs.Codes.{program_of}
use Rattle.lus_draw.specs.Gatherings.{AsCsv, HasGathered}
use Rattle.lus_draw.specs.declared.words.Format.{Format}
use Rattle.lus_draw.proofs.Drawn.{gathered_so}
use Rattle.lus_draw.proofs.gathering.GatheringObservers.end.Goals as goal

pub returns-in_ok-keep : goal.returns-in_ok-keep
returns-in_ok-keep g c = λ js j same named seen gathered.
    let d = g.K.Selects.wanted in
    let p = program_of c.args.program.now in
    let old = c.args.self.now in
    let o = c.args.observer in
    let instance = string_bytes o.heading.instance in
    let tables = map string_bytes old.gathered.tables.items in
    let new = map string_bytes c.keep.new.self.tables.items in
    let test : bytes_eq instance c.args.instance.now ≡ true = cc in
    let called : instance ≡ j.instance = (bytes_eq-Decides instance c.args.instance.now).0 test ∙ same in
    let pushed = subst (λ (f : Format). AsCsv f (new ≡ tables ++ string_bytes o.table ∷ [])) o.format_is c.in_ok-keep.ensures in
    subst (λ f. HasGathered d p (js ++ j ∷ []) f new) (sym c.or-self.ensures)
    (gathered_so d p js j c.args.node.0 o.sketch instance (string_bytes o.table) tables new old.failure named called o.part_is pushed seen gathered)
