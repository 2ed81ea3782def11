-- Nothing is said of a dump.
use Rattle.lus_draw.specs.declared.words.Format.TheVariants as formats
use Rattle.lus_draw.proofs.Drawn.{as_is, if_ok}
use Rattle.lus_draw.proofs.gathering.Gathered.keep.Goals as goal

pub returns-in-Vcd : goal.returns-in-Vcd
returns-in-Vcd g c = if_ok c.push_dump.result _ (λ done. as_is c.args.drawn.format formats.Vcd _ c.in-Vcd.is tt)
