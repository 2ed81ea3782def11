use Rattle.std.proofs.Common.{arith, ◌≡◌, ◌∙◌, length}
use Rattle.lus_syntax.specs.View.{tree_seen}
use Rattle.lus_values.specs.Lists.{item}
use Rattle.lus_values.proofs.Lists.{below_all}
use Rattle.lus_program.specs.declared.types.Kind.TheVariants as kinds
use Rattle.lus_source.specs.Tables.{kind_at}
use Rattle.lus_source.proofs.TypesMeant.{kind_measure, uses_count}
use Rattle.lus_source.proofs.Measures.{solved}
use Rattle.lus_source.proofs.types.kinds_of_types.Goals as goal

pub along-requires-clause-local : goal.along-requires-clause-local
along-requires-clause-local c = (kind_measure (tree_seen c.args.loopless.now)).local

pub unreachable-requires : goal.unreachable-requires
unreachable-requires c =
    let p = tree_seen c.args.loopless.now in
    c.in-Err.ensures.refused.1 (kind_at p) (solved (kind_measure p) c.types.result.now c.types.ensures) tt

pub returns : goal.returns
returns c =
    let p = tree_seen c.args.loopless.now in
    let found = c.in-Ok.ensures.found in
    let right = found.right (kind_at p) (solved (kind_measure p) c.types.result.now c.types.ensures) in
    record {
      size = found.size ∙ uses_count p;
      each = below_all (λ t. item kinds.Bool c.in-Ok.kinds.items t ≡ kind_at p t) (length p.types) (λ t lt. right t (c.types.ensures.whole t (omega (arith, lt, uses_count p))));
    }
