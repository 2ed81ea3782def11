-- A name that stands in the table so far stands twice among the names.
use Rattle.std.proofs.Common.{rules, ◌≡◌, ◌∙◌, ap, sym, map, string_bytes, Result, Ok, Err}
use Rattle.std.specs.Result.{IsErrAnd}
use Rattle.lus_scripts.specs.Scripts.{all_distinct}
use Rattle.lus_scripts.proofs.DistinctNames.{distinct-item, distinct-more, names-item}
use Rattle.lus_scripts.proofs.names.name_table.Goals as goal

-- the error that a `?` passes on
passed : {T E : Type 0} (r : Result T E) (x e : E) → IsErrAnd r (λ y. y ≡ x) → r ≡ Err e → (let y : Result T E = Err x in y) ≡ Err e
passed (Ok t) x e h same = absurd h
passed (Err y) x e h same = ap Err (sym h) ∙ same

pub returns-in_err-declare-clause-double : goal.returns-in_err-declare-clause-double
returns-in_err-declare-clause-double c = λ same.
    distinct-item (λ n. n.now) c.args.names.now c.loop-name.name-index _ _ (search rules) c.loop-name.invariant.0
    (c.in_err-declare.ensures.double (search rules))

pub loop-name-preserved : goal.loop-name-preserved
loop-name-preserved c =
    let last = c.in_ok-declare.ensures.last in
    let texts = map string_bytes c.loop-name.table.keys in (
      last ∙ names-item (λ n. n.now) c.args.names.now c.loop-name.name-index _ texts (search rules) c.loop-name.invariant.0,
      ap all_distinct last ∙ distinct-more texts _ c.loop-name.invariant.1 c.in_ok-declare.ensures.fresh,
    )
