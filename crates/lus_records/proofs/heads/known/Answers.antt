-- The column that is met has the name.
use Rattle.std.proofs.Common.{rules, ◌≡◌, ◌∙◌, ◌+◌, ◌∷◌, ap, sym, arith, drop, map, string_bytes, true, Some}
use Rattle.std.specs.Str.{bytes_eq}
use Rattle.std.proofs.lemmas.List.{drop_more}
use Rattle.lus_records.specs.Heads.{known}
use Rattle.lus_records.proofs.HeadLaws.{known_here}
use Rattle.lus_records.proofs.heads.known.Goals as goal

pub returns-then-eq : goal.returns-then-eq
returns-then-eq c =
    let columns = c.args.columns.now in
    let name = c.args.name.now in
    let i = c.loop-column.column-index in
    let column = c.column-item.result in
    let same : bytes_eq name (string_bytes column) ≡ true = search rules in
    let text : c.as_str.result.now ≡ string_bytes column = search rules in
    let left : drop i columns ≡ column ∷ drop (i + 1) columns = drop_more columns i column (omega arith) ∙ ap (λ x. x ∷ drop (i + 1) columns) (sym c.column-item.is) in
    ap Some text
    ∙ known_here (string_bytes column) name (map string_bytes (drop (i + 1) columns)) same
    ∙ sym (ap (λ l. known (map string_bytes l) name) left)
    ∙ sym c.loop-column.invariant
