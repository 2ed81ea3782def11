-- A name that stands in the table so far stands twice among the names.
use Rattle.std.proofs.Common.{rules, ◌≡◌, ◌∙◌, refl, ap, map, string_bytes, true, false, Bool, not}
use Rattle.lus_scripts.specs.Scripts.{all_distinct}
use Rattle.lus_scripts.proofs.DistinctNames.{distinct-item, distinct-more, names-item}
use Rattle.lus_records.proofs.HeadLaws.{distinct_none}
use Rattle.lus_records.proofs.heads.distinct.Goals as goal

known_name : (added stands : Bool) → added ≡ not stands → added ≡ false → stands ≡ true
known_name added true said is = refl
known_name added false said is = absurd (cc)

new_name : (added stands : Bool) → added ≡ not stands → added ≡ true → stands ≡ false
new_name added true said is = absurd (cc)
new_name added false said is = refl

pub returns-then-not-is_new : goal.returns-then-not-is_new
returns-then-not-is_new c =
    distinct_none (map (λ n. n.now) c.args.names.now) (distinct-item (λ n. n.now) c.args.names.now c.loop-name.name-index _ _ (search rules) c.loop-name.invariant.0
    (known_name _ _ c.in_ok-is_new.ensures.new (search rules)))

pub loop-name-preserved : goal.loop-name-preserved
loop-name-preserved c =
    let added : c.in_ok-is_new.is_new ≡ true = search rules in
    let last = c.in_ok-is_new.ensures.last added in
    let texts = map string_bytes c.loop-name.table.keys in (
      last ∙ names-item (λ n. n.now) c.args.names.now c.loop-name.name-index _ texts (search rules) c.loop-name.invariant.0,
      ap all_distinct last ∙ distinct-more texts _ c.loop-name.invariant.1 (new_name _ _ c.in_ok-is_new.ensures.new added),
    )
