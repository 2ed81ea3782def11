use Rattle.std.proofs.Common.{◌≡◌, vec_len, ◌<◌, ◌++◌, ◌∷◌, [], List, Vec, Global, length, map, ap, sym, ◌∙◌, arith, get_or}
use Rattle.std.proofs.lemmas.List.{get_or-map, map-set, length-map}
use Rattle.lus_callers.proofs.Turning.{cut_more}
use Rattle.lus_callers.proofs.columns.cut.Goals as goal

pub unreachable-requires : goal.unreachable-requires
unreachable-requires g c =
    let old : List (Vec g.row.T.Denot Global) = c.args.rows.now.items in
    let p = c.loop-row.row-index in
    let items : Vec g.row.T.Denot Global → List g.row.T.Denot = λ r. r.items in
    let long : length c.loop-row.row-items ≡ length old = sym (length-map c.loop-row.row-items items) ∙ (c.loop-row.invariant.count ∙ length-map old items) in
    let inside : p < length c.loop-row.row-items = omega (arith, c.loop-row.auto.row-items, c.loop-row-test.true) in
    let full = c.requires p c.row-item.result (omega (arith, long, inside)) in
    let same : (get_or c.loop-row.row-items p c.row-item.result).items ≡ (get_or old p c.row-item.result).items =
    sym (get_or-map items c.loop-row.row-items p c.row-item.result [] inside) ∙ (c.loop-row.invariant.others p (omega arith) ∙ get_or-map items old p c.row-item.result [] (omega (arith, long, inside))) in
    let none : vec_len (get_or c.loop-row.row-items p c.row-item.result) ≡ 0 = c.in_default.ensures.cases.0 in
    omega (arith, none, (get_or c.loop-row.row-items p c.row-item.result).ok.0, full, ap length same)

pub loop-row-preserved : goal.loop-row-preserved
loop-row-preserved g c =
    let old : List (Vec g.row.T.Denot Global) = c.args.rows.now.items in
    let p = c.loop-row.row-index in
    let items : Vec g.row.T.Denot Global → List g.row.T.Denot = λ r. r.items in
    let inside : p < length c.loop-row.row-items = omega (arith, c.loop-row.auto.row-items, c.loop-row-test.true) in
    let long : length c.loop-row.row-items ≡ length old = sym (length-map c.loop-row.row-items items) ∙ (c.loop-row.invariant.count ∙ length-map old items) in
    let is : get_or (map items c.loop-row.row-items) p [] ≡ c.pop.new.self.items ++ c.in-Some.last ∷ [] = get_or-map items c.loop-row.row-items p c.row-item.result [] inside ∙ c.in-Some.ensures.items in
    rw (map-set items c.loop-row.row-items p c.pop.new.self, c.push_reserved.ensures.items)
    (cut_more p (map items old) (map items c.loop-row.row-items) c.loop-row.column.items c.pop.new.self.items c.in-Some.last (omega (arith, inside, long, length-map old items)) c.loop-row.invariant is)
