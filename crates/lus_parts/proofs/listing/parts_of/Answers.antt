-- One equation more.
use Rattle.std.proofs.Common.{◌≡◌, ◌∙◌, suc, ◌+◌, ◌<◌, ◌≤◌, [], ◌∷◌, ◌++◌, sym, ap, subst, drop, drop-cons, drop_of_length-le, length, map, append_assoc, append-nil, arith}
use Rattle.lus_values.specs.Lists.{item}
use Rattle.lus_program.specs.Programs.{calls, numbered}
use Rattle.lus_program.specs.View.{equations_from, expression_of, node_of, program_seen}
use Rattle.lus_streams.specs.Clocks.{clock_of, parts}
use Rattle.lus_streams.specs.Equations.{equation_parts}
use Rattle.lus_parts.specs.Nested.{AreNested}
use Rattle.lus_parts.specs.Parts.{part_of}
use Rattle.lus_parts.proofs.Nested.{node_nested}
use Rattle.lus_parts.proofs.listing.parts_of.Goals as goal

pub loop-equation-preserved : goal.loop-equation-preserved
loop-equation-preserved c =
    let p = program_seen c.args.program.now in
    let f = node_of c.args.node.now in
    let qs = c.args.node.now.equations.items in
    let i = c.loop-equation.equation-index in
    let q = c.equation-item.result in
    let e = expression_of q.right in
    let k = clock_of f (item 0 q.targets.items 0) in
    let n = c.loop-equation.next in
    let lt : i < length qs = rw c.deref-equation-items.ensures.value at c.loop-equation-test.true in
    let is : q ≡ _ = rw c.deref-equation-items.ensures.value at c.equation-item.is in
    let next : i + 1 ≡ suc i = omega arith in
    let rest : drop i qs ≡ q ∷ drop (suc i) qs = drop-cons qs i q lt ∙ (λ j. sym is j ∷ drop (suc i) qs) in
    let old = map part_of c.loop-equation.found.items in
    let own : c.deref.result.now ≡ k = c.deref.ensures.value ∙ c.in_ok-clock.ensures in
    let later = equation_parts p f (equations_from (n + calls e) (drop (suc i) qs)) in
    let more_found : map part_of c.push_parts.new.found.items ≡ old ++ parts p (numbered n e) c.deref.result.now = c.in_ok-after.ensures.found in
    record {
      room = c.in_ok-after.ensures.room;
      found =
          (λ j. more_found j ++ equation_parts p f (equations_from (c.in_ok-after.ensures.next j) (drop (next j) qs)))
          ∙ append_assoc old (parts p (numbered n e) c.deref.result.now) later
          ∙ ap (λ l. old ++ (parts p (numbered n e) l ++ later)) own
          ∙ ap (λ l. old ++ equation_parts p f (equations_from n l)) (sym rest)
          ∙ c.loop-equation.invariant.found;
    }

pub returns-clause-parts : goal.returns-clause-parts
returns-clause-parts c =
    let p = program_seen c.args.program.now in
    let f = node_of c.args.node.now in
    let qs = c.args.node.now.equations.items in
    let old = map part_of c.loop-equation.found.items in
    let at : c.loop-equation.equation-index ≡ length qs = rw c.deref-equation-items.ensures.value at (let e : c.loop-equation.equation-index ≡ length c.deref-equation-items.result.now = omega arith in e) in
    let done : drop c.loop-equation.equation-index qs ≡ [] = drop_of_length-le qs (let le : length qs ≤ c.loop-equation.equation-index = omega (arith, at) in le) in
    sym (append-nil old) ∙ ap (λ l. old ++ equation_parts p f (equations_from c.loop-equation.next l)) (sym done) ∙ c.loop-equation.invariant.found

pub returns-clause-nested : goal.returns-clause-nested
returns-clause-nested c =
    let p = program_seen c.args.program.now in
    subst (AreNested p) (sym (returns-clause-parts c)) (node_nested p (node_of c.args.node.now))
