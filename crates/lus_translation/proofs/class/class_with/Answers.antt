use Rattle.std.proofs.Common.{◌≡◌, ◌∙◌, map, refl}
use Rattle.lus_program.specs.View.{node_of}
use Rattle.lus_classes.specs.View.{clock_from}
use Rattle.lus_translation.specs.Forms.{numbers_form}
use Rattle.lus_translation.proofs.NewestTests.{tests_seen}
use Rattle.lus_translation.proofs.class.class_with.Goals as goal

pub returns-clause-form : goal.returns-clause-form
returns-clause-form c =
    let f = node_of c.args.node.now in
    let qs = c.args.node.now.equations.items in
    let numbers : c.deref.result.now ≡ numbers_form 0 qs = c.deref.ensures.value ∙ c.in_ok-numbers.ensures.numbers in
    let tests = c.in_ok-tests.ensures ∙ tests_seen c.args.node.now.variables.items in
    record {
      inputs = refl;
      tests = tests;
      steps = rw (numbers, c.in_ok-firsts.ensures, c.new.ensures.items, c.new-2.ensures.items) at c.in_ok-make_turns.ensures.steps;
      cells = rw (numbers, c.new-2.ensures.items) at c.in_ok-make_turns.ensures.cells;
      firsts = λ i. map (clock_from (tests i)) ((c.in_ok-tests-2.ensures ∙ c.in_ok-firsts.ensures) i);
      calls = c.in_ok-calls.ensures;
    }

pub returns-clause-calls : goal.returns-clause-calls
returns-clause-calls c =
    let numbers : c.deref.result.now ≡ numbers_form 0 c.args.node.now.equations.items = c.deref.ensures.value ∙ c.in_ok-numbers.ensures.numbers in
    rw (numbers, c.new.ensures.items) at c.in_ok-make_turns.ensures.made

pub returns-clause-parts : goal.returns-clause-parts
returns-clause-parts c = λ keeping.
    let made = rw (c.deref-2.ensures.value, c.deref-3.ensures.value) at c.in_ok-parts.ensures in
    record { make = made.make; stay = made.stay _ _ keeping }
