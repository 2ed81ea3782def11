use Rattle.std.proofs.Common.{◌≡◌, ◌∙◌, ◌^◌, ◌<◌, List, length, sym, ap, subst, arith}
use Rattle.lus_graph.specs.Ways.{IsOrder}
use Rattle.lus_program.specs.View.{program_seen}
use Rattle.lus_classes.specs.Passing.{PassGiven}
use Rattle.lus_classes.specs.View.{classes_of}
use Rattle.lus_simulation.specs.Codes.{AreCodeOf}
use Rattle.lus_instructions.specs.declared.class.Class.{Class}
use Rattle.lus_emission.specs.Made.{HaveCode}
use Rattle.lus_emission.specs.Sources.{AreFew, CanAllBeEmitted, HaveParts, KeepTo, class_uses}
use Rattle.lus_code.proofs.CallOrders.{classes_ordered}
use Rattle.lus_code.proofs.Emitted.{turned_can_be_emitted}
use Rattle.lus_code.proofs.KeptRows.{classes_few, classes_keep}
use Rattle.lus_code.proofs.MadeClasses.{classes_belong}
use Rattle.lus_code.proofs.Passing.{turned_pass_given}
use Rattle.lus_code.proofs.classes.classes_of_nodes.Goals as goal

pub emit_classes-requires : goal.emit_classes-requires
emit_classes-requires c =
    let p = program_seen c.args.program.now in
    let made = c.in_ok-classes.field-0 in
    let classes = made.classes.items in
    let turned = c.in_ok-classes.ensures.turned in
    let has = c.requires.source in
    let small = c.requires.small in
    let seen : c.deref.result.now ≡ classes = c.deref.ensures.value in
    let handed : c.deref_mut.result.now ≡ made.parts.items = c.deref_mut.ensures.value in
    let code : AreCodeOf has.source p (classes_of classes) = record { new_parts = has.new_parts; normal = has.normal; belong = classes_belong p classes turned } in
    let many : length classes < 2 ^ 32 = (let size = turned.size in let nodes = small.nodes in omega (arith, size, nodes)) in
    record {
      classes = subst CanAllBeEmitted (sym seen) (turned_can_be_emitted p classes turned small);
      order = subst (λ (cs : List Class). IsOrder (class_uses cs) c.args.nodes.now) (sym seen)
          (classes_ordered has.source p classes code (turned.size ∙ has.size) c.args.nodes.now has.ordered);
      parts = subst (λ (cs : List Class). HaveParts cs c.deref_mut.result.now) (sym seen) (subst (HaveParts classes) (sym handed) c.in_ok-classes.ensures.parts);
      size = ap length handed ∙ c.in_ok-classes.ensures.many ∙ sym (ap (λ (cs : List Class). length cs) seen);
      few = subst AreFew (sym seen) (classes_few p classes turned small);
      many = subst (λ (cs : List Class). length cs < 2 ^ 32) (sym seen) many;
    }

pub returns : goal.returns
returns c =
    let p = program_seen c.args.program.now in
    let classes = c.in_ok-classes.field-0.classes.items in
    let turned = c.in_ok-classes.ensures.turned in
    let small = c.requires.small in
    let emitted = c.in_ok-emitted.emitted.items in
    let made = c.in_ok-emitted.ensures in
    let seen : c.deref.result.now ≡ classes = c.deref.ensures.value in
    record {
      belong = classes_belong p classes turned;
      size = turned.size;
      ready = turned_can_be_emitted p classes turned small;
      passing = turned_pass_given p classes turned;
      many = made.size ∙ ap (λ (cs : List Class). length cs) seen;
      framed = made.framed;
      code = subst (λ (cs : List Class). HaveCode cs emitted) seen (made.code (subst PassGiven (sym seen) (turned_pass_given p classes turned)));
      within = λ counts kept. made.within counts (subst (KeepTo counts) (sym seen) (classes_keep p classes turned small.lefts counts kept));
    }
