-- One name more, or none behind those before.
use Rattle.std.proofs.Common.{◌≡◌, ◌∙◌, ◌+◌, ap, map, option_map, subst, sym, take}
use Rattle.lus_program.specs.View.{program_seen}
use Rattle.lus_sketches.specs.Paths.{chosen_seen}
use Rattle.lus_sketches.specs.Signals.{Choose, IsFirstUnknown, names_in}
use Rattle.lus_sketches.proofs.Chosen.{choose_more, first_unknown, map_both}
use Rattle.lus_sketches.proofs.choices.chosen_all.Goals as goal

pub returns-in_default : goal.returns-in_default
returns-in_default c =
    let p = program_seen c.args.program.now in
    let f = c.args.node in
    let i = c.loop-place.place in
    let items = c.deref-name-items.result.now in
    let names : map (λ t. t.now) items ≡ names_in c.args.list.now = ap (map (λ t. t.now)) c.deref-name-items.ensures.value ∙ c.in_ok-names.ensures in
    let none = sym c.in_ok-found.ensures ∙ ap (option_map (λ v. map chosen_seen v.items)) c.in_default.is in (
      tt,
      subst (λ l. IsFirstUnknown p f l (i + 1)) names
          (first_unknown p f (λ t. t.now) i items _ c.loop-place-test.true (map chosen_seen c.loop-place.all.items) c.loop-place.invariant none),
    )

pub loop-place-preserved : goal.loop-place-preserved
loop-place-preserved c =
    let p = program_seen c.args.program.now in
    let f = c.args.node in
    let i = c.loop-place.place in
    let items = c.deref-name-items.result.now in
    let found = sym c.in_ok-found.ensures ∙ ap (option_map (λ v. map chosen_seen v.items)) c.in-Some.is in
    subst (λ l. Choose p f (map (λ t. t.now) (take (i + 1) items)) l) (sym (ap (map chosen_seen) c.in_ok-append.ensures.items ∙ map_both chosen_seen c.loop-place.all.items c.in-Some.found.items))
    (choose_more p f (λ t. t.now) i items _ c.loop-place-test.true (map chosen_seen c.loop-place.all.items) c.loop-place.invariant
    (map chosen_seen c.in-Some.found.items) found)
