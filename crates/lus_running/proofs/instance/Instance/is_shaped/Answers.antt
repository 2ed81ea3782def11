use Rattle.std.proofs.Common.{rules, ◌≡◌, ◌∙◌, ◌<◌, ◌≤◌, sym, refl, length, slice_get, slice_index_or, Some, None}
use Rattle.std.proofs.lemmas.Option.{slice_get_read, slice_get_past, none-some}
use Rattle.lus_running.specs.Instances.{seen}
use Rattle.lus_emission.proofs.Underway.{found_within}
use Rattle.lus_running.proofs.Seeing.{long_of}
use Rattle.lus_running.proofs.instance.Instance.is_shaped.Goals as goal

pub returns-in-Some-Some : goal.returns-in-Some-Some
returns-in-Some-Some c =
    let classes = c.args.on.now.classes.now in
    let emitted = c.args.on.now.emitted.now in
    let g = c.args.self.now.node in
    let f = c.in-Some-Some.code.now in
    let within : g < length classes = search rules in
    let coding : g < length emitted = search rules in
    let there : f ≡ slice_index_or emitted g f = search rules in
    let found = found_within classes g within in
    let coded : slice_get emitted g ≡ Some f = slice_get_read emitted (length emitted) g f refl coding there in (
      λ yes. record { class = found.0; code = f; found = found.1; coded = coded; long = (c.is_long.ensures g).0 yes },
      λ s. (c.is_long.ensures g).1 (long_of classes emitted (seen c.args.self.now) f coded s),
    )

pub returns-in_default : goal.returns-in_default
returns-in_default c =
    let emitted = c.args.on.now.emitted.now in
    let g = c.args.self.now.node in
    let past : length emitted ≤ g = search rules in
    let none : slice_get emitted g ≡ None = slice_get_past emitted g past in
    (λ no. absurd (search rules), λ s. absurd (none-some s.code (sym none ∙ s.coded)))

pub returns-in_default-2 : goal.returns-in_default-2
returns-in_default-2 c =
    let classes = c.args.on.now.classes.now in
    let g = c.args.self.now.node in
    let past : length classes ≤ g = search rules in
    let none : slice_get classes g ≡ None = slice_get_past classes g past in
    (λ no. absurd (search rules), λ s. absurd (none-some s.class (sym none ∙ s.found)))
