-- All characters of the text were shown.
use Rattle.std.proofs.Common.{◌≡◌, ◌∙◌, ap, flat_map, string_bytes, sym}
use Rattle.std.proofs.lemmas.List.{map-id}
use Rattle.std.proofs.lemmas.Iterator.{YieldsList-from_chars}
use Rattle.std.proofs.lemmas.Iterator.Consumers.{YieldsList-end}
use Rattle.std.specs.Str.{chars}
use Rattle.lus_printable.specs.Printable.{printable, shown}
use Rattle.lus_printable.proofs.Seen.{text_seen}
use Rattle.lus_printable.proofs.showing.printable.Goals as goal

pub returns-clause-exact : goal.returns-clause-exact
unfolding printable
returns-clause-exact c =
    let all = YieldsList-end (YieldsList-from_chars c.deref.result.now c.deref.utf8 cc) c.loop-letter.yielded _ c.loop-letter.yielded_by _ _ c.in-None.is c.next.ensures.steps in
    let each : c.loop-letter.yielded ≡ chars c.deref.result.now = sym (map-id c.loop-letter.yielded) ∙ all.0 in
    c.loop-letter.invariant ∙ ap (flat_map shown) each
    ∙ ap (λ b. flat_map shown (chars b)) (c.deref.ensures ∙ c.in_ok-given.ensures.lossy)

pub returns-clause-seen : goal.returns-clause-seen
returns-clause-seen c =
    let all = YieldsList-end (YieldsList-from_chars c.deref.result.now c.deref.utf8 cc) c.loop-letter.yielded _ c.loop-letter.yielded_by _ _ c.in-None.is c.next.ensures.steps in
    let each : c.loop-letter.yielded ≡ chars c.deref.result.now = sym (map-id c.loop-letter.yielded) ∙ all.0 in
    text_seen c.deref.result.now (string_bytes c.loop-letter.text) c.deref.utf8 (c.loop-letter.invariant ∙ ap (flat_map shown) each)
