-- What is closed is the next instant.
use Rattle.std.proofs.Common.{◌≡◌, ◌∙◌, map, sym, ap, subst, rules}
use Rattle.lus_values.specs.View.{entry_of}
use Rattle.lus_program.specs.Programs.{node_at}
use Rattle.lus_program.specs.View.{node_of, program_seen}
use Rattle.lus_streams.specs.Equations.{node_parts}
use Rattle.lus_streams.specs.Streams.{instant}
use Rattle.lus_parts.specs.Nested.{AreNested}
use Rattle.lus_parts.specs.Parts.{part_of}
use Rattle.lus_parts.proofs.Nested.{node_nested}
use Rattle.lus_reference.specs.Kept.{DoesRenew}
use Rattle.lus_worlds.specs.declared.moment.Moment.{Moment, roll-Moment, the_lemmas}
use Rattle.lus_worlds.specs.Judging.{IsJudged}
use Rattle.lus_worlds.specs.Moments.{called_of, present_in, row_in, kept_in, fault_in, moments_in}
use Rattle.lus_worlds.proofs.Closed.{closed}
use Rattle.lus_worlds.proofs.Moments.{instant_seen}
use Rattle.lus_worlds.proofs.closing.close.Goals as goal

-- what is said of four things is said of others that equal them
moved : {A B C D : Type 0} (P : A → B → C → D → Type 0) {a a' : A} {b b' : B} {c c' : C} {d d' : D} → a ≡ a' → b ≡ b' → c ≡ c' → d ≡ d' → P a b c d → P a' b' c' d'
moved P {a} {a'} {b} {b'} {c} {c'} {d} {d'} e f g h x = subst (λ v. P v b' c' d') e (subst (λ v. P a v c' d') f (subst (λ v. P a b v d') g (subst (λ v. P a b c v) h x)))

pub renew-requires : goal.renew-requires
renew-requires c =
    let p = program_seen c.args.program.now in
    subst (AreNested p) (sym c.requires.parts) (node_nested p (node_of c.args.node.now))

pub returns : goal.returns
returns c =
    let p = program_seen c.args.program.now in
    let f = c.args.number in
    let b = c.args.present in
    let old = c.args.old.now in
    let row = map entry_of c.args.row.items in
    let next = map entry_of c.in_ok-next.next.kept.items in
    let ms = c.args.called.items in
    let qs = c.args.parts.now in
    let o = c.in_ok-fault.fault in
    let made : Moment = roll-Moment (record { present = b; row = c.new.result; kept = c.new-2.result; fault = o; called = c.args.called }) in
    let er : map entry_of c.deref-entries.result.now ≡ row = ap (map entry_of) c.deref-entries.ensures.value in
    let em : c.deref-moments.result.now ≡ ms = c.deref-moments.ensures.value in
    let ew : c.deref.result.now ≡ map row_in ms = c.deref.ensures.value ∙ c.in_ok-rows.ensures ∙ ap (map row_in) em in
    let ek : map entry_of c.items-kept.result.now ≡ kept_in old = c.items-kept.ensures in
    let parts_are : map part_of qs ≡ node_parts p (node_at p f) = c.requires.parts ∙ ap (node_parts p) c.requires.node in
    let judged : IsJudged p b row qs (kept_in old) ms o = moved (λ r w k m. IsJudged p b r qs k m o) er ew ek em c.in_ok-fault.ensures in
    let renewed : DoesRenew p b row (map row_in ms) (map part_of qs) (kept_in old) next = moved (λ r w k m. DoesRenew p b r w (map part_of qs) k next) er ew ek em c.in_ok-next.ensures.kept in
    let nb : b ≡ present_in made = search (rules, the_lemmas) in
    let nr : c.new.result ≡ row_in made = search (rules, the_lemmas) in
    let nk : c.new-2.result ≡ kept_in made = search (rules, the_lemmas) in
    let no : o ≡ fault_in made = search (rules, the_lemmas) in
    let nm : ms ≡ moments_in made = search (rules, the_lemmas) in
    let er' = sym c.new.ensures ∙ nr in
    record {
      made = instant_seen made ∙ (λ j. instant (sym nb j) (sym er' j) (called_of (sym nm j)));
      next = closed p f old made qs b row next o ms nb er' (sym c.new-2.ensures ∙ nk) no nm (record { parts = parts_are; judged = judged; renewed = renewed });
    }
