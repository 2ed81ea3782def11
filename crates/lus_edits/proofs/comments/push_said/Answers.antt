use Rattle.std.proofs.Common.{rules, ◌∷◌, [], ap, map, ◌∙◌}
use Rattle.std.proofs.lemmas.List.{map-append}
use Rattle.lus_edits.proofs.Notes.{says_nothing, says_text}
use Rattle.lus_edits.proofs.comments.push_said.Goals as goal

pub returns-then-is_empty : goal.returns-then-is_empty
returns-then-is_empty c = says_nothing _ _ _ c.trim_ascii_end-text.ensures.value (search rules)

pub returns : goal.returns
returns c =
    ap (map (λ t. t.now)) c.in_ok-push.ensures.items ∙ map-append (λ t. t.now) c.args.comments.now.items (_ ∷ [])
    ∙ says_text _ _ _ c.trim_ascii_end-text.ensures.value (search rules)
