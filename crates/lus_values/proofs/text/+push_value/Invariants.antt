use Rattle.std.proofs.Common.{◌≡◌, ◌++◌, [], drop}
use Rattle.std.specs.Prelude.{string_bytes}
use denote.Text.{Utf8}
use denote.Shadow.{shadow}
use Rattle.lus_values.specs.Text.{Begins}
use Rattle.lus_values.proofs.Texts.{all_text}
use Rattle.lus_values.proofs.text.+push_value.Given as goal

abbrev pub invariant-loop-field : goal.invariant-loop-field
invariant-loop-field l =
    shadow (Utf8 l.before)
    × (string_bytes l.text ++ all_text l.names l.before (drop l.field-index l.field-items) ≡ string_bytes l.initial.text ++ all_text l.names [] l.field-items)
    × Begins (string_bytes l.initial.text) (string_bytes l.text)
