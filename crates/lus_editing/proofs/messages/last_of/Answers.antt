-- The last value is the last item of what they are seen as.
use Rattle.std.proofs.Common.{◌∙◌, ap, option_map}
use Rattle.serde_json.specs.View.{view}
use Rattle.lus_editing.proofs.MessageLaws.{last_seen, seen_copied}
use Rattle.lus_editing.proofs.messages.last_of.Goals as goal

pub returns : goal.returns
returns c = seen_copied view c.last.result ∙ ap (option_map view) c.last.ensures.value ∙ last_seen c.args.changes.now
