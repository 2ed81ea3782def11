-- What is found under a name is what is kept under it.
use Rattle.std.proofs.Common.{◌∙◌, ap, option_map, string_bytes}
use Rattle.lus_editing.specs.declared.server.Document.{Document}
use Rattle.lus_editing.proofs.MessageLaws.{seen_copied}
use Rattle.lus_editing.proofs.server.Server.document.Goals as goal

pub returns : goal.returns
returns c =
    let text = λ (d : Document). string_bytes d.text in
    seen_copied text c.get.result ∙ ap (option_map text) c.get.ensures.value
