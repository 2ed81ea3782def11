-- What messages ask (JSON-RPC 2.0, "Request object"; Language Server Protocol 3.17, "Text Document Synchronization").
use Rattle.std.specs.Prelude.{ℤ, Option, Some, None, option_and_then, option_map, codes, if◌then◌else◌}
use Rattle.std.specs.Str.{bytes_eq}
use Rattle.serde_json.specs.Data.{Data, Items, no_items, item}
use Rattle.serde_json.specs.Find.{get, as_str, as_array, as_number, as_i64}
use Rattle.lus_syntax.specs.Lexemes.{Text}
use Rattle.lus_editing.specs.declared.messages.Sent.{Sent}

-- a text that an editor sends, with its document's name and version
pub record SentText : Type 0 where
  pub uri : Text
  pub version : ℤ
  pub text : Text

abbrev pub sent_seen : Sent → SentText
sent_seen s = record { uri = s.uri.now; version = s.version; text = s.text.now }

-- the method that a message names, and the id of a request; a notification has none
abbrev pub method_of : Data → Option Text
method_of d = option_and_then as_str (get (codes "method") d)

abbrev pub id_of : Data → Option Data
id_of d = get (codes "id") d

abbrev pub parameters_of : Data → Option Data
parameters_of d = get (codes "params") d

-- the document that parameters name
abbrev pub document_of : Data → Option Data
document_of d = get (codes "textDocument") d

abbrev pub uri_of : Data → Option Text
uri_of d = option_and_then as_str (option_and_then (get (codes "uri")) (document_of d))

abbrev pub version_of : Data → Option ℤ
version_of d = option_and_then as_i64 (option_and_then as_number (option_and_then (get (codes "version")) (document_of d)))

abbrev pub text_of : Data → Option Text
text_of d = option_and_then as_str (get (codes "text") d)

-- the last of a list
abbrev pub last_of : Items → Option Data
last_of no_items = None
last_of (item d no_items) = Some d
last_of (item d (item e ds)) = last_of (item e ds)

-- the text of a document that is opened, and of the last change of one that is changed
abbrev pub opened_text : Data → Option Text
opened_text d = option_and_then text_of (document_of d)

abbrev pub last_change : Data → Option Data
last_change d = option_and_then last_of (option_and_then as_array (get (codes "contentChanges") d))

abbrev pub changed_text : Data → Option Text
changed_text d = option_and_then text_of (last_change d)

-- a text with the name and the version that the parameters have
abbrev pub sent_of : Data → Option Text → Option SentText
sent_of d text =
    option_and_then (λ u. option_and_then (λ v. option_map (λ t. record { uri = u; version = v; text = t }) text) (version_of d)) (uri_of d)

abbrev pub opened_of : Data → Option SentText
opened_of d = sent_of d (opened_text d)

abbrev pub changed_of : Data → Option SentText
changed_of d = sent_of d (changed_text d)

-- the text that a notification sends by its method
abbrev pub sent_by : Text → Option Data → Option SentText
sent_by method None = None
sent_by method (Some d) =
    if bytes_eq method (codes "textDocument/didOpen") then opened_of d
    else (if bytes_eq method (codes "textDocument/didChange") then changed_of d else None)

-- the name that parameters give in place of another one
abbrev pub new_name_of : Data → Option Text
new_name_of d = option_and_then as_str (get (codes "newName") d)
