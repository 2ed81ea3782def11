-- What is given to a request for another name (Language Server Protocol 3.17, "Rename Request").
use Rattle.std.specs.Prelude.{◌≡◌, ℕ, Bool, true, false, Option, Some, option_and_then, option_map, string_bytes}
use Rattle.indexmap.specs.IndexMap.{get_by_text}
use Rattle.serde_json.specs.Data.{Data}
use Rattle.lus_syntax.specs.Lexemes.{Text}
use Rattle.lus_queries.specs.Edits.{Edits}
use Rattle.lus_editing.specs.Messages.{new_name_of, uri_of}
use Rattle.lus_editing.specs.declared.server.Server.{Server}

-- the text of the open document of a name
abbrev pub source_in : Server → Text → Option Text
source_in server uri = option_map (λ d. string_bytes d.text) (get_by_text server.documents uri)

-- changes of the document of a name, by which its source becomes a text that is this source with the new name in place of one
pub record IsRenamed (renames : Text → ℕ → Text → Text → Type 0) (uri source name given : Text) : Type 0 where
  pub made : Text
  pub byte : ℕ
  pub renamed : renames source byte name made
  pub edits : Edits uri source made given

-- the document and the new name are those of parameters, and the source is the open document's
pub record AnswersRename (renames : Text → ℕ → Text → Text → Type 0) (server : Server) (parameters : Option Data) (given : Text) : Type 0 where
  pub uri : Text
  pub source : Text
  pub name : Text
  pub of : option_and_then uri_of parameters ≡ Some uri
  pub to : option_and_then new_name_of parameters ≡ Some name
  pub opened : source_in server uri ≡ Some source
  pub renamed : IsRenamed renames uri source name given

-- what a request gives that is done: one for another name these changes; of other requests nothing is said
abbrev pub Gives : (Text → ℕ → Text → Text → Type 0) → Server → Bool → Option Data → Text → Type 0
Gives renames server true parameters given = AnswersRename renames server parameters given
Gives renames server false parameters given = Unit {0}
