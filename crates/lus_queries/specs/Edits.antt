-- Changes as they are sent (Language Server Protocol 3.17, "TextEdit", "WorkspaceEdit").
use Rattle.std.specs.Prelude.{◌≡◌, List, [], ◌∷◌, ◌++◌, codes}
use Rattle.std.specs.Fmt.{decimal}
use Rattle.std.specs.List.{flat_map}
use Rattle.lus_syntax.specs.Lexemes.{Text}
use Rattle.lus_diagnostics.specs.Quoting.{quoted}
use Rattle.lus_queries.specs.declared.changes.Change.{Change}
use Rattle.lus_queries.specs.declared.places.Spot.{Spot}
use Rattle.lus_queries.specs.Changes.{Make}

-- where a change begins or ends
abbrev pub spot_text : Spot → Text
spot_text s = codes "{\"line\":" ++ (decimal s.line ++ (codes ",\"character\":" ++ (decimal s.character ++ codes "}")))

-- a change between two spots
abbrev pub edit_text : Change → Text
edit_text c =
    codes "{\"range\":{\"start\":" ++ (spot_text c.from ++ (codes ",\"end\":" ++ (spot_text c.to ++ (codes "},\"newText\":"
    ++ (quoted c.text.now ++ codes "}")))))

-- that behind another one
abbrev pub other_edit_text : Change → Text
other_edit_text c = codes "," ++ edit_text c

abbrev pub edits_text : List Change → Text
edits_text [] = []
edits_text (c ∷ cs) = edit_text c ++ flat_map other_edit_text cs

-- changes of the document of a name
abbrev pub workspace_text : Text → List Change → Text
workspace_text uri cs = codes "{\"changes\":{" ++ (quoted uri ++ (codes ":[" ++ (edits_text cs ++ codes "]}}")))

-- what is sent are changes of the document that make another text of its source
pub record Edits (uri source made sent : Text) : Type 0 where
  pub changes : List Change
  pub make : Make changes source made
  pub sent_as : sent ≡ workspace_text uri changes
