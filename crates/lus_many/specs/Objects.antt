-- Answers as objects of JSON, each on a line of its own.
use Rattle.std.specs.Prelude.{◌==◌, ◌++◌, ◌∷◌, [], ℕ, List, codes, if◌then◌else◌}
use Rattle.std.specs.Fmt.{decimal}
use Rattle.serde_json.specs.Data.{string}
use Rattle.serde_json.specs.Written.{compact_text}
use Rattle.lus_values.specs.Names.{Names, Text}
use Rattle.lus_program.specs.Programs.{Program, Variable, node_at}
use Rattle.lus_replies.specs.Replies.{reply_json}
use Rattle.lus_hosting.specs.LiveSpecs.MachineSpecs.Constructors.{names_of}
use Rattle.lus_hosting.specs.LiveSpecs.MachineSpecs.Formals.{outputs_of}
use Rattle.lus_hosting.specs.Spellings.{Spelling}

-- a text as a string of JSON
unfoldable pub quoted : Text → Text
quoted text = compact_text (string text)

-- what an object has behind its first brace
abbrev pub members_of : Text → Text
members_of [] = []
members_of (b ∷ bs) = if b == 123 then bs else b ∷ bs

-- of the nth entry of an instance, before other members
abbrev pub names_json : Text → Text → ℕ → Text
names_json instance caller n =
    codes "{\"instance\":" ++ quoted instance ++ codes ",\"number\":" ++ decimal n ++ codes ",\"caller\":" ++ quoted caller ++ codes ","

-- the names that a line has, and why it is no call
abbrev pub denial_json : Text → Text → Text → Text
denial_json instance caller reason =
    codes "{\"instance\":" ++ quoted instance ++ codes ",\"caller\":" ++ quoted caller ++ codes ",\"error\":" ++ quoted reason ++ codes "}\n"

-- of an entry the names, the number, and the members of the reply
abbrev pub json_spelling : Program → Names → List Variable → Spelling
json_spelling p names outputs = record {
  tells = λ instance caller n e. names_json instance caller n ++ (members_of (reply_json p names outputs e.request e.reply) ++ codes "\n");
  denies = denial_json;
}

-- of a node, with its outputs by their names
abbrev pub node_spelling : Program → ℕ → Spelling
node_spelling p f = json_spelling p (names_of p) (outputs_of (node_at p f))
