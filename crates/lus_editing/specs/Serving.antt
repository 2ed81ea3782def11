-- What is said to a message (JSON-RPC 2.0, "Response object"; Language Server Protocol 3.17, "Base Protocol", "Server lifecycle").
use Rattle.std.specs.Prelude.{◌≡◌, ◌⊎◌, ℕ, Bool, true, false, codes, Option, Some, None}
use Rattle.std.specs.Str.{bytes_eq}
use Rattle.serde_json.specs.Data.{Data}
use Rattle.serde_json.specs.Written.{compact_text, has_float}
use Rattle.lus_syntax.specs.Lexemes.{Text}
use Rattle.lus_editing.specs.Answers.{fault_text, given_text}
use Rattle.lus_editing.specs.Messages.{SentText, id_of, method_of, parameters_of, sent_by}
use Rattle.lus_editing.specs.declared.answers.Problem.{Problem}
use Rattle.lus_editing.specs.declared.answers.Problem.TheVariants as problems
use Rattle.lus_editing.specs.Renames.{Gives}
use Rattle.lus_editing.specs.declared.server.Server.{Server}
use Rattle.lus_editing.specs.declared.server.Stage.{Stage}
use Rattle.lus_editing.specs.declared.server.Stage.TheVariants.{Fresh, Running, Shut, Over}

-- something is said, and this holds of it
abbrev pub Says : Option Text → (Text → Type 0) → Type 0
Says (Some text) P = P text
Says None P = ⊥

-- why a request isn't done at a stage, whatever it asks: before `initialize`, a second one, and behind `shutdown`
abbrev pub stage_problem : Stage → Bool → Option Problem
stage_problem Fresh true = None
stage_problem Fresh false = Some problems.Early
stage_problem Running true = Some problems.Request
stage_problem Running false = None
stage_problem Shut is_initialize = Some problems.Request
stage_problem (Over is_in_order) is_initialize = Some problems.Request

-- the answer to the request of an id, of which each result has to be such: a result, or why the request isn't done
abbrev pub IsDone : (Text → Type 0) → Text → Text → Type 0
IsDone gives id said = ((given : Text) × (said ≡ given_text id given) × gives given) ⊎ ((problem : Problem) × (said ≡ fault_text id problem))

-- the same: that there is this problem, where there is one
abbrev pub IsAnswer : (Text → Type 0) → Option Problem → Text → Text → Type 0
IsAnswer gives (Some problem) id said = said ≡ fault_text id problem
IsAnswer gives None id said = IsDone gives id said

-- what a notification sends at a stage: nothing is heard of before `initialize` and behind `shutdown`
abbrev pub heard : Stage → Option SentText → Option SentText
heard Running sent = sent
heard Fresh sent = None
heard Shut sent = None
heard (Over is_in_order) sent = None

-- what is said to a notification: to one that sends a text, something
abbrev pub IsNotified : Option SentText → Option Text → Type 0
IsNotified (Some sent) said = Says said (λ t. Unit {0})
IsNotified None said = Unit {0}

-- what is said to a message without a method: nothing to an answer, and else that it is no request
abbrev pub IsNamelessAnswered : Option Data → Option Text → Type 0
IsNamelessAnswered (Some id) said = said ≡ None
IsNamelessAnswered None said = Says said (λ t. t ≡ fault_text (codes "null") problems.Request)

-- what is said to a message of a method, with the id of a request or without one
abbrev pub IsNamedAnswered : (Text → ℕ → Text → Text → Type 0) → Server → Text → Option Data → Option Data → Option Text → Type 0
IsNamedAnswered renames server method (Some id) parameters said =
    has_float id ≡ false → Says said (IsAnswer (Gives renames server (bytes_eq method (codes "textDocument/rename")) parameters)
    (stage_problem server.stage (bytes_eq method (codes "initialize"))) (compact_text id))
IsNamedAnswered renames server method None parameters said =
    IsNotified (heard server.stage (sent_by method parameters)) said

abbrev pub IsAnsweredBy : (Text → ℕ → Text → Text → Type 0) → Server → Option Text → Option Data → Option Data → Option Text → Type 0
IsAnsweredBy renames server (Some method) id parameters said = IsNamedAnswered renames server method id parameters said
IsAnsweredBy renames server None id parameters said = IsNamelessAnswered id said

-- what is said to a message that is JSON
abbrev pub IsAnswered : (Text → ℕ → Text → Text → Type 0) → Server → Data → Option Text → Type 0
IsAnswered renames server d said = IsAnsweredBy renames server (method_of d) (id_of d) (parameters_of d) said

-- what is said to a message: that it is no JSON, where it is none
abbrev pub IsServed : (Text → ℕ → Text → Text → Type 0) → Server → Option Data → Option Text → Type 0
IsServed renames server (Some d) said = IsAnswered renames server d said
IsServed renames server None said = Says said (λ t. t ≡ fault_text (codes "null") problems.Parse)
