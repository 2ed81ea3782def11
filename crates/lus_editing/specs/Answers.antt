-- Answers to requests (JSON-RPC 2.0, "Response object"; Language Server Protocol 3.17, "Response Message").
use Rattle.std.specs.Prelude.{ℕ, ◌++◌, codes}
use Rattle.std.specs.Fmt.{decimal}
use Rattle.lus_syntax.specs.Lexemes.{Text}
use Rattle.lus_editing.specs.declared.answers.Problem.{Problem}
use Rattle.lus_editing.specs.declared.answers.Problem.TheVariants as problems

-- the codes of errors, which are negative, without their minus
abbrev pub problem_code : Problem → ℕ
problem_code problems.Parse = 32700
problem_code problems.Head = 32700
problem_code problems.Long = 32600
problem_code problems.Request = 32600
problem_code problems.Method = 32601
problem_code problems.Parameters = 32602
problem_code problems.Early = 32002
problem_code problems.NoName = 32803
problem_code problems.NotAName = 32803
problem_code problems.OtherProgram = 32803

-- the same in words
abbrev pub problem_message : Problem → Text
problem_message problems.Parse = codes "the message is no JSON"
problem_message problems.Head = codes "the head of the message doesn't say how many bytes it has"
problem_message problems.Long = codes "the message has more than 16777216 bytes"
problem_message problems.Request = codes "the message is no request that can be done now"
problem_message problems.Method = codes "this server has no such method"
problem_message problems.Parameters = codes "the method can't take these parameters"
problem_message problems.Early = codes "the request comes before `initialize`"
problem_message problems.NoName = codes "no declared name stands here"
problem_message problems.NotAName = codes "this is no name, or a word of the language"
problem_message problems.OtherProgram = codes "under this name the program would not be the same"

-- what each answer to the request of an id begins with
abbrev pub answer_text : Text → Text
answer_text id = codes "{\"jsonrpc\":\"2.0\",\"id\":" ++ id ++ codes ","

-- why a request isn't done
abbrev pub error_text : ℕ → Text → Text
error_text code message = codes "\"error\":{\"code\":-" ++ (decimal code ++ (codes ",\"message\":\"" ++ (message ++ codes "\"}}")))

-- what a request gives
abbrev pub result_text : Text → Text
result_text given = codes "\"result\":" ++ (given ++ codes "}")

-- the answer to the request of an id with what it gives
abbrev pub given_text : Text → Text → Text
given_text id given = answer_text id ++ result_text given

-- the answer to the request of an id that it isn't done
abbrev pub fault_text : Text → Problem → Text
fault_text id problem = answer_text id ++ error_text (problem_code problem) (problem_message problem)
