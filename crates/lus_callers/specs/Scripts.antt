-- What callers are to do, and what their runs leave.
use Rattle.std.specs.Prelude.{◌<◌, ◌^◌, ℕ, List, length, map}
use Rattle.std.specs.List.{All, AllZip}
use Rattle.lus_program.specs.Programs.{Program}
use Rattle.lus_program.specs.SyntaxSpecs.declared.tree.NodeId.{NodeId}
use Rattle.lus_requests.specs.declared.request.Entry.{Entry}
use Rattle.lus_shared.specs.declared.shared.Journal.{Journal}
use Rattle.lus_requests.specs.declared.call.Call.{Call}
use Rattle.lus_requests.specs.declared.call.Caller.{Caller}
use Rattle.lus_callers.specs.declared.run.Journals.{Journals}
use Rattle.lus_callers.specs.Served.{IsHistoryOf}

-- the program has these nodes
abbrev pub HasNodes : Program → List NodeId → Type 0
HasNodes p nodes = All (λ f. f.0 < length p.nodes) nodes

-- the callers call none but so many instances
abbrev pub CallKnown : ℕ → List Caller → Type 0
CallKnown instances callers = All (λ v. All (λ c. c.on < instances) v.calls.items) callers

-- each caller's calls can be numbered
abbrev pub HaveFewCalls : List Caller → Type 0
HaveFewCalls callers = All (λ v. length v.calls.items < 2 ^ 32) callers

abbrev pub scripts : List Caller → List (List Call)
scripts callers = map (λ v. v.calls.items) callers

-- each caller's shares, and each instance's entries
abbrev pub shares : Journals → List (List ℕ)
shares r = map (λ s. s.items) r.shares.items

abbrev pub histories : Journals → List (List Entry)
histories r = map (λ j. j.entries.items) r.journals.items

-- the journals are histories of these nodes of the program, in their order
abbrev pub AreJournalsOf : Program → List NodeId → List Journal → Type 0
AreJournalsOf p nodes journals = AllZip (λ f j. IsHistoryOf p f.0 j.entries.items) nodes journals
