-- Variables by their paths: the names of called nodes, and behind them that of a variable, with dots between them.
use Rattle.std.specs.Prelude.{◌==◌, ◌^◌, ◌++◌, ℕ, zero, suc, Bool, List, [], ◌∷◌, Option, Some, None, codes, filter, map, option_and_then, option_map, position, slice_get, string_bytes, if◌then◌else◌}
use Rattle.std.specs.List.{slice_split}
use Rattle.std.specs.Str.{bytes_eq}
use Rattle.lus_program.specs.Programs.{call, Program, Variable, node_at}
use Rattle.lus_streams.specs.Clocks.{Part, at}
use Rattle.lus_streams.specs.Equations.{Site, sites}
use Rattle.lus_asked.specs.Reading.{number_below}
use Rattle.lus_values.specs.Names.{Text}
use Rattle.lus_sketches.specs.declared.choices.Chosen.{Chosen as StoredChosen}
use Rattle.lus_sketches.specs.declared.paths.Called as code
use Rattle.lus_sketches.specs.declared.paths.Step as step_code

-- ---- steps

-- counted from 0 what is counted from 1
abbrev pub place_of : Option ℕ → Option ℕ
place_of (Some (suc n)) = Some n
place_of _ = None

-- a step: the name of a called node, and the place of the call among those of nodes of this name: `NODE#k` is the k-th, `NODE` the first
abbrev pub step_of : List Text → Option (Text × ℕ)
step_of (name ∷ []) = Some (name, 0)
step_of (name ∷ (digits ∷ [])) = option_map (λ n. (name, n)) (place_of (number_below (2 ^ 64) digits))
step_of _ = None

abbrev pub step_seen : step_code.Step → Text × ℕ
step_seen s = (s.name.now, s.place)

-- a call: the node that is called, and the call's number in the text
abbrev pub Called : Type 0
Called = ℕ × ℕ

abbrev pub called_seen : code.Called → Called
called_seen c = (c.node, c.number)

abbrev pub called_by : Site → Called
called_by s = (s.node, s.number)

-- ---- variables

-- a variable under its path: a way of calls, and the variable's number in the node behind them
abbrev pub Chosen : Type 0
Chosen = Text × (List ℕ × ℕ)

abbrev pub chosen_seen : StoredChosen → Chosen
chosen_seen c = (string_bytes c.path, (c.pick.way.items, c.pick.variable))

-- those of a node, in declared order, from the nth on
abbrev pub all_from : ℕ → List Variable → List Chosen
all_from n [] = []
all_from n (v ∷ vs) = (v.name, ([], n)) ∷ all_from (suc n) vs

-- that of a name
abbrev pub one_of : Text → List Variable → Option (List Chosen)
one_of name vs = option_map (λ x. (name, ([], x)) ∷ []) (position (λ v. bytes_eq v.name name) vs)

-- `*` says all variables of a node, a name that of this name
abbrev pub said_by : Text → List Variable → Option (List Chosen)
said_by word vs = if bytes_eq word (codes "*") then Some (all_from 0 vs) else one_of word vs

-- behind a step and its call
abbrev pub under : Text → ℕ → Chosen → Chosen
under step number c = (step ++ codes "." ++ c.0, (number ∷ c.1.0, c.1.1))

module _ (p : Program) where
  abbrev pub is_of : Text → Site → Bool
  is_of name s = bytes_eq (node_at p s.node).name name

  -- the call that a part is, if it is one of a node of this name
  abbrev pub calls_at : Text → Part → List Called
  calls_at name (at k (call g c args)) = if bytes_eq (node_at p g).name name then (g, c) ∷ [] else []
  calls_at name _ = []

  -- the calls of nodes of this name in the text of node f
  abbrev pub calls_of : ℕ → Text → List Called
  calls_of f name = map called_by (filter (is_of name) (sites p (node_at p f)))

  -- the call in the text of node f to which a step leads
  abbrev pub call_of : ℕ → Text → Option Called
  call_of f step = option_and_then (λ s. slice_get (calls_of f s.0) s.1) (step_of (slice_split (λ b. b == 35) step))

  -- words choose from node f: the last one says variables, each before it leads to the node of those behind it
  abbrev pub chosen_by : ℕ → Text → List Text → Option (List Chosen)
  chosen_by f word [] = said_by word (node_at p f).variables
  chosen_by f step (word ∷ words) = option_and_then (λ c. option_map (map (under step c.1)) (chosen_by c.0 word words)) (call_of f step)

  abbrev pub chosen_of : ℕ → List Text → Option (List Chosen)
  chosen_of f [] = None
  chosen_of f (word ∷ words) = chosen_by f word words

  -- the variables that a name chooses from node f, if it leads to any: its words have dots between them
  abbrev pub chosen_named : ℕ → Text → Option (List Chosen)
  chosen_named f name = chosen_of f (slice_split (λ b. b == 46) name)
