-- The signals that are selected of a node, by their names, and where their values are picked of its instants.
use Rattle.std.specs.Prelude.{◌≡◌, ◌+◌, ◌++◌, ◌==◌, ℕ, List, [], ◌∷◌, length, map, take, Option, Some, None}
use Rattle.std.specs.List.{slice_split}
use Rattle.lus_program.specs.Programs.{Node, Program, node_at}
use Rattle.lus_values.specs.Names.{Text}
use Rattle.lus_windows.specs.declared.picks.Pick.{Pick}
use Rattle.lus_sketches.specs.Selections.{Selection, formals, named}
use Rattle.lus_sketches.specs.Paths.{Chosen, chosen_named}

-- of the inputs and outputs, in declared order
abbrev pub formal_names : Node → List Text
formal_names f = take (f.inputs + f.outputs) (map (λ v. v.name) f.variables)

-- a way of calls, and a variable
abbrev pub pick_seen : Pick → List ℕ × ℕ
pick_seen k = (k.way.items, k.variable)

-- names choose these from node f, one behind another
abbrev pub Choose : Program → ℕ → List Text → List Chosen → Type 0
Choose p f [] cs = cs ≡ []
Choose p f (name ∷ names) cs = (first rest : List Chosen) × (chosen_named p f name ≡ Some first) × Choose p f names rest × (cs ≡ first ++ rest)

-- of names the one at this place, from 1, is the first that leads nowhere
pub record IsFirstUnknown (p : Program) (f : ℕ) (names : List Text) (place : ℕ) : Type 0 where
  pub before : List Text
  pub name : Text
  pub behind : List Text
  pub stands : names ≡ before ++ name ∷ behind
  pub counted : place ≡ length before + 1
  pub others : List Chosen
  pub known : Choose p f before others
  pub unknown : chosen_named p f name ≡ None

-- a list of names
abbrev pub names_in : Text → List Text
names_in list = slice_split (λ b. b == 44) list

-- The inputs and outputs of node f have the entries' own values. What names choose is picked, under its paths.
abbrev pub AreChosen : Program → ℕ → Selection → List Text → Option (List Pick) → Type 0
AreChosen p f formals names None = names ≡ formal_names (node_at p f)
AreChosen p f (named list) names (Some ks) =
    (cs : List Chosen) × Choose p f (names_in list) cs × (names ≡ map (λ c. c.0) cs) × (map pick_seen ks ≡ map (λ c. c.1) cs)
AreChosen p f _ names _ = ⊥

-- a selection's name at a place is the first that leads nowhere from node f
abbrev pub IsUnknown : Program → ℕ → Selection → ℕ → Type 0
IsUnknown p f formals place = ⊥
IsUnknown p f (named list) place = IsFirstUnknown p f (names_in list) place
