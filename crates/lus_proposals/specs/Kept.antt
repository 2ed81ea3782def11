-- Which words a proposal keeps of its source, where its rule leaves out some and puts in others.
use Rattle.std.specs.Prelude.{◌+◌, ◌==◌, Bool, true, false, ◌||◌, ◌&&◌, cond, List, [], ◌∷◌}
use Rattle.std.specs.Str.{bytes_eq}
use Rattle.lus_proposals.specs.Words.{Word, is_among, marks, times}

-- the words that mean something and that the rule isn't about
abbrev pub kept : List Word → List Word → List Word → List Word
kept drops adds [] = []
kept drops adds (w ∷ ws) =
    cond (is_among w marks || is_among w drops || is_among w adds) (kept drops adds ws) (w ∷ kept drops adds ws)

-- the same words, one by one
abbrev pub are_same : List Word → List Word → Bool
are_same [] [] = true
are_same (v ∷ vs) (w ∷ ws) = bytes_eq v w && are_same vs ws
are_same [] (w ∷ ws) = false
are_same (v ∷ vs) [] = false

-- a word stands as often in the proposal as in the source, with those that are put in and without those that are left out
abbrev pub is_balanced : List Word → List Word → List Word → List Word → Word → Bool
is_balanced source proposal drops adds w = times w source + times w adds == times w proposal + times w drops

-- each of some words does so that means something
abbrev pub are_balanced : List Word → List Word → List Word → List Word → List Word → Bool
are_balanced source proposal drops adds [] = true
are_balanced source proposal drops adds (w ∷ ws) =
    (is_among w marks || is_balanced source proposal drops adds w) && are_balanced source proposal drops adds ws

-- the words of the source in their order, but for those of the rule, which are as many fewer or more as it says
abbrev pub keeps : List Word → List Word → List Word → List Word → Bool
keeps source proposal drops adds =
    are_same (kept drops adds source) (kept drops adds proposal)
    && are_balanced source proposal drops adds drops && are_balanced source proposal drops adds adds

-- the words of the source in any order, each as often as the rule says
abbrev pub rearranges : List Word → List Word → List Word → List Word → Bool
rearranges source proposal drops adds =
    are_balanced source proposal drops adds source && are_balanced source proposal drops adds proposal
    && are_balanced source proposal drops adds drops && are_balanced source proposal drops adds adds
