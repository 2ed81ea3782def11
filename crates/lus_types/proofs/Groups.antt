-- Groups of variables, one part of a node's after the other.
use Rattle.std.proofs.Common.{arith, ◌≡◌, ◌∙◌, ap, ◌+◌, List, ◌++◌, Bool, true, ◌&&◌, length, map, flat_map, length-append}
use Rattle.std.specs.List.{list_all}
use Rattle.std.proofs.lemmas.List.{length-map}
use Rattle.std.proofs.lemmas.List.Folds.{list_all-append}
use Rattle.lus_syntax.specs.Trees.{Group}
use Rattle.lus_program.specs.declared.node.Variable.{Variable}
use Rattle.lus_program.specs.View.{variable_of}
use Rattle.lus_source.specs.Scopes.{Scope}
use Rattle.lus_source.specs.Sized.{variable_count}
use Rattle.lus_types.specs.ByScope.{variable_in, variables_in}
use Rattle.lus_source.proofs.Placing.{length-for_each}

pub length-grown : (s : Scope) (old new : List Variable) (gs : List Group) → map variable_of new ≡ map variable_of old ++ flat_map (variables_in s) gs → length new ≡ length old + variable_count gs
length-grown s old new gs e =
    omega (arith, length-map new variable_of, ap length e, length-append (map variable_of old) (flat_map (variables_in s) gs), length-map old variable_of, length-for_each (variable_in s) gs)

pub all_hold-last : (P : Group → Bool) (a b c : List Group) → list_all P a ≡ true → list_all P b ≡ true → list_all P (a ++ (b ++ c)) ≡ list_all P c
all_hold-last P a b c first second =
    list_all-append P a (b ++ c) ∙ ap (λ r. r && list_all P (b ++ c)) first ∙ list_all-append P b c ∙ ap (λ r. r && list_all P c) second
