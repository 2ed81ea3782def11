-- A lawful history, and the node of a name.
use Rattle.std.proofs.Common.{◌≡◌, ◌+◌, ◌<◌, ℕ, Bool, true, false, cond, refl, subst, List, [], ◌∷◌, length, Option, Some, None, arith}
use Rattle.std.specs.List.{position_from}
use Rattle.lus_values.specs.Names.{Text}
use Rattle.lus_program.specs.Programs.{Node, Program}
use Rattle.lus_machine.specs.Formals.{node_named}
use Rattle.lus_machine.specs.HistorySpecs.Histories.{History}
use Rattle.lus_machine.specs.Machines.{Told}
use Rattle.std.specs.Str.{bytes_eq}
use Rattle.lus_live_instance.specs.Lives.{IsLive}

pub lawful_of : (p : Program) (f : ℕ) (m : Told) → IsLive p f m → History p f m.history
lawful_of p f m live =
    subst (λ n. History p n m.history) live.node (subst (λ q. History q m.node m.history) live.program live.lawful.legal)

abbrev Within : ℕ → ℕ → Option ℕ → Type 0
Within k n None = Unit {0}
Within k n (Some place) = place < k + n

within_if : (b : Bool) (k n : ℕ) (rest : Option ℕ) → Within (k + 1) n rest → Within k (n + 1) (cond b (Some k) rest)
within_if true k n rest less = omega arith
within_if false k n None less = tt
within_if false k n (Some place) less = omega (arith, less)

position_within : (test : Node → Bool) (k : ℕ) (fs : List Node) → Within k (length fs) (position_from test k fs)
position_within test k [] = tt
position_within test k (f ∷ fs) =
    let more : length fs + 1 ≡ length (f ∷ fs) = omega arith in
    subst (λ n. Within k n (position_from test k (f ∷ fs))) more
    (within_if (test f) k (length fs) (position_from test (k + 1) fs) (position_within test (k + 1) fs))

-- the node of a name is one of the program's
pub named_within : (p : Program) (name : Text) (f : ℕ) → node_named p name ≡ Some f → f < length p.nodes
named_within p name f is =
    let within : Within 0 (length p.nodes) (Some f) = subst (Within 0 (length p.nodes)) is (position_within (λ g. bytes_eq g.name name) 0 p.nodes) in
    omega (arith, within)
