-- What calls pass, and what is kept of their arguments.
use Rattle.std.specs.Prelude.{◌≡◌, ◌++◌, ℕ, suc, Bool, List, drop}
use Rattle.lus_values.specs.Values.{Row}
use Rattle.lus_program.specs.Programs.{Operands, all_numbered, Program, node_at}
use Rattle.lus_streams.specs.Clocks.{Part, base_of, formal_clock, all_parts}
use Rattle.lus_streams.specs.Streams.{Instant, World, is_present, row_of, is_on, inputs_given}
use Rattle.lus_parts.specs.declared.part.Part.{Part as StoredPart}
use Rattle.lus_reference.specs.Kept.{AreRowsFrom, Keeps}

-- the arguments of the call at this part stand from place m on among these parts, of which this is kept
abbrev pub KeepsArguments : Program → StoredPart → ℕ → Operands → List Part → ℕ → (kept : Row) → World → Type 0
KeepsArguments p q g es all m kept past =
    let args = all_numbered (suc q.number) es in
    ((rest : List Part) × (drop m all ≡ all_parts p args (formal_clock (node_at p g) args (base_of (node_at p g) q.clock.items)) 0 ++ rest)) × Keeps p past all kept

-- the call at this part passes these inputs, and its base is on or not
abbrev pub PassesAt : Program → Bool → (row : Row) → List Row → StoredPart → ℕ → Operands → List Part → ℕ → (kept : Row) → Bool → (inputs : Row) → Type 0
PassesAt p present row rows q g es all m kept on inputs =
    (now : Instant) (past : World) → is_present now ≡ present → row_of now ≡ row → AreRowsFrom now 0 rows → KeepsArguments p q g es all m kept past
    → (let base = base_of (node_at p g) q.clock.items in
    let args = all_numbered (suc q.number) es in
    (on ≡ is_on base now) × (inputs ≡ inputs_given p args (node_at p g) args base 0 now past))
