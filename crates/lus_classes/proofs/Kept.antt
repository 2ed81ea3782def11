-- Cells and first-flags that stand for a world stand for it after one more instant: taken from the row where the base is
-- present, left alone where it is absent.
use Rattle.std.proofs.Common.{◌≡◌, Bool, true, false, List, [], ◌∷◌, Option, Some, None, IsSome, refl, sym, ◌∙◌}
use Rattle.std.specs.Option.{unwrap_or}
use Rattle.lus_values.specs.Lists.{Each}
use Rattle.lus_values.specs.Values.{Value, nil, Row}
use Rattle.lus_program.specs.Programs.{Node, Program}
use Rattle.lus_streams.specs.Clocks.{Clock}
use Rattle.lus_streams.specs.Streams.{Instant, instant, Called, World, is_on}
use Rattle.lus_classes.specs.Classes.{Memory, Class}
use Rattle.lus_classes.specs.Steps.{is_on_row, atom_in, cells_after, flags_after}
use Rattle.lus_classes.specs.ClassesOf.{AtomOn}
use Rattle.lus_classes.specs.StandsFor.{never_on, CellsStand, FlagsStand}
use Rattle.lus_classes.proofs.Options.{never, either, either_false}
use Rattle.lus_classes.proofs.Rows.{PresentOnClocks, is_on_row_is, off}
use Rattle.lus_classes.proofs.Codes.{atom_some}

cell_step : (b c : Bool) (a : Option Value) (v : Value) (z : Option Value) → b ≡ c → (c ≡ true → IsSome a) → Some v ≡ z
    → Some (unwrap_or (either b a (Some v)) nil) ≡ either c a z
cell_step true true None v z e s h = absurd (never (s refl))
cell_step true true (Some u) v z e s h = refl
cell_step true false a v z e s h = absurd (never (sym e))
cell_step false true a v z e s h = absurd (never e)
cell_step false false a v z e s h = h

flag_step : (b c n z : Bool) → b ≡ c → n ≡ z → ◌≡◌ {A = Bool} (elim b [ true ↦ false | false ↦ n ]) (elim c [ true ↦ false | false ↦ z ])
flag_step true true n z e h = refl
flag_step true false n z e h = absurd (never (sym e))
flag_step false true n z e h = absurd (never e)
flag_step false false n z e h = h

module _ (p : Program) (f : Node) (c : Class) (past : World) (r : Row) (js : Called) where
  abbrev now : Instant
  now = instant true r js

  pub cells_move : PresentOnClocks f now → (ms : List Memory) (vs : List Value) → Each (λ m. AtomOn p f c m.operand m.clock) ms → CellsStand ms vs past
      → CellsStand ms (cells_after ms vs r) (now ∷ past)
  cells_move presence [] vs on h = tt
  cells_move presence (m ∷ ms) [] on h = absurd h
  cells_move presence (m ∷ ms) (v ∷ vs) on h = (
    cell_step (is_on_row m.clock r) (is_on m.clock now) (atom_in m.operand r) v _ (is_on_row_is m.clock r js) (atom_some p f c r js presence m.operand m.clock on.0) h.0,
    cells_move presence ms vs on.1 h.1,
  )

  pub flags_move : (ks : List Clock) (bs : List Bool) → FlagsStand ks bs past → FlagsStand ks (flags_after ks bs r) (now ∷ past)
  flags_move [] bs h = tt
  flags_move (k ∷ ks) [] h = absurd h
  flags_move (k ∷ ks) (b ∷ bs) h = (flag_step (is_on_row k r) (is_on k now) b (never_on k past) (is_on_row_is k r js) h.0, flags_move ks bs h.1)

  -- an instant whose base is absent
  abbrev quiet : Instant
  quiet = instant false r js

  pub cells_rest : (ms : List Memory) (vs : List Value) → CellsStand ms vs past → CellsStand ms vs (quiet ∷ past)
  cells_rest [] vs h = tt
  cells_rest (m ∷ ms) [] h = absurd h
  cells_rest (m ∷ ms) (v ∷ vs) h = (h.0 ∙ sym (either_false (is_on m.clock quiet) (atom_in m.operand r) _ (off m.clock r js)), cells_rest ms vs h.1)

  flag_rests : (b n : Bool) → b ≡ false → n ≡ elim b [ true ↦ false | false ↦ n ]
  flag_rests true n e = absurd (never (sym e))
  flag_rests false n e = refl

  pub flags_rest : (ks : List Clock) (bs : List Bool) → FlagsStand ks bs past → FlagsStand ks bs (quiet ∷ past)
  flags_rest [] bs h = tt
  flags_rest (k ∷ ks) [] h = absurd h
  flags_rest (k ∷ ks) (b ∷ bs) h = (h.0 ∙ flag_rests (is_on k quiet) (never_on k past) (off k r js), flags_rest ks bs h.1)
