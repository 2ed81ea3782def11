-- The cells of a line, as the reader of records finds them.
use Rattle.std.proofs.Common.{◌≡◌, ◌∙◌, ◌+◌, ◌<◌, ℕ, zero, suc, refl, ap, sym, true, false, List, [], ◌∷◌, ◌++◌, length, take, Option, Some, None, arith}
use Rattle.std.specs.Prelude.{unwrap_or}
use Rattle.csv.specs.Machine.{Read, next_record}
use Rattle.csv.specs.Reading.{Reached, ReadRecord, default_config, source_of, strip_bom}
use Rattle.csv.specs.Records.{field_at}
use Rattle.csv.specs.declared.parser.State.{State}
use Rattle.csv.specs.declared.parser.State.TheVariants.{StartRecord}
use Rattle.csv.specs.declared.reader.Reader.{Reader}
use Rattle.csv.proofs.ReadFacts.{rows-end, rows-more}
use Rattle.lus_play.specs.Plays.{ended}
use Rattle.lus_values.specs.Names.{Text}
use Rattle.lus_records.specs.Records.{cells_by, cells_of}

-- a record is all that was reached
reached_one : (s t : State) (xs ys : Text) (f : List Text) → Reached default_config s xs (f ∷ []) t ys
    → (p : Read) × (next_record default_config s [] [] xs ≡ Some p) × (f ≡ p.0) × (p.1 ≡ t) × (p.2 ≡ ys)
unfolding Reached
reached_one s t xs ys f h = (h.0, h.1, h.2, h.3.0, h.3.1)

-- nothing was reached yet
reached_none : (s t : State) (xs : Text) → s ≡ t → Reached default_config s xs [] t xs
unfolding Reached
reached_none s t xs is = (is, refl)

by_one : (o : Option Read) (p : Read) (f : List Text) (t : State) (ys : Text) → o ≡ Some p → f ≡ p.0 → p.1 ≡ t → p.2 ≡ ys
    → next_record default_config t [] [] ys ≡ None → cells_by o ≡ Some f
by_one o p f t ys is fields state rest none =
    let over : next_record default_config p.1 [] [] p.2 ≡ None = rw (state, rest) none in
    rw (is, over, fields) refl

by_more : (o : Option Read) (p q : Read) (t : State) (ys : Text) → o ≡ Some p → p.1 ≡ t → p.2 ≡ ys
    → next_record default_config t [] [] ys ≡ Some q → cells_by o ≡ None
by_more o p q t ys is state rest some =
    let more : next_record default_config p.1 [] [] p.2 ≡ Some q = rw (state, rest) some in
    rw (is, more) refl

-- a reader of a line, of which nothing was read
module _ {R : Type 0} (rem : R → Option (List ℕ)) (a : Reader R) (line : Text) (config : a.config ≡ default_config) (state : a.state ≡ StartRecord)
    (source : source_of rem a ≡ Some (strip_bom (ended line))) where
  first_of : (b : Reader R) (f : List Text) → ReadRecord rem a b true f
      → (z : Text) × (source_of rem b ≡ Some z) × Reached default_config StartRecord (strip_bom (ended line)) (f ∷ []) b.state z
  first_of b f r =
      rows-more rem a b f default_config StartRecord (strip_bom (ended line)) (strip_bom (ended line)) [] config source (reached_none StartRecord a.state (strip_bom (ended line)) (sym state)) r

  -- it has no record
  pub blank_line : (b : Reader R) (f : List Text) → ReadRecord rem a b false f → cells_of line ≡ Some []
  blank_line b f r = ap cells_by (rw state at (rows-end rem a b f default_config (strip_bom (ended line)) config source r))

  module _ (b c : Reader R) (f g : List Text) (first : ReadRecord rem a b true f) where
    -- it has one
    pub one_record : ReadRecord rem b c false g → cells_of line ≡ Some f
    one_record second =
        let (z, left, reached) = first_of b f first in
        let (p, is, fields, at, rest) = reached_one StartRecord b.state (strip_bom (ended line)) z f reached in
        by_one _ p f b.state z is fields at rest (rows-end rem b c g default_config z (first.2 ∙ config) left second)

    -- it has several
    pub several_records : ReadRecord rem b c true g → cells_of line ≡ None
    several_records second =
        let (z, left, reached) = first_of b f first in
        let (p, is, fields, at, rest) = reached_one StartRecord b.state (strip_bom (ended line)) z f reached in
        let more = rows-more rem b c g default_config b.state z z [] (first.2 ∙ config) left (reached_none b.state b.state z refl) second in
        let next = reached_one b.state c.state z more.0 g more.2 in
        by_more _ p next.0 b.state z is at rest next.1

-- the cells up to a place, and the one that is there
pub more_cells : (cells : List Text) (i : ℕ) → i < length cells → take (i + 1) cells ≡ take i cells ++ unwrap_or (field_at cells i) [] ∷ []
unfolding field_at
more_cells [] i within = absurd (omega arith)
more_cells (c ∷ cells) zero within = refl
more_cells (c ∷ cells) (suc i) within =
    let step : suc i + 1 ≡ suc (i + 1) = omega arith in
    rw step (ap (λ rest. c ∷ rest) (more_cells cells i (omega arith)))
