-- Definitions of variables and what calls pass, from the values of parts.
use Rattle.std.proofs.Common.{◌≡◌, length, ℕ, suc, List, [], ◌∷◌, ◌++◌, drop, take, map, Some, None, refl, sym, ap, ap₂, ◌∙◌, subst, append-nil}
use Rattle.std.proofs.Math.Seq.{take-append_seam}
use Rattle.lus_values.specs.Lists.{item}
use Rattle.lus_values.specs.Values.{Row}
use Rattle.lus_program.specs.Parts.{parts as count, parts_all as all_count}
use Rattle.lus_program.specs.Programs.{Expression, literal, variable, operate, pre, arrow, when, merge, call, Operands, none, more, numbered, all_numbered, Node, Program}
use Rattle.lus_streams.specs.Clocks.{Clock, Part, at, formal_clock, parts, all_parts}
use Rattle.lus_streams.specs.Equations.{given_by}
use Rattle.lus_streams.specs.Streams.{Instant, World, is_present, row_of, where_on, value, output, inputs_given, definition_value}
use Rattle.lus_parts.proofs.Nested.{parts_nested, all_parts_nested}
use Rattle.lus_parts.specs.Nested.{AreNested}
use Rattle.lus_reference.specs.Given.{callee, passed}
use Rattle.lus_reference.specs.Kept.{AreRowsFrom, Keeps}
use Rattle.lus_reference.specs.Made.{AreValues, roots, value_in}
use Rattle.lus_reference.proofs.Made.{all_at, all_counted, all_roots, counted, keeps_left, keeps_past, roots_at}
use Rattle.lus_reference.proofs.Parts.{on_is}

module _ (p : Program) (now : Instant) (past : World) where
  -- what a right side gives: of a call its output, else its value
  pub called_is : (e : Expression) (g n t : ℕ) (xs : List ℕ) (k : Clock) → callee e ≡ Some g → output p g n t now ≡ definition_value p (Some (given_by (numbered n e) t xs k)) now past
  called_is (call h c args) g n t xs k e = let same : g ≡ h = cc in ap (λ d. output p d n t now) same
  called_is (literal v) g n t xs k e = absurd (cc)
  called_is (variable x) g n t xs k e = absurd (cc)
  called_is (operate o es) g n t xs k e = absurd (cc)
  called_is (pre a) g n t xs k e = absurd (cc)
  called_is (arrow a b) g n t xs k e = absurd (cc)
  called_is (when c a) g n t xs k e = absurd (cc)
  called_is (merge x bs) g n t xs k e = absurd (cc)

  pub other_is : (e : Expression) (n t : ℕ) (xs : List ℕ) (k : Clock) → callee e ≡ None → value p (numbered n e) k now past ≡ definition_value p (Some (given_by (numbered n e) t xs k)) now past
  other_is (call h c args) n t xs k e = absurd (cc)
  other_is (literal v) n t xs k e = refl
  other_is (variable x) n t xs k e = refl
  other_is (operate o es) n t xs k e = refl
  other_is (pre a) n t xs k e = refl
  other_is (arrow a b) n t xs k e = refl
  other_is (when c a) n t xs k e = refl
  other_is (merge x bs) n t xs k e = refl

  -- values of the outermost of so many parts, which stand at a place
  values_are : (rows : List Row) (own : List Part) → AreNested p (own ++ []) → (c : ℕ) → length own ≡ c → (es : List Part) (m : ℕ) (kept vs : Row) (rest : List Part) → drop m es ≡ own ++ rest
      → AreRowsFrom now 0 rows → Keeps p past es kept → AreValues p (row_of now) rows (take c (drop m es)) (drop m kept) vs → vs ≡ map (value_in p now past) (roots own)
  values_are rows own nested c long es m kept vs rest there called keeps h =
      let taken : take c (drop m es) ≡ own = ap₂ take (sym long) there ∙ take-append_seam own rest in
      let kept_own : Keeps p past own (drop m kept) = keeps_left p past own rest (drop m kept) (subst (λ l. Keeps p past l (drop m kept)) there (keeps_past p past m es kept keeps)) in
      subst (λ l. AreValues p (row_of now) rows l (drop m kept) vs) taken h now past refl called kept_own (subst (AreNested p) (append-nil own) nested)

  -- the value of an expression, whose parts stand at a place
  pub value_at_is : (rows : List Row) (e : Expression) (n : ℕ) (k : Clock) (es : List Part) (m : ℕ) (kept vs : Row) (rest : List Part) → drop m es ≡ parts p (numbered n e) k ++ rest
      → AreRowsFrom now 0 rows → Keeps p past es kept → AreValues p (row_of now) rows (take (count e) (drop m es)) (drop m kept) vs → item None vs 0 ≡ value p (numbered n e) k now past
  value_at_is rows e n k es m kept vs rest there called keeps h =
      let own = parts p (numbered n e) k in
      let first : roots own ≡ at k (numbered n e) ∷ [] = ap roots (sym (append-nil own)) ∙ roots_at p (numbered n e) k [] in
      ap (λ l. item None l 0) (values_are rows own (parts_nested p (numbered n e) k [] tt) (count e) (counted p e n k) es m kept vs rest there called keeps h ∙ ap (map (value_in p now past)) first)

  -- values of the arguments of a call, whose parts stand at a place
  pub arguments_are : (rows : List Row) (args : Operands) (n : ℕ) (ks : ℕ → Clock) (es : List Part) (m : ℕ) (kept vs : Row) (rest : List Part) → drop m es ≡ all_parts p (all_numbered n args) ks 0 ++ rest
      → AreRowsFrom now 0 rows → Keeps p past es kept → AreValues p (row_of now) rows (take (all_count args) (drop m es)) (drop m kept) vs → vs ≡ map (value_in p now past) (all_at (all_numbered n args) ks 0)
  arguments_are rows args n ks es m kept vs rest there called keeps h =
      let xs = all_numbered n args in
      let first : roots (all_parts p xs ks 0) ≡ all_at xs ks 0 = ap roots (sym (append-nil (all_parts p xs ks 0))) ∙ all_roots p xs ks 0 [] ∙ append-nil (all_at xs ks 0) in
      values_are rows (all_parts p xs ks 0) (all_parts_nested p xs ks 0 [] tt) (all_count args) (all_counted p args n ks 0) es m kept vs rest there called keeps h ∙ ap (map (value_in p now past)) first

  pub passed_are : (es : Operands) (g : Node) (args : Operands) (base : Clock) (m : ℕ)
      → passed (is_present now) (row_of now) (formal_clock g args base) m (map (value_in p now past) (all_at es (formal_clock g args base) m)) ≡ inputs_given p es g args base m now past
  passed_are none g args base m = refl
  passed_are (more e es) g args base m =
      let k = formal_clock g args base m in
      ap₂ ◌∷◌ (ap (λ b. where_on b (value p e k now past)) (sym (on_is k now))) (passed_are es g args base (suc m))
