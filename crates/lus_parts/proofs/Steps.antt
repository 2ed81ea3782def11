-- One part more.
use Rattle.std.proofs.Common.{◌≡◌, List, [], ◌∷◌, ◌++◌, drop, refl, sym, ap, ◌∙◌, append_assoc}
use Rattle.lus_program.specs.Programs.{Expression, literal, variable, operate, pre, arrow, when, merge, call, Program}
use Rattle.lus_streams.specs.Clocks.{Clock, Part, at, parts}

module _ (p : Program) where
  -- an expression stands before the parts in it
  pub first_part : (e : Expression) (k : Clock) → parts p e k ≡ at k e ∷ drop 1 (parts p e k)
  first_part (literal v) k = refl
  first_part (variable x) k = refl
  first_part (operate o es) k = refl
  first_part (pre a) k = refl
  first_part (arrow a b) k = refl
  first_part (when t a) k = refl
  first_part (merge x bs) k = refl
  first_part (call g c args) k = refl

  pub with_first : (old : List Part) (e : Expression) (k : Clock) → (old ++ at k e ∷ []) ++ drop 1 (parts p e k) ≡ old ++ parts p e k
  with_first old e k = append_assoc old (at k e ∷ []) (drop 1 (parts p e k)) ∙ ap (λ ps. old ++ ps) (sym (first_part e k))
