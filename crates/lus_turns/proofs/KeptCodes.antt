-- The codes of a class that belongs to a node keep to its memories and first-flags.
use Rattle.std.proofs.Common.{ℕ, suc, List, length, Option, Some, None, sym, subst, ⊎_elim}
use Rattle.std.proofs.lemmas.Option.{slice_get_within}
use Rattle.lus_values.specs.Lists.{Each}
use Rattle.lus_program.specs.Programs.{Expression, literal, variable, operate, pre, arrow, when, merge, Operands, none, more, Node, Program}
use Rattle.lus_streams.specs.Clocks.{Clock, branch_clock}
use Rattle.lus_streams.specs.Equations.{Definition, given_by, definition_of}
use Rattle.lus_streams.proofs.Lists.{each_implies}
use Rattle.lus_classes.specs.Classes.{Atom, constant, named, Code, fixed, fetch, compute, recall, choose, select, Codes, no_code, also_code, Class, Step}
use Rattle.lus_classes.specs.ClassesOf.{AreCodes, IsCode, IsSource, IsStep, atom_code}
use Rattle.lus_translation.specs.Flattened.{AllKeepTo, KeepsTo, StepsKeepTo}

module _ (p : Program) (f : Node) (c : Class) where
  abbrev Keeps : Code → Type 0
  Keeps d = KeepsTo (length c.memories) (length c.firsts) d

  atom_keeps : (a : Atom) → Keeps (atom_code a)
  atom_keeps (constant v) = tt
  atom_keeps (named x) = tt

  mutual
    code_keeps : (e : Expression) (d : Code) (k : Clock) → IsCode p f c e d k → Keeps d
    code_keeps (literal v) (fixed u) k h = tt
    code_keeps (variable x) (fetch y) k h = tt
    code_keeps (operate o es) (compute u ds) k h = codes_keep es ds (λ m. k) 0 h.1
    code_keeps (pre a) (recall j) k h = slice_get_within c.memories j (record { clock = k; operand = h.atom }) h.here
    code_keeps (arrow a b) (choose j d later) k h = (slice_get_within c.firsts j k h.0, code_keeps a d k h.1, code_keeps b later k h.2)
    code_keeps (when t a) d k h = subst Keeps (sym h.code) (atom_keeps h.atom)
    code_keeps (merge x bs) (select y ds) k h = codes_keep bs ds (branch_clock x k) 0 h.1
    code_keeps e d k h = absurd h

    codes_keep : (es : Operands) (ds : Codes) (ks : ℕ → Clock) (m : ℕ) → AreCodes p f c es ds ks m → AllKeepTo (length c.memories) (length c.firsts) ds
    codes_keep none no_code ks m h = tt
    codes_keep none (also_code d ds) ks m h = absurd h
    codes_keep (more e es) no_code ks m h = tt
    codes_keep (more e es) (also_code d ds) ks m h = (code_keeps e d (ks m) h.0, codes_keep es ds ks (suc m) h.1)

  source_keeps : (x : ℕ) (o : Option Definition) (d : Code) → IsSource p f c x o d → Keeps d
  source_keeps x None d h = absurd h
  source_keeps x (Some (given_by e m xs k)) d h = ⊎_elim (λ is. subst Keeps (sym is.code) tt) (λ is. code_keeps e d k is.1) h

  pub steps_keep : (ss : List Step) → Each (IsStep p f c) ss → StepsKeepTo (length c.memories) (length c.firsts) ss
  steps_keep ss h = each_implies (IsStep p f c) (λ s. Keeps s.code) (λ s is. source_keeps s.target (definition_of f s.target) s.code is.source) ss h
