-- The leaves of declared types are one table, and where structures have fields each type has a leaf.
use Rattle.std.proofs.Common.{◌≡◌, ◌∙◌, refl, sym, subst, arith, ℕ, ◌≤◌, List, [], ◌∷◌, length, flat_map, sum_by, Contains, ⊎_elim}
use Rattle.std.proofs.lemmas.Bool.{cases_lt}
use Rattle.std.proofs.lemmas.List.{get_or_past}
use Rattle.std.proofs.lemmas.List.Elements.{Contains-append_left, Contains-append_right}
use Rattle.std.proofs.lemmas.List.Sums.{sum_by-cons}
use Rattle.std.proofs.Math.ListN.{get_or-map as get_or_any-map}
use Rattle.lus_values.specs.Lists.{item}
use Rattle.lus_values.proofs.Lists.{each_at}
use Rattle.lus_graph.specs.Ways.{used, IsOrder}
use Rattle.lus_graph.proofs.NoWayBack.{each_holds}
use Rattle.lus_program.specs.declared.types.Kind.{Kind}
use Rattle.lus_program.specs.declared.types.Kind.TheVariants as kinds
use Rattle.lus_program.specs.Programs.{Declared, alias, enumeration, structure, Field, Program}
use Rattle.lus_program.specs.Kinds.{nothing_declared}
use Rattle.lus_program.specs.Resolved.{declared_in}
use Rattle.lus_program.specs.Sound.{HasFields, HaveFields, structures_in, declared_uses, type_uses}
use Rattle.lus_program.specs.Leaves.{kind_leaves, declared_leaves, AreLeaves, HaveLeaves, AreTheLeaves}

-- what two tables have alike
module _ (at at' : ℕ → ℕ) where
  abbrev AreAlike : List ℕ → Type 0
  AreAlike ts = (t : ℕ) → Contains ts t → at t ≡ at' t

  kind_alike : (k : Kind) → AreAlike (structures_in k) → kind_leaves at k ≡ kind_leaves at' k
  kind_alike (kinds.Struct t) h = h t (0, omega arith, refl)
  kind_alike k h = refl

  fields_alike : (fs : List Field) → AreAlike (flat_map (λ g. structures_in g.kind) fs) → sum_by (λ g. kind_leaves at g.kind) fs ≡ sum_by (λ g. kind_leaves at' g.kind) fs
  fields_alike [] h = refl
  fields_alike (g ∷ fs) h =
      let rest = flat_map (λ f. structures_in f.kind) fs in
      let first = kind_alike g.kind (λ t among. h t (Contains-append_left (structures_in g.kind) rest t among)) in
      let later = fields_alike fs (λ t among. h t (Contains-append_right (structures_in g.kind) rest t among)) in
      sum_by-cons (λ (f : Field). kind_leaves at f.kind) g fs ∙ rw (first, later) (sym (sum_by-cons (λ (f : Field). kind_leaves at' f.kind) g fs))

  pub declared_alike : (d : Declared) → AreAlike (declared_uses d) → declared_leaves at d ≡ declared_leaves at' d
  declared_alike (alias k) h = kind_alike k h
  declared_alike (enumeration cs) h = refl
  declared_alike (structure fs) h = fields_alike fs h

-- where the structures that are named have leaves
module _ (at : ℕ → ℕ) where
  kind_some : (k : Kind) → ((t : ℕ) → Contains (structures_in k) t → 1 ≤ at t) → 1 ≤ kind_leaves at k
  kind_some (kinds.Struct t) h = h t (0, omega arith, refl)
  kind_some k h = omega arith

  declared_some : (d : Declared) → HasFields d → ((t : ℕ) → Contains (declared_uses d) t → 1 ≤ at t) → 1 ≤ declared_leaves at d
  declared_some (alias k) fields h = kind_some k h
  declared_some (enumeration cs) fields h = omega arith
  declared_some (structure []) fields h = absurd (omega (arith, fields))
  declared_some (structure (g ∷ gs)) fields h =
      let one = kind_some g.kind (λ t among. h t (Contains-append_left (structures_in g.kind) (flat_map (λ f. structures_in f.kind) gs) t among)) in
      let sum = sum_by-cons (λ (f : Field). kind_leaves at f.kind) g gs in
      omega (arith, one, sum)

module _ (p : Program) (order : List ℕ) (o : IsOrder (type_uses p) order) where
  used_types : (t s : ℕ) → Contains (declared_uses (declared_in p t)) s → Contains (used (type_uses p) t) s
  used_types t s among = subst (λ us. Contains us s) (sym (get_or_any-map declared_uses p.types t nothing_declared)) among

  same_leaves : (at at' : ℕ → ℕ) → AreLeaves p at → AreLeaves p at' → (t : ℕ) → at t ≡ at' t
  same_leaves at at' are are' = each_holds (type_uses p) (λ t. at t ≡ at' t) (λ t h. are t ∙ declared_alike at at' (declared_in p t) (λ s among. h s (used_types t s among)) ∙ sym (are' t)) order o

  fields_at : HaveFields p → (t : ℕ) → HasFields (declared_in p t)
  fields_at have t = ⊎_elim
      (λ lt. each_at HasFields p.types t nothing_declared lt have)
      (λ le. subst HasFields (sym (get_or_past p.types t nothing_declared le)) tt)
      (cases_lt t (length p.types))

  have_leaves : HaveFields p → HaveLeaves p
  have_leaves have at are = each_holds (type_uses p) (λ t. 1 ≤ at t) (λ t h. let some = declared_some at (declared_in p t) (fields_at have t) (λ s among. h s (used_types t s among)) in omega (arith, some, are t)) order o

  pub the_leaves : (table : List ℕ) → HaveFields p → AreLeaves p (item 1 table) → AreTheLeaves p table
  the_leaves table have are = record {
    are = are;
    only = λ at others. λ i. λ t. same_leaves (item 1 table) at are others t i;
    some = have_leaves have;
  }
