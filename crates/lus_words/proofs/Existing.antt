-- Where types can be ordered by what they use, each has a layout.
use Rattle.std.proofs.Common.{arith, refl, sym, subst, ℕ, List, [], ◌∷◌, map, flat_map, Contains}
use Rattle.std.proofs.lemmas.List.Elements.{Contains-append_left, Contains-append_right}
use Rattle.std.proofs.Math.ListN.{get_or-map as get_or_any-map}
use Rattle.lus_graph.specs.Ways.{used}
use Rattle.lus_graph.proofs.NoWayBack.{each_holds}
use Rattle.lus_program.specs.declared.types.Kind.{Kind}
use Rattle.lus_program.specs.declared.types.Kind.TheVariants as kinds
use Rattle.lus_program.specs.Kinds.{fields_in, nothing_declared}
use Rattle.lus_program.specs.Programs.{Declared, alias, enumeration, structure, Field, Program}
use Rattle.lus_program.specs.Resolved.{declared_in}
use Rattle.lus_program.specs.Sound.{structures_in, declared_uses, type_uses}
use Rattle.lus_words.specs.Laws.{TypesHaveLayouts}
use Rattle.lus_words.specs.Layouts.{Layout, word, parts, Layouts, done, next, IsLayout, AreLayouts}

module _ (p : Program) where
  abbrev HasLayout : Kind → Type 0
  HasLayout k = (l : Layout) × IsLayout p k l

  -- a type has one where the structure that it is has
  kind_has : (k : Kind) → ((t : ℕ) → Contains (structures_in k) t → HasLayout (kinds.Struct t)) → HasLayout k
  kind_has kinds.Bool h = (word kinds.Bool, refl)
  kind_has kinds.Int h = (word kinds.Int, refl)
  kind_has (kinds.Enum t) h = (word (kinds.Enum t), refl)
  kind_has (kinds.Struct t) h = h t (0, omega arith, refl)

  fields_have : (fs : List Field) → ((t : ℕ) → Contains (flat_map (λ g. structures_in g.kind) fs) t → HasLayout (kinds.Struct t)) → (ls : Layouts) × AreLayouts p (map (λ g. g.kind) fs) ls
  fields_have [] h = (done, tt)
  fields_have (g ∷ fs) h =
      let rest = flat_map (λ (f : Field). structures_in f.kind) fs in
      let first = kind_has g.kind (λ t among. h t (Contains-append_left (structures_in g.kind) rest t among)) in
      let later = fields_have fs (λ t among. h t (Contains-append_right (structures_in g.kind) rest t among)) in
      (next first.0 later.0, (first.1, later.1))

  declared_has : (d : Declared) → ((t : ℕ) → Contains (declared_uses d) t → HasLayout (kinds.Struct t)) → (ls : Layouts) × AreLayouts p (map (λ g. g.kind) (fields_in d)) ls
  declared_has (alias k) h = (done, tt)
  declared_has (enumeration cs) h = (done, tt)
  declared_has (structure fs) h = fields_have fs h

  structure_has : (t : ℕ) → ((s : ℕ) → Contains (used (type_uses p) t) s → HasLayout (kinds.Struct s)) → HasLayout (kinds.Struct t)
  structure_has t h =
      let all = declared_has (declared_in p t) (λ s among. h s (subst (λ us. Contains us s) (sym (get_or_any-map declared_uses p.types t nothing_declared)) among)) in
      (parts all.0, all.1)

pub types_have_layouts : TypesHaveLayouts
types_have_layouts p ordered k = kind_has p k (λ t among. each_holds (type_uses p) (λ s. HasLayout p (kinds.Struct s)) (structure_has p) ordered.0 ordered.1 t)
