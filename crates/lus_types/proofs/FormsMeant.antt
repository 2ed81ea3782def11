-- What holds of nil and of each form of the program holds of what the forms of a text mean.
use Rattle.std.proofs.Common.{◌≡◌, ◌∙◌, refl, sym, ap, ℕ, suc, Bool, true, false, cond, List, [], ◌∷◌, length, map, Option, Some, None}
use Rattle.std.proofs.Math.ListN.{length-map}
use Rattle.std.specs.Prelude.{option_map, unwrap_or}
use Rattle.std.specs.Option.{option_and_then}
use Rattle.lus_syntax.specs.Lexemes.{Text}
use Rattle.lus_syntax.specs.Trees as tree
use Rattle.lus_syntax.specs.Trees.{Parts, End, More}
use Rattle.lus_values.specs.declared.operator.Operator.TheVariants as operators
use Rattle.lus_values.specs.Values.{Value, nil}
use Rattle.lus_values.specs.declared.test.Test.{Test}
use Rattle.lus_program.specs.declared.types.Kind.{Kind}
use Rattle.lus_program.specs.declared.types.Kind.TheVariants as kinds
use Rattle.lus_program.specs.Programs.{Expression, literal, variable, operate, when, merge, call, Operands}
use Rattle.lus_program.specs.Kinds.{where_true}
use Rattle.lus_source.specs.declared.entries.Placed.{Placed}
use Rattle.lus_source.specs.Scopes.{Scope, Signature, entry}
use Rattle.lus_source.specs.Labels.{each_once, name_value, size_of, fields_of, field_named, branch_place, branch_places, field_asked, fields_asked, test_placed}
use Rattle.lus_source.specs.Meaning.{where_found, one, are_arguments, in_order, arranged, name_meant, call_meant, field_meant, branches_meant, merge_meant, structure_of, structure_meant, all_meant}
use Rattle.lus_types.proofs.Ordered.{operand_count}

-- one more is found than behind it
one_more : {X : Type 0} (o : Option X) (os : Option (List X)) (xs : List X) (n : ℕ) → ((ys : List X) → os ≡ Some ys → n ≡ length ys) → option_and_then (λ x. option_map (λ ys. x ∷ ys) os) o ≡ Some xs → suc n ≡ length xs
one_more None os xs n rest h = cc
one_more (Some x) None xs n rest h = cc
one_more (Some x) (Some ys) xs n rest h = let is : x ∷ ys ≡ xs = cc in ap (λ m. suc m) (rest ys refl) ∙ ap length is

module _ (s : Scope) where
  places_long : (k : Kind) (bs : Parts) (ns : List ℕ) → branch_places s k bs ≡ Some ns → operand_count (all_meant s bs) ≡ length ns
  places_long k End ns h = let is : [] ≡ ns = cc in ap length is
  places_long k (More l e bs) ns h = one_more (branch_place s k l) (branch_places s k bs) ns (operand_count (all_meant s bs)) (places_long k bs) h

  fields_long : (k : Kind) (fs : Parts) (xs : List Placed) → fields_asked s k fs ≡ Some xs → operand_count (all_meant s fs) ≡ length xs
  fields_long k End xs h = let is : [] ≡ xs = cc in ap length is
  fields_long k (More l e fs) xs h = one_more (field_asked s k l) (fields_asked s k fs) xs (operand_count (all_meant s fs)) (fields_long k fs) h

  module _ (Q : Expression → Type 0) (nothing : Q (literal nil)) where
    pub where_holds : (b : Bool) (e : Expression) → Q e → Q (cond b e (literal nil))
    where_holds true e h = h
    where_holds false e h = nothing

    found_holds : {X : Type 0} (o : Option X) (means : X → Expression) → ((x : X) → o ≡ Some x → Q (means x)) → Q (where_found o means)
    found_holds None means h = nothing
    found_holds (Some x) means h = h x refl

    name_or : (v : Value) (o : Option Placed) → ((x : ℕ) → Q (variable x)) → Q (literal v) → Q (elim o [ Some x ↦ variable x.place | None ↦ literal v ])
    name_or v None h k = k
    name_or v (Some x) h k = h x.place

    pub name_holds : (n : Text) → ((x : ℕ) → Q (variable x)) → ((v : Value) → Q (literal v)) → Q (name_meant s n)
    name_holds n h k = name_or (unwrap_or (name_value s n) nil) (entry s.variables n) h (k (unwrap_or (name_value s n) nil))

    pub call_holds : (f : Text) (ps : Parts) (es : Operands) → ((g : Signature) → entry s.nodes f ≡ Some g → Q (call g.place 0 es)) → Q (call_meant s f ps es)
    call_holds f ps es h = found_holds (entry s.nodes f) (λ g. cond (are_arguments ps) (call g.place 0 es) (literal nil)) (λ g is. where_holds (are_arguments ps) (call g.place 0 es) (h g is))

    pub field_holds : (k : Option Kind) (x : Text) (a : Expression) → ((n : ℕ) → Q (operate (operators.Field n) (one a))) → Q (field_meant s k x a)
    field_holds k x a h = found_holds (option_and_then (λ l. field_named (fields_of s l) x) k) (λ f. operate (operators.Field f.place) (one a)) (λ f is. h f.place)

    pub when_holds : (t : tree.Test) (a : Expression) → ((u : Test) → Q (when u a)) → Q (where_found (test_placed s t) (λ u. when u a))
    when_holds t a h = found_holds (test_placed s t) (λ u. when u a) (λ u is. h u)

    -- of parts that have as many numbers beside them, each once, put in order
    abbrev InOrder : Parts → (Operands → Expression) → Type 0
    InOrder ps means = (n : ℕ) (ns : List ℕ) → operand_count (all_meant s ps) ≡ length ns → each_once n ns ≡ true → Q (means (in_order n ns (all_meant s ps)))

    module _ (ps : Parts) (means : Operands → Expression) (h : InOrder ps means) where
      once_or : (n : ℕ) (ns : List ℕ) (b : Bool) → each_once n ns ≡ b → operand_count (all_meant s ps) ≡ length ns → Q (where_found (where_true b (Some (in_order n ns (all_meant s ps)))) means)
      once_or n ns true once long = h n ns long once
      once_or n ns false once long = nothing

      branches_or : (k : Kind) (o : Option (List ℕ)) → branch_places s k ps ≡ o → Q (where_found (option_and_then (arranged (size_of s k) (all_meant s ps)) o) means)
      branches_or k None is = nothing
      branches_or k (Some ns) is = once_or (size_of s k) ns (each_once (size_of s k) ns) refl (places_long k ps ns is)

      fields_or : (k : Kind) (o : Option (List Placed)) → fields_asked s k ps ≡ o → Q (where_found (option_and_then (λ xs. arranged (length (fields_of s k)) (all_meant s ps) (map (λ x. x.place) xs)) o) means)
      fields_or k None is = nothing
      fields_or k (Some xs) is =
          let ns = map (λ (x : Placed). x.place) xs in
          once_or (length (fields_of s k)) ns (each_once (length (fields_of s k)) ns) refl (fields_long k ps xs is ∙ sym (length-map xs (λ x. x.place)))

    pub merge_holds : (c : Text) (bs : Parts) → ((x : ℕ) → InOrder bs (merge x)) → Q (merge_meant s c bs (all_meant s bs))
    merge_holds c bs h =
        found_holds (entry s.variables c) (λ x. where_found (branches_meant s x.kind bs (all_meant s bs)) (merge x.place))
        (λ x is. branches_or bs (merge x.place) (h x.place) x.kind (branch_places s x.kind bs) refl)

    structure_or : (k : Kind) (fs : Parts) → ((t : ℕ) → InOrder fs (operate (operators.Structure t))) → Q (structure_of s k fs (all_meant s fs))
    structure_or (kinds.Struct t) fs h = fields_or fs (operate (operators.Structure t)) (h t) (kinds.Struct t) (fields_asked s (kinds.Struct t) fs) refl
    structure_or k fs h = nothing

    pub structure_holds : (t : Text) (fs : Parts) → ((t : ℕ) → InOrder fs (operate (operators.Structure t))) → Q (structure_meant s t fs (all_meant s fs))
    structure_holds t fs h = found_holds (entry s.types t) (λ k. structure_of s k fs (all_meant s fs)) (λ k is. structure_or k fs h)
