-- Names on the left sides of a well-formed node are its outputs and locals, and have their places.
use Rattle.std.proofs.Common.{arith, ◌≡◌, ◌∙◌, refl, sym, ap, ap₂, subst, ℕ, suc, ◌+◌, ◌<◌, nat_eq, nat_lt, Bool, true, false, not, ◌||◌, cond, List, [], ◌∷◌, ◌++◌, length, map, Option, Some, None}
use Rattle.std.proofs.Math.ListN.{length-map}
use Rattle.std.proofs.lemmas.Bool.{and_parts, eqb-true, eq-eqb, or_right}
use Rattle.std.proofs.lemmas.Grind.{flat_map-append}
use Rattle.std.proofs.lemmas.List.{map-append}
use Rattle.std.proofs.lemmas.Simd.{map-map}
use Rattle.std.proofs.lemmas.Option.{slice_get_within, slice_get-get_or}
use Rattle.std.specs.Bool.{one_answer}
use Rattle.std.specs.Prelude.{flat_map, slice_get}
use Rattle.std.specs.List.{list_all}
use Rattle.std.specs.Str.{bytes_eq}
use Rattle.lus_values.specs.Lists.{item, Each}
use Rattle.lus_syntax.specs.Lexemes.{Text}
use Rattle.lus_syntax.specs.Trees as tree
use Rattle.lus_syntax.specs.Trees.{Tree}
use Rattle.lus_program.specs.declared.types.Kind.{Kind}
use Rattle.lus_program.specs.Programs.{Equation, Node, calls}
use Rattle.lus_source.specs.declared.entries.Placed.{Placed}
use Rattle.lus_source.specs.Scopes.{Scope, entry}
use Rattle.lus_source.specs.Tables.{text_of, group_kinds, groups, kind_named, placed_from, scope}
use Rattle.lus_source.specs.Named.{is_in, known, names_in, defined_names, left_names, NodeNamed}
use Rattle.lus_source.specs.Meaning.{variable_place, meant, equations_meant, node_meant}
use Rattle.lus_source.proofs.AppendedNames.{is_in-append}
use Rattle.lus_program.specs.Kinds.{count}
use Rattle.lus_program.specs.Resolved.{targets_of, IsDefined}
use Rattle.lus_source.proofs.Placing.{names-kinds_by, length-for_each}
use Rattle.lus_types.proofs.Scoped.{variable_meant}
use Rattle.lus_types.proofs.Places.{same_text, text_same, all_in, AreApart, are_apart, one_place, among_last, count_apart}

-- a known name stands at the place of its entry, those before it being n

abbrev place_of : Option Placed → ℕ
place_of o = elim o [ Some x ↦ x.place | None ↦ 0 ]

record IsAt (n : ℕ) (ns : List Text) (t : Text) (place : ℕ) : Type 0 where
  pub index : ℕ
  pub is : place ≡ n + index
  pub here : slice_get ns index ≡ Some t

abbrev names_of : List (Text × Kind) → List Text
names_of xs = map (λ e. e.0) xs

at_or : (n : ℕ) (x : Text × Kind) (xs : List (Text × Kind)) (t : Text) (b : Bool) → bytes_eq t x.0 ≡ b → (is_in (names_of xs) t ≡ true → IsAt (suc n) (names_of xs) t (place_of (entry (placed_from (suc n) xs) t)))
    → (b || is_in (names_of xs) t) ≡ true → IsAt n (names_of (x ∷ xs)) t (place_of (cond b (Some (record { place = n; kind = x.1 })) (entry (placed_from (suc n) xs) t)))
at_or n x xs t true same rest h = record { index = 0; is = omega arith; here = ap Some (sym (same_text t x.0 same)) }
at_or n x xs t false same rest h = let r = rest h in record { index = suc r.index; is = let next = r.is in omega (arith, next); here = r.here }

known_at : (n : ℕ) (xs : List (Text × Kind)) (t : Text) → is_in (names_of xs) t ≡ true → IsAt n (names_of xs) t (place_of (entry (placed_from n xs) t))
known_at n [] t h = cc
known_at n (x ∷ xs) t h = at_or n x xs t (bytes_eq t x.0) refl (known_at (suc n) xs t) h

-- what follows for each
each_from : {X Y : Type 0} (P : X → Type 0) (Q : Y → Type 0) (f : X → Y) → ((x : X) → P x → Q (f x)) → (xs : List X) → Each P xs → Each Q (map f xs)
each_from P Q f then [] h = tt
each_from P Q f then (x ∷ xs) h = (then x h.0, each_from P Q f then xs h.1)

list_all_each : {X : Type 0} (P : X → Type 0) (test : X → Bool) → ((x : X) → test x ≡ true → P x) → (xs : List X) → list_all test xs ≡ true → Each P xs
list_all_each P test then [] h = tt
list_all_each P test then (x ∷ xs) h = let both = and_parts (test x) (list_all test xs) h in (then x both.0, list_all_each P test then xs both.1)

defined_once : (b : Bool) → ◌≡◌ {A = ℕ} (cond (not b) 1 0) (elim b [ true ↦ 0 | false ↦ 1 ])
defined_once true = refl
defined_once false = refl

module _ (p : Tree) (f : tree.Node) (named : NodeNamed (known p (groups f)) f) where
  abbrev s : Scope
  s = scope p f

  abbrev g : Node
  g = node_meant p f

  abbrev names : List Text
  names = names_in (groups f)

  abbrev inputs : List Text
  inputs = names_in f.inputs

  abbrev IsLeft : Text → Type 0
  IsLeft t = is_in (defined_names f) t ≡ true

  names_apart : names ≡ inputs ++ defined_names f
  names_apart = flat_map-append (λ h. map text_of h.names) f.inputs (f.outputs ++ f.locals)

  -- the name of a left name's place is that name
  name_at : (t : Text) → IsLeft t → slice_get names (variable_place s t) ≡ Some t
  name_at t h =
      let same : names_of (group_kinds p (groups f)) ≡ names = names-kinds_by (kind_named p) (groups f) in
      let is_known : is_in names t ≡ true = ap (λ ns. is_in ns t) names_apart ∙ is_in-append inputs (defined_names f) t ∙ or_right (is_in inputs t) (is_in (defined_names f) t) h in
      let a = known_at 0 (group_kinds p (groups f)) t (ap (λ ns. is_in ns t) same ∙ is_known) in
      let place : variable_place s t ≡ a.index = a.is ∙ omega arith in
      ap₂ slice_get (sym same) place ∙ a.here

  name_count : length g.variables ≡ length names
  name_count = length-for_each (variable_meant p s) (groups f) ∙ sym (length-for_each (λ h n. n.text) (groups f))

  left_within : (t : Text) → IsLeft t → variable_place s t < length g.variables
  left_within t h = let lt = slice_get_within names (variable_place s t) t (name_at t h) in omega (arith, lt, name_count)

  -- places on the left
  places_left : (n : ℕ) (qs : List tree.Equation) → flat_map (λ (q : Equation). q.targets) (equations_meant s n qs) ≡ map (variable_place s) (flat_map (λ (q : tree.Equation). map text_of q.left) qs)
  places_left n [] = refl
  places_left n (q ∷ qs) =
      ap₂ ◌++◌ (sym (map-map (variable_place s) text_of q.left)) (places_left (n + calls (meant s q.right)) qs) ∙ sym (map-append (variable_place s) (map text_of q.left) (flat_map (λ (r : tree.Equation). map text_of r.left) qs))

  targets_are : targets_of g ≡ map (variable_place s) (left_names f)
  targets_are = places_left 0 f.equations

  pub targets_within : Each (λ x. x < length g.variables) (targets_of g)
  targets_within = subst (Each (λ x. x < length g.variables)) (sym targets_are) (each_from IsLeft (λ x. x < length g.variables) (variable_place s) left_within (left_names f) (list_all_each IsLeft (is_in (defined_names f)) (λ t h. h) (left_names f) named.left_defined))

  -- how often a place stands on the left
  apart : AreApart (inputs ++ defined_names f)
  apart = subst AreApart names_apart (are_apart names named.distinct)

  module _ (x : ℕ) (t : Text) (here : slice_get names x ≡ Some t) where
    same_place : (u : Text) → IsLeft u → nat_eq x (variable_place s u) ≡ bytes_eq t u
    same_place u h =
        one_answer {P = t ≡ u} (nat_eq x (variable_place s u)) (bytes_eq t u) (
          λ e. let both : Some t ≡ Some u = sym here ∙ ap (slice_get names) (eqb-true x (variable_place s u) e) ∙ name_at u h in cc,
          λ e. eq-eqb x (variable_place s u) (one_place names t x (variable_place s u) (are_apart names named.distinct) here (name_at u h ∙ ap Some (sym e))),
        )
        (λ e. same_text t u e, λ e. text_same t u e)

    same_names : is_in (left_names f) t ≡ is_in (defined_names f) t
    same_names = one_answer {P = IsLeft t} (is_in (left_names f) t) (is_in (defined_names f) t) (all_in (defined_names f) (left_names f) t named.left_defined, all_in (left_names f) (defined_names f) t named.left_whole) (λ e. e, λ e. e)

    input_count : length inputs ≡ g.inputs
    input_count = ap length (sym (names-kinds_by (kind_named p) f.inputs)) ∙ length-map (group_kinds p f.inputs) (λ (e : Text × Kind). e.0)

    defined_here : IsDefined g x
    defined_here =
        ap (count x) targets_are
        ∙ count_apart (variable_place s) x t (left_names f) (are_apart (left_names f) named.left_distinct) (list_all_each (λ u. nat_eq x (variable_place s u) ≡ bytes_eq t u) (is_in (defined_names f)) same_place (left_names f) named.left_defined)
        ∙ ap (λ b. cond b 1 0) (same_names ∙ among_last inputs (defined_names f) x t apart (subst (λ ns. slice_get ns x ≡ Some t) names_apart here) ∙ ap (λ n. not (nat_lt x n)) input_count)
        ∙ defined_once (nat_lt x g.inputs)

  pub is_defined : (x : ℕ) → x < length g.variables → IsDefined g x
  is_defined x lt = defined_here x (item [] names x) (slice_get-get_or names x [] (omega (arith, lt, name_count)))
