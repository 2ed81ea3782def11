-- Classes that are made of the nodes of a normal form belong to them.
use Rattle.std.proofs.Common.{◌≡◌, ◌∙◌, ℕ, zero, suc, ◌+◌, ◌<◌, ◌≤◌, List, [], ◌∷◌, ◌++◌, length, length-append, Some, slice_get, get_or, refl, sym, ap, subst, arith, ⊎_elim}
use Rattle.std.proofs.lemmas.Bool.{cases_lt}
use Rattle.std.proofs.lemmas.List.{get_or-map, get_or_past, length-map}
use Rattle.std.proofs.lemmas.Option.{slice_get-get_or}
use Rattle.lus_program.specs.Programs.{Program, node_at, empty_node}
use Rattle.lus_classes.specs.Classes.{class_at, empty_class}
use Rattle.lus_classes.specs.ClassesOf.{AreClassesOf, IsClassOf}
use Rattle.lus_instructions.specs.declared.class.Class.{Class}
use Rattle.lus_classes.specs.View.{class_of, classes_of}
use Rattle.lus_turns.specs.Turned.{AreFirstTurned, AreTurned, IsTurned}

-- no class belongs to no node
nothing_belongs : (p : Program) → IsClassOf p empty_node empty_class
nothing_belongs p =
    record {
      inputs = refl;
      narrow = omega arith;
      width = refl;
      clocks = λ x. refl;
      input_clocks = λ x lt. absurd (omega arith);
      steps = tt;
      turns = tt;
      every = λ x past lt. absurd (omega arith);
      covered = tt;
      calls = tt;
      memories = tt;
    }

-- the class at each number belongs to the node
pub classes_belong : (p : Program) (classes : List Class) → AreTurned p classes → AreClassesOf p (classes_of classes)
classes_belong p classes are g =
    ⊎_elim
    (λ (low : g < length classes).
    let c = get_or classes g (no_class g low) in
    let here : slice_get classes g ≡ Some c = slice_get-get_or classes g (no_class g low) low in
    let seen : class_at (classes_of classes) g ≡ class_of c = get_or-map class_of classes g (no_class g low) empty_class low in
    subst (IsClassOf p (node_at p g)) (sym seen) (are.each g c here).belongs)
    (λ (past : length classes ≤ g).
    let size = are.size in
    let long = length-map classes class_of in
    let beyond : length (classes_of classes) ≤ g = omega (arith, past, long) in
    let none : class_at (classes_of classes) g ≡ empty_class = get_or_past (classes_of classes) g empty_class beyond in
    let no_node : node_at p g ≡ empty_node = get_or_past p.nodes g empty_node (omega (arith, past, size)) in
    subst (λ f. IsClassOf p f (class_at (classes_of classes) g)) (sym no_node) (subst (IsClassOf p empty_node) (sym none) (nothing_belongs p)))
    (cases_lt g (length classes))
  where
    first : (cs : List Class) (g : ℕ) → g < length cs → Class
    first [] g lt = absurd (omega arith)
    first (c ∷ cs) g lt = c

    no_class : (g : ℕ) → g < length classes → Class
    no_class g lt = first classes g lt

-- one class more
pub more_turned : (p : Program) (n : ℕ) (classes : List Class) (c : Class) → AreFirstTurned p n classes → IsTurned p (node_at p n) c → AreFirstTurned p (n + 1) (classes ++ c ∷ [])
more_turned p n classes c are turned =
    record {
      size = (let long = length-append classes (c ∷ []) in let size = are.size in omega (arith, long, size));
      each = λ g d here. in_more classes (λ h. IsTurned p (node_at p h)) are.each (λ k size. subst (λ h. IsTurned p (node_at p h) c) (sym are.size ∙ size) turned) g d here;
    }
  where
    in_more : (cs : List Class) (P : ℕ → Class → Type 0) → ((g : ℕ) (d : Class) → slice_get cs g ≡ Some d → P g d) → ((k : ℕ) → length cs ≡ k → P k c) → (g : ℕ) (d : Class) → slice_get (cs ++ c ∷ []) g ≡ Some d → P g d
    in_more [] P all last zero d here = let same : c ≡ d = cc in subst (P zero) same (last zero refl)
    in_more [] P all last (suc g) d here = cc
    in_more (e ∷ cs) P all last zero d here = all zero d here
    in_more (e ∷ cs) P all last (suc g) d here = in_more cs (λ h. P (suc h)) (λ h. all (suc h)) (λ k size. last (suc k) (ap suc size)) g d here
