-- The constructors in the text of what a tree means are those that its types declare.
use Rattle.std.proofs.Common.{arith, ◌≡◌, ◌∙◌, refl, sym, ap, subst, ℕ, zero, suc, ◌+◌, ℤ, nat_eq, nat_lt, Bool, true, false, cond, List, [], ◌∷◌, length, map, flat_map, Option, Some, None, IsTrue}
use Rattle.std.proofs.lemmas.Bool.{lt-ltb}
use Rattle.std.proofs.lemmas.List.{length-map}
use Rattle.std.specs.Prelude.{option_map, unwrap_or}
use Rattle.std.specs.Str.{bytes_eq}
use Rattle.lus_syntax.specs.declared.tree.Prefix.{Prefix}
use Rattle.lus_syntax.specs.declared.tree.Prefix.TheVariants as prefixes
use Rattle.lus_syntax.specs.declared.tree.Infix.{Infix}
use Rattle.lus_syntax.specs.declared.tree.Infix.TheVariants as infixes
use Rattle.lus_syntax.specs.Lexemes.{Text}
use Rattle.lus_syntax.specs.Trees as tree
use Rattle.lus_syntax.specs.Trees.{Numeral, Truth, Name, Call, Structure, Merge, Variadic, Field, Parentheses, When, Unary, Binary, If, Parts, End, More, Named, Definition, Alias, Enumeration, StructureOf, TypeDeclaration, Literal, Positive, Negative, TruthValue, ConstructorName, Constant, Tree}
use Rattle.lus_values.specs.declared.operator.Operator.TheVariants as operators
use Rattle.lus_values.specs.Lists.{item, Each}
use Rattle.lus_values.specs.Values.{Value, bool, int, enum, nil}
use Rattle.lus_values.proofs.Lists.{each_append}
use Rattle.lus_program.specs.Programs.{Expression, literal, variable, operate, Operands, more, calls}
use Rattle.lus_program.specs.Kinds.{constructors_in, nothing_declared}
use Rattle.lus_program.specs.Literals.{LiteralsAre, AllLiteralsAre, declares, IsDeclared, HasDeclaredLiterals}
use Rattle.lus_program.specs.Resolved.{declared_in}
use Rattle.lus_program.proofs.Literals.{literals-numbered}
use Rattle.lus_source.specs.declared.entries.Constructor.{Constructor}
use Rattle.lus_source.specs.declared.entries.Placed.{Placed}
use Rattle.lus_source.specs.Heads.{kind_by}
use Rattle.lus_source.specs.Labels.{name_value}
use Rattle.lus_source.specs.Scopes.{Scope, entry}
use Rattle.lus_source.specs.Tables.{numbered_from, text_of, constructors_from, constructors_of, all_constructors, value_in, constants_by, declared_as, scope}
use Rattle.lus_source.specs.Meaning.{beside, in_order_from, are_arguments, list_operation, prefix_meant, infix_meant, meant, all_meant, equations_meant, node_meant, program_of}
use Rattle.lus_types.proofs.FormsMeant.{where_holds, call_holds, field_holds, when_holds, merge_holds, structure_holds}

-- ---- what holds of the values that names stand for, of numbers, of truth values and of nil holds of each literal that is meant

module _ (Q : Value → Type 0) (numbers : (z : ℤ) → Q (int z)) (truths : (b : Bool) → Q (bool b)) (nothing : Q nil) where
  abbrev Are : Expression → Type 0
  Are e = LiteralsAre Q e

  beside_or : (b : Bool) (e d : Expression) → Are e → Are d → Are (cond b e d)
  beside_or true e d h k = h
  beside_or false e d h k = k

  beside_are : (c : ℕ) (ns : List ℕ) (es : Operands) → AllLiteralsAre Q es → Are (beside c ns es)
  beside_are c (n ∷ ns) (more e es) h = beside_or (nat_eq c n) e (beside c ns es) h.0 (beside_are c ns es h.1)
  beside_are c ns es h = nothing

  order_are : (c n : ℕ) (ns : List ℕ) (es : Operands) → AllLiteralsAre Q es → AllLiteralsAre Q (in_order_from c n ns es)
  order_are c zero ns es h = tt
  order_are c (suc n) ns es h = (beside_are c ns es h, order_are (suc c) n ns es h)

  prefix_are : (op : Prefix) (a : Expression) → Are a → Are (prefix_meant op a)
  prefix_are prefixes.Pre a h = h
  prefix_are op a h = (h, tt)

  infix_are : (op : Infix) (a b : Expression) → Are a → Are b → Are (infix_meant op a b)
  infix_are (infixes.Compute op) a b h k = (h, (k, tt))
  infix_are op a b h k = (h, k)

  name_or : (o : Option Placed) (v : Value) → Q v → Are (elim o [ Some x ↦ variable x.place | None ↦ literal v ])
  name_or None v h = h
  name_or (Some x) v h = tt

  module _ (s : Scope) (named : (n : Text) → Q (unwrap_or (name_value s n) nil)) where
    mutual
      meant_are : (e : tree.Expression) → Are (meant s e)
      meant_are (Numeral z p) = numbers z
      meant_are (Truth b p) = truths b
      meant_are (Name n) = name_or (entry s.variables n.text) (unwrap_or (name_value s n.text) nil) (named n.text)
      meant_are (Call f es) = call_holds s Are nothing f.text es (all_meant s es) (λ g is. all_are es)
      meant_are (Structure t fs) = structure_holds s Are nothing t.text fs (λ t n ns long once. order_are 0 n ns (all_meant s fs) (all_are fs))
      meant_are (Merge p c bs) = merge_holds s Are nothing c.text bs (λ x n ns long once. order_are 0 n ns (all_meant s bs) (all_are bs))
      meant_are (Variadic op p es) = where_holds s Are nothing (are_arguments es) (operate (operators.Compute (list_operation op)) (all_meant s es)) (all_are es)
      meant_are (Field a x) = field_holds s Are nothing (kind_by s (meant s a)) x.text (meant s a) (λ n. (meant_are a, tt))
      meant_are (Parentheses p a) = meant_are a
      meant_are (When a t) = when_holds s Are nothing t (meant s a) (λ u. meant_are a)
      meant_are (Unary op p a) = prefix_are op (meant s a) (meant_are a)
      meant_are (Binary op a b) = infix_are op (meant s a) (meant s b) (meant_are a) (meant_are b)
      meant_are (If p c a b) = (meant_are c, (meant_are a, (meant_are b, tt)))

      all_are : (ps : Parts) → AllLiteralsAre Q (all_meant s ps)
      all_are End = tt
      all_are (More l e ps) = (meant_are e, all_are ps)

    equations_are : (n : ℕ) (qs : List tree.Equation) → Each (λ q. Are q.right) (equations_meant s n qs)
    equations_are n [] = tt
    equations_are n (q ∷ qs) = (literals-numbered Q (meant s q.right) n (meant_are q.right), equations_are (n + calls (meant s q.right)) qs)

-- ---- what names stand for

-- what holds of each entry holds of the one that a name has
found_or : {X : Type 0} (P : X → Type 0) (b : Bool) (y x : X) (o : Option X) → P y → (o ≡ Some x → P x) → cond b (Some y) o ≡ Some x → P x
found_or P true y x o h rest is = let same : y ≡ x = cc in subst P same h
found_or P false y x o h rest is = rest is

entry_has : {X : Type 0} (P : X → Type 0) (xs : List (Text × X)) (n : Text) (x : X) → Each (λ e. P e.1) xs → entry xs n ≡ Some x → P x
entry_has P [] n x h is = cc
entry_has P (e ∷ xs) n x h is = found_or P (bytes_eq n e.0) e.1 x (entry xs n) h.0 (entry_has P xs n x h.1) is

module _ (p : Tree) where
  abbrev Good : Constructor → Type 0
  Good c = IsTrue (declares (program_of p) c.enumeration c.place)

  abbrev GoodEntry : Text × Constructor → Type 0
  GoodEntry e = Good e.1

  -- constructors of one type
  places_good : (t m n : ℕ) (cs : List Named) → constructors_in (declared_in (program_of p) t) ≡ m → n + length cs ≡ m → Each GoodEntry (constructors_from t n cs)
  places_good t m n [] long all = tt
  places_good t m n (c ∷ cs) long all = (
    ap (nat_lt n) long ∙ lt-ltb n m (omega (arith, all)),
    places_good t m (suc n) cs long (omega (arith, all)),
  )

  definition_good : (t : ℕ) (d : Definition) → declared_in (program_of p) t ≡ declared_as p d → Each GoodEntry (constructors_of d t)
  definition_good t (Alias y) is = tt
  definition_good t (Enumeration cs) is = places_good t (length cs) 0 cs (ap constructors_in is ∙ length-map cs text_of) (omega arith)
  definition_good t (StructureOf fs) is = tt

  types_good : (k : ℕ) (ds : List TypeDeclaration) → ((i : ℕ) → item nothing_declared (map (λ d. declared_as p d.definition) ds) i ≡ declared_in (program_of p) (k + i))
      → Each GoodEntry (flat_map (λ (e : TypeDeclaration × ℕ). constructors_of e.0.definition e.1) (numbered_from k ds))
  types_good k [] are = tt
  types_good k (d ∷ ds) are =
      let here : k + 0 ≡ k = omega arith in
      each_append GoodEntry (constructors_of d.definition k) (flat_map (λ (e : TypeDeclaration × ℕ). constructors_of e.0.definition e.1) (numbered_from (suc k) ds))
      (definition_good k d.definition (sym (are 0 ∙ ap (declared_in (program_of p)) here)))
      (types_good (suc k) ds (λ i. let next : k + suc i ≡ suc k + i = omega arith in are (suc i) ∙ ap (declared_in (program_of p)) next))

  constructors_good : Each GoodEntry (all_constructors p)
  constructors_good = types_good 0 p.types (λ i. let same : i ≡ 0 + i = omega arith in ap (declared_in (program_of p)) same)

  -- constants
  constructor_or : (o : Option Constructor) → ((c : Constructor) → o ≡ Some c → Good c) → IsDeclared (program_of p) (elim o [ Some k ↦ enum k.enumeration k.place | None ↦ nil ])
  constructor_or None h = tt
  constructor_or (Some c) h = h c refl

  value_good : (v : Literal) → IsDeclared (program_of p) (value_in (all_constructors p) v)
  value_good (Positive z s) = tt
  value_good (Negative m z s) = tt
  value_good (TruthValue b s) = tt
  value_good (ConstructorName c) = constructor_or (entry (all_constructors p) c.text) (λ k is. entry_has Good (all_constructors p) c.text k constructors_good is)

  constants_good : (cs : List Constant) → Each (λ e. IsDeclared (program_of p) e.1) (constants_by (all_constructors p) cs)
  constants_good [] = tt
  constants_good (c ∷ cs) = (value_good c.value, constants_good cs)

  -- a constant, or else a constructor
  value_or : (o : Option Value) (c : Option Constructor) → ((v : Value) → o ≡ Some v → IsDeclared (program_of p) v) → ((k : Constructor) → c ≡ Some k → Good k)
      → IsDeclared (program_of p) (unwrap_or (elim o [ Some v ↦ Some v | None ↦ option_map (λ k. enum k.enumeration k.place) c ]) nil)
  value_or (Some v) c h k = h v refl
  value_or None None h k = tt
  value_or None (Some c) h k = k c refl

  name_good : (f : tree.Node) (n : Text) → IsDeclared (program_of p) (unwrap_or (name_value (scope p f) n) nil)
  name_good f n =
      value_or (entry (constants_by (all_constructors p) p.constants) n) (entry (all_constructors p) n)
      (λ v is. entry_has (IsDeclared (program_of p)) (constants_by (all_constructors p) p.constants) n v (constants_good p.constants) is)
      (λ c is. entry_has Good (all_constructors p) n c constructors_good is)

  nodes_good : (fs : List tree.Node) → Each (λ f. Each (λ q. LiteralsAre (IsDeclared (program_of p)) q.right) f.equations) (map (node_meant p) fs)
  nodes_good [] = tt
  nodes_good (f ∷ fs) = (equations_are (IsDeclared (program_of p)) (λ z. tt) (λ b. tt) tt (scope p f) (name_good f) 0 f.equations, nodes_good fs)

  -- of each tree, well formed or not
  pub meant_literals : HasDeclaredLiterals (program_of p)
  meant_literals = nodes_good p.nodes
