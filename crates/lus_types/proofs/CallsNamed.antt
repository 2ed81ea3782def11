-- The nodes that a program calls are those that the text calls, so none leads back to itself, and an order of the text's nodes
-- is one of the program's.
use Rattle.std.proofs.Common.{add-one, arith, ◌≡◌, ◌∙◌, refl, sym, ap, subst, ℕ, zero, suc, ◌+◌, nat_eq, Bool, true, false, cond, List, [], ◌∷◌, ◌++◌, map, Option, Some}
use Rattle.std.proofs.lemmas.List.{length-map}
use Rattle.std.proofs.lemmas.List.Elements.{Contains-append_right}
use Rattle.std.specs.Prelude.{flat_map, option_map, Contains}
use Rattle.std.specs.List.{position_from}
use Rattle.std.specs.Option.{option_to_list}
use Rattle.std.specs.Str.{bytes_eq}
use Rattle.lus_values.specs.Lists.{item, Each}
use Rattle.lus_graph.specs.Ways.{step, HasNoWayBack, IsOrder}
use Rattle.lus_graph.proofs.NoWayBack.{led_nowhere_back, led_order}
use Rattle.lus_syntax.specs.declared.tree.Prefix.{Prefix}
use Rattle.lus_syntax.specs.declared.tree.Prefix.TheVariants as prefixes
use Rattle.lus_syntax.specs.declared.tree.Infix.{Infix}
use Rattle.lus_syntax.specs.declared.tree.Infix.TheVariants as infixes
use Rattle.lus_syntax.specs.Lexemes.{Text}
use Rattle.lus_syntax.specs.Trees as tree
use Rattle.lus_syntax.specs.Trees.{Name, Call, Structure, Merge, Variadic, Field, Parentheses, When, Unary, Binary, If, Parts, End, More, Tree}
use Rattle.lus_values.specs.declared.operator.Operator.TheVariants as operators
use Rattle.lus_program.specs.Programs.{Expression, operate, Operands, none, more, calls, numbered, Equation, Node}
use Rattle.lus_values.proofs.Lists.{each_at, each_left, each_right, each_append}
use Rattle.lus_source.specs.Scopes.{Scope, Signature, entry}
use Rattle.lus_source.specs.Tables.{numbered_from, signature, scope}
use Rattle.lus_source.specs.Loopless.{place_in, node_names, called, called_in, calls_of, node_uses}
use Rattle.lus_source.specs.Heads.{kind_by}
use Rattle.lus_source.specs.Meaning.{one, two, beside, in_order_from, are_arguments, list_operation, prefix_meant, infix_meant, meant, all_meant, equations_meant, node_meant, program_of}
use Rattle.lus_program.specs.Resolved.{nodes_called, all_nodes_called, program_uses}
use Rattle.lus_program.proofs.Numbering.{nodes_called-numbered}
use Rattle.lus_types.proofs.FormsMeant.{where_holds, name_holds, call_holds, field_holds, when_holds, merge_holds, structure_holds}

module _ (Q : ℕ → Type 0) where
  abbrev Calls : Expression → Type 0
  Calls e = Each Q (nodes_called e)

  abbrev CallsIn : Operands → Type 0
  CallsIn es = Each Q (all_nodes_called es)

  one_more : (e : Expression) (es : Operands) → Calls e → CallsIn es → CallsIn (more e es)
  one_more e es h k = each_append Q (nodes_called e) (all_nodes_called es) h k

  beside_or : (b : Bool) (e d : Expression) → Calls e → Calls d → Calls (cond b e d)
  beside_or true e d h k = h
  beside_or false e d h k = k

  beside_called : (c : ℕ) (ns : List ℕ) (es : Operands) → CallsIn es → Calls (beside c ns es)
  beside_called c (n ∷ ns) (more e es) h =
      beside_or (nat_eq c n) e (beside c ns es) (each_left Q (nodes_called e) (all_nodes_called es) h) (beside_called c ns es (each_right Q (nodes_called e) (all_nodes_called es) h))
  beside_called c ns es h = tt

  order_called : (c n : ℕ) (ns : List ℕ) (es : Operands) → CallsIn es → CallsIn (in_order_from c n ns es)
  order_called c zero ns es h = tt
  order_called c (suc n) ns es h = one_more (beside c ns es) (in_order_from (suc c) n ns es) (beside_called c ns es h) (order_called (suc c) n ns es h)

  prefix_called : (op : Prefix) (a : Expression) → Calls a → Calls (prefix_meant op a)
  prefix_called prefixes.Pre a h = h
  prefix_called op a h = one_more a none h tt

  two_called : (a b : Expression) → Calls a → Calls b → CallsIn (two a b)
  two_called a b h k = one_more a (one b) h (one_more b none k tt)

  infix_called : (op : Infix) (a b : Expression) → Calls a → Calls b → Calls (infix_meant op a b)
  infix_called (infixes.Compute op) a b h k = two_called a b h k
  infix_called op a b h k = each_append Q (nodes_called a) (nodes_called b) h k

  -- what holds of the nodes that the text calls holds of those that are called
  module _ (s : Scope) (nodes : List Text) (holds : (t : Text) (g : Signature) → entry s.nodes t ≡ Some g → Each Q (option_to_list (place_in nodes t)) → Q g.place) where
    mutual
      meant_called : (e : tree.Expression) → Each Q (called nodes e) → Calls (meant s e)
      meant_called (Name n) each = name_holds s Calls tt n.text (λ x. tt) (λ v. tt)
      meant_called (Call f es) each =
          let here = each_left Q (option_to_list (place_in nodes f.text)) (called_in nodes es) each in
          let rest = each_right Q (option_to_list (place_in nodes f.text)) (called_in nodes es) each in
          call_holds s Calls tt f.text es (all_meant s es) (λ g is. (holds f.text g is here, all_called es rest))
      meant_called (Structure t fs) each = structure_holds s Calls tt t.text fs (λ t n ns long once. order_called 0 n ns (all_meant s fs) (all_called fs each))
      meant_called (Merge p c bs) each = merge_holds s Calls tt c.text bs (λ x n ns long once. order_called 0 n ns (all_meant s bs) (all_called bs each))
      meant_called (Variadic op p es) each = where_holds s Calls tt (are_arguments es) (operate (operators.Compute (list_operation op)) (all_meant s es)) (all_called es each)
      meant_called (Field a x) each = field_holds s Calls tt (kind_by s (meant s a)) x.text (meant s a) (λ n. one_more (meant s a) none (meant_called a each) tt)
      meant_called (Parentheses p a) each = meant_called a each
      meant_called (When a t) each = when_holds s Calls tt t (meant s a) (λ u. meant_called a each)
      meant_called (Unary op p a) each = prefix_called op (meant s a) (meant_called a each)
      meant_called (Binary op a b) each =
          infix_called op (meant s a) (meant s b) (meant_called a (each_left Q (called nodes a) (called nodes b) each)) (meant_called b (each_right Q (called nodes a) (called nodes b) each))
      meant_called (If p c a b) each =
          let rest = each_right Q (called nodes c) (called nodes a ++ called nodes b) each in
          one_more (meant s c) (two (meant s a) (meant s b)) (meant_called c (each_left Q (called nodes c) (called nodes a ++ called nodes b) each))
          (two_called (meant s a) (meant s b) (meant_called a (each_left Q (called nodes a) (called nodes b) rest)) (meant_called b (each_right Q (called nodes a) (called nodes b) rest)))
      meant_called e each = tt

      all_called : (ps : Parts) → Each Q (called_in nodes ps) → CallsIn (all_meant s ps)
      all_called End each = tt
      all_called (More l e ps) each =
          one_more (meant s e) (all_meant s ps) (meant_called e (each_left Q (called nodes e) (called_in nodes ps) each)) (all_called ps (each_right Q (called nodes e) (called_in nodes ps) each))

    equations_called : (n : ℕ) (qs : List tree.Equation) → Each Q (flat_map (λ (q : tree.Equation). called nodes q.right) qs) → Each Q (flat_map (λ (q : Equation). nodes_called q.right) (equations_meant s n qs))
    equations_called n [] each = tt
    equations_called n (q ∷ qs) each =
        let e = meant s q.right in
        let rest = flat_map (λ (r : tree.Equation). called nodes r.right) qs in
        each_append Q (nodes_called (numbered n e)) (flat_map (λ (r : Equation). nodes_called r.right) (equations_meant s (n + calls e) qs))
        (subst (Each Q) (sym (nodes_called-numbered e n)) (meant_called q.right (each_left Q (called nodes q.right) rest each)))
        (equations_called (n + calls e) qs (each_right Q (called nodes q.right) rest each))

each_contained : (all xs : List ℕ) → ((y : ℕ) → Contains xs y → Contains all y) → Each (Contains all) xs
each_contained all [] h = tt
each_contained all (x ∷ xs) h = (h x (0, omega arith, refl), each_contained all xs (λ y c. h y (Contains-append_right (x ∷ []) xs y c)))

module _ (p : Tree) where
  -- the place of a name is that of its signature
  place_or : (n : ℕ) (g : Signature) (b : Bool) (o : Option Signature) → g.place ≡ n → option_map (λ h. h.place) (cond b (Some g) o) ≡ cond b (Some n) (option_map (λ h. h.place) o)
  place_or n g true o is = ap Some is
  place_or n g false o is = refl

  places : (n : ℕ) (fs : List tree.Node) (t : Text)
      → option_map (λ g. g.place) (entry (map (λ (e : tree.Node × ℕ). (e.0.name.text, signature p e.0 e.1)) (numbered_from n fs)) t) ≡ position_from (λ m. bytes_eq t m) n (map (λ (f : tree.Node). f.name.text) fs)
  places n [] t = refl
  places n (f ∷ fs) t =
      place_or n (signature p f n) (bytes_eq t f.name.text) (entry (map (λ (e : tree.Node × ℕ). (e.0.name.text, signature p e.0 e.1)) (numbered_from (suc n) fs)) t) refl
      ∙ ap (cond (bytes_eq t f.name.text) (Some n)) (places (suc n) fs t ∙ rw (add-one n) refl)

  called_at : (Q : ℕ → Type 0) (f : tree.Node) (t : Text) (g : Signature) → entry (scope p f).nodes t ≡ Some g → Each Q (option_to_list (place_in (node_names p) t)) → Q g.place
  called_at Q f t g is each =
      let at : place_in (node_names p) t ≡ Some g.place = sym (places 0 p.nodes t) ∙ ap (option_map (λ h. h.place)) is in
      let here : Each Q (g.place ∷ []) = subst (λ o. Each Q (option_to_list o)) at each in
      here.0

  node_calls : (f : tree.Node) → Each (Contains (calls_of (node_names p) f)) (flat_map (λ (q : Equation). nodes_called q.right) (node_meant p f).equations)
  node_calls f =
      let Q = Contains (calls_of (node_names p) f) in
      equations_called Q (scope p f) (node_names p) (called_at Q f) 0 f.equations (each_contained (calls_of (node_names p) f) (calls_of (node_names p) f) (λ y c. c))

  uses_included : (fs : List tree.Node) (x y : ℕ)
      → Contains (item [] (map (λ (f : Node). flat_map (λ (q : Equation). nodes_called q.right) f.equations) (map (node_meant p) fs)) x) y → Contains (item [] (map (calls_of (node_names p)) fs) x) y
  uses_included [] x y c = c
  uses_included (f ∷ fs) zero y c =
      let Q = Contains (calls_of (node_names p) f) in
      subst Q c.2 (each_at Q (flat_map (λ (q : Equation). nodes_called q.right) (node_meant p f).equations) c.0 y c.1 (node_calls f))
  uses_included (f ∷ fs) (suc x) y c = uses_included fs x y c

  pub meant_loopless : HasNoWayBack (node_uses p) → HasNoWayBack (program_uses (program_of p))
  meant_loopless = led_nowhere_back (node_uses p) (program_uses (program_of p)) (λ x y among. step (uses_included p.nodes x y among))

  pub meant_order : (order : List ℕ) → IsOrder (node_uses p) order → IsOrder (program_uses (program_of p)) order
  meant_order = led_order (node_uses p) (program_uses (program_of p)) (λ x y among. step (uses_included p.nodes x y among))
      (length-map (map (node_meant p) p.nodes) (λ f. flat_map (λ (q : Equation). nodes_called q.right) f.equations) ∙ length-map p.nodes (node_meant p) ∙ sym (length-map p.nodes (calls_of (node_names p))))
