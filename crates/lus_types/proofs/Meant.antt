-- What forms mean, and which types they have.
use Rattle.std.proofs.Common.{◌≡◌, ◌∙◌, ap, ap₂, sym, subst, refl, ℕ, suc, ◌<◌, ◌≤◌, List, [], ◌∷◌, ◌++◌, append_assoc, length, get_or, map, take, drop, drop-cons, Some, None, Option, Bool, true, false, cond, arith}
use Rattle.std.specs.Prelude.{option_map, slice_get}
use Rattle.std.specs.Option.{option_and_then}
use Rattle.std.proofs.lemmas.Option.{slice_get_past, slice_get-map}
use Rattle.std.proofs.Math.ListN.{drop_of_length-le}
use Rattle.std.proofs.Math.Seq.{take-append_seam, drop-append_seam}
use Rattle.std.proofs.lemmas.List.{append-nil, drop-map, length-map, take-map}
use Rattle.lus_syntax.specs.declared.tree.Part.{Part}
use Rattle.lus_syntax.specs.Lexemes.{Text}
use Rattle.lus_syntax.specs.View.{expression_seen, lead_seen, part_seen}
use Rattle.lus_syntax.specs.Trees as tree
use Rattle.lus_syntax.specs.Trees.{Parts, parts_of}
use Rattle.lus_program.specs.declared.expr.Expr.{Expr}
use Rattle.lus_program.specs.declared.types.Field.{Field as StoredField}
use Rattle.lus_program.specs.declared.types.Kind.{Kind}
use Rattle.lus_program.specs.declared.types.Kind.TheVariants as kinds
use Rattle.lus_syntax.specs.declared.tree.ListOperator.{ListOperator}
use Rattle.lus_values.specs.declared.operator.Operator.TheVariants as operators
use Rattle.lus_values.specs.Values.{nil}
use Rattle.lus_program.specs.Programs.{Expression, Node, Operands, more, literal, operate, call, merge}
use Rattle.lus_program.specs.View.{expression_of, field_of, operands_of}
use Rattle.lus_program.specs.Kinds.{all_same, where_true}
use Rattle.lus_program.proofs.Options.{and_then_gives, map_gives}
use Rattle.lus_program.specs.Resolved.{kinds_given_in, results, field_kinds, kind_of_variable, test_fits, call_results, input_kinds, output_kinds}
use Rattle.lus_source.specs.declared.entries.Placed.{Placed}
use Rattle.lus_source.specs.Scopes.{Scope, Signature, entry}
use Rattle.lus_source.specs.Heads.{heads, head, head_of, of_kind, kind_by, kinds_by}
use Rattle.lus_source.specs.Labels.{branch_places, each_once, field_asked, fields_asked, fields_of, size_of, test_placed}
use Rattle.lus_source.specs.Meaning.{arranged, in_order, are_arguments, list_operation, call_meant, merge_meant, structure_meant, variadic_meant, where_found, test_meant, meant, all_meant}
use Rattle.lus_types.specs.declared.elaboration.parts.Members.{Members}
use Rattle.lus_types.specs.declared.elaboration.parts.Members.TheVariants as members
use Rattle.lus_types.specs.Wholes.{called, callee, Fits, Take, given_by, member_place, member_places, parts_seen}
use Rattle.lus_types.proofs.FormsMeant.{where_holds, merge_holds, structure_holds}
use Rattle.lus_types.proofs.TypedForms.{ordered_untyped}

pub all_meant_is : (s : Scope) (ps : List Part) (es : List Expr) → map expression_of es ≡ map (λ p. meant s (expression_seen p.value)) ps → operands_of es ≡ all_meant s (parts_of (map part_seen ps))
all_meant_is s [] [] e = refl
all_meant_is s [] (x ∷ es) e = cc
all_meant_is s (p ∷ ps) [] e = cc
all_meant_is s (p ∷ ps) (x ∷ es) e =
    let first : expression_of x ≡ meant s (expression_seen p.value) = cc in
    let rest : map expression_of es ≡ map (λ q. meant s (expression_seen q.value)) ps = cc in
    ap (λ y. more y (operands_of es)) first ∙ ap (more (meant s (expression_seen p.value))) (all_meant_is s ps es rest)

-- what is found of each part, where of the first so many these are

found_before : {X : Type 0} (xs : List X) (x : X) (r : Option (List X)) → option_map (λ ys. xs ++ ys) (option_map (λ ys. x ∷ ys) r) ≡ option_map (λ ys. (xs ++ x ∷ []) ++ ys) r
found_before xs x None = refl
found_before xs x (Some ys) = ap Some (sym (append_assoc xs (x ∷ []) ys))

module _ {X : Type 0} (found : Parts → Option (List X)) (of_part : tree.Lead → tree.Expression → Option X) where
  abbrev then_rest : Parts → Option X → Option (List X)
  then_rest ps = option_and_then (λ x. option_map (λ xs. x ∷ xs) (found ps))

  pub record AreOneByOne : Type 0 where
    pub end : found tree.End ≡ Some []
    pub more : (l : tree.Lead) (e : tree.Expression) (ps : Parts) → found (tree.More l e ps) ≡ then_rest ps (of_part l e)

  module _ (each : AreOneByOne) (ps : List Part) (n : ℕ) (xs : List X) (r : Option (List X)) (so_far : r ≡ option_map (λ ys. xs ++ ys) (found (parts_seen (drop n ps)))) where
    pub all_found : length ps ≤ n → r ≡ Some xs
    all_found past = so_far ∙ ap (λ qs. option_map (λ ys. xs ++ ys) (found (parts_seen qs))) (drop_of_length-le ps past) ∙ ap (option_map (λ ys. xs ++ ys)) each.end ∙ ap Some (append-nil xs)

    module _ (p : Part) (item : p ≡ get_or ps n p) (within : n < length ps) where
      abbrev here : Option X
      here = of_part (lead_seen p.lead) (expression_seen p.value)

      from_here : r ≡ option_map (λ ys. xs ++ ys) (then_rest (parts_seen (drop (suc n) ps)) here)
      from_here =
          let cut = drop-cons ps n p within ∙ ap (λ q. q ∷ drop (suc n) ps) (sym item) in
          so_far ∙ ap (option_map (λ ys. xs ++ ys)) (ap (λ qs. found (parts_seen qs)) cut ∙ each.more (lead_seen p.lead) (expression_seen p.value) (parts_seen (drop (suc n) ps)))

      pub none_found : here ≡ None → r ≡ None
      none_found e = from_here ∙ ap (λ o. option_map (λ ys. xs ++ ys) (then_rest (parts_seen (drop (suc n) ps)) o)) e

      pub one_found : (x : X) → here ≡ Some x → r ≡ option_map (λ ys. (xs ++ x ∷ []) ++ ys) (found (parts_seen (drop (suc n) ps)))
      one_found x e =
          from_here ∙ ap (λ o. option_map (λ ys. xs ++ ys) (then_rest (parts_seen (drop (suc n) ps)) o)) e ∙ found_before xs x (found (parts_seen (drop (suc n) ps)))

module _ (s : Scope) where
  pub kinds_one_by_one : AreOneByOne (λ ps. kinds_by s (all_meant s ps)) (λ l e. kind_by s (meant s e))
  kinds_one_by_one = record { end = refl; more = λ l e ps. refl }

  pub members_one_by_one : (m : Members) (k : Kind) → AreOneByOne (member_places s m k) (λ l e. member_place s m k l)
  members_one_by_one members.Constructors k = record { end = refl; more = λ l e ps. refl }
  members_one_by_one members.Fields k = record { end = refl; more = λ l e ps. placed (field_asked s k l) (fields_asked s k ps) }
    where
      placed : (o : Option Placed) (r : Option (List Placed)) → option_map (map (λ x. x.place)) (option_and_then (λ x. option_map (λ xs. x ∷ xs) r) o)
          ≡ option_and_then (λ c. option_map (λ cs. c ∷ cs) (option_map (map (λ x. x.place)) r)) (option_map (λ x. x.place) o)
      placed None r = refl
      placed (Some x) None = refl
      placed (Some x) (Some xs) = refl

-- the rules of types, by the scope

field_kinds_are : (s : Scope) (k : Kind) → field_kinds (heads s) k ≡ map (λ f. f.kind) (fields_of s k)
field_kinds_are s kinds.Bool = refl
field_kinds_are s kinds.Int = refl
field_kinds_are s (kinds.Enum t) = refl
field_kinds_are s (kinds.Struct t) = refl

kind_kept : (r : Option StoredField) → option_map (λ f. f.kind) (option_map field_of r) ≡ option_map (λ f. f.kind) r
kind_kept None = refl
kind_kept (Some f) = refl

pub field_read : (s : Scope) (k : Kind) (fs : List StoredField) (n : ℕ) → map field_of fs ≡ fields_of s k → option_map (λ f. f.kind) (slice_get fs n) ≡ slice_get (field_kinds (heads s) k) n
field_read s k fs n seen =
    sym (ap (λ ks. slice_get ks n) (field_kinds_are s k ∙ ap (map (λ f. f.kind)) (sym seen)) ∙ slice_get-map (λ f. f.kind) (map field_of fs) n ∙ ap (option_map (λ f. f.kind)) (slice_get-map field_of fs n) ∙ kind_kept (slice_get fs n))

-- the types of a node's inputs, outputs and locals
pub record HasKinds (f : Node) (is os ls : List Kind) : Type 0 where
  pub inputs : f.inputs ≡ length is
  pub outputs : f.outputs ≡ length os
  pub variables : map (λ v. v.kind) f.variables ≡ is ++ (os ++ ls)

module _ {f : Node} {is os ls : List Kind} (has : HasKinds f is os ls) where
  pub inputs_are : input_kinds f ≡ is
  inputs_are = sym (take-map (λ v. v.kind) f.inputs f.variables) ∙ ap₂ take has.inputs has.variables ∙ take-append_seam is (os ++ ls)

  pub outputs_are : output_kinds f ≡ os
  outputs_are =
      sym (take-map (λ v. v.kind) f.outputs (drop f.inputs f.variables))
      ∙ ap₂ take has.outputs (sym (drop-map (λ v. v.kind) f.inputs f.variables) ∙ ap₂ drop has.inputs has.variables ∙ drop-append_seam is (os ++ ls))
      ∙ take-append_seam os ls

kinds_are : (ks : List Kind) → map (λ v. v.kind) (map of_kind ks) ≡ ks
kinds_are [] = refl
kinds_are (k ∷ ks) = ap (λ ls. k ∷ ls) (kinds_are ks)

pub head_has : (g : Signature) → HasKinds (head_of g) g.inputs g.outputs []
head_has g = record { inputs = refl; outputs = refl; variables = kinds_are (g.inputs ++ g.outputs) ∙ ap (λ ks. g.inputs ++ ks) (sym (append-nil g.outputs)) }

pub call_gives : (s : Scope) (ks : List Kind) (g : Signature) → call_results (heads s) ks (head_of g) ≡ where_true (all_same g.inputs ks) (Some g.outputs)
call_gives s ks g = rw (inputs_are (head_has g), outputs_are (head_has g)) refl

-- tests

nowhere : (s : Scope) → kind_of_variable (heads s) (head s) (length s.variables) ≡ None
nowhere s = ap (option_map (λ v. v.kind)) (slice_get_past (map (λ e. of_kind e.1.kind) s.variables) (length s.variables) (omega (arith, length-map s.variables (λ e. of_kind e.1.kind))))

pub unplaced_fails : (s : Scope) (t : tree.Test) → test_placed s t ≡ None → test_fits (heads s) (head s) (test_meant s t) ≡ false
unplaced_fails s t e = rw e (rw (nowhere s, test_fits) refl)

-- forms with parts that have no type

module _ (s : Scope) where
  abbrev Untyped : Expression → Type 0
  Untyped e = kind_by s e ≡ None

  pub variadic_untyped : (op : ListOperator) (ps : Parts) (es : Operands) → kinds_by s es ≡ None → Untyped (variadic_meant op ps es)
  variadic_untyped op ps es e = where_holds s Untyped refl (are_arguments ps) (operate (operators.Compute (list_operation op)) es) (rw e refl)

  pub merge_untyped : (c : Text) (bs : Parts) → kinds_by s (all_meant s bs) ≡ None → Untyped (merge_meant s c bs (all_meant s bs))
  merge_untyped c bs e = merge_holds s Untyped refl c bs (λ x n ns long once. rw (ordered_untyped s n ns (all_meant s bs) long once e) refl)

  pub structure_untyped : (t : Text) (fs : Parts) → kinds_by s (all_meant s fs) ≡ None → Untyped (structure_meant s t fs (all_meant s fs))
  structure_untyped t fs e = structure_holds s Untyped refl t fs (λ u n ns long once. rw (ordered_untyped s n ns (all_meant s fs) long once e) refl)

fields_arranged : (n : ℕ) (es : Operands) (r : Option (List Placed)) → option_and_then (λ xs. arranged n es (map (λ x. x.place) xs)) r ≡ option_and_then (arranged n es) (option_map (map (λ x. x.place)) r)
fields_arranged n es None = refl
fields_arranged n es (Some xs) = refl

-- what gives the types of a left side fits it, and what gives nothing fits none
pub fits_given : (s : Scope) (xs : List ℕ) (e : Expression) (ks : List Kind) → given_by s e ≡ Some ks → Take s xs ks → Fits s xs e
fits_given s xs e ks gives takes = rw gives (ap Some takes)

pub misfits : (s : Scope) (xs : List ℕ) (e : Expression) → given_by s e ≡ None → Fits s xs e → ⊥
misfits s xs e none fits = let lost = rw none at fits in cc

-- calls

module _ (s : Scope) (f : Text) (ps : Parts) (es : Operands) where
  given_or : (o : Option Signature) (b : Bool) → kinds_given_in (heads s) (head s) (where_found o (λ g. cond b (call g.place 0 es) (literal nil)))
      ≡ option_and_then (λ n. option_and_then (results (heads s) n) (kinds_by s es)) (option_and_then (λ g. where_true b (Some g.place)) o)
  given_or None b = refl
  given_or (Some g) true = refl
  given_or (Some g) false = refl

  none_given : (n : Option ℕ) → kinds_by s es ≡ None → option_and_then (λ n. option_and_then (results (heads s) n) (kinds_by s es)) n ≡ None
  none_given None e = refl
  none_given (Some n) e = rw e refl

  pub call_gives_none : kinds_by s es ≡ None → given_by s (call_meant s f ps es) ≡ None
  call_gives_none e = given_or (entry s.nodes f) (are_arguments ps) ∙ none_given (callee s f ps) e

  call_or : (o : Option Signature) (b : Bool) (n : ℕ) → option_and_then (λ g. where_true b (Some g.place)) o ≡ Some n → where_found o (λ g. cond b (call g.place 0 es) (literal nil)) ≡ call n 0 es
  call_or None b n e = cc
  call_or (Some g) false n e = cc
  call_or (Some g) true n e = let same : g.place ≡ n = cc in rw same refl

  -- a call of a node that is found is that call
  pub call_found : (ks : List Kind) (n : ℕ) (ls : List Kind) → called s f ps ks ≡ Some (n, ls) → (call_meant s f ps es ≡ call n 0 es) × (results (heads s) n ks ≡ Some ls)
  call_found ks n ls e =
      let one = and_then_gives (λ (m : ℕ). option_map (λ (l : List Kind). (m, l)) (results (heads s) m ks)) (callee s f ps) (n, ls) e in
      let two = map_gives (λ (l : List Kind). (one.0, l)) (results (heads s) one.0 ks) (n, ls) one.2 in
      let same : one.0 ≡ n = ap (λ x. x.0) two.2 in
      let gives : two.0 ≡ ls = ap (λ x. x.1) two.2 in
      (call_or (entry s.nodes f) (are_arguments ps) n (one.1 ∙ ap Some same), subst (λ m. results (heads s) m ks ≡ Some two.0) same two.1 ∙ ap Some gives)

-- forms with parts that have types

pub merge_is : (s : Scope) (c : Text) (bs : Parts) (es : Operands) (x : Placed) (ns : List ℕ) → entry s.variables c ≡ Some x → branch_places s x.kind bs ≡ Some ns → true ≡ each_once (size_of s x.kind) ns
    → merge_meant s c bs es ≡ merge x.place (in_order (size_of s x.kind) ns es)
merge_is s c bs es x ns variable places each = rw variable (rw places (rw (← each) refl))

pub structure_is : (s : Scope) (t : Text) (fs : Parts) (es : Operands) (u : ℕ) (ns : List ℕ) → entry s.types t ≡ Some (kinds.Struct u) → option_map (map (λ x. x.place)) (fields_asked s (kinds.Struct u) fs) ≡ Some ns → true ≡ each_once (length (fields_of s (kinds.Struct u))) ns
    → structure_meant s t fs es ≡ operate (operators.Structure u) (in_order (length (fields_of s (kinds.Struct u))) ns es)
structure_is s t fs es u ns type_is places each =
    rw type_is (rw (fields_arranged (length (fields_of s (kinds.Struct u))) es (fields_asked s (kinds.Struct u) fs)) (rw places (rw (← each) refl)))
