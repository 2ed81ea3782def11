-- A node that is made from another is its normal form.
use Rattle.std.proofs.Common.{◌≡◌, ◌∙◌, ap, sym, refl, ℕ, zero, suc, ◌+◌, ◌<◌, ◌≤◌, nat_eq, Bool, true, false, List, [], ◌∷◌, ◌++◌, map, drop, length, Option, Some, None, if◌then◌else◌, subst, arith, length-append, append_assoc}
use Rattle.std.proofs.Math.ListN.{length-map}
use Rattle.std.proofs.Math.Logic.{inl, inr}
use Rattle.std.proofs.lemmas.Bool.{eqb-true}
use Rattle.lus_values.specs.Lists.{item, Each}
use Rattle.lus_values.proofs.Lists.{below_all}
use Rattle.lus_values.specs.declared.test.Test.{Test}
use Rattle.lus_program.specs.Programs.{Expression, literal, call, Equation, Variable, Node, Program, empty_node, no_variable, node_at}
use Rattle.lus_streams.specs.Clocks.{Clock, chain, clock_of, Part, at, parts}
use Rattle.lus_streams.specs.Equations.{Definition, given_by, place_in, equation_clock, definition_in, definition_of, equation_parts, node_parts, Site, sites, sites_in}
use Rattle.lus_streams.specs.OnClock.{IsOnClocks, ProgramOnClocks, test_of}
use Rattle.lus_streams.proofs.Lists.{each_both, each_implies, each_item, each_left, each_right}
use Rattle.lus_program.specs.Resolved.{IsDefined, NodeResolved, Resolved}
use Rattle.lus_normal_form.specs.NormalForm.{IsRight, StandsFor}
use Rattle.lus_normal_form.specs.NormalNodes.{AreSites, DefinesNew, EachFrom, IsDefinition, IsNormalNode, IsWithin, count_rights, memories, firsts}
use Rattle.lus_normal_form.specs.Named.{AreNamed, DefinesFirst, GivesOutput, IsNamed, Known, Uses}
use Rattle.lus_normal_form.specs.Laws.{IsOnChain}
use Rattle.lus_normal_form.proofs.Equations.{each_within}
use Rattle.lus_normal_form.proofs.Faults.{first_part}
use Rattle.lus_normal_form.proofs.FirstsDefined.{equations_define}
use Rattle.lus_normal_form.proofs.MoreVariables.{added_clock, clock_stays, newest, tests_known}
use Rattle.lus_normal_form.proofs.OneTest.{one_test_suffices}
use Rattle.lus_normal_form.proofs.ResolvedNamed.{resolved_are_named}
use Rattle.lus_normal_form.specs.Forms.{Operand, right_count, listed, operands_form, right_form, right_out, added_equations, normal_equations}
use Rattle.lus_normal_form.specs.Parts.{right_taken, equations_taken, node_taken}
use Rattle.lus_normal_form.specs.Nodes.{IsMadeFrom, newest_test, part_test}
use Rattle.lus_normal_form.specs.Computed.{HasFormals, IsNew, IsRightOf, MadeAreNormal}
use Rattle.lus_normal_form.proofs.Counted.{parts_of, taken_length, taken_out}
use Rattle.lus_normal_form.proofs.HaveFormals.{all_have_formals}
use Rattle.lus_normal_form.proofs.Memories.{same_firsts, same_memories}
use Rattle.lus_normal_form.proofs.RightsNormal.{rights_are_normal}
use Rattle.lus_normal_form.proofs.Runs.{from_append, from_both, from_each, from_implies, from_left, from_right}
use Rattle.lus_normal_form.proofs.SimpleForms.{form_simple, right_head}
use Rattle.lus_normal_form.proofs.Sites.{head, heads, needs, right_sites}
use Rattle.lus_normal_form.proofs.TakenWithin.{taken_within}
use Rattle.lus_normal_form.proofs.Targets.{all_lefts, is_defined, targets_known, total}

-- each part stands for the variable of its place
new_later : (p : Program) (m : ℕ) (e : Part) (xs : List Part) (y : ℕ) (t : Part) → IsNew p (StandsFor (suc m) xs) y t → IsNew p (StandsFor m (e ∷ xs)) y t
new_later p m e xs y (at k a) h = inr h

each_stands : (p : Program) (m : ℕ) (xs : List Part) → EachFrom (IsNew p (StandsFor m xs)) m xs
each_stands p m [] = tt
each_stands p m (at k a ∷ xs) =
    (inl (refl, refl), from_implies (IsNew p (StandsFor (suc m) xs)) (IsNew p (StandsFor m (at k a ∷ xs))) (new_later p m (at k a) xs) (suc m) xs (each_stands p (suc m) xs))

-- the tests with which variables are declared
item_behind : (vs : List Variable) (v : Variable) (us : List Variable) (y : ℕ) → y ≡ length vs → item no_variable (vs ++ v ∷ us) y ≡ v
item_behind [] v us zero e = refl
item_behind [] v us (suc y) e = let wrong : ⊥ = omega (arith, e) in absurd wrong
item_behind (w ∷ vs) v us zero e = let wrong : ⊥ = omega (arith, e) in absurd wrong
item_behind (w ∷ vs) v us (suc y) e = item_behind vs v us y (omega (arith, e))

each_tested : (n : ℕ) (vs added : List Variable) (ts : List Part) → n ≡ length vs → map (λ v. v.test) added ≡ map part_test ts → EachFrom (λ y t. (item no_variable (vs ++ added) y).test ≡ part_test t) n ts
each_tested n vs added [] e h = tt
each_tested n vs [] (t ∷ ts) e h = cc
each_tested n vs (v ∷ added) (t ∷ ts) e h =
    let own : v.test ≡ part_test t = cc in
    let rest : map (λ (v : Variable). v.test) added ≡ map part_test ts = cc in
    let size : suc n ≡ length (vs ++ v ∷ []) = (let sum = length-append vs (v ∷ []) in omega (arith, sum, e)) in (
      ap (λ (z : Variable). z.test) (item_behind vs v added n e) ∙ own,
      subst (λ us. EachFrom (λ y u. (item no_variable us y).test ≡ part_test u) (suc n) ts) (append_assoc vs (v ∷ []) added) (each_tested (suc n) (vs ++ v ∷ []) added ts size rest),
    )

newest_same : (k : Clock) → newest_test k ≡ newest k
newest_same [] = refl
newest_same (t ∷ k) = refl

-- what is added before doesn't define x
-- what an equation with these variables on the left defines, or what is defined later
abbrev Given : Expression → List ℕ → Clock → Option Definition → Option ℕ → Option Definition
Given e xs k later i = elim i [ None ↦ later | Some j ↦ Some (given_by e j xs k) ]

abbrev first_if : Bool → Option ℕ
first_if b = if b then Some 0 else None

pass_one : (f : Node) (n : ℕ) (e : Expression) (later : Option Definition) (x : ℕ) → x < n → (b : Bool) → nat_eq x n ≡ b → Given e (n ∷ []) (clock_of f n) later (first_if b) ≡ later
pass_one f n e later x lt true same = let is : x ≡ n = eqb-true x n same in let wrong : ⊥ = omega (arith, lt, is) in absurd wrong
pass_one f n e later x lt false same = refl

skipped : (f : Node) (n : ℕ) (es : List Expression) (rest : List Equation) (x : ℕ) → x < n → definition_in f (added_equations n es ++ rest) x ≡ definition_in f rest x
skipped f n [] rest x lt = refl
skipped f n (e ∷ es) rest x lt = pass_one f n (right_form (suc n) e) (definition_in f (added_equations (suc n) es ++ rest) x) x lt (nat_eq x n) refl ∙ skipped f (suc n) es rest x (omega (arith, lt))

module _ (p : Program) (f f' : Node) (r : NodeResolved p f) (o : IsOnClocks p f) (named : IsNamed p f) (made : IsMadeFrom p f f') where
  abbrev w : ℕ
  w = length f.variables

  abbrev ts : List Part
  ts = node_taken p f

  abbrev New : ℕ → Clock → Expression → Type 0
  New = StandsFor w ts

  within : (x : ℕ) (t : Test) → test_of f x ≡ Some t → t.variable < length f.variables
  within = tests_known p f named o

  added_size : length made.added ≡ length ts
  added_size = sym (length-map made.added (λ v. v.test)) ∙ ap length made.tests ∙ length-map ts part_test

  pub width : length f'.variables ≡ w + length ts
  width = ap length made.variables ∙ length-append f.variables made.added ∙ ap (λ n. w + n) added_size

  pub taken_total : (qs : List Equation) → length (equations_taken p f qs) ≡ total qs
  taken_total [] = refl
  taken_total (q ∷ qs) =
      let k = equation_clock f q in
      let sum = length-append (right_taken p q.right k) (equations_taken p f qs) in
      let first = taken_length p q.right k in
      let rest = taken_total qs in
      omega (arith, sum, first, rest)

  pub old_clock : (x : ℕ) → x < w → clock_of f' x ≡ clock_of f x
  old_clock x lt = ap (λ vs. chain (length vs) vs x) made.variables ∙ clock_stays f o.declared made.added within x lt

  -- the clock of y is the part's
  abbrev IsOn : ℕ → Part → Type 0
  IsOn y (at k a) = clock_of f' y ≡ k

  abbrev Fits : Part → Type 0
  Fits t = IsOnChain f t × Uses (Known f) (GivesOutput p f) t

  on_clock : (n : ℕ) → length made.added ≡ suc n → (y : ℕ) (t : Part) → ((item no_variable (f.variables ++ made.added) y).test ≡ part_test t) × Fits t → IsOn y t
  on_clock n size y (at k a) h =
      ap (λ vs. chain (length vs) vs y) made.variables ∙ added_clock f o.declared made.added within n y k size (h.0 ∙ newest_same k) h.1.0 h.1.1.0

  new_clocks : Each Fits ts → EachFrom IsOn w ts
  new_clocks fit = choose ts refl
    where
      choose : (us : List Part) → ts ≡ us → EachFrom IsOn w us
      choose [] e = tt
      choose (u ∷ us) e =
          let Test : ℕ → Part → Type 0 = λ y t. (item no_variable (f.variables ++ made.added) y).test ≡ part_test t in
          let Both : ℕ → Part → Type 0 = λ y t. Test y t × Fits t in
          let all = from_both Test (λ y t. Fits t) w ts (each_tested w f.variables made.added ts refl made.tests) (from_each Fits w ts fit) in
          subst (EachFrom IsOn w) e (from_implies Both IsOn (on_clock (length us) (added_size ∙ ap length e)) w ts all)

  -- the normal forms of the right sides, and of what is taken out of them
  abbrev AreRights : ℕ → List Equation → Type 0
  AreRights n [] = Unit {0}
  AreRights n (q ∷ qs) =
      IsRight p New q.right (right_form n q.right) (equation_clock f q) × EachFrom (IsRightOf p New) n (right_taken p q.right (equation_clock f q))
      × AreRights (n + right_count q.right) qs

  are_rights : (n : ℕ) (qs : List Equation) → Each (HasFormals p) (equation_parts p f qs) → EachFrom (IsNew p New) n (equations_taken p f qs) → AreRights n qs
  are_rights n [] have h = tt
  are_rights n (q ∷ qs) have h =
      let k = equation_clock f q in
      let m = n + right_count q.right in
      let size : n + length (right_taken p q.right k) ≡ m = ap (λ z. n + z) (taken_length p q.right k) in
      let here = rights_are_normal p w ts q.right k n (each_left (HasFormals p) (parts p q.right k) (equation_parts p f qs) have) (from_left (IsNew p New) n (right_taken p q.right k) (equations_taken p f qs) h) in
      (here.0, here.1, are_rights m qs (each_right (HasFormals p) (parts p q.right k) (equation_parts p f qs) have) (from_right (IsNew p New) n m (right_taken p q.right k) (equations_taken p f qs) size h))

  -- definitions of the node's own variables
  defined_first : (e e' : Expression) (xs : List ℕ) (k k' : Clock) (d d' : Option Definition) (i : Option ℕ) → k' ≡ k → IsRight p New e e' k → IsDefinition p New d d'
      → IsDefinition p New (elim i [ None ↦ d | Some j ↦ Some (given_by e j xs k) ]) (elim i [ None ↦ d' | Some j ↦ Some (given_by e' j xs k') ])
  defined_first e e' xs k k' d d' None same is later = later
  defined_first e e' xs k k' d d' (Some j) same is later = (e', ap (λ z. Some (given_by e' j xs z)) same, is)

  own_definition : (n : ℕ) (qs : List Equation) → w ≤ n → AreRights n qs → Each (DefinesFirst f) qs → (x : ℕ) → x < w → IsDefinition p New (definition_in f qs x) (definition_in f' (normal_equations n qs) x)
  own_definition n [] le h first x lt = refl
  own_definition n (q ∷ qs) le h first x lt =
      let m = n + right_count q.right in
      let first_target = item 0 q.targets 0 in
      let later = definition_in f' (added_equations n (right_out q.right) ++ normal_equations m qs) x in
      let others = own_definition m qs (omega (arith, le)) h.2 first.1 x lt in
      let past = subst (IsDefinition p New (definition_in f qs x)) (sym (skipped f' n (right_out q.right) (normal_equations m qs) x (omega (arith, le, lt)))) others in
      defined_first q.right (right_form n q.right) q.targets (equation_clock f q) (clock_of f' first_target) (definition_in f qs x) later (place_in x q.targets 0) (old_clock first_target first.0.0) h.0 past

  -- definitions of new variables
  added_definitions : (n : ℕ) (us : List Part) → Each (DefinesFirst f') (added_equations n (parts_of us)) → EachFrom (IsRightOf p New) n us → EachFrom IsOn n us → EachFrom (DefinesNew p f' New) n us
  added_definitions n [] first h on = tt
  added_definitions n (at k a ∷ us) first h on =
      ((on.0, (right_form (suc n) a, first.0.1 ∙ ap (λ z. Some (given_by (right_form (suc n) a) 0 (n ∷ []) z)) on.0, h.0)), added_definitions (suc n) us first.1 h.1 on.1)

  new_definitions : (n : ℕ) (qs : List Equation) → Each (DefinesFirst f') (normal_equations n qs) → AreRights n qs → EachFrom IsOn n (equations_taken p f qs) → EachFrom (DefinesNew p f' New) n (equations_taken p f qs)
  new_definitions n [] first h on = tt
  new_definitions n (q ∷ qs) first h on =
      let us = right_taken p q.right (equation_clock f q) in
      let m = n + right_count q.right in
      let others = equations_taken p f qs in
      let size : n + length us ≡ m = ap (λ z. n + z) (taken_length p q.right (equation_clock f q)) in
      let new = added_equations n (right_out q.right) in
      let own : Each (DefinesFirst f') (added_equations n (parts_of us)) =
      subst (λ es. Each (DefinesFirst f') (added_equations n es)) (sym (taken_out p q.right (equation_clock f q))) (each_left (DefinesFirst f') new (normal_equations m qs) first.1) in
      from_append (DefinesNew p f' New) n m us others size (added_definitions n us own h.1 (from_left IsOn n us others on))
      (new_definitions m qs (each_right (DefinesFirst f') new (normal_equations m qs) first.1) h.2 (from_right IsOn n m us others size on))

  -- the calls of the normal form, in order; p' says on which clocks the outputs of called nodes are
  abbrev node_heads : Program → ℕ → List Equation → List Site
  node_heads p' n [] = []
  node_heads p' n (q ∷ qs) =
      (head p' (right_form n q.right) (equation_clock f q) ++ heads p' n (right_taken p q.right (equation_clock f q))) ++ node_heads p' (n + right_count q.right) qs

  source_sites : (n : ℕ) (qs : List Equation) → AreRights n qs → AreSites p New (sites_in p (equation_parts p f qs)) (node_heads p n qs)
  source_sites n [] h = refl
  source_sites n (q ∷ qs) h =
      let k = equation_clock f q in
      right_sites p New q.right k n (needs p New q.right n k h.0) h.1 (equation_parts p f qs) (node_heads p (n + right_count q.right) qs) (source_sites (n + right_count q.right) qs h.2)

  module _ (p' : Program) where
    added_sites : (n : ℕ) (us : List Part) (rs : List Equation) → EachFrom IsOn n us → sites_in p' (equation_parts p' f' (added_equations n (parts_of us) ++ rs)) ≡ heads p' n us ++ sites_in p' (equation_parts p' f' rs)
    added_sites n [] rs on = refl
    added_sites n (at k a ∷ us) rs on =
        let e = right_form (suc n) a in
        let others = equation_parts p' f' (added_equations (suc n) (parts_of us) ++ rs) in
        right_head p' e (clock_of f' n) others (form_simple a (suc n))
        ∙ ap (λ z. head p' e z ++ sites_in p' others) on.0
        ∙ ap (λ l. head p' e k ++ l) (added_sites (suc n) us rs on.1)
        ∙ sym (append_assoc (head p' e k) (heads p' (suc n) us) (sites_in p' (equation_parts p' f' rs)))

    normal_sites : (n : ℕ) (qs : List Equation) → Each (DefinesFirst f) qs → EachFrom IsOn n (equations_taken p f qs) → sites_in p' (equation_parts p' f' (normal_equations n qs)) ≡ node_heads p' n qs
    normal_sites n [] first on = refl
    normal_sites n (q ∷ qs) first on =
        let k = equation_clock f q in
        let e = right_form n q.right in
        let us = right_taken p q.right k in
        let m = n + right_count q.right in
        let rs = normal_equations m qs in
        let size : n + length us ≡ m = ap (λ z. n + z) (taken_length p q.right k) in
        let others = equation_parts p' f' (added_equations n (right_out q.right) ++ rs) in
        right_head p' e (clock_of f' (item 0 q.targets 0)) others (form_simple q.right n)
        ∙ ap (λ z. head p' e z ++ sites_in p' others) (old_clock (item 0 q.targets 0) first.0.0)
        ∙ ap (λ es. head p' e k ++ sites_in p' (equation_parts p' f' (added_equations n es ++ rs))) (sym (taken_out p q.right k))
        ∙ ap (λ l. head p' e k ++ l) (added_sites n us rs (from_left IsOn n us (equations_taken p f qs) on))
        ∙ ap (λ l. head p' e k ++ (heads p' n us ++ l)) (normal_sites m qs first.1 (from_right IsOn n m us (equations_taken p f qs) size on))
        ∙ sym (append_assoc (head p' e k) (heads p' n us) (node_heads p' m qs))

    -- the called node's outputs are on the same clocks in p'
    abbrev Kept : Part → Type 0
    Kept (at k (call g c args)) = clock_of (node_at p' g) (node_at p' g).inputs ≡ clock_of (node_at p g) (node_at p g).inputs
    Kept _ = Unit {0}

    head_kept : (a : Expression) (n : ℕ) (k : Clock) → Kept (at k a) → head p' (right_form n a) k ≡ head p (right_form n a) k
    head_kept (call g c args) n k h = ap (λ (l : Clock). record { node = g; number = c; args = listed (operands_form Operand n args); base = drop (length l) k } ∷ []) h
    head_kept (literal v) n k h = refl
    head_kept e n k h = refl

    heads_kept : (n : ℕ) (us : List Part) → Each Kept us → heads p' n us ≡ heads p n us
    heads_kept n [] h = refl
    heads_kept n (at k a ∷ us) h = λ i. head_kept a (suc n) k h.0 i ++ heads_kept (suc n) us h.1 i

    -- what holds of each part of f holds of the right sides and of what is taken out of them
    node_heads_kept : (n : ℕ) (qs : List Equation) → Each Kept (equation_parts p f qs) → Each Kept (equations_taken p f qs) → node_heads p' n qs ≡ node_heads p n qs
    node_heads_kept n [] h out = refl
    node_heads_kept n (q ∷ qs) h out =
        let k = equation_clock f q in
        let us = right_taken p q.right k in
        let own = first_part p Kept q.right k (each_left Kept (parts p q.right k) (equation_parts p f qs) h) in
        let first = head_kept q.right n k own in
        let second = heads_kept n us (each_left Kept us (equations_taken p f qs) out) in
        let rest = node_heads_kept (n + right_count q.right) qs (each_right Kept (parts p q.right k) (equation_parts p f qs) h) (each_right Kept us (equations_taken p f qs) out) in
        λ i. (first i ++ second i) ++ rest i

    -- what holds of each part holds of what is taken out
    taken_have : (P : Part → Type 0) → Each P (node_parts p f) → Each P ts
    taken_have P h = each_implies (IsWithin p (node_parts p f)) P (λ t inside. of_part t inside) ts (taken_within p f)
      where
        of_part : (t : Part) → IsWithin p (node_parts p f) t → P t
        of_part (at k a) inside = first_part p P a k (each_within p P (node_parts p f) k a inside h)

    node_made : Each (IsOnChain f) (node_parts p f) → Each (HasFormals p) (node_parts p f) → Each Kept (node_parts p f) → IsNormalNode p p' f f' ts
    node_made chains have kept =
        let fits = taken_have Fits (each_both (IsOnChain f) (Uses (Known f) (GivesOutput p f)) (node_parts p f) chains named.uses) in
        let on = new_clocks fits in
        let rights = are_rights w f.equations have (each_stands p w ts) in
        let low : f.inputs ≤ length f.variables = (let fit = r.formals in omega (arith, fit)) in
        let size : length f'.variables ≡ length f.variables + total f.equations = width ∙ ap (λ n. w + n) (taken_total f.equations) in
        let lefts = subst (Each (λ q. 0 < length q.targets)) (sym made.equations) (all_lefts w f.equations r.lefts) in
        let first : Each (DefinesFirst f') f'.equations =
        equations_define f' lefts (targets_known f f' made.inputs low made.equations size r.targets r.defined)
        (below_all (IsDefined f') (length f'.variables) (is_defined f f' made.inputs low made.equations size r.targets r.defined)) in
        record {
          inputs = made.inputs;
          outputs = made.outputs;
          width = width;
          clocks = below_all (λ x. clock_of f' x ≡ clock_of f x) w old_clock;
          definitions =
              below_all (λ x. IsDefinition p New (definition_of f x) (definition_of f' x)) w
              (λ x lt. subst (λ qs. IsDefinition p New (definition_of f x) (definition_in f' qs x)) (sym made.equations) (own_definition w f.equations (omega arith) rights named.equations x lt));
          new_definitions = new_definitions w f.equations (subst (Each (DefinesFirst f')) made.equations first) rights on;
          within = taken_within p f;
          calls =
              subst (AreSites p New (sites p f)) (sym (ap (λ qs. sites_in p' (equation_parts p' f' qs)) made.equations ∙ normal_sites w f.equations named.equations on ∙ node_heads_kept w f.equations kept (taken_have Kept kept)))
              (source_sites w f.equations rights);
          equations = first;
          same_memories = ap (count_rights memories) made.equations ∙ same_memories w f.equations;
          same_firsts = ap (count_rights firsts) made.equations ∙ same_firsts w f.equations;
        }

module _ (p p' : Program) (resolved : Resolved p) (on_clocks : ProgramOnClocks p) (made : (g : ℕ) → IsMadeFrom p (node_at p g) (node_at p' g)) where
  pub all_named : AreNamed p
  all_named = resolved_are_named p resolved on_clocks

  pub node_resolved : (g : ℕ) → NodeResolved p (node_at p g)
  node_resolved g =
      each_item (NodeResolved p) empty_node p.nodes (record { formals = omega arith; variables = tt; targets = tt; defined = tt; lefts = tt; equations = tt; numbered = tt }) resolved.nodes g

  pub node_on : (g : ℕ) → IsOnClocks p (node_at p g)
  node_on g = each_item (IsOnClocks p) empty_node p.nodes (record { declared = tt; lefts = tt; rights = tt }) on_clocks g

  -- the outputs of a called node are on the clocks that they had
  output_kept : (g : ℕ) → Known (node_at p g) ((node_at p g).inputs + 0) → clock_of (node_at p' g) (node_at p' g).inputs ≡ clock_of (node_at p g) (node_at p g).inputs
  output_kept g known =
      let lt : (node_at p g).inputs < length (node_at p g).variables = omega (arith, known) in
      ap (clock_of (node_at p' g)) (made g).inputs ∙ old_clock p (node_at p g) (node_at p' g) (node_resolved g) (node_on g) (all_named g) (made g) (node_at p g).inputs lt

  part_kept : (g : ℕ) (t : Part) → Uses (Known (node_at p g)) (GivesOutput p (node_at p g)) t → Kept p (node_at p g) (node_at p' g) (node_resolved g) (node_on g) (all_named g) (made g) p' t
  part_kept g (at k (call h c args)) uses = output_kept h uses.1.1
  part_kept g (at k _) uses = tt

  node_is_normal : (g : ℕ) → IsNormalNode p p' (node_at p g) (node_at p' g) (node_taken p (node_at p g))
  node_is_normal g =
      let f = node_at p g in
      let chains = each_item (λ f. Each (IsOnChain f) (node_parts p f)) empty_node p.nodes tt (one_test_suffices p on_clocks) g in
      let have = each_item (λ f. Each (HasFormals p) (node_parts p f)) empty_node p.nodes tt (all_have_formals p resolved on_clocks) g in
      let K = Kept p f (node_at p' g) (node_resolved g) (node_on g) (all_named g) (made g) p' in
      node_made p f (node_at p' g) (node_resolved g) (node_on g) (all_named g) (made g) p' chains have
      (each_implies (Uses (Known f) (GivesOutput p f)) K (part_kept g) (node_parts p f) (all_named g).uses)

pub made_are_normal : MadeAreNormal
made_are_normal p p' resolved on_clocks made g = node_is_normal p p' resolved on_clocks made g
