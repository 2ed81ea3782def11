-- Variables that are declared after those of a node leave the clocks of these, and are each on the clock whose newest test
-- they have.
use Rattle.std.proofs.Common.{◌≡◌, ℕ, zero, suc, ◌+◌, ◌<◌, List, [], ◌∷◌, ◌++◌, length, Option, Some, None, refl, sym, ap, ◌∙◌, subst, arith, ⊎_elim}
use Rattle.std.proofs.lemmas.Bool.{cases_lt}
use Rattle.std.proofs.lemmas.List.{length-append}
use Rattle.lus_values.specs.Lists.{item, Each, Below}
use Rattle.lus_values.specs.declared.test.Test.{Test}
use Rattle.lus_program.specs.Programs.{Variable, Node, Program, no_variable}
use Rattle.lus_streams.specs.Clocks.{Clock, chain, clock_of}
use Rattle.lus_streams.specs.OnClock.{IsDeclared, test_of, IsOnClocks}
use Rattle.lus_streams.specs.Order.{clock_variables}
use Rattle.lus_streams.proofs.Lists.{below_at, item_past}
use Rattle.lus_normal_form.specs.Named.{Known, IsNamed}
use Rattle.lus_normal_form.specs.Laws.{IsChain}

-- the tests of a named node's variables test its variables
tested_known : (f : Node) (x : ℕ) (t : Test) → test_of f x ≡ Some t → IsDeclared f x (test_of f x) → Each (Known f) (clock_variables (clock_of f x)) → Known f t.variable
tested_known f x t e declared known =
    let clock : clock_of f x ≡ t ∷ clock_of f t.variable = (subst (IsDeclared f x) e declared).0 in
    (subst (λ k. Each (Known f) (clock_variables k)) clock known).0

pub tests_known : (p : Program) (f : Node) → IsNamed p f → IsOnClocks p f → (x : ℕ) (t : Test) → test_of f x ≡ Some t → Known f t.variable
tests_known p f named on_clocks x t e =
    ⊎_elim
    (λ lt. tested_known f x t e (below_at (λ y. IsDeclared f y (test_of f y)) (length f.variables) on_clocks.declared x lt) (below_at (λ y. Each (Known f) (clock_variables (clock_of f y))) (length f.variables) named.clocks x lt))
    (λ ge. let none : test_of f x ≡ None = ap (λ (v : Variable). v.test) (item_past no_variable f.variables x ge) in let wrong : None ≡ Some t = sym none ∙ e in cc)
    (cases_lt x (length f.variables))

-- the newest test of a clock
abbrev pub newest : Clock → Option Test
newest [] = None
newest (t ∷ k) = Some t

module _ (f : Node) (declared : Below (length f.variables) (λ x. IsDeclared f x (test_of f x))) (added : List Variable)
    (within : (x : ℕ) (t : Test) → test_of f x ≡ Some t → t.variable < length f.variables) where
  abbrev vs : List Variable
  vs = f.variables

  item_append : (xs ys : List Variable) (x : ℕ) → x < length xs → item no_variable (xs ++ ys) x ≡ item no_variable xs x
  item_append [] ys x lt = let wrong : ⊥ = omega (arith, lt) in absurd wrong
  item_append (v ∷ xs) ys zero lt = refl
  item_append (v ∷ xs) ys (suc x) lt = item_append xs ys x (omega (arith, lt))

  abbrev link : Option Test → (ℕ → Clock) → Clock
  link o next = elim o [ None ↦ [] | Some t ↦ t ∷ next t.variable ]

  no_chain : (ws : List Variable) (x : ℕ) → (item no_variable ws x).test ≡ None → (n : ℕ) → chain n ws x ≡ []
  no_chain ws x e zero = refl
  no_chain ws x e (suc n) = ap (λ o. link o (chain n ws)) e

  -- one more step changes nothing
  one_step : (x : ℕ) (o : Option Test) → test_of f x ≡ o → IsDeclared f x o → chain (suc (length vs)) vs x ≡ chain (length vs) vs x
  one_step x None e d = ap (λ o. link o (chain (length vs) vs)) e ∙ sym (no_chain vs x e (length vs))
  one_step x (Some t) e d = ap (λ o. link o (chain (length vs) vs)) e ∙ sym d.0

  stable : (x : ℕ) → x < length vs → chain (suc (length vs)) vs x ≡ chain (length vs) vs x
  stable x lt = one_step x (test_of f x) refl (below_at (λ x. IsDeclared f x (test_of f x)) (length vs) declared x lt)

  link_same : (o : Option Test) (g h : ℕ → Clock) → ((t : Test) → o ≡ Some t → g t.variable ≡ h t.variable) → link o g ≡ link o h
  link_same None g h e = refl
  link_same (Some t) g h e = ap (λ k. t ∷ k) (e t refl)

  more_steps : (n x : ℕ) → x < length vs → chain (n + length vs) vs x ≡ chain (length vs) vs x
  more_steps zero x lt = let e : 0 + length vs ≡ length vs = omega arith in ap (λ m. chain m vs x) e
  more_steps (suc n) x lt =
      let e : suc n + length vs ≡ suc (n + length vs) = omega arith in
      ap (λ m. chain m vs x) e
      ∙ link_same (test_of f x) (chain (n + length vs) vs) (chain (length vs) vs) (λ t et. more_steps n t.variable (within x t et))
      ∙ stable x lt

  appended : (n x : ℕ) → x < length vs → chain n (vs ++ added) x ≡ chain n vs x
  appended zero x lt = refl
  appended (suc n) x lt =
      ap (λ v. link v.test (chain n (vs ++ added))) (item_append vs added x lt)
      ∙ link_same (test_of f x) (chain n (vs ++ added)) (chain n vs) (λ t et. appended n t.variable (within x t et))

  -- after more steps than f has variables
  steps_stay : (n x : ℕ) → x < length vs → chain (n + length vs) (vs ++ added) x ≡ clock_of f x
  steps_stay n x lt = appended (n + length vs) x lt ∙ more_steps n x lt

  pub clock_stays : (x : ℕ) → x < length vs → chain (length (vs ++ added)) (vs ++ added) x ≡ clock_of f x
  clock_stays x lt =
      let e : length (vs ++ added) ≡ length added + length vs = omega (arith, length-append vs added) in
      ap (λ m. chain m (vs ++ added) x) e ∙ steps_stay (length added) x lt

  -- a variable that is declared with the newest test of a clock of f is on it
  pub added_clock : (n y : ℕ) (k : Clock) → length added ≡ suc n → (item no_variable (vs ++ added) y).test ≡ newest k → IsChain f k → Each (Known f) (clock_variables k) → chain (length (vs ++ added)) (vs ++ added) y ≡ k
  added_clock n y [] size e h known = no_chain (vs ++ added) y e (length (vs ++ added))
  added_clock n y (t ∷ k) size e h known =
      let whole : length (vs ++ added) ≡ suc (n + length vs) = omega (arith, length-append vs added, size) in
      ap (λ m. chain m (vs ++ added) y) whole
      ∙ ap (λ o. link o (chain (n + length vs) (vs ++ added))) e
      ∙ ap (λ j. t ∷ j) (steps_stay n t.variable known.0 ∙ h.0)
