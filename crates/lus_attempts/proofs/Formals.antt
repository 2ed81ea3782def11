-- What a call passes is on the clocks of the formals: a clock of the called node is present where the caller's is.
use Rattle.std.proofs.Common.{◌≡◌, ℕ, zero, suc, ◌+◌, ◌<◌, Bool, true, false, ◌&&◌, [], ◌∷◌, ◌++◌, length, take, Option, Some, None, is_some, refl, sym, ap, ap₂, ◌∙◌, subst, true≢false, arith}
use Rattle.lus_values.specs.Lists.{item, Each, Below}
use Rattle.lus_values.specs.Values.{Value}
use Rattle.lus_values.specs.declared.test.Test.{Test}
use Rattle.lus_values.specs.Entries.{is_constructor}
use Rattle.lus_program.specs.Programs.{Expression, variable, Operands, none, more, Node, Program}
use Rattle.lus_streams.specs.Clocks.{Clock, clock_of, operand, renamed_test, renamed_clock, formal_clock}
use Rattle.lus_streams.specs.OnClock.{IsDeclared, test_of, IsName, NamesFormals}
use Rattle.lus_streams.specs.Streams.{Instant, World, is_present, row_of, entry, is_on, where_on, value, inputs_given}
use Rattle.lus_streams.proofs.Clocks.{chain_none}
use Rattle.lus_streams.proofs.Lists.{below_at, item_take}

-- what has an entry only where a clock is present
some_where : (b : Bool) (o : Option Value) → is_some (where_on b o) ≡ true → b ≡ true
some_where true o h = refl
some_where false o h = absurd (true≢false (sym h))

and_false : (b : Bool) → (b && false) ≡ false
and_false true = refl
and_false false = refl

both_ways : (a b : Bool) → (a ≡ true → b ≡ true) → (b ≡ true → a ≡ true) → a ≡ b
both_ways true b h k = sym (h refl)
both_ways false true h k = k refl
both_ways false false h k = refl

-- a test and the rest of a clock, where the entry that is tested is that of the caller where the rest is present
test_same : (c : ℕ) (on there : Bool) (o given : Option Value) → on ≡ there → given ≡ where_on on o → (is_constructor c o && on) ≡ (is_constructor c given && there)
test_same c true there o given h e = ap₂ (λ v b. is_constructor c v && b) (sym e) h
test_same c false there o given h e = and_false (is_constructor c o) ∙ sym (and_false (is_constructor c given)) ∙ ap (λ b. is_constructor c given && b) h

module _ (p : Program) (g : Node) (args : Operands) (base : Clock) (now : Instant) (past : World) where
  -- what is passed for an input, where something is
  passed_where : (es : Operands) (m x : ℕ) → is_some (item None (inputs_given p es g args base m now past) x) ≡ true → is_on (formal_clock g args base (m + x)) now ≡ true
  passed_where none m zero h = absurd (true≢false (sym h))
  passed_where none m (suc x) h = absurd (true≢false (sym h))
  passed_where (more e es) m zero h =
      let k = formal_clock g args base m in
      let here : m ≡ m + 0 = omega arith in
      ap (λ n. is_on (formal_clock g args base n) now) (sym here) ∙ some_where (is_on k now) (value p e k now past) h
  passed_where (more e es) m (suc x) h =
      let there : suc m + x ≡ m + suc x = omega arith in
      ap (λ n. is_on (formal_clock g args base n) now) (sym there) ∙ passed_where es (suc m) x h

  -- what is passed for an input whose argument is a variable
  passed_name : (es : Operands) (m x y : ℕ) → operand es x ≡ variable y → item None (inputs_given p es g args base m now past) x ≡ where_on (is_on (formal_clock g args base (m + x)) now) (entry now y)
  passed_name none m x y h = absurd (cc)
  passed_name (more e es) m zero y h =
      let k = formal_clock g args base m in
      let here : m ≡ m + 0 = omega arith in
      ap (λ z. where_on (is_on k now) (value p z k now past)) h ∙ ap (λ n. where_on (is_on (formal_clock g args base n) now) (entry now y)) here
  passed_name (more e es) m (suc x) y h =
      let there : suc m + x ≡ m + suc x = omega arith in
      passed_name es (suc m) x y h ∙ ap (λ n. where_on (is_on (formal_clock g args base n) now) (entry now y)) there

  -- a clock of inputs, each of whose variables is an argument's name
  abbrev IsLinked : Clock → Type 0
  IsLinked [] = Unit {0}
  IsLinked (t ∷ l) = (t.variable < g.inputs) × IsName (operand args t.variable) × (l ≡ clock_of g t.variable) × IsLinked l

  module _ (j : Instant) (present : is_present j ≡ is_on base now) (given : take g.inputs (row_of j) ≡ inputs_given p args g args base 0 now past) where
    input_is : (x : ℕ) → x < g.inputs → entry j x ≡ item None (inputs_given p args g args base 0 now past) x
    input_is x lt = sym (item_take None g.inputs (row_of j) x lt) ∙ ap (λ r. item None r x) given

    test_is : (t : Test) (l : Clock) (e : Expression) → operand args t.variable ≡ e → IsName e → t.variable < g.inputs → l ≡ clock_of g t.variable → is_on (renamed_clock args l ++ base) now ≡ is_on l j
        → is_on (renamed_test e t.constructor (renamed_clock args l) ++ base) now ≡ is_on (t ∷ l) j
    test_is t l (variable y) same name lt rest on =
        let k = formal_clock g args base t.variable in
        let own : is_on k now ≡ is_on (renamed_clock args l ++ base) now = ap (λ z. is_on (renamed_clock args z ++ base) now) (sym rest) in
        let here : 0 + t.variable ≡ t.variable = omega arith in
        let entry_is : entry j t.variable ≡ where_on (is_on (renamed_clock args l ++ base) now) (entry now y) =
        input_is t.variable lt ∙ passed_name args 0 t.variable y same ∙ ap (λ n. where_on (is_on (formal_clock g args base n) now) (entry now y)) here ∙ ap (λ b. where_on b (entry now y)) own in
        test_same t.constructor (is_on (renamed_clock args l ++ base) now) (is_on l j) (entry now y) (entry j t.variable) on entry_is
    test_is t l e same name lt rest on = absurd name

    renamed_is : (l : Clock) → IsLinked l → is_on (renamed_clock args l ++ base) now ≡ is_on l j
    renamed_is [] h = sym present
    renamed_is (t ∷ l) h = test_is t l (operand args t.variable) refl h.1 h.0 h.2 (renamed_is l h.3)

    module _ (declared : Below (length g.variables) (λ x. IsDeclared g x (test_of g x))) (wide : (x : ℕ) → x < g.inputs → x < length g.variables) (named : (x : ℕ) → x < g.inputs → Each (λ t. IsName (operand args t.variable)) (clock_of g x)) where
      linked_by : (o : Option Test) (t : Test) (l : Clock) (m : ℕ) → test_of g m ≡ o → IsDeclared g m o → m < g.inputs → clock_of g m ≡ t ∷ l → (t.variable < g.inputs) × (l ≡ clock_of g t.variable)
      linked_by None t l m same d lt h = absurd (cc (chain_none (length g.variables) g.variables m same))
      linked_by (Some u) t l m same d lt h =
          let both : t ∷ l ≡ u ∷ clock_of g u.variable = sym h ∙ d.0 in
          let first : u ≡ t = cc in
          let rest : l ≡ clock_of g u.variable = cc in
          (subst (λ s. s.variable < g.inputs) first (d.1.0 lt), rest ∙ ap (λ s. clock_of g s.variable) first)

      linked : (l : Clock) (m : ℕ) → m < g.inputs → clock_of g m ≡ l → IsLinked l
      linked [] m lt h = tt
      linked (t ∷ l) m lt h =
          let own = linked_by (test_of g m) t l m refl (below_at (λ x. IsDeclared g x (test_of g x)) (length g.variables) declared m (wide m lt)) lt h in
          (own.0, (subst (Each (λ s. IsName (operand args s.variable))) h (named m lt)).0, own.1, linked l t.variable own.0 (sym own.1))

      -- an input's clock is present where its argument's is
      formal_is : (x : ℕ) → x < g.inputs → is_on (formal_clock g args base x) now ≡ is_on (clock_of g x) j
      formal_is x lt = renamed_is (clock_of g x) (linked (clock_of g x) x lt refl)

      input_on_clock : (x : ℕ) → x < g.inputs → is_some (entry j x) ≡ true → is_on (clock_of g x) j ≡ true
      input_on_clock x lt some =
          let here : 0 + x ≡ x = omega arith in
          sym (formal_is x lt) ∙ ap (λ n. is_on (formal_clock g args base n) now) (sym here) ∙ passed_where args 0 x (sym (ap is_some (input_is x lt)) ∙ some)

      -- where something is passed on each clock that is present, no input is missing
      pub none_is_missing : ((x : ℕ) → x < g.inputs → is_on (formal_clock g args base x) now ≡ true → is_some (item None (inputs_given p args g args base 0 now past) x) ≡ true)
          → (x : ℕ) → x < g.inputs → is_some (entry j x) ≡ is_on (clock_of g x) j
      none_is_missing passed x lt = both_ways (is_some (entry j x)) (is_on (clock_of g x) j) (input_on_clock x lt) (λ on. ap is_some (input_is x lt) ∙ passed x lt (formal_is x lt ∙ on))

    pub inputs_on_clocks : Below (length g.variables) (λ x. IsDeclared g x (test_of g x)) → ((x : ℕ) → x < g.inputs → x < length g.variables) → NamesFormals g args
        → (x : ℕ) → x < g.inputs → is_some (entry j x) ≡ true → is_on (clock_of g x) j ≡ true
    inputs_on_clocks declared wide named =
        input_on_clock declared wide (λ x lt. below_at (λ m. Each (λ t. IsName (operand args t.variable)) (clock_of g m)) (g.inputs + g.outputs) named x (omega (arith, lt)))
