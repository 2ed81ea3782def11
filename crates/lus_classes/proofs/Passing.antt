-- What a call passes: the inputs that its called instant is given, and entries that fit the called node.
use Rattle.std.proofs.Common.{◌≡◌, ℕ, zero, suc, ◌+◌, ◌<◌, ◌++◌, true, false, List, [], ◌∷◌, length, Bool, Option, Some, None, is_some, slice_get, refl, sym, ap, ap₂, ◌∙◌, subst, arith, le_of_suc-le-suc, not-suc-le-zero}
use Rattle.lus_values.specs.Lists.{item, Each}
use Rattle.lus_values.specs.Values.{Value, Row}
use Rattle.lus_program.specs.Programs.{Expression, variable, Operands, none, more, Node, Program, node_at}
use Rattle.lus_streams.specs.Clocks.{Clock, clock_of, operand, renamed_clock, renamed_test, formal_clock}
use Rattle.lus_streams.specs.Equations.{Site}
use Rattle.lus_streams.specs.OnClock.{IsName}
use Rattle.lus_streams.specs.Order.{clock_variables}
use Rattle.lus_streams.specs.Streams.{instant, Called, nobody, World, is_on, where_on, value, inputs_given}
use Rattle.lus_streams.proofs.Lists.{each_left, each_right}
use Rattle.lus_classes.specs.Classes.{Atom, constant, named, Argument, Call, Class, atom_reads, argument_reads}
use Rattle.lus_classes.specs.Steps.{at_row, is_on_row, atom_in, passed}
use Rattle.lus_classes.specs.ClassesOf.{atom_expression, AtomOn, AreArguments, Linked, IsCall}
use Rattle.lus_classes.specs.Laws.{Fits}
use Rattle.lus_classes.proofs.Options.{never, where_present}
use Rattle.lus_classes.proofs.Rows.{PresentOnClocks, Agree, is_on_row_same, is_on_row_is, off, off_front, test_same, absent}
use Rattle.lus_classes.proofs.Codes.{atom_value, atom_some}

passed_length : (given : List Argument) (r : Row) → length (passed given r) ≡ length given
passed_length [] r = refl
passed_length (a ∷ given) r = ap suc (passed_length given r)

pub passed_at : (given : List Argument) (r : Row) (v : ℕ) (a : Argument) → slice_get given v ≡ Some a
    → item None (passed given r) v ≡ where_on (is_on_row a.clock r) (atom_in a.atom r)
passed_at [] r v a e = absurd (cc)
passed_at (b ∷ given) r zero a e = let s : b ≡ a = cc in ap (λ z. where_on (is_on_row z.clock r) (atom_in z.atom r)) s
passed_at (b ∷ given) r (suc v) a e = passed_at given r v a e

-- what is passed depends on what the arguments read
atom_same : (a : Atom) (r t : Row) → Each (Agree r t) (atom_reads a) → atom_in a r ≡ atom_in a t
atom_same (constant v) r t h = refl
atom_same (named x) r t h = h.0

pub passed_same : (given : List Argument) (r t : Row) → Each (Agree r t) (argument_reads given) → passed given r ≡ passed given t
passed_same [] r t h = refl
passed_same (a ∷ given) r t h =
    let rest = each_right (Agree r t) (clock_variables a.clock) (atom_reads a.atom ++ argument_reads given) h in
    ap₂ ◌∷◌
    (ap₂ where_on (is_on_row_same a.clock r t (each_left (Agree r t) (clock_variables a.clock) (atom_reads a.atom ++ argument_reads given) h)) (atom_same a.atom r t (each_left (Agree r t) (atom_reads a.atom) (argument_reads given) rest)))
    (passed_same given r t (each_right (Agree r t) (atom_reads a.atom) (argument_reads given) rest))

-- what has a value only where a clock is present
some_where : (b : Bool) (o : Option Value) → is_some (where_on b o) ≡ true → b ≡ true
some_where true o h = refl
some_where false o h = absurd (never h)

module _ (p : Program) (f : Node) (c : Class) (r : Row) where
  -- the inputs given to a called instant are those that are passed
  pub passed_is_given : (js : Called) (past : World) (es : Operands) (given : List Argument) (g : Node) (args : Operands) (base : Clock) (m : ℕ)
      → AreArguments p f c es given g args base m → passed given r ≡ inputs_given p es g args base m (instant true r js) past
  passed_is_given js past none [] g args base m h = refl
  passed_is_given js past none (a ∷ given) g args base m h = absurd h
  passed_is_given js past (more e es) [] g args base m h = absurd h
  passed_is_given js past (more e es) (a ∷ given) g args base m h =
      let k = formal_clock g args base m in
      let now = instant true r js in
      ap₂ ◌∷◌
      (ap₂ where_on (is_on_row_is a.clock r js ∙ ap (λ l. is_on l now) h.1) (sym (atom_value p a.atom k now past) ∙ ap (λ z. value p z k now past) (sym h.0)))
      (passed_is_given js past es given g args base (suc m) h.3)

  -- where the base of the call is absent nothing is passed
  pub passed_off : (es : Operands) (given : List Argument) (g : Node) (args : Operands) (base : Clock) (m : ℕ) → AreArguments p f c es given g args base m
      → is_on_row base r ≡ false → passed given r ≡ absent (length given)
  passed_off none [] g args base m h e = refl
  passed_off none (a ∷ given) g args base m h e = absurd h
  passed_off (more o es) [] g args base m h e = absurd h
  passed_off (more o es) (a ∷ given) g args base m h e =
      ap₂ ◌∷◌
      (ap (λ b. where_on b (atom_in a.atom r)) (ap (λ l. is_on_row l r) h.1 ∙ off_front (renamed_clock args (clock_of g m)) base (at_row r) e))
      (passed_off es given g args base (suc m) h.3 e)

  -- and where the base of the caller is absent nothing is given
  pub given_off : (js : Called) (past : World) (es : Operands) (given : List Argument) (g : Node) (args : Operands) (base : Clock) (m : ℕ)
      → AreArguments p f c es given g args base m → absent (length given) ≡ inputs_given p es g args base m (instant false r js) past
  given_off js past none [] g args base m h = refl
  given_off js past none (a ∷ given) g args base m h = absurd h
  given_off js past (more e es) [] g args base m h = absurd h
  given_off js past (more e es) (a ∷ given) g args base m h =
      let k = formal_clock g args base m in
      ap₂ ◌∷◌ (sym (ap (λ b. where_on b (value p e k (instant false r js) past)) (off k r js))) (given_off js past es given g args base (suc m) h.3)

  -- the argument of formal m + x
  record ArgumentAt (es : Operands) (given : List Argument) (k : Clock) (x : ℕ) : Type 0 where
    pub atom : Atom
    pub same : operand es x ≡ atom_expression atom
    pub on_clock : AtomOn p f c atom k
    pub entry_is : item None (passed given r) x ≡ where_on (is_on_row k r) (atom_in atom r)

  argument_at : (es : Operands) (given : List Argument) (g : Node) (args : Operands) (base : Clock) (m x : ℕ) → AreArguments p f c es given g args base m
      → x < length given → ArgumentAt es given (formal_clock g args base (m + x)) x
  argument_at none [] g args base m x h lt = absurd (not-suc-le-zero lt)
  argument_at none (a ∷ given) g args base m x h lt = absurd h
  argument_at (more e es) [] g args base m x h lt = absurd h
  argument_at (more e es) (a ∷ given) g args base m zero h lt =
      let here : m ≡ m + 0 = omega arith in
      subst (λ z. ArgumentAt (more e es) (a ∷ given) (formal_clock g args base z) 0) here
      (record { atom = a.atom; same = h.0; on_clock = h.2; entry_is = ap (λ l. where_on (is_on_row l r) (atom_in a.atom r)) h.1 })
  argument_at (more e es) (a ∷ given) g args base m (suc x) h lt =
      let rest = argument_at es given g args base (suc m) x h.3 (le_of_suc-le-suc lt) in
      let there : suc m + x ≡ m + suc x = omega arith in
      subst (λ z. ArgumentAt (more e es) (a ∷ given) (formal_clock g args base z) (suc x)) there
      (record { atom = rest.atom; same = rest.same; on_clock = rest.on_clock; entry_is = rest.entry_is })

  -- an argument that is a variable
  named_is : (e : Expression) (a : Atom) → e ≡ atom_expression a → IsName e → (y : ℕ) × (e ≡ variable y) × (atom_in a r ≡ item None r y)
  named_is e (constant v) same h = absurd (subst IsName same h)
  named_is e (named x) same h = (x, same, refl)

  -- where the base of a call is present, what it passes is on the clocks of the called node, and fits them
  module _ (s : Site) (q : Call) (n : ℕ) (call : IsCall p f c s q n) (base_on : is_on_row s.base r ≡ true) where
    abbrev g : Node
    g = node_at p s.node

    abbrev i : Row
    i = passed q.arguments r

    formal : (x : ℕ) → x < g.inputs → ArgumentAt s.args q.arguments (formal_clock g s.args s.base x) x
    formal x lt =
        let here : 0 + x ≡ x = omega arith in
        subst (λ z. ArgumentAt s.args q.arguments (formal_clock g s.args s.base z) x) here
        (argument_at s.args q.arguments g s.args s.base 0 x call.arguments (subst (λ z. x < z) (sym call.arity) lt))

    -- a clock of the called node is present where the caller's is
    renamed_is : (l : Clock) → Linked p f c g s.args l → is_on (renamed_clock s.args l ++ s.base) (at_row r) ≡ is_on l (at_row i)
    renamed_is [] h = base_on
    renamed_is (t ∷ l) h =
        let a = formal t.variable h.0 in
        let k = formal_clock g s.args s.base t.variable in
        let y = named_is (operand s.args t.variable) a.atom a.same h.1 in
        let same_clock : is_on_row k r ≡ is_on (renamed_clock s.args l ++ s.base) (at_row r) = ap (λ z. is_on (renamed_clock s.args z ++ s.base) (at_row r)) (sym h.2) in
        ap (λ z. is_on (renamed_test z t.constructor (renamed_clock s.args l) ++ s.base) (at_row r)) y.1
        ∙ test_same t.constructor (is_on (renamed_clock s.args l ++ s.base) (at_row r)) (is_on l (at_row i)) (is_on_row k r) (item None r y.0) (item None i t.variable) (renamed_is l h.3) same_clock
        (a.entry_is ∙ ap (where_on (is_on_row k r)) y.2)

    site_on_clocks : (x : ℕ) → x < g.inputs → is_some (item None i x) ≡ true → is_on_row (clock_of g x) i ≡ true
    site_on_clocks x lt some =
        let a = formal x lt in
        sym (renamed_is (clock_of g x) (call.linked x lt))
        ∙ some_where (is_on_row (formal_clock g s.args s.base x) r) (atom_in a.atom r) (sym (ap is_some a.entry_is) ∙ some)

    site_fits : PresentOnClocks f (at_row r) → Fits g i
    site_fits presence = record {
      long = passed_length q.arguments r ∙ call.arity;
      presence = λ x lt.
          let a = formal x lt in
          ap is_some a.entry_is
          ∙ where_present (is_on_row (formal_clock g s.args s.base x) r) (atom_in a.atom r) (λ t. atom_some p f c r nobody presence a.atom (formal_clock g s.args s.base x) a.on_clock t)
          ∙ renamed_is (clock_of g x) (call.linked x lt);
    }

  -- in any row of the caller
  pub arguments_on_clocks : (s : Site) (q : Call) (n : ℕ) → IsCall p f c s q n → is_on_row q.base r ≡ true
      → (x : ℕ) → x < (node_at p q.node).inputs → is_some (item None (passed q.arguments r) x) ≡ true → is_on_row (clock_of (node_at p q.node) x) (passed q.arguments r) ≡ true
  arguments_on_clocks s q n call t =
      subst (λ m. (x : ℕ) → x < (node_at p m).inputs → is_some (item None (passed q.arguments r) x) ≡ true → is_on_row (clock_of (node_at p m) x) (passed q.arguments r) ≡ true) (sym call.node)
      (site_on_clocks s q n call (ap (λ l. is_on_row l r) (sym call.base) ∙ t))

  pub arguments_fit : PresentOnClocks f (at_row r) → (s : Site) (q : Call) (n : ℕ) → IsCall p f c s q n → is_on_row q.base r ≡ true
      → Fits (node_at p q.node) (passed q.arguments r)
  arguments_fit presence s q n call t =
      subst (λ m. Fits (node_at p m) (passed q.arguments r)) (sym call.node)
      (site_fits s q n call (ap (λ l. is_on_row l r) (sym call.base) ∙ t) presence)
