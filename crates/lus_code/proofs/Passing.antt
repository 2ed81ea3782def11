-- What calls pass is on the clocks of the called classes.
use Rattle.std.proofs.Common.{◌≡◌, ◌∙◌, ◌<◌, ◌≤◌, ◌⊎◌, inl, inr, ℕ, zero, suc, true, List, [], ◌∷◌, map, length, Option, Some, None, is_some, slice_get, refl, sym, ap, ap₂, subst, arith, true≢false}
use Rattle.std.proofs.lemmas.Bool.{and_parts, cases_lt}
use Rattle.lus_values.specs.Lists.{item}
use Rattle.lus_values.specs.Values.{Row}
use Rattle.lus_values.specs.declared.test.Test.{Test}
use Rattle.lus_program.specs.Programs.{Node, Program, node_at}
use Rattle.lus_streams.specs.Equations.{Site, sites}
use Rattle.lus_streams.specs.Streams.{where_on}
use Rattle.lus_classes.specs.Classes.{Argument as PlainArgument, clock_in}
use Rattle.lus_classes.specs.ClassesOf.{AreCalls, IsCall}
use Rattle.lus_classes.specs.Looks.{newest, short_argument, short_of}
use Rattle.lus_classes.specs.Passing.{PassGiven}
use Rattle.lus_classes.specs.Played.{GivenOnClocks}
use Rattle.lus_classes.specs.Steps.{atom_in, is_on_row, passed}
use Rattle.lus_classes.specs.View.{argument_of, atom_of, call_of, chain_in, class_of, clock_from}
use Rattle.lus_classes.proofs.Passing.{arguments_on_clocks}
use Rattle.lus_classes.proofs.ShortTurns.{short_clock_at, whole_clock_at}
use Rattle.lus_instructions.specs.Executed.{holds_in}
use Rattle.lus_instructions.specs.declared.class.Argument.{Argument}
use Rattle.lus_instructions.specs.declared.class.Call.{Call}
use Rattle.lus_instructions.specs.declared.class.Class.{Class}
use Rattle.lus_turns.specs.Turned.{AreTurned, IsTurned}
use Rattle.lus_emission.proofs.OnClocks.{both_true, clock_looks, newest_is}

passed_length : (qs : List PlainArgument) (r : Row) → length (passed qs r) ≡ length qs
passed_length [] r = refl
passed_length (q ∷ qs) r = ap suc (passed_length qs r)

past_end : (r : Row) (x : ℕ) → length r ≤ x → item None r x ≡ None
past_end [] x le = refl
past_end (v ∷ r) zero le = absurd (omega (arith, le))
past_end (v ∷ r) (suc x) le = past_end r x (omega (arith, le))

-- where a clock is present its newest test holds
newest_on : (ts : List (Option Test)) (o : Option Test) (r : Row) → is_on_row (clock_from ts o) r ≡ true → is_on_row (newest o) r ≡ true
newest_on ts None r on = refl
newest_on ts (Some t) r on = both_true (holds_in t r) true (and_parts (holds_in t r) (is_on_row (chain_in (length ts) ts t.variable) r) on).0 refl

-- where entries stand on their clocks, what is passed by newest tests is what is passed by whole clocks
module _ (c : Class) (r : Row) (given : GivenOnClocks (short_of c) r) where
  passed_whole : (given_here : List Argument) → passed (map short_argument given_here) r ≡ passed (map (argument_of c.tests.items) given_here) r
  passed_whole [] = refl
  passed_whole (a ∷ rest) =
      ap₂ ◌∷◌ (ap (λ b. where_on b (atom_in (atom_of a.atom) r)) (newest_is a.test r ∙ sym (clock_looks c r given a.test))) (passed_whole rest)

module _ (p : Program) (classes : List Class) (are : AreTurned p classes) where
  module _ (f : Node) (c : Class) (e : Class) (r : Row) where
    -- what a call of the text passes where its base is present
    call_passes : (s : Site) (q : Call) (n : ℕ) → IsCall p f (class_of c) s (call_of c.tests.items q) n → IsTurned p (node_at p q.node) e → is_on_row (clock_from c.tests.items q.base) r ≡ true
        → GivenOnClocks (short_of e) (passed (map (argument_of c.tests.items) q.arguments.items) r)
    call_passes s q n call turned on x some = go (cases_lt x inputs)
      where
        given : Row
        given = passed (map (argument_of c.tests.items) q.arguments.items) r

        inputs : ℕ
        inputs = (node_at p q.node).inputs

        long : length given ≡ inputs
        long = passed_length (map (argument_of c.tests.items) q.arguments.items) r ∙ call.arity ∙ ap (λ g. (node_at p g).inputs) (sym call.node)

        go : (x < inputs) ⊎ (inputs ≤ x) → is_on_row (clock_in (short_of e) x) given ≡ true
        go (inl lt) =
            ap (λ k. is_on_row k given) (short_clock_at e x)
            ∙ newest_on e.tests.items (item None e.tests.items x) given
            (ap (λ k. is_on_row k given) (sym (whole_clock_at e x) ∙ turned.belongs.clocks x)
            ∙ arguments_on_clocks p f (class_of c) r s (call_of c.tests.items q) n call on x lt some)
        go (inr le) = absurd (true≢false (sym some ∙ ap is_some (past_end given x (subst (λ m. m ≤ x) (sym long) le))))

    calls_pass : (ss : List Site) (qs : List Call) (m n : ℕ) (q : Call) → AreCalls p f (class_of c) ss (map (call_of c.tests.items) qs) m → slice_get qs n ≡ Some q
        → IsTurned p (node_at p q.node) e → is_on_row (clock_from c.tests.items q.base) r ≡ true
        → GivenOnClocks (short_of e) (passed (map (argument_of c.tests.items) q.arguments.items) r)
    calls_pass ss [] m n q calls here turned on = cc
    calls_pass [] (o ∷ qs) m n q calls here turned on = absurd calls
    calls_pass (s ∷ ss) (o ∷ qs) m zero q calls here turned on =
        let same : o ≡ q = cc in
        call_passes s q m (subst (λ z. IsCall p f (class_of c) s (call_of c.tests.items z) m) same calls.0) turned on
    calls_pass (s ∷ ss) (o ∷ qs) m (suc n) q calls here turned on = calls_pass ss qs (suc m) n q calls.1 here turned on

pub turned_pass_given : (p : Program) (classes : List Class) → AreTurned p classes → PassGiven classes
turned_pass_given p classes are g n c e q found call there r given on =
    let f = node_at p g in
    let turned = are.each g c found in
    let whole = clock_looks c r given q.base ∙ sym (newest_is q.base r) ∙ on in
    subst (GivenOnClocks (short_of e)) (sym (passed_whole c r given q.arguments.items))
    (calls_pass p classes are f c e r (sites p f) c.calls.items 0 n q turned.belongs.calls call (are.each q.node e there) whole)
