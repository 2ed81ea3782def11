-- At an instant of a program to which classes belong, each variable is present exactly where its clock is.
use Rattle.std.proofs.Common.{◌≡◌, ℕ, zero, suc, ◌+◌, ◌<◌, ◌&&◌, nat_lt, Bool, true, false, List, [], ◌∷◌, length, Option, Some, None, is_some, MatchBool, slice_get, refl, sym, ap, ap₂, ◌∙◌, subst, arith}
use Rattle.std.proofs.Math.Logic.{inl, inr}
use Rattle.std.proofs.lemmas.Bool.{ltb-false, le-ltb, MatchBool-at_false}
use Rattle.std.proofs.lemmas.Option.{slice_get_within}
use Rattle.lus_values.specs.Lists.{item}
use Rattle.lus_values.specs.Values.{Row}
use Rattle.lus_values.specs.Entries.{is_constructor}
use Rattle.lus_program.specs.Programs.{Expression, Node, Program, node_at}
use Rattle.lus_streams.specs.Clocks.{Clock, clock_of}
use Rattle.lus_streams.specs.Equations.{Definition, given_by, definition_of, Site, sites}
use Rattle.lus_streams.specs.Streams.{Instant, instant, Called, nobody, also, World, row_of, entry, called_at, called_instant, called_world, is_on, where_on, output, definition_value, HasValue, Follows, EquationsHold, IsFed, IsInstant, EachCall}
use Rattle.lus_streams.proofs.Lists.{below_at, item_take}
use Rattle.lus_streams.proofs.Definitions.{RightParts, right_parts}
use Rattle.lus_classes.specs.Classes.{Code, Call, Class, class_at}
use Rattle.lus_classes.specs.Steps.{is_on_row, passed}
use Rattle.lus_classes.specs.ClassesOf.{Meets, Matches, IsAnswer, IsSource, IsStep, IsCall, AreCalls, AreClassesOf}
use Rattle.lus_classes.proofs.Options.{where_present}
use Rattle.lus_classes.proofs.Rows.{PresentOnClocks, is_on_row_is, off, test_same}
use Rattle.lus_classes.proofs.Codes.{whole_part}
use Rattle.lus_classes.proofs.Instants.{target_at, right_value}
use Rattle.lus_classes.proofs.Passing.{passed_at, passed_is_given}

module _ (p : Program) (classes : List Class) (ok : AreClassesOf p classes) where
  abbrev PresentIn : ℕ → Instant → Type 0
  PresentIn g i = PresentOnClocks (node_at p g) i

  abbrev CallsPresent : Called → List Site → Type 0
  CallsPresent nobody ss = Unit {0}
  CallsPresent (also j js) [] = Unit {0}
  CallsPresent (also j js) (s ∷ ss) = PresentIn s.node j × CallsPresent js ss

  -- an instant whose base is present, after a past
  module _ (g : ℕ) (row : Row) (jw : Called) (past : World) where
    abbrev f : Node
    f = node_at p g

    abbrev c : Class
    c = class_at classes g

    abbrev now : Instant
    now = instant true row jw

    -- the call of the text that call n of the class is, and its instant
    record SiteAt (q : Call) (n : ℕ) : Type 0 where
      pub site : Site
      pub there : Instant
      pub is_call : IsCall p f c site q n
      pub fed : IsFed p site there now past
      pub present_in : PresentIn site.node there

    site_at : (js : Called) (ss : List Site) (qs : List Call) (n i : ℕ) (q : Call) → AreCalls p f c ss qs n → EachCall p js ss now past → CallsPresent js ss
        → slice_get qs i ≡ Some q → SiteAt q (n + i)
    site_at js [] [] n i q k h present e = absurd (cc)
    site_at js [] (u ∷ qs) n i q k h present e = absurd k
    site_at js (s ∷ ss) [] n i q k h present e = absurd k
    site_at nobody (s ∷ ss) (u ∷ qs) n i q k h present e = absurd h
    site_at (also j js) (s ∷ ss) (u ∷ qs) n zero q k h present e =
        let same : u ≡ q = cc in
        let here : n ≡ n + 0 = omega arith in
        subst (SiteAt q) here (record { site = s; there = j; is_call = subst (λ z. IsCall p f c s z n) same k.0; fed = h.0; present_in = present.0 })
    site_at (also j js) (s ∷ ss) (u ∷ qs) n (suc i) q k h present e =
        let there : suc n + i ≡ n + suc i = omega arith in
        subst (SiteAt q) there (site_at js ss qs (suc n) i q k.1 h.2 present.1 e)

    module _ (hold : EquationsHold p f now past) where
      -- the clock of a result is present where that of the output is
      module _ (q : Call) (n : ℕ) (e : Expression) (xs : List ℕ) (first : Clock) (called number : ℕ) (outputs : (m : ℕ) → definition_value p (Some (given_by e m xs first)) now past ≡ output p called number m now)
          (s : SiteAt q n) (same_node : s.site.node ≡ called) (there_is : called_instant number now ≡ s.there) where
        abbrev inputs : ℕ
        inputs = (node_at p called).inputs

        inputs_are : (v : ℕ) → v < length q.arguments → entry s.there v ≡ item None (passed q.arguments row) v
        inputs_are v lt =
            sym (item_take None (node_at p s.site.node).inputs (row_of s.there) v (subst (λ z. v < z) s.is_call.arity lt))
            ∙ ap (λ z. item None z v) (s.fed.inputs ∙ sym (passed_is_given p f c row jw past s.site.args q.arguments (node_at p s.site.node) s.site.args s.site.base 0 s.is_call.arguments))

        meets_same : (m z v : ℕ) (k l : Clock) → is_on k now ≡ is_on l s.there → Meets p f c q e xs first inputs z v k
            → (is_constructor m (entry now z) && is_on k now) ≡ (is_constructor m (entry s.there v) && is_on l s.there)
        meets_same m z v k l same (inl a) =
            test_same m (is_on k now) (is_on l s.there) (is_on_row k row) (entry now z) (entry s.there v) same (is_on_row_is k row jw)
            (inputs_are v (slice_get_within q.arguments v _ a) ∙ passed_at q.arguments row v _ a)
        meets_same m z v k l same (inr a) =
            let follows = MatchBool-at_false _ _ (le-ltb z f.inputs a.no_input) (below_at (Follows p f now past) (length f.variables) hold.variables z a.within) in
            sym (test_same m (is_on l s.there) (is_on k now) (is_on (clock_of f z) now) (entry s.there v) (entry now z) (sym same) (ap (λ w. is_on w now) a.on_clock ∙ same)
            (follows ∙ ap (where_on (is_on (clock_of f z) now)) (ap (λ d. definition_value p d now past) a.defined ∙ outputs a.output ∙ ap₂ entry there_is (sym a.place))))

        matches_same : (k l : Clock) → Matches p f c q e xs first inputs k l → is_on k now ≡ is_on l s.there
        matches_same k [] h = ap (λ w. is_on w now) (h ∙ s.is_call.base) ∙ sym s.fed.base
        matches_same [] (t ∷ l) h = absurd h
        matches_same (u ∷ k) (t ∷ l) h =
            ap (λ m. is_constructor m (entry now u.variable) && is_on k now) h.0
            ∙ meets_same t.constructor u.variable t.variable k l (matches_same k l h.2) h.1

      -- a variable that is no input has a value where its clock is present, if the variables of the calls do
      module _ (each : EachCall p jw (sites p f) now past) (calls : CallsPresent jw (sites p f)) where
        answer_some : (e : Expression) (m : ℕ) (xs : List ℕ) (k : Clock) (x : ℕ) (d : Code) → IsAnswer p f c e m k x d xs → is_on (clock_of f x) now ≡ true
            → is_some (definition_value p (Some (given_by e m xs k)) now past) ≡ true
        answer_some e m xs k x d is t =
            let s = site_at jw (sites p f) c.calls 0 is.number is.asked (ok g).calls each calls is.here in
            let here : 0 + is.number ≡ is.number = omega arith in
            let outputs = λ (n : ℕ). ap (λ z. definition_value p (Some (given_by z n xs k)) now past) is.right in
            let same_node : s.site.node ≡ is.node = sym s.is_call.node ∙ is.same_node in
            let there_is : called_instant is.number now ≡ s.there = ap (called_at jw) (sym (s.is_call.number ∙ here)) ∙ s.fed.numbered in
            let y = (node_at p is.node).inputs + m in
            let on_there = sym (matches_same is.asked (0 + is.number) e xs k is.node is.number outputs s same_node there_is (clock_of f x) (clock_of (node_at p is.node) y) is.matches) ∙ t in
            let present = subst (λ z. PresentIn z s.there) same_node s.present_in y is.output in
            ap is_some (outputs m ∙ ap (λ j. entry j y) there_is) ∙ present ∙ on_there

        source_some : (x : ℕ) (definition : Option Definition) (d : Code) → IsSource p f c x definition d → RightParts p (λ e. HasValue p e now past) definition
            → is_on (clock_of f x) now ≡ true → is_some (definition_value p definition now past) ≡ true
        source_some x None d is h t = absurd is
        source_some x (Some (given_by e m xs k)) d (inl is) h t = answer_some e m xs k x d is t
        source_some x (Some (given_by e m xs k)) d (inr is) h t =
            ap is_some (right_value p f c e d k m xs now past is.1) ∙ whole_part p (λ e. HasValue p e now past) e k h (ap (λ w. is_on w now) is.0 ∙ t)

        follows_present : (x : ℕ) → x < length f.variables → (b : Bool) → nat_lt x f.inputs ≡ b
            → MatchBool b (is_some (entry now x) ≡ is_on (clock_of f x) now) (entry now x ≡ where_on (is_on (clock_of f x) now) (definition_value p (definition_of f x) now past))
            → is_some (entry now x) ≡ is_on (clock_of f x) now
        follows_present x lt true e h = h
        follows_present x lt false e h =
            let a = target_at (IsStep p f c) c.steps x (ok g).steps ((ok g).every x (ltb-false x f.inputs e) lt) in
            let source = subst (λ z. IsSource p f c z (definition_of f z) a.step.code) (sym a.same_target) a.holds_of.source in
            ap is_some h ∙ where_present (is_on (clock_of f x) now) (definition_value p (definition_of f x) now past)
            (source_some x (definition_of f x) a.step.code source (right_parts p (λ e. HasValue p e now past) f f.equations x hold.no_fault))

        present_here : PresentIn g now
        present_here x lt = follows_present x lt (nat_lt x f.inputs) refl (below_at (Follows p f now past) (length f.variables) hold.variables x lt)

  off_follows : (f : Node) (row : Row) (js : Called) (past : World) (x : ℕ) (b : Bool)
      → MatchBool b (is_some (item None row x) ≡ is_on (clock_of f x) (instant false row js)) (item None row x ≡ where_on (is_on (clock_of f x) (instant false row js)) (definition_value p (definition_of f x) (instant false row js) past))
      → is_some (item None row x) ≡ is_on (clock_of f x) (instant false row js)
  off_follows f row js past x true h = h
  off_follows f row js past x false h =
      let e = off (clock_of f x) row js in
      ap is_some (h ∙ ap (λ b. where_on b (definition_value p (definition_of f x) (instant false row js) past)) e) ∙ sym e

  mutual
    pub present_at : (i : Instant) (g : ℕ) (past : World) → IsInstant p i g past → PresentIn g i
    present_at (instant true row js) g past h = present_here g row js past h.0 h.1 (calls_present js (sites p (node_at p g)) (instant true row js) past h.1)
    present_at (instant false row js) g past h = λ x lt. off_follows (node_at p g) row js past x (nat_lt x (node_at p g).inputs) (below_at (Follows p (node_at p g) (instant false row js) past) (length (node_at p g).variables) h.0.variables x lt)

    calls_present : (js : Called) (ss : List Site) (i : Instant) (past : World) → EachCall p js ss i past → CallsPresent js ss
    calls_present nobody ss i past h = tt
    calls_present (also j js) [] i past h = tt
    calls_present (also j js) (s ∷ ss) i past h = (present_at j s.node (called_world s.number past) h.1, calls_present js ss i past h.2)
