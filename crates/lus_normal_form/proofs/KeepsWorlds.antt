-- A normal form keeps worlds, both ways: instants of the one and the other are related as trees, called nodes inside.
use Rattle.std.proofs.Common.{◌≡◌, ℕ, suc, ◌+◌, ◌<◌, nat_lt, false, Bool, ◌&&◌, List, [], ◌∷◌, ◌++◌, map, length, take, Option, None, is_some, MatchBool, refl, sym, ap, ap₂, ◌∙◌, subst, IsTrue, arith, ⊎_elim, append_assoc}
use Rattle.std.proofs.lemmas.Bool.{le-ltb}
use Rattle.std.proofs.lemmas.List.{take-take, length-append, length-map}
use Rattle.std.proofs.Math.Seq.{take-append_seam}
use Rattle.lus_values.specs.Values.{Value, Row}
use Rattle.lus_program.specs.Programs.{Expression, Operands, none, more, Node, Program, node_at}
use Rattle.lus_values.specs.Lists.{item, Each}
use Rattle.lus_values.specs.Entries.{is_constructor}
use Rattle.lus_streams.specs.Clocks.{Clock, clock_of, Part, at, formal_clock, parts, all_parts}
use Rattle.lus_streams.specs.Equations.{definition_of, node_parts, Site, sites}
use Rattle.lus_streams.specs.Streams.{Instant, instant, Called, nobody, also, World, is_present, row_of, entry, called_instant, called_world, is_on, where_on, value, inputs_given, definition_value, Follows, EquationsHold, IsFed, IsInstant, EachCall, Satisfies, Streams}
use Rattle.lus_streams.specs.Order.{clock_variables}
use Rattle.lus_normal_form.specs.NormalNodes.{EachFrom, AreSites, IsNormalOf}
use Rattle.lus_normal_form.specs.Forms.{Operand, is_taken}
use Rattle.lus_normal_form.specs.NormalForm.{AreNormal, IsCallOf}
use Rattle.lus_normal_form.specs.Named.{IsCalled, Known, GivesOutput, AreNamed}
use Rattle.lus_normal_form.specs.Laws.{without, without_called, world_without, NormalKeepsWorlds}
use Rattle.lus_streams.proofs.Lists.{each_left, each_right, each_map_drop, each_all, below_at, item_take}
use Rattle.lus_streams.proofs.Calls.{OfSite, AtBase, equation_calls, sites_of_parts}
use Rattle.lus_normal_form.proofs.NumberedCalls.{Stands, numbered_stands}
use Rattle.lus_normal_form.proofs.NewParts.{new_fact, stands_from_place, stands_before}
use Rattle.lus_normal_form.proofs.Values.{on_keeps}
use Rattle.lus_normal_form.proofs.Formals.{SameClocks, formals_same}
use Rattle.lus_normal_form.proofs.Faults.{clock_same, stands_same, first_part}
use Rattle.lus_normal_form.proofs.Equations.{where_same, New, KeepsNow, KeepsPast, Used, Level, bases, formals, new_uses, new_defined, new_clock, equations_to, equations_from}

-- what holds of each call holds of one that is called
is_called : (Q : ℕ → ℕ → Type 0) (ss : List Site) → Each (λ s. Q s.node s.number) ss → (g c : ℕ) → IsCalled ss g c → Q g c
is_called Q [] h g c m = absurd m
is_called Q (s ∷ ss) h g c m = ⊎_elim (λ e. subst (λ z. Q z c) e.0 (subst (λ z. Q s.node z) e.1 h.0)) (λ k. is_called Q ss h.1 g c k) m

item_seam : (row : Row) (v : Option Value) (vs : Row) → item None (row ++ v ∷ vs) (length row) ≡ v
item_seam [] v vs = refl
item_seam (r ∷ row) v vs = item_seam row v vs

-- what stands after a row
entries_made : (g : Part → Option Value) (row : Row) (es : List Part) → EachFrom (λ y e. item None (row ++ map g es) y ≡ g e) (length row) es
entries_made g row [] = tt
entries_made g row (e ∷ es) =
    let more_row = row ++ g e ∷ [] in
    let longer : length more_row ≡ suc (length row) = omega (arith, length-append row (g e ∷ [])) in (
      item_seam row (g e) (map g es),
      subst (λ n. EachFrom (λ y e'. item None (row ++ g e ∷ map g es) y ≡ g e') n es) longer
          (subst (λ r. EachFrom (λ y e'. item None r y ≡ g e') (length more_row) es) (append_assoc row (g e ∷ []) (map g es)) (entries_made g more_row es)),
    )

-- where the rows have one front, old clocks are alike
on_front : (f : Node) (i i' : Instant) → is_present i ≡ is_present i' → row_of i ≡ take (length f.variables) (row_of i') → (k : Clock) → Each (Known f) (clock_variables k) → is_on k i ≡ is_on k i'
on_front f i i' b r [] h = b
on_front f i i' b r (t ∷ k) h =
    ap₂ ◌&&◌ (ap (is_constructor t.constructor) (ap (λ z. item None z t.variable) r ∙ item_take None (length f.variables) (row_of i') t.variable h.0)) (on_front f i i' b r k h.1)

-- a variable that is no input holds what its definition gives
no_input_follows : (p' : Program) (f' : Node) (i' : Instant) (w' : World) (y : ℕ) → nat_lt y f'.inputs ≡ false → Follows p' f' i' w' y → entry i' y ≡ where_on (is_on (clock_of f' y) i') (definition_value p' (definition_of f' y) i' w')
no_input_follows p' f' i' w' y e h =
    subst (λ b. MatchBool b (is_some (entry i' y) ≡ is_on (clock_of f' y) i') (entry i' y ≡ where_on (is_on (clock_of f' y) i') (definition_value p' (definition_of f' y) i' w'))) e h

module _ (p p' : Program) (new_parts : ℕ → List Part) (named : AreNamed p) (normal : IsNormalOf p p' new_parts) where
  abbrev LevelOf : Instant → Instant → ℕ → World → World → Type 0
  LevelOf i i' f w w' = Level p p' new_parts named normal f i i' w w'

  -- an instant of the source and one of the normal form, called nodes inside
  abbrev mutual
    Alike : Instant → Instant → ℕ → World → World → Type 0
    Alike (instant b row js) (instant b' row' js') f w w' = LevelOf (instant b row js) (instant b' row' js') f w w' × AlikeCalls js js' (sites p (node_at p f)) w w'

    AlikeCalls : Called → Called → List Site → World → World → Type 0
    AlikeCalls nobody nobody [] w w' = Unit {0}
    AlikeCalls (also j js) (also j' js') (s ∷ ss) w w' = Alike j j' s.node (called_world s.number w) (called_world s.number w') × AlikeCalls js js' ss w w'
    AlikeCalls _ _ _ w w' = ⊥

  abbrev AlikeOver : ℕ → World → World → Type 0
  AlikeOver f [] [] = Unit {0}
  AlikeOver f (i ∷ w) (i' ∷ w') = Alike i i' f w w' × AlikeOver f w w'
  AlikeOver f _ _ = ⊥

  level : (i i' : Instant) (f : ℕ) (w w' : World) → Alike i i' f w w' → LevelOf i i' f w w'
  level (instant b row js) (instant b' row' js') f w w' a = a.0

  calls_alike : (from from' : ℕ → Instant) (js js' : Called) (ss : List Site) (w w' : World) → AlikeCalls js js' ss w w' → Stands from js ss → Stands from' js' ss
      → Each (λ s. Alike (from s.number) (from' s.number) s.node (called_world s.number w) (called_world s.number w')) ss
  calls_alike from from' nobody nobody [] w w' a stand stand' = tt
  calls_alike from from' (also j js) (also j' js') (s ∷ ss) w w' a stand stand' = (
    subst (λ z. Alike z (from' s.number) s.node (called_world s.number w) (called_world s.number w')) (sym stand.0)
        (subst (λ z. Alike j z s.node (called_world s.number w) (called_world s.number w')) (sym stand'.0) a.0),
    calls_alike from from' js js' ss w w' a.1 stand.1 stand'.1,
  )
  calls_alike from from' _ _ _ w w' a stand stand' = absurd a

  now_calls : (i i' : Instant) (f : ℕ) (w w' : World) → Alike i i' f w w' → Each (λ s. Alike (called_instant s.number i) (called_instant s.number i') s.node (called_world s.number w) (called_world s.number w')) (sites p (node_at p f))
  now_calls (instant b row js) (instant b' row' js') f w w' a =
      let ss = sites p (node_at p f) in
      calls_alike (λ c. called_instant c (instant b row js)) (λ c. called_instant c (instant b' row' js')) js js' ss w w' a.1
      (numbered_stands b row js ss (named f).numbered) (numbered_stands b' row' js' ss (named f).numbered)

  one_more : (i i' : Instant) (w w' : World) (ss : List Site) → Each (λ s. Alike (called_instant s.number i) (called_instant s.number i') s.node (called_world s.number w) (called_world s.number w')) ss
      → Each (λ s. AlikeOver s.node (called_world s.number w) (called_world s.number w')) ss → Each (λ s. AlikeOver s.node (called_world s.number (i ∷ w)) (called_world s.number (i' ∷ w'))) ss
  one_more i i' w w' [] h k = tt
  one_more i i' w w' (s ∷ ss) h k = ((h.0, k.0), one_more i i' w w' ss h.1 k.1)

  called_alike : (f : ℕ) (w w' : World) → AlikeOver f w w' → Each (λ s. AlikeOver s.node (called_world s.number w) (called_world s.number w')) (sites p (node_at p f))
  called_alike f [] [] a = each_all (λ s. AlikeOver s.node (called_world s.number []) (called_world s.number [])) (λ s. tt) (sites p (node_at p f))
  called_alike f (i ∷ w) (i' ∷ w') a = one_more i i' w w' (sites p (node_at p f)) (now_calls i i' f w w' a.0) (called_alike f w w' a.1)
  called_alike f _ _ a = absurd a

  level_entry : (f : ℕ) (i i' : Instant) (w w' : World) → LevelOf i i' f w w' → (x : ℕ) → x < length (node_at p f).variables → entry i x ≡ entry i' x
  level_entry f i i' w w' v x lt = ap (λ z. item None z x) v.front ∙ item_take None (length (node_at p f).variables) (row_of i') x lt

  keeps_now : (f : ℕ) (i i' : Instant) (w w' : World) → Alike i i' f w w' → KeepsNow p p' new_parts named normal f i i' w w'
  keeps_now f i i' w w' a =
      let v = level i i' f w w' a in
      record {
        base = v.base;
        entries = level_entry f i i' w w' v;
        outputs = λ g c n o.
            let b = is_called (λ g c. Alike (called_instant c i) (called_instant c i') g (called_world c w) (called_world c w')) (sites p (node_at p f)) (now_calls i i' f w w' a) g c o.0 in
            level_entry g (called_instant c i) (called_instant c i') (called_world c w) (called_world c w') (level (called_instant c i) (called_instant c i') g (called_world c w) (called_world c w') b) _ o.1
            ∙ ap (λ m. entry (called_instant c i') (m + n)) (sym (normal g).inputs);
        new = v.new;
      }

  keeps_past : (f : ℕ) (w w' : World) → AlikeOver f w w' → KeepsPast p p' new_parts named normal f w w'
  keeps_past f [] [] a = tt
  keeps_past f (i ∷ w) (i' ∷ w') a = (keeps_now f i i' w w' a.0, keeps_past f w w' a.1)
  keeps_past f _ _ a = absurd a

  -- the variables that a call uses
  abbrev SiteUses : ℕ → (g c : ℕ) → Operands → Clock → Type 0
  SiteUses f g c args base = Each (Used p p' new_parts named normal f) (all_parts p args (formal_clock (node_at p g) args base) 0) × GivesOutput p (node_at p f) g c 0 × Each (Known (node_at p f)) (clock_variables base)

  site_uses : (f : ℕ) → Each (OfSite p (SiteUses f)) (sites p (node_at p f))
  site_uses f =
      sites_of_parts p (SiteUses f) (node_parts p (node_at p f))
      (equation_calls p (Used p p' new_parts named normal f) (AtBase p (SiteUses f))
      (λ g c args k u inner. (inner, u.1, each_map_drop (Known (node_at p f)) (λ t. t.variable) _ k u.0))
      (node_at p f) (node_at p f).equations (named f).uses)

  module _ (f : ℕ) (i i' : Instant) (w w' : World) (l : KeepsNow p p' new_parts named normal f i i' w w') (over : KeepsPast p p' new_parts named normal f w w') where
    abbrev Stays : Operands → ℕ → (args args' : Operands) → Clock → ℕ → Type 0
    Stays es g args args' base m = SameClocks es (formal_clock (node_at p g) args base) (formal_clock (node_at p' g) args' base) m

    given_same : (es es' : Operands) (g : ℕ) (args args' : Operands) (base : Clock) (m : ℕ) → Stays es g args args' base m → AreNormal p (New p p' new_parts named normal f) Operand es es' (formal_clock (node_at p g) args base) m
        → Each (Used p p' new_parts named normal f) (all_parts p es (formal_clock (node_at p g) args base) m) → inputs_given p es (node_at p g) args base m i w ≡ inputs_given p' es' (node_at p' g) args' base m i' w'
    given_same none es' g args args' base m stay is u = ap (λ z. inputs_given p' z (node_at p' g) args' base m i' w') (sym is)
    given_same (more e es) es' g args args' base m stay is u =
        let k = formal_clock (node_at p g) args base m in
        let here_parts = parts p e k in
        let rest = all_parts p es (formal_clock (node_at p g) args base) (suc m) in
        let used = each_left (Used p p' new_parts named normal f) here_parts rest u in
        ap₂ ◌∷◌
        (where_same (is_on k i) _ _ (stands_same p p' (Known (node_at p f)) (GivesOutput p (node_at p f)) (New p p' new_parts named normal f) (bases p p' new_parts named normal f) (formals p p' new_parts named normal f) i i' w w' l over (is_taken Operand e) e is.0 k is.3 used)
        ∙ ap (λ o. where_on o (value p' is.0 k i' w')) (clock_same p p' (Known (node_at p f)) (GivesOutput p (node_at p f)) (New p p' new_parts named normal f) (bases p p' new_parts named normal f) (formals p p' new_parts named normal f) i i' w w' l over e k used)
        ∙ ap (λ z. where_on (is_on z i') (value p' is.0 z i' w')) (sym stay.0))
        (given_same es is.1 g args args' base (suc m) stay.1 is.4 (each_right (Used p p' new_parts named normal f) here_parts rest u))
        ∙ ap (λ z. inputs_given p' z (node_at p' g) args' base m i' w') (sym is.2)

    module _ (s : Site) (args' : Operands) (is : IsCallOf p (New p p' new_parts named normal f) s.node s.args args' s.base) (u : OfSite p (SiteUses f) s) (j j' : Instant) (v v' : World) (lv : LevelOf j j' s.node v v') where
      base_same : is_on s.base i ≡ is_on s.base i'
      base_same = on_keeps p p' (Known (node_at p f)) (GivesOutput p (node_at p f)) (New p p' new_parts named normal f) s.base i i' w w' u.2 l

      inputs_same : take (node_at p' s.node).inputs (row_of j') ≡ take (node_at p s.node).inputs (row_of j)
      inputs_same =
          ap (λ n. take n (row_of j')) (normal s.node).inputs
          ∙ sym (take-take (node_at p s.node).inputs (length (node_at p s.node).variables) (row_of j') (named s.node).inputs)
          ∙ ap (take (node_at p s.node).inputs) (sym lv.front)

      all_given : inputs_given p s.args (node_at p s.node) s.args s.base 0 i w ≡ inputs_given p' args' (node_at p' s.node) args' s.base 0 i' w'
      all_given = given_same s.args args' s.node s.args args' s.base 0 (formals_same p p' (formals p p' new_parts named normal f) s.node s.args args' s.base s.base refl s.args 0 is.0) is.1 u.0

      fed_to : called_instant s.number i' ≡ j' → IsFed p s j i w → IsFed p' (record s { args = args' }) j' i' w'
      fed_to stand h = record {
        numbered = stand;
        base = sym lv.base ∙ h.base ∙ base_same;
        inputs = inputs_same ∙ h.inputs ∙ all_given;
      }

      fed_from : called_instant s.number i ≡ j → IsFed p' (record s { args = args' }) j' i' w' → IsFed p s j i w
      fed_from stand h = record {
        numbered = stand;
        base = lv.base ∙ h.base ∙ sym base_same;
        inputs = sym inputs_same ∙ h.inputs ∙ sym all_given;
      }

  abbrev Sites : ℕ → List Site → List Site → Type 0
  Sites f ss ss' = AreSites p (New p p' new_parts named normal f) ss ss'

  mutual
    instant_to : (i i' : Instant) (f : ℕ) (w w' : World) → Alike i i' f w w' → AlikeOver f w w' → IsInstant p i f w → IsInstant p' i' f w'
    instant_to (instant b row js) (instant b' row' js') f w w' a alike_before h =
        let i = instant b row js in
        let i' = instant b' row' js' in
        let k = keeps_now f i i' w w' a in
        let kept_before = keeps_past f w w' alike_before in (
          equations_to p p' new_parts named normal f i i' w w' k kept_before a.0 h.0,
          each_to js js' (sites p (node_at p f)) (sites p' (node_at p' f)) f i i' w w' k kept_before (normal f).calls a.1 (called_alike f w w' alike_before) (site_uses f) (numbered_stands b' row' js' (sites p (node_at p f)) (named f).numbered) h.1,
        )

    each_to : (js js' : Called) (ss ss' : List Site) (f : ℕ) (i i' : Instant) (w w' : World) → KeepsNow p p' new_parts named normal f i i' w w' → KeepsPast p p' new_parts named normal f w w' → Sites f ss ss'
        → AlikeCalls js js' ss w w' → Each (λ s. AlikeOver s.node (called_world s.number w) (called_world s.number w')) ss → Each (OfSite p (SiteUses f)) ss → Stands (λ c. called_instant c i') js' ss → EachCall p js ss i w → EachCall p' js' ss' i' w'
    each_to nobody nobody [] ss' f i i' w w' k kept_before is a alike_before u stand h = subst (λ z. EachCall p' nobody z i' w') (sym is) tt
    each_to (also j js) (also j' js') (s ∷ ss) ss' f i i' w w' k kept_before is a alike_before u stand h =
        let v = called_world s.number w in
        let v' = called_world s.number w' in
        subst (λ z. EachCall p' (also j' js') z i' w') (sym is.2) (
          fed_to f i i' w w' k kept_before s is.0 is.3 u.0 j j' v v' (level j j' s.node v v' a.0) stand.0 h.0,
          instant_to j j' s.node v v' a.0 alike_before.0 h.1,
          each_to js js' ss is.1 f i i' w w' k kept_before is.4 a.1 alike_before.1 u.1 stand.1 h.2,
        )
    each_to _ _ _ ss' f i i' w w' k kept_before is a alike_before u stand h = absurd a

  mutual
    instant_from : (i i' : Instant) (f : ℕ) (w w' : World) → Alike i i' f w w' → AlikeOver f w w' → IsInstant p' i' f w' → IsInstant p i f w
    instant_from (instant b row js) (instant b' row' js') f w w' a alike_before h =
        let i = instant b row js in
        let i' = instant b' row' js' in
        let k = keeps_now f i i' w w' a in
        let kept_before = keeps_past f w w' alike_before in (
          equations_from p p' new_parts named normal f i i' w w' k kept_before a.0 h.0,
          each_from js js' (sites p (node_at p f)) (sites p' (node_at p' f)) f i i' w w' k kept_before (normal f).calls a.1 (called_alike f w w' alike_before) (site_uses f) (numbered_stands b row js (sites p (node_at p f)) (named f).numbered) h.1,
        )

    each_from : (js js' : Called) (ss ss' : List Site) (f : ℕ) (i i' : Instant) (w w' : World) → KeepsNow p p' new_parts named normal f i i' w w' → KeepsPast p p' new_parts named normal f w w' → Sites f ss ss'
        → AlikeCalls js js' ss w w' → Each (λ s. AlikeOver s.node (called_world s.number w) (called_world s.number w')) ss → Each (OfSite p (SiteUses f)) ss → Stands (λ c. called_instant c i) js ss → EachCall p' js' ss' i' w' → EachCall p js ss i w
    each_from nobody nobody [] ss' f i i' w w' k kept_before is a alike_before u stand h = tt
    each_from (also j js) (also j' js') (s ∷ ss) ss' f i i' w w' k kept_before is a alike_before u stand h =
        let v = called_world s.number w in
        let v' = called_world s.number w' in
        let shaped = subst (λ z. EachCall p' (also j' js') z i' w') is.2 h in (
          fed_from f i i' w w' k kept_before s is.0 is.3 u.0 j j' v v' (level j j' s.node v v' a.0) stand.0 shaped.0,
          instant_from j j' s.node v v' a.0 alike_before.0 shaped.1,
          each_from js js' ss is.1 f i i' w w' k kept_before is.4 a.1 alike_before.1 u.1 stand.1 shaped.2,
        )
    each_from _ _ _ ss' f i i' w w' k kept_before is a alike_before u stand h = absurd a

  -- the entry of a new variable
  abbrev made_entry : Instant → World → Part → Option Value
  made_entry i w (at k a) = where_on (is_on k i) (value p a k i w)

  level_made : (b : Bool) (row : Row) (js js' : Called) (f : ℕ) (w w' : World) → EquationsHold p (node_at p f) (instant b row js) w
      → LevelOf (instant b row js) (instant b (row ++ map (made_entry (instant b row js) w) (new_parts f)) js') f w w'
  level_made b row js js' f w w' h =
      let i = instant b row js in
      let g = made_entry i w in
      let all = row ++ map g (new_parts f) in
      let made = subst (λ n. EachFrom (λ y e. item None all y ≡ g e) n (new_parts f)) h.width (entries_made g row (new_parts f)) in
      let entries = new_fact (λ y e. item None all y ≡ g e) (length (node_at p f).variables) (new_parts f) made in
      record {
        base = refl;
        front = sym (take-append_seam row (map g (new_parts f))) ∙ ap (λ n. take n all) h.width;
        width = omega (arith, length-append row (map g (new_parts f)), length-map (new_parts f) g, h.width, (normal f).width);
        new = λ y k a s t q. sym (entries y k a s ∙ ap (λ o. where_on o (value p a k i w)) t);
        absent = λ y k a s t. entries y k a s ∙ ap (λ o. where_on o (value p a k i w)) t;
      }

  -- each instant of the source has one with the new variables
  mutual
    with_news : (i : Instant) (f : ℕ) (w w' : World) → IsInstant p i f w → (i' : Instant) × Alike i i' f w w'
    with_news (instant b row js) f w w' h =
        let c = calls_with_news js (sites p (node_at p f)) (instant b row js) w w' h.1 in
        (instant b (row ++ map (made_entry (instant b row js) w) (new_parts f)) c.0, (level_made b row js c.0 f w w' h.0, c.1))

    calls_with_news : (js : Called) (ss : List Site) (i : Instant) (w w' : World) → EachCall p js ss i w → (js' : Called) × AlikeCalls js js' ss w w'
    calls_with_news nobody [] i w w' h = (nobody, tt)
    calls_with_news nobody (s ∷ ss) i w w' h = absurd h
    calls_with_news (also j js) [] i w w' h = absurd h
    calls_with_news (also j js) (s ∷ ss) i w w' h =
        let m = with_news j s.node (called_world s.number w) (called_world s.number w') h.1 in
        let r = calls_with_news js ss i w w' h.2 in
        (also m.0 r.0, (m.1, r.1))

  level_without : (b : Bool) (row' : Row) (js js' : Called) (f : ℕ) (w w' : World) → EquationsHold p' (node_at p' f) (instant b row' js') w'
      → LevelOf (instant b (take (length (node_at p f).variables) row') js) (instant b row' js') f w w'
  level_without b row' js js' f w w' h =
      let i = instant b (take (length (node_at p f).variables) row') js in
      let i' = instant b row' js' in
      let follows : (y : ℕ) (k : Clock) (a : Expression) → New p p' new_parts named normal f y k a → entry i' y ≡ where_on (is_on k i) (definition_value p' (definition_of (node_at p' f) y) i' w') = λ y k a s.
      let ge = stands_from_place (length (node_at p f).variables) (new_parts f) y k a s in
      let lt = stands_before (length (node_at p f).variables) (new_parts f) y k a s in
      let e : nat_lt y (node_at p' f).inputs ≡ false = le-ltb y (node_at p' f).inputs (omega (arith, ge, (named f).inputs, (normal f).inputs)) in
      let known = (first_part p (Used p p' new_parts named normal f) a k (new_uses p p' new_parts named normal f y k a s)).0 in
      no_input_follows p' (node_at p' f) i' w' y e (below_at (Follows p' (node_at p' f) i' w') (length (node_at p' f).variables) h.variables y (omega (arith, lt, (normal f).width)))
      ∙ ap (λ z. where_on (is_on z i') (definition_value p' (definition_of (node_at p' f) y) i' w')) (new_clock p p' new_parts named normal f y k a s)
      ∙ ap (λ o. where_on o (definition_value p' (definition_of (node_at p' f) y) i' w')) (sym (on_front (node_at p f) i i' refl refl k known))
      in
      record {
        base = refl;
        front = refl;
        width = h.width;
        new = λ y k a s t q.
            let d = new_defined p p' new_parts named normal f y k a s in
            q d.0 (y ∷ []) d.2 ∙ ap (λ z. definition_value p' z i' w') (sym d.1) ∙ sym (follows y k a s ∙ ap (λ o. where_on o (definition_value p' (definition_of (node_at p' f) y) i' w')) t);
        absent = λ y k a s t. follows y k a s ∙ ap (λ o. where_on o (definition_value p' (definition_of (node_at p' f) y) i' w')) t;
      }

  -- each instant of the normal form has one without the new variables
  mutual
    without_news : (i' : Instant) (f : ℕ) (w w' : World) → IsInstant p' i' f w' → (i : Instant) × Alike i i' f w w'
    without_news (instant b row' js') f w w' h =
        let c = calls_without_news js' (sites p (node_at p f)) (sites p' (node_at p' f)) f (instant b row' js') w w' (normal f).calls h.1 in
        (instant b (take (length (node_at p f).variables) row') c.0, (level_without b row' c.0 js' f w w' h.0, c.1))

    calls_without_news : (js' : Called) (ss ss' : List Site) (f : ℕ) (i' : Instant) (w w' : World) → Sites f ss ss' → EachCall p' js' ss' i' w' → (js : Called) × AlikeCalls js js' ss w w'
    calls_without_news nobody [] ss' f i' w w' is h = (nobody, tt)
    calls_without_news nobody (s ∷ ss) ss' f i' w w' is h = absurd (subst (λ z. EachCall p' nobody z i' w') is.2 h)
    calls_without_news (also j' js') [] ss' f i' w w' is h = absurd (subst (λ z. EachCall p' (also j' js') z i' w') is h)
    calls_without_news (also j' js') (s ∷ ss) ss' f i' w w' is h =
        let shaped = subst (λ z. EachCall p' (also j' js') z i' w') is.2 h in
        let m = without_news j' s.node (called_world s.number w) (called_world s.number w') shaped.1 in
        let r = calls_without_news js' ss is.1 f i' w w' is.4 shaped.2 in
        (also m.0 r.0, (m.1, r.1))

  -- and it is the one without them
  mutual
    is_without : (i i' : Instant) (f : ℕ) (w w' : World) → Alike i i' f w w' → without p i' f ≡ i
    is_without (instant b row js) (instant b' row' js') f w w' a =
        let base : b ≡ b' = a.0.base in
        let front : row ≡ take (length (node_at p f).variables) row' = a.0.front in
        let calls = calls_are_without js js' (sites p (node_at p f)) w w' a.1 in
        (λ x. instant (sym base x) (sym front x) (calls x))

    calls_are_without : (js js' : Called) (ss : List Site) (w w' : World) → AlikeCalls js js' ss w w' → without_called p js' ss ≡ js
    calls_are_without nobody nobody [] w w' a = refl
    calls_are_without (also j js) (also j' js') (s ∷ ss) w w' a =
        ap₂ also (is_without j j' s.node (called_world s.number w) (called_world s.number w') a.0) (calls_are_without js js' ss w w' a.1)
    calls_are_without _ _ _ w w' a = absurd a

  world_is_without : (f : ℕ) (w w' : World) → AlikeOver f w w' → world_without p f w' ≡ w
  world_is_without f [] [] a = refl
  world_is_without f (i ∷ w) (i' ∷ w') a = ap₂ ◌∷◌ (is_without i i' f w w' a.0) (world_is_without f w w' a.1)
  world_is_without f _ _ a = absurd a

  satisfies_to : (f : ℕ) (w : World) → Satisfies p f w → (w' : World) × AlikeOver f w w' × Satisfies p' f w'
  satisfies_to f [] h = ([], tt, tt)
  satisfies_to f (i ∷ w) h =
      let r = satisfies_to f w h.1 in
      let m = with_news i f w r.0 h.0 in
      (m.0 ∷ r.0, (m.1, r.1), (instant_to i m.0 f w r.0 m.1 r.1 h.0, r.2))

  satisfies_from : (f : ℕ) (w' : World) → Satisfies p' f w' → (w : World) × AlikeOver f w w' × Satisfies p f w
  satisfies_from f [] h = ([], tt, tt)
  satisfies_from f (i' ∷ w') h =
      let r = satisfies_from f w' h.1 in
      let m = without_news i' f r.0 w' h.0 in
      (m.0 ∷ r.0, (m.1, r.1), (instant_from m.0 i' f r.0 w' m.1 r.1 h.0, r.2))

  -- the inputs are the same
  inputs_alike : (f : ℕ) (w w' : World) → AlikeOver f w w' → map (λ i. take (node_at p' f).inputs (row_of i)) w' ≡ map (λ i. take (node_at p f).inputs (row_of i)) w
  inputs_alike f [] [] a = refl
  inputs_alike f (i ∷ w) (i' ∷ w') a =
      let v = level i i' f w w' a.0 in
      ap₂ ◌∷◌
      (ap (λ n. take n (row_of i')) (normal f).inputs
      ∙ sym (take-take (node_at p f).inputs (length (node_at p f).variables) (row_of i') (named f).inputs)
      ∙ ap (take (node_at p f).inputs) (sym v.front))
      (inputs_alike f w w' a.1)
  inputs_alike f _ _ a = absurd a

  always_to : (f : ℕ) (w w' : World) → AlikeOver f w w' → Each (λ i. IsTrue (is_present i)) w → Each (λ i. IsTrue (is_present i)) w'
  always_to f [] [] a h = tt
  always_to f (i ∷ w) (i' ∷ w') a h = (sym (level i i' f w w' a.0).base ∙ h.0, always_to f w w' a.1 h.1)
  always_to f _ _ a h = absurd a

  always_from : (f : ℕ) (w w' : World) → AlikeOver f w w' → Each (λ i. IsTrue (is_present i)) w' → Each (λ i. IsTrue (is_present i)) w
  always_from f [] [] a h = tt
  always_from f (i ∷ w) (i' ∷ w') a h = ((level i i' f w w' a.0).base ∙ h.0, always_from f w w' a.1 h.1)
  always_from f _ _ a h = absurd a

  streams_made : (f : ℕ) (inputs : List Row) (w : World) → Streams p f inputs w → (w' : World) × Streams p' f inputs w' × (world_without p f w' ≡ w)
  streams_made f inputs w h =
      let r = satisfies_to f w h.satisfied in
      (r.0, record { satisfied = r.2; always = always_to f w r.0 r.1 h.always; rows = inputs_alike f w r.0 r.1 ∙ h.rows }, world_is_without f w r.0 r.1)

  streams_left : (f : ℕ) (inputs : List Row) (w' : World) → Streams p' f inputs w' → Streams p f inputs (world_without p f w')
  streams_left f inputs w' h =
      let r = satisfies_from f w' h.satisfied in
      let s : Streams p f inputs r.0 = record { satisfied = r.2; always = always_from f r.0 w' r.1 h.always; rows = sym (inputs_alike f r.0 w' r.1) ∙ h.rows } in
      subst (Streams p f inputs) (sym (world_is_without f r.0 w' r.1)) s

pub normal_keeps_worlds : NormalKeepsWorlds
normal_keeps_worlds p p' new_parts named normal = record {
  to = λ f w h. let r = satisfies_to p p' new_parts named normal f w h in (r.0, r.2, world_is_without p p' new_parts named normal f w r.0 r.1);
  from = λ f w' h. let r = satisfies_from p p' new_parts named normal f w' h in subst (Satisfies p f) (sym (world_is_without p p' new_parts named normal f r.0 w' r.1)) r.2;
  streams_to = streams_made p p' new_parts named normal;
  streams_from = streams_left p p' new_parts named normal;
}
