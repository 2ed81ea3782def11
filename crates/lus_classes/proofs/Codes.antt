-- The code of an expression gives its value, from cells and flags that stand for a world; and where it gives one, every part
-- of the expression has one.
use Rattle.std.proofs.Common.{◌≡◌, ℕ, zero, suc, ◌<◌, ◌⊎◌, Bool, true, false, List, [], ◌∷◌, drop, Option, Some, None, IsSome, IsTrue, slice_get, refl, sym, ap, ap₂, ◌∙◌, subst, arith, if◌then◌else◌}
use Rattle.std.proofs.Math.Logic.{inl, inr}
use Rattle.std.proofs.lemmas.Bool.{and_parts, and_from, eqb-true}
use Rattle.lus_values.specs.Values.{Value, bool, int, enum, struct, nil, Row}
use Rattle.lus_values.specs.Lists.{item, Each}
use Rattle.lus_values.specs.Operators.{apply}
use Rattle.lus_values.specs.Entries.{is_constructor, with_operand, with_operands, chosen}
use Rattle.lus_program.specs.Programs.{Expression, literal, variable, operate, pre, arrow, when, merge, Operands, none, more, Node, Program}
use Rattle.lus_streams.specs.Clocks.{Clock, Part, at, branch_clock, parts, all_parts}
use Rattle.lus_streams.specs.Streams.{Instant, instant, Called, World, row_of, entry, holds, is_on, at_last, value, values, branch, HasValue}
use Rattle.lus_streams.proofs.Lists.{each_left, each_right, each_append}
use Rattle.lus_classes.specs.Classes.{Atom, constant, named, Code, fixed, fetch, compute, recall, choose, select, Codes, no_code, also_code, Memory, Class}
use Rattle.lus_classes.specs.Steps.{Ask, run, runs, selected, atom_in}
use Rattle.lus_classes.specs.ClassesOf.{atom_expression, atom_code, AtomOn, Remembers, IsAtomCode, IsCode, AreCodes}
use Rattle.lus_classes.specs.StandsFor.{never_on, CellsStand, FlagsStand}
use Rattle.lus_classes.proofs.Options.{never, either, either_same, either_true}
use Rattle.lus_classes.proofs.Rows.{PresentOnClocks, each_drop}

-- a value is one constructor
one_constructor : (c d : ℕ) (v : Option Value) → is_constructor c v ≡ true → is_constructor d v ≡ true → c ≡ d
one_constructor c d (Some (bool b)) e h = eqb-true c (if b then 1 else 0) e ∙ sym (eqb-true d (if b then 1 else 0) h)
one_constructor c d (Some (enum t n)) e h = eqb-true c n e ∙ sym (eqb-true d n h)
one_constructor c d (Some (int z)) e h = absurd (never e)
one_constructor c d (Some (struct fs)) e h = absurd (never e)
one_constructor c d (Some nil) e h = absurd (never e)
one_constructor c d None e h = absurd (never e)

-- the choice by a first-flag: `->`
arrow_step : (b n : Bool) (u v z : Option Value) → IsSome u → IsSome v → chosen (Some n) u v ≡ z → chosen (Some (elim b [ true ↦ false | false ↦ n ])) u v ≡ either b v z
arrow_step true n (Some u) (Some v) z hu hv e = refl
arrow_step true n None v z hu hv e = absurd (never hu)
arrow_step true n (Some u) None z hu hv e = absurd (never hv)
arrow_step false n u v z hu hv e = e

arrow_none : (u v : Option Value) → IsSome u → IsSome v → chosen (Some true) u v ≡ u
arrow_none None v hu hv = absurd (never hu)
arrow_none (Some u) None hu hv = absurd (never hv)
arrow_none (Some u) (Some v) hu hv = refl

arrow_is : (k : Clock) (past : World) (u v : Option Value) → IsSome u → IsSome v → chosen (Some (never_on k past)) u v ≡ at_last k past u (λ i before. v)
arrow_is k [] u v hu hv = arrow_none u v hu hv
arrow_is k (i ∷ past) u v hu hv = arrow_step (is_on k i) (never_on k past) u v (at_last k past u (λ j before. v)) hu hv (arrow_is k past u v hu hv)

-- what has a value has it of what has one
chosen_first : (b : Option Bool) (u v : Option Value) → IsSome (chosen b u v) → IsSome u
chosen_first None u v h = absurd (never h)
chosen_first (Some b) None v h = absurd (never h)
chosen_first (Some b) (Some u) v h = refl

chosen_later : (b : Option Bool) (u v : Option Value) → IsSome (chosen b u v) → IsSome v
chosen_later None u v h = absurd (never h)
chosen_later (Some b) None v h = absurd (never h)
chosen_later (Some b) (Some u) None h = absurd (never h)
chosen_later (Some b) (Some u) (Some v) h = refl

operands_some : (f : List Value → Option Value) (vs : Option (List Value)) → IsSome (with_operands f vs) → IsSome vs
operands_some f None h = absurd (never h)
operands_some f (Some vs) h = refl

operand_first : (v : Option Value) (vs : Option (List Value)) → IsSome (with_operand v vs) → IsSome v
operand_first None vs h = absurd (never h)
operand_first (Some v) vs h = refl

operand_rest : (v : Option Value) (vs : Option (List Value)) → IsSome (with_operand v vs) → IsSome vs
operand_rest None vs h = absurd (never h)
operand_rest (Some v) None h = absurd (never h)
operand_rest (Some v) (Some vs) h = refl

-- the cell of a memory, and the flag of a clock
cell_is : (ms : List Memory) (vs : List Value) (w : World) (j : ℕ) (m : Memory) → CellsStand ms vs w → slice_get ms j ≡ Some m
    → slice_get vs j ≡ at_last m.clock w (Some nil) (λ i before. atom_in m.operand (row_of i))
cell_is [] vs w j m h e = absurd (cc)
cell_is (n ∷ ms) [] w j m h e = absurd h
cell_is (n ∷ ms) (v ∷ vs) w zero m h e =
    let s : n ≡ m = cc in
    h.0 ∙ ap (λ z. at_last z.clock w (Some nil) (λ i before. atom_in z.operand (row_of i))) s
cell_is (n ∷ ms) (v ∷ vs) w (suc j) m h e = cell_is ms vs w j m h.1 e

flag_is : (ks : List Clock) (bs : List Bool) (w : World) (j : ℕ) (k : Clock) → FlagsStand ks bs w → slice_get ks j ≡ Some k → slice_get bs j ≡ Some (never_on k w)
flag_is [] bs w j k h e = absurd (cc)
flag_is (l ∷ ks) [] w j k h e = absurd h
flag_is (l ∷ ks) (b ∷ bs) w zero k h e =
    let s : l ≡ k = cc in
    ap Some (h.0 ∙ ap (λ z. never_on z w) s)
flag_is (l ∷ ks) (b ∷ bs) w (suc j) k h e = flag_is ks bs w j k h.1 e

module _ (p : Program) where
  -- what holds of all parts of an expression holds of itself
  pub whole_part : (P : Part → Type 0) (e : Expression) (k : Clock) → Each P (parts p e k) → P (at k e)
  whole_part P (literal v) k h = h.0
  whole_part P e k h = h.0

  pub atom_value : (a : Atom) (k : Clock) (now : Instant) (past : World) → value p (atom_expression a) k now past ≡ atom_in a (row_of now)
  atom_value (constant v) k now past = refl
  atom_value (named x) k now past = refl

  atom_before : (a : Atom) (k : Clock) (w : World)
      → at_last k w (Some nil) (λ i before. atom_in a (row_of i)) ≡ at_last k w (Some nil) (λ i before. value p (atom_expression a) k i before)
  atom_before (constant v) k w = refl
  atom_before (named x) k w = refl

atom_run : (a : Atom) (cells : List Value) (flags : List Bool) (asks : List Ask) (r : Row) → run cells flags asks (atom_code a) r ≡ atom_in a r
atom_run (constant v) cells flags asks r = refl
atom_run (named x) cells flags asks r = refl

-- an atom holds a value where its clock is present
module _ (p : Program) (f : Node) (c : Class) (r : Row) (js : Called) (presence : PresentOnClocks f (instant true r js)) where
  pub atom_some : (a : Atom) (k : Clock) → AtomOn p f c a k → IsTrue (is_on k (instant true r js)) → IsSome (atom_in a r)
  atom_some (constant v) k h t = refl
  atom_some (named x) k h t = presence x h.1 ∙ ap (λ l. is_on l (instant true r js)) h.0 ∙ t

module _ (p : Program) (f : Node) (c : Class) (cells : List Value) (flags : List Bool) (asks : List Ask) (past : World)
    (cells_stand : CellsStand c.memories cells past) (flags_stand : FlagsStand c.firsts flags past) (r : Row) (js : Called) where
  abbrev now : Instant
  now = instant true r js

  abbrev Fine : Part → Type 0
  Fine e = HasValue p e now past

  recall_is : (j : ℕ) (k : Clock) (a : Expression) → Remembers p f c j k a → slice_get cells j ≡ at_last k past (Some nil) (λ i before. value p a k i before)
  recall_is j k a m =
      cell_is c.memories cells past j _ cells_stand m.here
      ∙ subst (λ z. at_last k past (Some nil) (λ i before. atom_in m.atom (row_of i)) ≡ at_last k past (Some nil) (λ i before. value p z k i before)) (sym m.same) (atom_before p m.atom k past)

  plain_is : (d : Code) (k : Clock) (a : Expression) → IsAtomCode p f c d k a → run cells flags asks d r ≡ value p a k now past
  plain_is d k a m =
      ap (λ z. run cells flags asks z r) m.code
      ∙ atom_run m.atom cells flags asks r
      ∙ sym (atom_value p m.atom k now past)
      ∙ ap (λ z. value p z k now past) (sym m.same)

  chosen_same : (b b2 : Option Bool) (u u2 v v2 : Option Value) → b ≡ b2 → u ≡ u2 → v ≡ v2 → chosen b u v ≡ chosen b2 u2 v2
  chosen_same b b2 u u2 v v2 e1 e2 e3 = cc

  -- where the parts below have values, the code gives the value of the expression
  mutual
    pub same : (e : Expression) (d : Code) (k : Clock) → IsCode p f c e d k → Each Fine (drop 1 (parts p e k)) → IsTrue (is_on k now)
        → run cells flags asks d r ≡ value p e k now past
    same (literal v) (fixed u) k is h t = ap Some (sym is)
    same (variable x) (fetch y) k is h t = ap (item None r) (sym is)
    same (operate o es) (compute u ds) k is h t =
        ap (λ i. with_operands (apply i) (runs cells flags asks ds r)) (sym is.0) ∙ ap (with_operands (apply o)) (same_all es ds k 0 is.1 h t)
    same (pre a) (recall j) k is h t = recall_is j k a is
    same (arrow a b) (choose j d later) k is h t =
        let ha = each_left Fine (parts p a k) (parts p b k) h in
        let hb = each_right Fine (parts p a k) (parts p b k) h in
        chosen_same _ _ _ _ _ _ (flag_is c.firsts flags past j k flags_stand is.0) (same a d k is.1 (each_drop Fine 1 (parts p a k) ha) t) (same b later k is.2 (each_drop Fine 1 (parts p b k) hb) t)
        ∙ arrow_is k past (value p a k now past) (value p b k now past) (whole_part p Fine a k ha t) (whole_part p Fine b k hb t)
    same (when u a) d k is h t = plain_is d (drop 1 k) a is
    same (merge x bs) (select y ds) k is h t = ap (λ z. selected cells flags asks ds z 0 r) (sym is.0) ∙ same_branch bs ds x 0 k is.1 h t
    same _ _ k is h t = absurd is

    same_all : (es : Operands) (ds : Codes) (k : Clock) (m : ℕ) → AreCodes p f c es ds (λ n. k) m → Each Fine (all_parts p es (λ n. k) m) → IsTrue (is_on k now)
        → runs cells flags asks ds r ≡ values p es k now past
    same_all none no_code k m is h t = refl
    same_all (more e es) (also_code d ds) k m is h t =
        let rest = all_parts p es (λ n. k) (suc m) in
        ap₂ with_operand (same e d k is.0 (each_drop Fine 1 (parts p e k) (each_left Fine (parts p e k) rest h)) t) (same_all es ds k (suc m) is.1 (each_right Fine (parts p e k) rest h) t)
    same_all _ _ k m is h t = absurd is

    same_branch : (es : Operands) (ds : Codes) (x n : ℕ) (k : Clock) → AreCodes p f c es ds (branch_clock x k) n → Each Fine (all_parts p es (branch_clock x k) n) → IsTrue (is_on k now)
        → selected cells flags asks ds x n r ≡ branch p es x n k now past
    same_branch none no_code x n k is h t = refl
    same_branch (more e es) (also_code d ds) x n k is h t =
        let inner = branch_clock x k n in
        let rest = all_parts p es (branch_clock x k) (suc n) in
        either_same (holds x n now) _ _ _ _
        (λ b. same e d inner is.0 (each_drop Fine 1 (parts p e inner) (each_left Fine (parts p e inner) rest h)) (and_from (holds x n now) (is_on k now) b t))
        (λ b. same_branch es ds x (suc n) k is.1 (each_right Fine (parts p e inner) rest h) t)
    same_branch _ _ x n k is h t = absurd is

  module _ (presence : PresentOnClocks f now) where
    pub atom_fine : (a : Atom) (k : Clock) → AtomOn p f c a k → Each Fine (parts p (atom_expression a) k)
    atom_fine (constant v) k h = (λ t. refl, tt)
    atom_fine (named x) k h = (λ t. atom_some p f c r js presence (named x) k h t, tt)

    -- the branch of a constructor below n is taken
    abbrev Taken : ℕ → ℕ → Type 0
    Taken x n = (m : ℕ) × (m < n) × (holds x m now ≡ true)

    branch_past : (x n : ℕ) (u v : Option Value) (b : Bool) → holds x n now ≡ b → Taken x n ⊎ IsSome (either b u v) → Taken x (suc n) ⊎ IsSome v
    branch_past x n u v b e (inl h) = inl (h.0, (let z : h.0 < suc n = omega (arith, h.1) in z), h.2)
    branch_past x n u v true e (inr h) = inl (n, (let z : n < suc n = omega arith in z), e)
    branch_past x n u v false e (inr h) = inr h

    branch_here : (x n : ℕ) (u v : Option Value) → holds x n now ≡ true → Taken x n ⊎ IsSome (either (holds x n now) u v) → IsSome u
    branch_here x n u v e (inl h) = let same_one : h.0 ≡ n = one_constructor h.0 n (entry now x) h.2 e in absurd (omega (arith, h.1, same_one))
    branch_here x n u v e (inr h) = subst IsSome (either_true (holds x n now) u v e) h

    -- where the code gives a value every part has one
    mutual
      pub sound : (e : Expression) (d : Code) (k : Clock) → IsCode p f c e d k → (IsTrue (is_on k now) → IsSome (run cells flags asks d r)) → Each Fine (parts p e k)
      sound (literal v) (fixed u) k is s = (λ t. refl, tt)
      sound (variable x) (fetch y) k is s = (λ t. subst IsSome (same (variable x) (fetch y) k is tt t) (s t), tt)
      sound (operate o es) (compute u ds) k is s =
          let rest = sound_all es ds k 0 is.1 (λ t. operands_some (apply u) (runs cells flags asks ds r) (s t)) in
          (λ t. subst IsSome (same (operate o es) (compute u ds) k is rest t) (s t), rest)
      sound (pre a) (recall j) k is s =
          let rest = subst (λ z. Each Fine (parts p z k)) (sym is.same) (atom_fine is.atom k is.on_clock) in
          (λ t. subst IsSome (same (pre a) (recall j) k is rest t) (s t), rest)
      sound (arrow a b) (choose j d later) k is s =
          let ha = sound a d k is.1 (λ t. chosen_first (slice_get flags j) (run cells flags asks d r) (run cells flags asks later r) (s t)) in
          let hb = sound b later k is.2 (λ t. chosen_later (slice_get flags j) (run cells flags asks d r) (run cells flags asks later r) (s t)) in
          let rest = each_append Fine (parts p a k) (parts p b k) ha hb in
          (λ t. subst IsSome (same (arrow a b) (choose j d later) k is rest t) (s t), rest)
      sound (when u a) d k is s =
          let rest = subst (λ z. Each Fine (parts p z (drop 1 k))) (sym is.same) (atom_fine is.atom (drop 1 k) is.on_clock) in
          (λ t. subst IsSome (same (when u a) d k is rest t) (s t), rest)
      sound (merge x bs) (select y ds) k is s =
          let rest = sound_branches bs ds x 0 k is.1 (λ t. inr (subst (λ z. IsSome (selected cells flags asks ds z 0 r)) (sym is.0) (s t))) in
          (λ t. subst IsSome (same (merge x bs) (select y ds) k is rest t) (s t), rest)
      sound _ _ k is s = absurd is

      sound_all : (es : Operands) (ds : Codes) (k : Clock) (m : ℕ) → AreCodes p f c es ds (λ n. k) m → (IsTrue (is_on k now) → IsSome (runs cells flags asks ds r))
          → Each Fine (all_parts p es (λ n. k) m)
      sound_all none no_code k m is s = tt
      sound_all (more e es) (also_code d ds) k m is s =
          each_append Fine (parts p e k) (all_parts p es (λ n. k) (suc m))
          (sound e d k is.0 (λ t. operand_first (run cells flags asks d r) (runs cells flags asks ds r) (s t)))
          (sound_all es ds k (suc m) is.1 (λ t. operand_rest (run cells flags asks d r) (runs cells flags asks ds r) (s t)))
      sound_all _ _ k m is s = absurd is

      sound_branches : (es : Operands) (ds : Codes) (x n : ℕ) (k : Clock) → AreCodes p f c es ds (branch_clock x k) n
          → (IsTrue (is_on k now) → Taken x n ⊎ IsSome (selected cells flags asks ds x n r)) → Each Fine (all_parts p es (branch_clock x k) n)
      sound_branches none no_code x n k is s = tt
      sound_branches (more e es) (also_code d ds) x n k is s =
          let inner = branch_clock x k n in
          let here = run cells flags asks d r in
          let others = selected cells flags asks ds x (suc n) r in
          each_append Fine (parts p e inner) (all_parts p es (branch_clock x k) (suc n))
          (sound e d inner is.0 (λ t. let both = and_parts (holds x n now) (is_on k now) t in branch_here x n here others both.0 (s both.1)))
          (sound_branches es ds x (suc n) k is.1 (λ t. branch_past x n here others (holds x n now) refl (s t)))
      sound_branches _ _ x n k is s = absurd is
