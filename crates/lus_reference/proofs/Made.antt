-- The value of an expression is made of those of its operands: read from the end, the parts of a text are behind their operands.
use Rattle.std.proofs.Common.{◌≡◌, ℕ, zero, suc, ◌+◌, Bool, true, false, List, [], ◌∷◌, ◌++◌, drop, take, map, length, length-append, Option, Some, None, is_some, IsSome, IsTrue, refl, sym, ap, ap₂, ◌∙◌, subst, true≢false, append_assoc, arith}
use Rattle.lus_values.specs.Lists.{item}
use Rattle.lus_values.specs.Operators.{apply}
use Rattle.lus_values.specs.Values.{Value, nil, Row}
use Rattle.lus_values.specs.Entries.{is_constructor, with_operand, with_operands}
use Rattle.lus_program.specs.Parts.{parts as count, parts_all as all_count}
use Rattle.lus_program.specs.Programs.{Expression, literal, variable, operate, pre, arrow, when, merge, call, Operands, none, more, calls, numbered, all_numbered, Program, node_at}
use Rattle.lus_streams.specs.Clocks.{Clock, Part, at, formal_clock, base_of, branch_clock, parts, all_parts}
use Rattle.lus_streams.specs.Streams.{Instant, World, row_of, entry, called_instant, is_on, at_last, value, values, branch, output}
use Rattle.lus_parts.specs.Nested.{IsFollowed}
use Rattle.lus_parts.proofs.Steps.{first_part}
use Rattle.lus_reference.specs.Kept.{before, latest, HadValue, Keeps, AreRowsFrom}
use Rattle.lus_reference.specs.Made.{many, width, gathered, held, output_in, made, roots, value_in}
use Rattle.lus_reference.proofs.Drops.{dropped_map, dropped_next}

-- items behind others
item_one : {X : Type 0} (d : X) (xs : List X) → item d xs 1 ≡ item d (drop 1 xs) 0
item_one d [] = refl
item_one d (x ∷ xs) = refl

pub item_behind : {X : Type 0} (d : X) (n m : ℕ) (xs : List X) → item d (drop n xs) m ≡ item d xs (n + m)
item_behind d zero m xs = let same : m ≡ 0 + m = omega arith in ap (item d xs) same
item_behind d (suc n) m [] = refl
item_behind d (suc n) m (x ∷ xs) = let same : suc (n + m) ≡ suc n + m = omega arith in item_behind d n m xs ∙ ap (item d (x ∷ xs)) same

-- one of two, the first where the condition holds
abbrev either : {X : Type 0} → Bool → X → X → X
either b x y = elim b [ true ↦ x | false ↦ y ]

-- the last value of an operand, as `pre` and `->` ask for it
before_here : (b : Bool) (v : Option Value) → (IsTrue b → IsSome v) → (x y : Option Value) → before x ≡ y → before (either b v x) ≡ either b v y
before_here true (Some v) h x y e = refl
before_here true None h x y e = elim (true≢false (sym (h refl))) [ ]
before_here false v h x y e = e

chosen_here : (b : Bool) (v : Option Value) → (IsTrue b → IsSome v) → (x d e y : Option Value) → either (is_some x) e d ≡ y → either (is_some (either b v x)) e d ≡ either b e y
chosen_here true (Some v) h x d e y same = refl
chosen_here true None h x d e y same = elim (true≢false (sym (h refl))) [ ]
chosen_here false v h x d e y same = same

module _ (p : Program) (a : Expression) (k : Clock) where
  before_last : (past : World) → HadValue p (at k a) past → before (latest p (at k a) past) ≡ at_last k past (Some nil) (λ i earlier. value p a k i earlier)
  before_last [] h = refl
  before_last (i ∷ past) h = before_here (is_on k i) (value p a k i past) h.0 (latest p (at k a) past) (at_last k past (Some nil) (λ j earlier. value p a k j earlier)) (before_last past h.1)

  chosen_last : (past : World) (d e : Option Value) → HadValue p (at k a) past → either (is_some (latest p (at k a) past)) e d ≡ at_last k past d (λ i earlier. e)
  chosen_last [] d e h = refl
  chosen_last (i ∷ past) d e h = chosen_here (is_on k i) (value p a k i past) h.0 (latest p (at k a) past) d e (at_last k past d (λ j earlier. e)) (chosen_last past d e h.1)

-- operands from number m on, each with the clock of its number
abbrev pub all_at : Operands → (ℕ → Clock) → ℕ → List Part
all_at none ks m = []
all_at (more e es) ks m = at (ks m) e ∷ all_at es ks (suc m)

left_all : (es : Operands) (ks : ℕ → Clock) (m : ℕ) (rest : List Part) → drop (many es) (all_at es ks m ++ rest) ≡ rest
left_all none ks m rest = refl
left_all (more e es) ks m rest = left_all es ks (suc m) rest

taken_all : {X : Type 0} (f : Part → X) (es : Operands) (ks : ℕ → Clock) (m : ℕ) (rest : List Part) → take (many es) (map f (all_at es ks m ++ rest)) ≡ map f (all_at es ks m)
taken_all f none ks m rest = refl
taken_all f (more e es) ks m rest = ap (λ l. f (at (ks m) e) ∷ l) (taken_all f es ks (suc m) rest)

module _ (p : Program) where
  -- an expression has as many parts as it counts, however its calls are numbered
  mutual
    pub counted : (e : Expression) (n : ℕ) (k : Clock) → length (parts p (numbered n e) k) ≡ count e
    counted (literal v) n k = refl
    counted (variable x) n k = refl
    counted (operate o es) n k = ap suc (all_counted es n (λ m. k) 0)
    counted (pre a) n k = ap suc (counted a n k)
    counted (arrow a b) n k = ap suc (length-append (parts p (numbered n a) k) (parts p (numbered (n + calls a) b) k) ∙ ap₂ ◌+◌ (counted a n k) (counted b (n + calls a) k))
    counted (when t a) n k = ap suc (counted a n (drop 1 k))
    counted (merge x bs) n k = ap suc (all_counted bs n (branch_clock x k) 0)
    counted (call g c args) n k = ap suc (all_counted args (suc n) (formal_clock (node_at p g) (all_numbered (suc n) args) (base_of (node_at p g) k)) 0)

    pub all_counted : (es : Operands) (n : ℕ) (ks : ℕ → Clock) (m : ℕ) → length (all_parts p (all_numbered n es) ks m) ≡ all_count es
    all_counted none n ks m = refl
    all_counted (more e es) n ks m =
        length-append (parts p (numbered n e) (ks m)) (all_parts p (all_numbered (n + calls e) es) ks (suc m)) ∙ ap₂ ◌+◌ (counted e n (ks m)) (all_counted es (n + calls e) ks (suc m))

  -- the operands of an expression on k
  abbrev pub operand_parts : Expression → Clock → List Part
  operand_parts (literal v) k = []
  operand_parts (variable x) k = []
  operand_parts (operate o es) k = all_at es (λ m. k) 0
  operand_parts (pre a) k = at k a ∷ []
  operand_parts (arrow a b) k = at k a ∷ at k b ∷ []
  operand_parts (when t a) k = at (drop 1 k) a ∷ []
  operand_parts (merge x bs) k = all_at bs (branch_clock x k) 0
  operand_parts (call g c args) k = all_at args (formal_clock (node_at p g) args (base_of (node_at p g) k)) 0

  left_behind : (e : Expression) (k : Clock) (rest : List Part) → drop (width e) (operand_parts e k ++ rest) ≡ rest
  left_behind (literal v) k rest = refl
  left_behind (variable x) k rest = refl
  left_behind (operate o es) k rest = left_all es (λ m. k) 0 rest
  left_behind (pre a) k rest = refl
  left_behind (arrow a b) k rest = refl
  left_behind (when t a) k rest = refl
  left_behind (merge x bs) k rest = left_all bs (branch_clock x k) 0 rest
  left_behind (call g c args) k rest = left_all args (formal_clock (node_at p g) args (base_of (node_at p g) k)) 0 rest

  taken_behind : {X : Type 0} (f : Part → X) (e : Expression) (k : Clock) (rest : List Part) → take (width e) (map f (operand_parts e k ++ rest)) ≡ map f (operand_parts e k)
  taken_behind f (literal v) k rest = refl
  taken_behind f (variable x) k rest = refl
  taken_behind f (operate o es) k rest = taken_all f es (λ m. k) 0 rest
  taken_behind f (pre a) k rest = refl
  taken_behind f (arrow a b) k rest = refl
  taken_behind f (when t a) k rest = refl
  taken_behind f (merge x bs) k rest = taken_all f bs (branch_clock x k) 0 rest
  taken_behind f (call g c args) k rest = taken_all f args (formal_clock (node_at p g) args (base_of (node_at p g) k)) 0 rest

  -- where the outermost parts behind an expression begin with its operands, those from it on begin with itself
  at_first : (e : Expression) (k : Clock) (rest : List Part) → roots (drop 1 (parts p e k) ++ rest) ≡ operand_parts e k ++ roots rest → roots (parts p e k ++ rest) ≡ at k e ∷ roots rest
  at_first e k rest h = ap (λ l. roots (l ++ rest)) (first_part p e k) ∙ ap (λ l. at k e ∷ drop (width e) l) h ∙ ap (λ l. at k e ∷ l) (left_behind e k (roots rest))

  mutual
    roots_behind : (e : Expression) (k : Clock) (rest : List Part) → roots (drop 1 (parts p e k) ++ rest) ≡ operand_parts e k ++ roots rest
    roots_behind (literal v) k rest = refl
    roots_behind (variable x) k rest = refl
    roots_behind (operate o es) k rest = all_roots es (λ m. k) 0 rest
    roots_behind (pre a) k rest = at_first a k rest (roots_behind a k rest)
    roots_behind (arrow a b) k rest =
        ap roots (append_assoc (parts p a k) (parts p b k) rest)
        ∙ at_first a k (parts p b k ++ rest) (roots_behind a k (parts p b k ++ rest))
        ∙ ap (λ l. at k a ∷ l) (at_first b k rest (roots_behind b k rest))
    roots_behind (when t a) k rest = at_first a (drop 1 k) rest (roots_behind a (drop 1 k) rest)
    roots_behind (merge x bs) k rest = all_roots bs (branch_clock x k) 0 rest
    roots_behind (call g c args) k rest = all_roots args (formal_clock (node_at p g) args (base_of (node_at p g) k)) 0 rest

    pub all_roots : (es : Operands) (ks : ℕ → Clock) (m : ℕ) (rest : List Part) → roots (all_parts p es ks m ++ rest) ≡ all_at es ks m ++ roots rest
    all_roots none ks m rest = refl
    all_roots (more e es) ks m rest =
        let others = all_parts p es ks (suc m) in
        ap roots (append_assoc (parts p e (ks m)) others rest)
        ∙ at_first e (ks m) (others ++ rest) (roots_behind e (ks m) (others ++ rest))
        ∙ ap (λ l. at (ks m) e ∷ l) (all_roots es ks (suc m) rest)

  pub roots_at : (e : Expression) (k : Clock) (rest : List Part) → roots (parts p e k ++ rest) ≡ at k e ∷ roots rest
  roots_at e k rest = at_first e k rest (roots_behind e k rest)

  pub keeps_left : (past : World) (xs ys : List Part) (kept : Row) → Keeps p past (xs ++ ys) kept → Keeps p past xs kept
  keeps_left past [] ys kept h = tt
  keeps_left past (x ∷ xs) ys kept h = (h.0, h.1, keeps_left past xs ys (drop 1 kept) h.2)

  pub keeps_past : (past : World) (i : ℕ) (es : List Part) (kept : Row) → Keeps p past es kept → Keeps p past (drop i es) (drop i kept)
  keeps_past past zero es kept h = h
  keeps_past past (suc i) [] kept h = tt
  keeps_past past (suc i) (e ∷ es) kept h = subst (Keeps p past (drop i es)) (sym (dropped_next i kept)) (keeps_past past i es (drop 1 kept) h.2)

  -- what is kept of an expression itself stands first
  keeps_first : (past : World) (e : Expression) (k : Clock) (kept : Row) → Keeps p past (parts p e k) kept → (item None kept 0 ≡ latest p (at k e) past) × HadValue p (at k e) past
  keeps_first past e k kept h = let first = subst (λ l. Keeps p past l kept) (first_part p e k) h in (first.0, first.1)

module _ (p : Program) (now : Instant) (past : World) where
  pub gathered_are : (es : Operands) (k : Clock) (m : ℕ) → gathered (map (value_in p now past) (all_at es (λ i. k) m)) ≡ values p es k now past
  gathered_are none k m = refl
  gathered_are (more e es) k m = ap (with_operand (value p e k now past)) (gathered_are es k (suc m))

  held_is : (bs : Operands) (x c : ℕ) (k : Clock) → held (map (value_in p now past) (all_at bs (branch_clock x k) c)) (entry now x) c ≡ branch p bs x c k now past
  held_is none x c k = refl
  held_is (more e es) x c k = ap (either (is_constructor c (entry now x)) (value p e (branch_clock x k c) now past)) (held_is es x (suc c) k)

module _ (p : Program) (now : Instant) (past : World) (rows : List Row) (called : AreRowsFrom now 0 rows) where
  pub output_is : (g c n : ℕ) → output_in p rows g c n ≡ output p g c n now
  output_is g c n =
      let inputs = (node_at p g).inputs in
      let first : 0 + c ≡ c = omega arith in
      item_behind None inputs n (item [] rows c) ∙ ap (λ l. item None l (inputs + n)) (called c) ∙ ap (λ i. item None (row_of (called_instant i now)) (inputs + n)) first

  -- the value of an expression is made of those of its operands
  made_is_value : (e : Expression) (k : Clock) (kept : Row) → Keeps p past (parts p e k) kept → made p (row_of now) rows e (map (value_in p now past) (operand_parts p e k)) (item None kept 1) ≡ value p e k now past
  made_is_value (literal v) k kept h = refl
  made_is_value (variable x) k kept h = refl
  made_is_value (operate o es) k kept h = ap (with_operands (apply o)) (gathered_are p now past es k 0)
  made_is_value (pre a) k kept h =
      let first = keeps_first p past a k (drop 1 kept) h.2 in
      ap before (item_one None kept ∙ first.0) ∙ before_last p a k past first.1
  made_is_value (arrow a b) k kept h =
      let first = keeps_first p past a k (drop 1 kept) (keeps_left p past (parts p a k) (parts p b k) (drop 1 kept) h.2) in
      let begun : is_some (item None kept 1) ≡ is_some (latest p (at k a) past) = ap is_some (item_one None kept ∙ first.0) in
      ap (λ s. either s (value p b k now past) (value p a k now past)) begun ∙ chosen_last p a k past (value p a k now past) (value p b k now past) first.1
  made_is_value (when t a) k kept h = refl
  made_is_value (merge x bs) k kept h = held_is p now past bs x 0 k
  made_is_value (call g c args) k kept h = output_is g c 0

  -- a part before others, whose outermost have these values
  module _ (e : Expression) (k : Clock) (later : List Part) (kept vs : Row) (followed : IsFollowed p (at k e) (at k e ∷ later)) (keeps : Keeps p past (at k e ∷ later) kept) (same : vs ≡ map (value_in p now past) (roots later)) where
    pub operands_are : take (width e) vs ≡ map (value_in p now past) (operand_parts p e k)
    operands_are =
        let rest = followed.0 in
        let tail : later ≡ drop 1 (parts p e k) ++ rest = ap (drop 1) (followed.1 ∙ ap (λ l. l ++ rest) (first_part p e k)) in
        ap (take (width e)) (same ∙ ap (λ l. map (value_in p now past) (roots l)) tail ∙ ap (map (value_in p now past)) (roots_behind p e k rest))
        ∙ taken_behind p (value_in p now past) e k (roots rest)

    pub value_is : made p (row_of now) rows e (take (width e) vs) (item None kept 1) ≡ value p e k now past
    value_is =
        let own = keeps_left p past (parts p e k) followed.0 kept (subst (λ l. Keeps p past l kept) followed.1 keeps) in
        ap (λ os. made p (row_of now) rows e os (item None kept 1)) operands_are ∙ made_is_value e k kept own

    pub stack_is : (v : Option Value) → v ≡ value p e k now past → v ∷ drop (width e) vs ≡ map (value_in p now past) (roots (at k e ∷ later))
    stack_is v h = ap₂ ◌∷◌ h (ap (drop (width e)) same ∙ sym (dropped_map (value_in p now past) (width e) (roots later)))
