-- Where calls are numbered by their places, two variables that are outputs of a call of one number stand on one left side.
use Rattle.std.proofs.Common.{◌≡◌, sym, subst, ℕ, suc, ◌≤◌, List, [], ◌∷◌, ◌++◌, Option, Some, None, arith, ⊎_elim}
use Rattle.lus_program.specs.Programs.{Expression, call, Operands, Equation, Node, Program, node_at}
use Rattle.lus_streams.specs.Clocks.{Clock, Part, at, formal_clock, base_of, parts, all_parts}
use Rattle.lus_streams.specs.Equations.{Definition, given_by, place_in, equation_clock, definition_in, equation_parts, Site, sites_in}
use Rattle.lus_streams.proofs.Calls.{OfCall, parts_of_sites}
use Rattle.lus_streams.proofs.Definitions.{RightParts, right_parts}
use Rattle.lus_normal_form.specs.NormalNodes.{AreSites}
use Rattle.lus_normal_form.specs.Named.{Numbered, IsCalled}
use Rattle.lus_normal_form.proofs.ResolvedNamed.{each_called}

-- the numbers are those from n on
from_first : (n : ℕ) (ss : List Site) → Numbered n ss → (g c : ℕ) → IsCalled ss g c → n ≤ c
from_first n [] h g c is = absurd is
from_first n (s ∷ ss) h g c is =
    ⊎_elim
    (λ e. let place = h.0 in let number = e.1 in omega (arith, place, number))
    (λ rest. let later = from_first (suc n) ss h.1 g c rest in omega (arith, later))
    is

-- the same calls have the same numbers
pub numbered_same : (p : Program) (New : ℕ → Clock → Expression → Type 0) (n : ℕ) (ss ss' : List Site) → AreSites p New ss ss' → Numbered n ss → Numbered n ss'
numbered_same p New n [] ss' is h = subst (Numbered n) (sym is) tt
numbered_same p New n (s ∷ ss) ss' is h = subst (Numbered n) (sym is.2) (h.0, numbered_same p New (suc n) ss is.1 is.4 h.1)

module _ (p : Program) where
  -- after some parts the numbers go on
  numbered_after : (n : ℕ) (es rest : List Part) → Numbered n (sites_in p (es ++ rest)) → (m : ℕ) × (n ≤ m) × Numbered m (sites_in p rest)
  numbered_after n [] rest h = (n, omega arith, h)
  numbered_after n (at k (call g c args) ∷ es) rest h = let later = numbered_after (suc n) es rest h.1 in (later.0, let le = later.1 in omega (arith, le), later.2)
  numbered_after n (at k _ ∷ es) rest h = numbered_after n es rest h

  -- a variable that a call gives has that call among those of the equations
  module _ (f : Node) where
    called_by : (qs : List Equation) (x g c n : ℕ) (args : Operands) (xs : List ℕ) (k : Clock) → definition_in f qs x ≡ Some (given_by (call g c args) n xs k) → IsCalled (sites_in p (equation_parts p f qs)) g c
    called_by qs x g c n args xs k e =
        let Here : (g c : ℕ) → Operands → Clock → Type 0 = λ g c args k. IsCalled (sites_in p (equation_parts p f qs)) g c in
        (subst (RightParts p (OfCall Here)) e (right_parts p (OfCall Here) f qs x (parts_of_sites p Here (equation_parts p f qs) (each_called (sites_in p (equation_parts p f qs)))))).0

    -- the number of a whole right side is no number of later equations
    not_later : (n : ℕ) (q : Equation) (qs : List Equation) → Numbered n (sites_in p (equation_parts p f (q ∷ qs))) → (g c : ℕ) (args : Operands) → q.right ≡ call g c args → IsCalled (sites_in p (equation_parts p f qs)) g c → ⊥
    not_later n q qs h g c args e is =
        let k = equation_clock f q in
        let shaped = subst (λ z. Numbered n (sites_in p (parts p z k ++ equation_parts p f qs))) e h in
        let later = numbered_after (suc n) (all_parts p args (formal_clock (node_at p g) args (base_of (node_at p g) k)) 0) (equation_parts p f qs) shaped.1 in
        let here : c ≡ n = shaped.0 in
        let le = later.1 in
        let more = from_first later.0 (sites_in p (equation_parts p f qs)) later.2 g c is in
        omega (arith, here, le, more)

    abbrev Defines : Equation → List Equation → Option ℕ → ℕ → Option Definition
    Defines q qs o x = elim o [ None ↦ definition_in f qs x | Some n ↦ Some (given_by q.right n q.targets (equation_clock f q)) ]

    one_left_at : (n : ℕ) (q : Equation) (qs : List Equation) → Numbered n (sites_in p (equation_parts p f (q ∷ qs))) → (x y g c i j : ℕ) (args others : Operands) (xs ys : List ℕ) (k l : Clock) (o r : Option ℕ)
        → Defines q qs o x ≡ Some (given_by (call g c args) i xs k) → Defines q qs r y ≡ Some (given_by (call g c others) j ys l)
        → (definition_in f qs x ≡ Some (given_by (call g c args) i xs k) → definition_in f qs y ≡ Some (given_by (call g c others) j ys l) → xs ≡ ys) → xs ≡ ys
    one_left_at n q qs h x y g c i j args others xs ys k l None None d e later = later d e
    one_left_at n q qs h x y g c i j args others xs ys k l None (Some b) d e later =
        let whole : q.right ≡ call g c others = cc in
        absurd (not_later n q qs h g c others whole (called_by qs x g c i args xs k d))
    one_left_at n q qs h x y g c i j args others xs ys k l (Some a) None d e later =
        let whole : q.right ≡ call g c args = cc in
        absurd (not_later n q qs h g c args whole (called_by qs y g c j others ys l e))
    one_left_at n q qs h x y g c i j args others xs ys k l (Some a) (Some b) d e later = cc

    pub one_left : (n : ℕ) (qs : List Equation) → Numbered n (sites_in p (equation_parts p f qs)) → (x y g c i j : ℕ) (args others : Operands) (xs ys : List ℕ) (k l : Clock)
        → definition_in f qs x ≡ Some (given_by (call g c args) i xs k) → definition_in f qs y ≡ Some (given_by (call g c others) j ys l) → xs ≡ ys
    one_left n [] h x y g c i j args others xs ys k l d e = cc
    one_left n (q ∷ qs) h x y g c i j args others xs ys k l d e =
        let rest = numbered_after n (parts p q.right (equation_clock f q)) (equation_parts p f qs) h in
        one_left_at n q qs h x y g c i j args others xs ys k l (place_in x q.targets 0) (place_in y q.targets 0) d e (one_left rest.0 qs rest.2 x y g c i j args others xs ys k l)
