-- What holds of equations holds of the definitions of variables: their right sides, and the clocks that they give.
use Rattle.std.proofs.Common.{◌≡◌, ℕ, suc, ◌+◌, ◌<◌, nat_eq, Bool, true, false, List, [], ◌∷◌, length, Option, Some, None, refl, sym, subst, if◌then◌else◌, arith}
use Rattle.std.proofs.lemmas.Bool.{eqb-true}
use Rattle.lus_values.specs.Lists.{Each}
use Rattle.lus_program.specs.Programs.{Equation, Node, Program}
use Rattle.lus_streams.specs.Clocks.{Part, parts}
use Rattle.lus_streams.specs.Equations.{Definition, given_by, place_in, equation_clock, definition_in, definition_of, equation_parts}
use Rattle.lus_streams.specs.OnClock.{DefinedOnClock, LeftOnClock, IsOnClocks}
use Rattle.lus_streams.proofs.Lists.{each_left, each_right}

-- a place on a left side is below its size
place_or : (n : ℕ) (x : ℕ) (ys : List ℕ) (i : ℕ) (b : Bool) → (place_in x ys (suc n) ≡ Some i → i < suc n + length ys) → (if b then Some n else place_in x ys (suc n)) ≡ Some i → i < n + suc (length ys)
place_or n x ys i true rest e = let here : n ≡ i = cc in omega (arith, here)
place_or n x ys i false rest e = omega (arith, rest e)

pub place_within : (x : ℕ) (ys : List ℕ) (n i : ℕ) → place_in x ys n ≡ Some i → i < n + length ys
place_within x [] n i e = cc
place_within x (y ∷ ys) n i e = place_or n x ys i (nat_eq x y) (place_within x ys (suc n) i) e

-- P holds of each part of the right side that defines a variable
abbrev pub RightParts : Program → (Part → Type 0) → Option Definition → Type 0
RightParts p P None = Unit {0}
RightParts p P (Some (given_by e n xs k)) = Each P (parts p e k)

module _ (p : Program) (P : Part → Type 0) (f : Node) where
  right_at : (q : Equation) (qs : List Equation) (x : ℕ) (o : Option ℕ) → Each P (parts p q.right (equation_clock f q)) → RightParts p P (definition_in f qs x)
      → RightParts p P (elim o [ None ↦ definition_in f qs x | Some n ↦ Some (given_by q.right n q.targets (equation_clock f q)) ])
  right_at q qs x None h k = k
  right_at q qs x (Some n) h k = h

  pub right_parts : (qs : List Equation) (x : ℕ) → Each P (equation_parts p f qs) → RightParts p P (definition_in f qs x)
  right_parts [] x h = tt
  right_parts (q ∷ qs) x h =
      let first = parts p q.right (equation_clock f q) in
      right_at q qs x (place_in x q.targets 0) (each_left P first (equation_parts p f qs) h) (right_parts qs x (each_right P first (equation_parts p f qs) h))

-- a variable is on the clock that its definition gives it
module _ (p : Program) (f : Node) (x : ℕ) where
  abbrev DefinedAt : Equation → Option ℕ → Type 0
  DefinedAt q None = Unit {0}
  DefinedAt q (Some n) = DefinedOnClock p f x (Some (given_by q.right n q.targets (equation_clock f q)))

  place_is_on : (q : Equation) (n y : ℕ) (ys : List ℕ) (b : Bool) → nat_eq x y ≡ b → LeftOnClock p f q n (y ∷ ys) → DefinedAt q (place_in x ys (suc n)) → DefinedAt q (if b then Some n else place_in x ys (suc n))
  place_is_on q n y ys true e h k = subst (λ z. DefinedOnClock p f z (Some (given_by q.right n q.targets (equation_clock f q)))) (sym (eqb-true x y e)) h.0
  place_is_on q n y ys false e h k = k

  left_is_on : (q : Equation) (n : ℕ) (ys : List ℕ) → LeftOnClock p f q n ys → DefinedAt q (place_in x ys n)
  left_is_on q n [] h = tt
  left_is_on q n (y ∷ ys) h = place_is_on q n y ys (nat_eq x y) refl h (left_is_on q (suc n) ys h.1)

  defined_first : (q : Equation) (qs : List Equation) (o : Option ℕ) → DefinedAt q o → DefinedOnClock p f x (definition_in f qs x)
      → DefinedOnClock p f x (elim o [ None ↦ definition_in f qs x | Some n ↦ Some (given_by q.right n q.targets (equation_clock f q)) ])
  defined_first q qs None h k = k
  defined_first q qs (Some n) h k = h

  defined_in : (qs : List Equation) → Each (λ q. LeftOnClock p f q 0 q.targets) qs → DefinedOnClock p f x (definition_in f qs x)
  defined_in [] h = tt
  defined_in (q ∷ qs) h = defined_first q qs (place_in x q.targets 0) (left_is_on q 0 q.targets h.0) (defined_in qs h.1)

  pub defined_on_clock : IsOnClocks p f → DefinedOnClock p f x (definition_of f x)
  defined_on_clock h = defined_in f.equations h.lefts
