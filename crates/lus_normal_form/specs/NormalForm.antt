-- The normal form of an expression: operands of `pre`, `when` and calls are literals or
-- variables, and each call is a whole right side. What is taken out of an expression gets a new variable.
use Rattle.std.specs.Prelude.{◌≡◌, ◌⊎◌, ℕ, suc, ◌<◌, drop, Bool, true, false, List, [], ◌∷◌}
use Rattle.lus_program.specs.Programs.{Expression, literal, variable, operate, pre, arrow, when, merge, call, Operands, none, more, Program, node_at}
use Rattle.lus_streams.specs.Clocks.{Clock, Part, at, formal_clock, base_of, branch_clock}
use Rattle.lus_normal_form.specs.Forms.{Position, Inside, Operand, is_taken}

-- variable y stands for a on k, where the variables from n on stand for these parts
abbrev pub StandsFor : ℕ → List Part → ℕ → Clock → Expression → Type 0
StandsFor n [] y k a = ⊥
StandsFor n (e ∷ es) y k a = ((y ≡ n) × (e ≡ at k a)) ⊎ StandsFor (suc n) es y k a

module _ (p : Program) where
  -- the argument for formal m of g is on the clock that it had
  abbrev pub IsFormal : ℕ → (args args' : Operands) → Clock → ℕ → Type 0
  IsFormal g args args' base m = (m < (node_at p g).inputs) × (formal_clock (node_at p g) args' base m ≡ formal_clock (node_at p g) args base m)

  -- so are arguments of a call of g with this base, from formal m on
  abbrev pub AreFormals : Operands → ℕ → (args args' : Operands) → Clock → ℕ → Type 0
  AreFormals none g args args' base m = Unit {0}
  AreFormals (more e es) g args args' base m = IsFormal g args args' base m × AreFormals es g args args' base (suc m)

-- New y k a says that y is the new variable for a on k
module _ (p : Program) (New : ℕ → Clock → Expression → Type 0) where
  -- what stands for an expression on k: where it is taken out a new variable, elsewhere its normal form
  abbrev pub Stands : (is_taken : Bool) → Expression → Expression → Clock → (IsForm : Type 0) → Type 0
  Stands true e e' k form = (y : ℕ) × (e' ≡ variable y) × New y k e
  Stands false e e' k form = form

  abbrev mutual
    -- e' is the normal form of a whole right side on k
    pub IsRight : Expression → Expression → Clock → Type 0
    IsRight (literal v) e' k = e' ≡ literal v
    IsRight (variable x) e' k = e' ≡ variable x
    IsRight (operate o es) e' k = (es' : Operands) × (e' ≡ operate o es') × AreNormal Inside es es' (λ m. k) 0
    IsRight (pre a) e' k = (a' : Expression) × (e' ≡ pre a') × Stands (is_taken Operand a) a a' k (IsRight a a' k)
    IsRight (arrow a b) e' k =
        (a' b' : Expression) × (e' ≡ arrow a' b')
        × Stands (is_taken Inside a) a a' k (IsRight a a' k)
        × Stands (is_taken Inside b) b b' k (IsRight b b' k)
    IsRight (when t a) e' k = (a' : Expression) × (e' ≡ when t a') × Stands (is_taken Operand a) a a' (drop 1 k) (IsRight a a' (drop 1 k))
    IsRight (merge x bs) e' k = (bs' : Operands) × (e' ≡ merge x bs') × AreNormal Inside bs bs' (branch_clock x k) 0
    IsRight (call g c args) e' k =
        (args' : Operands) × (e' ≡ call g c args')
        × (AreFormals p args g args args' (base_of (node_at p g) k) 0 × AreNormal Operand args args' (formal_clock (node_at p g) args (base_of (node_at p g) k)) 0)

    -- operands from number m on, each on the clock of its number
    pub AreNormal : Position → Operands → Operands → (ℕ → Clock) → ℕ → Type 0
    AreNormal here none es' ks m = es' ≡ none
    AreNormal here (more e es) es' ks m =
        (e' : Expression) × (rest : Operands) × (es' ≡ more e' rest) × Stands (is_taken here e) e e' (ks m) (IsRight e e' (ks m)) × AreNormal here es rest ks (suc m)

  -- all arguments of a call of g with this base
  abbrev pub IsCallOf : ℕ → Operands → Operands → Clock → Type 0
  IsCallOf g args args' base = AreFormals p args g args args' base 0 × AreNormal Operand args args' (formal_clock (node_at p g) args base) 0

-- a literal or a variable
abbrev pub IsAtom : Expression → Type 0
IsAtom (literal v) = Unit {0}
IsAtom (variable x) = Unit {0}
IsAtom _ = ⊥

-- literals and variables
abbrev pub AreAtoms : Operands → Type 0
AreAtoms none = Unit {0}
AreAtoms (more e es) = IsAtom e × AreAtoms es

-- the operands of `pre` and `when` are literals or variables, and no call stands there
abbrev mutual
  pub IsSimple : Expression → Type 0
  IsSimple (literal v) = Unit {0}
  IsSimple (variable x) = Unit {0}
  IsSimple (operate o es) = AreSimple es
  IsSimple (pre a) = IsAtom a
  IsSimple (arrow a b) = IsSimple a × IsSimple b
  IsSimple (when t a) = IsAtom a
  IsSimple (merge x bs) = AreSimple bs
  IsSimple (call g c args) = ⊥

  pub AreSimple : Operands → Type 0
  AreSimple none = Unit {0}
  AreSimple (more e es) = IsSimple e × AreSimple es

-- a whole right side: a call of literals and variables, or simple
abbrev pub IsSimpleRight : Expression → Type 0
IsSimpleRight (call g c args) = AreAtoms args
IsSimpleRight e = IsSimple e
