-- The forms that are computed are normal forms.
use Rattle.std.proofs.Common.{ℕ, suc, ◌+◌, Bool, true, false, cond, List, ◌∷◌, ◌++◌, drop, refl, ap}
use Rattle.lus_values.specs.Lists.{Each}
use Rattle.lus_program.specs.Programs.{Expression, literal, variable, operate, pre, arrow, when, merge, call, Operands, none, more, Program, node_at}
use Rattle.lus_streams.specs.Clocks.{Clock, Part, at, formal_clock, base_of, branch_clock, parts, all_parts}
use Rattle.lus_streams.proofs.Lists.{each_left, each_right}
use Rattle.lus_normal_form.specs.NormalForm.{AreFormals, Stands, IsRight, AreNormal, StandsFor}
use Rattle.lus_normal_form.specs.NormalNodes.{EachFrom}
use Rattle.lus_normal_form.proofs.Formals.{KeepsNames, formal_stays}
use Rattle.lus_normal_form.specs.Forms.{Position, Inside, Operand, is_taken, size, listed, right_form, operands_form, form}
use Rattle.lus_normal_form.specs.Parts.{right_taken, operands_taken, taken}
use Rattle.lus_normal_form.specs.Computed.{HaveFormals, HasFormals, IsNew, IsRightOf, RightsAreNormal}
use Rattle.lus_normal_form.proofs.Counted.{after_taken}
use Rattle.lus_normal_form.proofs.Runs.{from_left, from_right, from_append}

keeps_names : (es : Operands) (n : ℕ) → KeepsNames es (listed (operands_form Operand n es))
keeps_names none n = refl
keeps_names (more e es) n =
    let m = n + size Operand e in
    (form Operand n e, listed (operands_form Operand m es), refl, (λ x eq. ap (form Operand n) eq), keeps_names es m)

module _ (p : Program) (New : ℕ → Clock → Expression → Type 0) where
  abbrev N : ℕ → List Part → Type 0
  N n ts = EachFrom (IsNew p New) n ts

  abbrev G : ℕ → List Part → Type 0
  G n ts = EachFrom (IsRightOf p New) n ts

  abbrev Fs : List Part → Type 0
  Fs ts = Each (HasFormals p) ts

  -- of a whole right side, and of what is taken out of it
  abbrev Right : Expression → Clock → Type 0
  Right e k = (n : ℕ) → N n (right_taken p e k) → IsRight p New e (right_form n e) k × G n (right_taken p e k)

  abbrev Normal : Position → Expression → Clock → ℕ → Type 0
  Normal here e k n = Stands p New (is_taken here e) e (form here n e) k (IsRight p New e (form here n e) k)

  one : (here : Position) (e : Expression) (k : Clock) (n : ℕ) → Right e k → N n (taken p here e k) → Normal here e k n × G n (taken p here e k)
  one here e k n right h = choose (is_taken here e) h
    where
      choose : (b : Bool) → N n (cond b (at k e ∷ right_taken p e k) (right_taken p e k))
          → Stands p New b e (cond b (variable n) (right_form n e)) k (IsRight p New e (cond b (variable n) (right_form n e)) k) × G n (cond b (at k e ∷ right_taken p e k) (right_taken p e k))
      choose true h = let rest = right (suc n) h.1 in ((n, refl, h.0), (rest.0, rest.1))
      choose false h = right n h

  -- one before others
  first : (here : Position) (e : Expression) (k : Clock) (n : ℕ) (ts : List Part) (T : Type 0) → Right e k → (N (n + size here e) ts → T × G (n + size here e) ts)
      → N n (taken p here e k ++ ts) → Normal here e k n × T × G n (taken p here e k ++ ts)
  first here e k n ts T right later h =
      let m = n + size here e in
      let after = after_taken p here e k n in
      let own = one here e k n right (from_left (IsNew p New) n (taken p here e k) ts h) in
      let rest = later (from_right (IsNew p New) n m (taken p here e k) ts after h) in
      (own.0, rest.0, from_append (IsRightOf p New) n m (taken p here e k) ts after own.1 rest.1)

  are_formals : (g : ℕ) (args args' : Operands) → KeepsNames args args' → (base : Clock) (es : Operands) (m : ℕ) → HaveFormals (node_at p g) args es m → AreFormals p es g args args' base m
  are_formals g args args' keeps base none m have = tt
  are_formals g args args' keeps base (more e es) m have =
      ((have.0, formal_stays (node_at p g) args args' keeps base m have.1), are_formals g args args' keeps base es (suc m) have.2)

  mutual
    rights_are : (e : Expression) (k : Clock) → Fs (parts p e k) → Right e k
    rights_are (literal v) k have n h = (refl, tt)
    rights_are (variable x) k have n h = (refl, tt)
    rights_are (operate o es) k have n h = let all = all_are Inside es (λ m. k) 0 have.1 n h in ((listed (operands_form Inside n es), refl, all.0), all.1)
    rights_are (pre a) k have n h = let own = one Operand a k n (rights_are a k have.1) h in ((form Operand n a, refl, own.0), own.1)
    rights_are (arrow a b) k have n h =
        let m = n + size Inside a in
        let of_a = rights_are a k (each_left (HasFormals p) (parts p a k) (parts p b k) have.1) in
        let of_b = rights_are b k (each_right (HasFormals p) (parts p a k) (parts p b k) have.1) in
        let both = first Inside a k n (taken p Inside b k) (Normal Inside b k m) of_a (one Inside b k m of_b) h in
        ((form Inside n a, form Inside m b, refl, both.0, both.1), both.2)
    rights_are (when t a) k have n h = let own = one Operand a (drop 1 k) n (rights_are a (drop 1 k) have.1) h in ((form Operand n a, refl, own.0), own.1)
    rights_are (merge x bs) k have n h = let all = all_are Inside bs (branch_clock x k) 0 have.1 n h in ((listed (operands_form Inside n bs), refl, all.0), all.1)
    rights_are (call g c args) k have n h =
        let base = base_of (node_at p g) k in
        let args' = listed (operands_form Operand n args) in
        let all = all_are Operand args (formal_clock (node_at p g) args base) 0 have.1 n h in
        ((args', refl, (are_formals g args args' (keeps_names args n) base args 0 have.0, all.0)), all.1)

    all_are : (here : Position) (es : Operands) (ks : ℕ → Clock) (m : ℕ) → Fs (all_parts p es ks m) → (n : ℕ) → N n (operands_taken p here es ks m)
        → AreNormal p New here es (listed (operands_form here n es)) ks m × G n (operands_taken p here es ks m)
    all_are here none ks m have n h = (refl, tt)
    all_are here (more e es) ks m have n h =
        let l = n + size here e in
        let others = all_parts p es ks (suc m) in
        let es' = listed (operands_form here l es) in
        let all =
        first here e (ks m) n (operands_taken p here es ks (suc m)) (AreNormal p New here es es' ks (suc m)) (rights_are e (ks m) (each_left (HasFormals p) (parts p e (ks m)) others have))
        (all_are here es ks (suc m) (each_right (HasFormals p) (parts p e (ks m)) others have) l) h in
        ((form here n e, es', refl, all.0, all.1), all.2)

pub rights_are_normal : RightsAreNormal
rights_are_normal p w all e k n have h = rights_are p (StandsFor w all) e k have n h
