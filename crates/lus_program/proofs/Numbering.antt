-- Numbers of calls change no type, and numbering again from the same number changes nothing.
use Rattle.std.proofs.Common.{◌≡◌, ◌∙◌, refl, ap, ap₂, ℕ, suc, ◌+◌, List, ◌∷◌, ◌++◌, [], Option, Some}
use Rattle.std.specs.Prelude.{option_map}
use Rattle.std.specs.Option.{option_and_then}
use Rattle.lus_program.specs.declared.types.Kind.{Kind}
use Rattle.lus_program.specs.Programs.{Expression, operate, pre, arrow, when, merge, call, Operands, none, more, calls, all_calls, numbered, all_numbered, Node, Program}
use Rattle.lus_program.specs.Kinds.{alike, where_true, the_one}
use Rattle.lus_program.specs.Resolved.{operator_kind, results, kind_of_variable, test_fits, merged, kind_in, kinds_in, kinds_given_in, nodes_called, all_nodes_called}

mutual
  pub calls-numbered : (e : Expression) (n : ℕ) → calls (numbered n e) ≡ calls e
  calls-numbered (operate o es) n = all_calls-numbered es n
  calls-numbered (pre a) n = calls-numbered a n
  calls-numbered (arrow a b) n = ap₂ ◌+◌ (calls-numbered a n) (calls-numbered b (n + calls a))
  calls-numbered (when t a) n = calls-numbered a n
  calls-numbered (merge x bs) n = all_calls-numbered bs n
  calls-numbered (call g c es) n = ap (λ m. suc m) (all_calls-numbered es (suc n))
  calls-numbered e n = refl

  all_calls-numbered : (es : Operands) (n : ℕ) → all_calls (all_numbered n es) ≡ all_calls es
  all_calls-numbered none n = refl
  all_calls-numbered (more e es) n = ap₂ ◌+◌ (calls-numbered e n) (all_calls-numbered es (n + calls e))

mutual
  pub numbered-numbered : (e : Expression) (n m : ℕ) → numbered n (numbered m e) ≡ numbered n e
  numbered-numbered (operate o es) n m = ap (operate o) (all_numbered-numbered es n m)
  numbered-numbered (pre a) n m = ap pre (numbered-numbered a n m)
  numbered-numbered (arrow a b) n m =
      ap₂ arrow (numbered-numbered a n m) (ap (λ k. numbered (n + k) (numbered (m + calls a) b)) (calls-numbered a m) ∙ numbered-numbered b (n + calls a) (m + calls a))
  numbered-numbered (when t a) n m = ap (when t) (numbered-numbered a n m)
  numbered-numbered (merge x bs) n m = ap (merge x) (all_numbered-numbered bs n m)
  numbered-numbered (call g c es) n m = ap (call g n) (all_numbered-numbered es (suc n) (suc m))
  numbered-numbered e n m = refl

  all_numbered-numbered : (es : Operands) (n m : ℕ) → all_numbered n (all_numbered m es) ≡ all_numbered n es
  all_numbered-numbered none n m = refl
  all_numbered-numbered (more e es) n m =
      ap₂ more (numbered-numbered e n m) (ap (λ k. all_numbered (n + k) (all_numbered (m + calls e) es)) (calls-numbered e m) ∙ all_numbered-numbered es (n + calls e) (m + calls e))

mutual
  pub nodes_called-numbered : (e : Expression) (n : ℕ) → nodes_called (numbered n e) ≡ nodes_called e
  nodes_called-numbered (operate o es) n = all_nodes_called-numbered es n
  nodes_called-numbered (pre a) n = nodes_called-numbered a n
  nodes_called-numbered (arrow a b) n = ap₂ ◌++◌ (nodes_called-numbered a n) (nodes_called-numbered b (n + calls a))
  nodes_called-numbered (when t a) n = nodes_called-numbered a n
  nodes_called-numbered (merge x bs) n = all_nodes_called-numbered bs n
  nodes_called-numbered (call g c es) n = ap (λ gs. g ∷ gs) (all_nodes_called-numbered es (suc n))
  nodes_called-numbered e n = refl

  all_nodes_called-numbered : (es : Operands) (n : ℕ) → all_nodes_called (all_numbered n es) ≡ all_nodes_called es
  all_nodes_called-numbered none n = refl
  all_nodes_called-numbered (more e es) n = ap₂ ◌++◌ (nodes_called-numbered e n) (all_nodes_called-numbered es (n + calls e))

module _ (p : Program) (f : Node) where
  abbrev pub paired : Option Kind → Option Kind → Option Kind
  paired a b = option_and_then (λ k. option_and_then (alike k) b) a

  abbrev pub put : Option Kind → Option (List Kind) → Option (List Kind)
  put a b = option_and_then (λ k. option_map (λ ks. k ∷ ks) b) a

  mutual
    pub kind_in-numbered : (e : Expression) (n : ℕ) → kind_in p f (numbered n e) ≡ kind_in p f e
    kind_in-numbered (operate o es) n = ap (option_and_then (operator_kind p o)) (kinds_in-numbered es n)
    kind_in-numbered (pre a) n = kind_in-numbered a n
    kind_in-numbered (arrow a b) n = ap₂ paired (kind_in-numbered a n) (kind_in-numbered b (n + calls a))
    kind_in-numbered (when t a) n = ap (option_and_then (λ k. where_true (test_fits p f t) (Some k))) (kind_in-numbered a n)
    kind_in-numbered (merge x bs) n = ap (option_and_then (λ ks. option_and_then (merged p f ks) (kind_of_variable p f x))) (kinds_in-numbered bs n)
    kind_in-numbered (call g c es) n = ap (option_and_then (λ ks. option_and_then the_one (results p g ks))) (kinds_in-numbered es (suc n))
    kind_in-numbered e n = refl

    pub kinds_in-numbered : (es : Operands) (n : ℕ) → kinds_in p f (all_numbered n es) ≡ kinds_in p f es
    kinds_in-numbered none n = refl
    kinds_in-numbered (more e es) n = ap₂ put (kind_in-numbered e n) (kinds_in-numbered es (n + calls e))

  -- what a whole right side gives
  pub given-numbered : (e : Expression) (n : ℕ) → kinds_given_in p f (numbered n e) ≡ kinds_given_in p f e
  given-numbered (call g c es) n = ap (option_and_then (results p g)) (kinds_in-numbered es (suc n))
  given-numbered e n = ap (option_map (λ k. k ∷ [])) (kind_in-numbered e n)
