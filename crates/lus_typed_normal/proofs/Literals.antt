-- The literals of the nodes that the code makes are those of the program that it makes them of.
use Rattle.std.proofs.Common.{sym, subst, ℕ, suc, ◌+◌, Bool, true, false, cond, List, [], ◌∷◌, length, map}
use Rattle.lus_values.specs.Lists.{Each}
use Rattle.lus_values.specs.Values.{Value}
use Rattle.lus_values.proofs.Lists.{each_append}
use Rattle.lus_program.specs.Literals.{LiteralsAre, AllLiteralsAre, IsDeclared}
use Rattle.lus_program.specs.Programs.{Declared, Expression, literal, variable, operate, pre, arrow, when, merge, call, Operands, none, more, calls, Equation, Program}
use Rattle.lus_program.specs.declared.node.Equation.{Equation as StoredEquation}
use Rattle.lus_program.specs.declared.node.Node.{Node as StoredNode}
use Rattle.lus_program.specs.View.{expression_of, equations_from, node_of, program_seen}
use Rattle.lus_program.proofs.Literals.{literals-numbered, literals-unnumbered}
use Rattle.lus_normal_form.specs.Forms.{Position, Inside, Operand, is_taken, right_count, size, listed, right_form, operands_form, form, right_out, operands_out, out, added_equations, normal_equations}
use Rattle.lus_normal.specs.Laws.{IsMadeOf, AreMadeOf}
use Rattle.lus_normal.specs.View.{equations_seen}
use Rattle.lus_typed_normal.specs.Laws.{NormalLiteralsAreDeclared}

module _ (Q : Value → Type 0) where
  abbrev pub RightsAre : List Equation → Type 0
  RightsAre = Each (λ q. LiteralsAre Q q.right)

  form_are : (here : Position) (e : Expression) (n : ℕ) → LiteralsAre Q (right_form n e) → LiteralsAre Q (form here n e)
  form_are here e n h = choose (is_taken here e)
    where
      choose : (b : Bool) → LiteralsAre Q (cond b (variable n) (right_form n e))
      choose true = tt
      choose false = h

  mutual
    right_are : (e : Expression) (n : ℕ) → LiteralsAre Q e → LiteralsAre Q (right_form n e)
    right_are (literal v) n h = h
    right_are (variable x) n h = tt
    right_are (operate o es) n h = operands_are Inside es n h
    right_are (pre a) n h = form_are Operand a n (right_are a n h)
    right_are (arrow a b) n h = (form_are Inside a n (right_are a n h.0), form_are Inside b (n + size Inside a) (right_are b (n + size Inside a) h.1))
    right_are (when t a) n h = form_are Operand a n (right_are a n h)
    right_are (merge x bs) n h = operands_are Inside bs n h
    right_are (call g c es) n h = operands_are Operand es n h

    operands_are : (here : Position) (es : Operands) (n : ℕ) → AllLiteralsAre Q es → AllLiteralsAre Q (listed (operands_form here n es))
    operands_are here none n h = tt
    operands_are here (more e es) n h = (form_are here e n (right_are e n h.0), operands_are here es (n + size here e) h.1)

  -- what is taken out
  part_are : (here : Position) (e : Expression) → LiteralsAre Q e → Each (LiteralsAre Q) (right_out e) → Each (LiteralsAre Q) (out here e)
  part_are here e h rest = choose (is_taken here e)
    where
      choose : (b : Bool) → Each (LiteralsAre Q) (cond b (e ∷ right_out e) (right_out e))
      choose true = (h, rest)
      choose false = rest

  mutual
    out_are : (e : Expression) → LiteralsAre Q e → Each (LiteralsAre Q) (right_out e)
    out_are (literal v) h = tt
    out_are (variable x) h = tt
    out_are (operate o es) h = operands_out_are Inside es h
    out_are (pre a) h = part_are Operand a h (out_are a h)
    out_are (arrow a b) h = each_append (LiteralsAre Q) (out Inside a) (out Inside b) (part_are Inside a h.0 (out_are a h.0)) (part_are Inside b h.1 (out_are b h.1))
    out_are (when t a) h = part_are Operand a h (out_are a h)
    out_are (merge x bs) h = operands_out_are Inside bs h
    out_are (call g c es) h = operands_out_are Operand es h

    operands_out_are : (here : Position) (es : Operands) → AllLiteralsAre Q es → Each (LiteralsAre Q) (operands_out here es)
    operands_out_are here none h = tt
    operands_out_are here (more e es) h = each_append (LiteralsAre Q) (out here e) (operands_out here es) (part_are here e h.0 (out_are e h.0)) (operands_out_are here es h.1)

  added_are : (n : ℕ) (es : List Expression) → Each (LiteralsAre Q) es → RightsAre (added_equations n es)
  added_are n [] h = tt
  added_are n (e ∷ es) h = (right_are e (suc n) h.0, added_are (suc n) es h.1)

  normal_are : (n : ℕ) (qs : List Equation) → RightsAre qs → RightsAre (normal_equations n qs)
  normal_are n [] h = tt
  normal_are n (q ∷ qs) h =
      let added = added_equations n (right_out q.right) in
      let rest = normal_equations (n + right_count q.right) qs in
      (right_are q.right n h.0, each_append (λ q. LiteralsAre Q q.right) added rest (added_are n (right_out q.right) (out_are q.right h.0)) (normal_are (n + right_count q.right) qs h.1))

  -- with the numbers of their calls, and without
  unnumbered_are : (n : ℕ) (qs : List StoredEquation) → RightsAre (equations_from n qs) → RightsAre (equations_seen qs)
  unnumbered_are n [] h = tt
  unnumbered_are n (q ∷ qs) h = (literals-unnumbered Q (expression_of q.right) n h.0, unnumbered_are (n + calls (expression_of q.right)) qs h.1)

  numbered_are : (n : ℕ) (qs : List StoredEquation) → RightsAre (equations_seen qs) → RightsAre (equations_from n qs)
  numbered_are n [] h = tt
  numbered_are n (q ∷ qs) h = (literals-numbered Q (expression_of q.right) n h.0, numbered_are (n + calls (expression_of q.right)) qs h.1)

  made_are : (p : Program) (f f' : StoredNode) → IsMadeOf p f f' → RightsAre (node_of f).equations → RightsAre (node_of f').equations
  made_are p f f' made h =
      numbered_are 0 f'.equations.items
      (subst RightsAre (sym made.equations) (normal_are (length (node_of f).variables) (equations_seen f.equations.items) (unnumbered_are 0 f.equations.items h)))

  all_made_are : (p : Program) (fs fs' : List StoredNode) → AreMadeOf p fs fs' → Each (λ g. RightsAre g.equations) (map node_of fs) → Each (λ g. RightsAre g.equations) (map node_of fs')
  all_made_are p [] fs' made h = subst (λ l. Each (λ g. RightsAre g.equations) (map node_of l)) (sym made) tt
  all_made_are p (f ∷ fs) fs' made h =
      subst (λ l. Each (λ g. RightsAre g.equations) (map node_of l)) (sym made.2) (made_are p f made.0 made.3 h.0, all_made_are p fs made.1 made.4 h.1)

-- the made program declares the same types
pub normal_literals_are_declared : NormalLiteralsAreDeclared
normal_literals_are_declared p p' h literals =
    let q = program_seen p in
    let q' = program_seen p' in
    subst (λ (ds : List Declared). Each (λ f. RightsAre (IsDeclared (record { types = ds; nodes = q.nodes })) f.equations) q'.nodes) (sym h.types)
    (all_made_are (IsDeclared q) q p.nodes.items p'.nodes.items h.made literals)
