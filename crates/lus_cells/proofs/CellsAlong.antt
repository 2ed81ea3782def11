-- The cells of nodes along an order.
use Rattle.std.proofs.Common.{◌≡◌, ◌∙◌, refl, sym, ap, subst, arith, ℕ, suc, ◌<◌, ◌≤◌, List, [], ◌∷◌, length, map, get_or, sum_by, flat_map, Contains, ⊎_elim}
use Rattle.std.specs.List.{range_with_len}
use Rattle.std.proofs.lemmas.Bool.{cases_lt}
use Rattle.std.proofs.lemmas.List.{get_or_past, length-map, get_or-map}
use Rattle.std.proofs.lemmas.List.FromFn.{get_or-map-range_with_len, length-map-range_with_len}
use Rattle.std.proofs.lemmas.Option.{slice_get_read}
use Rattle.std.proofs.Math.ListN.{get_or-map as get_or_any-map}
use Rattle.lus_values.specs.Lists.{item, Each}
use Rattle.lus_values.proofs.Lists.{below_all, below_at, each_at}
use Rattle.lus_graph.specs.Along.{IsFilled, IsLocal, Solves, within}
use Rattle.lus_graph.specs.Ways.{used, IsOrder}
use Rattle.lus_graph.proofs.AlongOrders.{GivesNothing, alike_solves, nothing_solved}
use Rattle.lus_syntax.specs.Limits.{most_cells}
use Rattle.lus_program.specs.declared.node.Node.{Node as StoredNode}
use Rattle.lus_program.specs.declared.node.Program.{Program as StoredProgram}
use Rattle.lus_program.specs.Programs.{Expression, Node, Program, empty_node, node_at}
use Rattle.lus_program.specs.View.{expression_of, node_of, program_seen}
use Rattle.lus_program.specs.Leaves.{AreTheLeaves, kind_leaves}
use Rattle.lus_program.specs.Resolved.{EquationFits, NodeResolved, Resolved, nodes_called, program_uses, kind_in}
use Rattle.lus_program.proofs.KindsGiven.{given_is}
use Rattle.lus_program.proofs.TypedParts.{HasKind}
use Rattle.lus_cells.specs.Cells.{leaves_given, node_cells, AreCells, AreStateCells, FitsCells, HasTooMany, NamesTooMany}
use Rattle.lus_cells.specs.Given.{given_leaves, counted}
use Rattle.lus_cells.proofs.Numbering.{cells_stored}
use Rattle.lus_cells.proofs.SameCells.{equations_same}

-- the nodes that a node calls
abbrev nodes_used : Node → List ℕ
nodes_used f = flat_map (λ q. nodes_called q.right) f.equations

each_from : (P : ℕ → Type 0) (xs : List ℕ) → ((i : ℕ) → i < length xs → P (get_or xs i 0)) → Each P xs
each_from P [] h = tt
each_from P (x ∷ xs) h = (h 0 (omega arith), each_from P xs (λ i lt. h (suc i) (omega arith)))

module _ (p : Program) (resolved : Resolved p) where
  used_nodes : (x : ℕ) → used (program_uses p) x ≡ nodes_used (node_at p x)
  used_nodes x = get_or_any-map nodes_used p.nodes x empty_node

  pub nodes_count : length (program_uses p) ≡ length p.nodes
  nodes_count = length-map p.nodes nodes_used

  past_nodes : (x : ℕ) → length p.nodes ≤ x → node_at p x ≡ empty_node
  past_nodes x le = get_or_past p.nodes x empty_node le

  equations_fit : (x : ℕ) → Each (EquationFits p (node_at p x)) (node_at p x).equations
  equations_fit x = ⊎_elim
      (λ lt. (each_at (NodeResolved p) p.nodes x empty_node lt resolved.nodes).equations)
      (λ le. subst (λ f. Each (EquationFits p f) f.equations) (sym (past_nodes x le)) tt)
      (cases_lt x (length p.nodes))

  module _ (leaves : List ℕ) (leaves_are : AreTheLeaves p leaves) where
    abbrev cells_by : (ℕ → ℕ) → ℕ → ℕ
    cells_by at x = node_cells p (item 1 leaves) at (node_at p x)

    pub cells_local : IsLocal (program_uses p) cells_by
    cells_local at at' x agree =
        let f = node_at p x in
        let size : Expression → ℕ = λ e. leaves_given (item 1 leaves) (kind_in p f e) in
        equations_same p f size size (λ e h. refl) at at' f.equations (equations_fit x) (λ g among. agree g (subst (λ us. Contains us g) (sym (used_nodes x)) among))

    -- by the types that are found without their tests
    count_right : (at : List ℕ) (x : ℕ) (node : StoredNode) → node_at p x ≡ node_of node → sum_by (λ q. counted p (node_of node) leaves at (expression_of q.right)) node.equations.items ≡ cells_by (item 0 at) x
    count_right at x node seen =
        let f = node_at p x in
        let sized : (e : Expression) → HasKind p f e → given_leaves p f leaves e ≡ leaves_given (item 1 leaves) (kind_in p f e) = λ e h. ap (kind_leaves (item 1 leaves)) (given_is p f e h.0 h.1) ∙ ap (leaves_given (item 1 leaves)) (sym h.1) in
        sym (cells_stored p (node_of node) leaves (item 0 at) 0 node.equations.items)
        ∙ ap (λ f. sum_by (λ q. counted p f leaves at q.right) f.equations) (sym seen)
        ∙ equations_same p f (given_leaves p f leaves) (λ e. leaves_given (item 1 leaves) (kind_in p f e)) sized (item 0 at) (item 0 at) f.equations (equations_fit x) (λ g among. refl)

    cells_past : GivesNothing (program_uses p) 0 cells_by
    cells_past at x le = ap (node_cells p (item 1 leaves) at) (past_nodes x (omega (arith, le, nodes_count)))

    -- cells solve the step, and what solves it is cells
    cells_solve : (cells : List ℕ) → AreCells p cells → Solves (program_uses p) 0 cells_by (item 0 cells)
    cells_solve cells are = record {
      each = λ x lt.
          below_at (λ f. item 0 cells f ≡ node_cells p are.leaves (item 0 cells) (node_at p f)) (length p.nodes) are.each x (omega (arith, lt, nodes_count))
          ∙ ap (λ ls. node_cells p ls (item 0 cells) (node_at p x)) (sym (leaves_are.only are.leaves are.leaves_are));
      past = λ x y among le. get_or_past cells y 0 (omega (arith, le, nodes_count, are.size));
    }

    are_cells : (cells : List ℕ) → length cells ≡ length p.nodes → Solves (program_uses p) 0 cells_by (item 0 cells) → AreCells p cells
    are_cells cells size s = record {
      leaves = item 1 leaves;
      leaves_are = leaves_are.are;
      size = size;
      each = below_all (λ f. item 0 cells f ≡ cells_by (item 0 cells) f) (length p.nodes) (λ f lt. s.each f (omega (arith, lt, nodes_count)));
    }

    module _ (order : List ℕ) (o : IsOrder (program_uses p) order) where
      abbrev cells_at : ℕ → ℕ
      cells_at = within (length p.nodes) 0 cells_by

      solved : Solves (program_uses p) 0 cells_by cells_at
      solved = nothing_solved (program_uses p) 0 cells_by cells_local order o (length p.nodes) (omega (arith, nodes_count)) cells_past

      -- a list that has them is the cells
      listed : (cells : List ℕ) → length cells ≡ length p.nodes → ((x : ℕ) → x < length p.nodes → item 0 cells x ≡ cells_at x) → AreCells p cells
      listed cells size same =
          are_cells cells size (alike_solves (program_uses p) 0 cells_by cells_local cells_at (item 0 cells) solved (λ x lt. same x (omega (arith, lt, nodes_count))) (λ y le. get_or_past cells y 0 (omega (arith, le, nodes_count, size))))

      pub cells_whole : (table : List ℕ) → IsFilled (program_uses p) 0 cells_by (λ n. n ≤ most_cells) order table → AreStateCells p table
      cells_whole table found =
          let size : length table ≡ length p.nodes = found.size ∙ nodes_count in
          record {
            exact = listed table size (λ x lt. found.right cells_at solved x (o.whole x (omega (arith, lt, nodes_count))));
            few = each_from (λ n. n ≤ most_cells) table (λ k lt. found.fit k (o.whole k (omega (arith, lt, found.size))));
          }

      -- a node with too many cells, whatever solves the step
      module _ (x : ℕ) (lt : x < length (program_uses p)) (over : (at : ℕ → ℕ) → Solves (program_uses p) 0 cells_by at → at x ≤ most_cells → ⊥) where
        pub none_fits : FitsCells p → ⊥
        none_fits fits =
            let are = fits.1.exact in
            over (item 0 fits.0) (cells_solve fits.0 are) (each_at (λ n. n ≤ most_cells) fits.0 x 0 (omega (arith, lt, nodes_count, are.size)) fits.1.few)

        pub too_many : HasTooMany p x
        too_many =
            let cells = map cells_at (range_with_len 0 (length p.nodes)) in
            let are = listed cells (length-map-range_with_len cells_at 0 (length p.nodes)) (λ y lt. get_or-map-range_with_len cells_at 0 (length p.nodes) y y 0 lt (omega arith)) in
            (cells, are, ⊎_elim (λ most. most) (λ le. absurd (over (item 0 cells) (cells_solve cells are) le)) (cases_lt most_cells (item 0 cells x)))

module _ (p : StoredProgram) where
  pub node_fits : (x : ℕ) → x < length (program_uses (program_seen p)) → x < length p.nodes.items
  node_fits x lt = omega (arith, lt, length-map (program_seen p).nodes nodes_used, length-map p.nodes.items node_of)

  -- the count of a node, as the code finds it
  pub count_is : Resolved (program_seen p) → (leaves : List ℕ) → AreTheLeaves (program_seen p) leaves → (at : List ℕ) (x : ℕ) (node : StoredNode) → x < length (program_uses (program_seen p)) → node ≡ get_or p.nodes.items x node
      → sum_by (λ q. counted (program_seen p) (node_of node) leaves at (expression_of q.right)) node.equations.items ≡ node_cells (program_seen p) (item 1 leaves) (item 0 at) (node_at (program_seen p) x)
  count_is resolved leaves are at x node lt here = count_right (program_seen p) resolved leaves are at x node (get_or-map node_of p.nodes.items x node empty_node (node_fits x lt) ∙ ap node_of (sym here))

  pub names_it : (x : ℕ) (node : StoredNode) (line column : ℕ) → x < length p.nodes.items → node ≡ get_or p.nodes.items x node → line ≡ node.place.line → column ≡ node.place.column → HasTooMany (program_seen p) x → NamesTooMany p line column
  names_it x node line column lt here line_is column_is many =
      record { number = x; node = node; found = slice_get_read p.nodes.items (length p.nodes.items) x node refl lt here; line_is = line_is; column_is = column_is; many = many }
