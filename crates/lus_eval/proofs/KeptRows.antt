-- What an instance keeps, as contracts see it.
use Rattle.std.proofs.Common.{◌≡◌, ◌∙◌, ◌+◌, ◌<◌, ◌≤◌, ℕ, List, [], ◌∷◌, Option, Some, None, refl, sym, ap, subst, length, map, replicate, arith}
use Rattle.std.specs.Prelude.{slice_get}
use Rattle.std.proofs.lemmas.List.{length-map}
use Rattle.std.proofs.lemmas.Option.{slice_get_within, same_Some}
use Rattle.lus_values.specs.Lists.{item}
use Rattle.lus_values.specs.Values.{nil, Row}
use Rattle.lus_program.specs.declared.node.Node.{Node as StoredNode}
use Rattle.lus_program.specs.declared.node.Program.{Program as StoredProgram}
use Rattle.lus_program.specs.Programs.{node_at}
use Rattle.lus_program.specs.View.{node_of, program_seen}
use Rattle.lus_classes.specs.States.{State}
use Rattle.lus_instructions.specs.declared.class.Class.{Class}
use Rattle.lus_orders.specs.declared.class.Class.{Class as Emitted}
use Rattle.lus_orders.specs.Made.{state_in}
use Rattle.lus_code.proofs.OrderProofs.Nodes.{node_here}
use Rattle.lus_code.specs.SimulationSpecs.Nesting.{depth_of}
use Rattle.lus_code.specs.SimulationSpecs.Lineages.{Lineage, HasLived}
use Rattle.lus_code.proofs.SimulationProofs.Lived.{resets_lived}
use Rattle.lus_code.specs.Codes.{ProgramCode, plain_classes, program_of}
use Rattle.lus_code.specs.Correct.{IsCorrect}
use Rattle.lus_running.specs.declared.instance.Instance.{Instance}
use Rattle.lus_running.specs.Instances as instances
use Rattle.lus_running.specs.Instances.{seen}
use Rattle.lus_running.specs.Settings.{RunsClasses}
use Rattle.lus_running.proofs.Placed.{fresh_state, resets_state}
use Rattle.lus_eval.specs.Objects.{Kept, kept_by, IsEven, IsObjectOf, IsReset, MakesStep, ObjectLived, state_of}

-- correct code can be run
pub runs_correct : (c : ProgramCode) → IsCorrect c → RunsClasses c.classes c.emitted
runs_correct c correct = record {
  can = correct.ready;
  passing = correct.passing;
  size = correct.many;
  framed = correct.framed;
  code = correct.code;
}

module _ (c : ProgramCode) (classes : List Class) (emitted : List Emitted) (same : classes ≡ c.classes) (coded : emitted ≡ c.emitted) (o : Instance) where
  pub shaped_in_code : IsCorrect c → instances.HasRowsOfClass classes emitted (seen o) → IsObjectOf c (kept_by o)
  shaped_in_code correct s =
      let there : slice_get c.emitted o.node ≡ Some s.code = ap (λ l. slice_get l o.node) (sym coded) ∙ s.coded in
      record {
        class = s.class;
        code = s.code;
        found = ap (λ l. slice_get l o.node) (sym same) ∙ s.found;
        coded = there;
        cells = s.long.cells;
        row = s.long.row;
        few = subst (λ n. n ≤ item 0 c.cells o.node) (sym s.long.cells)
            (subst (λ (e : Option Emitted). (elim e [ None ↦ 0 | Some f ↦ f.cells ]) ≤ item 0 c.cells o.node) there (correct.within o.node));
      }

  pub instance_shaped : IsEven o → IsObjectOf c (kept_by o) → instances.HasRowsOfClass classes emitted (seen o)
  instance_shaped even s = record {
    class = s.class;
    code = s.code;
    found = ap (λ l. slice_get l o.node) same ∙ s.found;
    coded = ap (λ l. slice_get l o.node) coded ∙ s.coded;
    long = record { cells = s.cells; next_cells = even ∙ s.cells; row = s.row };
  }

pub node_within : (c : ProgramCode) (o : Kept) → IsObjectOf c o → o.node < length c.classes
node_within c o s = slice_get_within c.classes o.node s.class s.found

-- the node of an object, as its code's source has it
pub source_node : (c : ProgramCode) (o : Kept) → IsObjectOf c o → IsCorrect c → (s : StoredProgram) → s ≡ c.source.program → (n : StoredNode) → n ≡ item n s.nodes.items o.node
    → node_at (program_of c) o.node ≡ node_of n
source_node c o shaped correct s same n is =
    let size = correct.size in
    let fewer = node_within c o shaped in
    let nodes : length (program_of c).nodes ≡ length s.nodes.items = ap (λ (r : StoredProgram). length (program_seen r).nodes) (sym same) ∙ length-map s.nodes.items node_of in
    let within : o.node < length s.nodes.items = omega (arith, size, fewer, nodes) in
    ap (λ (r : StoredProgram). node_at (program_seen r) o.node) (sym same) ∙ node_here s o.node n within is

pub reset_kept : (o o' : Instance) → instances.IsReset (seen o) (seen o') → IsReset (kept_by o) (kept_by o')
reset_kept o o' h = record {
  node = h.node;
  room = h.row;
  cells = ap length h.cells ∙ length-map (seen o).cells (λ v. nil);
  state = λ c.
      let d = depth_of (program_of c) in
      (λ j. state_in (plain_classes c) c.emitted d (h.node j) (h.cells j)) ∙ resets_state (plain_classes c) c.emitted d o.node (seen o).cells;
}

-- an object that is set back has the form that it had
pub reset_shaped : (c : ProgramCode) (o o' : Kept) → IsReset o o' → IsObjectOf c o → IsObjectOf c o'
reset_shaped c o o' is shaped = record {
  class = shaped.class;
  code = shaped.code;
  found = subst (λ f. slice_get c.classes f ≡ Some shaped.class) (sym is.node) shaped.found;
  coded = subst (λ f. slice_get c.emitted f ≡ Some shaped.code) (sym is.node) shaped.coded;
  cells = is.cells ∙ shaped.cells;
  row = is.room ∙ shaped.row;
  few = (
      let cells = is.cells in
      let node = ap (item 0 c.cells) is.node in
      let few = shaped.few in
      omega (arith, cells, node, few));
}

-- and has lived through nothing, whatever it has lived through before
pub reset_lived : (c : ProgramCode) (f : ℕ) (o o' : Kept) (lineage : Lineage) → IsReset o o' → ObjectLived c f o lineage → ObjectLived c f o' []
reset_lived c f o o' lineage is lived = record {
  node = is.node ∙ lived.node;
  shaped = reset_shaped c o o' is lived.shaped;
  lived = subst (λ (s : State). HasLived (program_of c) (plain_classes c) s f []) (sym (is.state c)) (resets_lived (program_of c) (plain_classes c) (state_of c o) f lineage lived.lived);
}

all_one : {X : Type 0} (x : X) (xs : List X) → map (λ y. x) xs ≡ replicate (length xs) x
all_one x [] = refl
all_one x (y ∷ ys) = ap (λ zs. x ∷ zs) (all_one x ys)

-- an object of correct code that is set back has lived through nothing, whatever it kept
pub reset_starts : (c : ProgramCode) → IsCorrect c → (o o' : Instance) → instances.IsReset (seen o) (seen o') → IsObjectOf c (kept_by o) → ObjectLived c o.node (kept_by o') []
reset_starts c correct o o' h shaped =
    let d = depth_of (program_of c) in
    let cells : (seen o').cells ≡ replicate shaped.code.cells nil = h.cells ∙ all_one nil (seen o).cells ∙ ap (λ n. replicate n nil) shaped.cells in
    let start = (λ j. state_in (plain_classes c) c.emitted d (h.node j) (cells j))
    ∙ fresh_state c.classes c.emitted (runs_correct c correct) d o.node shaped.code shaped.coded (correct.nested o.node) in
    record {
      node = h.node;
      shaped = reset_shaped c (kept_by o) (kept_by o') (reset_kept o o' h) shaped;
      lived = subst (λ (s : State). HasLived (program_of c) (plain_classes c) s o.node []) (sym start) (correct.starts o.node);
    }

-- objects of a node have rows as long
pub same_room : (c : ProgramCode) (o o' : Kept) → IsObjectOf c o → IsObjectOf c o' → o'.node ≡ o.node → o'.room ≡ o.room
same_room c o o' s s' node =
    let coded : slice_get c.emitted o'.node ≡ Some s.code = ap (slice_get c.emitted) node ∙ s.coded in
    s'.row ∙ ap (λ (k : Emitted). k.own + k.behind) (same_Some s'.code s.code (sym s'.coded ∙ coded)) ∙ sym s.row

module _ (s o' : Instance) (back : instances.IsBack (seen s) (seen o')) where
  -- an instance that goes back behind a step is as it was before it
  pub back_to : (c : ProgramCode) (o : Instance) (i outputs : Row) → IsObjectOf c (kept_by o) → MakesStep c (kept_by o) (kept_by s) i outputs → instances.LeavesBehind (seen o) (seen s)
      → kept_by o' ≡ kept_by o
  back_to c o i outputs shaped is behind =
      let node : o'.node ≡ o.node = back.node ∙ is.node in
      let cells : (seen o').cells ≡ (seen o).cells = back.cells ∙ behind.cells in
      let room : (seen o').row ≡ (seen o).row = back.row ∙ same_room c (kept_by o) (kept_by s) shaped is.shaped is.node in
      λ j. record { node = node j; cells = cells j; room = room j }
