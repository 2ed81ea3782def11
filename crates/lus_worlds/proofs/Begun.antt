-- What is kept before the first instant of a node, and of the nodes that it calls.
use Rattle.std.proofs.Common.{◌≡◌, ◌∙◌, ℕ, List, [], ◌∷◌, ◌++◌, map, Some, None, sym, subst, append_assoc, append-nil}
use Rattle.lus_program.specs.Programs.{Expression, literal, variable, operate, pre, arrow, when, merge, call, Program, numbered, node_at}
use Rattle.lus_program.specs.View.{expression_of}
use Rattle.lus_streams.specs.Clocks.{Clock, at}
use Rattle.lus_streams.specs.Equations.{Site, site_first, sites_in, node_parts, sites}
use Rattle.lus_parts.specs.declared.part.Part.{Part as StoredPart}
use Rattle.lus_parts.specs.Parts.{part_of}
use Rattle.lus_reference.specs.Given.{callee}
use Rattle.lus_reference.proofs.Onward.{keeps_on}
use Rattle.lus_worlds.specs.declared.moment.Moment.{Moment}
use Rattle.lus_worlds.specs.Beginning.{Begins}
use Rattle.lus_worlds.specs.Moments.{kept_in, moments_in, kept_by, kept_of, kept_with, Holds, KeepsBehind, EachKeeps}
use Rattle.lus_worlds.proofs.Moments.{kept_seen, all_hold}

module _ (p : Program) where
  call_first : (n : ℕ) (k : Clock) (e : Expression) (g : ℕ) (m : Moment) (later : List Moment) (ss : List Site) → callee e ≡ Some g → KeepsBehind p m g [] → EachKeeps p later ss []
      → EachKeeps p (m ∷ later) (site_first p (at k (numbered n e)) ss) []
  call_first n k (literal v) g m later ss h own rest = absurd (cc)
  call_first n k (variable x) g m later ss h own rest = absurd (cc)
  call_first n k (operate o es) g m later ss h own rest = absurd (cc)
  call_first n k (pre a) g m later ss h own rest = absurd (cc)
  call_first n k (arrow a b) g m later ss h own rest = absurd (cc)
  call_first n k (when t a) g m later ss h own rest = absurd (cc)
  call_first n k (merge x bs) g m later ss h own rest = absurd (cc)
  call_first n k (call f c es) g m later ss h own rest = let same : g ≡ f = cc in (subst (λ (i : ℕ). KeepsBehind p m i []) same own, rest)

  other_first : (n : ℕ) (k : Clock) (e : Expression) (later : List Moment) (ss : List Site) → callee e ≡ None → EachKeeps p later ss [] → EachKeeps p later (site_first p (at k (numbered n e)) ss) []
  other_first n k (literal v) later ss h rest = rest
  other_first n k (variable x) later ss h rest = rest
  other_first n k (operate o es) later ss h rest = rest
  other_first n k (pre a) later ss h rest = rest
  other_first n k (arrow a b) later ss h rest = rest
  other_first n k (when t a) later ss h rest = rest
  other_first n k (merge x bs) later ss h rest = rest
  other_first n k (call f c es) later ss h rest = absurd (cc)

  pub call_begins : (q : StoredPart) (g : ℕ) (m : Moment) (old new : List Moment) → callee (expression_of q.expr.now) ≡ Some g → KeepsBehind p m g [] → new ≡ old ++ m ∷ [] → Begins p q old new
  call_begins q g m old new h own e = (m ∷ [], e, λ later ss rest. call_first q.number q.clock.items (expression_of q.expr.now) g m later ss h own rest)

  pub other_begins : (q : StoredPart) (old : List Moment) → callee (expression_of q.expr.now) ≡ None → old ≡ old ++ [] → Begins p q old old
  other_begins q old h e = ([], e, λ later ss rest. other_first q.number q.clock.items (expression_of q.expr.now) later ss h rest)

  -- a node of whose parts nothing is kept, where this is kept of the nodes that it calls
  pub begun : (f : ℕ) (m : Moment) (ms : List Moment) → kept_in m ≡ [] → moments_in m ≡ ms → EachKeeps p ms (sites p (node_at p f)) [] → KeepsBehind p m f []
  begun f m ms ek em h =
      let held : Holds p (kept_with [] (kept_by ms)) f [] = ((keeps_on p).at_first (node_parts p (node_at p f)), all_hold p [] ms (sites p (node_at p f)) h) in
      let seen : kept_of m ≡ kept_with [] (kept_by ms) = kept_seen m ∙ (λ j. kept_with (ek j) (kept_by (em j))) in
      subst (λ t. Holds p t f []) (sym seen) held

-- the parts so far, with a part more, and with none left
module _ (p : Program) (all : List StoredPart) (called : List Moment) where
  abbrev pub BegunFrom : List StoredPart → Type 0
  BegunFrom rest = (later : List Moment) → EachKeeps p later (sites_in p (map part_of rest)) [] → EachKeeps p (called ++ later) (sites_in p (map part_of all)) []

  pub all_begun : (rest : List StoredPart) → rest ≡ [] → BegunFrom rest → EachKeeps p called (sites_in p (map part_of all)) []
  all_begun rest e h =
      let none : EachKeeps p [] (sites_in p (map part_of rest)) [] = subst (λ l. EachKeeps p [] (sites_in p (map part_of l)) []) (sym e) tt in
      subst (λ ms. EachKeeps p ms (sites_in p (map part_of all)) []) (append-nil called) (h [] none)

pub begun_further : (p : Program) (all : List StoredPart) (called new : List Moment) (q : StoredPart) (rest : List StoredPart) → Begins p q called new → BegunFrom p all called (q ∷ rest) → BegunFrom p all new rest
begun_further p all called new q rest b h later k =
    let whole : EachKeeps p (called ++ (b.0 ++ later)) (sites_in p (map part_of all)) [] = h (b.0 ++ later) (b.2 later (sites_in p (map part_of rest)) k) in
    subst (λ ms. EachKeeps p ms (sites_in p (map part_of all)) []) (sym (append_assoc called b.0 later) ∙ (λ j. sym b.1 j ++ later)) whole
