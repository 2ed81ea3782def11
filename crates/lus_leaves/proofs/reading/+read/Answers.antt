use Rattle.std.proofs.Common.{◌≡◌, ◌+◌, ◌-◌, ℕ, ◌∷◌, ◌++◌, pos, drop, arith, sym, ap, subst, ◌∙◌}
use Rattle.std.proofs.lemmas.Grind.{common_steps}
use Rattle.lus_values.specs.declared.value.Value.{Value as StoredValue}
use Rattle.lus_values.specs.View.{value_of}
use Rattle.lus_leaves.specs.declared.leaf.Leaf.{Leaf}
use Rattle.lus_leaves.specs.declared.reading.Found.{Found}
use Rattle.lus_leaves.specs.declared.reading.Found.TheVariants.{At, Wrong as NotFound}
use Rattle.lus_leaves.specs.Leaves.{leaf, value_leaves}
use Rattle.lus_leaves.specs.Reading.{IsFound, FoundFits, IsOnly, AreOnly}
use Rattle.lus_leaves.proofs.Leaves.{fields_read, structure_read}
use Rattle.lus_leaves.proofs.Only.{goes_more, goes_wrong, goes_absent, goes_last, only_none, only_entry, only_neither, only_shallow, only_broken, only_structure, structure_fits, fields_fit_more}
use Rattle.lus_leaves.proofs.reading.+read.Goals as goal

pub read-returns-in_default-clause-only : goal.read-returns-in_default-clause-only
read-returns-in_default-clause-only t c = only_none c.args.depth c.args.leaves.now c.args.at (grind (arith, common_steps))

pub read-returns-in-Entry-clause-only : goal.read-returns-in-Entry-clause-only
read-returns-in-Entry-clause-only t c =
    let l : Leaf = c.in-Some.leaf.now in let first : drop c.args.at c.args.leaves.now ≡ l ∷ drop (c.args.at + 1) c.args.leaves.now = grind (arith, common_steps) in
    only_entry c.args.depth c.args.leaves.now c.args.at l c.in-Entry.entry first c.in-Entry.ensures.exact

pub read-returns-in-Wrong-clause-only : goal.read-returns-in-Wrong-clause-only
read-returns-in-Wrong-clause-only t c =
    let l : Leaf = c.in-Some.leaf.now in let first : drop c.args.at c.args.leaves.now ≡ l ∷ drop (c.args.at + 1) c.args.leaves.now = grind (arith, common_steps) in
    only_neither c.args.depth c.args.leaves.now c.args.at l first c.in-Wrong.ensures.exact

pub read-returns-then-depth-eq0-clause-only : goal.read-returns-then-depth-eq0-clause-only
read-returns-then-depth-eq0-clause-only t c =
    let l : Leaf = c.in-Some.leaf.now in let first : drop c.args.at c.args.leaves.now ≡ l ∷ drop (c.args.at + 1) c.args.leaves.now = grind (arith, common_steps) in
    subst (λ (d : ℕ). IsOnly d c.args.leaves.now c.args.at NotFound) (sym c.if-depth-eq0.true) (only_shallow c.args.leaves.now c.args.at l c.in-Head.count first c.in-Head.ensures.exact)

pub read-returns-in-None-clause-only : goal.read-returns-in-None-clause-only
read-returns-in-None-clause-only t c =
    let l : Leaf = c.in-Some.leaf.now in let first : drop c.args.at c.args.leaves.now ≡ l ∷ drop (c.args.at + 1) c.args.leaves.now = grind (arith, common_steps) in
    only_broken c.args.depth c.args.leaves.now c.args.at l c.in-Head.count first c.in-Head.ensures.exact
    (subst (λ r. AreOnly (c.args.depth - 1) c.args.leaves.now (c.args.at + 1) c.in-Head.count r) c.in-None.is c.in_ok-fields-in-Head.ensures.only)

pub read-returns-in-Some-2-clause-found : goal.read-returns-in-Some-2-clause-found
read-returns-in-Some-2-clause-found t c =
    let ls = c.args.leaves.now in let at = c.args.at in let n = c.in-Head.count in
    let head : drop at ls ≡ leaf 4 0 (pos n) ∷ drop (at + 1) ls = grind (arith, common_steps) in
    structure_read ls at n c.in-Some-2.next c.in-Some-2.fields head (rw c.in-Some-2.is at c.in_ok-fields-in-Head.ensures.leaves)

pub read-returns-in-Some-2-clause-fits : goal.read-returns-in-Some-2-clause-fits
read-returns-in-Some-2-clause-fits t c =
    structure_fits c.args.depth c.in-Head.count c.in-Some-2.fields (omega arith) c.in-Head.ensures.fits (rw c.in-Some-2.is at c.in_ok-fields-in-Head.ensures.leaves).count_is
    (rw c.in-Some-2.is at c.in_ok-fields-in-Head.ensures.fits)

pub read-returns-in-Some-2-clause-only : goal.read-returns-in-Some-2-clause-only
read-returns-in-Some-2-clause-only t c =
    let l : Leaf = c.in-Some.leaf.now in let first : drop c.args.at c.args.leaves.now ≡ l ∷ drop (c.args.at + 1) c.args.leaves.now = grind (arith, common_steps) in
    only_structure c.args.depth c.args.leaves.now c.args.at l c.in-Head.count c.in-Some-2.fields c.in-Some-2.next first c.in-Head.ensures.exact
    (subst (λ r. AreOnly (c.args.depth - 1) c.args.leaves.now (c.args.at + 1) c.in-Head.count r) c.in-Some-2.is c.in_ok-fields-in-Head.ensures.only)

pub read_fields-loop-field-preserved : goal.read_fields-loop-field-preserved
read_fields-loop-field-preserved t c =
    let ls = c.args.leaves.now in let at = c.loop-field.at in let v : StoredValue = c.in-Some.value in let i = c.loop-field._field in
    let is = c.in-At.is ∙ ap (λ e. At e c.in-At.next) c.in-Some.is in
    let found : drop at ls ≡ value_leaves (value_of v) ++ drop c.in-At.next ls = subst (λ (f : Found). IsFound ls at f) is c.in_ok-entry.ensures.found in
    let only = subst (λ (f : Found). IsOnly c.args.depth ls at f) is c.in_ok-entry.ensures.only in
    let fit = subst (λ (f : Found). FoundFits c.args.depth f) is c.in_ok-entry.ensures.fits in
    rw c.in_ok-push-in-At.ensures.items record {
      read = fields_read ls c.args.start at c.in-At.next i c.loop-field.fields.items v c.loop-field.invariant.read found;
      fits = fields_fit_more c.args.depth c.loop-field.fields.items v c.loop-field.invariant.fits fit;
      only = goes_more c.args.depth ls c.args.start c.args.count c.loop-field.fields.items at i v c.in-At.next (omega arith) c.loop-field.invariant.only only;
    }

pub read_fields-returns-in_default-clause-only : goal.read_fields-returns-in_default-clause-only
read_fields-returns-in_default-clause-only t c =
    let ls = c.args.leaves.now in
    let is = c.in-At.is ∙ ap (λ e. At e c.in-At.next) c.in_default.is in
    goes_absent c.args.depth ls c.args.start c.args.count c.loop-field.fields.items c.loop-field.at c.loop-field._field c.in-At.next (omega arith) c.loop-field.invariant.only
    (subst (λ (f : Found). IsOnly c.args.depth ls c.loop-field.at f) is c.in_ok-entry.ensures.only)

pub read_fields-returns-in-Wrong-clause-only : goal.read_fields-returns-in-Wrong-clause-only
read_fields-returns-in-Wrong-clause-only t c =
    goes_wrong c.args.depth c.args.leaves.now c.args.start c.args.count c.loop-field.fields.items c.loop-field.at c.loop-field._field (omega arith) c.loop-field.invariant.only
    (subst (λ (f : Found). IsOnly c.args.depth c.args.leaves.now c.loop-field.at f) c.in-Wrong.is c.in_ok-entry.ensures.only)

pub read_fields-returns-clause-only : goal.read_fields-returns-clause-only
read_fields-returns-clause-only t c =
    goes_last c.args.depth c.args.leaves.now c.args.start c.args.count c.loop-field.fields c.loop-field.at c.loop-field._field (omega arith) c.loop-field.invariant.only
