use Rattle.std.proofs.Common.{◌∷◌, [], map, subst, sym, arith}
use Rattle.std.proofs.lemmas.List.{map-append}
use Rattle.lus_values.specs.Values.{Row}
use Rattle.lus_values.specs.View.{entry_of}
use Rattle.lus_leaves.specs.declared.reading.Found.{Found}
use Rattle.lus_leaves.specs.Fits.{EntryFits, RowFits}
use Rattle.lus_leaves.specs.Reading.{IsFound, FoundFits, IsOnly}
use Rattle.lus_leaves.proofs.Leaves.{entries_more}
use Rattle.lus_leaves.proofs.OnlyRows.{RowGoesOn, by_recursion_more, row_more, row_wrong, row_last}
use Rattle.lus_leaves.proofs.reading.entries_of.Goals as goal

pub loop-at-preserved : goal.loop-at-preserved
loop-at-preserved c =
    let ls = c.args.leaves.now in let es = c.loop-at.entries.items in let e = c.in-At.entry in
    let found = subst (λ (f : Found). IsFound ls c.loop-at.at f) c.in-At.is c.in_ok-entry.ensures.found in
    let fit = subst (λ (f : Found). FoundFits 64 f) c.in-At.is c.in_ok-entry.ensures.fits in
    let only = subst (λ (f : Found). IsOnly 64 ls c.loop-at.at f) c.in-At.is c.in_ok-entry.ensures.only in
    let more = map-append entry_of es (e ∷ []) in
    rw c.in_ok-push-in-At.ensures.items record {
      read = entries_more ls es e c.loop-at.at c.in-At.next c.loop-at.invariant.read found;
      fits = subst RowFits (sym more) (by_recursion_more (EntryFits 64) (map entry_of es) (entry_of e) c.loop-at.invariant.fits fit);
      only = subst (λ (row : Row). RowGoesOn ls row c.in-At.next) (sym more) (row_more ls (map entry_of es) c.loop-at.at e c.in-At.next (omega arith) c.loop-at.invariant.only only);
    }

pub returns-in-Wrong-clause-only : goal.returns-in-Wrong-clause-only
returns-in-Wrong-clause-only c =
    let ls = c.args.leaves.now in
    row_wrong ls (map entry_of c.loop-at.entries.items) c.loop-at.at (omega arith) c.loop-at.invariant.only (subst (λ (f : Found). IsOnly 64 ls c.loop-at.at f) c.in-Wrong.is c.in_ok-entry.ensures.only)

pub returns-clause-only : goal.returns-clause-only
returns-clause-only c = row_last c.args.leaves.now (map entry_of c.loop-at.entries.items) c.loop-at.at (omega arith) c.loop-at.invariant.only
