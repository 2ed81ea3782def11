-- The part at fault, or that none is.
use Rattle.std.proofs.Common.{◌≡◌, ◌∙◌, ◌<◌, suc, [], ◌∷◌, length, map, drop, drop-cons, MatchOption, None, Option, Some, refl, sym, ap, subst, arith}
use Rattle.std.proofs.Math.ListN.{length-map}
use Rattle.std.specs.Option.{option_map}
use Rattle.lus_values.specs.Values.{nil}
use Rattle.lus_values.specs.View.{entry_of}
use Rattle.lus_program.specs.Programs.{literal}
use Rattle.lus_program.specs.View.{program_seen}
use Rattle.lus_streams.specs.Clocks.{at}
use Rattle.lus_streams.specs.Streams.{instant}
use Rattle.lus_attempts.specs.Attempts.{IsAtFault}
use Rattle.lus_parts.specs.declared.part.Part.{Part as StoredPart}
use Rattle.lus_parts.specs.Parts.{part_of}
use Rattle.lus_reference.specs.Kept.{AreRowsFrom}
use Rattle.lus_reference.specs.Causes.{IsCause, IsFaultOf, operation_in}
use Rattle.lus_reference.proofs.Parts.{item_there}
use Rattle.lus_worlds.specs.Moments.{called_of}
use Rattle.lus_worlds.proofs.Moments.{called_rows, get_there}
use Rattle.lus_worlds.proofs.judging.fault_here.Goals as goal

each_caused : {A : Type 0} {P Q : A → Type 0} (o : Option A) → ((x : A) → P x → Q x) → MatchOption o (Unit {0}) P → MatchOption o (Unit {0}) Q
each_caused None f h = tt
each_caused (Some x) f h = f x h

pub returns-in-Some : goal.returns-in-Some
returns-in-Some c =
    let p = program_seen c.args.program.now in
    let b = c.args.present in
    let row = map entry_of c.args.row.now in
    let rows = c.args.rows.now in
    let qs = c.args.parts.now in
    let kept = map entry_of c.args.kept.now in
    let ms = c.args.called.now in
    let now = instant b row (called_of ms) in
    let f = c.in-Some.found in
    let i = f.place in
    let q = c.index-parts-found.result in
    let fault = subst (IsFaultOf p b row rows (map part_of qs) kept) c.in-Some.is c.requires.fault in
    let within : i < length (map part_of qs) = fault.within in
    let lt : i < length qs = omega (arith, length-map qs part_of, within) in
    let rest : drop i qs ≡ q ∷ drop (suc i) qs = drop-cons qs i q lt ∙ (λ j. sym c.index-parts-found.is j ∷ drop (suc i) qs) in
    let called : AreRowsFrom now 0 rows = subst (AreRowsFrom now 0) (sym c.requires.rows) (called_rows b row ms) in
    record {
      part = q;
      number = i;
      there = get_there qs i q lt c.index-parts-found.is;
      at_fault = λ past keeps.
          subst (λ e. IsAtFault p e now past) (item_there part_of (at [] (literal nil)) qs i q (drop (suc i) qs) rest)
          (fault.faults now past (record { base = refl; entries = refl; called = called; keeps = keeps }));
      cause = each_caused (option_map operation_in f.operation)
          (λ o h past keeps. subst (λ e. IsCause p o e now past) (item_there part_of (at [] (literal nil)) qs i q (drop (suc i) qs) rest)
          (h now past (record { base = refl; entries = refl; called = called; keeps = keeps })))
          fault.is;
      way = c.new.ensures.items;
      place = ap (λ (s : StoredPart). s.expr.now.place) (sym c.index-parts-found.is);
    }

pub returns-in-None : goal.returns-in-None
returns-in-None c =
    let p = program_seen c.args.program.now in
    let b = c.args.present in
    let row = map entry_of c.args.row.now in
    let rows = c.args.rows.now in
    let qs = c.args.parts.now in
    let kept = map entry_of c.args.kept.now in
    let ms = c.args.called.now in
    let now = instant b row (called_of ms) in
    let none = subst (IsFaultOf p b row rows (map part_of qs) kept) c.in-None.is c.requires.fault in
    let called : AreRowsFrom now 0 rows = subst (AreRowsFrom now 0) (sym c.requires.rows) (called_rows b row ms) in
    λ past keeps. none now past (record { base = refl; entries = refl; called = called; keeps = keeps })
