-- What was found so far is what is sought, with one instant more, and where all are there.
use Rattle.std.proofs.Common.{◌≡◌, ◌∙◌, ℕ, zero, suc, ◌+◌, ◌<◌, ◌≤◌, Bool, List, [], ◌∷◌, ◌++◌, Some, Result, Ok, Err, OnOk, drop, drop-cons, drop_of_length-le, get_or, take, length, map, refl, sym, ap, subst, slice_get, arith, rules}
use Rattle.std.proofs.Math.ListN.{length-map}
use Rattle.std.proofs.lemmas.Grind.{common_steps}
use Rattle.std.proofs.lemmas.List.{take_all, take-append-drop}
use Rattle.std.proofs.lemmas.Option.{slice_get_read}
use Rattle.std.proofs.lemmas.Result.{on_ok_weaker}
use Rattle.lus_values.specs.View.{entry_of}
use Rattle.lus_program.specs.Programs.{Node, node_at}
use Rattle.lus_program.specs.View.{node_of, operands_of, program_seen, variable_of}
use Rattle.lus_streams.specs.Equations.{node_parts}
use Rattle.lus_parts.specs.Parts.{part_of}
use Rattle.lus_reference.specs.Placed.{ArePlaces, place_of}
use Rattle.lus_worlds.specs.Finding.{call_places, CallsHere, FindsAll, has_run, IsFoundBy, RunsInTurn, RunsNode}
use Rattle.lus_worlds.specs.Passing.{PassesAt}
use Rattle.lus_worlds.specs.Moments.{kept_in, moments_in}
use Rattle.lus_worlds.specs.Turns.{below, turns_of}
use Rattle.lus_worlds.proofs.InOrder.{find_all, find_next, find_past, all_found, run_here, run_none, run_other, run_past_last, run_then, some_missing, FindsSoFar, IsBegun}
use Rattle.lus_worlds.proofs.CallPlaces.{get_dropped, place_within}
use Rattle.lus_worlds.proofs.Runs.{none_found, none_there, one_found}
use Rattle.lus_worlds.proofs.running.+attempt.Goals as goal

take_more : (i : ℕ) (xs rest : List ℕ) (x : ℕ) → drop i xs ≡ x ∷ rest → take (suc i) xs ≡ take i xs ++ x ∷ []
take_more zero [] rest x e = absurd (cc)
take_more (suc i) [] rest x e = absurd (cc)
take_more zero (y ∷ ys) rest x e = let same : y ≡ x = cc in ap (λ z. z ∷ []) same
take_more (suc i) (y ∷ ys) rest x e = ap (λ l. y ∷ l) (take_more i ys rest x e)

three : {T E P Q R S : Type 0} (r : Result T E) → (P → Q → R → S) → OnOk r P → OnOk r Q → OnOk r R → OnOk r S
three (Ok x) f p q r = f p q r
three (Err e) f p q r = tt

pub attempt-find-requires : goal.attempt-find-requires
attempt-find-requires t c =
    let olds = moments_in c.args.old.now in
    let os = c.in_ok-found-in-Some.found.called.items in
    let count : length os ≡ length olds = first_of (search rules, grind (arith, common_steps)) in
    let parts : map part_of c.deref-in-Some-2.result.now ≡ node_parts (program_seen c.args.program.now) (node_of c.in-Some.node.now) = ap (map part_of) c.deref-in-Some-2.ensures.value ∙ c.in_ok-parts-in-Some.ensures.parts in
    let places : ArePlaces c.in-Some.node.now c.deref-in-Some-3.result.now = subst (ArePlaces c.in-Some.node.now) (sym c.deref-in-Some-3.ensures.value) c.in_ok-places-in-Some.ensures in
    let sites : c.deref-in-Some-4.result.now ≡ call_places c.deref-in-Some-2.result.now 0 =
    c.deref-in-Some-4.ensures.value ∙ c.in_ok-sites-in-Some.ensures ∙ ap (λ l. call_places l 0) (c.deref-in-Some.ensures.value ∙ sym c.deref-in-Some-2.ensures.value) in
    (omega arith, (parts, (places, (sites, count))))

pub attempt-returns-in-Some : goal.attempt-returns-in-Some
attempt-returns-in-Some t c =
    let p = program_seen c.args.program.now in
    let orders = map (λ order. order.items) c.args.orders.now in
    let f = c.args.number in
    let b = c.args.present in
    let given = map entry_of c.args.inputs.now in
    let old = c.args.old.now in
    let a = c.in_ok-found-in-Some.found in
    let d = c.find.new.found in
    let stored = c.in-Some.node.now in
    let node_is : node_of stored ≡ node_at p f = first_of (search rules, grind (arith, common_steps)) in
    let wide : c.len.result ≡ length stored.variables.items = first_of (search rules, grind (arith, common_steps)) in
    let total : c.len.result ≡ length (node_at p f).variables = wide ∙ sym (length-map stored.variables.items variable_of) ∙ ap (λ (g : Node). length g.variables) node_is in
    let count : length a.called.items ≡ length (moments_in old) = first_of (search rules, grind (arith, common_steps)) in
    let begun : IsBegun p orders f b given old a =
    (c.in_ok-found-in-Some.ensures.width ∙ total, λ x lt. c.in_ok-found-in-Some.ensures.inputs x (subst (λ n. x < n) (sym total) lt), c.in_ok-found-in-Some.ensures.rows, count, c.in_ok-found-in-Some.ensures.blank) in
    let finds : FindsAll p orders b old (node_at p f) c.order_at-order.result.now a d = subst (λ g. FindsAll p orders b old g c.order_at-order.result.now a d) node_is c.in_ok-find-in-Some.ensures.all in
    let missing : (n : ℕ) × (has_run d.called.items n ≡ _) = rw c.in-None-2.is at c.in_ok-called-in-Some.ensures in
    some_missing p orders f b given old c.order_at-order.result.now a d begun c.order_at-order.ensures finds missing.0 missing.1

pub attempt-returns-in-Some-2 : goal.attempt-returns-in-Some-2
attempt-returns-in-Some-2 t c =
    let p = program_seen c.args.program.now in
    let orders = map (λ order. order.items) c.args.orders.now in
    let f = c.args.number in
    let b = c.args.present in
    let given = map entry_of c.args.inputs.now in
    let old = c.args.old.now in
    let a = c.in_ok-found-in-Some.found in
    let d = c.find.new.found in
    let ms = c.in-Some-2.called.items in
    let stored = c.in-Some.node.now in
    let node_is : node_of stored ≡ node_at p f = first_of (search rules, grind (arith, common_steps)) in
    let wide : c.len.result ≡ length stored.variables.items = first_of (search rules, grind (arith, common_steps)) in
    let total : c.len.result ≡ length (node_at p f).variables = wide ∙ sym (length-map stored.variables.items variable_of) ∙ ap (λ (g : Node). length g.variables) node_is in
    let count : length a.called.items ≡ length (moments_in old) = first_of (search rules, grind (arith, common_steps)) in
    let begun : IsBegun p orders f b given old a =
    (c.in_ok-found-in-Some.ensures.width ∙ total, λ x lt. c.in_ok-found-in-Some.ensures.inputs x (subst (λ n. x < n) (sym total) lt), c.in_ok-found-in-Some.ensures.rows, count, c.in_ok-found-in-Some.ensures.blank) in
    let finds : FindsAll p orders b old (node_at p f) c.order_at-order.result.now a d = subst (λ g. FindsAll p orders b old g c.order_at-order.result.now a d) node_is c.in_ok-find-in-Some.ensures.all in
    let whole : map (λ m. Some m) ms ≡ d.called.items = rw c.in-Some-2.is at c.in_ok-called-in-Some.ensures in
    all_found p orders f b given old c.order_at-order.result.now a d begun c.order_at-order.ensures finds ms whole c.in_ok-moment-in-Some-2.moment c.in_ok-moment-in-Some-2.ensures.made c.in_ok-moment-in-Some-2.ensures.next

pub find-loop-variable-preserved : goal.find-loop-variable-preserved
find-loop-variable-preserved t c =
    let p = program_seen c.args.program.now in
    let orders = map (λ order. order.items) c.args.orders.now in
    let b = c.args.present in
    let old = c.args.old.now in
    let g = node_of c.args.node.now in
    let xs = c.args.order.now in
    let i = c.loop-variable.variable-index in
    let x = get_or xs i 0 in
    let qs = c.args.parts.now in
    let first = c.args.found.now in
    let a = c.loop-variable.found in
    let d = c.run_calls.new.found in
    let e = c.find_variable.new.self in
    let next : i + 1 ≡ suc i = omega arith in
    let rest : drop i xs ≡ x ∷ drop (suc i) xs = drop-cons xs i 0 c.loop-variable-test.true in
    let whole : xs ≡ take i xs ++ x ∷ drop (suc i) xs = sym (take-append-drop i xs) ∙ ap (λ l. take i xs ++ l) rest in
    let taken : take (i + 1) xs ≡ take i xs ++ x ∷ [] = ap (λ n. take n xs) next ∙ take_more i xs (drop (suc i) xs) x rest in
    let place : c.place_at-place.result ≡ place_of c.args.node.now x = c.place_at-place.ensures ∙ c.requires.places.each x (omega arith) in
    let turns : c.deref.result.now ≡ turns_of g x = c.deref.ensures.value ∙ c.in_ok-calls.ensures x place in
    let runs : RunsInTurn p orders b old qs (turns_of g x) a d = subst (λ cs. RunsInTurn p orders b old qs cs a d) turns c.in_ok-run_calls.ensures.run in
    let by : IsFoundBy p g x b (kept_in old) d.rows.items (map entry_of d.row.items) (map entry_of e.row.items) =
    subst (λ k. IsFoundBy p g x b k d.rows.items (map entry_of d.row.items) (map entry_of e.row.items)) c.items.ensures c.in_ok-find_variable.ensures.row in
    record {
      count = ap (λ v. length v.items) c.in_ok-find_variable.ensures.called ∙ c.in_ok-run_calls.ensures.count;
      found = subst (λ l. FindsSoFar p orders b old g xs l first e) (sym taken)
          (find_next p orders b old g xs (take i xs) (drop (suc i) xs) x qs first a d e c.loop-variable.invariant.found whole c.requires.parts runs c.in_ok-find_variable.ensures.called c.in_ok-find_variable.ensures.rows by);
    }

pub find-loop-variable-preserved-then-variable-places : goal.find-loop-variable-preserved-then-variable-places
find-loop-variable-preserved-then-variable-places t c =
    let p = program_seen c.args.program.now in
    let orders = map (λ order. order.items) c.args.orders.now in
    let g = node_of c.args.node.now in
    let xs = c.args.order.now in
    let i = c.loop-variable.variable-index in
    let x = get_or xs i 0 in
    let vs = c.args.node.now.variables.items in
    let next : i + 1 ≡ suc i = omega arith in
    let rest : drop i xs ≡ x ∷ drop (suc i) xs = drop-cons xs i 0 c.loop-variable-test.true in
    let taken : take (i + 1) xs ≡ take i xs ++ x ∷ [] = ap (λ n. take n xs) next ∙ take_more i xs (drop (suc i) xs) x rest in
    let count = c.requires.places.count in
    let past : length g.variables ≤ x = omega (arith, count, length-map vs variable_of, c.if-variable-places.true) in
    record {
      count = c.loop-variable.invariant.count;
      found = subst (λ l. FindsSoFar p orders c.args.present c.args.old.now g xs l c.args.found.now c.loop-variable.found) (sym taken)
          (find_past p orders c.args.present c.args.old.now g xs (take i xs) x c.args.found.now c.loop-variable.found c.loop-variable.invariant.found past);
    }

pub find-returns-clause-all : goal.find-returns-clause-all
find-returns-clause-all t c =
    let p = program_seen c.args.program.now in
    let orders = map (λ order. order.items) c.args.orders.now in
    let b = c.args.present in
    let old = c.args.old.now in
    let g = node_of c.args.node.now in
    let xs = c.args.order.now in
    let i = c.loop-variable.variable-index in
    let qs = c.args.parts.now in
    let first = c.args.found.now in
    let a = c.loop-variable.found in
    let d = c.run_calls-2.new.found in
    let finds : FindsSoFar p orders b old g xs xs first a = subst (λ l. FindsSoFar p orders b old g xs l first a) (take_all i xs (let le : length xs ≤ i = omega (arith, c.loop-variable-test.false) in le)) c.loop-variable.invariant.found in
    let count : c.len.result ≡ length (moments_in old) = first_of (search rules, grind (arith, common_steps)) in
    let left : c.deref-2.result.now ≡ below (length (moments_in old)) = c.deref-2.ensures.value ∙ c.in_ok-left.ensures ∙ ap below count in
    on_ok_weaker c.run_calls-2.result
    (λ (run : RunsInTurn p orders b old qs c.deref-2.result.now a d). find_all p orders b old g xs qs first a d finds c.requires.parts (subst (λ cs. RunsInTurn p orders b old qs cs a d) left run))
    c.run_calls-2.ensures.run

pub run_calls-loop-call-preserved : goal.run_calls-loop-call-preserved
run_calls-loop-call-preserved t c =
    let p = program_seen c.args.program.now in
    let orders = map (λ order. order.items) c.args.orders.now in
    let b = c.args.present in
    let old = c.args.old.now in
    let qs = c.args.parts.now in
    let cs = c.args.calls.now in
    let i = c.loop-call.call-index in
    let x = get_or cs i 0 in
    let a = c.loop-call.found in
    let d = c.run_call.new.found in
    let next : i + 1 ≡ suc i = omega arith in
    let rest : drop i cs ≡ x ∷ drop (suc i) cs = drop-cons cs i 0 c.loop-call-test.true in
    record {
      count = c.in_ok-run_call.ensures.count;
      runs = λ found later.
          c.loop-call.invariant.runs found
          (subst (λ l. RunsInTurn p orders b old qs l a found) (sym rest)
          (run_then p orders b old qs x (drop (suc i) cs) a d found c.in_ok-run_call.ensures.runs (subst (λ j. RunsInTurn p orders b old qs (drop j cs) d found) next later)));
    }

pub run_calls-returns-clause-run : goal.run_calls-returns-clause-run
run_calls-returns-clause-run t c =
    let p = program_seen c.args.program.now in
    let orders = map (λ order. order.items) c.args.orders.now in
    let b = c.args.present in
    let old = c.args.old.now in
    let qs = c.args.parts.now in
    let cs = c.args.calls.now in
    let i = c.loop-call.call-index in
    let a = c.loop-call.found in
    let done : drop i cs ≡ [] = drop_of_length-le cs (let le : length cs ≤ i = omega (arith, c.loop-call-test.false) in le) in
    c.loop-call.invariant.runs a (subst (λ l. RunsInTurn p orders b old qs l a a) (sym done) (run_none p orders b old qs a))

pub run_call-returns-then-call-sites-clause-runs : goal.run_call-returns-then-call-sites-clause-runs
run_call-returns-then-call-sites-clause-runs t c =
    let p = program_seen c.args.program.now in
    let orders = map (λ order. order.items) c.args.orders.now in
    let n = c.args.call in
    let qs = c.args.parts.now in
    let le : length (call_places qs 0) ≤ n = subst (λ l. length l ≤ n) c.requires.sites (omega arith) in
    run_past_last p orders c.args.present c.args.old.now qs n c.args.found.now le

pub run_call-returns-then-place-parts-clause-runs : goal.run_call-returns-then-place-parts-clause-runs
run_call-returns-then-place-parts-clause-runs t c =
    let p = program_seen c.args.program.now in
    let n = c.args.call in
    let is = c.args.sites.now in
    let qs = c.args.parts.now in
    let i = get_or is n 0 in
    let lt : n < length is = omega arith in
    let there : slice_get (call_places qs 0) n ≡ Some i = subst (λ l. slice_get l n ≡ Some i) c.requires.sites (get_dropped is n i (drop (suc n) is) (drop-cons is n 0 lt)) in
    absurd (place_within p qs n i there (omega arith))

pub run_call-returns-in-None-clause-runs : goal.run_call-returns-in-None-clause-runs
run_call-returns-in-None-clause-runs t c =
    let p = program_seen c.args.program.now in
    let orders = map (λ order. order.items) c.args.orders.now in
    let n = c.args.call in
    let is = c.args.sites.now in
    let qs = c.args.parts.now in
    let i = get_or is n 0 in
    let q = c.index-parts-place.result in
    let lt : n < length is = omega arith in
    let there : slice_get (call_places qs 0) n ≡ Some i = subst (λ l. slice_get l n ≡ Some i) c.requires.sites (get_dropped is n i (drop (suc n) is) (drop-cons is n 0 lt)) in
    let rest : drop i qs ≡ q ∷ drop (suc i) qs = drop-cons qs i q (omega arith) ∙ (λ j. sym c.index-parts-place.is j ∷ drop (suc i) qs) in
    run_other p orders c.args.present c.args.old.now qs n i q c.args.found.now there (get_dropped qs i q (drop (suc i) qs) rest) c.in-None.ensures

pub run_call-returns-in_ok-passed-in-Some-clause-runs : goal.run_call-returns-in_ok-passed-in-Some-clause-runs
run_call-returns-in_ok-passed-in-Some-clause-runs t c =
    let p = program_seen c.args.program.now in
    let orders = map (λ order. order.items) c.args.orders.now in
    let b = c.args.present in
    let old = c.args.old.now in
    let n = c.args.call in
    let qs = c.args.parts.now in
    let i = get_or c.args.sites.now n 0 in
    let q = c.index-parts-place.result in
    let a = c.args.found.now in
    let d = c.run_node.new.found in
    let g = c.in-Some.called in
    let es = operands_of c.in-Some.arguments.now in
    let on = c.in_ok-passed-in-Some.passed.on in
    let given = map entry_of c.deref-in-Some-2.result.now in
    let rest : drop i qs ≡ q ∷ drop (suc i) qs = drop-cons qs i q (omega arith) ∙ (λ j. sym c.index-parts-place.is j ∷ drop (suc i) qs) in
    let here : CallsHere n q g es = c.in-Some.ensures in
    let ps = map part_of qs in
    let pass0 : PassesAt p b (map entry_of c.deref.result.now) c.deref-in-Some.result.now q g es ps (i + 1) (kept_in old) on (map entry_of c.in_ok-passed-in-Some.passed.inputs.items) =
    subst (λ l. PassesAt p b (map entry_of c.deref.result.now) c.deref-in-Some.result.now q g es ps (i + 1) l on (map entry_of c.in_ok-passed-in-Some.passed.inputs.items)) c.items.ensures c.in_ok-passed-in-Some.ensures in
    let pass1 = subst (λ l. PassesAt p b (map entry_of l) c.deref-in-Some.result.now q g es ps (i + 1) (kept_in old) on (map entry_of c.in_ok-passed-in-Some.passed.inputs.items)) c.deref.ensures.value pass0 in
    let pass2 = subst (λ l. PassesAt p b (map entry_of a.row.items) l q g es ps (i + 1) (kept_in old) on (map entry_of c.in_ok-passed-in-Some.passed.inputs.items)) c.deref-in-Some.ensures.value pass1 in
    let passes : PassesAt p b (map entry_of a.row.items) a.rows.items q g es ps (i + 1) (kept_in old) on given =
    subst (λ l. PassesAt p b (map entry_of a.row.items) a.rows.items q g es ps (i + 1) (kept_in old) on (map entry_of l)) (sym c.deref-in-Some-2.ensures.value) pass2 in
    on_ok_weaker c.run_node.result
    (λ (run : (present : Bool) → RunsNode p orders present old n g on given a d). run_here p orders b old qs n g i es q a d on given rest here passes (run b))
    c.run_node.ensures.runs

pub run_node-add-requires : goal.run_node-add-requires
run_node-add-requires t c =
    let olds = moments_in c.args.old.now in
    let long : length c.args.found.now.called.items ≡ length olds = c.requires in
    let same : length c.deref.result.now ≡ length olds = ap length c.deref.ensures.value in
    let within : c.args.call < length c.deref.result.now = omega (arith, c.in-Some.ensures.lookup.3.0) in
    omega (arith, long, same, within)

pub run_node-returns-in-Some-2-clause-runs : goal.run_node-returns-in-Some-2-clause-runs
run_node-returns-in-Some-2-clause-runs t c =
    let p = program_seen c.args.program.now in
    let orders = map (λ order. order.items) c.args.orders.now in
    let old = c.args.old.now in
    let olds = moments_in old in
    let a = c.args.found.now in
    let d = c.add.new.self in
    let n = c.args.call in
    let g = c.args.called in
    let on = c.args.on in
    let given = map entry_of c.args.inputs.now in
    let own = c.in-Some.own.now in
    let m = c.in-Some-2.moment in
    let slot : slice_get c.deref.result.now n ≡ Some own = slice_get_read c.deref.result.now (length c.deref.result.now) n own refl (omega (arith, c.in-Some.ensures.lookup.3.0)) c.in-Some.ensures.lookup.1 in
    let there : slice_get olds n ≡ Some own = subst (λ l. slice_get l n ≡ Some own) c.deref.ensures.value slot in
    let ran = rw c.in-Some-2.is at c.in_ok-moment-in-Some.ensures in
    three c.add.result
    (λ called row rows present. one_found p orders present old n g on given a own there m ran d called row rows)
    c.add.ensures.called c.add.ensures.row c.add.ensures.rows

pub run_node-returns-in-None-2-clause-runs : goal.run_node-returns-in-None-2-clause-runs
run_node-returns-in-None-2-clause-runs t c =
    let p = program_seen c.args.program.now in
    let orders = map (λ order. order.items) c.args.orders.now in
    let old = c.args.old.now in
    let olds = moments_in old in
    let a = c.args.found.now in
    let n = c.args.call in
    let own = c.in-Some.own.now in
    let slot : slice_get c.deref.result.now n ≡ Some own = slice_get_read c.deref.result.now (length c.deref.result.now) n own refl (omega (arith, c.in-Some.ensures.lookup.3.0)) c.in-Some.ensures.lookup.1 in
    let there : slice_get olds n ≡ Some own = subst (λ l. slice_get l n ≡ Some own) c.deref.ensures.value slot in
    let ran = rw c.in-None-2.is at c.in_ok-moment-in-Some.ensures in
    λ present. none_found p orders present old n c.args.called c.args.on (map entry_of c.args.inputs.now) a own there ran a

pub run_node-returns-in-None-clause-runs : goal.run_node-returns-in-None-clause-runs
run_node-returns-in-None-clause-runs t c =
    let p = program_seen c.args.program.now in
    let orders = map (λ order. order.items) c.args.orders.now in
    let old = c.args.old.now in
    let olds = moments_in old in
    let a = c.args.found.now in
    let n = c.args.call in
    let long : length a.called.items ≡ length olds = c.requires in
    let same : length c.deref.result.now ≡ length olds = ap length c.deref.ensures.value in
    let past : length c.deref.result.now ≤ n = first_of (search (rules, c.in-None.ensures.lookup), grind (arith, common_steps)) in
    λ present. none_there p orders present old n c.args.called c.args.on (map entry_of c.args.inputs.now) a (let le : length a.called.items ≤ n = omega (arith, long, same, past) in le)
