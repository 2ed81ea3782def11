-- At the word itself the count grows by one, and at other bytes it stays.
use Rattle.std.proofs.Common.{rules, arith, [], List, Bor, ◌≡◌, ℕ, ◌<◌, ⊎_elim, length, get_or, unwrap_or, bytes_eq}
use Rattle.std.specs.Cmp.Lexicographic.{bytes_decides, nat_list_eq_equiv}
use Rattle.std.proofs.lemmas.Bool.{cases_Bool}
use Rattle.std.proofs.lemmas.Grind.{common_steps}
use Rattle.std.proofs.lemmas.List.Sums.{count_by_more_yes, count_by_more_no, count_by-le-length}
use Rattle.std.proofs.lemmas.Map.Text.{hash_map_updates_str}
use Rattle.indexmap.specs.IndexMap.{get_by}
use Rattle.lus_warnings.proofs.table.counted.Goals as goal

-- what `get_or` reads past the end of a list of `&str`
abbrev no_word : Bor (List ℕ)
no_word = record { ref_ptr = (0, 0); now = [] }

pub overflow_add-n : goal.overflow_add-n
overflow_add-n c = grind (arith, common_steps, count_by-le-length, c.loop-w.invariant (get_or c.args.words.now c.loop-w.w-index no_word).now)

pub loop-w-preserved : goal.loop-w-preserved
loop-w-preserved c = λ q.
    let w = get_or c.args.words.now c.loop-w.w-index no_word in
    let put = hash_map_updates_str w.now c.loop-w.names c.insert.new.self _ c.in_ok-insert.ensures.updates q in
    let inside : c.loop-w.w-index < length c.args.words.now = search rules in
    let before = c.loop-w.invariant q in
    let turned = nat_list_eq_equiv.symm q w.now in
    ⊎_elim
    (λ t. let more = count_by_more_yes (λ v. bytes_eq q v.now) c.args.words.now c.loop-w.w-index no_word inside t in
    let same = (bytes_decides q w.now).0 t in
    let n : c.unwrap_or-n.result ≡ unwrap_or (get_by (λ k. bytes_eq w.now k.now) c.loop-w.names) 0 = search rules in
    let n_at_q = rw (← same) at n in
    let put_at_q = rw (← same) at put in
    let itself = nat_list_eq_equiv.refl q in
    grind (arith, common_steps))
    (λ f. let more = count_by_more_no (λ v. bytes_eq q v.now) c.args.words.now c.loop-w.w-index no_word inside f in
    grind (arith, common_steps))
    (cases_Bool (bytes_eq q w.now))
