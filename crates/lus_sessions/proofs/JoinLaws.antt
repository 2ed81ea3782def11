-- What is written behind a journal's items are its next items.
use Rattle.std.proofs.Common.{◌≡◌, ◌∙◌, ◌+◌, ◌++◌, ℕ, ap, sym, List, [], ◌∷◌, length, take, drop, append_assoc, append-nil, arith, length-append}
use Rattle.std.proofs.lemmas.List.{take-append-drop}
use Rattle.lus_values.specs.Names.{Names, Text}
use Rattle.lus_requests.specs.declared.request.Entry.{Entry}
use Rattle.lus_devices.specs.Devices.{Bytes}
use Rattle.lus_devices.specs.Journals.{count_text, line_text}
use Rattle.lus_play.specs.Plays.{texts}
use Rattle.lus_replay.specs.Replays.{CutShort, Item, cut_mark, item_text, items_text, said_in, saids_of}
use Rattle.lus_sessions.specs.Recoveries.{ended, entries_at, head_of, joined, so_far, start_text}
use Rattle.lus_sessions.specs.Sessions.{Parties, added, journal_lines}
use Rattle.lus_sessions.specs.declared.recovering.Start.{Start}
use Rattle.lus_sessions.specs.declared.recovering.Start.TheVariants as starts

-- behind k entries, the lines of a caller's further ones, numbered on, and how many there are of all
abbrev more_text : Names → Text → ℕ → List Entry → Text
more_text names caller k es = texts (line_text names (caller ∷ [])) (k + 1) es ++ count_text (k + length es)

ended_text : (names : Names) (caller : Text) (k : ℕ) (es : List Entry) → items_text names k (ended caller es) ≡ more_text names caller k es
ended_text names caller k [] =
    let same : k ≡ k + 0 = omega arith in
    append-nil (count_text k) ∙ ap count_text same
ended_text names caller k (e ∷ es) =
    let same : k + 1 + length es ≡ k + length (e ∷ es) = omega arith in
    ap (λ t. line_text names (caller ∷ []) (k + 1) e ++ t) (ended_text names caller (k + 1) es)
    ∙ sym (append_assoc (line_text names (caller ∷ []) (k + 1) e) (texts (line_text names (caller ∷ [])) (k + 1 + 1) es) (count_text (k + 1 + length es)))
    ∙ ap (λ n. (line_text names (caller ∷ []) (k + 1) e ++ texts (line_text names (caller ∷ [])) (k + 1 + 1) es) ++ count_text n) same

items_append : (names : Names) (k : ℕ) (is js : List Item)
    → items_text names k (is ++ js) ≡ items_text names k is ++ items_text names (k + length (saids_of is)) js
items_append names k [] js =
    let same : k ≡ k + 0 = omega arith in
    ap (λ n. items_text names n js) same
items_append names k (i ∷ is) js =
    let same : k + length (said_in i) + length (saids_of is) ≡ k + length (saids_of (i ∷ is)) = omega (arith, length-append (said_in i) (saids_of is)) in
    ap (λ t. item_text names k i ++ t) (items_append names (k + length (said_in i)) is js)
    ∙ sym (append_assoc (item_text names k i) (items_text names (k + length (said_in i)) is)
    (items_text names (k + length (said_in i) + length (saids_of is)) js))
    ∙ ap (λ n. items_text names k (i ∷ is) ++ items_text names n js) same

-- items behind all of a journal
items_behind : (names : Names) (k : ℕ) (items js : List Item) → k ≡ length (saids_of items)
    → items_text names 0 (items ++ js) ≡ items_text names 0 items ++ items_text names k js
items_behind names k items js counted =
    let same : 0 + length (saids_of items) ≡ k = omega (arith, counted) in
    items_append names 0 items js ∙ ap (λ n. items_text names 0 items ++ items_text names n js) same

module _ (names : Names) (caller : Text) (k : ℕ) (items : List Item) (es : List Entry) (counted : k ≡ length (saids_of items)) where
  line_joined : (head : Text) → (head ++ items_text names 0 items) ++ more_text names caller k es ≡ head ++ items_text names 0 (items ++ ended caller es)
  line_joined head =
      append_assoc head (items_text names 0 items) (more_text names caller k es)
      ∙ ap (λ t. head ++ (items_text names 0 items ++ t)) (sym (ended_text names caller k es))
      ∙ ap (λ t. head ++ t) (sym (items_behind names k items (ended caller es) counted))

  cut_item : (tail : Bytes) → items_text names k (CutShort tail ∷ ended caller es) ≡ tail ++ (cut_mark ++ more_text names caller k es)
  cut_item tail =
      let same : k + 0 ≡ k = omega arith in
      ap (λ n. (tail ++ cut_mark) ++ items_text names n (ended caller es)) same
      ∙ append_assoc tail cut_mark (items_text names k (ended caller es))
      ∙ ap (λ t. tail ++ (cut_mark ++ t)) (ended_text names caller k es)

  cut_joined : (head : Text) (tail : Bytes)
      → (head ++ (items_text names 0 items ++ tail)) ++ (cut_mark ++ more_text names caller k es) ≡ head ++ items_text names 0 (items ++ CutShort tail ∷ ended caller es)
  cut_joined head tail =
      append_assoc head (items_text names 0 items ++ tail) (cut_mark ++ more_text names caller k es)
      ∙ ap (λ t. head ++ t) (append_assoc (items_text names 0 items) tail (cut_mark ++ more_text names caller k es))
      ∙ ap (λ t. head ++ (items_text names 0 items ++ t)) (sym (cut_item tail))
      ∙ ap (λ t. head ++ t) (sym (items_behind names k items (CutShort tail ∷ ended caller es) counted))

more_joined : (names : Names) (who : Parties) (start : Start) (items : List Item) (tail : Bytes) (es : List Entry)
    → entries_at start ≡ length (saids_of items)
    → so_far names who.node start items tail ++ (start_text who.node start ++ more_text names who.caller (entries_at start) es) ≡ head_of who.node ++ items_text names 0 (joined who.caller start items tail es)
more_joined names who (starts.Head n) items tail es counted =
    sym (append_assoc (take n (head_of who.node)) (drop n (head_of who.node)) (more_text names who.caller 0 es))
    ∙ ap (λ t. t ++ more_text names who.caller 0 es) (take-append-drop n (head_of who.node))
    ∙ ap (λ t. head_of who.node ++ t) (sym (ended_text names who.caller 0 es))
more_joined names who (starts.Line k) items tail es counted = line_joined names who.caller k items es counted (head_of who.node)
more_joined names who (starts.Cut k n) items tail es counted = cut_joined names who.caller k items es counted (head_of who.node) tail

pub are_joined : (names : Names) (who : Parties) (start : Start) (items : List Item) (tail : Bytes) (es : List Entry)
    → entries_at start ≡ length (saids_of items)
    → so_far names who.node start items tail ++ added (journal_lines names who) start es
    ≡ head_of who.node ++ items_text names 0 (joined who.caller start items tail es)
are_joined names who start items tail es counted =
    ap (λ t. so_far names who.node start items tail ++ t)
    (append_assoc (start_text who.node start) (texts (line_text names (who.caller ∷ [])) (entries_at start + 1) es) (count_text (entries_at start + length es)))
    ∙ more_joined names who start items tail es counted
