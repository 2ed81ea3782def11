-- By what `strip_suffix` and `starts_with` say.
use Rattle.std.proofs.Common.{◌≡◌, ◌∙◌, ◌++◌, ap, sym, codes, drop, length, None}
use Rattle.std.proofs.lemmas.Bool.{true≢false}
use Rattle.std.proofs.lemmas.Bool.Decides.{Decides-eqb}
use Rattle.std.proofs.lemmas.List.{append_cancel_right}
use Rattle.std.proofs.lemmas.Slice.Eq.{starts_is, strip_suffix_is}
use Rattle.lus_replay.proofs.Lines.{ends_done}
use Rattle.lus_replay.proofs.asked.begins_as.Goals as goal

pub returns-in-Some : goal.returns-in-Some
returns-in-Some c =
    let starts = starts_is Decides-eqb c.args.line.now c.in-Some.front.now c.starts_with.result c.starts_with.ensures.value in
    let ends = ends_done c.args.done.now c.as_slice.result.now c.in-Some.front c.as_slice.ensures c.in-Some.ensures.cases in (
      λ t. record { front = c.in-Some.front.now; given = drop (length c.in-Some.front.now) c.args.line.now; spelled = ends; begins = starts.0 t },
      λ begins.
          (let same : begins.front ≡ c.in-Some.front.now = append_cancel_right begins.front c.in-Some.front.now (codes "done\n") (sym begins.spelled ∙ ends) in
          starts.1 begins.given (begins.begins ∙ ap (λ t. t ++ begins.given) same)),
    )

pub returns-in-None : goal.returns-in-None
returns-in-None c =
    let ends = strip_suffix_is Decides-eqb c.args.done.now c.as_slice.result.now None c.in-None.ensures.cases in (
      λ t. absurd (true≢false (sym t)),
      λ begins. absurd (ends begins.front (begins.spelled ∙ ap (λ t. begins.front ++ t) (sym c.as_slice.ensures))),
    )
