-- Runs in which a claim holds.
use Rattle.std.proofs.Common.{◌≡◌, ◌∙◌, ◌+◌, ◌++◌, ℕ, ap, sym, refl, List, [], ◌∷◌, length, length-append, Option, None}
use Rattle.std.proofs.lemmas.List.Elements.{All-nil, All-push}
use Rattle.lus_values.specs.Names.{Text}
use Rattle.lus_program.specs.Programs.{Program}
use Rattle.lus_requests.specs.declared.request.Request.{Request}
use Rattle.lus_requests.specs.declared.request.Reply.{Reply}
use Rattle.lus_scripts.proofs.ReadScripts.{each_length}
use Rattle.lus_test.specs.Claims.{HasHeld, HaveHeld, IsTrial}
use Rattle.lus_test.specs.Tables.{step_under}

pub none_yet : (p : Program) (f claim count : ℕ) → HaveHeld p f claim 0 count
none_yet p f claim count = record { asked = []; many = refl; all = All-nil (HasHeld p f claim count) }

pub trial_held : (p : Program) (f : ℕ) (names : List Text) (claim count : ℕ) (rows : List (List Text)) (steps : List Request) (replies : List Reply)
    (broken : Option ℕ) → IsTrial p f names claim rows steps replies broken → length rows ≡ count → broken ≡ None → HasHeld p f claim count steps
trial_held p f names claim count rows steps replies broken t long none = record {
  long = each_length (step_under p f names) rows steps (sym t.asked) ∙ long;
  replies = replies;
  run = t.run;
  holds = sym t.found ∙ none;
}

pub one_more : (p : Program) (f claim runs count : ℕ) (steps : List Request) → HaveHeld p f claim runs count → HasHeld p f claim count steps
    → HaveHeld p f claim (runs + 1) count
one_more p f claim runs count steps before here = record {
  asked = before.asked ++ steps ∷ [];
  many = length-append before.asked (steps ∷ []) ∙ ap (λ n. n + 1) before.many;
  all = All-push (HasHeld p f claim count) before.asked steps before.all here;
}
