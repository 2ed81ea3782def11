-- The words ask for the claim that is tried.
use Rattle.std.proofs.Common.{◌≡◌, ◌∙◌, ap, map, option_map, refl, string_bytes, subst, sym, Some}
use Rattle.std.proofs.lemmas.Result.{IfOk-weaker}
use Rattle.clap.specs.Words.{found_of, rows_of}
use Rattle.lus_cli.proofs.Lines.{faultless_asks}
use Rattle.lus_test.specs.Ends.{Holds}
use Rattle.lus_test.specs.Options.{asked_claim, claim_command, said_of, wanted_seen}
use Rattle.lus_test.proofs.claim_shell.perform_claim.Goals as goal

pub returns : goal.returns
unfolding asked_claim
returns g c =
    let asked : asked_claim (map string_bytes c.args.words.now) ≡ Some (wanted_seen c.in-Some.wanted) =
    faultless_asks claim_command claim_command said_of (map string_bytes c.args.words.now) (rows_of (found_of c.in_ok-matches.matches)) refl
    c.in_ok-matches.ensures.right c.in_ok-matches.ensures.rows
    ∙ sym c.choose.ensures
    ∙ ap (option_map wanted_seen) c.in-Some.is in
    IfOk-weaker c.try_program.result _ _ (λ status held zero. subst (Holds (g.D.Folder.known c.args.folder.now)) (sym asked) (held zero)) c.try_program.ensures
