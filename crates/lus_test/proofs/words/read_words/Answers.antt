-- By what clap says of the words.
use Rattle.std.proofs.Common.{rules, ◌≡◌, ◌∙◌, sym, map, option_map, string_bytes}
use Rattle.std.proofs.lemmas.Result.{err_from_is_err_and}
use Rattle.clap.specs.Words.{app_of, found_of, rows_of}
use Rattle.lus_test.specs.CommandLine.{asked, said, task_seen, the_command}
use Rattle.lus_cli.specs.declared.words.WordsError.TheVariants.{Mistaken}
use Rattle.lus_cli.proofs.Lines.{err_part, faulty_asks, faultless_asks, ok_part}
use Rattle.lus_test.proofs.words.read_words.Goals as goal
use Rattle.lus_test.proofs.words.read_words.Goals.{After-ok_or}

pub returns-in_err-matches-clause-mistaken : goal.returns-in_err-matches-clause-mistaken
unfolding asked
returns-in_err-matches-clause-mistaken c same =
    let e = err_from_is_err_and c.from_residual-in_err-matches.result c.from_residual-in_err-matches.ensures.1 in
    faulty_asks the_command (app_of c.in_ok-command.field-0) said (map string_bytes c.args.words.now) (search rules) (c.in_err-matches.ensures.mistaken (cc))

-- what the values that were read come to
asked_is : (c : After-ok_or) → asked (map string_bytes c.args.words.now) ≡ option_map task_seen c.choose.result
unfolding asked
asked_is c =
    faultless_asks the_command (app_of c.in_ok-command.field-0) said (map string_bytes c.args.words.now) (rows_of (found_of c.in_ok-matches.matches)) (search rules)
    c.in_ok-matches.ensures.right c.in_ok-matches.ensures.rows
    ∙ sym c.choose.ensures

pub returns-clause-ok : goal.returns-clause-ok
returns-clause-ok c = ok_part task_seen Mistaken c.choose.result c.ok_or.result (asked (map string_bytes c.args.words.now)) c.ok_or.ensures.value (asked_is c)

pub returns-clause-mistaken : goal.returns-clause-mistaken
returns-clause-mistaken c = err_part task_seen Mistaken c.choose.result c.ok_or.result (asked (map string_bytes c.args.words.now)) c.ok_or.ensures.value (asked_is c)
