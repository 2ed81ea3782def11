-- By what the methods of text say.
use Rattle.std.proofs.Common.{◌∙◌, ◌++◌, ap, sym, Some, None, ◌∷◌, [], arith}
use Rattle.std.proofs.lemmas.Str.{encode_ascii}
use Rattle.std.proofs.lemmas.Str.Pattern.{split_after, strip_suffix_char}
use Rattle.lus_lawful.proofs.Heads.{before_feed, behind_word, head_utf8, no_blank}
use Rattle.lus_lawful.proofs.head.read_head.Goals as goal

pub returns-in_default-clause-complete : goal.returns-in_default-clause-complete
returns-in_default-clause-complete c = λ instance node a b is. c.in_default.ensures.cases.0 (head_utf8 c.args.line.now instance node a b is)

pub returns-in_err-names-clause-complete : goal.returns-in_err-names-clause-complete
returns-in_err-names-clause-complete c =
    λ instance node a b is.
    (let found = c.in_ok-strip_prefix.ensures.cases in
    let rest = behind_word c.args.line.now instance node a b is c.in-Ok.text.now c.in_ok-strip_prefix.field-0.now found.0 c.in-Ok.ensures.cases.0 found.1.1 found.2 in
    let names = (instance ++ 32 ∷ []) ++ node in
    absurd (c.in_err-names.ensures.cases names (rest ∙ ap (λ t. names ++ t) (sym (encode_ascii 10 (omega arith))))))

pub returns-in_err-instance-clause-complete : goal.returns-in_err-instance-clause-complete
returns-in_err-instance-clause-complete c =
    λ instance node a b is.
    (let found = c.in_ok-strip_prefix.ensures.cases in
    let rest = behind_word c.args.line.now instance node a b is c.in-Ok.text.now c.in_ok-strip_prefix.field-0.now found.0 c.in-Ok.ensures.cases.0 found.1.1 found.2 in
    let ended = strip_suffix_char 10 c.in_ok-strip_prefix.field-0.now (Some c.in_ok-names.names) c.in_ok-names.ensures.cases (omega arith) in
    let parts = before_feed c.args.line.now instance node a b is c.in_ok-strip_prefix.field-0.now c.in_ok-names.names.now rest ended in
    absurd (split_after 32 c.in_ok-names.names.now instance node None c.in_err-instance.ensures.cases (omega arith) parts (no_blank instance a.one_word)))

pub returns-clause-complete : goal.returns-clause-complete
returns-clause-complete c =
    λ instance node a b is.
    (let found = c.in_ok-strip_prefix.ensures.cases in
    let rest = behind_word c.args.line.now instance node a b is c.in-Ok.text.now c.in_ok-strip_prefix.field-0.now found.0 c.in-Ok.ensures.cases.0 found.1.1 found.2 in
    let ended = strip_suffix_char 10 c.in_ok-strip_prefix.field-0.now (Some c.in_ok-names.names) c.in_ok-names.ensures.cases (omega arith) in
    let parts = before_feed c.args.line.now instance node a b is c.in_ok-strip_prefix.field-0.now c.in_ok-names.names.now rest ended in
    split_after 32 c.in_ok-names.names.now instance node (Some (c.in_ok-instance.instance, c.in_ok-instance.node)) c.in_ok-instance.ensures.cases (omega arith) parts
    (no_blank instance a.one_word))
