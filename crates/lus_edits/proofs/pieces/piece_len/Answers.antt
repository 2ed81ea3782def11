use Rattle.std.proofs.Common.{◌≡◌, ℕ, ◌-◌, List, get_or, length, take, drop, refl, sym, ap, ◌∙◌, arith}
use Rattle.std.specs.List.{prefix_len}
use Rattle.std.proofs.lemmas.List.{take_rest}
use Rattle.std.proofs.Common.{Option, Some, None, ◌+◌}
use Rattle.std.specs.Prelude.{IfSome, option_map}
use Rattle.lus_syntax.specs.Reading.{block_len, block_skip, IsSkip, Skips}
use Rattle.lus_syntax.proofs.Blocks.{same_line, line_len_within, line_skip, slash_skip, round_skip, blank_skip}
use Rattle.lus_edits.proofs.pieces.piece_len.Goals as goal
use Rattle.lus_edits.proofs.pieces.piece_len.Goals.{After-line_len}

line_is : (c : After-line_len) → c.line_len.result ≡ prefix_len same_line (drop 2 c.args.bytes.now)
line_is c = c.line_len.ensures ∙ ap (prefix_len same_line) (take_rest c.args.bytes.now 2)

some_skip : (bs : List ℕ) (o : Option ℕ) → IsSkip bs (block_skip o) → IfSome (option_map (λ n. n + 2) o) (Skips bs)
some_skip bs None h = tt
some_skip bs (Some n) h = h

block_is : (bs : List ℕ) (close : ℕ) → option_map (λ n. n + 2) (block_len close (take (length bs - 2) (drop 2 bs))) ≡ option_map (λ n. n + 2) (block_len close (drop 2 bs))
block_is bs close = ap (λ (x : List ℕ). option_map (λ n. n + 2) (block_len close x)) (take_rest bs 2)

pub overflow_add-result : goal.overflow_add-result
overflow_add-result c = omega (arith, line_len_within c.args.bytes.now c.line_len.result (omega arith) (line_is c))

pub returns-in-45 : goal.returns-in-45
returns-in-45 c =
    let first : get_or c.args.bytes.now 0 0 ≡ 45 = omega arith in
    let second : get_or c.args.bytes.now 1 0 ≡ 45 = omega arith in
    line_skip c.args.bytes.now c.line_len.result (omega arith) first second (line_is c)

pub returns-in-47 : goal.returns-in-47
returns-in-47 c =
    let first : get_or c.args.bytes.now 0 0 ≡ 47 = omega arith in
    let second : get_or c.args.bytes.now 1 0 ≡ 42 = omega arith in
    rw (c.block.ensures ∙ block_is c.args.bytes.now 47) (some_skip c.args.bytes.now _ (slash_skip c.args.bytes.now _ (omega arith) first second refl))

pub returns-in-40 : goal.returns-in-40
returns-in-40 c =
    let first : get_or c.args.bytes.now 0 0 ≡ 40 = omega arith in
    let second : get_or c.args.bytes.now 1 0 ≡ 42 = omega arith in
    rw (c.block-in-40.ensures ∙ block_is c.args.bytes.now 41) (some_skip c.args.bytes.now _ (round_skip c.args.bytes.now _ (omega arith) first second refl))

pub returns-in-len1-up : goal.returns-in-len1-up
returns-in-len1-up c = blank_skip c.args.bytes.now (sym c.is_blank.ensures ∙ c.if-is_blank.true)
