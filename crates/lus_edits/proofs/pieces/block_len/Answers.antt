use Rattle.std.proofs.Common.{◌≡◌, ◌+◌, ◌-◌, Bool, false, get_or, List, ℕ, sym, subst, ◌∙◌, arith}
use Rattle.std.specs.Prelude.{◌&&◌, ◌==◌}
use Rattle.lus_syntax.specs.Reading.{block_len}
use Rattle.lus_syntax.proofs.Blocks.{goes_on, never}
use Rattle.lus_edits.proofs.pieces.block_len.Goals as goal

at : (bs : List ℕ) (close i j : ℕ) (t : Bool) → i ≡ j + 1 → (get_or bs j 0 == 42 && get_or bs i 0 == close) ≡ t → (get_or bs j 0 == 42 && get_or bs (j + 1) 0 == close) ≡ t
at bs close i j t e h = subst (λ (k : ℕ). (get_or bs j 0 == 42 && get_or bs k 0 == close) ≡ t) e h

pub loop-i-preserved : goal.loop-i-preserved
loop-i-preserved c =
    let bs = c.args.bytes.now in
    let i = c.loop-i.i in
    let e : i ≡ i - 1 + 1 = omega arith in
    let f : i + 1 - 1 ≡ i - 1 + 1 = omega arith in
    rw f (goes_on c.args.close bs (i - 1) (block_len c.args.close bs) (omega arith) (at bs c.args.close i (i - 1) false e (sym c.closes.ensures ∙ c.if-closes.false)) c.loop-i.invariant)

pub returns : goal.returns
returns c = never c.args.close c.args.bytes.now (c.loop-i.i - 1) (block_len c.args.close c.args.bytes.now) (omega arith) c.loop-i.invariant
