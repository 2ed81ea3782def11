use Rattle.std.proofs.Common.{◌≡◌, ◌++◌, ◌∷◌, [], ap, ◌∙◌, arith}
use Rattle.std.proofs.lemmas.List.{map_push}
use Rattle.lus_syntax.specs.Places.{start, end_of}
use Rattle.lus_syntax.specs.Tokens.{Reads}
use Rattle.lus_syntax.specs.View.{token_seen, tokens_seen}
use Rattle.lus_syntax.proofs.Places.{fits}
use Rattle.lus_syntax.proofs.Runs.{reads_length, reads_room, run_push}
use Rattle.lus_syntax.proofs.lexer.tokens_of.Goals as goal
use Rattle.lus_syntax.proofs.lexer.tokens_of.Goals.{In_ok-push}

next : (c : In_ok-push) → Reads c.loop-tokens.at c.loop-tokens.rest.now (token_seen c.in-Some.token) c.in-Some.after.now
next c = rw c.in-Some.is at c.in_ok-token.ensures

pub loop-tokens-smaller : goal.loop-tokens-smaller
loop-tokens-smaller c = reads_length c.loop-tokens.at c.loop-tokens.rest.now (token_seen c.in-Some.token) c.in-Some.after.now (next c)

pub loop-tokens-preserved : goal.loop-tokens-preserved
loop-tokens-preserved c =
    let t = token_seen c.in-Some.token in
    let e : tokens_seen c.push.new.self.items ≡ tokens_seen c.loop-tokens.tokens.items ++ t ∷ [] = ap tokens_seen c.in_ok-push.ensures.items ∙ map_push token_seen c.loop-tokens.tokens.items c.in-Some.token in
    let room = reads_room c.loop-tokens.at c.loop-tokens.rest.now t c.in-Some.after.now (next c) c.loop-tokens.invariant.room in
    let behind : c.end-at.result ≡ end_of t.span = c.end-at.ensures ∙ fits (end_of t.span) (omega (arith, room.byte)) (omega (arith, room.column)) in
    record {
      so_far = rw (e, behind) (run_push (tokens_seen c.loop-tokens.tokens.items) start c.args.text.now c.loop-tokens.at c.loop-tokens.rest.now t c.in-Some.after.now c.loop-tokens.invariant.so_far (next c));
      room = rw behind room;
    }
