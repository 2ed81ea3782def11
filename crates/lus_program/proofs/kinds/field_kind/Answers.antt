use Rattle.std.proofs.Common.{arith}
use Rattle.lus_program.proofs.Fields.{field_found}
use Rattle.lus_program.proofs.kinds.field_kind.Goals as goal

pub returns-in-Some : goal.returns-in-Some
returns-in-Some c =
    let fs = c.fields_at.result.now in
    let n = c.args.place in
    let field = c.in-Some.field.now in
    let found = field_found fs _ n field c.fields_at.ensures (omega (arith, c.in-Some.ensures.lookup.3.0)) c.in-Some.ensures.lookup.1 in
    rw c.in-Struct.is found
