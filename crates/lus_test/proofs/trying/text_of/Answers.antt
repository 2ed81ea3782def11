-- The bytes that were read are all of the file's, since they are no more than a table may have.
use Rattle.std.proofs.Common.{◌≤◌, arith, length}
use Rattle.lus_test.proofs.Ends.{text_file}
use Rattle.lus_test.proofs.trying.text_of.Goals as goal

pub returns : goal.returns
returns g c =
    let few : length c.in_ok-text.text.items ≤ 16777216 = omega arith in
    text_file 16777216 c.in_ok-text.text.items (g.D.Folder.known c.args.folder.now c.args.file.now) c.in_ok-text.ensures.bytes few
