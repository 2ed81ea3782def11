-- What is drawn of the bytes that were read is drawn of the file's.
use Rattle.std.proofs.Common.{◌<◌, subst, length, arith, string_bytes}
use Rattle.std.proofs.lemmas.Result.{IfErr-weaker, IfOk-weaker}
use Rattle.lus_cli.specs.Ends.{ReadFails}
use Rattle.lus_draw.specs.Drawings.{IsLinePage, IsPageFault}
use Rattle.lus_draw.proofs.Files.{of_file, page_fails}
use Rattle.lus_draw.proofs.shell.draw_lines.Goals as goal

pub returns : goal.returns
returns g c =
    let journal = g.D.Folder.known c.args.folder.now c.args.journal.now in
    let read = c.in_ok-bytes.bytes in
    let small : read.cap < 9223372036854775808 = read.small in
    let short : length read.items < 18446744073709551615 = omega (arith, read.ok.0, read.ok.1, small) in
    record {
      drawn = IfOk-weaker c.line_page.result _ _ (λ s drawn.
          of_file journal 18446744073709551615 read.items short c.in_ok-bytes.ensures.bytes (λ bs. IsLinePage bs (string_bytes s))
          (subst (λ bs. IsLinePage bs (string_bytes s)) c.deref.ensures.value drawn)) c.line_page.ensures.drawn;
      fault = IfErr-weaker c.line_page.result _ _ (λ f cause.
          page_fails (ReadFails g.row.D-File.Denot g.D.File.Source.left g.D.File.Source.failures) journal 18446744073709551615 read.items short
          c.in_ok-bytes.ensures.bytes f (subst (λ bs. IsPageFault bs f) c.deref.ensures.value cause)) c.line_page.ensures.fault;
    }
