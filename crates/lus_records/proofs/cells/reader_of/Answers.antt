-- The reader is as the builder was set.
use Rattle.std.proofs.Common.{◌∙◌, inr}
use Rattle.lus_records.proofs.cells.reader_of.Goals as goal

pub returns : goal.returns
returns c =
    let e = c.flexible.ensures in
    let h = c.has_headers.ensures in
    let from = c.from_reader.ensures in
    record {
      config = rw (e, h) at from.config ∙ c.new.ensures.config;
      trim = rw (e, h) at from.trim ∙ c.new.ensures.trim;
      ready = inr (inr (rw (e, h) at from.has_headers, from.headers));
      state = from.state;
      source = from.source;
    }
