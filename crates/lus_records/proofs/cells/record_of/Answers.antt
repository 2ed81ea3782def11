-- The cells are those of the one record that two reads found.
use Rattle.std.proofs.Common.{rules, ◌≡◌, ◌∙◌, Bor, List, ℕ, [], ap, inl, sym, Some, true, false}
use Rattle.csv.specs.Reading.{source_of, strip_bom}
use Rattle.lus_play.specs.Plays.{ended}
use Rattle.lus_records.specs.Records.{cells_of}
use Rattle.lus_records.proofs.CellLaws.{blank_line, one_record, several_records}
use Rattle.lus_records.proofs.cells.record_of.Goals as goal

pub returns-then-not-is_there : goal.returns-then-not-is_there
returns-then-not-is_there c =
    let rem = λ (s : Bor (List ℕ)). Some s.now in
    let fresh = c.reader_of-reader.ensures in
    let source : source_of rem c.reader_of-reader.result ≡ Some (strip_bom (ended c.args.line.now)) =
    fresh.source ∙ ap (λ t. Some (strip_bom t)) (c.as_slice.ensures.value ∙ c.in_ok-text.ensures) in
    let none : c.in-Ok.is_there ≡ false = search rules in
    let read = rw none at (c.in-Ok.ensures.reads fresh.trim fresh.ready) in
    let blank : cells_of c.args.line.now ≡ Some [] =
    blank_line rem c.reader_of-reader.result c.args.line.now fresh.config fresh.state source c.read_byte_record.new.self _ read in
    cc

pub returns-then-is_more : goal.returns-then-is_more
returns-then-is_more c =
    let rem = λ (s : Bor (List ℕ)). Some s.now in
    let fresh = c.reader_of-reader.ensures in
    let source : source_of rem c.reader_of-reader.result ≡ Some (strip_bom (ended c.args.line.now)) =
    fresh.source ∙ ap (λ t. Some (strip_bom t)) (c.as_slice.ensures.value ∙ c.in_ok-text.ensures) in
    let some : c.in-Ok.is_there ≡ true = search rules in
    let read = rw some at (c.in-Ok.ensures.reads fresh.trim fresh.ready) in
    let more = rw c.if-is_more.true at (c.in-Ok-read_byte_record.ensures.reads (read.3 ∙ fresh.trim) (inl (c.in-Ok.ensures.ready fresh.trim))) in
    sym (several_records rem c.reader_of-reader.result c.args.line.now fresh.config fresh.state source c.read_byte_record.new.self
    c.read_byte_record-2.new.self _ _ read more)

pub returns : goal.returns
returns c =
    let rem = λ (s : Bor (List ℕ)). Some s.now in
    let fresh = c.reader_of-reader.ensures in
    let source : source_of rem c.reader_of-reader.result ≡ Some (strip_bom (ended c.args.line.now)) =
    fresh.source ∙ ap (λ t. Some (strip_bom t)) (c.as_slice.ensures.value ∙ c.in_ok-text.ensures) in
    let some : c.in-Ok.is_there ≡ true = search rules in
    let read = rw some at (c.in-Ok.ensures.reads fresh.trim fresh.ready) in
    let over = rw c.if-is_more.false at (c.in-Ok-read_byte_record.ensures.reads (read.3 ∙ fresh.trim) (inl (c.in-Ok.ensures.ready fresh.trim))) in
    sym (one_record rem c.reader_of-reader.result c.args.line.now fresh.config fresh.state source c.read_byte_record.new.self
    c.read_byte_record-2.new.self _ _ read over)
