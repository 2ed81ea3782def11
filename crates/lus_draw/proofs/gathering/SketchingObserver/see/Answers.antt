-- The entry's columns are drawn behind those before it.
use Rattle.std.proofs.Common.{◌∙◌, ◌++◌, [], flat_map, map, string_bytes, sym, ⊎_elim}
use Rattle.std.proofs.lemmas.Result.{IfOk-weaker}
use Rattle.lus_program.specs.View.{program_seen}
use Rattle.lus_diagrams.specs.ColumnView.{column_seen}
use Rattle.lus_traces.specs.Tables.{column_text}
use Rattle.lus_traces.specs.Traces.{name_of}
use Rattle.lus_cli.specs.CodeSpecs.Codes.{program_of}
use Rattle.lus_draw.specs.declared.words.Format.TheVariants as formats
use Rattle.lus_draw.proofs.Drawn.{as_is, drawn_on, if_ok}
use Rattle.lus_draw.proofs.gathering.SketchingObserver.see.Goals as goal

pub returns-in-Csv : goal.returns-in-Csv
returns-in-Csv g c =
    let d = g.K.Selects.wanted in
    let p = program_of c.args.program.now in
    let node = c.args._node.0 in
    let o = c.args.self.now in
    let table = string_bytes o.table in
    IfOk-weaker c.push_columns.result _ _ (λ done pushed h is.
    drawn_on d p node h _ o.sketch c.see.new.self c.see.ensures.same.signals (string_bytes o.heading.instance) (program_seen c.source.result.now)
    table (string_bytes c.push_columns.new.out) (map column_seen c.in_ok-columns.columns.items) c.source.ensures.same
    (λ columns. c.in_ok-columns.ensures.sketched d.selection node h columns)
    (as_is d.format formats.Csv _ (sym o.format_is ∙ c.in-Csv.is) (pushed ∙ (λ x. table ++ flat_map
    (column_text (c.names-names.ensures x) (record { instance = c.as_str-instance.ensures.value x; names = map name_of (c.deref.ensures.value x); columns = [] }))
    (map column_seen (c.deref-in-Csv.ensures.value x))))) is)
    c.push_columns.ensures

pub returns-in-Vcd : goal.returns-in-Vcd
returns-in-Vcd g c =
    let d = g.K.Selects.wanted in
    let p = program_of c.args.program.now in
    let node = c.args._node.0 in
    let o = c.args.self.now in
    let table = string_bytes o.table in
    if_ok c.push_times.result _ (λ done h is.
    drawn_on d p node h _ o.sketch c.see.new.self c.see.ensures.same.signals (string_bytes o.heading.instance) (program_seen c.source.result.now)
    table table (map column_seen c.in_ok-columns.columns.items) c.source.ensures.same
    (λ columns. c.in_ok-columns.ensures.sketched d.selection node h columns)
    (as_is d.format formats.Vcd _ (sym o.format_is ∙ c.in-Vcd.is) tt) is)

pub returns-in-Html : goal.returns-in-Html
returns-in-Html g c =
    let d = g.K.Selects.wanted in
    let p = program_of c.args.program.now in
    let node = c.args._node.0 in
    let o = c.args.self.now in
    let table = string_bytes o.table in
    if_ok c.push_all.result _ (λ done h is.
    drawn_on d p node h _ o.sketch c.see.new.self c.see.ensures.same.signals (string_bytes o.heading.instance) (program_seen c.source.result.now)
    table table (map column_seen c.in_ok-columns.columns.items) c.source.ensures.same
    (λ columns. c.in_ok-columns.ensures.sketched d.selection node h columns)
    (as_is d.format formats.Html _ (sym o.format_is ∙ c.in-Html.is) tt) is)

pub returns-in_ok-push_all-in-Text : goal.returns-in_ok-push_all-in-Text
returns-in_ok-push_all-in-Text g c =
    let d = g.K.Selects.wanted in
    let p = program_of c.args.program.now in
    let node = c.args._node.0 in
    let o = c.args.self.now in
    let table = string_bytes o.table in
    if_ok c.push_refusal.result _ (λ done h is.
    drawn_on d p node h _ o.sketch c.see.new.self c.see.ensures.same.signals (string_bytes o.heading.instance) (program_seen c.source.result.now)
    table table (map column_seen c.in_ok-columns.columns.items) c.source.ensures.same
    (λ columns. c.in_ok-columns.ensures.sketched d.selection node h columns)
    (⊎_elim (λ is_text. as_is d.format formats.Text _ (sym o.format_is ∙ is_text) tt) (λ is_waves. as_is d.format formats.Waves _ (sym o.format_is ∙ is_waves) tt)
    c.in-Text.is) is)
