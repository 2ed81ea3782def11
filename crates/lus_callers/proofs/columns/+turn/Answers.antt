use Rattle.std.proofs.Common.{◌≡◌, ◌<◌, ◌+◌, ◌-◌, ◌++◌, ◌∷◌, [], ℕ, List, Vec, Global, length, map, ap, sym, ◌∙◌, arith, get_or}
use Rattle.std.proofs.lemmas.List.{get_or-map, map-append, length-map}
use Rattle.lus_callers.specs.Columns.{row_at}
use Rattle.lus_callers.proofs.Turning.{turned_more, shorter}
use Rattle.lus_callers.proofs.columns.+turn.Goals as goal

all_long : {T : Type 0} (rows : List (Vec T Global)) (w : ℕ) → ((k : ℕ) (d : Vec T Global) → k < length rows → length (get_or rows k d).items ≡ w) → (i : ℕ) → i < length (map (λ (r : Vec T Global). r.items) rows) → length (row_at (map (λ (r : Vec T Global). r.items) rows) i) ≡ w
all_long [] w long i l = absurd (omega (arith, l))
all_long {T} (r ∷ rs) w long i l =
    let inside : i < length (r ∷ rs) = omega (arith, l, length-map (r ∷ rs) (λ (x : Vec T Global). x.items)) in
    ap length (get_or-map (λ (x : Vec T Global). x.items) (r ∷ rs) i r [] inside) ∙ long i r inside

pub turn-requires : goal.turn-requires
turn-requires g t c κs within =
    let items : Vec g.row.T.Denot Global → List g.row.T.Denot = λ r. r.items in
    let w = c.args.width - 1 in
    let rest = c.cut.new.rows.items in
    let cut = c.in_ok-last.ensures in
    let long = all_long c.args.rows.items (w + 1) (λ k d l. c.requires k d l ∙ omega (arith, c.if-width-eq0.false)) in (
      omega (arith, c.if-width-eq0.false, c.decreases),
      (within, λ k d l. sym (ap length (get_or-map items rest k d [] l)) ∙ shorter w (map items c.args.rows.items) (map items rest) c.in_ok-last.last.items cut long k (omega (arith, l, cut.count, length-map rest items))),
    )

pub returns : goal.returns
returns g t c =
    let items : Vec g.row.T.Denot Global → List g.row.T.Denot = λ r. r.items in
    let w = c.args.width - 1 in
    let long = all_long c.args.rows.items (w + 1) (λ k d l. c.requires k d l ∙ omega (arith, c.if-width-eq0.false)) in
    let same : c.args.width ≡ w + 1 = omega (arith, c.if-width-eq0.false) in
    let new : map items c.push.new.self.items ≡ map items c.in_ok-columns.columns.items ++ c.in_ok-last.last.items ∷ [] = ap (map items) c.in_ok-push.ensures.items ∙ map-append items c.in_ok-columns.columns.items (c.in_ok-last.last ∷ []) in
    rw (same, new) (turned_more w (map items c.args.rows.items) (map items c.cut.new.rows.items) (map items c.in_ok-columns.columns.items) c.in_ok-last.last.items long c.in_ok-last.ensures c.in_ok-columns.ensures)
