-- A variable has an entry only where its clock is present: so a test on it decides whether the clock with that test is.
use Rattle.std.proofs.Common.{◌≡◌, ℕ, ◌<◌, ◌≤◌, nat_lt, Bool, true, false, ◌&&◌, length, Option, Some, None, is_some, refl, sym, ap, ◌∙◌, subst, MatchBool, ⊎_elim, true≢false}
use Rattle.std.proofs.lemmas.Bool.{cases_lt}
use Rattle.lus_values.specs.Values.{Value}
use Rattle.lus_values.specs.Entries.{is_constructor}
use Rattle.lus_program.specs.Programs.{Node, Program, node_at}
use Rattle.lus_streams.specs.Clocks.{clock_of}
use Rattle.lus_streams.specs.Equations.{definition_of}
use Rattle.lus_streams.specs.Streams.{Instant, instant, World, row_of, entry, holds, is_on, where_on, definition_value}
use Rattle.lus_streams.proofs.Lists.{below_at, item_past}
use Rattle.lus_attempts.specs.Attempts.{FollowsFaults, EquationsFollow}
use Rattle.lus_attempts.specs.Laws.{NewestTestDecides}

has_entry : (c : ℕ) (o : Option Value) → is_constructor c o ≡ true → is_some o ≡ true
has_entry c None h = elim (true≢false (sym h)) [ ]
has_entry c (Some v) h = refl

has_clock : (b : Bool) (o d : Option Value) (on : Bool) → MatchBool b (is_some o ≡ true → on ≡ true) (o ≡ where_on on d) → is_some o ≡ true → on ≡ true
has_clock true o d on h s = h s
has_clock false o d true h s = refl
has_clock false o d false h s = elim (true≢false (sym s ∙ ap is_some h)) [ ]

first_decides : (a b : Bool) → (a ≡ true → b ≡ true) → (a && b) ≡ a
first_decides true b h = h refl
first_decides false b h = refl

module _ (p : Program) where
  on_where_held : (f : Node) (now : Instant) (past : World) → EquationsFollow p f now past → (x c : ℕ) → holds x c now ≡ true → is_on (clock_of f x) now ≡ true
  on_where_held f now past h x c held =
      let some = has_entry c (entry now x) held in
      let within = λ (lt : x < length f.variables).
      has_clock (nat_lt x f.inputs) (entry now x) (definition_value p (definition_of f x) now past) (is_on (clock_of f x) now)
      (below_at (FollowsFaults p f now past) (length f.variables) h.variables x lt) some in
      let past_end = λ (ge : length f.variables ≤ x).
      let none : entry now x ≡ None = item_past None (row_of now) x (subst (λ n. n ≤ x) (sym h.width) ge) in
      absurd (true≢false (sym some ∙ ap is_some none)) in
      ⊎_elim within past_end (cases_lt x (length f.variables))

  pub newest_decides : NewestTestDecides p
  newest_decides (instant b row js) f past h t =
      let now = instant b row js in
      first_decides (holds t.variable t.constructor now) (is_on (clock_of (node_at p f) t.variable) now)
      (on_where_held (node_at p f) now past h.0 t.variable t.constructor)
