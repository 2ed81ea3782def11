-- The row that the steps of a class give solves them, and a row that solves them is what they give.
use Rattle.std.proofs.Common.{◌≡◌, ℕ, suc, ◌<◌, ◌≤◌, ◌⊎◌, ◌||◌, ◌++◌, nat_eq, Bool, true, false, List, [], ◌∷◌, length, Some, None, IsTrue, slice_get, true≢false, refl, sym, ap, ap₂, ◌∙◌, subst, ⊎_elim}
use Rattle.std.specs.Prelude.{slice_set}
use Rattle.std.specs.Option.{option_and_then}
use Rattle.std.proofs.lemmas.Bool.{eqb-true, eq-eqb, cases_lt, or_left, or_right}
use Rattle.std.proofs.lemmas.List.{length-set, get_or-set_same, get_or-set_other}
use Rattle.std.proofs.lemmas.Option.{option_and_then_some}
use Rattle.lus_values.specs.Lists.{item, Each}
use Rattle.lus_values.specs.Operators.{apply}
use Rattle.lus_values.specs.Values.{Value, Row}
use Rattle.lus_values.specs.Entries.{is_constructor, with_operand, with_operands, chosen}
use Rattle.lus_streams.specs.Order.{clock_variables}
use Rattle.lus_streams.proofs.Lists.{each_left, each_right, each_implies, item_past, ext_item}
use Rattle.lus_classes.specs.Classes.{Code, fixed, fetch, compute, recall, choose, select, answer, Codes, no_code, also_code, Step, Class, clock_in, reads, reads_all, call_reads}
use Rattle.lus_classes.specs.Steps.{answered, Ask, silent, run, runs, selected, guarded, entry_of, run_steps}
use Rattle.lus_classes.specs.ClassesOf.{InTurn, IsTarget}
use Rattle.lus_classes.proofs.Rows.{Agree, is_on_row_same}

-- what a call answers depends on what it reads
abbrev pub AsksAgree : Class → List Ask → Type 0
AsksAgree c asks = (n : ℕ) (r t : Row) → Each (Agree r t) (call_reads (slice_get c.calls n)) → item silent asks n r ≡ item silent asks n t

module _ (c : Class) (cells : List Value) (flags : List Bool) (asks : List Ask) (agree : AsksAgree c asks) where
  -- and so what a code gives
  mutual
    run_same : (d : Code) (r t : Row) → Each (Agree r t) (reads c d) → run cells flags asks d r ≡ run cells flags asks d t
    run_same (fixed v) r t h = refl
    run_same (fetch x) r t h = h.0
    run_same (compute o ds) r t h = ap (with_operands (apply o)) (runs_same ds r t h)
    run_same (recall j) r t h = refl
    run_same (choose j a b) r t h = ap₂ (chosen (slice_get flags j)) (run_same a r t (each_left (Agree r t) (reads c a) (reads c b) h)) (run_same b r t (each_right (Agree r t) (reads c a) (reads c b) h))
    run_same (select x ds) r t h = selected_same ds x 0 r t h.0 h.1
    run_same (answer n m) r t h = ap (answered m) (agree n r t h)

    runs_same : (ds : Codes) (r t : Row) → Each (Agree r t) (reads_all c ds) → runs cells flags asks ds r ≡ runs cells flags asks ds t
    runs_same no_code r t h = refl
    runs_same (also_code d ds) r t h = ap₂ with_operand (run_same d r t (each_left (Agree r t) (reads c d) (reads_all c ds) h)) (runs_same ds r t (each_right (Agree r t) (reads c d) (reads_all c ds) h))

    selected_same : (ds : Codes) (x n : ℕ) (r t : Row) → Agree r t x → Each (Agree r t) (reads_all c ds)
        → selected cells flags asks ds x n r ≡ selected cells flags asks ds x n t
    selected_same no_code x n r t hx h = refl
    selected_same (also_code d ds) x n r t hx h =
        let here = run_same d r t (each_left (Agree r t) (reads c d) (reads_all c ds) h) in
        let rest = selected_same ds x (suc n) r t hx (each_right (Agree r t) (reads c d) (reads_all c ds) h) in
        λ i. elim (is_constructor n (hx i)) [ true ↦ here i | false ↦ rest i ]

  entry_same : (s : Step) (r t : Row) → Each (Agree r t) (clock_variables (clock_in c s.target) ++ reads c s.code)
      → entry_of c cells flags asks s r ≡ entry_of c cells flags asks s t
  entry_same s r t h =
      ap₂ guarded (is_on_row_same (clock_in c s.target) r t (each_left (Agree r t) (clock_variables (clock_in c s.target)) (reads c s.code) h))
      (run_same s.code r t (each_right (Agree r t) (clock_variables (clock_in c s.target)) (reads c s.code) h))

  -- made on a row, a step gives the entry that is there
  abbrev pub Gives : Row → Step → Type 0
  Gives t s = entry_of c cells flags asks s t ≡ Some (item None t s.target)

  not_target : (known : ℕ → Bool) (x y : ℕ) → known x ≡ false → known y ≡ true → (y ≡ x → ⊥)
  not_target known x y e k same = true≢false (sym k ∙ ap known same ∙ e)

  pub keep_length : (ss : List Step) (r t : Row) → run_steps c cells flags asks ss r ≡ Some t → length t ≡ length r
  keep_length [] r t h = ap length (let e : t ≡ r = cc in e)
  keep_length (s ∷ ss) r t h =
      option_and_then_some _ (entry_of c cells flags asks s r) t h
      (λ e given rest. keep_length ss (slice_set r s.target e) t rest ∙ length-set r s.target e)

  -- what is known stays
  pub stays : (ss : List Step) (known : ℕ → Bool) (r t : Row) → InTurn c ss known → run_steps c cells flags asks ss r ≡ Some t → (y : ℕ) → known y ≡ true → Agree t r y
  stays [] known r t turn h y k = ap (λ z. item None z y) (let e : t ≡ r = cc in e)
  stays (s ∷ ss) known r t turn h y k =
      option_and_then_some _ (entry_of c cells flags asks s r) t h
      (λ e given rest.
      stays ss _ (slice_set r s.target e) t turn.3 rest y (or_right (nat_eq y s.target) (known y) k)
      ∙ get_or-set_other r s.target y e None (not_target known s.target y turn.1 k))

  -- the row that the steps give solves them
  pub solves : (ss : List Step) (known : ℕ → Bool) (r t : Row) → InTurn c ss known → length r ≡ length c.clocks → run_steps c cells flags asks ss r ≡ Some t
      → Each (Gives t) ss
  solves [] known r t turn len h = tt
  solves (s ∷ ss) known r t turn len h =
      option_and_then_some _ (entry_of c cells flags asks s r) t h
      (λ e given rest.
      let next = slice_set r s.target e in
      let there : item None t s.target ≡ e =
      stays ss _ next t turn.3 rest s.target (or_left (nat_eq s.target s.target) (known s.target) (eq-eqb s.target s.target refl))
      ∙ get_or-set_same r s.target e None (subst (λ n. s.target < n) (sym len) turn.2) in (
        entry_same s t r (each_implies (λ x. IsTrue (known x)) (Agree t r) (λ x k. stays (s ∷ ss) known r t turn h x k) _ turn.0) ∙ given ∙ ap Some (sym there),
        solves ss _ next t turn.3 (length-set r s.target e ∙ len) rest,
      ))

  -- of a row that solves the steps they give all that is known and each target
  record Found (ss : List Step) (known : ℕ → Bool) (r t : Row) : Type 0 where
    pub row : Row
    pub ran : run_steps c cells flags asks ss r ≡ Some row
    pub first : (x : ℕ) → known x ≡ true → Agree row t x
    pub targets : (x : ℕ) → IsTarget x ss → Agree row t x

  set_agrees : (known : ℕ → Bool) (r t : Row) (y x : ℕ) (b : Bool) → nat_eq x y ≡ b → known y ≡ false → y < length r → ((z : ℕ) → known z ≡ true → Agree r t z)
      → (b || known x) ≡ true → Agree (slice_set r y (item None t y)) t x
  set_agrees known r t y x true e ky lt h k =
      let same = eqb-true x y e in
      subst (λ z. Agree (slice_set r y (item None t y)) t z) (sym same) (get_or-set_same r y (item None t y) None lt)
  set_agrees known r t y x false e ky lt h k = get_or-set_other r y x (item None t y) None (not_target known y x ky k) ∙ h x k

  finds : (ss : List Step) (known : ℕ → Bool) (r t : Row) → InTurn c ss known → length r ≡ length c.clocks → ((x : ℕ) → known x ≡ true → Agree r t x) → Each (Gives t) ss
      → Found ss known r t
  finds [] known r t turn len h g = record { row = r; ran = refl; first = h; targets = λ x k. absurd k }
  finds (s ∷ ss) known r t turn len h g =
      let e = entry_same s r t (each_implies (λ x. IsTrue (known x)) (Agree r t) h _ turn.0) ∙ g.0 in
      let v = item None t s.target in
      let rest = finds ss (λ x. nat_eq x s.target || known x) (slice_set r s.target v) t turn.3 (length-set r s.target v ∙ len)
      (λ x k. set_agrees known r t s.target x (nat_eq x s.target) refl turn.1 (subst (λ n. s.target < n) (sym len) turn.2) h k) g.1 in
      record {
        row = rest.row;
        ran = ap (option_and_then (λ z. run_steps c cells flags asks ss (slice_set r s.target z))) e ∙ rest.ran;
        first = λ x k. rest.first x (or_right (nat_eq x s.target) (known x) k);
        targets = λ x. ⊎_elim
            (λ q. rest.first x (or_left (nat_eq x s.target) (known x) (eq-eqb x s.target q)))
            (λ q. rest.targets x q);
      }

  -- and where each variable is known or a target, that very row
  pub finds_row : (ss : List Step) (known : ℕ → Bool) (r t : Row) → InTurn c ss known → length r ≡ length c.clocks → length t ≡ length c.clocks
      → ((x : ℕ) → known x ≡ true → Agree r t x) → Each (Gives t) ss
      → ((x : ℕ) → x < length c.clocks → (known x ≡ true) ⊎ IsTarget x ss) → run_steps c cells flags asks ss r ≡ Some t
  finds_row ss known r t turn len wide h g every =
      let u = finds ss known r t turn len h g in
      let long : length u.row ≡ length c.clocks = keep_length ss r u.row u.ran ∙ len in
      u.ran ∙ ap Some (ext_item None u.row t (long ∙ sym wide)
      (λ x. ⊎_elim
      (λ lt. ⊎_elim (u.first x) (u.targets x) (every x lt))
      (λ ge. item_past None u.row x (subst (λ n. n ≤ x) (sym long) ge) ∙ sym (item_past None t x (subst (λ n. n ≤ x) (sym wide) ge)))
      (cases_lt x (length c.clocks))))
