-- What the steps of one seat tell it.
use Rattle.std.proofs.Common.{◌≡◌, ℕ, ◌+◌, ◌*◌, ◌≤◌, List, [], ◌∷◌, ◌++◌, length, refl, ap, sym, subst, ◌∙◌, arith, length-append}
use mathlib.Core.Option.{none}
use Rattle.atomic_table.specs.Table.{Me, step, rest, Allows}
use Rattle.lus_requests.specs.declared.request.Entry.{Entry}
use Rattle.lus_machine.specs.Machines.{Told, IsLegal, full}
use Rattle.lus_shared.specs.Knowledge.{Origin, IsLegalHistory, machine_at, Facts, Sight}
use Rattle.lus_shared.specs.Plays.{Shown, looking, looked, gave}
use Rattle.lus_shared.specs.Rule.{Sound}
use Rattle.lus_shared.proofs.Keeps.{gives_it}
use Rattle.std.proofs.lemmas.List.{append-nil}
use Rattle.lus_shared.specs.Told.{seat_at, taker_at, with_seen, Knows, Looked, CanGive}

abbrev pub Sat : Type 0
Sat = Me Told Sight

knows_shown : (o : Origin) (h : List Entry) (n : ℕ) (f : Facts) (m : Sat) → m ≡ seat_at f → Shown o h n m.0 → Knows f h
knows_shown o h n f m is shown =
    let at : Shown o h n (seat_at f).0 = subst (λ (x : Sat). Shown o h n x.0) is shown in
    let fits = at.each.0 in record {
      legal = subst (λ (x : Origin). IsLegalHistory x h) (sym fits.same) at.legal;
      short = at.short;
      begins = fits.seen;
      own = fits.mine;
    }

pub looked_told : (f : Facts) (m : Sat) (n : ℕ) (m' : Sat) → m ≡ seat_at f → looked (step 0 0 0 0 none) m n m' → Looked f m' n
looked_told f m n m' is t = record {
  history = t.1;
  knows = knows_shown t.0 t.1 n f m is t.2;
  view = t.3 ∙ ap (λ (x : Sat). let y : Sat = (looking t.1 x.0, x.1) in y) is;
  even = t.2.even;
  odd = t.2.odd;
}

abbrev second_or : Told → List (ℕ × Told) → Told
second_or d [] = d
second_or d (x ∷ xs) = x.1

-- the slot that the seat took
pub slot_of : (m : Sat) (f : Facts) (x : Told) → m ≡ taker_at f x → m.1 ≡ (0, x) ∷ rest m.1
slot_of m f x is = ap (λ (y : Sat). y.1) is ∙ ap (λ (y : Sat). (0, x) ∷ rest y.1) (sym is)

pub machine_of : (m : Sat) (f : Facts) (x y : Told) → m ≡ taker_at f x → m.1 ≡ (0, y) ∷ rest m.1 → y ≡ x
machine_of m f x y is e = sym (ap (λ (l : List (ℕ × Told)). second_or y l) e) ∙ ap (λ (z : Sat). second_or y z.1) is

pub slot_after : (m m' : Sat) (f : Facts) (x y : Told) → m ≡ taker_at f x → m' ≡ (m.0, (0, y) ∷ rest m.1) → m' ≡ taker_at f y
slot_after m m' f x y is e = e ∙ ap (λ (z : Sat). let w : Sat = (z.0, (0, y) ∷ rest z.1) in w) is

-- the machine with one more entry of the taker's number may be given back
pub can_add : (f : Facts) (h : List Entry) (e : Entry) (found : ℕ) (m : Told) (g : Facts) → g ≡ with_seen h f → m ≡ machine_at f.origin (h ++ e ∷ []) → e.caller ≡ f.number
    → IsLegal m → found ≡ 2 * length h → CanGive g m (found + 2)
can_add f h e found m g is same by legal count =
    let at = subst IsLegal same legal in
    subst (λ (x : Facts). CanGive x m (found + 2)) (sym is) record { rest = e ∷ []; same = same; by = (by, tt); legal = at; short = at.few; even = omega (arith, length-append h (e ∷ [])) }

-- so may the machine as it was found
pub can_restore : (f : Facts) (h : List Entry) (found : ℕ) (m : Told) → m ≡ machine_at f.origin h → Knows f h → found ≡ 2 * length h → CanGive (with_seen h f) m found
can_restore f h found m same knows count =
    let nil = append-nil h in record {
      rest = [];
      same = same ∙ ap (machine_at f.origin) (sym nil);
      by = tt;
      legal = subst (IsLegalHistory f.origin) (sym nil) knows.legal;
      short = subst (λ (l : List Entry). length l ≤ full) (sym nil) knows.short;
      even = count ∙ ap (λ (l : List Entry). 2 * length l) (sym nil);
    }

pub gives_can : (o : Origin) (slots id : ℕ) (me : Sat) (f : Facts) (m : Told) (word : ℕ) → me ≡ taker_at f m → CanGive f m word → Allows (Sound o) slots id me 0 (λ _. word) (λ _. gave (step slots 0 word 0 none) me word)
gives_can o slots id me f m word is can = gives_it o slots id me f can.rest (f.seen ++ can.rest) word (is ∙ ap (taker_at f) can.same) refl can.by can.legal can.short can.even
