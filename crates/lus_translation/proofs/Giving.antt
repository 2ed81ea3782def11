-- One more step, call or clock.
use Rattle.std.proofs.Common.{◌≡◌, ◌∙◌, ℕ, ◌+◌, ◌<◌, List, [], ◌∷◌, ◌++◌, map, length, refl, sym, ap, arith, append_assoc, append-nil, Option}
use Rattle.std.proofs.lemmas.List.{length-append, length-map, map-append}
use Rattle.lus_program.specs.Programs.{Expression, literal, Program}
use Rattle.lus_streams.specs.Clocks.{Clock}
use Rattle.lus_classes.specs.Classes.{Code, Step, Call}
use Rattle.lus_instructions.specs.declared.class.Step.{Step as StoredStep}
use Rattle.lus_instructions.specs.declared.class.Step.TheVariants as steps
use Rattle.lus_instructions.specs.declared.class.Target.{Target}
use Rattle.lus_classes.specs.View.{steps_in, steps_of, taken}
use Rattle.lus_translation.specs.Forms.{call_first, calls_with, code_form, given_steps, kept_cells}
use Rattle.lus_translation.specs.Making.{calls_made}
use Rattle.lus_values.specs.declared.test.Test.{Test}

pub steps_pushed : (ss : List StoredStep) (s : StoredStep) → steps_of (ss ++ s ∷ []) ≡ steps_of ss ++ steps_in s
steps_pushed [] s = append-nil (steps_in s)
steps_pushed (r ∷ ss) s = ap (λ l. steps_in r ++ l) (steps_pushed ss s) ∙ sym (append_assoc (steps_in r) (steps_of ss) (steps_in s))

pub made_pushed : (ss : List StoredStep) (s : StoredStep) → calls_made (ss ++ s ∷ []) ≡ calls_made ss ++ calls_made (s ∷ [])
made_pushed [] s = refl
made_pushed (steps.Give x d ∷ ss) s = made_pushed ss s
made_pushed (steps.Call n ts ∷ ss) s = ap (λ l. n ∷ l) (made_pushed ss s)

-- a call is made where there is a target
pub call_with : (made : List ℕ) (n : ℕ) (ts : List Target) → 0 < length ts → calls_with made n (map (taken n) ts) ≡ made ++ n ∷ []
call_with made n [] some = absurd (omega arith)
call_with made n (t ∷ ts) some = refl

pub first_before : (p : Program) (e : Expression) (k : Clock) (qs : List Call) → call_first p e k qs ≡ call_first p e k [] ++ qs
first_before p (literal v) k qs = refl
first_before p e k qs = refl

-- what was kept for the first, before what is kept for the rest
pub kept_next : {X Y : Type 0} (f : X → Y) (before now whole : List Y) (here rest : List X) → now ≡ before ++ map f here → before ++ map f (here ++ rest) ≡ whole → now ++ map f rest ≡ whole
kept_next f before now whole here rest is all =
    ap (λ l. l ++ map f rest) is ∙ append_assoc before (map f here) (map f rest) ∙ ap (λ l. before ++ l) (sym (map-append f here rest)) ∙ all

pub kept_long : {X Y : Type 0} (f : X → Y) (before now : List Y) (here : List X) → now ≡ before ++ map f here → length now ≡ length before + length here
kept_long f before now here is = ap length is ∙ length-append before (map f here) ∙ ap (λ j. length before + j) (length-map here f)

-- one variable more has been given the code of e
pub given_next : (ss whole : List Step) (d : Code) (m m' : ℕ) (fs : List (Option Test)) (e : Expression) (k : Clock) (x : ℕ) (xs : List ℕ) → d ≡ code_form m fs e k → m' ≡ m + length (kept_cells e k)
    → ss ++ given_steps m fs e k (x ∷ xs) ≡ whole → (ss ++ record { target = x; code = d } ∷ []) ++ given_steps m' fs e k xs ≡ whole
given_next ss whole d m m' fs e k x xs is cells h =
    append_assoc ss (record { target = x; code = d } ∷ []) (given_steps m' fs e k xs)
    ∙ (λ j. ss ++ (let one : Step = record { target = x; code = is j } in one) ∷ given_steps (cells j) fs e k xs)
    ∙ h
