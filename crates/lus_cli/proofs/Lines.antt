-- What a line asks for, by whether it has a fault.
use Rattle.std.proofs.Common.{◌≡◌, ◌≢◌, refl, sym, ap, subst, ◌∙◌, Option, Some, None, Result, Ok, Err, IfOk, List, [], ◌∷◌, length, ◌==◌, option_map, if◌then◌else◌, rules}
use Rattle.std.specs.Option.{ok_or}
use Rattle.clap.specs.Words.{App, Kinds, Row, fault_of, matches_of}
use Rattle.lus_cli.specs.CommandLine.{Text, asked_of}
use Rattle.lus_cli.specs.declared.words.WordsError.{WordsError}

-- a line with a fault is no task
pub faulty_asks : {X : Type 0} (app a : App) (said : List Row → Option X) (ws : List Text) → a ≡ app → fault_of a ws ≢ [] → asked_of app said ws ≡ None
unfolding asked_of
faulty_asks {X} app a said ws is some = go (fault_of app ws) (subst (λ b. fault_of b ws ≢ []) is some)
  where
    go : (ks : Kinds) → ks ≢ [] → ◌≡◌ {A = Option X} (if length ks == 0 then said (matches_of app ws) else None) None
    go [] none = absurd (none refl)
    go (k ∷ ks) more = search rules

-- a line without a fault asks for what its words say
pub faultless_asks : {X : Type 0} (app a : App) (said : List Row → Option X) (ws : List Text) (rows : List Row) → a ≡ app → fault_of a ws ≡ [] → rows ≡ matches_of a ws → asked_of app said ws ≡ said rows
unfolding asked_of
faultless_asks app a said ws rows is none same =
    rw (subst (λ b. fault_of b ws ≡ []) is none) (ap said (sym (same ∙ ap (λ b. matches_of b ws) is)))

-- the two answers, by what was chosen
pub ok_part : {X Y : Type 0} (show : X → Y) (e : WordsError) (o : Option X) (r : Result X WordsError) (a : Option Y) → r ≡ ok_or o e → a ≡ option_map show o → IfOk r (λ x. a ≡ Some (show x))
ok_part show e None r a is asks = rw is tt
ok_part show e (Some x) r a is asks = rw is asks

pub err_part : {X Y : Type 0} (show : X → Y) (e : WordsError) (o : Option X) (r : Result X WordsError) (a : Option Y) → r ≡ ok_or o e → a ≡ option_map show o → r ≡ Err e → a ≡ None
err_part show e None r a is asks refused = asks
err_part show e (Some x) r a is asks refused = let no : Ok x ≡ Err e = sym is ∙ refused in cc
