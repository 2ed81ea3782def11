-- Lists that are read are spelled so, and the other way round.
use Rattle.std.proofs.Common.{◌≡◌, ℕ, zero, suc, ◌<◌, Bool, true, false, cond, length, List, [], ◌∷◌, ◌++◌, Option, Some, None, Result, Ok, Err, refl, sym, ap, subst, ◌∙◌, append_assoc, length-append, arith}
use Rattle.std.proofs.lemmas.List.{append-nil}
use Rattle.lus_syntax.specs.Lexemes.{Lexeme}
use Rattle.lus_spelling.specs.Reading.{Fault, Deep, ◌>>=◌}
use Rattle.lus_spelling.specs.ReadingDeclarations.{Reads, repeat_on, repeat_at, push_at, others_at, several_at}
use Rattle.lus_spelling.specs.Lists.{Repeated, none, again, Listed, listed}
use Rattle.lus_spelling.proofs.Sound.{bind_ok, bind_cond}
pub use Rattle.lus_spelling.proofs.Sound.{same_result}

pub bind_bind : {A B C : Type 0} (r : Result A Fault) (f : A → Result B Fault) (g : B → Result C Fault) → ((r >>= f) >>= g) ≡ (r >>= λ x. f x >>= g)
bind_bind (Ok x) f g = refl
bind_bind (Err e) f g = refl

-- what is read is spelled so, and stands before the rest
pub record Spelled {A : Type 0} (Item : A → List Lexeme → Type 0) (ts : List Lexeme) (x : A × List Lexeme) : Type 0 where
  pub text : List Lexeme
  pub cut : ts ≡ text ++ x.1
  pub spells : Item x.0 text

pub shorter : {A : Type 0} (Item : A → List Lexeme → Type 0) (ts : List Lexeme) (x : A × List Lexeme) → ((a : A) (xs : List Lexeme) → Item a xs → 0 < length xs) → Spelled Item ts x → length x.1 < length ts
shorter Item ts x long h = let l = long x.0 h.text h.spells in let c = ap length h.cut in let d = length-append h.text x.1 in omega (arith, l, c, d)

-- none is too deep
abbrev pub every : {A : Type 0} → (A → Bool) → List A → Bool
every fits [] = true
every fits (a ∷ bs) = cond (fits a) (every fits bs) false

pub every_true : {A : Type 0} (bs : List A) → every (λ a. true) bs ≡ true
every_true [] = refl
every_true (a ∷ bs) = every_true bs

module _ {A : Type 0} (Separator : List Lexeme → Type 0) (Item : A → List Lexeme → Type 0) (turn : List Lexeme → Option (List Lexeme)) (item : List Lexeme → Reads A) where
  -- ---- what is read is spelled so

  pub record Added (us : List A) (ts : List Lexeme) (x : List A × List Lexeme) : Type 0 where
    pub items : List A
    pub text : List Lexeme
    pub cut : ts ≡ text ++ x.1
    pub behind : x.0 ≡ us ++ items
    pub spells : Repeated Separator Item items text

  pub record AddedSome (us : List A) (ts : List Lexeme) (x : List A × List Lexeme) : Type 0 where
    pub items : List A
    pub text : List Lexeme
    pub cut : ts ≡ text ++ x.1
    pub behind : x.0 ≡ us ++ items
    pub spells : Listed Separator Item items text

  pub record Turned (ts r : List Lexeme) : Type 0 where
    pub text : List Lexeme
    pub cut : ts ≡ text ++ r
    pub spells : Separator text

  module _ (turned : (ts r : List Lexeme) → turn ts ≡ Some r → Turned ts r) (sound : (ts : List Lexeme) (x : A × List Lexeme) → item ts ≡ Ok x → Spelled Item ts x) where
    go_on : (others : List A → List Lexeme → Reads (List A)) → ((us : List A) (ts : List Lexeme) (x : List A × List Lexeme) → others us ts ≡ Ok x → Added us ts x)
        → (us : List A) (ts : List Lexeme) (x : List A × List Lexeme) (o : Option (List Lexeme)) → turn ts ≡ o → repeat_on turn (push_at turn item) others us ts o ≡ Ok x → Added us ts x
    go_on others later us ts x None at h = subst (Added us ts) (same_result (us, ts) x h) (record { items = []; text = []; cut = refl; behind = sym (append-nil us); spells = none })
    go_on others later us ts x (Some r) at h =
        let b = bind_ok _ _ _ (sym (bind_bind (item r) (λ a. Ok (us ++ a.0 ∷ [], a.1)) (λ y. others y.0 y.1)) ∙ h) in
        let s = turned ts r at in
        let one = sound r b.0 b.1 in
        let m = later (us ++ b.0.0 ∷ []) b.0.1 x b.2 in
        record {
          items = b.0.0 ∷ m.items;
          text = s.text ++ (one.text ++ m.text);
          cut = s.cut ∙ ap (λ (q : List Lexeme). s.text ++ q) (one.cut ∙ ap (λ (q : List Lexeme). one.text ++ q) m.cut ∙ sym (append_assoc one.text m.text x.1)) ∙ sym (append_assoc s.text (one.text ++ m.text) x.1);
          behind = m.behind ∙ append_assoc us (b.0.0 ∷ []) m.items;
          spells = again s.spells one.spells m.spells;
        }

    pub repeat_sound : (k : ℕ) (us : List A) (ts : List Lexeme) (x : List A × List Lexeme) → repeat_at turn (push_at turn item) k us ts ≡ Ok x → Added us ts x
    unfolding repeat_at
    repeat_sound zero us ts x e = absurd cc
    repeat_sound (suc k) us ts x e = go_on (repeat_at turn (push_at turn item) k) (repeat_sound k) us ts x (turn ts) refl e

    pub several_sound : (us : List A) (ts : List Lexeme) (x : List A × List Lexeme) → several_at turn item us ts ≡ Ok x → AddedSome us ts x
    unfolding several_at
    several_sound us ts x e =
        let b = bind_ok _ _ _ (sym (bind_bind (item ts) (λ a. Ok (us ++ a.0 ∷ [], a.1)) (λ y. others_at turn item y.0 y.1)) ∙ e) in
        let one = sound ts b.0 b.1 in
        let m = repeat_sound (suc (length b.0.1)) (us ++ b.0.0 ∷ []) b.0.1 x b.2 in
        record {
          items = b.0.0 ∷ m.items;
          text = one.text ++ m.text;
          cut = one.cut ∙ ap (λ (q : List Lexeme). one.text ++ q) m.cut ∙ sym (append_assoc one.text m.text x.1);
          behind = m.behind ∙ append_assoc us (b.0.0 ∷ []) m.items;
          spells = listed one.spells m.spells;
        }

    pub list_sound : (ts : List Lexeme) (x : List A × List Lexeme) → several_at turn item [] ts ≡ Ok x → Spelled (Listed Separator Item) ts x
    list_sound ts x e =
        let m = several_sound [] ts x e in
        record { text = m.text; cut = m.cut; spells = subst (λ (q : List A). Listed Separator Item q m.text) (sym m.behind) m.spells }

  -- ---- what is spelled so is read

  module _ (fits : A → Bool) (Follows : List Lexeme → Type 0)
      (complete : (a : A) (xs : List Lexeme) → Item a xs → (rest : List Lexeme) → Follows rest → item (xs ++ rest) ≡ cond (fits a) (Ok (a, rest)) (Err Deep))
      (turns : (ss : List Lexeme) (a : A) (xs : List Lexeme) → Separator ss → Item a xs → (rest : List Lexeme) → turn (ss ++ (xs ++ rest)) ≡ Some (xs ++ rest))
      (follows : (ss : List Lexeme) (a : A) (xs : List Lexeme) → Separator ss → Item a xs → (rest : List Lexeme) → Follows (ss ++ (xs ++ rest)))
      (long : (a : A) (xs : List Lexeme) → Item a xs → 0 < length xs) where
    regroup : (ss xs ys rest : List Lexeme) → (ss ++ (xs ++ ys)) ++ rest ≡ ss ++ (xs ++ (ys ++ rest))
    regroup ss xs ys rest = append_assoc ss (xs ++ ys) rest ∙ ap (λ (q : List Lexeme). ss ++ q) (append_assoc xs ys rest)

    pub repeated_follows : {bs : List A} {text : List Lexeme} → Repeated Separator Item bs text → (rest : List Lexeme) → Follows rest → Follows (text ++ rest)
    repeated_follows none rest f = f
    repeated_follows (again {a} {bs} {ss} {xs} {ys} s i d) rest f = subst Follows (sym (regroup ss xs ys rest)) (follows ss a xs s i (ys ++ rest))

    nested : {B : Type 0} (b c : Bool) (r : Result B Fault) → cond b (cond c r (Err Deep)) (Err Deep) ≡ cond (cond b c false) r (Err Deep)
    nested true c r = refl
    nested false c r = refl

    one_more : {B : Type 0} (us : List A) (a : A) (xs rest : List Lexeme) → Item a xs → Follows rest → (f : List A × List Lexeme → Result B Fault) → (push_at turn item us (xs ++ rest) >>= f) ≡ cond (fits a) (f (us ++ a ∷ [], rest)) (Err Deep)
    one_more us a xs rest i f g =
        bind_bind (item (xs ++ rest)) (λ y. Ok (us ++ y.0 ∷ [], y.1)) g
        ∙ ap (λ (r : Reads A). r >>= λ y. g (us ++ y.0 ∷ [], y.1)) (complete a xs i rest f)
        ∙ bind_cond (fits a) (a, rest) (λ y. g (us ++ y.0 ∷ [], y.1))

    pub repeat_complete : {bs : List A} {text : List Lexeme} → Repeated Separator Item bs text → (k : ℕ) (us : List A) (rest : List Lexeme) → length (text ++ rest) < k → Follows rest → turn rest ≡ None
        → repeat_at turn (push_at turn item) k us (text ++ rest) ≡ cond (every fits bs) (Ok (us ++ bs, rest)) (Err Deep)
    unfolding repeat_at
    repeat_complete none zero us rest lt f stop = absurd (omega (arith, lt))
    repeat_complete none (suc k) us rest lt f stop =
        ap (repeat_on turn (push_at turn item) (repeat_at turn (push_at turn item) k) us rest) stop ∙ ap (λ (q : List A). Ok (q, rest)) (sym (append-nil us))
    repeat_complete (again {a} {bs} {ss} {xs} {ys} s i d) zero us rest lt f stop = absurd (omega (arith, lt))
    repeat_complete (again {a} {bs} {ss} {xs} {ys} s i d) (suc k) us rest lt f stop =
        let others = repeat_at turn (push_at turn item) k in
        let all = regroup ss xs ys rest in
        let l = long a xs i in
        let n = ap length all in
        let n1 = length-append ss (xs ++ (ys ++ rest)) in
        let n2 = length-append xs (ys ++ rest) in
        ap (repeat_at turn (push_at turn item) (suc k) us) all
        ∙ ap (repeat_on turn (push_at turn item) others us (ss ++ (xs ++ (ys ++ rest)))) (turns ss a xs s i (ys ++ rest))
        ∙ one_more us a xs (ys ++ rest) i (repeated_follows d rest f) (λ y. others y.0 y.1)
        ∙ ap (λ (r : Reads (List A)). cond (fits a) r (Err Deep)) (repeat_complete d k (us ++ a ∷ []) rest (omega (arith, lt, l, n, n1, n2)) f stop)
        ∙ nested (fits a) (every fits bs) (Ok ((us ++ a ∷ []) ++ bs, rest))
        ∙ ap (λ (q : List A). cond (every fits (a ∷ bs)) (Ok (q, rest)) (Err Deep)) (append_assoc us (a ∷ []) bs)

    pub several_complete : {bs : List A} {text : List Lexeme} → Listed Separator Item bs text → (us : List A) (rest : List Lexeme) → Follows rest → turn rest ≡ None
        → several_at turn item us (text ++ rest) ≡ cond (every fits bs) (Ok (us ++ bs, rest)) (Err Deep)
    unfolding several_at
    several_complete (listed {a} {bs} {xs} {ys} i d) us rest f stop =
        ap (λ (q : List Lexeme). push_at turn item us q >>= λ y. others_at turn item y.0 y.1) (append_assoc xs ys rest)
        ∙ one_more us a xs (ys ++ rest) i (repeated_follows d rest f) (λ y. others_at turn item y.0 y.1)
        ∙ ap (λ (r : Reads (List A)). cond (fits a) r (Err Deep)) (repeat_complete d (suc (length (ys ++ rest))) (us ++ a ∷ []) rest (omega arith) f stop)
        ∙ nested (fits a) (every fits bs) (Ok ((us ++ a ∷ []) ++ bs, rest))
        ∙ ap (λ (q : List A). cond (every fits (a ∷ bs)) (Ok (q, rest)) (Err Deep)) (append_assoc us (a ∷ []) bs)
