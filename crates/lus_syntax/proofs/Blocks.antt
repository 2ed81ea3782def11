-- Comments between two marks.
use Rattle.std.proofs.Common.{◌≡◌, ℕ, suc, ◌+◌, ◌<◌, ◌≤◌, Bool, true, false, cond, List, [], ◌∷◌, ◌++◌, length, get_or, take, drop, Option, Some, None, refl, sym, ap, ◌∙◌, arith, append_assoc, length-append}
use Rattle.std.specs.Prelude.{◌&&◌, ◌==◌, not, option_map}
use Rattle.std.specs.List.{prefix_len}
use Rattle.std.proofs.lemmas.Bool.{and_parts, and_from, false≢true, both_ways, eqb-true, eq-eqb, cond-true, cond-false}
use Rattle.std.proofs.lemmas.List.{drop_more, length-drop, take_at, append-nil}
use Rattle.std.proofs.lemmas.List.Sums.{prefix_len-le-length}
use Rattle.lus_syntax.specs.declared.gap.Skip.{Skip}
use Rattle.lus_syntax.specs.Places.{is_feed}
use Rattle.lus_syntax.specs.Gaps.{is_blank, IsLine, EndsLine, Lacks, Piece, blank, line, slash, round, Unclosed, slash_open, round_open}
use Rattle.lus_syntax.specs.Reading.{block_len, block_skip, Skips, IsSkip}
use Rattle.lus_syntax.proofs.Longest.{prefix_passes}

-- ---- the loop that looks for the end

abbrev pub found_from : ℕ → List ℕ → ℕ → Option ℕ
found_from close bs j = option_map (λ n. n + j) (block_len close (drop j bs))

shift : (j : ℕ) (o : Option ℕ) → option_map (λ n. n + j) (option_map (λ n. n + 1) o) ≡ option_map (λ n. n + (j + 1)) o
shift j None = refl
shift j (Some n) = ap Some (omega arith)

two_more : (bs : List ℕ) (j : ℕ) → j + 1 < length bs → drop j bs ≡ get_or bs j 0 ∷ get_or bs (j + 1) 0 ∷ drop (j + 1 + 1) bs
two_more bs j lt = drop_more bs j 0 (omega arith) ∙ ap (λ (x : List ℕ). get_or bs j 0 ∷ x) (drop_more bs (j + 1) 0 lt)

pub goes_on : (close : ℕ) (bs : List ℕ) (j : ℕ) (total : Option ℕ) → j + 1 < length bs → (get_or bs j 0 == 42 && get_or bs (j + 1) 0 == close) ≡ false → found_from close bs j ≡ total → found_from close bs (j + 1) ≡ total
goes_on close bs j total lt test so_far =
    let one : block_len close (drop j bs) ≡ option_map (λ n. n + 1) (block_len close (drop (j + 1) bs)) =
    ap (block_len close) (two_more bs j lt) ∙ cond-false _ (Some 2) (option_map (λ n. n + 1) (block_len close (get_or bs (j + 1) 0 ∷ drop (j + 1 + 1) bs))) test
    ∙ ap (λ (x : List ℕ). option_map (λ n. n + 1) (block_len close x)) (sym (drop_more bs (j + 1) 0 lt)) in
    sym (shift j (block_len close (drop (j + 1) bs))) ∙ ap (option_map (λ n. n + j)) (sym one) ∙ so_far

pub ends_here : (close : ℕ) (bs : List ℕ) (j : ℕ) (total : Option ℕ) → j + 1 < length bs → (get_or bs j 0 == 42 && get_or bs (j + 1) 0 == close) ≡ true → found_from close bs j ≡ total → Some (2 + j) ≡ total
ends_here close bs j total lt test so_far =
    let one : block_len close (drop j bs) ≡ Some 2 = ap (block_len close) (two_more bs j lt) ∙ cond-true _ (Some 2) (option_map (λ n. n + 1) (block_len close (get_or bs (j + 1) 0 ∷ drop (j + 1 + 1) bs))) test in
    ap (option_map (λ n. n + j)) (sym one) ∙ so_far

short_none : (close : ℕ) (xs : List ℕ) → length xs ≤ 1 → block_len close xs ≡ None
short_none close [] h = refl
short_none close (a ∷ []) h = refl
short_none close (a ∷ b ∷ xs) h = absurd (omega arith)

pub never : (close : ℕ) (bs : List ℕ) (j : ℕ) (total : Option ℕ) → length bs ≤ j + 1 → found_from close bs j ≡ total → None ≡ total
never close bs j total le so_far = ap (option_map (λ n. n + j)) (sym (short_none close (drop j bs) (omega (arith, length-drop j bs)))) ∙ so_far

within_more : (close a b : ℕ) (bs : List ℕ) (n : ℕ) (t : Bool) → ((m : ℕ) → block_len close (b ∷ bs) ≡ Some m → m ≤ length (b ∷ bs)) → cond t (Some 2) (option_map (λ k. k + 1) (block_len close (b ∷ bs))) ≡ Some n → n ≤ length (a ∷ b ∷ bs)
within_more close a b bs n true ih h = let e : 2 ≡ n = cc in omega (arith, e)
within_more close a b bs n false ih h = go (block_len close (b ∷ bs)) refl h
  where
    go : (o : Option ℕ) → block_len close (b ∷ bs) ≡ o → option_map (λ k. k + 1) o ≡ Some n → n ≤ length (a ∷ b ∷ bs)
    go None is e = absurd cc
    go (Some m) is e = let f : m + 1 ≡ n = cc in omega (arith, ih m is, f)

pub block_len_within : (close : ℕ) (bs : List ℕ) (n : ℕ) → block_len close bs ≡ Some n → n ≤ length bs
block_len_within close [] n h = absurd cc
block_len_within close (a ∷ []) n h = absurd cc
block_len_within close (a ∷ b ∷ bs) n h = within_more close a b bs n (a == 42 && b == close) (λ m e. block_len_within close (b ∷ bs) m e) h

-- ---- a comment to the line's end

abbrev pub same_line : ℕ → Bool
same_line b = not (is_feed b)

line_ends : (xs : List ℕ) → EndsLine (drop (prefix_len same_line xs) xs)
line_ends [] = tt
line_ends (b ∷ bs) = go (is_feed b) refl (line_ends bs)
  where
    go : (t : Bool) → is_feed b ≡ t → EndsLine (drop (prefix_len same_line bs) bs) → EndsLine (drop (prefix_len same_line (b ∷ bs)) (b ∷ bs))
    go true e ih =
        let n : prefix_len same_line (b ∷ bs) ≡ 0 = rw e refl in
        rw n e
    go false e ih =
        let n : prefix_len same_line (b ∷ bs) ≡ suc (prefix_len same_line bs) = rw e (omega arith) in
        rw n ih

line_skip_at : (body : List ℕ) (n : ℕ) → n ≡ prefix_len same_line body → Skips (45 ∷ 45 ∷ body) (2 + n)
line_skip_at body n e =
    let two : 2 + n ≡ suc (suc n) = omega arith in
    let is_line : IsLine (take n body) = rw e (prefix_passes same_line body) in
    let ends : EndsLine (drop n body) = rw e (line_ends body) in
    record {
      some = omega arith;
      within = omega (arith, e, prefix_len-le-length same_line body);
      piece = rw two (line is_line ends);
    }

same_two : (a b c d : ℕ) (body : List ℕ) (P : List ℕ → Type 0) → a ≡ c → b ≡ d → P (c ∷ d ∷ body) → P (a ∷ b ∷ body)
same_two a b c d body P e f h = rw (e, f) h

pub line_skip : (bs : List ℕ) (n : ℕ) → 2 ≤ length bs → get_or bs 0 0 ≡ 45 → get_or bs 1 0 ≡ 45 → n ≡ prefix_len same_line (drop 2 bs) → Skips bs (2 + n)
line_skip [] n len e f is = absurd (omega arith)
line_skip (a ∷ []) n len e f is = absurd (omega arith)
line_skip (a ∷ b ∷ body) n len e f is = same_two a b 45 45 body (λ x. Skips x (2 + n)) e f (line_skip_at body n is)

-- ---- a comment to its end mark

lacks_nil : (close : ℕ) → Lacks close []
lacks_nil close [] rest e = absurd cc
lacks_nil close (x ∷ front) rest e = absurd cc

lacks_cons : (close a : ℕ) (xs : List ℕ) → Lacks close xs → ((r : List ℕ) → xs ≡ close ∷ r → a ≡ 42 → ⊥) → Lacks close (a ∷ xs)
lacks_cons close a xs later here [] rest e =
    let first : a ≡ 42 = cc in
    let next : xs ≡ close ∷ rest = cc in
    here rest next first
lacks_cons close a xs later here (x ∷ front) rest e =
    let next : xs ≡ front ++ 42 ∷ close ∷ rest = cc in
    later front rest next

not_here : (close a b : ℕ) (bs xs more : List ℕ) → (a == 42 && b == close) ≡ false → b ∷ bs ≡ xs ++ more → (r : List ℕ) → xs ≡ close ∷ r → a ≡ 42 → ⊥
not_here close a b bs xs more test e r is first =
    let next : b ≡ close = ap (λ (x : List ℕ). get_or x 0 0) (e ∙ ap (λ (x : List ℕ). x ++ more) is) in
    both_ways (a == 42 && b == close) test (and_from (a == 42) (b == close) (eq-eqb a 42 first) (eq-eqb b close next))

-- the first end mark
pub record Closed (close : ℕ) (body : List ℕ) (n : ℕ) : Type 0 where
  pub front : List ℕ
  pub rest : List ℕ
  pub parts : body ≡ front ++ 42 ∷ close ∷ rest
  pub len : n ≡ length front + 2
  pub lacks : Lacks close front

some_more : (close a b : ℕ) (bs : List ℕ) (n : ℕ) (t : Bool) → (a == 42 && b == close) ≡ t → ((m : ℕ) → block_len close (b ∷ bs) ≡ Some m → Closed close (b ∷ bs) m)
    → cond t (Some 2) (option_map (λ k. k + 1) (block_len close (b ∷ bs))) ≡ Some n → Closed close (a ∷ b ∷ bs) n
some_more close a b bs n true test ih h =
    let p = and_parts (a == 42) (b == close) test in
    let e : 2 ≡ n = cc in
    let first = eqb-true a 42 p.0 in
    let next = eqb-true b close p.1 in
    record { front = []; rest = bs; parts = rw (first, next) refl; len = omega (arith, e); lacks = lacks_nil close }
some_more close a b bs n false test ih h = go (block_len close (b ∷ bs)) refl h
  where
    go : (o : Option ℕ) → block_len close (b ∷ bs) ≡ o → option_map (λ k. k + 1) o ≡ Some n → Closed close (a ∷ b ∷ bs) n
    go None is e = absurd cc
    go (Some m) is e =
        let f : m + 1 ≡ n = cc in
        let c = ih m is in
        record {
          front = a ∷ c.front;
          rest = c.rest;
          parts = ap (λ (x : List ℕ). a ∷ x) c.parts;
          len = omega (arith, f, c.len);
          lacks = lacks_cons close a c.front c.lacks (not_here close a b bs c.front (42 ∷ close ∷ c.rest) test c.parts);
        }

pub block_some : (close : ℕ) (body : List ℕ) (n : ℕ) → block_len close body ≡ Some n → Closed close body n
block_some close [] n h = absurd cc
block_some close (a ∷ []) n h = absurd cc
block_some close (a ∷ b ∷ bs) n h = some_more close a b bs n (a == 42 && b == close) refl (λ m e. block_some close (b ∷ bs) m e) h

none_more : (close a b : ℕ) (bs : List ℕ) (t : Bool) → (a == 42 && b == close) ≡ t → (block_len close (b ∷ bs) ≡ None → Lacks close (b ∷ bs))
    → cond t (Some 2) (option_map (λ k. k + 1) (block_len close (b ∷ bs))) ≡ None → Lacks close (a ∷ b ∷ bs)
none_more close a b bs true test ih h = absurd cc
none_more close a b bs false test ih h = go (block_len close (b ∷ bs)) refl h
  where
    go : (o : Option ℕ) → block_len close (b ∷ bs) ≡ o → option_map (λ k. k + 1) o ≡ None → Lacks close (a ∷ b ∷ bs)
    go (Some m) is e = absurd cc
    go None is e = lacks_cons close a (b ∷ bs) (ih is) (not_here close a b bs (b ∷ bs) [] test (sym (append-nil (b ∷ bs))))

pub block_none : (close : ℕ) (body : List ℕ) → block_len close body ≡ None → Lacks close body
block_none close [] h = lacks_nil close
block_none close (a ∷ []) h = lacks_cons close a [] (lacks_nil close) (λ r e f. absurd cc)
block_none close (a ∷ b ∷ bs) h = none_more close a b bs (a == 42 && b == close) refl (block_none close (b ∷ bs)) h

-- both kinds of opening
module _ (o close : ℕ) (piece_of : (body rest : List ℕ) → Lacks close body → Piece (o ∷ 42 ∷ (body ++ 42 ∷ close ∷ [])) rest) (open_of : (body : List ℕ) → Lacks close body → Unclosed (o ∷ 42 ∷ body)) where
  block_skip_at : (body : List ℕ) (l : Option ℕ) → block_len close body ≡ l → IsSkip (o ∷ 42 ∷ body) (block_skip l)
  block_skip_at body None h = open_of body (block_none close body h)
  block_skip_at body (Some n) h =
      let c = block_some close body n h in
      let two : n + 2 ≡ suc (suc n) = omega arith in
      let mark : List ℕ = 42 ∷ close ∷ [] in
      let whole : body ≡ (c.front ++ mark) ++ c.rest = c.parts ∙ sym (append_assoc c.front mark c.rest) in
      let len : length (c.front ++ mark) ≡ n = omega (arith, length-append c.front mark, c.len) in
      let front : take n body ≡ c.front ++ mark = ap (take n) whole ∙ take_at (c.front ++ mark) c.rest n len in
      record {
        some = omega arith;
        within = omega (arith, block_len_within close body n h);
        piece = rw (two, front) (piece_of c.front (drop n body) c.lacks);
      }

  block_skip_two : (bs : List ℕ) (r : Skip) → 2 ≤ length bs → get_or bs 0 0 ≡ o → get_or bs 1 0 ≡ 42 → r ≡ block_skip (block_len close (drop 2 bs)) → IsSkip bs r
  block_skip_two [] r len e f is = absurd (omega arith)
  block_skip_two (a ∷ []) r len e f is = absurd (omega arith)
  block_skip_two (a ∷ b ∷ body) r len e f is = same_two a b o 42 body (λ x. IsSkip x r) e f (rw is (block_skip_at body (block_len close body) refl))

pub slash_skip : (bs : List ℕ) (r : Skip) → 2 ≤ length bs → get_or bs 0 0 ≡ 47 → get_or bs 1 0 ≡ 42 → r ≡ block_skip (block_len 47 (drop 2 bs)) → IsSkip bs r
slash_skip = block_skip_two 47 47 (λ body rest h. slash h) (λ body h. slash_open h)

pub round_skip : (bs : List ℕ) (r : Skip) → 2 ≤ length bs → get_or bs 0 0 ≡ 40 → get_or bs 1 0 ≡ 42 → r ≡ block_skip (block_len 41 (drop 2 bs)) → IsSkip bs r
round_skip = block_skip_two 40 41 (λ body rest h. round h) (λ body h. round_open h)

pub blank_skip : (bs : List ℕ) → is_blank (get_or bs 0 0) ≡ true → Skips bs 1
blank_skip [] e = absurd (false≢true e)
blank_skip (b ∷ bs) e = record { some = omega arith; within = omega arith; piece = blank e }

pub line_len_within : (bs : List ℕ) (n : ℕ) → 2 ≤ length bs → n ≡ prefix_len same_line (drop 2 bs) → 2 + n ≤ length bs
line_len_within bs n len e = omega (arith, e, prefix_len-le-length same_line (drop 2 bs), length-drop 2 bs)
