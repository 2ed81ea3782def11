-- Changes, as two texts are gone through.
use Rattle.std.proofs.Common.{◌≡◌, ◌∙◌, ◌++◌, ◌+◌, ◌*◌, ◌<◌, ◌≤◌, ◌^◌, ℕ, zero, suc, refl, ap, sym, subst, List, [], ◌∷◌, length, take, drop, append_assoc, append-nil, length-append, arith}
use Rattle.std.specs.List.{All}
use Rattle.std.proofs.lemmas.List.Elements.{All-append, All-cons, All-nil}
use Rattle.lus_syntax.specs.Lexemes.{Text}
use Rattle.lus_queries.specs.declared.places.Spot.{Spot}
use Rattle.lus_queries.specs.declared.changes.Change.{Change}
use Rattle.lus_queries.specs.Spots.{spot_after, spot_of}
use Rattle.lus_queries.specs.Changes.{AreApart, IsPlaced, Make, changed, replaced}
use Rattle.lus_queries.proofs.SpotLaws.{character_after, line_after, spot_further}

-- the last of some changes is made first
changed_more : (cs : List Change) (c : Change) (text : Text) → changed (cs ++ c ∷ []) text ≡ changed cs (replaced c text)
changed_more [] c text = refl
changed_more (d ∷ ds) c text = ap (replaced d) (changed_more ds c text)

apart_more : (from n : ℕ) (cs : List Change) (c : Change) → AreApart from cs c.byte → c.byte + c.length ≤ n → AreApart from (cs ++ c ∷ []) n
apart_more from n [] c apart ends = (apart, ends)
apart_more from n (d ∷ ds) c apart ends = (apart.0, apart_more (d.byte + d.length) n ds c apart.1 ends)

apart_within : (from m n : ℕ) (cs : List Change) → m ≤ n → AreApart from cs m → AreApart from cs n
apart_within from m n [] less apart = omega (arith, less, apart)
apart_within from m n (d ∷ ds) less apart = (apart.0, apart_within (d.byte + d.length) m n ds less apart.1)

behind_front : (front behind : Text) → drop (length front) (front ++ behind) ≡ behind
behind_front [] behind = refl
behind_front (b ∷ bs) behind = behind_front bs behind

front_alone : (front behind : Text) → take (length front) (front ++ behind) ≡ front
front_alone [] behind = refl
front_alone (b ∷ bs) behind = ap (λ t. b ∷ t) (front_alone bs behind)

-- what stands before some bytes and behind them stays
replaced_between : (c : Change) (before part behind : Text) → c.byte ≡ length before → c.length ≡ length part
    → replaced c (before ++ (part ++ behind)) ≡ before ++ (c.text.now ++ behind)
replaced_between c before part behind at long =
    let front : take c.byte (before ++ (part ++ behind)) ≡ before =
    ap (λ n. take n (before ++ (part ++ behind))) at ∙ front_alone before (part ++ behind) in
    let both : c.byte + c.length ≡ length (before ++ part) = omega (arith, at, long, length-append before part) in
    let rest : drop (c.byte + c.length) (before ++ (part ++ behind)) ≡ behind =
    ap (λ n. drop n (before ++ (part ++ behind))) both ∙ ap (drop (length (before ++ part))) (sym (append_assoc before part behind))
    ∙ behind_front (before ++ part) behind in
    ap (λ t. t ++ (c.text.now ++ drop (c.byte + c.length) (before ++ (part ++ behind)))) front ∙ ap (λ t. before ++ (c.text.now ++ t)) rest

-- two texts were gone through up to here, and these changes make what was met of the one of what was met of the other
pub record IsMade (old new : Text) (cs : List Change) (byte : ℕ) (from : Spot) (rest made : Text) : Type 0 where
  pub before : Text
  pub written : Text
  pub old_parts : old ≡ before ++ rest
  pub new_parts : new ≡ written ++ made
  pub at : byte ≡ length before
  pub makes : (behind : Text) → changed cs (before ++ behind) ≡ written ++ behind
  pub apart : AreApart 0 cs byte
  pub placed : All (IsPlaced old) cs
  pub spot : from ≡ spot_of old byte

pub made_nothing : (old new : Text) → IsMade old new [] 0 (record { line = 0; character = 0 }) old new
made_nothing old new = record {
  before = [];
  written = [];
  old_parts = refl;
  new_parts = refl;
  at = refl;
  makes = λ behind. refl;
  apart = omega arith;
  placed = All-nil (IsPlaced old);
  spot = refl;
}

spot_on : (old before rest : Text) (byte n : ℕ) (from : Spot) → old ≡ before ++ rest → byte ≡ length before → from ≡ spot_of old byte
    → spot_after from n rest ≡ spot_of old (byte + n)
spot_on old before rest byte n from parts at is =
    let start : Spot = record { line = 0; character = 0 } in
    let here : from ≡ spot_after start (length before) (before ++ rest) = is ∙ ap (λ k. spot_of old k) at ∙ ap (spot_after start (length before)) parts in
    ap (λ s. spot_after s n rest) here ∙ sym (spot_further start n before rest)
    ∙ ap (λ k. spot_after start (k + n) (before ++ rest)) (sym at) ∙ ap (spot_after start (byte + n)) (sym parts)

-- a part that stays
pub made_kept : (old new : Text) (cs : List Change) (byte n : ℕ) (from to : Spot) (rest made part behind text after : Text)
    → IsMade old new cs byte from rest made → rest ≡ part ++ behind → made ≡ text ++ after → part ≡ text → n ≡ length part
    → to ≡ spot_after from n rest → IsMade old new cs (byte + n) to behind after
made_kept old new cs byte n from to rest made part behind text after so_far one two same long spot = record {
  before = so_far.before ++ part;
  written = so_far.written ++ text;
  old_parts = so_far.old_parts ∙ ap (λ t. so_far.before ++ t) one ∙ sym (append_assoc so_far.before part behind);
  new_parts = so_far.new_parts ∙ ap (λ t. so_far.written ++ t) two ∙ sym (append_assoc so_far.written text after);
  at = omega (arith, so_far.at, long, length-append so_far.before part);
  makes = λ x.
      ap (changed cs) (append_assoc so_far.before part x) ∙ so_far.makes (part ++ x) ∙ ap (λ t. so_far.written ++ (t ++ x)) same
      ∙ sym (append_assoc so_far.written text x);
  apart = apart_within 0 byte (byte + n) cs (omega arith) so_far.apart;
  placed = so_far.placed;
  spot = spot ∙ spot_on old so_far.before rest byte n from so_far.old_parts so_far.at so_far.spot;
}

-- a part that is changed
pub made_changed : (old new : Text) (cs : List Change) (c : Change) (rest made part behind after : Text)
    → IsMade old new cs c.byte c.from rest made → rest ≡ part ++ behind → made ≡ c.text.now ++ after → c.length ≡ length part
    → c.to ≡ spot_after c.from c.length rest → IsMade old new (cs ++ c ∷ []) (c.byte + c.length) c.to behind after
made_changed old new cs c rest made part behind after so_far one two long spot =
    let to : c.to ≡ spot_of old (c.byte + c.length) =
    spot ∙ spot_on old so_far.before rest c.byte c.length c.from so_far.old_parts so_far.at so_far.spot in
    record {
      before = so_far.before ++ part;
      written = so_far.written ++ c.text.now;
      old_parts = so_far.old_parts ∙ ap (λ t. so_far.before ++ t) one ∙ sym (append_assoc so_far.before part behind);
      new_parts = so_far.new_parts ∙ ap (λ t. so_far.written ++ t) two ∙ sym (append_assoc so_far.written c.text.now after);
      at = omega (arith, so_far.at, long, length-append so_far.before part);
      makes = λ x.
          changed_more cs c ((so_far.before ++ part) ++ x)
          ∙ ap (λ t. changed cs (replaced c t)) (append_assoc so_far.before part x)
          ∙ ap (changed cs) (replaced_between c so_far.before part x so_far.at long)
          ∙ so_far.makes (c.text.now ++ x)
          ∙ sym (append_assoc so_far.written c.text.now x);
      apart = apart_more 0 (c.byte + c.length) cs c so_far.apart (omega arith);
      placed = All-append (IsPlaced old) cs (c ∷ []) so_far.placed (All-cons (IsPlaced old) c [] (record { begins = so_far.spot; ends = to }) (All-nil (IsPlaced old)));
      spot = to;
    }

-- what is left of the one, and all that is left of the other
pub made_rest : (old new : Text) (cs : List Change) (c : Change) (rest made : Text) → IsMade old new cs c.byte c.from rest made → made ≡ c.text.now
    → c.length ≡ length rest → c.to ≡ spot_after c.from c.length rest → IsMade old new (cs ++ c ∷ []) (c.byte + c.length) c.to [] []
made_rest old new cs c rest made so_far is long spot =
    made_changed old new cs c rest made rest [] [] so_far (sym (append-nil rest)) (is ∙ sym (append-nil c.text.now)) long spot

-- at the end of both
pub make_all : (old new : Text) (cs : List Change) (byte : ℕ) (from : Spot) (rest made : Text) → IsMade old new cs byte from rest made → rest ≡ made
    → Make cs old new
make_all old new cs byte from rest made so_far same = record {
  made = ap (changed cs) so_far.old_parts ∙ so_far.makes rest ∙ ap (λ t. so_far.written ++ t) same ∙ sym so_far.new_parts;
  apart = apart_within 0 byte (length old) cs (omega (arith, so_far.at, ap length so_far.old_parts, length-append so_far.before rest)) so_far.apart;
  placed = so_far.placed;
}

-- a spot's numbers stay small
pub line_room : (old new : Text) (cs : List Change) (byte : ℕ) (from : Spot) (rest made : Text) → IsMade old new cs byte from rest made
    → from.line + length rest ≤ length old
line_room old new cs byte from rest made so_far =
    omega (
      arith,
      ap (λ s. s.line) so_far.spot,
      line_after (record { line = 0; character = 0 }) byte old,
      so_far.at,
      ap length so_far.old_parts,
      length-append so_far.before rest,
    )

pub character_room : (old new : Text) (cs : List Change) (byte : ℕ) (from : Spot) (rest made : Text) → IsMade old new cs byte from rest made
    → from.character + 2 * length rest ≤ 2 * length old
character_room old new cs byte from rest made so_far =
    omega (
      arith,
      ap (λ s. s.character) so_far.spot,
      character_after (record { line = 0; character = 0 }) byte old,
      so_far.at,
      ap length so_far.old_parts,
      length-append so_far.before rest,
    )
