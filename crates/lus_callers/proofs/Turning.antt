-- One more column.
use Rattle.std.proofs.Common.{◌≡◌, ◌≢◌, ℕ, ◌+◌, ◌<◌, List, [], ◌∷◌, ◌++◌, length, get_or, set, refl, ap, sym, ◌∙◌, arith, length-append}
use Rattle.std.proofs.lemmas.List.{length-set, get_or-set_same, get_or-set_other, get_or_append_left}
use Rattle.std.proofs.Math.Seq.{get_or-append_seam}
use mathlib.Core.Logic.{dite}
use native.Mathlib.Decide.{ℕ_discrete}
use Rattle.lus_callers.specs.Columns.{row_at, AreColumns, IsCut, IsCutBelow}

pub nothing_cut : {A : Type 0} (rows : List (List A)) → IsCutBelow 0 rows rows []
nothing_cut rows = record { count = refl; long = refl; each = λ i d l. absurd (omega (arith, l)); others = λ i l. refl }

pub cut_more : {A : Type 0} (p : ℕ) (rows rest : List (List A)) (column short : List A) (last : A) → p < length rows → IsCutBelow p rows rest column → get_or rest p [] ≡ short ++ last ∷ []
    → IsCutBelow (p + 1) rows (set rest p short) (column ++ last ∷ [])
cut_more {A} p rows rest column short last within cut is = record {
  count = length-set rest p short ∙ cut.count;
  long = length-append column (last ∷ []) ∙ omega (arith, cut.long);
  each = λ i d l. dite (ℕ_discrete i p) (here i d) (λ apart. there i d apart (omega (arith, l, apart)));
  others = λ i l. get_or-set_other rest p i short [] (omega (arith, l)) ∙ cut.others i (omega (arith, l));
}
  where
    here : (i : ℕ) (d : A) → i ≡ p → row_at rows i ≡ row_at (set rest p short) i ++ get_or (column ++ last ∷ []) i d ∷ []
    here i d e =
        let inside : p < length rest = omega (arith, within, cut.count) in
        let old : get_or rows p [] ≡ short ++ last ∷ [] = sym (cut.others p (omega arith)) ∙ is in
        let new : get_or (set rest p short) p [] ≡ short = get_or-set_same rest p short [] inside in
        let thing : get_or (column ++ last ∷ []) p d ≡ last = ap (λ n. get_or (column ++ last ∷ []) n d) (sym cut.long) ∙ get_or-append_seam column last [] d in
        rw (e, new, thing) old

    there : (i : ℕ) (d : A) → i ≢ p → i < p → row_at rows i ≡ row_at (set rest p short) i ++ get_or (column ++ last ∷ []) i d ∷ []
    there i d apart l =
        let row : get_or (set rest p short) i [] ≡ get_or rest i [] = get_or-set_other rest p i short [] apart in
        let thing : get_or (column ++ last ∷ []) i d ≡ get_or column i d = get_or_append_left column (last ∷ []) d i (omega (arith, l, cut.long)) in
        rw (row, thing) (cut.each i d l)

pub all_cut : {A : Type 0} (p : ℕ) (rows rest : List (List A)) (column : List A) → p ≡ length rows → IsCutBelow p rows rest column → IsCut rows rest column
all_cut p rows rest column e cut = record { count = cut.count; long = cut.long ∙ e; each = λ i d l. cut.each i d (omega (arith, l, e)) }

pub turned_none : {A : Type 0} (rows : List (List A)) → AreColumns 0 rows []
turned_none rows = record { count = refl; long = λ j l. absurd (omega (arith, l)); same = λ i j d k l. absurd (omega (arith, l)) }

-- what is left of a row is one shorter
pub shorter : {A : Type 0} (w : ℕ) (rows rest : List (List A)) (column : List A) → IsCut rows rest column → ((i : ℕ) → i < length rows → length (row_at rows i) ≡ w + 1) → (i : ℕ) → i < length rows → length (row_at rest i) ≡ w
shorter {A} w rows rest column cut long i l =
    let n : ℕ = length (get_or rest i []) in
    by_column column (omega (arith, cut.long, l))
  where
    by_column : (xs : List A) → i < length column → length (row_at rest i) ≡ w
    by_column xs inside = some column inside (λ d. ap length (cut.each i d l))
      where
        some : (ys : List A) → i < length ys → ((d : A) → length (row_at rows i) ≡ length (row_at rest i ++ get_or column i d ∷ [])) → length (row_at rest i) ≡ w
        some [] k h = absurd (omega (arith, k))
        some (y ∷ ys) k h = omega (arith, h y, long i l, length-append (row_at rest i) (get_or column i y ∷ []))

pub turned_more : {A : Type 0} (w : ℕ) (rows rest columns : List (List A)) (column : List A) → ((i : ℕ) → i < length rows → length (row_at rows i) ≡ w + 1) → IsCut rows rest column → AreColumns w rest columns
    → AreColumns (w + 1) rows (columns ++ column ∷ [])
turned_more {A} w rows rest columns column long cut turned = record {
  count = length-append columns (column ∷ []) ∙ omega (arith, turned.count);
  long = λ j l. dite (ℕ_discrete j w) (λ e. ap length (at_last j e) ∙ cut.long) (λ apart. ap length (at_other j (omega (arith, l, apart))) ∙ (turned.long j (omega (arith, l, apart)) ∙ cut.count));
  same = λ i j d k l. dite (ℕ_discrete j w) (λ e. here i j d k e) (λ apart. there i j d k (omega (arith, l, apart)));
}
  where
    at_last : (j : ℕ) → j ≡ w → get_or (columns ++ column ∷ []) j [] ≡ column
    at_last j e = ap (λ n. get_or (columns ++ column ∷ []) n []) (e ∙ sym turned.count) ∙ get_or-append_seam columns column [] []

    at_other : (j : ℕ) → j < w → get_or (columns ++ column ∷ []) j [] ≡ get_or columns j []
    at_other j l = get_or_append_left columns (column ∷ []) [] j (omega (arith, l, turned.count))

    here : (i j : ℕ) (d : A) → i < length rows → j ≡ w → get_or (get_or (columns ++ column ∷ []) j []) i d ≡ get_or (get_or rows i []) j d
    here i j d k e =
        let short : length (get_or rest i []) ≡ w = shorter w rows rest column cut long i k in
        let seam : get_or (get_or rest i [] ++ get_or column i d ∷ []) j d ≡ get_or column i d = ap (λ n. get_or (get_or rest i [] ++ get_or column i d ∷ []) n d) (e ∙ sym short) ∙ get_or-append_seam (get_or rest i []) (get_or column i d) [] d in
        ap (λ (c : List A). get_or c i d) (at_last j e) ∙ sym (ap (λ (r : List A). get_or r j d) (cut.each i d k) ∙ seam)

    there : (i j : ℕ) (d : A) → i < length rows → j < w → get_or (get_or (columns ++ column ∷ []) j []) i d ≡ get_or (get_or rows i []) j d
    there i j d k l =
        let short : length (get_or rest i []) ≡ w = shorter w rows rest column cut long i k in
        let left : get_or (get_or rest i [] ++ get_or column i d ∷ []) j d ≡ get_or (get_or rest i []) j d = get_or_append_left (get_or rest i []) (get_or column i d ∷ []) d j (omega (arith, l, short)) in
        ap (λ (c : List A). get_or c i d) (at_other j l) ∙ (turned.same i j d (omega (arith, k, cut.count)) l ∙ sym (ap (λ (r : List A). get_or r j d) (cut.each i d k) ∙ left))
