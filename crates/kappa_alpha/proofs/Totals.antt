use Rattle.std.proofs.Common.{◌≡◌, ℕ, suc, zero, ◌+◌, ◌*◌, ◌-◌, ◌/◌, ◌<◌, ◌≤◌, ◌^◌, ◌++◌, cond, Bool, true, false, List, [], ◌∷◌, length, get_or, set, take, replicate, Option, None, refl, arith, sym, ◌∙◌, ap, inl, inr, length-set, add-one}
use Rattle.std.specs.Prelude.{nat_lt, if◌then◌else◌}
use Rattle.std.specs.List.{sum_by, count_by}
use Rattle.std.proofs.lemmas.Bool.{cases_eq, cases_lt, cases_Bool, cond-true, cond-false}
use Rattle.std.proofs.lemmas.List.{get_or-set_same, get_or-set_other, length-map, length-replicate, length_push, get_or_append_left, get_or_push}
use Rattle.std.proofs.lemmas.List.Sums.{sum_by-set, sum_by-le, get_or-le-sum_by, sum_by-cons, sum_by_push, sum_by_more, sum_by_more_le, count_by-le-length}
use Rattle.std.proofs.Math.Nat.{div-le_self}
use Rattle.std.proofs.lemmas.Nat.{mul-le}
use Rattle.kappa_alpha.specs.Columns.{Column, both, toward, ordered, weight, raters_in, coincidence_at, confusion_at, label_at, unit_at, is_label, worth}
use Rattle.kappa_alpha.specs.Standing.{Rows, Document, column_of, over_tokens, over_all, sum_below, tokens_in, with_row, document_at, no_document}
use Rattle.kappa_alpha.specs.Counted.{Count, CoincidenceCount, LabelCount, ConfusionCount, UnitCount, IsCount, adds, held, RowFits, DocumentFits, AreTables, IsShaped, IsPool}
use Rattle.kappa_alpha.specs.declared.tallies.Tallies.{Tallies}
use Rattle.kappa_alpha.proofs.Worth.{worth_le}
use Rattle.kappa_alpha.proofs.Toward.{ordered_nil, ordered_cons, none_toward}
use Rattle.kappa_alpha.proofs.Below.{sum_zero}
use Rattle.kappa_alpha.proofs.Shares.{none_worth}
use Rattle.std.specs.Option.{is_some}
use Rattle.kappa_alpha.proofs.RowLaws.{fit_set}

suc_times : (n k : ℕ) → suc n * k ≡ n * k + k
suc_times n k = grind arith

times_sum : (a b k : ℕ) → (a + b) * k ≡ a * k + b * k
times_sum a b k = grind arith

-- Laws of a function of the column, summed over all documents.

-- a row in the place of another
pub over_set_row : (f : Column → ℕ) (documents : List Document) (d r : ℕ) (row : Option (List ℕ)) → d < length documents → over_all f (set documents d (with_row (document_at documents d) r row)) + over_tokens f (document_at documents d).rows (document_at documents d).tokens ≡ over_all f documents + over_tokens f (set (document_at documents d).rows r row) (document_at documents d).tokens
unfolding over_all
over_set_row f documents d r row h = sum_by-set (λ document. over_tokens f document.rows document.tokens) documents d (with_row (document_at documents d) r row) no_document h

-- a document is part of all
pub over_part : (f : Column → ℕ) (documents : List Document) (d : ℕ) → d < length documents → over_tokens f (document_at documents d).rows (document_at documents d).tokens ≤ over_all f documents
unfolding over_all
over_part f documents d h = get_or-le-sum_by (λ document. over_tokens f document.rows document.tokens) documents d no_document h

-- a document more
pub over_admit : (f : Column → ℕ) (documents : List Document) (document : Document) → over_all f (documents ++ document ∷ []) ≡ over_all f documents + over_tokens f document.rows document.tokens
unfolding over_all
over_admit f documents document = sum_by_push (λ d. over_tokens f d.rows d.tokens) documents document

-- a bound at each column is one at every token
pub over_tokens_le : (f : Column → ℕ) (most : ℕ) (rows : Rows) (n : ℕ) → ((column : Column) → length column ≤ 16 → f column ≤ most) → length rows ≤ 16 → over_tokens f rows n ≤ n * most
unfolding over_tokens sum_below
over_tokens_le f most rows zero h few = omega arith
over_tokens_le f most rows (suc n) h few = omega (arith, over_tokens_le f most rows n h few, h (column_of rows n) (simp length-map few), suc_times n most)

pub over_all_le : (f : Column → ℕ) (most raters width : ℕ) (documents : List Document) → ((column : Column) → length column ≤ 16 → f column ≤ most) → ((d : ℕ) → d < length documents → DocumentFits (document_at documents d) raters width) → over_all f documents ≤ tokens_in documents * most
unfolding over_all tokens_in
over_all_le f most raters width [] h fit = omega arith
over_all_le f most raters width (x ∷ documents) h fit =
    let e : sum_by (λ (d : Document). d.tokens) (x ∷ documents) * most ≡ x.tokens * most + sum_by (λ (d : Document). d.tokens) documents * most =
    ap (λ t. t * most) (sum_by-cons (λ (d : Document). d.tokens) x documents) ∙ times_sum x.tokens (sum_by (λ (d : Document). d.tokens) documents) most in
    omega (
      arith,
      sum_by-cons (λ (d : Document). over_tokens f d.rows d.tokens) x documents,
      e,
      over_tokens_le f most x.rows x.tokens h (fit zero (omega arith)).rows.few,
      over_all_le f most raters width documents h (λ d l. fit (suc d) (omega arith)),
    )

pub tokens_set_row : (documents : List Document) (d r : ℕ) (row : Option (List ℕ)) → d < length documents → tokens_in (set documents d (with_row (document_at documents d) r row)) ≡ tokens_in documents
unfolding tokens_in
tokens_set_row documents d r row h =
    let s : sum_by (λ (x : Document). x.tokens) (set documents d (with_row (document_at documents d) r row)) + (document_at documents d).tokens ≡ sum_by (λ (x : Document). x.tokens) documents + (document_at documents d).tokens = sum_by-set (λ (x : Document). x.tokens) documents d (with_row (document_at documents d) r row) no_document h in
    omega (arith, s)

pub tokens_part : (documents : List Document) (d : ℕ) → d < length documents → (document_at documents d).tokens ≤ tokens_in documents
unfolding tokens_in
tokens_part documents d h = get_or-le-sum_by (λ (x : Document). x.tokens) documents d no_document h

tokens_push : (documents : List Document) (document : Document) → tokens_in (documents ++ document ∷ []) ≡ tokens_in documents + document.tokens
unfolding tokens_in
tokens_push documents document = sum_by_push (λ (d : Document). d.tokens) documents document

pub tokens_none : tokens_in [] ≡ 0
unfolding tokens_in
tokens_none = refl

pub tokens_more : (documents : List Document) (i : ℕ) → i < length documents → tokens_in (take (i + 1) documents) ≡ tokens_in (take i documents) + (document_at documents i).tokens
unfolding tokens_in
tokens_more documents i h = sum_by_more (λ (d : Document). d.tokens) documents i no_document h

pub tokens_more_le : (documents : List Document) (i : ℕ) → i < length documents → tokens_in (take i documents) + (document_at documents i).tokens ≤ tokens_in documents
unfolding tokens_in
tokens_more_le documents i h = sum_by_more_le (λ (d : Document). d.tokens) documents i no_document h

-- Bounds of what one token adds.

weight_le : (m : ℕ) → weight m ≤ 360360
unfolding weight
weight_le m =
    elim (cases_Bool (nat_lt m 2)) [
      | inl e ↦ rw (cond-true (nat_lt m 2) 0 (360360 / (m - 1)) e) (omega arith)
      | inr e ↦ rw (cond-false (nat_lt m 2) 0 (360360 / (m - 1)) e) (div-le_self 360360 (m - 1))
    ]

toward_le : (w c k : ℕ) (x : Option ℕ) (xs : List (Option ℕ)) → toward w c k x xs ≤ length xs * (2 * w)
unfolding toward
toward_le w c k x xs = sum_by-le (both w c k x) (2 * w) xs (λ i d h. omega (arith, worth_le w c k x (get_or xs i d), worth_le w c k (get_or xs i d) x))

times_up : (a n w : ℕ) → a ≤ n → a * (2 * w) ≤ n * (2 * w)
times_up a n w h = grind arith

ordered_le : (w c k : ℕ) (xs : List (Option ℕ)) (n : ℕ) → length xs ≤ n → ordered w c k xs ≤ length xs * (n * (2 * w))
ordered_le w c k [] n h = omega (arith, ordered_nil w c k)
ordered_le w c k (x ∷ xs) n h =
    let t : length xs * (2 * w) ≤ n * (2 * w) = times_up (length xs) n w (omega arith) in
    let m : (length xs + 1) * (n * (2 * w)) ≡ length xs * (n * (2 * w)) + n * (2 * w) = rw add-one (suc_times (length xs) (n * (2 * w))) in
    rw (← add-one) (omega (arith, ordered_cons w c k x xs, toward_le w c k x xs, t, m, ordered_le w c k xs n (omega arith)))

pub coincidence_at_le : (c k : ℕ) (col : Column) → length col ≤ 16 → coincidence_at c k col ≤ 2 ^ 28
unfolding coincidence_at
coincidence_at_le c k col h =
    let m : length col * (16 * (2 * weight (raters_in col))) ≤ 16 * (32 * 360360) = mul-le (length col) (16 * (2 * weight (raters_in col))) 16 (32 * 360360) h (omega (arith, weight_le (raters_in col))) in
    omega (arith, m, ordered_le (weight (raters_in col)) c k col 16 h)

pick_le : (b : Bool) (n most : ℕ) → n ≤ most → (if b then 0 else n) ≤ most
pick_le true n most h = omega arith
pick_le false n most h = h

pub label_at_le : (c : ℕ) (col : Column) → length col ≤ 16 → label_at c col ≤ 16
unfolding label_at
label_at_le c col h = pick_le (nat_lt (raters_in col) 2) (count_by (is_label c) col) 16 (omega (arith, count_by-le-length (is_label c) col))

pub unit_at_le : (col : Column) → unit_at col ≤ 1
unfolding unit_at
unit_at_le col = pick_le (nat_lt (raters_in col) 2) 1 1 (omega arith)

pub confusion_at_le : (a b c k : ℕ) (col : Column) → confusion_at a b c k col ≤ 1
unfolding confusion_at
confusion_at_le a b c k col = worth_le 1 c k (get_or col a None) (get_or col b None)

pub adds_le : (v : Count) (col : Column) → length col ≤ 16 → adds v col ≤ 2 ^ 28
adds_le (CoincidenceCount c k) col h = coincidence_at_le c k col h
adds_le (LabelCount c) col h = omega (arith, label_at_le c col h)
adds_le (ConfusionCount a b c k) col h = omega (arith, confusion_at_le a b c k col)
adds_le UnitCount col h = omega (arith, unit_at_le col)

-- Tables that a row changes.

pub counts_enough : (raters width : ℕ) (documents : List Document) (t : Tallies) (d : ℕ) (v : Count) → AreTables raters width documents t → d < length documents → IsCount raters width v → over_tokens (adds v) (document_at documents d).rows (document_at documents d).tokens ≤ held t v
counts_enough raters width documents t d v a h hv =
    omega (arith, a.recount v hv, over_part (adds v) documents d h)

pub counts_room : (raters width : ℕ) (documents : List Document) (t : Tallies) (d r : ℕ) (row : Option (List ℕ)) (v : Count) → AreTables raters width documents t → d < length documents → IsCount raters width v → held t v + over_tokens (adds v) (set (document_at documents d).rows r row) (document_at documents d).tokens ≤ 2 ^ 62
counts_room raters width documents t d r row v a h hv =
    omega (
      arith,
      a.recount v hv,
      over_all_le (adds v) (2 ^ 28) raters width documents (adds_le v) a.fit,
      a.tokens,
      tokens_part documents d h,
      over_tokens_le (adds v) (2 ^ 28) (set (document_at documents d).rows r row) (document_at documents d).tokens (adds_le v) (simp length-set (a.fit d h).rows.few),
    )

fits_posted : (raters width : ℕ) (documents : List Document) (d r : ℕ) (row : Option (List ℕ)) → ((e : ℕ) → e < length documents → DocumentFits (document_at documents e) raters width) → d < length documents → RowFits row (document_at documents d).tokens width → (e : ℕ) → e < length documents → DocumentFits (document_at (set documents d (with_row (document_at documents d) r row)) e) raters width
fits_posted raters width documents d r row fit h small e he =
    elim (cases_eq e d) [
      | inl q ↦
          rw (q, get_or-set_same documents d (with_row (document_at documents d) r row) no_document h)
          record {
            rows = fit_set (document_at documents d).rows r (document_at documents d).tokens width row (fit d h).rows small;
            whole = simp length-set (fit d h).whole;
          }
      | inr q ↦ rw (get_or-set_other documents d e (with_row (document_at documents d) r row) no_document q) (fit e he)
    ]

pub tables_posted : (raters width : ℕ) (documents : List Document) (t u : Tallies) (d r : ℕ) (row : Option (List ℕ)) → AreTables raters width documents t → d < length documents → RowFits row (document_at documents d).tokens width → IsShaped raters width u → ((v : Count) → IsCount raters width v → held u v + over_tokens (adds v) (document_at documents d).rows (document_at documents d).tokens ≡ held t v + over_tokens (adds v) (set (document_at documents d).rows r row) (document_at documents d).tokens) → AreTables raters width (set documents d (with_row (document_at documents d) r row)) u
tables_posted raters width documents t u d r row a h small shape each = record {
  fit = λ e l. fits_posted raters width documents d r row a.fit h small e (simp length-set at l);
  tokens = omega (arith, a.tokens, tokens_set_row documents d r row h);
  raters_few = a.raters_few;
  width_some = a.width_some;
  width_few = a.width_few;
  shape = shape;
  recount = λ v hv. omega (arith, a.recount v hv, over_set_row (adds v) documents d r row h, each v hv);
}

-- Tables that a document joins.

none_ordered : (w c k n : ℕ) → ordered w c k (replicate n None) ≡ 0
none_ordered w c k zero = ordered_nil w c k
none_ordered w c k (suc n) = omega (arith, ordered_cons w c k None (replicate n None), none_toward w c k (replicate n None), none_ordered w c k n)

none_raters : (n : ℕ) → raters_in (replicate n None) ≡ 0
unfolding raters_in
none_raters zero = refl
none_raters (suc n) = omega (arith, sum_by-cons (λ (x : Option ℕ). cond (is_some x) 1 0) None (replicate n None), none_raters n)

none_get : {A : Type 0} (n a : ℕ) → get_or {A = Option A} (replicate n None) a None ≡ None
none_get zero a = refl
none_get (suc n) zero = refl
none_get (suc n) (suc a) = none_get n a

none_column : (n i : ℕ) → column_of (replicate n None) i ≡ replicate n None
none_column zero i = refl
none_column (suc n) i = ap (λ t. None ∷ t) (none_column n i)

-- a token that no rater labels adds nothing
none_adds : (v : Count) (n : ℕ) → adds v (replicate n None) ≡ 0
unfolding coincidence_at label_at unit_at confusion_at
none_adds (CoincidenceCount c k) n = none_ordered (weight (raters_in (replicate n None))) c k n
none_adds (LabelCount c) n = ap (λ m. if nat_lt m 2 then 0 else count_by (is_label c) (replicate n None)) (none_raters n)
none_adds (ConfusionCount a b c k) n = ap (λ x. worth 1 c k x (get_or (replicate n None) b None)) (none_get n a) ∙ none_worth 1 c k (get_or (replicate n None) b None)
none_adds UnitCount n = ap (λ m. if nat_lt m 2 then 0 else 1) (none_raters n)

none_over : (v : Count) (n tokens : ℕ) → over_tokens (adds v) (replicate n None) tokens ≡ 0
unfolding over_tokens
none_over v n tokens = sum_zero (λ i. adds v (column_of (replicate n None) i)) tokens (λ i. ap (adds v) (none_column n i) ∙ none_adds v n)

blank_fits : (document : Document) (raters width : ℕ) → raters ≤ 16 → document.rows ≡ replicate raters None → DocumentFits document raters width
blank_fits document raters width few e = record {
  rows = record {
    long = λ k l. rw (e, none_get raters k) tt;
    labels = λ k i l hi. rw (e, none_get raters k) tt;
    few = rw e (omega (arith, length-replicate {A = Option (List ℕ)} raters None));
  };
  whole = rw e (length-replicate raters None);
}

fits_admitted : (raters width : ℕ) (documents : List Document) (document : Document) → ((e : ℕ) → e < length documents → DocumentFits (document_at documents e) raters width) → DocumentFits document raters width → (e : ℕ) → e < length (documents ++ document ∷ []) → DocumentFits (document_at (documents ++ document ∷ []) e) raters width
fits_admitted raters width documents document fit one e he =
    let l : e < length documents + 1 = omega (arith, length_push documents document) in
    elim (cases_lt e (length documents)) [
      | inl q ↦ rw (get_or_append_left documents (document ∷ []) no_document e q) (fit e q)
      | inr q ↦ rw (get_or_push documents document no_document e (omega arith)) one
    ]

pub tables_admitted : (raters width : ℕ) (documents : List Document) (t : Tallies) (document : Document) → AreTables raters width documents t → tokens_in documents + document.tokens ≤ 8390656 → document.rows ≡ replicate raters None → AreTables raters width (documents ++ document ∷ []) t
tables_admitted raters width documents t document a short e = record {
  fit = fits_admitted raters width documents document a.fit (blank_fits document raters width a.raters_few e);
  tokens = omega (arith, tokens_push documents document);
  raters_few = a.raters_few;
  width_some = a.width_some;
  width_few = a.width_few;
  shape = a.shape;
  recount = λ v hv.
      let z : over_tokens (adds v) document.rows document.tokens ≡ 0 = ap (λ r. over_tokens (adds v) r document.tokens) e ∙ none_over v raters document.tokens in
      omega (arith, a.recount v hv, over_admit (adds v) documents document, z);
}

-- no document, and tallies that hold nothing
pub tables_none : (raters width : ℕ) (t : Tallies) → raters ≤ 16 → 1 ≤ width → width ≤ 64 → IsShaped raters width t → ((v : Count) → IsCount raters width v → held t v ≡ 0) → AreTables raters width [] t
unfolding tokens_in over_all
tables_none raters width t few some most shape none = record {
  fit = λ d l. absurd (omega arith);
  tokens = omega arith;
  raters_few = few;
  width_some = some;
  width_few = most;
  shape = shape;
  recount = λ v hv. none v hv;
}

-- a document taken out of the pool
pub pool_blank : (raters taken room : ℕ) (ready rest : List Document) (document : Document) → IsPool raters taken room ready → ready ≡ rest ++ document ∷ [] → document.rows ≡ replicate raters None
pool_blank raters taken room ready rest document pool e =
    let l : length rest < length ready = omega (arith, ap length e, length_push rest document) in
    let at : document_at ready (length rest) ≡ document = ap (λ t. document_at t (length rest)) e ∙ get_or_push rest document no_document (length rest) refl in
    ap (λ (d : Document). d.rows) (sym at) ∙ pool.blank_rows (length rest) l

pub pool_taken : (raters taken after room more : ℕ) (ready rest : List Document) (document : Document) → IsPool raters taken room ready → ready ≡ rest ++ document ∷ [] → after ≤ taken + 1 → room ≤ more → IsPool raters after more rest
pool_taken raters taken after room more ready rest document pool e ha h =
    let l : length ready ≡ length rest + 1 = ap length e ∙ length_push rest document in
    record {
      room_left = omega (arith, pool.room_left, l, ha, h);
      few = omega (arith, pool.few, l);
      blank_rows = λ i hi.
          let at : document_at ready i ≡ document_at rest i = ap (λ t. document_at t i) e ∙ get_or_append_left rest (document ∷ []) no_document i hi in
          ap (λ (d : Document). d.rows) (sym at) ∙ pool.blank_rows i (omega (arith, l, hi));
    }
