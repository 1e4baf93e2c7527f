-- A file has no more rows than bytes, and the rows that a reader gives in turn are all of them.
use Rattle.std.proofs.Common.{◌≡◌, ◌∙◌, ℕ, ◌<◌, ◌≤◌, ◌==◌, ◌&&◌, zero, suc, Bool, true, false, cond, List, [], ◌∷◌, ◌++◌, Option, Some, None, length, refl, sym, ap, subst, arith}
use Rattle.std.proofs.lemmas.Bool.{cond_both}
use Rattle.csv.specs.Machine.{Read, step, in_field, start_field, start_record, after_end, ends_with, ends_at_end, is_end, is_byte, fields_after, field_after, next_record}
use Rattle.csv.specs.Reading.{Reached, records_from, records_next, strip_bom, is_bom}
use Rattle.csv.specs.declared.parser.Config.{Config}
use Rattle.csv.specs.declared.parser.State.{State}
use Rattle.csv.specs.declared.parser.State.TheVariants as st
use Rattle.csv.specs.declared.parser.Action.{Action}
use Rattle.csv.specs.declared.parser.Terminator.{Terminator}
use Rattle.csv.specs.declared.parser.Terminator.TheVariants as term

some_is : {X : Type 0} (a b : X) → ◌≡◌ {A = Option X} (Some a) (Some b) → a ≡ b
some_is {X} a b e = ap (λ (o : Option X). from o) e
  where
    from : Option X → X
    from None = a
    from (Some x) = x

no_truth : {P : Type 0} → false ≡ true → P
no_truth e = absurd (subst is_false e tt)
  where
    is_false : Bool → Type 0
    is_false true = ⊥
    is_false false = Unit {0}

-- where a byte ends a record, the end of the text right behind it ends none
abbrev Fresh : State × Action → Type 0
Fresh next = is_end next.1 ≡ true → ends_at_end next.0 ≡ false

after_end_fresh : (t : Terminator) (c : ℕ) → ends_at_end (after_end t c) ≡ false
after_end_fresh term.CRLF c = cond_both (c == 13) st.AfterCr st.StartRecord (λ s. ends_at_end s ≡ false) (λ _. refl) (λ _. refl)
after_end_fresh (term.Any t) c = refl

in_field_fresh : (cfg : Config) (c : ℕ) → Fresh (in_field cfg c)
in_field_fresh cfg c =
    cond_both (c == cfg.delimiter) _ _ Fresh (λ _ e. no_truth e)
    (λ _. cond_both (ends_with cfg.terminator c) _ _ Fresh (λ _ e. after_end_fresh cfg.terminator c) (λ _ e. no_truth e))

start_field_fresh : (cfg : Config) (c : ℕ) → Fresh (start_field cfg c)
start_field_fresh cfg c = cond_both (cfg.quoting && (c == cfg.quote)) _ _ Fresh (λ _ e. no_truth e) (λ _. in_field_fresh cfg c)

start_record_fresh : (cfg : Config) (c : ℕ) → Fresh (start_record cfg c)
start_record_fresh cfg c =
    cond_both (ends_with cfg.terminator c) _ _ Fresh (λ _ e. no_truth e)
    (λ _. cond_both (is_byte cfg.comment c) _ _ Fresh (λ _ e. no_truth e) (λ _. start_field_fresh cfg c))

step_fresh : (cfg : Config) (s : State) (c : ℕ) → Fresh (step cfg s c)
step_fresh cfg st.StartRecord c = start_record_fresh cfg c
step_fresh cfg st.StartField c = start_field_fresh cfg c
step_fresh cfg st.InField c = in_field_fresh cfg c
step_fresh cfg st.InQuoted c =
    cond_both (cfg.quoting && (c == cfg.quote)) _ _ Fresh (λ _ e. no_truth e)
    (λ _. cond_both (cfg.quoting && is_byte cfg.escape c) _ _ Fresh (λ _ e. no_truth e) (λ _ e. no_truth e))
step_fresh cfg st.InEscape c = λ e. no_truth e
step_fresh cfg st.AfterQuote c = cond_both (cfg.quoting && cfg.double_quote && (c == cfg.quote)) _ _ Fresh (λ _ e. no_truth e) (λ _. in_field_fresh cfg c)
step_fresh cfg st.InComment c = cond_both (c == 10) _ _ Fresh (λ _ e. no_truth e) (λ _ e. no_truth e)
step_fresh cfg st.AfterCr c = cond_both (c == 10) _ _ Fresh (λ _ e. no_truth e) (λ _. start_record_fresh cfg c)

-- a record that was read leaves fewer bytes, and a state from which no end of the text ends a record
record Shrinks (s : State) (size : ℕ) (p : Read) : Type 0 where
  fresh : ends_at_end p.1 ≡ false
  fewer : ends_at_end s ≡ false → length p.2 < size
  no_more : length p.2 ≤ size

shrinks : (cfg : Config) (s : State) (fields : List (List ℕ)) (field xs : List ℕ) (p : Read) → next_record cfg s fields field xs ≡ Some p → Shrinks s (length xs) p
unfolding next_record
shrinks cfg s fields field [] p e =
    elim (ends_at_end s) as (λ b. ends_at_end s ≡ b → ◌≡◌ {A = Option Read} (cond b (Some (fields ++ (field ∷ []), st.StartRecord, [])) None) (Some p) → Shrinks s 0 p) [
      | true ↦ λ is e. let same : (fields ++ (field ∷ []), st.StartRecord, []) ≡ p = some_is {X = Read} _ p e in
          subst (λ (p : Read). Shrinks s 0 p) same (record { fresh = refl; fewer = λ none. no_truth (sym none ∙ is); no_more = omega arith })
      | false ↦ λ is e. absurd (none_is p e)
    ] refl e
  where
    none_is : (p : Read) → ◌≡◌ {A = Option Read} None (Some p) → ⊥
    none_is p e = subst is_none e tt
      where
        is_none : Option Read → Type 0
        is_none None = Unit {0}
        is_none (Some p) = ⊥
shrinks cfg s fields field (c ∷ rest) p e =
    elim (is_end (step cfg s c).1) as (λ b. is_end (step cfg s c).1 ≡ b
    → ◌≡◌ {A = Option Read} (cond b (Some (fields_after (step cfg s c).1 fields field, (step cfg s c).0, rest)) (next_record cfg (step cfg s c).0 (fields_after (step cfg s c).1 fields field) (field_after (step cfg s c).1 c field) rest)) (Some p)
    → Shrinks s (suc (length rest)) p) [
      | true ↦ λ is e. let same : (fields_after (step cfg s c).1 fields field, (step cfg s c).0, rest) ≡ p = some_is {X = Read} _ p e in
          subst (λ (p : Read). Shrinks s (suc (length rest)) p) same (record { fresh = step_fresh cfg s c is; fewer = λ _. omega arith; no_more = omega arith })
      | false ↦ λ is e. let more = shrinks cfg (step cfg s c).0 (fields_after (step cfg s c).1 fields field) (field_after (step cfg s c).1 c field) rest p e in
          record { fresh = more.fresh; fewer = λ _. omega (arith, more.no_more); no_more = omega (arith, more.no_more) }
    ] refl e

-- the rows that were read in turn up to the end are all the rows
pub all_rows : (cfg : Config) (s s2 : State) (xs ys : List ℕ) (rows : List (List (List ℕ))) (n : ℕ) → Reached cfg s xs rows s2 ys → next_record cfg s2 [] [] ys ≡ None → ends_at_end s ≡ false → length xs < n → records_from cfg n s xs ≡ rows
unfolding Reached records_from
all_rows cfg s s2 xs ys rows zero h none fresh lt = absurd (omega (arith, lt))
all_rows cfg s s2 xs ys [] (suc n) h none fresh lt =
    ap (records_next (records_from cfg n)) (ap (λ t. next_record cfg t [] [] xs) h.0 ∙ ap (next_record cfg s2 [] []) h.1 ∙ none)
all_rows cfg s s2 xs ys (row ∷ rows) (suc n) h none fresh lt =
    let p = h.0 in
    let less = shrinks cfg s [] [] xs p h.1 in
    ap (records_next (records_from cfg n)) h.1
    ∙ ap (λ r. r ∷ records_from cfg n p.1 p.2) (sym h.2)
    ∙ ap (λ rs. row ∷ rs) (all_rows cfg p.1 s2 p.2 ys rows n h.3 none less.fresh (omega (arith, less.fewer fresh, lt)))

-- there are no more of them than bytes
pub few_rows : (cfg : Config) (s s2 : State) (xs ys : List ℕ) (rows : List (List (List ℕ))) → Reached cfg s xs rows s2 ys → ends_at_end s ≡ false → length rows ≤ length xs
unfolding Reached
few_rows cfg s s2 xs ys [] h fresh = omega arith
few_rows cfg s s2 xs ys (row ∷ rows) h fresh =
    let p = h.0 in
    let less = shrinks cfg s [] [] xs p h.1 in
    let rest = few_rows cfg p.1 s2 p.2 ys rows h.3 less.fresh in
    omega (arith, less.fewer fresh, rest)

-- a mark that is passed over makes a text no longer
pub strip_fewer : (xs : List ℕ) → length (strip_bom xs) ≤ length xs
unfolding strip_bom
strip_fewer [] = omega arith
strip_fewer (a ∷ []) = omega arith
strip_fewer (a ∷ b ∷ []) = omega arith
strip_fewer (a ∷ b ∷ c ∷ rest) = cond_both (is_bom a b c) rest (a ∷ b ∷ c ∷ rest) (λ ys. length ys ≤ suc (suc (suc (length rest)))) (λ _. omega arith) (λ _. omega arith)
