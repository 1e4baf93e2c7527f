-- A mark that is written for two counts stands for them.
use Rattle.std.proofs.Common.{◌≡◌, ℕ, ◌+◌, ◌-◌, ◌<◌, ◌≤◌, ◌^◌, ◌==◌, ◌||◌, ◌&&◌, Bool, true, false, not, cond, List, [], ◌∷◌, ◌++◌, length, get_or, slice_index, Option, Some, None, codes, decimal, nat_lt, nat_le, zero, suc, refl, sym, ◌∙◌, ap, ap₂, arith, inl, inr, append_assoc}
use Rattle.std.specs.List.{AllByRecursion as Each, list_any, before_first, after_first}
use Rattle.std.specs.Char.{is_ascii_digit}
use Rattle.std.specs.Str.{all_ascii_digits}
use Rattle.std.specs.Str.Parse.{digits_value}
use Rattle.std.proofs.lemmas.Bool.{and_parts, and_from, or_cases, ltb-true, lt-ltb, leb-true, le-leb, eqb-true, eq-eqb, ne_eqb, cond-true, cond-false, true≢false, cases_lt}
use Rattle.std.proofs.lemmas.List.{take_at, get_or_at, length-append}
use Rattle.std.proofs.lemmas.Fmt.{digits_decimal, digits_value-decimal, decimal_nonempty, length-decimal-le, first_decimal, decimal_digit}
use Rattle.mark_base.specs.AnnIds.{is_canonical}
use Rattle.conf_model.specs.ConfLines.{is_enclosed, enclosed}
use Rattle.conf_model.specs.ConfPairs.{Count, number_of, range_of, count_of}
use Rattle.conf_model.specs.ConfText.{mark_text}
use Rattle.conf_model.specs.Sound.{has_mark}
use Rattle.annotation_conf.proofs.SoundMarks.{own}
use Rattle.annotation_conf.proofs.SoundLists.{none_passes}
use Rattle.annotation_conf.proofs.WrittenLists.{before_at, after_at, any_at}

-- a number below 100 is written as one
leads_from : (one none : Bool) → (none ≡ true → one ≡ true) → (one || not none) ≡ true
leads_from true none h = refl
leads_from false true h = h refl
leads_from false false h = refl

leads_decimal : (n : ℕ) → n < 2 ^ 64 → get_or (decimal n) 0 0 ≡ 48 → length (decimal n) ≡ 1
leads_decimal zero fits e = ap length (decimal_digit 0 (omega arith))
leads_decimal (suc n) fits e = absurd (omega (arith, first_decimal (suc n) (omega arith) fits))

number_again : (n : ℕ) → n < 100 → number_of (decimal n) ≡ Some n
number_again n small =
    let fits : n < 2 ^ 64 = omega arith in
    let some : 0 < length (decimal n) = decimal_nonempty n fits in
    let few : length (decimal n) ≤ 2 = length-decimal-le 2 n (omega arith) (omega arith) fits in
    let digits : all_ascii_digits (decimal n) ≡ true = digits_decimal own n fits in
    let canonical : is_canonical (decimal n) ≡ true =
    and_from (nat_lt 0 (length (decimal n)) && nat_lt (length (decimal n)) 10 && all_ascii_digits (decimal n)) (length (decimal n) == 1 || not (slice_index (decimal n) 0 == 48))
    (and_from (nat_lt 0 (length (decimal n)) && nat_lt (length (decimal n)) 10) (all_ascii_digits (decimal n))
    (and_from (nat_lt 0 (length (decimal n))) (nat_lt (length (decimal n)) 10) (lt-ltb 0 (length (decimal n)) some) (lt-ltb (length (decimal n)) 10 (omega arith)))
    digits)
    (leads_from (length (decimal n) == 1) (slice_index (decimal n) 0 == 48)
    (λ z. eq-eqb (length (decimal n)) 1 (leads_decimal n fits (eqb-true (slice_index (decimal n) 0) 48 z)))) in
    cond-true (is_canonical (decimal n) && nat_lt (length (decimal n)) 3) (Some (digits_value 10 (decimal n))) None
    (and_from (is_canonical (decimal n)) (nat_lt (length (decimal n)) 3) canonical (lt-ltb (length (decimal n)) 3 (omega arith)))
    ∙ ap Some (digits_value-decimal own n fits)

-- digits are no hyphen
digits_plain : (ds : List ℕ) → all_ascii_digits ds ≡ true → Each (λ c. (c == 45) ≡ false) ds
digits_plain [] e = tt
digits_plain (d ∷ ds) e =
    let both = and_parts (is_ascii_digit d) (all_ascii_digits ds) e in (ne_eqb d 45 (λ f. true≢false (sym both.0 ∙ ap is_ascii_digit f)), digits_plain ds both.1)

-- what stands in braces
braced : (inside : List ℕ) → 0 < length inside → count_of (123 ∷ (inside ++ 125 ∷ []))
    ≡ cond (list_any (λ e. e == 45) inside) (range_of (number_of (before_first (λ e. e == 45) inside)) (number_of (after_first (λ e. e == 45) inside))) (range_of (number_of inside) (number_of inside))
braced [] some = absurd (omega arith)
braced (d ∷ ds) some =
    let size : length (ds ++ 125 ∷ []) ≡ length ds + 1 = length-append ds (125 ∷ []) in
    let last : slice_index (123 ∷ d ∷ (ds ++ 125 ∷ [])) (length (123 ∷ d ∷ (ds ++ 125 ∷ [])) - 1) ≡ 125 = get_or_at (123 ∷ d ∷ ds) 125 [] 0 (length (123 ∷ d ∷ (ds ++ 125 ∷ [])) - 1) (omega arith) in
    let shut : is_enclosed 123 125 (123 ∷ d ∷ (ds ++ 125 ∷ [])) ≡ true =
    and_from (nat_lt 1 (length (123 ∷ d ∷ (ds ++ 125 ∷ []))) && true) (slice_index (123 ∷ d ∷ (ds ++ 125 ∷ [])) (length (123 ∷ d ∷ (ds ++ 125 ∷ [])) - 1) == 125)
    (and_from (nat_lt 1 (length (123 ∷ d ∷ (ds ++ 125 ∷ [])))) true (lt-ltb 1 (length (123 ∷ d ∷ (ds ++ 125 ∷ []))) (omega arith)) refl)
    (eq-eqb (slice_index (123 ∷ d ∷ (ds ++ 125 ∷ [])) (length (123 ∷ d ∷ (ds ++ 125 ∷ [])) - 1)) 125 last) in
    let inside : enclosed (123 ∷ d ∷ (ds ++ 125 ∷ [])) ≡ d ∷ ds = take_at (d ∷ ds) (125 ∷ []) (length (123 ∷ d ∷ (ds ++ 125 ∷ [])) - 2) (omega arith) in
    ap (λ b. cond (not b) None (cond (list_any (λ e. e == 45) (enclosed (123 ∷ d ∷ (ds ++ 125 ∷ []))))
    (range_of (number_of (before_first (λ e. e == 45) (enclosed (123 ∷ d ∷ (ds ++ 125 ∷ []))))) (number_of (after_first (λ e. e == 45) (enclosed (123 ∷ d ∷ (ds ++ 125 ∷ []))))))
    (range_of (number_of (enclosed (123 ∷ d ∷ (ds ++ 125 ∷ [])))) (number_of (enclosed (123 ∷ d ∷ (ds ++ 125 ∷ []))))))) shut
    ∙ ap (λ (cs : List ℕ). cond (list_any (λ e. e == 45) cs) (range_of (number_of (before_first (λ e. e == 45) cs)) (number_of (after_first (λ e. e == 45) cs))) (range_of (number_of cs) (number_of cs))) inside

range_again : (least most : ℕ) → least ≤ most → 0 < most → range_of (Some least) (Some most) ≡ Some (record { least = least; most = most })
range_again least most a b =
    cond-true (nat_le least most && nat_lt 0 most) (Some (record { least = least; most = most })) None (and_from (nat_le least most) (nat_lt 0 most) (le-leb least most a) (lt-ltb 0 most b))

one_again : (n : ℕ) → 0 < n → n < 100 → count_of (codes "{" ++ decimal n ++ codes "}") ≡ Some (record { least = n; most = n })
one_again n some small =
    let digits : Each (λ c. (c == 45) ≡ false) (decimal n) = digits_plain (decimal n) (digits_decimal own n (omega arith)) in
    braced (decimal n) (decimal_nonempty n (omega arith))
    ∙ cond-false (list_any (λ e. e == 45) (decimal n)) _ (range_of (number_of (decimal n)) (number_of (decimal n))) (none_passes (λ e. e == 45) (decimal n) digits)
    ∙ ap₂ range_of (number_again n small) (number_again n small) ∙ range_again n n (omega arith) some

two_again : (least most : ℕ) → least ≤ most → 0 < most → most < 100 → count_of (codes "{" ++ decimal least ++ codes "-" ++ decimal most ++ codes "}") ≡ Some (record { least = least; most = most })
two_again least most a b small =
    let front : Each (λ c. (c == 45) ≡ false) (decimal least) = digits_plain (decimal least) (digits_decimal own least (omega arith)) in
    let inside : List ℕ = decimal least ++ 45 ∷ decimal most in
    let some : 0 < length (decimal least ++ 45 ∷ decimal most) = omega (arith, length-append (decimal least) (45 ∷ decimal most)) in
    let same : (decimal least ++ codes "-" ++ decimal most) ≡ decimal least ++ 45 ∷ decimal most = append_assoc (decimal least) (45 ∷ []) (decimal most) in
    ap (λ (cs : List ℕ). count_of (123 ∷ (cs ++ 125 ∷ []))) same
    ∙ braced (decimal least ++ 45 ∷ decimal most) some
    ∙ cond-true (list_any (λ e. e == 45) (decimal least ++ 45 ∷ decimal most)) (range_of (number_of (before_first (λ e. e == 45) (decimal least ++ 45 ∷ decimal most))) (number_of (after_first (λ e. e == 45) (decimal least ++ 45 ∷ decimal most)))) _
    (any_at (λ e. e == 45) (decimal least) 45 (decimal most) refl)
    ∙ ap₂ range_of
    (ap number_of (before_at (λ e. e == 45) (decimal least) 45 (decimal most) front refl) ∙ number_again least (omega arith))
    (ap number_of (after_at (λ e. e == 45) (decimal least) 45 (decimal most) front refl) ∙ number_again most small)
    ∙ range_again least most a b

-- the counts of a mark
record AreCounts (least most : ℕ) : Type 0 where
  low : least ≤ most
  some : 0 < most
  small : most < 100

counts_of : (least most : ℕ) → has_mark least most ≡ true → (least ≡ 0 → most ≡ 4294967295 → ⊥) → (least ≡ 1 → most ≡ 4294967295 → ⊥) → AreCounts least most
counts_of least most e no_star no_plus =
    elim (or_cases (nat_le least most && nat_lt 0 most && nat_lt most 100) (nat_le least 1 && most == 4294967295) e) [
      | inl braces ↦
          (let abc = and_parts (nat_le least most && nat_lt 0 most) (nat_lt most 100) braces in
          let ab = and_parts (nat_le least most) (nat_lt 0 most) abc.0 in
          record { low = leb-true least most ab.0; some = ltb-true 0 most ab.1; small = ltb-true most 100 abc.1 })
      | inr many ↦
          (let ab = and_parts (nat_le least 1) (most == 4294967295) many in
          let low : least ≤ 1 = leb-true least 1 ab.0 in
          let all : most ≡ 4294967295 = eqb-true most 4294967295 ab.1 in
          absurd (elim (cases_lt 0 least) [ inl lt ↦ no_plus (omega arith) all | inr ge ↦ no_star (omega arith) all ]))
    ]

both_are : (a b n m : ℕ) → (a == n && b == m) ≡ true → (n ≡ a) × (m ≡ b)
both_are a b n m e = let both = and_parts (a == n) (b == m) e in (sym (eqb-true a n both.0), sym (eqb-true b m both.1))

not_both : (a b n m : ℕ) → (a == n && b == m) ≡ false → a ≡ n → b ≡ m → ⊥
not_both a b n m e p q = true≢false (sym (and_from (a == n) (b == m) (eq-eqb a n p) (eq-eqb b m q)) ∙ e)

pub count_again : (least most : ℕ) → has_mark least most ≡ true → count_of (mark_text least most) ≡ Some (record { least = least; most = most })
count_again least most mark =
    go (least == 1 && most == 1) (least == 0 && most == 1) (least == 0 && most == 4294967295) (least == 1 && most == 4294967295) (least == most) refl refl refl refl refl
  where
    counts : ℕ → ℕ → Option Count
    counts n m = Some (record { least = n; most = m })

    go : (a b c d e : Bool) → (least == 1 && most == 1) ≡ a → (least == 0 && most == 1) ≡ b → (least == 0 && most == 4294967295) ≡ c → (least == 1 && most == 4294967295) ≡ d → (least == most) ≡ e
        → count_of (cond a [] (cond b (codes "?") (cond c (codes "*") (cond d (codes "+") (cond e (codes "{" ++ decimal least ++ codes "}") (codes "{" ++ decimal least ++ codes "-" ++ decimal most ++ codes "}"))))))
        ≡ Some (record { least = least; most = most })
    go true b c d e p q r s t = let both = both_are least most 1 1 p in ap₂ (λ (n m : ℕ). Some (record { least = n; most = m })) both.0 both.1
    go false true c d e p q r s t = let both = both_are least most 0 1 q in ap₂ (λ (n m : ℕ). Some (record { least = n; most = m })) both.0 both.1
    go false false true d e p q r s t = let both = both_are least most 0 4294967295 r in ap₂ (λ (n m : ℕ). Some (record { least = n; most = m })) both.0 both.1
    go false false false true e p q r s t = let both = both_are least most 1 4294967295 s in ap₂ (λ (n m : ℕ). Some (record { least = n; most = m })) both.0 both.1
    go false false false false true p q r s t =
        let k = counts_of least most mark (not_both least most 0 4294967295 r) (not_both least most 1 4294967295 s) in
        let same : least ≡ most = eqb-true least most t in
        one_again least (let some = k.some in omega arith) (let small = k.small in omega arith) ∙ ap (λ (m : ℕ). Some (record { least = least; most = m })) same
    go false false false false false p q r s t =
        let k = counts_of least most mark (not_both least most 0 4294967295 r) (not_both least most 1 4294967295 s) in
        two_again least most k.low k.some k.small
