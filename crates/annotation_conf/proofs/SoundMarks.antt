-- The counts that a mark stands for.
use Rattle.std.proofs.Common.{◌≡◌, ℕ, ◌<◌, ◌^◌, ◌==◌, ◌||◌, ◌&&◌, Bool, true, false, not, cond, List, [], ◌∷◌, length, Option, Some, None, is_none, unwrap_or, get_or, nat_lt, nat_le, refl, subst, arith}
use Rattle.std.specs.List.{list_any, before_first, after_first}
use Rattle.std.specs.Str.{all_ascii_digits}
use Rattle.std.specs.Str.Parse.{digits_value}
use Rattle.std.proofs.lemmas.Bool.{and_parts, and_from, or_left, ltb-true, lt-ltb, true≢false}
use Rattle.std.proofs.lemmas.Option.{none-some, same_Some}
use Rattle.std.proofs.lemmas.Str.Parse.{IsNumeralModel, numerals_by_value, tells_all_ascii_digits, digits_value_short}
use Rattle.mark_base.specs.AnnIds.{is_canonical}
use Rattle.conf_model.specs.ConfLines.{is_enclosed, enclosed}
use Rattle.conf_model.specs.ConfPairs.{Count, number_of, range_of, count_of}
use Rattle.conf_model.specs.Sound.{has_mark}

pub own : IsNumeralModel (λ ds. all_ascii_digits ds ≡ true) (digits_value 10)
own = numerals_by_value (λ ds. all_ascii_digits ds ≡ true) tells_all_ascii_digits

some_cond : (b : Bool) (x y : Count) → cond b (Some x) None ≡ Some y → (b ≡ true) × (x ≡ y)
some_cond true x y e = (refl, same_Some x y e)
some_cond false x y e = absurd (none-some y e)

-- a number has at most two digits
number_small : (cs : List ℕ) (n : ℕ) → number_of cs ≡ Some n → n < 100
number_small cs n e = go (is_canonical cs && nat_lt (length cs) 3) refl e
  where
    go : (b : Bool) → (is_canonical cs && nat_lt (length cs) 3) ≡ b → cond b (Some (digits_value 10 cs)) None ≡ Some n → n < 100
    go false f g = absurd (none-some n g)
    go true f g =
        let both = and_parts (is_canonical cs) (nat_lt (length cs) 3) f in
        let abc = and_parts (nat_lt 0 (length cs) && nat_lt (length cs) 10 && all_ascii_digits cs) (length cs == 1 || not (get_or cs 0 0 == 48)) both.0 in
        let digits : all_ascii_digits cs ≡ true = (and_parts (nat_lt 0 (length cs) && nat_lt (length cs) 10) (all_ascii_digits cs) abc.0).1 in
        let short : length cs < 3 = ltb-true (length cs) 3 both.1 in
        let small : digits_value 10 cs < 10 ^ 2 = digits_value_short own cs 2 digits (omega arith) in
        let same : digits_value 10 cs ≡ n = same_Some (digits_value 10 cs) n g in
        omega arith

range_marked : (o p : Option ℕ) (count : Count) → ((n : ℕ) → p ≡ Some n → n < 100) → range_of o p ≡ Some count → has_mark count.least count.most ≡ true
range_marked None p count h e = absurd (none-some count e)
range_marked (Some least) None count h e = absurd (none-some count e)
range_marked (Some least) (Some most) count h e =
    let c = some_cond (nat_le least most && nat_lt 0 most) (record { least = least; most = most }) count e in
    let small : nat_lt most 100 ≡ true = lt-ltb most 100 (h most refl) in
    let own_mark : has_mark least most ≡ true =
    or_left (nat_le least most && nat_lt 0 most && nat_lt most 100) (nat_le least 1 && most == 4294967295) (and_from (nat_le least most && nat_lt 0 most) (nat_lt most 100) c.0 small) in
    subst (λ (k : Count). has_mark k.least k.most ≡ true) c.1 own_mark

-- the count of a mark has a mark
pub count_marked : (mark : List ℕ) (count : Count) → count_of mark ≡ Some count → has_mark count.least count.most ≡ true
count_marked [] count e = subst (λ (k : Count). has_mark k.least k.most ≡ true) (same_Some (record { least = 1; most = 1 }) count e) refl
count_marked (c ∷ []) count e = go (c == 63) (c == 42) (c == 43) e
  where
    go : (p q r : Bool) → cond p (Some (record { least = 0; most = 1 })) (cond q (Some (record { least = 0; most = 4294967295 })) (cond r (Some (record { least = 1; most = 4294967295 })) None)) ≡ Some count
        → has_mark count.least count.most ≡ true
    go true q r f = subst (λ (k : Count). has_mark k.least k.most ≡ true) (same_Some (record { least = 0; most = 1 }) count f) refl
    go false true r f = subst (λ (k : Count). has_mark k.least k.most ≡ true) (same_Some (record { least = 0; most = 4294967295 }) count f) refl
    go false false true f = subst (λ (k : Count). has_mark k.least k.most ≡ true) (same_Some (record { least = 1; most = 4294967295 }) count f) refl
    go false false false f = absurd (none-some count f)
count_marked (c ∷ d ∷ cs) count e =
    go (not (is_enclosed 123 125 (c ∷ d ∷ cs))) (list_any (λ e. e == 45) (enclosed (c ∷ d ∷ cs))) e
  where
    inside : List ℕ
    inside = enclosed (c ∷ d ∷ cs)

    go : (p q : Bool) → cond p None (cond q (range_of (number_of (before_first (λ e. e == 45) (enclosed (c ∷ d ∷ cs)))) (number_of (after_first (λ e. e == 45) (enclosed (c ∷ d ∷ cs)))))
        (range_of (number_of (enclosed (c ∷ d ∷ cs))) (number_of (enclosed (c ∷ d ∷ cs))))) ≡ Some count → has_mark count.least count.most ≡ true
    go true q f = absurd (none-some count f)
    go false true f =
        range_marked (number_of (before_first (λ e. e == 45) (enclosed (c ∷ d ∷ cs)))) (number_of (after_first (λ e. e == 45) (enclosed (c ∷ d ∷ cs)))) count
        (number_small (after_first (λ e. e == 45) (enclosed (c ∷ d ∷ cs)))) f
    go false false f = range_marked (number_of (enclosed (c ∷ d ∷ cs))) (number_of (enclosed (c ∷ d ∷ cs))) count (number_small (enclosed (c ∷ d ∷ cs))) f

-- a mark that is not at fault
pub mark_counts : (mark : List ℕ) → is_none (count_of mark) ≡ false
    → has_mark (unwrap_or (count_of mark) (record { least = 1; most = 1 })).least (unwrap_or (count_of mark) (record { least = 1; most = 1 })).most ≡ true
mark_counts mark e = go (count_of mark) refl e
  where
    go : (o : Option Count) → count_of mark ≡ o → is_none o ≡ false → has_mark (unwrap_or o (record { least = 1; most = 1 })).least (unwrap_or o (record { least = 1; most = 1 })).most ≡ true
    go None f g = absurd (true≢false g)
    go (Some count) f g = count_marked mark count f
