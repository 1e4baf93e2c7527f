-- Numbers that fit, how many there are, and the greatest of them.
use Rattle.std.proofs.Common.{◌≡◌, ℕ, ◌+◌, ◌<◌, ◌≤◌, zero, suc, Bool, true, false, ◌||◌, List, [], ◌∷◌, length, get_or, refl, sym, ◌∙◌, ap, subst, Option, Some, None, cond, is_some, unwrap_or, arith}
use Rattle.std.specs.Ordering.{nat_cmp, eq_by_cmp, is_lt, is_eq}
use Rattle.std.specs.Cmp.{nat_cmp_total, ranked, tied_itself}
use Rattle.std.specs.List.{All, AllByRecursion, list_any, slice_get}
use Rattle.std.specs.List.Sorted.{IsStrictlySortedBy}
use Rattle.std.specs.BTreeMap.{is_at}
use Rattle.std.specs.Map.{lookup, keys_of}
use Rattle.std.specs.FinMap as finite
use Rattle.std.specs.FinMap.{from_entries, get-insert, get-remove, get-empty, contains_key-keys, nat_cmp-IsAntisymmetric, len-entries}
use Rattle.std.specs.declared.cmp.Ordering.{Ordering}
use Rattle.std.specs.declared.cmp.Ordering.TheVariants.{Less, Equal, Greater}
use Rattle.layer_model.specs.Numbers.{NumbersFit, greatest_of}
use Rattle.layer_model.proofs.Maps.{inserted, removed, same_list}

pub NumbersFit-empty : (X : Type 0) → NumbersFit (finite.empty {K = ℕ} {X = X} {R = nat_cmp})
NumbersFit-empty X n h = let none : is_some (finite.get (finite.empty {K = ℕ} {X = X} {R = nat_cmp}) n) ≡ false = ap is_some (get-empty nat_cmp n) in cc

pub NumbersFit-insert : {X : Type 0} (m : finite.FinMap nat_cmp X) (k : ℕ) (v : X) → NumbersFit m → k ≤ 999999999 → NumbersFit (finite.insert m k v)
NumbersFit-insert {X} m k v fit within n h =
    elim (eq_by_cmp nat_cmp n k) as (λ b. eq_by_cmp nat_cmp n k ≡ b → is_some (cond b (Some v) (finite.get m n)) ≡ true → n ≤ 999999999) [
      | true ↦ λ e _. subst (λ x. x ≤ 999999999) (sym (same n k e)) within
      | false ↦ λ e g. fit n g
    ] refl (ap is_some (sym (get-insert nat_cmp_total m k v n)) ∙ h)
  where
    equal : (r : Ordering) → is_eq r ≡ true → r ≡ Equal
    equal Less p = cc
    equal Equal p = refl
    equal Greater p = cc

    same : (a b : ℕ) → eq_by_cmp nat_cmp a b ≡ true → a ≡ b
    same a b e = nat_cmp-IsAntisymmetric a b (equal _ e)

pub NumbersFit-remove : {X : Type 0} (m : finite.FinMap nat_cmp X) (k : ℕ) → NumbersFit m → NumbersFit (finite.remove m k)
NumbersFit-remove m k fit n h =
    elim (eq_by_cmp nat_cmp n k) as (λ b. is_some (cond b None (finite.get m n)) ≡ true → n ≤ 999999999) [
      | true ↦ λ g. cc
      | false ↦ λ g. fit n g
    ] (ap is_some (sym (get-remove nat_cmp_total m k n)) ∙ h)

pub fits_inserted : {X : Type 0} (es fs : List (ℕ × X)) (k : ℕ) (v : X)
    → ((q : ℕ) → lookup (is_at (nat_cmp q)) fs ≡ cond (is_at (nat_cmp k) q) (Some v) (lookup (is_at (nat_cmp q)) es))
    → NumbersFit (from_entries {R = nat_cmp} es) → k ≤ 999999999 → NumbersFit (from_entries {R = nat_cmp} fs)
fits_inserted {X} es fs k v same fit within =
    subst (λ (m : finite.FinMap nat_cmp X). NumbersFit m) (sym (inserted es fs k v same)) (NumbersFit-insert _ k v fit within)

pub fits_removed : {X : Type 0} (es fs : List (ℕ × X)) (k : ℕ)
    → ((q : ℕ) → lookup (is_at (nat_cmp q)) fs ≡ cond (is_at (nat_cmp k) q) None (lookup (is_at (nat_cmp q)) es))
    → NumbersFit (from_entries {R = nat_cmp} es) → NumbersFit (from_entries {R = nat_cmp} fs)
fits_removed {X} es fs k same fit =
    subst (λ (m : finite.FinMap nat_cmp X). NumbersFit m) (sym (removed es fs k same)) (NumbersFit-remove _ k fit)

-- ascending numbers of a range are no more than the range has
few_above : (low high : ℕ) (ks : List ℕ) → low ≤ high + 1 → AllByRecursion (λ k. low ≤ k) ks → AllByRecursion (λ k. k ≤ high) ks → IsStrictlySortedBy nat_cmp ks → length ks + low ≤ high + 1
unfolding IsStrictlySortedBy
few_above low high [] h above below up = omega arith
few_above low high (k ∷ ks) h above below up =
    let here : k ≤ high = below.0 in
    let there : low ≤ k = above.0 in
    omega (arith, few_above (k + 1) high ks (omega arith) (later ks up.0) below.1 up.1)
  where
    later : (xs : List ℕ) → AllByRecursion (λ y. nat_cmp k y ≡ Less) xs → AllByRecursion (λ x. k + 1 ≤ x) xs
    later [] all = tt
    later (x ∷ xs) all = let less : k < x = ranked k x Less (sym all.0) in (omega arith, later xs all.1)

or_right : (a b : Bool) → b ≡ true → (a || b) ≡ true
or_right true b e = refl
or_right false b e = e

at_itself : (k : ℕ) (b : Bool) → (eq_by_cmp nat_cmp k k || b) ≡ true
at_itself k b = ap (λ r. is_eq r || b) (tied_itself nat_cmp_total k)

each_fits : (high : ℕ) (ks : List ℕ) → ((q : ℕ) → list_any (eq_by_cmp nat_cmp q) ks ≡ true → q ≤ high) → AllByRecursion (λ k. k ≤ high) ks
each_fits high [] f = tt
each_fits high (k ∷ ks) f = (f k (at_itself k _), each_fits high ks (λ q h. f q (or_right _ _ h)))

none_below : (ks : List ℕ) → AllByRecursion (λ k. 0 ≤ k) ks
none_below [] = tt
none_below (k ∷ ks) = (omega arith, none_below ks)

-- there are at most a thousand million annotations of one letter
pub few : {X : Type 0} (es : List (ℕ × X)) → IsStrictlySortedBy nat_cmp (keys_of es) → NumbersFit (from_entries {R = nat_cmp} es) → length es ≤ 1000000000
few {X} es up fit =
    let same : finite.entries (from_entries {R = nat_cmp} es) ≡ es = same_list es up in
    let all : AllByRecursion (λ k. k ≤ 999999999) (keys_of es) =
    each_fits 999999999 (keys_of es) (λ q h. fit q (contains_key-keys (from_entries {R = nat_cmp} es) q ∙ ap (λ (xs : List (ℕ × X)). list_any (eq_by_cmp nat_cmp q) (keys_of xs)) same ∙ h)) in
    omega (arith, few_above 0 999999999 (keys_of es) (omega arith) (none_below _) all up, length_keys es)
  where
    length_keys : (xs : List (ℕ × X)) → length (keys_of xs) ≡ length xs
    length_keys [] = refl
    length_keys (x ∷ xs) = ap suc (length_keys xs)

pub counted : {X : Type 0} (es : List (ℕ × X)) → IsStrictlySortedBy nat_cmp (keys_of es) → length es ≡ finite.len (from_entries {R = nat_cmp} es)
counted es up = sym (len-entries _ ∙ ap length (same_list es up))

-- the greatest number is the one that stands and that no other passes
greatest_at : (ks : List ℕ) (i n : ℕ) → slice_get ks i ≡ Some n → ((k : ℕ) (d : ℕ) → k < length ks → get_or ks k d ≤ n) → greatest_of ks ≡ Some n
greatest_at [] i n is most = cc
greatest_at (k ∷ ks) i n is most = ap Some (top (k ∷ ks) i n is most)
  where
    bound : (xs : List ℕ) (m : ℕ) → ((j : ℕ) (d : ℕ) → j < length xs → get_or xs j d ≤ m) → unwrap_or (greatest_of xs) 0 ≤ m
    bound [] m h = omega arith
    bound (x ∷ xs) m h =
        let first : x ≤ m = h 0 0 (omega arith) in
        omega (arith, bound xs m (λ j d l. h (suc j) d (omega arith)))

    reached : (xs : List ℕ) (j m : ℕ) → slice_get xs j ≡ Some m → m ≤ unwrap_or (greatest_of xs) 0
    reached [] j m e = absurd (let e2 : ◌≡◌ {A = Option ℕ} None (Some m) = e in cc)
    reached (x ∷ xs) zero m e = let same : x ≡ m = ap (λ o. unwrap_or o 0) e in omega arith
    reached (x ∷ xs) (suc j) m e = omega (arith, reached xs j m e)

    top : (xs : List ℕ) (j m : ℕ) → slice_get xs j ≡ Some m → ((a : ℕ) (d : ℕ) → a < length xs → get_or xs a d ≤ m) → unwrap_or (greatest_of xs) 0 ≡ m
    top xs j m e h = omega (arith, bound xs m h, reached xs j m e)

pub greatest_is : {X : Type 0} (es : List (ℕ × X)) (i n : ℕ) (v : X) → IsStrictlySortedBy nat_cmp (keys_of es) → slice_get es i ≡ Some (n, v)
    → All (λ q. is_lt (nat_cmp n q) ≡ false) (keys_of es) → Some n ≡ greatest_of (finite.keys (from_entries {R = nat_cmp} es))
greatest_is {X} es i n v up is most =
    sym (ap (λ (xs : List (ℕ × X)). greatest_of (keys_of xs)) (same_list es up) ∙ greatest_at (keys_of es) i n (key es i is) (λ k d h. no_less n _ (most k d h)))
  where
    key : (xs : List (ℕ × X)) (j : ℕ) → slice_get xs j ≡ Some (n, v) → slice_get (keys_of xs) j ≡ Some n
    key [] j e = absurd (let e2 : ◌≡◌ {A = Option (ℕ × X)} None (Some (n, v)) = e in cc)
    key (x ∷ xs) zero e = ap (λ o. Some (unwrap_or o x).0) e
    key (x ∷ xs) (suc j) e = key xs j e

    no_less : (a b : ℕ) → is_lt (nat_cmp a b) ≡ false → b ≤ a
    no_less a b e = elim (nat_cmp a b) as (λ r. r ≡ nat_cmp a b → is_lt r ≡ false → b ≤ a) [
      | Less ↦ λ _ f. absurd (let f2 : true ≡ false = f in cc)
      | Equal ↦ λ w _. let same : a ≡ b = ranked a b Equal w in omega arith
      | Greater ↦ λ w _. let less : b < a = ranked a b Greater w in omega arith
    ] refl e

pub greatest_none : {X : Type 0} (es : List (ℕ × X)) → length es ≡ 0 → None ≡ greatest_of (finite.keys (from_entries {R = nat_cmp} es))
unfolding IsStrictlySortedBy
greatest_none {X} es e = sym (ap (λ (xs : List (ℕ × X)). greatest_of (finite.keys (from_entries {R = nat_cmp} xs))) (nothing es e) ∙ empty)
  where
    nothing : (xs : List (ℕ × X)) → length xs ≡ 0 → xs ≡ []
    nothing [] h = refl
    nothing (x ∷ xs) h = absurd (omega arith)

    empty : greatest_of (finite.keys (from_entries {K = ℕ} {X = X} {R = nat_cmp} [])) ≡ None
    empty = ap (λ (xs : List (ℕ × X)). greatest_of (keys_of xs)) (same_list [] tt)
