-- A slug has at most 64 bytes.
use Rattle.std.proofs.Common.{◌≡◌, ℕ, ◌<◌, ◌≤◌, Bool, true, false, cond, eqb, ltb, List, length, get_or, Option, Some, None, refl, sym, ap, ◌∙◌, chars, position, arith, inl, inr}
use Rattle.std.specs.Prelude.{option_map, slice_index}
use Rattle.std.specs.List.{position_or_len}
use Rattle.std.specs.Str.{IsUtf8, IsAscii}
use Rattle.std.proofs.lemmas.Bool.{cases_lt, ltb-false}
use Rattle.std.proofs.lemmas.Bool.Decides.{nat_tests}
use Rattle.std.proofs.lemmas.List.{get_or_past}
use Rattle.std.proofs.lemmas.List.Sums.{fails_before_first}
use Rattle.std.proofs.lemmas.Str.{encodes-chars, encodes-IsAscii}
use Rattle.mark_base.specs.declared.name.NameFault.TheVariants.{Empty, TooLong, BadChar}
use Rattle.mark_base.specs.Names.{is_barred_in_slug, bad_in_slug, slug_fault}

low : (c : ℕ) → is_barred_in_slug c ≡ false → c < 128
low c free = grind (arith, nat_tests)

cond_none : {A : Type 0} (b : Bool) (x : A) (o : Option A) → cond b (Some x) o ≡ None → (b ≡ false) × (o ≡ None)
cond_none true x o e = absurd cc
cond_none false x o e = (refl, e)

map_none : {A B : Type 0} (f : A → B) (o : Option A) → option_map f o ≡ None → o ≡ None
map_none f None e = refl
map_none f (Some x) e = absurd cc

-- none of the characters passes
each_fails : (p : ℕ → Bool) (cs : List ℕ) → position p cs ≡ None → (k : ℕ) → k < length cs → p (get_or cs k 0) ≡ false
each_fails p cs e k lt =
    let n = cond_none (ltb (position_or_len p cs) (length cs)) (position_or_len p cs) None e in
    let past : length cs ≤ position_or_len p cs = ltb-false _ _ n.0 in
    fails_before_first p cs k 0 (omega arith)

ascii_chars : (cs : List ℕ) → position is_barred_in_slug cs ≡ None → IsAscii cs
ascii_chars cs e k =
    elim (cases_lt k (length cs)) [
      | inl lt ↦ low (get_or cs k 0) (each_fails is_barred_in_slug cs e k lt)
      | inr le ↦ rw (get_or_past cs k 0 le) (omega arith)
    ]

pub slug_size : (slug : List ℕ) → IsUtf8 slug → slug_fault slug ≡ None → length slug < 256
unfolding slug_fault
slug_size slug utf8 e =
    let cs = chars slug in
    let a = cond_none (eqb (length cs) 0) Empty (cond (ltb 64 (length cs)) (Some TooLong) (option_map BadChar (bad_in_slug slug))) e in
    let b = cond_none (ltb 64 (length cs)) TooLong (option_map BadChar (bad_in_slug slug)) a.1 in
    let few : length cs ≤ 64 = ltb-false _ _ b.0 in
    let d = cond_none (eqb (slice_index slug 0) 46) 0 (position is_barred_in_slug cs) (map_none BadChar (bad_in_slug slug) b.1) in
    let same : slug ≡ cs = sym (encodes-chars slug utf8) ∙ encodes-IsAscii cs (ascii_chars cs d.1) in
    omega (arith, ap length same)
