-- A name has at most 256 bytes.
use Rattle.std.proofs.Common.{◌≡◌, ℕ, ◌*◌, ◌≤◌, Bool, true, false, cond, eqb, ltb, List, [], ◌∷◌, length, Option, Some, None, refl, ap, chars, position, arith}
use Rattle.std.specs.Prelude.{option_map}
use Rattle.std.specs.Str.{IsUtf8}
use Rattle.std.proofs.Math.Utf8.{encode, encodes}
use Rattle.std.proofs.lemmas.Bool.{ltb-false}
use Rattle.std.proofs.lemmas.List.{length-append}
use Rattle.std.proofs.lemmas.Str.{encodes-chars, length-encode, len_utf8_bounds}
use Rattle.mark_base.specs.declared.name.NameFault.TheVariants.{Empty, TooLong, BadChar}
use Rattle.mark_base.specs.Names.{is_barred, name_fault}

-- a character has at most four bytes
encoded_size : (cs : List ℕ) → length (encodes cs) ≤ 4 * length cs
encoded_size [] = omega arith
encoded_size (c ∷ cs) = omega (arith, length-append (encode c) (encodes cs), length-encode c, (len_utf8_bounds c).1, encoded_size cs)

cond_none : {A : Type 0} (b : Bool) (x : A) (o : Option A) → cond b (Some x) o ≡ None → (b ≡ false) × (o ≡ None)
cond_none true x o e = absurd cc
cond_none false x o e = (refl, e)

pub name_size : (name : List ℕ) → IsUtf8 name → name_fault name ≡ None → length name ≤ 256
unfolding name_fault
name_size name utf8 e =
    let cs = chars name in
    let a = cond_none (eqb (length cs) 0) Empty (cond (ltb 64 (length cs)) (Some TooLong) (option_map BadChar (position is_barred cs))) e in
    let b = cond_none (ltb 64 (length cs)) TooLong (option_map BadChar (position is_barred cs)) a.1 in
    let few : length cs ≤ 64 = ltb-false _ _ b.0 in
    omega (arith, encoded_size cs, ap length (encodes-chars name utf8))
