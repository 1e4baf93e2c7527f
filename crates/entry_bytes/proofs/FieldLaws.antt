-- Each field is read as it was written.
use Rattle.std.proofs.Common.{◌≡◌, ℕ, zero, suc, ◌^◌, ◌<◌, Bool, true, false, cond, eqb, ltb, List, [], ◌∷◌, ◌++◌, length, Option, Some, None, refl, sym, ap, subst, ◌∙◌, append_assoc, arith}
use Rattle.std.specs.Prelude.{option_map, is_none, ◌&&◌, ⊤}
use Rattle.std.specs.Int.{w32, w64, from_le_bytes, to_le_bytes}
use Rattle.std.specs.Str.{is_utf8}
use Rattle.std.specs.List.{flat_map, AllByRecursion}
use Rattle.std.proofs.lemmas.Bool.{ltb-true, lt-ltb}
use Rattle.std.proofs.lemmas.Option.{some_pair_parts}
use Rattle.std.proofs.lemmas.Str.{IsUtf8-from_is_utf8, is_utf8-from_IsUtf8}
use Rattle.std.proofs.lemmas.List.Concat.{flat_map-cons}
use Rattle.std.proofs.lemmas.Nat.{le_bytes_4, le_bytes_8, from_le_bytes-to_le_bytes_4, from_le_bytes-to_le_bytes_8}
use Rattle.mark_base.specs.Names.{slug_fault}
use Rattle.entry_bytes.specs.declared.person.Person.{Person}
use Rattle.entry_bytes.specs.Fields.{u32_bytes, u64_bytes, flag, slug_bytes, text_bytes, person_bytes, people_bytes, IsText, IsSlug, ArePeople}
use Rattle.entry_bytes.specs.Reading.{◌&◌, passing, front_at, byte_at, below_at, flag_at, u32_at, u64_at, is_slug, slug_at, text_at, person_of, person_at, people_on, people_at}
use Rattle.entry_bytes.proofs.Exact.{IsBytes, IsBytes-rest, and_then_some, map_some, cond_some, Takes, Takes-then, Taking, Again, both_take, both_again, front_takes, front_again}

-- ---- bytes

abbrev pub one : ℕ → List ℕ
one byte = byte ∷ []

pub byte_takes : Taking one (λ byte. byte < 256) byte_at
byte_takes = record { takes = takes_byte }
  where
    takes_byte : (bytes : List ℕ) (a : ℕ) (rest : List ℕ) → IsBytes bytes → byte_at bytes ≡ Some (a, rest) → Takes bytes (one a) rest × (a < 256)
    takes_byte [] a rest fits e = absurd cc
    takes_byte (b ∷ bytes) a rest fits e =
        let same = some_pair_parts b a bytes rest e in
        subst (λ (x : ℕ × List ℕ). Takes (b ∷ bytes) (one x.0) x.1 × (x.0 < 256)) (λ i. (same.0 i, same.1 i)) (record { parts = refl; rest_fits = IsBytes-rest b bytes fits }, fits 0)

pub byte_again : Again one (λ byte. byte < 256) byte_at
byte_again = record { again = λ a rest fits. refl }

-- a field that passes a test
pub record Passes {A : Type 0} (test : A → Bool) (o : Option (A × List ℕ)) (a : A) (rest : List ℕ) : Type 0 where
  pub field : o ≡ Some (a, rest)
  pub test_is : test a ≡ true

pub passes : {A : Type 0} (test : A → Bool) (field : List ℕ → Option (A × List ℕ)) (bytes : List ℕ) (a : A) (rest : List ℕ) → passing test field bytes ≡ Some (a, rest) → Passes test (field bytes) a rest
passes {A = A} test field bytes a rest e =
    let x = and_then_some (λ (x : A × List ℕ). cond (test x.0) (Some x) None) (field bytes) (a, rest) e in
    let g = cond_some (test x.0.0) x.0 (a, rest) x.2 in
    record { field = x.1 ∙ ap (λ (y : A × List ℕ). Some y) g.1; test_is = sym (ap (λ (y : A × List ℕ). test y.0) g.1) ∙ g.0 }

pub below_takes : (limit : ℕ) → Taking one (λ byte. byte < limit) (below_at limit)
unfolding below_at
below_takes limit = record {
  takes = λ bytes a rest fits e.
      let p = passes (λ byte. ltb byte limit) byte_at bytes a rest e in
      ((byte_takes.takes bytes a rest fits p.field).0, ltb-true a limit p.test_is);
}

pub below_again : (limit : ℕ) → Again one (λ byte. byte < limit) (below_at limit)
unfolding below_at
below_again limit = record { again = λ a rest fits. rw (lt-ltb a limit fits) refl }

flag_is : (byte : ℕ) → byte < 2 → flag (eqb byte 1) ≡ byte
flag_is zero lt = refl
flag_is (suc zero) lt = refl
flag_is (suc (suc byte)) lt = absurd (omega arith)

abbrev pub flag_byte : Bool → List ℕ
flag_byte b = flag b ∷ []

abbrev pub Always : {A : Type 0} → A → Type 0
Always _ = ⊤

pub flag_takes : Taking flag_byte Always flag_at
unfolding flag_at
flag_takes = record {
  takes = λ bytes a rest fits e.
      let x = map_some (λ (x : ℕ × List ℕ). (eqb x.0 1, x.1)) (below_at 2 bytes) (a, rest) e in
      let t = (below_takes 2).takes bytes x.0.0 x.0.1 fits x.1 in
      let t' : Takes bytes (flag_byte (eqb x.0.0 1)) x.0.1 = rw (flag_is x.0.0 t.1) t.0 in
      (subst (λ (y : Bool × List ℕ). Takes bytes (flag_byte y.0) y.1) x.2 t', tt);
}

pub flag_again : Again flag_byte Always flag_at
unfolding flag_at below_at
flag_again = record { again = again_flag }
  where
    again_flag : (a : Bool) (rest : List ℕ) → Always a → flag_at (flag_byte a ++ rest) ≡ Some (a, rest)
    again_flag true rest fits = refl
    again_flag false rest fits = refl

-- ---- numbers

pub u32_takes : Taking u32_bytes (λ n. n < 2 ^ 32) u32_at
unfolding u32_at u32_bytes
u32_takes = record {
  takes = λ bytes n rest fits e.
      let x = map_some (λ (x : List ℕ × List ℕ). (from_le_bytes w32 x.0, x.1)) (front_at 4 bytes) (n, rest) e in
      let f = front_takes 4 bytes x.0.0 x.0.1 fits x.1 in
      let back : to_le_bytes w32 (from_le_bytes w32 x.0.0) ≡ x.0.0 = le_bytes_4 x.0.0 _ f.size f.fits refl in
      let below : from_le_bytes w32 x.0.0 < 2 ^ 32 = omega (arith, f.fits 0, f.fits 1, f.fits 2, f.fits 3) in
      let t : Takes bytes (to_le_bytes w32 (from_le_bytes w32 x.0.0)) x.0.1 = subst (λ (l : List ℕ). Takes bytes l x.0.1) (sym back) f.taken in
      subst (λ (y : ℕ × List ℕ). Takes bytes (to_le_bytes w32 y.0) y.1 × (y.0 < 2 ^ 32)) x.2 (t, below);
}

pub u32_again : Again u32_bytes (λ n. n < 2 ^ 32) u32_at
unfolding u32_at u32_bytes
u32_again = record {
  again = λ n rest fits. rw (front_again 4 (to_le_bytes w32 n) rest refl, from_le_bytes-to_le_bytes_4 n fits) refl;
}

pub u64_takes : Taking u64_bytes (λ n. n < 2 ^ 64) u64_at
unfolding u64_at u64_bytes
u64_takes = record {
  takes = λ bytes n rest fits e.
      let x = map_some (λ (x : List ℕ × List ℕ). (from_le_bytes w64 x.0, x.1)) (front_at 8 bytes) (n, rest) e in
      let f = front_takes 8 bytes x.0.0 x.0.1 fits x.1 in
      let back : to_le_bytes w64 (from_le_bytes w64 x.0.0) ≡ x.0.0 = le_bytes_8 x.0.0 _ f.size f.fits refl in
      let below : from_le_bytes w64 x.0.0 < 2 ^ 64 = omega (arith, f.fits 0, f.fits 1, f.fits 2, f.fits 3, f.fits 4, f.fits 5, f.fits 6, f.fits 7) in
      let t : Takes bytes (to_le_bytes w64 (from_le_bytes w64 x.0.0)) x.0.1 = subst (λ (l : List ℕ). Takes bytes l x.0.1) (sym back) f.taken in
      subst (λ (y : ℕ × List ℕ). Takes bytes (to_le_bytes w64 y.0) y.1 × (y.0 < 2 ^ 64)) x.2 (t, below);
}

pub u64_again : Again u64_bytes (λ n. n < 2 ^ 64) u64_at
unfolding u64_at u64_bytes
u64_again = record {
  again = λ n rest fits. rw (front_again 8 (to_le_bytes w64 n) rest refl, from_le_bytes-to_le_bytes_8 n fits) refl;
}

-- ---- texts and slugs

text_is : (text : List ℕ) → is_utf8 text ≡ true → length text < 2 ^ 32 → IsText text
text_is text utf8 size = record { utf8 = IsUtf8-from_is_utf8 text utf8; size = size }

pub text_takes : Taking text_bytes IsText text_at
unfolding text_at
text_takes = record {
  takes = λ bytes text rest fits e.
      let n = and_then_some (λ (n : ℕ × List ℕ). passing is_utf8 (front_at n.0) n.1) (u32_at bytes) (text, rest) e in
      let p = passes is_utf8 (front_at n.0.0) n.0.1 text rest n.2 in
      let t = u32_takes.takes bytes n.0.0 n.0.1 fits n.1 in
      let f = front_takes n.0.0 n.0.1 text rest t.0.rest_fits p.field in
      let whole : Takes bytes (u32_bytes n.0.0 ++ text) rest = Takes-then bytes (u32_bytes n.0.0) n.0.1 text rest t.0 f.taken in
      (subst (λ (k : ℕ). Takes bytes (u32_bytes k ++ text) rest) (sym f.size) whole, text_is text p.test_is (omega (arith, t.1, f.size)));
}

pub text_again : Again text_bytes IsText text_at
unfolding text_at
text_again = record {
  again = λ text rest fits.
      ap text_at (append_assoc (u32_bytes (length text)) text rest)
      ∙ rw (u32_again.again (length text) (text ++ rest) fits.size, front_again (length text) text rest refl, is_utf8-from_IsUtf8 text fits.utf8) refl;
}

both_true : (b c : Bool) → (b && c) ≡ true → (b ≡ true) × (c ≡ true)
both_true true true e = (refl, refl)
both_true true false e = absurd cc
both_true false c e = absurd cc

none_is : {A : Type 0} (o : Option A) → is_none o ≡ true → o ≡ None
none_is None e = refl
none_is (Some x) e = absurd cc

slug_is : (slug : List ℕ) → is_slug slug ≡ true → IsSlug slug
slug_is slug e =
    let b = both_true (is_utf8 slug) (is_none (slug_fault slug)) e in
    record { utf8 = IsUtf8-from_is_utf8 slug b.0; spelling = none_is (slug_fault slug) b.1 }

is_slug-from : (slug : List ℕ) → IsSlug slug → is_slug slug ≡ true
is_slug-from slug is = rw (is_utf8-from_IsUtf8 slug is.utf8, is.spelling) refl

pub slug_takes : Taking slug_bytes IsSlug slug_at
unfolding slug_at
slug_takes = record {
  takes = λ bytes slug rest fits e.
      let n = and_then_some (λ (n : ℕ × List ℕ). passing is_slug (front_at n.0) n.1) (byte_at bytes) (slug, rest) e in
      let p = passes is_slug (front_at n.0.0) n.0.1 slug rest n.2 in
      let t = byte_takes.takes bytes n.0.0 n.0.1 fits n.1 in
      let f = front_takes n.0.0 n.0.1 slug rest t.0.rest_fits p.field in
      let whole : Takes bytes (n.0.0 ∷ slug) rest = Takes-then bytes (one n.0.0) n.0.1 slug rest t.0 f.taken in
      (subst (λ (k : ℕ). Takes bytes (k ∷ slug) rest) (sym f.size) whole, slug_is slug p.test_is);
}

pub slug_again : Again slug_bytes IsSlug slug_at
unfolding slug_at
slug_again = record {
  again = λ slug rest fits. rw (front_again (length slug) slug rest refl, is_slug-from slug fits) refl;
}

-- ---- people

abbrev IsNamed : Person → Type 0
IsNamed person = IsSlug person.name

pub person_takes : Taking person_bytes IsNamed person_at
unfolding person_at
person_takes = record {
  takes = λ bytes person rest fits e.
      let x = map_some (λ (x : (Bool × List ℕ) × List ℕ). (person_of x.0, x.1)) ((flag_at & slug_at) bytes) (person, rest) e in
      let t = (both_take flag_takes slug_takes).takes bytes x.0.0 x.0.1 fits x.1 in
      subst (λ (y : Person × List ℕ). Takes bytes (person_bytes y.0) y.1 × IsNamed y.0) x.2 (t.0, t.1.1);
}

pub person_again : Again person_bytes IsNamed person_at
unfolding person_at
person_again = record {
  again = λ person rest fits.
      ap (λ (o : Option ((Bool × List ℕ) × List ℕ)). option_map (λ (x : (Bool × List ℕ) × List ℕ). (person_of x.0, x.1)) o)
      ((both_again flag_again slug_again).again (person.curator, person.name) rest (tt, fits));
}

-- so many people
pub record TakesPeople (n : ℕ) (bytes : List ℕ) (people : List Person) (rest : List ℕ) : Type 0 where
  pub taken : Takes bytes (flat_map person_bytes people) rest
  pub count : length people ≡ n
  pub named : AllByRecursion IsNamed people

pub people_take : (n : ℕ) (bytes : List ℕ) (people : List Person) (rest : List ℕ) → IsBytes bytes → people_on n bytes ≡ Some (people, rest) → TakesPeople n bytes people rest
unfolding people_on
people_take zero bytes people rest fits e =
    subst (λ (y : List Person × List ℕ). TakesPeople 0 bytes y.0 y.1) (some_is ([], bytes) (people, rest) e) (record { taken = record { parts = refl; rest_fits = fits }; count = refl; named = tt })
  where
    some_is : (x y : List Person × List ℕ) → (let s : Option (List Person × List ℕ) = Some x in s) ≡ Some y → x ≡ y
    some_is x y e = cc
people_take (suc n) bytes people rest fits e =
    let a = and_then_some (λ (x : Person × List ℕ). option_map (λ (y : List Person × List ℕ). (x.0 ∷ y.0, y.1)) (people_on n x.1)) (person_at bytes) (people, rest) e in
    let b = map_some (λ (y : List Person × List ℕ). (a.0.0 ∷ y.0, y.1)) (people_on n a.0.1) (people, rest) a.2 in
    let first = person_takes.takes bytes a.0.0 a.0.1 fits a.1 in
    let second = people_take n a.0.1 b.0.0 b.0.1 first.0.rest_fits b.1 in
    let both = Takes-then bytes (person_bytes a.0.0) a.0.1 (flat_map person_bytes b.0.0) b.0.1 first.0 second.taken in
    let both' : Takes bytes (flat_map person_bytes (a.0.0 ∷ b.0.0)) b.0.1 = rw flat_map-cons both in
    subst (λ (y : List Person × List ℕ). TakesPeople (suc n) bytes y.0 y.1) b.2 (record { taken = both'; count = ap suc second.count; named = (first.1, second.named) })

pub people_read : (people : List Person) (rest : List ℕ) → AllByRecursion IsNamed people → people_on (length people) (flat_map person_bytes people ++ rest) ≡ Some (people, rest)
unfolding people_on
people_read [] rest fits = refl
people_read (p ∷ ps) rest fits =
    let regrouped : flat_map person_bytes (p ∷ ps) ++ rest ≡ person_bytes p ++ (flat_map person_bytes ps ++ rest) = ap (λ (x : List ℕ). x ++ rest) (flat_map-cons person_bytes p ps) ∙ append_assoc (person_bytes p) (flat_map person_bytes ps) rest in
    ap (people_on (suc (length ps))) regrouped ∙ rw (person_again.again p (flat_map person_bytes ps ++ rest) fits.0, people_read ps rest fits.1) refl

pub people_takes : Taking people_bytes ArePeople people_at
unfolding people_at
people_takes = record {
  takes = λ bytes people rest fits e.
      let n = and_then_some (λ (n : ℕ × List ℕ). people_on n.0 n.1) (byte_at bytes) (people, rest) e in
      let t = byte_takes.takes bytes n.0.0 n.0.1 fits n.1 in
      let p = people_take n.0.0 n.0.1 people rest t.0.rest_fits n.2 in
      let whole : Takes bytes (n.0.0 ∷ flat_map person_bytes people) rest = Takes-then bytes (one n.0.0) n.0.1 (flat_map person_bytes people) rest t.0 p.taken in
      (subst (λ (k : ℕ). Takes bytes (k ∷ flat_map person_bytes people) rest) (sym p.count) whole, record { count = omega (arith, t.1, p.count); names = p.named });
}

pub people_again : Again people_bytes ArePeople people_at
unfolding people_at
people_again = record { again = λ people rest fits. people_read people rest fits.names }
