-- What a file that holds a text holds, and what one that does not.
use Rattle.std.proofs.Common.{◌≡◌, ℕ, ◌<◌, ◌≤◌, List, length, Option, Bool, true, false, refl}
use Rattle.std.specs.Prelude.{IsUtf8}
use Rattle.std.specs.Str.{chars, is_utf8}
use Rattle.std.proofs.lemmas.Str.{IsUtf8-from_is_utf8, is_utf8-from_IsUtf8}
use Rattle.program_inputs.specs.Files.{IsFile, HoldsText, HoldsNoText, HoldsLongText}

pub held : {file : Option (Option (List ℕ))} {bytes items text doc : List ℕ} → IsFile file bytes → items ≡ bytes → text ≡ items → IsUtf8 items → doc ≡ chars text → length (chars text) ≤ 200000 → HoldsText file doc
held {file} {bytes} {items} {text} {doc} read items_are text_is valid doc_is short =
    let whole : IsUtf8 bytes = rw (← items_are) valid in
    let same : doc ≡ chars bytes = rw (doc_is, text_is, items_are) refl in
    let few : length doc ≤ 200000 = rw doc_is short in
    record { bytes = bytes; read = read; utf8 = is_utf8-from_IsUtf8 bytes whole; characters = same; short = few }

pub too_long : {file : Option (Option (List ℕ))} {bytes items text : List ℕ} → IsFile file bytes → items ≡ bytes → text ≡ items → IsUtf8 items → 200000 < length (chars text) → HoldsLongText file
too_long {file} {bytes} {items} {text} read items_are text_is valid long =
    let whole : IsUtf8 bytes = rw (← items_are) valid in
    let many : 200000 < length (chars bytes) = rw (← items_are, ← text_is) long in
    record { bytes = bytes; read = read; utf8 = is_utf8-from_IsUtf8 bytes whole; long = many }

not_valid : (bytes : List ℕ) → (IsUtf8 bytes → ⊥) → is_utf8 bytes ≡ false
not_valid bytes none = by_test (is_utf8 bytes) refl
  where
    by_test : (b : Bool) → is_utf8 bytes ≡ b → is_utf8 bytes ≡ false
    by_test true e = absurd (none (IsUtf8-from_is_utf8 bytes e))
    by_test false e = e

pub no_text : {file : Option (Option (List ℕ))} {bytes items : List ℕ} → IsFile file bytes → items ≡ bytes → (IsUtf8 items → ⊥) → HoldsNoText file
no_text {file} {bytes} {items} read items_are none =
    let never : IsUtf8 bytes → ⊥ = λ valid. none (rw items_are valid) in
    record { bytes = bytes; read = read; not_utf8 = not_valid bytes never }
