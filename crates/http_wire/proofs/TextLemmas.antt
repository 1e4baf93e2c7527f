-- Which parts of a head are texts.
use Rattle.std.proofs.Common.{◌≡◌, ◌⊎◌, inl, inr, ℕ, ◌<◌, ◌≤◌, Bool, true, false, List, length, take, get_or, Option, Some, None, refl, sym, ◌∙◌, arith, cond, suc, ◌==◌, lit<}
use Rattle.std.specs.Str.{IsUtf8, is_utf8}
use Rattle.std.specs.List.{position, position_or_len, before_first}
use Rattle.std.proofs.lemmas.Str.{IsCharBoundary-before_ascii, IsUtf8-from_ascii, IsUtf8-from_is_utf8, IsUtf8-take, is_utf8-from_IsUtf8}
use Rattle.std.proofs.lemmas.List.{take_all}
use Rattle.std.proofs.lemmas.Bool.Decides.{Decides-eqb, leb_tells, nat_tests}
use Rattle.std.proofs.lemmas.List.Elements.{All-weaker}
use Rattle.std.proofs.lemmas.List.Sums.{passes_at_first}
use Rattle.std.proofs.lemmas.Str.Ascii.{IsAscii-from_all}
use Rattle.httparse.specs.Grammar.{IsToken, is_token_byte}
use Rattle.std.proofs.Math.Dec.{ltb, leb}
use Rattle.http_wire.specs.Fields.{text_value}
use Rattle.http_wire.specs.Messages.{path_of}

-- ---- the value of Caller

pub text_value_some : (value : List ℕ) → IsUtf8 value → text_value value ≡ Some value
text_value_some value text = rw (is_utf8-from_IsUtf8 value text) refl

none_at : (value : List ℕ) (b : Bool) → is_utf8 value ≡ b → ¬ (IsUtf8 value) → text_value value ≡ None
none_at value true e not_text = absurd (not_text (IsUtf8-from_is_utf8 value e))
none_at value false e not_text = rw e refl

pub text_value_none : (value : List ℕ) → ¬ (IsUtf8 value) → text_value value ≡ None
text_value_none value not_text = none_at value (is_utf8 value) refl not_text

-- ---- the path

before_at : (p : ℕ → Bool) (bytes : List ℕ) (found : Option ℕ) (b : Bool)
    → ltb (position_or_len p bytes) (length bytes) ≡ b → found ≡ cond b (Some (position_or_len p bytes)) None
    → (end : ℕ) → found ≡ Some end → before_first p bytes ≡ take end bytes
before_at p bytes found true e is end some = let same : Some (position_or_len p bytes) ≡ Some end = cc in cc
before_at p bytes found false e is end some = let same : None ≡ Some end = sym is ∙ some in cc

-- up to the first place
pub before_found : (p : ℕ → Bool) (bytes : List ℕ) (end : ℕ) → position p bytes ≡ Some end → before_first p bytes ≡ take end bytes
before_found p bytes end found = before_at p bytes _ (ltb (position_or_len p bytes) (length bytes)) refl refl end found

all_at : (p : ℕ → Bool) (bytes : List ℕ) (found : Option ℕ) (b : Bool)
    → ltb (position_or_len p bytes) (length bytes) ≡ b → found ≡ cond b (Some (position_or_len p bytes)) None
    → found ≡ None → before_first p bytes ≡ bytes
all_at p bytes found true e is none = let same : Some (position_or_len p bytes) ≡ None = sym is ∙ none in cc
all_at p bytes found false e is none = take_all _ bytes (grind (arith, e))

-- all of them where there is no such place
pub before_none : (p : ℕ → Bool) (bytes : List ℕ) → position p bytes ≡ None → before_first p bytes ≡ bytes
before_none p bytes none = all_at p bytes _ (ltb (position_or_len p bytes) (length bytes)) refl refl none

-- up to an ASCII byte a text is a text
before_text : (bytes : List ℕ) (byte : ℕ) → byte < 128 → IsUtf8 bytes
    → ((leb (suc (position_or_len (λ b. b == byte) bytes)) (length bytes) ≡ true) × (suc (position_or_len (λ b. b == byte) bytes) ≤ length bytes))
    ⊎ ((leb (suc (position_or_len (λ b. b == byte) bytes)) (length bytes) ≡ false) × (length bytes < suc (position_or_len (λ b. b == byte) bytes)))
    → IsUtf8 (before_first (λ b. b == byte) bytes)
before_text bytes byte ascii text (inl there) =
    let within : position_or_len (λ b. b == byte) bytes < length bytes = omega (arith, there.1) in
    let is : get_or bytes (position_or_len (λ b. b == byte) bytes) 0 ≡ byte = (Decides-eqb _ byte).0 (passes_at_first (λ b. b == byte) bytes 0 within) in
    IsUtf8-take bytes _ text (IsCharBoundary-before_ascii bytes _ within (omega (arith, is)))
before_text bytes byte ascii text (inr past) = rw (take_all (position_or_len (λ b. b == byte) bytes) bytes (omega (arith, past.1))) text

pub path_text : (target : List ℕ) → IsUtf8 target → IsUtf8 (path_of target)
path_text target text = before_text target 63 (lit< tt) text (leb_tells _ _)

-- ---- the method

token_is_ascii : (byte : ℕ) → is_token_byte byte ≡ true → byte < 128
unfolding is_token_byte
token_is_ascii byte token = grind (arith, nat_tests)

pub token_text : (bytes : List ℕ) → IsToken bytes → IsUtf8 bytes
token_text bytes token =
    IsUtf8-from_ascii bytes (IsAscii-from_all bytes (All-weaker (λ b. is_token_byte b ≡ true) (λ b. b < 128) token_is_ascii bytes token.1))
