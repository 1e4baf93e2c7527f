-- The JSON value of a body.
use Rattle.std.proofs.Common.{◌≡◌, List, ℕ, Bool, true, false, Some, None, refl}
use Rattle.std.specs.Prelude.{IsUtf8}
use Rattle.std.specs.Str.{is_utf8}
use Rattle.std.proofs.lemmas.Str.{IsUtf8-from_is_utf8, is_utf8-from_IsUtf8}
use Rattle.serde_json.specs.Data.{Data}
use Rattle.serde_json.specs.Read.{read}
use Rattle.command_json.specs.Bodies.{value_of}

-- a text that is read has that value
pub value_of-text : (body : List ℕ) (value : Data) → IsUtf8 body → read body ≡ Some value → value_of body ≡ Some value
unfolding value_of
value_of-text body value text is = rw (is_utf8-from_IsUtf8 body text) is

-- bytes that are no text, and a text that is not read, have none
pub value_of-none : (body : List ℕ) → (IsUtf8 body → read body ≡ None) → value_of body ≡ None
unfolding value_of
value_of-none body none = by_test (is_utf8 body) refl
  where
    by_test : (b : Bool) → is_utf8 body ≡ b → value_of body ≡ None
    by_test true e = rw e (none (IsUtf8-from_is_utf8 body e))
    by_test false e = rw e refl
