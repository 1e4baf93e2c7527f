-- Whether bytes are UTF-8, as a test.
use Rattle.std.proofs.Common.{◌≡◌, ℕ, Bool, true, false, List, refl}
use Rattle.std.specs.Str.{IsUtf8, is_utf8}
use Rattle.std.proofs.lemmas.Str.{IsUtf8-from_is_utf8}

by_test : (b : Bool) → (b ≡ true → ⊥) → b ≡ false
by_test true isnt = absurd (isnt refl)
by_test false isnt = refl

pub not_utf8 : (bs : List ℕ) → (IsUtf8 bs → ⊥) → is_utf8 bs ≡ false
not_utf8 bs isnt = by_test (is_utf8 bs) (λ yes. isnt (IsUtf8-from_is_utf8 bs yes))
