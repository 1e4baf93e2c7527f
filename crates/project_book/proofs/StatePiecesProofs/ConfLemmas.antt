-- The text of a configuration is one.
use Rattle.std.proofs.Common.{◌≡◌, ℕ, ◌≤◌, Bool, true, false, cond, List, length, take, nat_lt, zero, suc, refl, subst, arith, take_all, IsUtf8}
use Rattle.std.specs.Prelude.{Result, Ok, Err}
use Rattle.std.specs.Str.{is_utf8}
use Rattle.std.specs.Str.Lossy.{utf8_valid_len, valid_len_up_to}
use Rattle.std.proofs.lemmas.Bool.{cond_both, ltb-false}
use Rattle.std.proofs.lemmas.Str.{IsUtf8-nil, IsUtf8-from_is_utf8}
use Rattle.conf_model.specs.ConfOf.{Fault, conf_of}
use Rattle.conf_model.specs.ConfText.{conf_text}
use Rattle.conf_model.specs.Configurations.{Configuration}
use Rattle.conf_model.specs.Sound.{IsSound}

valid_le : (bs : List ℕ) (n : ℕ) → valid_len_up_to bs n ≤ n
valid_le bs zero = omega arith
valid_le bs (suc n) = cond_both (is_utf8 (take (suc n) bs)) (suc n) (valid_len_up_to bs n) (λ k. k ≤ suc n) (λ e. omega arith) (λ e. omega (arith, valid_le bs n))

valid_front : (bs : List ℕ) (n : ℕ) → n ≤ valid_len_up_to bs n → IsUtf8 (take n bs)
valid_front bs zero h = IsUtf8-nil
valid_front bs (suc n) h = go (is_utf8 (take (suc n) bs)) refl h
  where
    go : (b : Bool) → is_utf8 (take (suc n) bs) ≡ b → suc n ≤ cond b (suc n) (valid_len_up_to bs n) → IsUtf8 (take (suc n) bs)
    go true e k = IsUtf8-from_is_utf8 (take (suc n) bs) e
    go false e k = absurd (omega (arith, valid_le bs n))

valid_whole : (bs : List ℕ) → nat_lt (utf8_valid_len bs) (length bs) ≡ false → IsUtf8 bs
unfolding utf8_valid_len
valid_whole bs e = subst IsUtf8 (take_all (length bs) bs (omega arith)) (valid_front bs (length bs) (ltb-false (valid_len_up_to bs (length bs)) (length bs) e))

-- sound configurations are read back
abbrev pub ReadBack : Type 0
ReadBack = (conf : Configuration) → IsSound conf → conf_of (conf_text conf) ≡ Ok conf

not_faulty : (b : Bool) (f : Fault) (told : Result Configuration Fault) (conf : Configuration) → cond b (Err f) told ≡ Ok conf → b ≡ false
not_faulty true f told conf e = absurd (cc)
not_faulty false f told conf e = refl

-- and so its text is one
pub conf_is_utf8 : ReadBack → (conf : Configuration) → IsSound conf → IsUtf8 (conf_text conf)
unfolding conf_of
conf_is_utf8 back conf sound = valid_whole (conf_text conf) (not_faulty (nat_lt (utf8_valid_len (conf_text conf)) (length (conf_text conf))) _ _ conf (back conf sound))
