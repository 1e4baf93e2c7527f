-- Whether a record is whole.
use Rattle.std.proofs.Common.{◌≡◌, ℕ, zero, suc, ◌-◌, ◌<◌, ◌≤◌, List, [], ◌∷◌, length, take, drop, get_or, refl, sym, ◌∙◌, ap, arith, None, length-drop}
use Rattle.std.proofs.lemmas.Bool.Decides.{nat_tests}
use Rattle.std.proofs.lemmas.List.{length-take-le}
use Rattle.std.proofs.lemmas.Nat.{le_bytes_4}
use Rattle.std.specs.Int.{w32, from_le_bytes}
use Rattle.project_journal.specs.JournalFile.{bytes_of, number_of, payload_of, whole_record}

payload_none : (n : ℕ) (rest : List ℕ) → (1 ≤ n → n ≤ 16777216 → length rest ≤ n) → payload_of n rest ≡ None
payload_none n rest off = grind (arith, nat_tests, off)

pub not_whole : (bytes : List ℕ) (n : ℕ) → number_of (take 4 bytes) ≡ n → (1 ≤ n → n ≤ 16777216 → length bytes - 4 ≤ n) → whole_record bytes ≡ None
unfolding whole_record
not_whole bytes n is off = ap (λ k. payload_of k (drop 4 bytes)) is ∙ payload_none n (drop 4 bytes) (λ a b. omega (arith, off a b, length-drop 4 bytes))

pub short_not_whole : (bytes : List ℕ) → length bytes ≤ 4 → whole_record bytes ≡ None
short_not_whole bytes short = not_whole bytes (number_of (take 4 bytes)) refl (λ a b. omega arith)

four : (bytes : List ℕ) → 4 ≤ length bytes → from_le_bytes w32 (get_or bytes 0 0 ∷ get_or bytes 1 0 ∷ get_or bytes 2 0 ∷ get_or bytes 3 0 ∷ []) ≡ number_of (take 4 bytes)
unfolding number_of
four [] long = absurd (omega arith)
four (a ∷ []) long = absurd (omega arith)
four (a ∷ b ∷ []) long = absurd (omega arith)
four (a ∷ b ∷ c ∷ []) long = absurd (omega arith)
four (a ∷ b ∷ c ∷ d ∷ rest) long = refl

pub number_is : (bytes : List ℕ) (n : ℕ) → 4 ≤ length bytes → n ≡ from_le_bytes w32 (get_or bytes 0 0 ∷ get_or bytes 1 0 ∷ get_or bytes 2 0 ∷ get_or bytes 3 0 ∷ []) → number_of (take 4 bytes) ≡ n
number_is bytes n long is = sym (four bytes long) ∙ sym is

take_fits : (bytes : List ℕ) (n : ℕ) → ((i : ℕ) → get_or bytes i 0 < 256) → (i : ℕ) → get_or (take n bytes) i 0 < 256
take_fits bytes zero fits i = omega arith
take_fits [] (suc n) fits i = omega arith
take_fits (b ∷ bytes) (suc n) fits zero = fits 0
take_fits (b ∷ bytes) (suc n) fits (suc i) = take_fits bytes n (λ k. fits (suc k)) i

pub bytes_are : (bytes : List ℕ) (n : ℕ) → 4 ≤ length bytes → ((i : ℕ) → get_or bytes i 0 < 256) → number_of (take 4 bytes) ≡ n → bytes_of n ≡ take 4 bytes
unfolding bytes_of number_of
bytes_are bytes n long fits is = le_bytes_4 (take 4 bytes) n (length-take-le 4 bytes long) (take_fits bytes 4 fits) (sym is)
