-- How a few numbers are written.
use Rattle.std.proofs.Common.{◌≡◌, ℕ, ◌+◌, ◌/◌, ◌%◌, ◌<◌, ◌≤◌, ◌^◌, List, [], ◌∷◌, ◌++◌, ap, ◌∙◌, lit<, lit≤}
use Rattle.std.proofs.lemmas.Fmt.{decimal_digit, decimal_step}
use Rattle.std.specs.Prelude.{codes, decimal}

-- one more digit
step : (n : ℕ) (text : List ℕ) → 10 ≤ n → n < 2 ^ 64 → decimal (n / 10) ≡ text → decimal n ≡ text ++ (48 + n % 10) ∷ []
step n text large fits front = decimal_step n large fits ∙ ap (λ ds. ds ++ (48 + n % 10) ∷ []) front

pub decimal_3 : decimal 3 ≡ codes "3"
decimal_3 = decimal_digit 3 (lit< tt)

pub decimal_13 : decimal 13 ≡ codes "13"
decimal_13 = step 13 (codes "1") (lit≤ tt) (lit< tt) (decimal_digit 1 (lit< tt))

pub decimal_20 : decimal 20 ≡ codes "20"
decimal_20 = step 20 (codes "2") (lit≤ tt) (lit< tt) (decimal_digit 2 (lit< tt))

pub decimal_21 : decimal 21 ≡ codes "21"
decimal_21 = step 21 (codes "2") (lit≤ tt) (lit< tt) (decimal_digit 2 (lit< tt))

pub decimal_200 : decimal 200 ≡ codes "200"
decimal_200 = step 200 (codes "20") (lit≤ tt) (lit< tt) decimal_20

pub decimal_400 : decimal 400 ≡ codes "400"
decimal_400 = step 400 (codes "40") (lit≤ tt) (lit< tt) (step 40 (codes "4") (lit≤ tt) (lit< tt) (decimal_digit 4 (lit< tt)))

pub decimal_503 : decimal 503 ≡ codes "503"
decimal_503 = step 503 (codes "50") (lit≤ tt) (lit< tt) (step 50 (codes "5") (lit≤ tt) (lit< tt) (decimal_digit 5 (lit< tt)))
