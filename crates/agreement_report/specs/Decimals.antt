-- A fraction with four decimals, cut towards zero.
use Rattle.std.specs.Prelude.{ℕ, ◌*◌, ◌/◌, ◌%◌, ◌&&◌, List, [], ◌++◌, codes, decimal, nat_lt, int_lt, pos, unsigned_abs, if◌then◌else◌}
use Rattle.kappa_alpha.specs.declared.figures.Fraction.{Fraction}

-- a fraction without its sign, in ten-thousandths cut towards zero
abbrev pub ten_thousandths : Fraction → ℕ
ten_thousandths f = unsigned_abs f.top * 10000 / unsigned_abs f.bottom

-- what fills a number below 10,000 to four digits
abbrev pub filling : ℕ → List ℕ
filling n = if nat_lt n 10 then codes "000" else if nat_lt n 100 then codes "00" else if nat_lt n 1000 then codes "0" else []

-- a minus where the fraction is below 0 and its cut value is not 0
abbrev pub sign_of : Fraction → List ℕ
sign_of f = if int_lt f.top (pos 0) && nat_lt 0 (ten_thousandths f) then codes "-" else []

-- a fraction with four decimals cut towards zero, and a minus only where the cut value is not zero
abbrev pub decimals_text : Fraction → List ℕ
decimals_text f =
    sign_of f ++ decimal (ten_thousandths f / 10000) ++ codes "." ++ filling (ten_thousandths f % 10000)
    ++ decimal (ten_thousandths f % 10000)
