-- Which role of an event a word names, with a number behind its name or without one (brat standoff manual, "Event annotations").
use Rattle.std.specs.Prelude.{ℕ, ◌-◌, ◌&&◌, List, [], ◌∷◌, length, take, drop, nat_lt, Option, None, if◌then◌else◌}
use Rattle.std.specs.Option.{option_or}
use Rattle.mark_base.specs.AnnIds.{is_canonical}
use Rattle.conf_model.specs.Configurations.{Configuration}
use Rattle.conf_model.specs.Lookups.{role_named}

-- the role that the front of a word names, where the so many bytes behind it are a number without a leading zero
abbrev pub role_before : Configuration → ℕ → List ℕ → ℕ → Option ℕ
role_before conf event word digits =
    if nat_lt digits (length word) && is_canonical (drop (length word - digits) word) then role_named conf event (take (length word - digits) word) else None

-- the first that is found, for numbers of so many digits in turn
abbrev pub role_before_number : Configuration → ℕ → List ℕ → List ℕ → Option ℕ
role_before_number conf event word [] = None
role_before_number conf event word (digits ∷ more) = option_or (role_before conf event word digits) (role_before_number conf event word more)

-- a number has 1 to 9 digits
abbrev pub digit_counts : List ℕ
digit_counts = 1 ∷ 2 ∷ 3 ∷ 4 ∷ 5 ∷ 6 ∷ 7 ∷ 8 ∷ 9 ∷ []

-- the role that a word names: the role of that name, or else the one of the longest front that is a role's name with a number behind it
unfoldable pub role_read : Configuration → ℕ → List ℕ → Option ℕ
role_read conf event word = option_or (role_named conf event word) (role_before_number conf event word digit_counts)
