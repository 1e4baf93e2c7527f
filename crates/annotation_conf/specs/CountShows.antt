-- What a count shows (private calls only).
use Rattle.std.specs.Prelude.{ℕ, ◌==◌, List, Option, if◌then◌else◌}
use Rattle.std.specs.List.{list_any, before_first, after_first}
use Rattle.annotation_conf.specs.declared.count.Count.{Count as CountValue}
use Rattle.conf_model.specs.ConfPairs.{Count, number_of, range_of}

-- the two numbers
abbrev pub seen_count : CountValue → Count
seen_count count = record { least = count.least; most = count.most }

-- the count that stands in braces: of one number, or of two around the first hyphen
abbrev pub braces_count : List ℕ → Option Count
braces_count inside =
    if list_any (λ e. e == 45) inside then range_of (number_of (before_first (λ e. e == 45) inside)) (number_of (after_first (λ e. e == 45) inside))
    else range_of (number_of inside) (number_of inside)
