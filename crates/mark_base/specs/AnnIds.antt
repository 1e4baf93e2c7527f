-- How the ID of an annotation is spelt (brat standoff manual, "Annotation ID conventions"): a letter and a decimal number without a leading zero.
use Rattle.std.specs.Prelude.{ℕ, Bool, not, List, ◌∷◌, ◌==◌, ◌&&◌, ◌||◌, nat_lt, length, slice_index, decimal, Option, Some, None, if◌then◌else◌}
use Rattle.std.specs.Str.{all_ascii_digits}
use Rattle.std.specs.Str.Parse.{digits_value}
use Rattle.mark_base.specs.declared.ann_id.Kind.{Kind}
use Rattle.mark_base.specs.declared.ann_id.Kind.TheVariants.{Text, Event, Relation, Attribute, Legacy, Normal, Note}

-- the letters `T`, `E`, `R`, `A`, `M`, `N` and `#`
abbrev pub letter_of : Kind → ℕ
letter_of Text = 84
letter_of Event = 69
letter_of Relation = 82
letter_of Attribute = 65
letter_of Legacy = 77
letter_of Normal = 78
letter_of Note = 35

-- the bytes of an ID
abbrev pub spelling_of : Kind → ℕ → List ℕ
spelling_of kind number = letter_of kind ∷ decimal number

-- one to nine decimal digits, of which the first is 0 only where it is alone
abbrev pub is_canonical : List ℕ → Bool
is_canonical digits =
    nat_lt 0 (length digits) && nat_lt (length digits) 10 && all_ascii_digits digits && (length digits == 1 || not (slice_index digits 0 == 48))

-- a number of one to nine decimal digits without a leading zero
abbrev pub number_read : List ℕ → Option ℕ
number_read digits = if is_canonical digits then Some (digits_value 10 digits) else None

-- the sort of a letter
abbrev pub kind_read : ℕ → Option Kind
kind_read b =
    if b == 84 then Some Text else if b == 69 then Some Event else if b == 82 then Some Relation
    else if b == 65 then Some Attribute else if b == 77 then Some Legacy else if b == 78 then Some Normal
    else if b == 35 then Some Note else None
