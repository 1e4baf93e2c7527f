-- Which spans are passed over.
use Rattle.std.proofs.Common.{◌≡◌, ℕ, true, false, List, Option, Some, None, nat_eq}
use Rattle.std.specs.Option.{option_eq, option_map_or}
use Rattle.std.proofs.lemmas.Bool.{or_right, or_from}
use Rattle.mark_base.specs.declared.fragments.Frag.{Frag}
use Rattle.overlap_rules.specs.Overlaps.{kind_of}
use Rattle.overlap_rules.specs.TouchingSpans.{is_apart, is_passed_over}

pub apart_passed : (frags span : List Frag) (skip : Option ℕ) (number : ℕ) → is_apart (kind_of span frags) ≡ true → is_passed_over frags skip number span ≡ true
apart_passed frags span skip number e = or_right (option_map_or (λ s. nat_eq s number) skip false) (is_apart (kind_of span frags)) e

pub not_passed : (frags span : List Frag) (skip : Option ℕ) (number : ℕ) → option_eq nat_eq skip (Some number) ≡ false → is_apart (kind_of span frags) ≡ false → is_passed_over frags skip number span ≡ false
not_passed frags span None number e apart = apart
not_passed frags span (Some k) number e apart = or_from (nat_eq k number) (is_apart (kind_of span frags)) e apart
