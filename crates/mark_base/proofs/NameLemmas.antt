-- Where the first character stands that may not stand in a name or a slug.
use Rattle.std.proofs.Common.{ℕ, ◌≤◌, ◌==◌, Bool, List, Some, None, length, chars, position, IfSome, slice_index, nat_lt, arith}
use Rattle.std.proofs.lemmas.Bool.{cond_both, ltb-true}
use Rattle.std.specs.List.{position_or_len}
use Rattle.mark_base.specs.Names.{is_barred_in_slug, bad_in_slug}

-- a place in a list is not past its end
pub position_bound : (p : ℕ → Bool) (xs : List ℕ) → IfSome (position p xs) (λ place. place ≤ length xs)
position_bound p xs =
    cond_both (nat_lt (position_or_len p xs) (length xs)) (Some (position_or_len p xs)) None
    (λ o. IfSome o (λ place. place ≤ length xs))
    (λ e. let h = ltb-true (position_or_len p xs) (length xs) e in omega arith)
    (λ _. tt)

-- the same in a slug
pub bad_in_slug_bound : (text : List ℕ) → IfSome (bad_in_slug text) (λ place. place ≤ length (chars text))
bad_in_slug_bound text =
    cond_both (slice_index text 0 == 46) (Some 0) (position is_barred_in_slug (chars text))
    (λ o. IfSome o (λ place. place ≤ length (chars text)))
    (λ _. omega arith)
    (λ _. position_bound is_barred_in_slug (chars text))
