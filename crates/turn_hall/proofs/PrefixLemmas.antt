-- Beginnings of one history.
use Rattle.std.proofs.Common.{◌≡◌, ◌≤◌, List, [], ◌∷◌, ◌++◌, length, refl, ap, sym, ◌∙◌, arith, append_assoc, length-append, cond, Bool, true, false, nat_lt}
use Rattle.std.proofs.lemmas.Bool.Decides.{nat_tests}
use Rattle.std.proofs.lemmas.List.{append-nil}
use mathlib.Core.List.{IsPrefix}
use Rattle.project_machine.specs.Requests.{Happened}
use Rattle.turn_hall.specs.Steps.{longer, shorter}

pub prefix_self : (xs : List Happened) → IsPrefix xs xs
prefix_self xs = ([], append-nil xs)

pub prefix_trans : (xs ys zs : List Happened) → IsPrefix xs ys → IsPrefix ys zs → IsPrefix xs zs
prefix_trans xs ys zs p q = (p.0 ++ q.0, sym (append_assoc xs p.0 q.0) ∙ (ap (λ w. w ++ q.0) p.1 ∙ q.1))

pub prefix_length : (xs ys : List Happened) → IsPrefix xs ys → length xs ≤ length ys
prefix_length xs ys p = let e = ap length p.1 in omega (arith, length-append xs p.0)

-- of two beginnings of one history the shorter one begins the other
pub prefix_shorter : (xs ys zs : List Happened) → IsPrefix xs zs → IsPrefix ys zs → length xs ≤ length ys → IsPrefix xs ys
prefix_shorter [] ys zs p q le = (ys, refl)
prefix_shorter (x ∷ xs) [] zs p q le = absurd (omega arith)
prefix_shorter (x ∷ xs) (y ∷ ys) [] p q le = absurd (cc (p.1))
prefix_shorter (x ∷ xs) (y ∷ ys) (z ∷ zs) p q le =
    let heads : x ≡ y = cc (p.1, q.1) in
    let rest = prefix_shorter xs ys zs (p.0, cc (p.1)) (q.0, cc (q.1)) (omega arith) in
    (rest.0, cc (heads, rest.1))

pick : (b : Bool) (xs ys zs : List Happened) → IsPrefix xs zs → IsPrefix ys zs → IsPrefix (cond b xs ys) zs
pick true xs ys zs p q = p
pick false xs ys zs p q = q

pub longer_prefix : (xs ys zs : List Happened) → IsPrefix xs zs → IsPrefix ys zs → IsPrefix (longer xs ys) zs
longer_prefix xs ys zs p q = pick (nat_lt (length xs) (length ys)) ys xs zs q p

shorter_of : (b : Bool) (xs ys zs : List Happened) → nat_lt (length xs) (length ys) ≡ b → IsPrefix xs zs → IsPrefix ys zs → IsPrefix (cond b xs ys) (cond b ys xs)
shorter_of true xs ys zs e p q = prefix_shorter xs ys zs p q (grind (arith, nat_tests))
shorter_of false xs ys zs e p q = prefix_shorter ys xs zs q p (grind (arith, nat_tests))

pub shorter_longer : (xs ys zs : List Happened) → IsPrefix xs zs → IsPrefix ys zs → IsPrefix (shorter xs ys) (longer xs ys)
shorter_longer xs ys zs p q = shorter_of (nat_lt (length xs) (length ys)) xs ys zs refl p q

both_of : (b : Bool) (xs ys : List Happened) → IsPrefix (cond b xs ys) (cond b ys xs) → IsPrefix xs (cond b ys xs) × IsPrefix ys (cond b ys xs)
both_of true xs ys p = (p, prefix_self ys)
both_of false xs ys p = (prefix_self xs, p)

-- where the shorter one begins the longer one, each begins it
pub both_longer : (xs ys : List Happened) → IsPrefix (shorter xs ys) (longer xs ys) → IsPrefix xs (longer xs ys) × IsPrefix ys (longer xs ys)
both_longer xs ys p = both_of (nat_lt (length xs) (length ys)) xs ys p
