-- How one write follows another.
use Rattle.std.proofs.Common.{◌≡◌, ℕ, ◌+◌, ◌-◌, ◌<◌, ◌≤◌, min, Bool, true, false, nat_lt, List, [], ◌++◌, Option, length, take, drop, refl, sym, ◌∙◌, ap, arith, length-drop}
use Rattle.std.proofs.lemmas.List.{drop-drop, drop_all, take-append-drop, take_rest}
use Rattle.std.proofs.lemmas.Grind.{common_steps}
use Rattle.std.proofs.Math.Seq.{take-add}
use Rattle.std.specs.Io.KnownBytes.{Appends}
use Rattle.std.proofs.KnownBytes.{Appends-trans}

-- a second write, of what is left of the piece
appends_more : (a b c : Option (List ℕ)) (n m : ℕ) (piece : List ℕ)
    → Appends a b (take n piece) → Appends b c (take m (drop n piece)) → Appends a c (take (n + m) piece)
appends_more a b c n m piece p q = rw (take-add n m piece) (Appends-trans a b c _ _ p q)

-- the same, for the piece from n on as the code slices it
pub appends_more_slice : (a b c : Option (List ℕ)) (n m : ℕ) (piece : List ℕ) → n ≤ length piece
    → Appends a b (take n piece) → Appends b c (take m (take (length piece - n) (drop n piece))) → Appends a c (take (n + m) piece)
appends_more_slice a b c n m piece fits p q =
    let whole : take (length piece - n) (drop n piece) ≡ drop n piece = grind (arith, common_steps) in
    appends_more a b c n m piece p (rw whole at q)

-- a read took the front of what is left
pub taken_front : (taken count most : ℕ) (bytes old room : List ℕ) → taken ≤ length bytes
    → count ≡ min most (min (length (take (length bytes - taken) (drop taken bytes))) (length old))
    → take count room ≡ take count (take (length bytes - taken) (drop taken bytes))
    → drop taken bytes ≡ take count room ++ drop (taken + count) bytes
taken_front taken count most bytes old room within size copied =
    rw (copied, take_rest bytes taken, ← drop-drop count taken bytes) (sym (take-append-drop count (drop taken bytes)))

-- a read with room took nothing only where nothing was left
pub taken_none : (taken count most : ℕ) (bytes old : List ℕ) → taken ≤ length bytes → 0 < most → 0 < length old
    → count ≡ min most (min (length (take (length bytes - taken) (drop taken bytes))) (length old))
    → count ≡ 0 → drop (taken + count) bytes ≡ []
taken_none taken count most bytes old within some room size none =
    let whole : length (take (length bytes - taken) (drop taken bytes)) ≡ length bytes - taken = rw (take_rest bytes taken) (grind (arith, length-drop)) in
    let all : length bytes ≤ taken + count = grind (arith, whole, size, none, some, room, within) in
    drop_all (taken + count) bytes all

-- the sizes behind the next one, where the place stands still at the last value of its type
pub sizes_after : (sizes : List ℕ) (place next : ℕ) → length sizes ≤ 18446744073709551615 → next ≡ min (place + 1) 18446744073709551615
    → drop next sizes ≡ drop 1 (drop place sizes)
sizes_after sizes place next few is = go (nat_lt place 18446744073709551615) refl ∙ sym (drop-drop 1 place sizes)
  where
    go : (b : Bool) → nat_lt place 18446744073709551615 ≡ b → drop next sizes ≡ drop (place + 1) sizes
    go true e = let same : next ≡ place + 1 = grind arith in ap (λ n. drop n sizes) same
    go false e =
        let last : length sizes ≤ next = grind arith in
        let past : length sizes ≤ place + 1 = grind arith in
        drop_all next sizes last ∙ sym (drop_all (place + 1) sizes past)

-- a read gives what the size, the bytes that are left and the room allow
pub given_count : (taken count most size room : ℕ) (bytes : List ℕ) → count ≡ min most (min (length (take (length bytes - taken) (drop taken bytes))) room) → most ≡ size
    → count ≡ min size (min (length (drop taken bytes)) room)
given_count taken count most size room bytes is same =
    is ∙ ap (λ n. min n (min (length (take (length bytes - taken) (drop taken bytes))) room)) same ∙ ap (λ xs. min size (min (length xs) room)) (take_rest bytes taken)
