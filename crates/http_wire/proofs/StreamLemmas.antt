-- How the bytes held and those left stay one stream, and how one write follows another.
use Rattle.std.proofs.Common.{◌≡◌, ℕ, ◌+◌, ◌≤◌, List, ◌++◌, length, take, Option, Some, None, Result, Ok, Err, OnErr, refl, ap, ◌∙◌, append_assoc, arith}
use Rattle.std.proofs.lemmas.List.{length-append, take-append-le, take-take, take_all}
use Rattle.std.proofs.Math.Seq.{take-append-add, take-append_seam}
use Rattle.std.specs.Io.KnownBytes.{Appends, Consumes, Keeps, prepend_known}
use Rattle.std.proofs.KnownBytes.{Appends-trans}
use Rattle.mark_base.specs.Streams.{AppendsFront}

-- ---- reading

-- what a read took is held
pub same_stream : (a b : Option (List ℕ)) (held bytes : List ℕ) → Consumes a b bytes → Keeps (prepend_known held a) (prepend_known (held ++ bytes) b)
same_stream None b held bytes p = tt
same_stream (Some x) None held bytes p = absurd p
same_stream (Some x) (Some y) held bytes p = rw p (append_assoc held bytes y)

-- room was made behind the bytes held
pub front_of_room : (old whole room : List ℕ) (start : ℕ) → start ≡ length old → whole ≡ take (start + 4096) old ++ room → take start whole ≡ old
front_of_room old whole room start is e =
    let all : take (start + 4096) old ≡ old = take_all (start + 4096) old (omega arith) in
    rw (e, all, is) (take-append_seam old room)

-- the room behind the bytes held, once a read has filled its first count bytes
pub room_filled : (old whole room tail extra : List ℕ) (start count len : ℕ) → start ≡ length old → take start whole ≡ old
    → count ≤ length room → start + count ≤ len
    → take (start + count) (take len ((take start whole ++ (room ++ tail)) ++ extra)) ≡ old ++ take count room
room_filled old whole room tail extra start count len is front fits within =
    let a : take (start + count) (take len ((take start whole ++ (room ++ tail)) ++ extra)) ≡ take (start + count) ((take start whole ++ (room ++ tail)) ++ extra) = take-take (start + count) len _ within in
    let b : (take start whole ++ (room ++ tail)) ++ extra ≡ old ++ (room ++ (tail ++ extra)) = rw (front, append_assoc, append_assoc) refl in
    let d : take (length old + count) (old ++ (room ++ (tail ++ extra))) ≡ old ++ take count (room ++ (tail ++ extra)) = take-append-add old _ count in
    let e : take count (room ++ (tail ++ extra)) ≡ take count room = take-append-le count room _ fits in
    a ∙ ap (take (start + count)) b ∙ ap (λ n. take (n + count) (old ++ (room ++ (tail ++ extra)))) is ∙ d ∙ ap (λ l. old ++ l) e

-- ---- writing

pub on_err : {T E : Type 0} (result : Result T E) (P : Type 0) → P → OnErr result P
on_err (Ok x) P p = tt
on_err (Err e) P p = p

-- a front of what follows
pub front_after : (a b c : Option (List ℕ)) (xs ys zs : List ℕ) → Appends a b xs → AppendsFront b c ys → AppendsFront a c (xs ++ (ys ++ zs))
front_after a b c xs ys zs p q = record {
  count = length xs + q.count;
  fits = let fits : q.count ≤ length ys = q.fits in omega (arith, length-append xs (ys ++ zs), length-append ys zs);
  bytes = rw (take-append-add xs (ys ++ zs) q.count, take-append-le q.count ys zs q.fits) (Appends-trans a b c _ _ p q.bytes);
}
