-- What entries are read to, one after another, and the first that is not read.
use Rattle.std.proofs.Common.{◌≡◌, ℕ, ◌+◌, ◌-◌, ◌<◌, ◌≤◌, true, false, List, [], ◌∷◌, ◌++◌, length, get_or, take, slice_get, Some, None, zero, suc, refl, sym, ◌∙◌, ap, subst, arith}
use Rattle.std.proofs.lemmas.List.{take_all, take_more}
use Rattle.entry_bytes.specs.declared.entry.Entry.{Entry}
use Rattle.entry_bytes.specs.Entries.{entry_bytes}
use Rattle.checkpoint.specs.declared.so_far.SoFar.{SoFar}
use Rattle.checkpoint.specs.Runs.{IsBegunBy, IsFault, IsNoFirst, IsReadBy, IsReadTo, begins, goes_on, is_ended, no_end, no_first, no_next}

some_same : {X : Type 0} (x y : X) → Some x ≡ Some y → x ≡ y
some_same x y e = cc

none_some : {X : Type 0} (x : X) → None ≡ Some x → ⊥
none_some x e = cc

-- the first entry is read
pub first_read : (entries : List (List ℕ)) (first : List ℕ) (so : SoFar) → slice_get entries 0 ≡ Some first → IsBegunBy first (Some so) → IsReadTo (take 1 entries) so
first_read [] first so is b = absurd (none_some first is)
first_read (x ∷ xs) first so is b = subst (λ (bytes : List ℕ). IsReadTo (bytes ∷ []) so) (b.2 ∙ sym (some_same x first is)) (begins b.0 so b.1 b.3)

-- or it is none with which a checkpoint begins
pub first_fault : (entries : List (List ℕ)) (first : List ℕ) → slice_get entries 0 ≡ Some first → IsBegunBy first None → IsFault entries 1
first_fault [] first is none = absurd (none_some first is)
first_fault (x ∷ xs) first is none = no_first refl (subst IsNoFirst (sym (some_same x first is)) none)

-- one more entry is read
pub one_more : (entries : List (List ℕ)) (k : ℕ) (bytes : List ℕ) (so now : SoFar) → k < length entries → bytes ≡ get_or entries k bytes → IsReadTo (take k entries) so → IsReadBy so bytes (Some now) → IsReadTo (take (k + 1) entries) now
one_more entries k bytes so now within here read r =
    let whole : take k entries ++ entry_bytes r.0 ∷ [] ≡ take (k + 1) entries = ap (λ (b : List ℕ). take k entries ++ b ∷ []) (r.2 ∙ here) ∙ sym (take_more entries k bytes within) in
    subst (λ (es : List (List ℕ)). IsReadTo es now) whole (goes_on (take k entries) so now r.0 read r.1 r.3)

any_default : {X : Type 0} (xs : List X) (k : ℕ) (d e : X) → k < length xs → get_or xs k d ≡ get_or xs k e
any_default [] k d e within = absurd (omega arith)
any_default (x ∷ xs) zero d e within = refl
any_default (x ∷ xs) (suc k) d e within = any_default xs k d e (omega arith)

-- or it is not
pub next_fault : (entries : List (List ℕ)) (k : ℕ) (bytes : List ℕ) (so : SoFar) → 0 < k → k < length entries → bytes ≡ get_or entries k bytes → IsReadTo (take k entries) so → is_ended so.part ≡ false → IsReadBy so bytes None → IsFault entries (k + 1)
next_fault entries k bytes so some within here read going none =
    let back : k + 1 - 1 ≡ k = omega arith in
    no_next so (omega arith) (omega arith) (subst (λ n. IsReadTo (take n entries) so) (sym back) read) going
    (λ e now entered is. none e now entered (is ∙ (ap (λ n. get_or entries n []) back ∙ (any_default entries k [] bytes within ∙ sym here))))

all_taken : (entries : List (List ℕ)) (k : ℕ) → length entries ≤ k → take k entries ≡ entries
all_taken entries k past = take_all k entries past

-- nothing is left, and no last piece was read
pub end_fault : (entries : List (List ℕ)) (k : ℕ) (so : SoFar) → length entries ≤ k → IsReadTo (take k entries) so → is_ended so.part ≡ false → IsFault entries (length entries + 1)
end_fault entries k so past read going = no_end so refl (subst (λ (es : List (List ℕ)). IsReadTo es so) (all_taken entries k past) read) going

pub read_whole : (entries : List (List ℕ)) (k : ℕ) (so : SoFar) → length entries ≤ k → IsReadTo (take k entries) so → IsReadTo (take (length entries) entries) so
read_whole entries k so past read = subst (λ (es : List (List ℕ)). IsReadTo es so) (all_taken entries k past ∙ sym (all_taken entries (length entries) (omega arith))) read

-- no entries
pub none_fault : (entries : List (List ℕ)) → ((e : Entry) → 1 ≤ length (entry_bytes e)) → slice_get entries 0 ≡ None → IsFault entries 1
none_fault [] some is = no_first refl (λ e so entered empty b. let none : length (entry_bytes e) ≡ 0 = ap length empty in let one : 1 ≤ length (entry_bytes e) = some e in omega arith)
none_fault (x ∷ xs) some is = absurd (none_some x (sym is))
