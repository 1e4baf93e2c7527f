-- Disks with names in a list: which is the first of a name, and what one of them being exchanged changes.
use Rattle.std.proofs.Common.{◌≡◌, ◌≢◌, ◌∙◌, ℕ, ◌+◌, ◌<◌, ◌≤◌, zero, suc, Bool, true, false, not, ◌||◌, cond, nat_lt, List, [], ◌∷◌, ◌++◌, Option, Some, None, length, bytes_eq, slice_index_or, slice_set, length-append, refl, sym, ap, subst, arith}
use Rattle.std.specs.List.{list_any, position_or_len}
use Rattle.std.proofs.lemmas.Bool.{cond-true, cond-false, cond_both, false_from_ne_true, lt-ltb, ltb-true, ltb-false}
use Rattle.std.proofs.lemmas.List.Folds.{list_any-append}
use Rattle.std.proofs.lemmas.Slice.Eq.{bytes_eq-Decides}
use Rattle.project_journal.specs.declared.memory_disk.MemoryDisk.{MemoryDisk}
use Rattle.project_journal.specs.MemoryDisks.{bytes_of, FailsNoMore}
use Rattle.named_disks.specs.MemoryNames.{first_bytes, place_of, has_name, HaveNames, FailNoMore}

-- an entry: a name and its disk
abbrev pub Entry : Type 0
Entry = List ℕ × MemoryDisk

-- a name is that of the entry
abbrev pub is_of : List ℕ → Entry → Bool
is_of name entry = bytes_eq name entry.0

pub same_name : (name other : List ℕ) → bytes_eq name other ≡ true → name ≡ other
same_name name other e = (bytes_eq-Decides name other).0 e

pub own_name : (name : List ℕ) → bytes_eq name name ≡ true
own_name name = (bytes_eq-Decides name name).1 refl

pub other_name : (name other : List ℕ) → name ≢ other → bytes_eq name other ≡ false
other_name name other n = false_from_ne_true (bytes_eq name other) (λ e. n (same_name name other e))

-- the first disk of a name stands at a place
abbrev pub IsAt : List Entry → List ℕ → ℕ → Type 0
IsAt [] name p = ⊥
IsAt (entry ∷ disks) name zero = is_of name entry ≡ true
IsAt (entry ∷ disks) name (suc p) = (is_of name entry ≡ false) × IsAt disks name p

at_len : (disks : List Entry) (name : List ℕ) → position_or_len (is_of name) disks < length disks → IsAt disks name (position_or_len (is_of name) disks)
at_len [] name lt = absurd (omega arith)
at_len (entry ∷ disks) name lt =
    elim (is_of name entry) as (λ b. is_of name entry ≡ b → cond (not b) (1 + position_or_len (is_of name) disks) 0 < suc (length disks) → IsAt (entry ∷ disks) name (cond (not b) (1 + position_or_len (is_of name) disks) 0)) [
      | true ↦ λ is lt. is
      | false ↦ λ is lt. let one : suc (position_or_len (is_of name) disks) ≡ 1 + position_or_len (is_of name) disks = omega arith in
          subst (IsAt (entry ∷ disks) name) one (is, at_len disks name (omega (arith, lt)))
    ] refl lt

picked : (b : Bool) (n p : ℕ) → ◌≡◌ {A = Option ℕ} (cond b (Some n) None) (Some p) → (b ≡ true) × (n ≡ p)
picked true n p e = (refl, grind (arith, e))
picked false n p e = absurd (grind (arith, e))

pub found_at : (disks : List Entry) (name : List ℕ) (p : ℕ) → place_of disks name ≡ Some p → IsAt disks name p
found_at disks name p e =
    let h = picked (nat_lt (position_or_len (is_of name) disks) (length disks)) (position_or_len (is_of name) disks) p e in
    subst (IsAt disks name) h.1 (at_len disks name (ltb-true (position_or_len (is_of name) disks) (length disks) h.0))

-- ---- one disk is exchanged

pub taken : (disks : List Entry) (p : ℕ) (x : Entry) (name : List ℕ) → IsAt disks name p → x ≡ slice_index_or disks p x → bytes_of x.1 ≡ first_bytes disks name
taken [] p x name at is = absurd at
taken (entry ∷ disks) zero x name at is = ap (λ (e : Entry). bytes_of e.1) is ∙ sym (cond-true (is_of name entry) _ _ at)
taken (entry ∷ disks) (suc p) x name at is = taken disks p x name at.1 is ∙ sym (cond-false (is_of name entry) _ _ at.0)

pub put : (disks : List Entry) (p : ℕ) (x : Entry) (d : MemoryDisk) (name : List ℕ) → IsAt disks name p → x ≡ slice_index_or disks p x → first_bytes (slice_set disks p (x.0, d)) name ≡ bytes_of d
put [] p x d name at is = absurd at
put (entry ∷ disks) zero x d name at is = cond-true (bytes_eq name x.0) _ _ (ap (λ (e : Entry). bytes_eq name e.0) is ∙ at)
put (entry ∷ disks) (suc p) x d name at is = cond-false (is_of name entry) _ _ at.0 ∙ put disks p x d name at.1 is

pub others : (disks : List Entry) (p : ℕ) (x : Entry) (d : MemoryDisk) (name other : List ℕ) → IsAt disks name p → x ≡ slice_index_or disks p x → other ≢ name → first_bytes (slice_set disks p (x.0, d)) other ≡ first_bytes disks other
others [] p x d name other at is differ = absurd at
others (entry ∷ disks) zero x d name other at is differ =
    let key : x.0 ≡ entry.0 = ap (λ (e : Entry). e.0) is in
    let away : bytes_eq other entry.0 ≡ false = other_name other entry.0 (λ e. differ (e ∙ sym (same_name name entry.0 at))) in
    cond-false (bytes_eq other x.0) _ _ (ap (bytes_eq other) key ∙ away) ∙ sym (cond-false (bytes_eq other entry.0) _ _ away)
others (entry ∷ disks) (suc p) x d name other at is differ = ap (cond (is_of other entry) (bytes_of entry.1)) (others disks p x d name other at.1 is differ)

pub has_names : (disks : List Entry) (p : ℕ) (x : Entry) (d : MemoryDisk) (name : List ℕ) → x ≡ slice_index_or disks p x → has_name (slice_set disks p (x.0, d)) name ≡ has_name disks name
has_names [] p x d name is = refl
has_names (entry ∷ disks) zero x d name is = ap (λ (e : Entry). bytes_eq name e.0 || has_name disks name) is
has_names (entry ∷ disks) (suc p) x d name is = ap (λ b. is_of name entry || b) (has_names disks p x d name is)

pub keeps_names : (disks : List Entry) (p : ℕ) (x : Entry) (d : MemoryDisk) (out : List (List ℕ)) → x ≡ slice_index_or disks p x → HaveNames disks out → HaveNames (slice_set disks p (x.0, d)) out
keeps_names disks p x d out is h name among = has_names disks p x d name is ∙ h name among

pub taken_fails_no_more : (disks : List Entry) (p : ℕ) (x : Entry) → p < length disks → x ≡ slice_index_or disks p x → FailNoMore disks → FailsNoMore x.1
taken_fails_no_more [] p x lt is h = absurd (omega arith)
taken_fails_no_more (entry ∷ disks) zero x lt is h = subst (λ (e : Entry). FailsNoMore e.1) (sym is) h.0
taken_fails_no_more (entry ∷ disks) (suc p) x lt is h = taken_fails_no_more disks p x (omega arith) is h.1

pub fail_no_more : (disks : List Entry) (p : ℕ) (x : Entry) (d : MemoryDisk) → FailNoMore disks → FailsNoMore d → FailNoMore (slice_set disks p (x.0, d))
fail_no_more [] p x d h f = h
fail_no_more (entry ∷ disks) zero x d h f = (f, h.1)
fail_no_more (entry ∷ disks) (suc p) x d h f = (h.0, fail_no_more disks p x d h.1 f)

-- ---- one disk is put behind the others

unpicked : (b : Bool) (n : ℕ) → ◌≡◌ {A = Option ℕ} (cond b (Some n) None) None → b ≡ false
unpicked true n e = absurd (grind (arith, e))
unpicked false n e = refl

last_len : (disks : List Entry) (name : List ℕ) (d : MemoryDisk) → length disks ≤ position_or_len (is_of name) disks → position_or_len (is_of name) (disks ++ (name, d) ∷ []) ≡ length disks
last_len [] name d le = cond-false (not (bytes_eq name name)) _ _ (ap not (own_name name))
last_len (entry ∷ disks) name d le =
    elim (is_of name entry) as (λ b. suc (length disks) ≤ cond (not b) (1 + position_or_len (is_of name) disks) 0 → cond (not b) (1 + position_or_len (is_of name) (disks ++ (name, d) ∷ [])) 0 ≡ suc (length disks)) [
      | true ↦ λ le. absurd (omega (arith, le))
      | false ↦ λ le. let rest : position_or_len (is_of name) (disks ++ (name, d) ∷ []) ≡ length disks = last_len disks name d (omega (arith, le)) in omega (arith, rest)
    ] le

-- where no disk has a name, one that is put behind the others is the first of it
pub put_last : (disks : List Entry) (name : List ℕ) (d : MemoryDisk) → place_of disks name ≡ None → place_of (disks ++ (name, d) ∷ []) name ≡ Some (length disks)
put_last disks name d none =
    let le : length disks ≤ position_or_len (is_of name) disks = ltb-false (position_or_len (is_of name) disks) (length disks) (unpicked _ _ none) in
    let place : position_or_len (is_of name) (disks ++ (name, d) ∷ []) ≡ length disks = last_len disks name d le in
    let longer : length (disks ++ (name, d) ∷ []) ≡ length disks + 1 = length-append disks ((name, d) ∷ []) in
    ap (λ n. cond (nat_lt n (length (disks ++ (name, d) ∷ []))) (Some n) None) place
    ∙ cond-true (nat_lt (length disks) (length (disks ++ (name, d) ∷ []))) (Some (length disks)) None (lt-ltb (length disks) (length (disks ++ (name, d) ∷ [])) (omega (arith, longer)))

-- a disk of length 0 behind the others changes no bytes
pub same_bytes : (disks : List Entry) (name : List ℕ) (d : MemoryDisk) (other : List ℕ) → bytes_of d ≡ [] → first_bytes (disks ++ (name, d) ∷ []) other ≡ first_bytes disks other
same_bytes [] name d other empty = cond_both (bytes_eq other name) (bytes_of d) [] (λ bytes. bytes ≡ []) (λ _. empty) (λ _. refl)
same_bytes (entry ∷ disks) name d other empty = ap (cond (is_of other entry) (bytes_of entry.1)) (same_bytes disks name d other empty)

-- a name has a disk still
pub has_name_still : (disks : List Entry) (entry : Entry) (name : List ℕ) → has_name disks name ≡ true → has_name (disks ++ entry ∷ []) name ≡ true
has_name_still disks entry name h = list_any-append (is_of name) disks (entry ∷ []) ∙ ap (λ b. b || list_any (is_of name) (entry ∷ [])) h

-- another name has a disk as before
pub has_name_other : (disks : List Entry) (name : List ℕ) (d : MemoryDisk) (other : List ℕ) → other ≢ name → has_name (disks ++ (name, d) ∷ []) other ≡ has_name disks other
has_name_other [] name d other differ = ap (λ b. b || false) (other_name other name differ)
has_name_other (entry ∷ disks) name d other differ = ap (λ b. is_of other entry || b) (has_name_other disks name d other differ)

-- a name whose first disk stands at a place has a disk
pub has_at : (disks : List Entry) (name : List ℕ) (p : ℕ) → IsAt disks name p → has_name disks name ≡ true
has_at [] name p at = absurd at
has_at (entry ∷ disks) name zero at = ap (λ b. b || has_name disks name) at
has_at (entry ∷ disks) name (suc p) at = ap (λ b. b || has_name disks name) at.0 ∙ has_at disks name p at.1

-- a name that has a disk has a first one
pub at_some : (disks : List Entry) (name : List ℕ) → has_name disks name ≡ true → place_of disks name ≡ None → ⊥
at_some disks name has none = absent disks name (ltb-false (position_or_len (is_of name) disks) (length disks) (unpicked _ _ none)) has
  where
    absent : (disks : List Entry) (name : List ℕ) → length disks ≤ position_or_len (is_of name) disks → has_name disks name ≡ true → ⊥
    absent [] name le has = grind (arith, has)
    absent (entry ∷ disks) name le has =
        elim (is_of name entry) as (λ b. suc (length disks) ≤ cond (not b) (1 + position_or_len (is_of name) disks) 0 → (b || has_name disks name) ≡ true → ⊥) [
          | true ↦ λ le has. omega (arith, le)
          | false ↦ λ le has. absent disks name (omega (arith, le)) has
        ] le has

-- a name of which no disk is the first has none
pub has_none : (disks : List Entry) (name : List ℕ) → place_of disks name ≡ None → has_name disks name ≡ false
has_none disks name none = false_from_ne_true (has_name disks name) (λ has. at_some disks name has none)

-- a name that has no disk holds no bytes
pub none_first : (disks : List Entry) (name : List ℕ) → place_of disks name ≡ None → first_bytes disks name ≡ []
none_first disks name none = absent disks (ltb-false (position_or_len (is_of name) disks) (length disks) (unpicked _ _ none))
  where
    absent : (disks : List Entry) → length disks ≤ position_or_len (is_of name) disks → first_bytes disks name ≡ []
    absent [] le = refl
    absent (entry ∷ disks) le =
        elim (is_of name entry) as (λ b. suc (length disks) ≤ cond (not b) (1 + position_or_len (is_of name) disks) 0 → cond b (bytes_of entry.1) (first_bytes disks name) ≡ []) [
          | true ↦ λ le. absurd (omega (arith, le))
          | false ↦ λ le. absent disks (omega (arith, le))
        ] le
