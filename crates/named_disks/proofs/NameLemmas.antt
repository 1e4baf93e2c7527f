-- What named disks in memory store and which names are out, by the list of their disks and of the names.
use Rattle.std.proofs.Common.{◌≡◌, ◌≢◌, ◌∙◌, ℕ, Bool, true, false, not, ◌||◌, cond, List, [], ◌∷◌, ◌++◌, Option, None, Some, map, bytes_eq, unwrap_or, is_some, refl, sym, ap, subst, arith}
use Rattle.std.specs.List.{list_any, filter}
use Rattle.std.specs.Ordering.{nat_cmp}
use Rattle.std.specs.Cmp.Lexicographic.{slice_cmp, nat_list_cmp_total}
use Rattle.std.specs.FinMap.{find, get, get-from_entries}
use Rattle.std.proofs.lemmas.Map.Text.{is_eq-slice_cmp}
use Rattle.project_journal.specs.MemoryDisks.{bytes_of}
use Rattle.named_disks.specs.NamedDisks.{bytes_at, is_there, KeepsNames}
use Rattle.named_disks.specs.MemoryNames.{stored_of, first_bytes, place_of, has_name, HaveNames}
use Rattle.named_disks.proofs.DiskLemmas.{Entry, has_none, own_name, other_name, same_name}

found : (disks : List Entry) (name : List ℕ) → unwrap_or (find (slice_cmp nat_cmp) name (map (λ (e : Entry). (e.0, bytes_of e.1)) disks)) [] ≡ first_bytes disks name
found [] name = refl
found (entry ∷ disks) name =
    ap (λ b. unwrap_or (cond b (Some (bytes_of entry.1)) (find (slice_cmp nat_cmp) name (map (λ (e : Entry). (e.0, bytes_of e.1)) disks))) []) (is_eq-slice_cmp name entry.0)
    ∙ elim (bytes_eq name entry.0) as (λ b. unwrap_or (cond b (Some (bytes_of entry.1)) (find (slice_cmp nat_cmp) name (map (λ (e : Entry). (e.0, bytes_of e.1)) disks))) [] ≡ cond b (bytes_of entry.1) (first_bytes disks name)) [
      | true ↦ refl
      | false ↦ found disks name
    ]

-- what disks store of a name is what the first disk of the name holds
pub stored_first : (disks : List Entry) (name : List ℕ) → bytes_at name (stored_of disks) ≡ first_bytes disks name
stored_first disks name = ap (λ o. unwrap_or o []) (get-from_entries nat_list_cmp_total (map (λ (e : Entry). (e.0, bytes_of e.1)) disks) name) ∙ found disks name

there_found : (disks : List Entry) (name : List ℕ) → is_some (find (slice_cmp nat_cmp) name (map (λ (e : Entry). (e.0, bytes_of e.1)) disks)) ≡ has_name disks name
there_found [] name = refl
there_found (entry ∷ disks) name =
    ap (λ b. is_some (cond b (Some (bytes_of entry.1)) (find (slice_cmp nat_cmp) name (map (λ (e : Entry). (e.0, bytes_of e.1)) disks)))) (is_eq-slice_cmp name entry.0)
    ∙ elim (bytes_eq name entry.0) as (λ b. is_some (cond b (Some (bytes_of entry.1)) (find (slice_cmp nat_cmp) name (map (λ (e : Entry). (e.0, bytes_of e.1)) disks))) ≡ (b || has_name disks name)) [
      | true ↦ refl
      | false ↦ there_found disks name
    ]

-- there is a disk of a name where some disk has it
pub there : (disks : List Entry) (name : List ℕ) → is_there (Some (stored_of disks)) name ≡ Some (has_name disks name)
there disks name = ap Some (ap is_some (get-from_entries nat_list_cmp_total (map (λ (e : Entry). (e.0, bytes_of e.1)) disks) name) ∙ there_found disks name)

-- there is no disk of a name that is the first nowhere
pub there_none : (disks : List Entry) (name : List ℕ) → place_of disks name ≡ None → is_some (get (stored_of disks) name) ≡ false
there_none disks name none = ap is_some (get-from_entries nat_list_cmp_total (map (λ (e : Entry). (e.0, bytes_of e.1)) disks) name) ∙ there_found disks name ∙ has_none disks name none

-- lists of disks that have the same names have a disk of the same names
pub there_same : (disks others : List Entry) (name : List ℕ) → has_name others name ≡ has_name disks name → is_there (Some (stored_of others)) name ≡ is_there (Some (stored_of disks)) name
there_same disks others name e = there others name ∙ ap Some e ∙ sym (there disks name)

-- lists of disks whose first ones hold the same store the same
pub stored_same : (disks others : List Entry) (name : List ℕ) → first_bytes others name ≡ first_bytes disks name → bytes_at name (stored_of others) ≡ bytes_at name (stored_of disks)
stored_same disks others name e = stored_first others name ∙ e ∙ sym (stored_first disks name)

-- names are kept where the first disk of each holds what it held, some disk has it as before, and each is out as it was
pub keep : (These : List ℕ → Type 0) (disks others : List Entry) (out out_now : List (List ℕ)) → ((name : List ℕ) → These name → first_bytes others name ≡ first_bytes disks name)
    → ((name : List ℕ) → These name → has_name others name ≡ has_name disks name) → ((name : List ℕ) → These name → list_any (bytes_eq name) out_now ≡ list_any (bytes_eq name) out) → KeepsNames These (Some (stored_of disks)) (Some out) (Some (stored_of others)) (Some out_now)
keep These disks others out out_now same has known = record {
  told = refl;
  told_out = refl;
  reads = λ name this. ap Some (stored_same disks others name (same name this));
  same_there = λ name this. there_same disks others name (has name this);
  same_out = λ name this. ap Some (known name this);
}

-- ---- which names are out

-- a name that is noted is out
pub noted : (out : List (List ℕ)) (name : List ℕ) → list_any (bytes_eq name) (out ++ name ∷ []) ≡ true
noted [] name = ap (λ b. b || false) (own_name name)
noted (other ∷ out) name = ap (λ b. bytes_eq name other || b) (noted out name) ∙ or_true (bytes_eq name other)
  where
    or_true : (b : Bool) → (b || true) ≡ true
    or_true true = refl
    or_true false = refl

-- another name is out as before
pub noted_other : (out : List (List ℕ)) (name other : List ℕ) → other ≢ name → list_any (bytes_eq other) (out ++ name ∷ []) ≡ list_any (bytes_eq other) out
noted_other [] name other differ = ap (λ b. b || false) (other_name other name differ)
noted_other (first ∷ out) name other differ = ap (λ b. bytes_eq other first || b) (noted_other out name other differ)

-- those of some names that differ from one
abbrev pub but : List ℕ → List (List ℕ) → List (List ℕ)
but name out = filter (λ other. not (bytes_eq name other)) out

-- a name that is struck off is not out
pub struck : (out : List (List ℕ)) (name : List ℕ) → list_any (bytes_eq name) (but name out) ≡ false
struck [] name = refl
struck (first ∷ out) name =
    elim (bytes_eq name first) as (λ b. bytes_eq name first ≡ b → list_any (bytes_eq name) (cond (not b) (first ∷ but name out) (but name out)) ≡ false) [
      | true ↦ λ is. struck out name
      | false ↦ λ is. ap (λ b. b || list_any (bytes_eq name) (but name out)) is ∙ struck out name
    ] refl

-- another name is out as before
pub struck_other : (out : List (List ℕ)) (name other : List ℕ) → other ≢ name → list_any (bytes_eq other) (but name out) ≡ list_any (bytes_eq other) out
struck_other [] name other differ = refl
struck_other (first ∷ out) name other differ =
    elim (bytes_eq name first) as (λ b. bytes_eq name first ≡ b → list_any (bytes_eq other) (cond (not b) (first ∷ but name out) (but name out)) ≡ (bytes_eq other first || list_any (bytes_eq other) out)) [
      | true ↦ λ is. struck_other out name other differ ∙ sym (ap (λ b. b || list_any (bytes_eq other) out) (other_name other first (λ e. differ (e ∙ sym (same_name name first is)))))
      | false ↦ λ is. ap (λ b. bytes_eq other first || b) (struck_other out name other differ)
    ] refl

-- a disk stands for each name that is still out
pub struck_names : (disks : List Entry) (out : List (List ℕ)) (name : List ℕ) → HaveNames disks out → HaveNames disks (but name out)
struck_names disks out name h other among =
    elim (bytes_eq other name) as (λ b. bytes_eq other name ≡ b → has_name disks other ≡ true) [
      | true ↦ λ same. absurd (grind (arith, sym (ap (λ n. list_any (bytes_eq n) (but name out)) (same_name other name same)) ∙ among, struck out name))
      | false ↦ λ differ. h other (sym (struck_other out name other (λ e. grind (arith, differ, ap (λ n. bytes_eq n name) e, own_name name))) ∙ among)
    ] refl

-- a disk stands for each name that is out, and for one that is noted where it has a disk
pub noted_names : (disks : List Entry) (out : List (List ℕ)) (name : List ℕ) → HaveNames disks out → has_name disks name ≡ true → HaveNames disks (out ++ name ∷ [])
noted_names disks out name h has other among =
    elim (bytes_eq other name) as (λ b. bytes_eq other name ≡ b → has_name disks other ≡ true) [
      | true ↦ λ same. ap (has_name disks) (same_name other name same) ∙ has
      | false ↦ λ differ. h other (sym (noted_other out name other (λ e. grind (arith, differ, ap (λ n. bytes_eq n name) e, own_name name))) ∙ among)
    ] refl

-- the same of what the names became
pub struck_known : (disks : List Entry) (out now : List (List ℕ)) (name : List ℕ) → now ≡ but name out → HaveNames disks out → HaveNames disks now
struck_known disks out now name is h = subst (HaveNames disks) (sym is) (struck_names disks out name h)

-- the place of a name among disks that were lent
pub lent : (disks lent : List Entry) (name : List ℕ) (told place : Option ℕ) → lent ≡ disks → told ≡ place_of lent name → told ≡ place → place_of disks name ≡ place
lent disks others name told place same is found = ap (λ (ds : List Entry). place_of ds name) (sym same) ∙ sym is ∙ found
