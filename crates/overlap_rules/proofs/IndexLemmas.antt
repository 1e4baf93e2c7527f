-- What an index holds after a change.
use Rattle.std.proofs.Common.{◌≡◌, ℕ, inl, inr, true, cond, List, [], ◌∷◌, Some, None, refl, sym, ◌∙◌, ap}
use Rattle.std.specs.Ordering.{nat_cmp, eq_by_cmp}
use Rattle.std.specs.Cmp.{nat_cmp_total, eq_by_cmp_equiv}
use Rattle.std.specs.BTreeMap.{is_at}
use Rattle.std.specs.Map.{lookup}
use Rattle.std.specs.FinMap as map
use Rattle.std.specs.FinMap.{find, get-from_entries, get-insert, get-remove, same_map, nat_cmp-IsAntisymmetric, from_entries}
use Rattle.std.proofs.lemmas.Bool.{cases_Bool}
use Rattle.mark_base.specs.declared.fragments.Frag.{Frag}
use Rattle.overlap_rules.specs.Overlaps.{are_ascending}
use Rattle.overlap_rules.specs.TouchingSpans.{Held, AreAscending}

find_lookup : {X : Type 0} (q : ℕ) (es : List (ℕ × X)) → find nat_cmp q es ≡ lookup (is_at (nat_cmp q)) es
find_lookup q [] = refl
find_lookup q (e ∷ es) = ap (λ r. cond (is_at (nat_cmp q) e.0) (Some e.1) r) (find_lookup q es)

-- a look-up in a list of entries
pub looked_up : {X : Type 0} (es : List (ℕ × X)) (q : ℕ) → map.get {R = nat_cmp} (from_entries es) q ≡ lookup (is_at (nat_cmp q)) es
looked_up es q = get-from_entries nat_cmp_total es q ∙ find_lookup q es

-- entries in which one number was set, or let go
pub inserted : {X : Type 0} (es fs : List (ℕ × X)) (k : ℕ) (v : X)
    → ((q : ℕ) → lookup (is_at (nat_cmp q)) fs ≡ cond (is_at (nat_cmp k) q) (Some v) (lookup (is_at (nat_cmp q)) es))
    → from_entries {R = nat_cmp} fs ≡ map.insert (from_entries es) k v
inserted es fs k v same =
    same_map nat_cmp_total nat_cmp-IsAntisymmetric _ _ (λ q.
    looked_up fs q ∙ same q
    ∙ sym (get-insert nat_cmp_total (from_entries es) k v q
    ∙ ap (λ b. cond b (Some v) (map.get {R = nat_cmp} (from_entries es) q)) ((eq_by_cmp_equiv nat_cmp_total).symm q k)
    ∙ ap (λ r. cond (is_at (nat_cmp k) q) (Some v) r) (looked_up es q)))

pub removed : {X : Type 0} (es fs : List (ℕ × X)) (k : ℕ)
    → ((q : ℕ) → lookup (is_at (nat_cmp q)) fs ≡ cond (is_at (nat_cmp k) q) None (lookup (is_at (nat_cmp q)) es))
    → from_entries {R = nat_cmp} fs ≡ map.remove (from_entries es) k
removed es fs k same =
    same_map nat_cmp_total nat_cmp-IsAntisymmetric _ _ (λ q.
    looked_up fs q ∙ same q
    ∙ sym (get-remove nat_cmp_total (from_entries es) k q
    ∙ ap (λ b. cond b None (map.get {R = nat_cmp} (from_entries es) q)) ((eq_by_cmp_equiv nat_cmp_total).symm q k)
    ∙ ap (λ r. cond (is_at (nat_cmp k) q) None r) (looked_up es q)))

pub none_some : {X : Type 0} {x : X} → None ≡ Some x → ⊥
none_some e = cc

pub same_some : {X : Type 0} {x y : X} → Some x ≡ Some y → x ≡ y
same_some e = cc

-- what is held stays in ascending order
pub ascending_empty : (es : List (ℕ × List Frag)) → es ≡ [] → AreAscending (from_entries es)
ascending_empty es none number span is = absurd (none_some (sym (ap (λ l. map.get {R = nat_cmp} (from_entries l) number) none ∙ looked_up [] number) ∙ is))

pub ascending_insert : (held : Held) (k : ℕ) (frags : List Frag) → AreAscending held → are_ascending frags ≡ true → AreAscending (map.insert held k frags)
ascending_insert held k frags all one number span is =
    let here = sym (get-insert nat_cmp_total held k frags number) ∙ is in
    elim (cases_Bool (eq_by_cmp nat_cmp number k)) [
      | inl same ↦ ap are_ascending (sym (same_some (sym (ap (λ b. cond b (Some frags) (map.get held number)) same) ∙ here))) ∙ one
      | inr other ↦ all number span (sym (ap (λ b. cond b (Some frags) (map.get held number)) other) ∙ here)
    ]

pub ascending_remove : (held : Held) (k : ℕ) → AreAscending held → AreAscending (map.remove held k)
ascending_remove held k all number span is =
    let here = sym (get-remove nat_cmp_total held k number) ∙ is in
    elim (cases_Bool (eq_by_cmp nat_cmp number k)) [
      | inl same ↦ absurd (none_some (sym (ap (λ b. cond b None (map.get held number)) same) ∙ here))
      | inr other ↦ all number span (sym (ap (λ b. cond b None (map.get held number)) other) ∙ here)
    ]
