-- A map of std and the finite map of its entries.
use Rattle.std.proofs.Common.{◌≡◌, ℕ, Bool, true, false, ◌&&◌, List, [], ◌∷◌, refl, sym, ◌∙◌, ap, subst, Some, None, is_some, cond, T}
use Rattle.std.specs.Ordering.{nat_cmp, is_lt}
use Rattle.std.specs.Cmp.{nat_cmp_total, eq_by_cmp_equiv}
use Rattle.std.specs.List.{AllByRecursion}
use Rattle.std.specs.List.Sorted.{IsStrictlySortedBy}
use Rattle.std.specs.BTreeMap.{is_at}
use Rattle.std.specs.Map.{lookup, keys_of}
use Rattle.std.specs.FinMap as finite
use Rattle.std.specs.FinMap.{find, get-from_entries, get-insert, get-remove, get-from_sorted, entries-from_sorted, same_map, nat_cmp-IsAntisymmetric, from_entries, from_sorted, insert, remove}
use Rattle.std.specs.FinMap.Entries.{is_sorted, below_all}
use Rattle.std.specs.declared.cmp.Ordering.TheVariants.{Less}

pub find_lookup : {X : Type 0} (q : ℕ) (es : List (ℕ × X)) → find nat_cmp q es ≡ lookup (is_at (nat_cmp q)) es
find_lookup q [] = refl
find_lookup q (e ∷ es) = ap (λ r. cond (is_at (nat_cmp q) e.0) (Some e.1) r) (find_lookup q es)

-- what a map has at a number
pub looked_up : {X : Type 0} (q : ℕ) (es : List (ℕ × X)) → finite.get (from_entries {R = nat_cmp} es) q ≡ lookup (is_at (nat_cmp q)) es
looked_up q es = get-from_entries nat_cmp_total es q ∙ find_lookup q es

pub inserted : {X : Type 0} (es fs : List (ℕ × X)) (k : ℕ) (v : X)
    → ((q : ℕ) → lookup (is_at (nat_cmp q)) fs ≡ cond (is_at (nat_cmp k) q) (Some v) (lookup (is_at (nat_cmp q)) es))
    → from_entries {R = nat_cmp} fs ≡ insert (from_entries es) k v
inserted es fs k v same =
    same_map nat_cmp_total nat_cmp-IsAntisymmetric _ _ (λ q.
    looked_up q fs ∙ same q
    ∙ sym (get-insert nat_cmp_total (from_entries es) k v q
    ∙ ap (λ b. cond b (Some v) (finite.get {R = nat_cmp} (from_entries es) q)) ((eq_by_cmp_equiv nat_cmp_total).symm q k)
    ∙ ap (λ r. cond (is_at (nat_cmp k) q) (Some v) r) (looked_up q es)))

pub removed : {X : Type 0} (es fs : List (ℕ × X)) (k : ℕ)
    → ((q : ℕ) → lookup (is_at (nat_cmp q)) fs ≡ cond (is_at (nat_cmp k) q) None (lookup (is_at (nat_cmp q)) es))
    → from_entries {R = nat_cmp} fs ≡ remove (from_entries es) k
removed es fs k same =
    same_map nat_cmp_total nat_cmp-IsAntisymmetric _ _ (λ q.
    looked_up q fs ∙ same q
    ∙ sym (get-remove nat_cmp_total (from_entries es) k q
    ∙ ap (λ b. cond b None (finite.get {R = nat_cmp} (from_entries es) q)) ((eq_by_cmp_equiv nat_cmp_total).symm q k)
    ∙ ap (λ r. cond (is_at (nat_cmp k) q) None r) (looked_up q es)))

both : (a b : Bool) → T a → T b → T (a && b)
both true b p q = q
both false b p q = p

below : {X : Type 0} (k : ℕ) (es : List (ℕ × X)) → AllByRecursion (λ q. nat_cmp k q ≡ Less) (keys_of es) → T (below_all nat_cmp k es)
below k [] h = tt
below k (e ∷ es) h = both _ _ (subst (λ r. T (is_lt r)) (sym h.0) tt) (below k es h.1)

pub in_order : {X : Type 0} (es : List (ℕ × X)) → IsStrictlySortedBy nat_cmp (keys_of es) → T (is_sorted nat_cmp es)
unfolding IsStrictlySortedBy
in_order [] h = tt
in_order (e ∷ es) h = both _ _ (below e.0 es h.0) (in_order es h.1)

-- a map's entries are those of its finite map
pub same_list : {X : Type 0} (es : List (ℕ × X)) → IsStrictlySortedBy nat_cmp (keys_of es) → finite.entries (from_entries {R = nat_cmp} es) ≡ es
same_list es h =
    let up : T (is_sorted nat_cmp es) = in_order es h in
    let same : from_entries {R = nat_cmp} es ≡ from_sorted es =
    same_map nat_cmp_total nat_cmp-IsAntisymmetric _ _ (λ q. get-from_entries nat_cmp_total es q ∙ sym (get-from_sorted nat_cmp es q up)) in
    ap finite.entries same ∙ entries-from_sorted nat_cmp es up

-- a number that the entries do not have
pub missing : {X : Type 0} (q : ℕ) (es : List (ℕ × X)) → lookup (is_at (nat_cmp q)) es ≡ None → finite.contains_key (from_entries {R = nat_cmp} es) q ≡ false
missing q es none = ap is_some (looked_up q es ∙ none)
