-- The places of a layer by letters, and the annotations of a letter by the entries of its map.
use Rattle.std.proofs.Common.{◌≡◌, ℕ, ◌+◌, ◌≤◌, min, suc, Bool, true, false, ◌&&◌, cond, T, List, [], ◌∷◌, ◌++◌, map, length, slice_get, refl, sym, ◌∙◌, ap, Option, Some, arith}
use Rattle.std.specs.Option.{option_or, option_map, option_and_then, is_some}
use Rattle.std.specs.List.{AllByRecursion, range_with_len}
use Rattle.std.specs.List.Sorted.{IsStrictlySortedBy}
use Rattle.std.specs.Map.{keys_of}
use Rattle.std.specs.Ordering.{nat_cmp, eq_by_cmp, is_lt, is_eq}
use Rattle.std.specs.Cmp.{nat_cmp_total, ranked, tied_itself}
use Rattle.std.specs.declared.cmp.Ordering.{Ordering}
use Rattle.std.specs.declared.cmp.Ordering.TheVariants.{Less, Equal, Greater}
use Rattle.std.specs.FinMap as finite
use Rattle.std.specs.FinMap.{find, get-entries, entries_sorted}
use Rattle.std.specs.FinMap.Entries.{is_sorted, below_all}
use Rattle.mark_base.specs.declared.ann_id.AnnId.{AnnId}
use Rattle.mark_base.specs.declared.ann_id.Kind.{Kind}
use Rattle.mark_base.specs.declared.ann_id.Kind.TheVariants as letter
use Rattle.layer_model.specs.declared.mark.Mark.{Mark}
use Rattle.layer_model.specs.declared.class.Class.{Class}
use Rattle.layer_model.specs.declared.rule.Rule.{Rule}
use Rattle.layer_model.specs.declared.flaw.FlawPlace.{FlawPlace}
use Rattle.layer_model.specs.declared.flaw.FlawPlace.TheVariants as at
use Rattle.layer_model.specs.Annotations.{Annotations}
use Rattle.layer_model.specs.Layers.{mark_of}
use Rattle.layer_model.specs.Numbers.{NumbersFit}
use Rattle.layer_model.proofs.Maps.{same_list}
use Rattle.mark_base.specs.ReadIds.{id_at}
use Rattle.layer_model.specs.LayerIds.{ids_of_letter}
use Rattle.layer_rules.specs.FlawPlaces.{by_place, first_place, places}
use Rattle.layer_rules.specs.LowestFlaw.{flaw_at, lower_flaw, lowest_at, lowest_of, lowest_from, first_among}
use Rattle.layer_rules.proofs.FlawLemmas.{lower_assoc, or_assoc}

-- ---- the entries of a map are what it has

pub left : (a b : Bool) → T (a && b) → T a
left true b h = tt
left false b h = h

pub right : (a b : Bool) → T (a && b) → T b
right true b h = h
right false b h = absurd h

pub is_less : (r : Ordering) → T (is_lt r) → r ≡ Less
is_less Less h = refl
is_less Equal h = absurd h
is_less Greater h = absurd h

not_tied : (a b : ℕ) → nat_cmp a b ≡ Less → eq_by_cmp nat_cmp b a ≡ false
not_tied a b less =
    let low = ranked a b Less (sym less) in
    elim (nat_cmp b a) as (λ r. r ≡ nat_cmp b a → is_eq r ≡ false) [
      | Less ↦ λ _. refl
      | Equal ↦ λ w. absurd (let same = ranked b a Equal w in omega arith)
      | Greater ↦ λ _. refl
    ] refl

behind : {V : Type 0} (n : ℕ) (v : V) (es rest : List (ℕ × V)) → T (below_all nat_cmp n rest)
    → AllByRecursion (λ e. find nat_cmp e.0 es ≡ Some e.1) rest → AllByRecursion (λ e. find nat_cmp e.0 ((n, v) ∷ es) ≡ Some e.1) rest
behind n v es [] below all = tt
behind n v es (e ∷ rest) below all =
    (ap (λ b. cond b (Some v) (find nat_cmp e.0 es)) (not_tied n e.0 (is_less _ (left _ _ below))) ∙ all.0, behind n v es rest (right _ _ below) all.1)

pub each_found : {V : Type 0} (es : List (ℕ × V)) → T (is_sorted nat_cmp es) → AllByRecursion (λ e. find nat_cmp e.0 es ≡ Some e.1) es
each_found [] sorted = tt
each_found ((n, v) ∷ es) sorted =
    (ap (λ r. cond (is_eq r) (Some v) (find nat_cmp n es)) (tied_itself nat_cmp_total n), behind n v es es (left _ _ sorted) (each_found es (right _ _ sorted)))

pub along : {X : Type 0} (P Q : X → Type 0) (f : (x : X) → P x → Q x) (xs : List X) → AllByRecursion P xs → AllByRecursion Q xs
along P Q f [] all = tt
along P Q f (x ∷ xs) all = (f x all.0, along P Q f xs all.1)

-- each entry of a finite map is what it has at that number
pub entries_found : {V : Type 0} (m : finite.FinMap nat_cmp V) → AllByRecursion (λ e. finite.get m e.0 ≡ Some e.1) (finite.entries m)
entries_found m =
    along (λ e. find nat_cmp e.0 (finite.entries m) ≡ Some e.1) (λ e. finite.get m e.0 ≡ Some e.1) (λ e is. get-entries m e.0 ∙ is) (finite.entries m) (each_found (finite.entries m) (entries_sorted m))

-- ---- what stands at the place of an annotation

min_is : (n : ℕ) → n ≤ 999999999 → min n 999999999 ≡ n
min_is n h = omega arith

-- what a place breaks, by the entry there
pub at_entry : {V : Type 0} (f : AnnId → Mark → Option Rule) (g : ℕ → Class → Option Rule) (layer : Annotations) (kind : Kind) (wrap : V → Mark) (m : finite.FinMap nat_cmp V)
    → ((n : ℕ) → mark_of layer kind n ≡ option_map wrap (finite.get m n)) → NumbersFit m → (e : ℕ × V) → finite.get m e.0 ≡ Some e.1
    → by_place f g layer (at.Mark (id_at kind e.0)) ≡ f (id_at kind e.0) (wrap e.1)
at_entry f g layer kind wrap m same fits e is =
    let small : e.0 ≤ 999999999 = fits e.0 (ap is_some is) in
    ap (option_and_then (f (id_at kind e.0))) (ap (mark_of layer kind) (min_is e.0 small) ∙ same e.0 ∙ ap (option_map wrap) is)

pub at_entries : {V : Type 0} (f : AnnId → Mark → Option Rule) (g : ℕ → Class → Option Rule) (layer : Annotations) (kind : Kind) (wrap : V → Mark) (m : finite.FinMap nat_cmp V)
    → ((n : ℕ) → mark_of layer kind n ≡ option_map wrap (finite.get m n)) → NumbersFit m
    → AllByRecursion (λ e. by_place f g layer (at.Mark (id_at kind e.0)) ≡ f (id_at kind e.0) (wrap e.1)) (finite.entries m)
at_entries f g layer kind wrap m same fits =
    along (λ e. finite.get m e.0 ≡ Some e.1) (λ e. by_place f g layer (at.Mark (id_at kind e.0)) ≡ f (id_at kind e.0) (wrap e.1)) (at_entry f g layer kind wrap m same fits) (finite.entries m) (entries_found m)

-- ---- the walk over the annotations of one letter

pub lowest_keys : {V : Type 0} (told : FlawPlace → Option Rule) (kind : Kind) (f : V → Option Rule) (es : List (ℕ × V))
    → AllByRecursion (λ e. told (at.Mark (id_at kind e.0)) ≡ f e.1) es → lowest_at told (map at.Mark (map (id_at kind) (keys_of es))) ≡ lowest_of kind f es
lowest_keys told kind f [] all = refl
lowest_keys told kind f (e ∷ es) all =
    ap (λ o. lower_flaw (flaw_at (at.Mark (id_at kind e.0)) o) (lowest_at told (map at.Mark (map (id_at kind) (keys_of es))))) all.0
    ∙ ap (lower_flaw (flaw_at (at.Mark (id_at kind e.0)) (f e.1))) (lowest_keys told kind f es all.1)

pub first_keys : {V : Type 0} (told : FlawPlace → Option Rule) (kind : Kind) (f : ℕ → V → Option Rule) (es : List (ℕ × V))
    → AllByRecursion (λ e. told (at.Mark (id_at kind e.0)) ≡ f e.0 e.1) es → first_place told (map at.Mark (map (id_at kind) (keys_of es))) ≡ first_among kind f es
first_keys told kind f [] all = refl
first_keys told kind f (e ∷ es) all =
    ap (λ o. option_or (flaw_at (at.Mark (id_at kind e.0)) o) (first_place told (map at.Mark (map (id_at kind) (keys_of es))))) all.0
    ∙ ap (option_or (flaw_at (at.Mark (id_at kind e.0)) (f e.0 e.1))) (first_keys told kind f es all.1)

-- ---- and over the classes

pub lowest_classes : (told : FlawPlace → Option Rule) (f : Class → Option Rule) (i : ℕ) (cs : List Class)
    → ((k j : ℕ) → j ≡ i + k → told (at.Class j) ≡ option_and_then f (slice_get cs k)) → lowest_at told (map at.Class (range_with_len i (length cs))) ≡ lowest_from i f cs
lowest_classes told f i [] all = refl
lowest_classes told f i (c ∷ cs) all =
    ap (λ o. lower_flaw (flaw_at (at.Class i) o) (lowest_at told (map at.Class (range_with_len (i + 1) (length cs))))) (all 0 i (omega arith))
    ∙ ap (lower_flaw (flaw_at (at.Class i) (f c))) (lowest_classes told f (i + 1) cs (λ k j e. all (suc k) j (omega arith)))

-- ---- all places, letter by letter

pub lowest-append : (told : FlawPlace → Option Rule) (ps qs : List FlawPlace) → lowest_at told (ps ++ qs) ≡ lower_flaw (lowest_at told ps) (lowest_at told qs)
lowest-append told [] qs = refl
lowest-append told (p ∷ ps) qs = ap (lower_flaw (flaw_at p (told p))) (lowest-append told ps qs) ∙ sym (lower_assoc (flaw_at p (told p)) (lowest_at told ps) (lowest_at told qs))

pub first-append : (told : FlawPlace → Option Rule) (ps qs : List FlawPlace) → first_place told (ps ++ qs) ≡ option_or (first_place told ps) (first_place told qs)
first-append told [] qs = refl
first-append told (p ∷ ps) qs = ap (option_or (flaw_at p (told p))) (first-append told ps qs) ∙ sym (or_assoc (flaw_at p (told p)) (first_place told ps) (first_place told qs))

-- the places of the annotations of a letter
abbrev pub places_of : Annotations → Kind → List FlawPlace
places_of layer kind = map at.Mark (ids_of_letter layer kind)

-- the places of the classes
abbrev pub class_places : Annotations → List FlawPlace
class_places layer = map at.Class (range_with_len 0 (length layer.classes))

map_more : (xs ys : List AnnId) (ps qs : List FlawPlace) → map at.Mark ys ++ ps ≡ qs → map at.Mark (xs ++ ys) ++ ps ≡ map at.Mark xs ++ qs
map_more [] ys ps qs e = e
map_more (x ∷ xs) ys ps qs e = ap (λ r. at.Mark x ∷ r) (map_more xs ys ps qs e)

pub by_letters : (layer : Annotations) → places layer
    ≡ places_of layer letter.Text ++ (places_of layer letter.Event ++ (places_of layer letter.Relation ++ (places_of layer letter.Attribute
    ++ (places_of layer letter.Legacy ++ (places_of layer letter.Normal ++ (places_of layer letter.Note ++ class_places layer))))))
by_letters layer =
    map_more (ids_of_letter layer letter.Text) _ _ _ (map_more (ids_of_letter layer letter.Event) _ _ _ (map_more (ids_of_letter layer letter.Relation) _ _ _
    (map_more (ids_of_letter layer letter.Attribute) _ _ _ (map_more (ids_of_letter layer letter.Legacy) _ _ _ (map_more (ids_of_letter layer letter.Normal) _ _ _
    (map_more (ids_of_letter layer letter.Note) _ _ _ refl))))))

-- what an iterator over a map begins with
pub all_entries : {V : Type 0} (m : finite.FinMap nat_cmp V) (rest es : List (ℕ × V)) → finite.from_entries {R = nat_cmp} es ≡ m → rest ≡ es → IsStrictlySortedBy nat_cmp (keys_of es) → rest ≡ finite.entries m
all_entries m rest es is gives sorted = gives ∙ sym (same_list es sorted) ∙ ap finite.entries is
