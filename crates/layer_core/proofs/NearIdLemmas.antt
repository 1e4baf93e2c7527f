-- The IDs of a layer ascend; what a look among them finds.
use Rattle.std.proofs.Common.{◌≡◌, ℕ, ◌+◌, ◌*◌, ◌<◌, ◌≤◌, min, suc, Bool, true, false, not, ◌&&◌, ◌||◌, cond, List, [], ◌∷◌, ◌++◌, map, length, refl, sym, ◌∙◌, ap, subst, Option, Some, None, eq-eqb, arith}
use Rattle.std.specs.Prelude.{⊤}
use Rattle.std.proofs.lemmas.Bool.{lt-ltb, le-ltb}
use Rattle.std.proofs.lemmas.List.Sums.{sum_by-cons}
use Rattle.std.specs.Option.{option_or, option_map, option_and_then, is_some}
use Rattle.std.specs.List.{AllByRecursion, count_by, filter, find, insert, list_any, range_with_len}
use Rattle.std.specs.Map.{keys_of}
use Rattle.std.specs.FinMap as finite
use Rattle.mark_base.specs.declared.ann_id.AnnId.{AnnId}
use Rattle.mark_base.specs.declared.ann_id.Kind.{Kind}
use Rattle.mark_base.specs.declared.ann_id.Kind.TheVariants as letter
use Rattle.mark_base.specs.ReadIds.{id_at}
use Rattle.layer_model.specs.declared.mark.Mark.{Mark}
use Rattle.layer_model.specs.declared.rule.Rule.TheVariants.{TooDeep}
use Rattle.layer_model.specs.declared.flaw.FlawPlace.{FlawPlace}
use Rattle.layer_model.specs.declared.flaw.FlawPlace.TheVariants as at
use Rattle.layer_model.specs.Annotations.{Annotations}
use Rattle.layer_model.specs.Classes.{letter_place, rank}
use Rattle.layer_model.specs.Layers.{IsLayer, has, mark_at}
use Rattle.layer_model.specs.LayerIds.{ids_of, ids_of_letter}
use Rattle.layer_rules.specs.FlawPlaces.{by_place, first_place}
use Rattle.layer_rules.specs.LayerRules.{is_id}
use Rattle.layer_rules.specs.MarkRules.{where_so}
use Rattle.layer_rules.proofs.CoherenceLemmas.{no_class_place}
use Rattle.layer_rules.proofs.LawLemmas.{never}
use Rattle.layer_rules.proofs.PairLemmas.{Up, items, up_entries}
use Rattle.layer_core.specs.Namers.{names_it, namers_but}
use Rattle.layer_core.specs.Near.{is_below, near_ids}
use Rattle.layer_core.proofs.AlikeLemmas.{has_is}
use Rattle.layer_core.proofs.ElsewhereLemmas.{one_id}

-- ---- finding in a list

none_some : {X : Type 0} {x : X} → None ≡ Some x → ⊥
none_some e = cc

same_some : {X : Type 0} {a b : X} → Some a ≡ Some b → a ≡ b
same_some e = cc

pub not_both : {A : Type 0} (b : Bool) → b ≡ true → b ≡ false → A
not_both b so no_ = absurd (let e : true ≡ false = sym so ∙ no_ in cc)

pub find_holds : {X : Type 0} (p : X → Bool) (xs : List X) (x : X) → find p xs ≡ Some x → p x ≡ true
find_holds p [] x e = absurd (none_some e)
find_holds p (y ∷ xs) x e = split (p y) refl (find_holds p xs x) e
  where
    split : (b : Bool) → p y ≡ b → (find p xs ≡ Some x → p x ≡ true) → cond b (Some y) (find p xs) ≡ Some x → p x ≡ true
    split true is later f = ap p (sym (same_some f)) ∙ is
    split false is later f = later f

-- where one test finds nothing, a narrower one does not
pub find_narrower : {X : Type 0} (p q : X → Bool) (xs : List X) → ((x : X) → p x ≡ false → q x ≡ false) → find p xs ≡ None → find q xs ≡ None
find_narrower p q [] narrow e = refl
find_narrower p q (x ∷ xs) narrow e = split (p x) refl (find_narrower p q xs narrow) e
  where
    split : (b : Bool) → p x ≡ b → (find p xs ≡ None → find q xs ≡ None) → cond b (Some x) (find p xs) ≡ None → cond (q x) (Some x) (find q xs) ≡ None
    split true is later f = absurd (none_some (sym f))
    split false is later f = ap (λ b. cond b (Some x) (find q xs)) (narrow x is) ∙ later f

-- a look among those that a wider test keeps
pub find_kept : {X : Type 0} (p keep : X → Bool) (xs : List X) → ((x : X) → keep x ≡ false → p x ≡ false) → find p (filter keep xs) ≡ find p xs
find_kept p keep [] wide = refl
find_kept p keep (x ∷ xs) wide = split (keep x) refl (find_kept p keep xs wide)
  where
    split : (b : Bool) → keep x ≡ b → find p (filter keep xs) ≡ find p xs → find p (cond b (x ∷ filter keep xs) (filter keep xs)) ≡ cond (p x) (Some x) (find p xs)
    split true is later = ap (cond (p x) (Some x)) later
    split false is later = later ∙ sym (ap (λ b. cond b (Some x) (find p xs)) (wide x is))

-- nothing is found where the test holds of nothing
pub found_nowhere : {X : Type 0} (p : X → Bool) (xs : List X) → ((x : X) → p x ≡ false) → find p xs ≡ None
found_nowhere p [] none = refl
found_nowhere p (x ∷ xs) none = ap (λ b. cond b (Some x) (find p xs)) (none x) ∙ found_nowhere p xs none

-- ---- what a look among the IDs of a layer finds

none_told : (test : AnnId → Bool) (layer : Annotations) (rest : List FlawPlace) → first_place (by_place (λ id mark. where_so (test id) TooDeep) (λ _ _. None) layer) rest ≡ None
    → (ids : List AnnId) → find test ids ≡ None → first_place (by_place (λ id mark. where_so (test id) TooDeep) (λ _ _. None) layer) (map at.Mark ids ++ rest) ≡ None
none_told test layer rest later [] e = later
none_told test layer rest later (id ∷ ids) e = split (test id) refl (none_told test layer rest later ids) e
  where
    untold : (o : Option Mark) → test id ≡ false → option_and_then (λ mark. where_so (test id) TooDeep) o ≡ None
    untold None is = refl
    untold (Some mark) is = ap (λ b. where_so b TooDeep) is

    split : (b : Bool) → test id ≡ b → (find test ids ≡ None → first_place (by_place (λ i mark. where_so (test i) TooDeep) (λ _ _. None) layer) (map at.Mark ids ++ rest) ≡ None)
        → cond b (Some id) (find test ids) ≡ None → first_place (by_place (λ i mark. where_so (test i) TooDeep) (λ _ _. None) layer) (map at.Mark (id ∷ ids) ++ rest) ≡ None
    split true is more f = absurd (none_some (sym f))
    split false is more f =
        ap (λ o. option_or (option_map (λ rule. record { rule = rule; at = at.Mark id }) o) (first_place (by_place (λ i mark. where_so (test i) TooDeep) (λ _ _. None) layer) (map at.Mark ids ++ rest)))
        (untold (mark_at layer id) is) ∙ more f

untrue : (b : Bool) → where_so b TooDeep ≡ None → b ≡ false
untrue true e = absurd (none_some (sym e))
untrue false e = refl

-- what is not found among the IDs is true of none that stands
pub unfound : (test : AnnId → Bool) (layer : Annotations) (other : AnnId) (mark : Mark) → find test (ids_of layer) ≡ None → mark_at layer other ≡ Some mark → test other ≡ false
unfound test layer other mark none is =
    untrue (test other)
    (sym (ap (option_and_then (λ mark_. where_so (test other) TooDeep)) is)
    ∙ never (λ id mark_. where_so (test id) TooDeep) (λ _ _. None) layer
    (none_told test layer (map at.Class (range_with_len 0 (length layer.classes))) (no_class_place (λ id mark_. where_so (test id) TooDeep) layer (range_with_len 0 (length layer.classes))) (ids_of layer) none)
    (at.Mark other))

itself : (id : AnnId) → is_id id id ≡ true
itself id = eq-eqb (rank id) (rank id) refl

none_of : (test : AnnId → Bool) (ids : List AnnId) → list_any test ids ≡ false → find test ids ≡ None
none_of test [] e = refl
none_of test (id ∷ ids) e = split (test id) refl (none_of test ids) e
  where
    split : (b : Bool) → test id ≡ b → (list_any test ids ≡ false → find test ids ≡ None) → (b || list_any test ids) ≡ false → cond (test id) (Some id) (find test ids) ≡ None
    split true is later f = absurd (let g : true ≡ false = f in cc)
    split false is later f = ap (λ b. cond b (Some id) (find test ids)) is ∙ later f

-- an annotation that stands is among the IDs
pub among_ids : (layer : Annotations) (id : AnnId) (mark : Mark) → mark_at layer id ≡ Some mark → list_any (is_id id) (ids_of layer) ≡ true
among_ids layer id mark is = split (list_any (is_id id) (ids_of layer)) refl
  where
    split : (b : Bool) → list_any (is_id id) (ids_of layer) ≡ b → b ≡ true
    split true e = refl
    split false e = not_both (is_id id id) (itself id) (unfound (is_id id) layer id mark (none_of (is_id id) (ids_of layer) e) is)

-- ---- the IDs of a layer ascend

-- each stands below those behind it
abbrev pub Ascend : List AnnId → Type 0
Ascend [] = ⊤
Ascend (id ∷ ids) = AllByRecursion (λ other. rank id < rank other) ids × Ascend ids

along : {X : Type 0} (P Q : X → Type 0) (xs : List X) → ((x : X) → P x → Q x) → AllByRecursion P xs → AllByRecursion Q xs
along P Q [] f all = tt
along P Q (x ∷ xs) f all = (f x all.0, along P Q xs f all.1)

joined : {X : Type 0} (P : X → Type 0) (xs ys : List X) → AllByRecursion P xs → AllByRecursion P ys → AllByRecursion P (xs ++ ys)
joined P [] ys h g = g
joined P (x ∷ xs) ys h g = (h.0, joined P xs ys h.1 g)

above_items : {V : Type 0} (r : ℕ) (kind : Kind) (es : List (ℕ × V)) → AllByRecursion (λ y. r < rank y.0) (items kind es) → AllByRecursion (λ id. r < rank id) (map (id_at kind) (keys_of es))
above_items r kind [] all = tt
above_items r kind (e ∷ es) all = (all.0, above_items r kind es all.1)

items_ascend : {V : Type 0} (kind : Kind) (es : List (ℕ × V)) → Up (items kind es) → Ascend (map (id_at kind) (keys_of es))
items_ascend kind [] up = tt
items_ascend kind (e ∷ es) up = (above_items (rank (id_at kind e.0)) kind es up.0, items_ascend kind es up.1)

letter_ascends : (layer : Annotations) → IsLayer layer → (kind : Kind) → Ascend (ids_of_letter layer kind)
letter_ascends layer kept letter.Text = items_ascend letter.Text (finite.entries layer.spans) (up_entries letter.Text layer.spans kept.spans)
letter_ascends layer kept letter.Event = items_ascend letter.Event (finite.entries layer.events) (up_entries letter.Event layer.events kept.events)
letter_ascends layer kept letter.Relation = items_ascend letter.Relation (finite.entries layer.relations) (up_entries letter.Relation layer.relations kept.relations)
letter_ascends layer kept letter.Attribute = items_ascend letter.Attribute (finite.entries layer.attributes) (up_entries letter.Attribute layer.attributes kept.attributes)
letter_ascends layer kept letter.Legacy = items_ascend letter.Legacy (finite.entries layer.legacy) (up_entries letter.Legacy layer.legacy kept.legacy)
letter_ascends layer kept letter.Normal = items_ascend letter.Normal (finite.entries layer.normals) (up_entries letter.Normal layer.normals kept.normals)
letter_ascends layer kept letter.Note = items_ascend letter.Note (finite.entries layer.notes) (up_entries letter.Note layer.notes kept.notes)

low_letter : (kind : Kind) (ns : List ℕ) → AllByRecursion (λ id. letter_place kind * 1000000000 ≤ rank id) (map (id_at kind) ns)
low_letter kind [] = tt
low_letter kind (n ∷ ns) = (omega arith, low_letter kind ns)

high_letter : (kind : Kind) (bound : ℕ) (ns : List ℕ) → letter_place kind < bound → AllByRecursion (λ id. rank id < bound * 1000000000) (map (id_at kind) ns)
high_letter kind bound [] less = tt
high_letter kind bound (n ∷ ns) less = (let small : min n 999999999 ≤ 999999999 = omega arith in omega arith, high_letter kind bound ns less)

ascend_both : (bound : ℕ) (xs ys : List AnnId) → AllByRecursion (λ id. rank id < bound) xs → AllByRecursion (λ id. bound ≤ rank id) ys → Ascend xs → Ascend ys → Ascend (xs ++ ys)
ascend_both bound [] ys high low up more = more
ascend_both bound (x ∷ xs) ys high low up more = (
  joined (λ y. rank x < rank y) xs ys up.0 (along (λ y. bound ≤ rank y) (λ y. rank x < rank y) ys (λ y h. let here : rank x < bound = high.0 in omega arith) low),
  ascend_both bound xs ys high.1 low up.1 more,
)

-- the IDs from a letter on ascend, and stand behind its place
abbrev From : ℕ → List AnnId → Type 0
From place ids = AllByRecursion (λ id. place * 1000000000 ≤ rank id) ids × Ascend ids

from_letter : (layer : Annotations) → IsLayer layer → (kind : Kind) (place : ℕ) (ids : List AnnId) → letter_place kind < place → From place ids → From (letter_place kind) (ids_of_letter layer kind ++ ids)
from_letter layer kept kind place ids less from = (
  joined (λ id. letter_place kind * 1000000000 ≤ rank id) (ids_of_letter layer kind) ids (low_letter kind _)
      (along (λ id. place * 1000000000 ≤ rank id) (λ id. letter_place kind * 1000000000 ≤ rank id) ids (λ id h. omega (arith, h, less)) from.0),
  ascend_both (place * 1000000000) (ids_of_letter layer kind) ids (high_letter kind place _ less) from.0 (letter_ascends layer kept kind) from.1,
)

pub ids_ascend : (layer : Annotations) → IsLayer layer → Ascend (ids_of layer)
ids_ascend layer kept =
    (from_letter layer kept letter.Text 1 _ (omega arith) (from_letter layer kept letter.Event 2 _ (omega arith) (from_letter layer kept letter.Relation 3 _ (omega arith)
    (from_letter layer kept letter.Attribute 4 _ (omega arith) (from_letter layer kept letter.Legacy 5 _ (omega arith) (from_letter layer kept letter.Normal 6 _ (omega arith)
    (from_letter layer kept letter.Note 7 [] (omega arith) (tt, tt)))))))).1

-- ---- the first of ascending IDs

at_member : (P : AnnId → Type 0) (ids : List AnnId) (id : AnnId) → AllByRecursion P ids → list_any (is_id id) ids ≡ true → P id
at_member P [] id all e = absurd (let f : false ≡ true = e in cc)
at_member P (other ∷ ids) id all e = split (is_id id other) refl (at_member P ids id all.1) e
  where
    split : (b : Bool) → is_id id other ≡ b → (list_any (is_id id) ids ≡ true → P id) → (b || list_any (is_id id) ids) ≡ true → P id
    split true is later f = subst P (sym (one_id id other is)) all.0
    split false is later f = later f

-- an ID that passes a test is the first that does, where none below it does
pub first_is : (p : AnnId → Bool) (ids : List AnnId) (id : AnnId) → Ascend ids → list_any (is_id id) ids ≡ true → p id ≡ true → ((other : AnnId) → rank other < rank id → p other ≡ false) → find p ids ≡ Some id
first_is p [] id up there passes lowest = absurd (let f : false ≡ true = there in cc)
first_is p (other ∷ ids) id up there passes lowest = split (is_id id other) refl (λ f. first_is p ids id up.1 f passes lowest) there
  where
    split : (b : Bool) → is_id id other ≡ b → (list_any (is_id id) ids ≡ true → find p ids ≡ Some id) → (b || list_any (is_id id) ids) ≡ true → cond (p other) (Some other) (find p ids) ≡ Some id
    split true is later f =
        let same = one_id id other is in
        ap (λ b. cond b (Some other) (find p ids)) (ap p (sym same) ∙ passes) ∙ ap (λ i. Some i) (sym same)
    split false is later f =
        ap (λ b. cond b (Some other) (find p ids)) (lowest other (at_member (λ i. rank other < rank i) ids id up.0 f)) ∙ later f

-- ---- an ID put in its place among those that pass a test

apart_above : (id other : AnnId) → rank id < rank other → is_id id other ≡ false
apart_above id other less = split (is_id id other) refl
  where
    split : (b : Bool) → is_id id other ≡ b → b ≡ false
    split true is = absurd (let same = ap rank (one_id id other is) in omega arith)
    split false is = refl

count_one : (p : AnnId → Bool) (x : AnnId) (xs : List AnnId) → count_by p (x ∷ xs) ≡ cond (p x) 1 0 + count_by p xs
count_one p x xs = sum_by-cons (λ y. cond (p y) 1 0) x xs

-- behind an ID there is none below it, and it does not stand there again
behind_count : (id : AnnId) (names : AnnId → Bool) (ids : List AnnId) → AllByRecursion (λ other. rank id < rank other) ids
    → count_by (is_below id) (filter (λ other. not (is_id id other) && names other) ids) ≡ 0
behind_count id names [] all = refl
behind_count id names (other ∷ ids) all = split (not (is_id id other) && names other) (behind_count id names ids all.1)
  where
    none_more : (n : ℕ) → 0 + n ≡ n
    none_more n = omega arith

    high : is_below id other ≡ false
    high = let less : rank id < rank other = all.0 in le-ltb (rank other) (rank id) (omega arith)

    split : (b : Bool) → count_by (is_below id) (filter (λ o. not (is_id id o) && names o) ids) ≡ 0 → count_by (is_below id) (cond b (other ∷ filter (λ o. not (is_id id o) && names o) ids) (filter (λ o. not (is_id id o) && names o) ids)) ≡ 0
    split true later =
        count_one (is_below id) other (filter (λ o. not (is_id id o) && names o) ids)
        ∙ ap (λ b. cond b 1 0 + count_by (is_below id) (filter (λ o. not (is_id id o) && names o) ids)) high
        ∙ none_more (count_by (is_below id) (filter (λ o. not (is_id id o) && names o) ids)) ∙ later
    split false later = later

behind_same : (id : AnnId) (names : AnnId → Bool) (ids : List AnnId) → AllByRecursion (λ other. rank id < rank other) ids
    → filter (λ other. not (is_id id other) && names other) ids ≡ filter (λ other. is_id id other || names other) ids
behind_same id names [] all = refl
behind_same id names (other ∷ ids) all =
    ap (λ b. cond (not b && names other) (other ∷ filter (λ o. not (is_id id o) && names o) ids) (filter (λ o. not (is_id id o) && names o) ids)) (apart_above id other all.0)
    ∙ ap (λ os. cond (names other) (other ∷ os) os) (behind_same id names ids all.1)
    ∙ sym (ap (λ b. cond (b || names other) (other ∷ filter (λ o. is_id id o || names o) ids) (filter (λ o. is_id id o || names o) ids)) (apart_above id other all.0))

insert_first : (xs : List AnnId) (count : ℕ) (id : AnnId) → count ≡ 0 → insert xs count id ≡ id ∷ xs
insert_first xs count id e = ap (λ n. insert xs n id) e

insert_later : (x : AnnId) (xs : List AnnId) (count : ℕ) (id : AnnId) → insert (x ∷ xs) (1 + count) id ≡ x ∷ insert xs count id
insert_later x xs count id = ap (λ n. insert (x ∷ xs) n id) (let next : 1 + count ≡ suc count = omega arith in next)

-- an ID that stands at its own place
put_at : (id other : AnnId) (named : Bool) (rest wide : List AnnId) → is_id id other ≡ true → count_by (is_below id) rest ≡ 0 → rest ≡ wide
    → insert (cond (not (is_id id other) && named) (other ∷ rest) rest) (count_by (is_below id) (cond (not (is_id id other) && named) (other ∷ rest) rest)) id
    ≡ cond (is_id id other || named) (other ∷ wide) wide
put_at id other named rest wide is none same =
    ap (λ b. insert (cond (not b && named) (other ∷ rest) rest) (count_by (is_below id) (cond (not b && named) (other ∷ rest) rest)) id) is
    ∙ insert_first rest (count_by (is_below id) rest) id none
    ∙ ap (λ os. id ∷ os) same
    ∙ ap (λ i. i ∷ wide) (one_id id other is)
    ∙ sym (ap (λ b. cond (b || named) (other ∷ wide) wide) is)

-- an ID that stands behind another
put_behind : (id other : AnnId) (named : Bool) (rest wide : List AnnId) → is_id id other ≡ false → rank other < rank id → insert rest (count_by (is_below id) rest) id ≡ wide
    → insert (cond (not (is_id id other) && named) (other ∷ rest) rest) (count_by (is_below id) (cond (not (is_id id other) && named) (other ∷ rest) rest)) id
    ≡ cond (is_id id other || named) (other ∷ wide) wide
put_behind id other named rest wide is less later =
    ap (λ b. insert (cond (not b && named) (other ∷ rest) rest) (count_by (is_below id) (cond (not b && named) (other ∷ rest) rest)) id) is
    ∙ by_name named
    ∙ sym (ap (λ b. cond (b || named) (other ∷ wide) wide) is)
  where
    by_name : (b : Bool) → insert (cond b (other ∷ rest) rest) (count_by (is_below id) (cond b (other ∷ rest) rest)) id ≡ cond b (other ∷ wide) wide
    by_name true =
        ap (λ n. insert (other ∷ rest) n id) (count_one (is_below id) other rest)
        ∙ ap (λ b. insert (other ∷ rest) (cond b 1 0 + count_by (is_below id) rest) id) (lt-ltb (rank other) (rank id) less)
        ∙ insert_later other rest (count_by (is_below id) rest) id ∙ ap (λ os. other ∷ os) later
    by_name false = later

-- an ID put behind those below it among those that pass a test, of which it may be none
pub put_in_place : (id : AnnId) (names : AnnId → Bool) (ids : List AnnId) → Ascend ids → list_any (is_id id) ids ≡ true
    → insert (filter (λ other. not (is_id id other) && names other) ids) (count_by (is_below id) (filter (λ other. not (is_id id other) && names other) ids)) id
    ≡ filter (λ other. is_id id other || names other) ids
put_in_place id names [] up there = absurd (let f : false ≡ true = there in cc)
put_in_place id names (other ∷ ids) up there = split (is_id id other) refl (put_in_place id names ids up.1) there
  where
    behind : is_id id other ≡ true → AllByRecursion (λ o. rank id < rank o) ids
    behind is = subst (λ (i : AnnId). AllByRecursion (λ o. rank i < rank o) ids) (sym (one_id id other is)) up.0

    split : (b : Bool) → is_id id other ≡ b
        → (list_any (is_id id) ids ≡ true → insert (filter (λ o. not (is_id id o) && names o) ids) (count_by (is_below id) (filter (λ o. not (is_id id o) && names o) ids)) id ≡ filter (λ o. is_id id o || names o) ids)
        → (b || list_any (is_id id) ids) ≡ true
        → insert (filter (λ o. not (is_id id o) && names o) (other ∷ ids)) (count_by (is_below id) (filter (λ o. not (is_id id o) && names o) (other ∷ ids))) id
        ≡ filter (λ o. is_id id o || names o) (other ∷ ids)
    split true is later f =
        put_at id other (names other) (filter (λ o. not (is_id id o) && names o) ids) (filter (λ o. is_id id o || names o) ids) is
        (behind_count id names ids (behind is)) (behind_same id names ids (behind is))
    split false is later f =
        put_behind id other (names other) (filter (λ o. not (is_id id o) && names o) ids) (filter (λ o. is_id id o || names o) ids) is
        (at_member (λ i. rank other < rank i) ids id up.0 f) (later f)

-- ---- the annotation of an ID and those that name it

here : (layer : Annotations) (id : AnnId) → has layer id ≡ true → list_any (is_id id) (ids_of layer) ≡ true
here layer id there = split (mark_at layer id) refl
  where
    split : (o : Option Mark) → mark_at layer id ≡ o → list_any (is_id id) (ids_of layer) ≡ true
    split None is = absurd (let f : false ≡ true = sym (ap is_some is) ∙ sym (has_is layer id.kind id.number) ∙ there in cc)
    split (Some mark) is = among_ids layer id mark is

-- an ID put in its place among those that name it
pub placed : (layer : Annotations) → IsLayer layer → (id : AnnId) → has layer id ≡ true → (names : List AnnId) → names ≡ namers_but (Some id) layer id
    → insert names (count_by (is_below id) names) id ≡ near_ids layer id
placed layer kept id there names is =
    ap (λ ns. insert ns (count_by (is_below id) ns) id) is ∙ put_in_place id (names_it layer id) (ids_of layer) (ids_ascend layer kept) (here layer id there)
