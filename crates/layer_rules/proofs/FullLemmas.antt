-- The 10,001st annotation of a sort, and the 10,001st class.
use Rattle.std.proofs.Common.{◌≡◌, ◌≢◌, ℕ, ◌+◌, ◌-◌, ◌<◌, ◌≤◌, ◌==◌, zero, suc, Bool, true, false, List, [], ◌∷◌, ◌++◌, map, length, slice_get, refl, sym, ◌∙◌, ap, subst, Option, Some, None, arith, tests}
use Rattle.std.proofs.lemmas.Option.{slice_get_past}
use Rattle.std.specs.Option.{option_or, option_map, option_map_or, is_some}
use Rattle.std.specs.List.{AllByRecursion}
use Rattle.std.specs.Map.{keys_of}
use Rattle.std.specs.Ordering.{nat_cmp}
use Rattle.std.specs.FinMap as finite
use Rattle.std.specs.FinMap.{len-entries}
use Rattle.mark_base.specs.declared.ann_id.Kind.{Kind}
use Rattle.mark_base.specs.declared.ann_id.Kind.TheVariants as letter
use Rattle.layer_model.specs.declared.mark.Mark.{Mark}
use Rattle.layer_model.specs.declared.mark.Mark.TheVariants as marked
use Rattle.layer_model.specs.declared.class.Class.{Class}
use Rattle.layer_model.specs.declared.rule.Rule.{Rule}
use Rattle.layer_model.specs.declared.rule.Rule.TheVariants.{LayerFull}
use Rattle.layer_model.specs.declared.flaw.Flaw.{Flaw}
use Rattle.layer_model.specs.declared.flaw.FlawPlace.TheVariants as at
use Rattle.layer_model.specs.Annotations.{Annotations}
use Rattle.layer_model.specs.Layers.{IsLayer, mark_of, numbers}
use Rattle.layer_model.specs.Numbers.{NumbersFit}
use Rattle.mark_base.specs.ReadIds.{id_at}
use Rattle.layer_model.specs.LayerIds.{id_place, ids_of_letter}
use Rattle.layer_rules.specs.FlawPlaces.{first_place, places}
use Rattle.layer_rules.specs.MarkRules.{where_so}
use Rattle.layer_rules.specs.LayerRules.{is_id, counted_letter, counted_with, layer_full, classes_full}
use Rattle.layer_rules.specs.WellFormed.{at_layer_full}
use Rattle.layer_rules.specs.LowestFlaw.{first_among, first_from, flaw_at, full_at}
use Rattle.layer_rules.proofs.PlaceLemmas.{along, entries_found, places_of}
use Rattle.layer_rules.proofs.PassLemmas.{classes_first, first_by_places, letter_first, none_among}

some_none : {X : Type 0} {x : X} → None ≡ Some x → ⊥
some_none e = cc

same_some : {X : Type 0} {a b : X} → Some a ≡ Some b → a ≡ b
same_some e = cc

-- ---- which of the numbers of a letter is the one

is_equal : (a b : ℕ) → (a == b) ≡ true → a ≡ b
is_equal a b e = search (arith, tests)

not_equal : (a b : ℕ) → a ≢ b → (a == b) ≡ false
not_equal a b h = search (arith, tests)

equal : (a : ℕ) → (a == a) ≡ true
equal a = search (arith, tests)

all_small : {V : Type 0} (m : finite.FinMap nat_cmp V) → NumbersFit m → AllByRecursion (λ e. e.0 ≤ 999999999) (finite.entries m)
all_small m fits =
    along (λ e. finite.get m e.0 ≡ Some e.1) (λ e. e.0 ≤ 999999999) (λ e is. fits e.0 (ap is_some is)) (finite.entries m) (entries_found m)

places_differ : (kind : Kind) (a b : ℕ) → a ≤ 999999999 → b ≤ 999999999 → is_id (id_at kind a) (id_at kind b) ≡ true → a ≡ b
places_differ kind a b ha hb e = let same = is_equal (id_place (id_at kind a)) (id_place (id_at kind b)) e in omega arith

itself : (kind : Kind) (a : ℕ) → is_id (id_at kind a) (id_at kind a) ≡ true
itself kind a = equal (id_place (id_at kind a))

-- the ID at an index is the first that is it
met : {V : Type 0} (kind : Kind) (rule : Rule) (n : ℕ) (es : List (ℕ × V)) (i : ℕ) → slice_get (keys_of es) i ≡ Some n → n ≤ 999999999 → AllByRecursion (λ e. e.0 ≤ 999999999) es
    → first_among kind (λ k _. where_so (is_id (id_at kind k) (id_at kind n)) rule) es ≡ Some (record { rule = rule; at = at.Mark (id_at kind n) })
met kind rule n [] i is small all = absurd (some_none is)
met kind rule n (e ∷ es) zero is small all =
    let same : e.0 ≡ n = same_some is in
    ap (λ b. option_or (flaw_at (at.Mark (id_at kind e.0)) (where_so b rule)) (first_among kind (λ k _. where_so (is_id (id_at kind k) (id_at kind n)) rule) es))
    (ap (λ m. is_id (id_at kind m) (id_at kind n)) same ∙ itself kind n)
    ∙ ap (λ m. Some (record { rule = rule; at = at.Mark (id_at kind m) })) same
met kind rule n (e ∷ es) (suc i) is small all = split (is_id (id_at kind e.0) (id_at kind n)) refl (met kind rule n es i is small all.1)
  where
    split : (b : Bool) → is_id (id_at kind e.0) (id_at kind n) ≡ b
        → first_among kind (λ k _. where_so (is_id (id_at kind k) (id_at kind n)) rule) es ≡ Some (record { rule = rule; at = at.Mark (id_at kind n) })
        → option_or (flaw_at (at.Mark (id_at kind e.0)) (where_so b rule)) (first_among kind (λ k _. where_so (is_id (id_at kind k) (id_at kind n)) rule) es)
        ≡ Some (record { rule = rule; at = at.Mark (id_at kind n) })
    split true same later = ap (λ m. Some (record { rule = rule; at = at.Mark (id_at kind m) })) (places_differ kind e.0 n all.0 small same)
    split false same later = later

small_at : {V : Type 0} (es : List (ℕ × V)) (i n : ℕ) → slice_get (keys_of es) i ≡ Some n → AllByRecursion (λ e. e.0 ≤ 999999999) es → n ≤ 999999999
small_at [] i n is all = absurd (some_none is)
small_at (e ∷ es) zero n is all = subst (λ m. m ≤ 999999999) (same_some is) all.0
small_at (e ∷ es) (suc i) n is all = small_at es i n is all.1

-- the flaw of the annotation at an index
at_index : {V : Type 0} (kind counted : Kind) (es : List (ℕ × V)) (i : ℕ) (o : Option ℕ) → slice_get (keys_of es) i ≡ o → AllByRecursion (λ e. e.0 ≤ 999999999) es
    → first_among kind (λ k _. where_so (option_map_or (is_id (id_at kind k)) (option_map (id_at kind) o) false) (LayerFull counted)) es ≡ full_at kind counted o
at_index kind counted es i None is all = none_among kind _ es (λ n v. refl)
at_index kind counted es i (Some n) is all = met kind (LayerFull counted) n es i is (small_at es i n is all) all

slice_map : {X Y : Type 0} (f : X → Y) (xs : List X) (i : ℕ) → slice_get (map f xs) i ≡ option_map f (slice_get xs i)
slice_map f [] i = refl
slice_map f (x ∷ xs) zero = refl
slice_map f (x ∷ xs) (suc i) = slice_map f xs i

slice_append : {X : Type 0} (xs ys : List X) (i : ℕ) → slice_get (xs ++ ys) i ≡ option_or (slice_get xs i) (slice_get ys (i - length xs))
slice_append [] ys i = ap (slice_get ys) (let e : i ≡ i - 0 = omega arith in e)
slice_append (x ∷ xs) ys zero = refl
slice_append (x ∷ xs) ys (suc i) = slice_append xs ys i ∙ ap (λ k. option_or (slice_get xs i) (slice_get ys k)) (let e : i - length xs ≡ suc i - suc (length xs) = omega arith in e)

-- ---- one letter that is counted alone

alone : {V : Type 0} (layer : Annotations) (kind : Kind) (wrap : V → Mark) (m : finite.FinMap nat_cmp V)
    → ((n : ℕ) → mark_of layer kind n ≡ option_map wrap (finite.get m n)) → NumbersFit m → numbers layer kind ≡ finite.keys m
    → counted_with layer kind ≡ ids_of_letter layer kind
    → first_place (at_layer_full layer) (places_of layer kind) ≡ full_at kind (counted_letter kind) (slice_get (finite.keys m) 10000)
alone layer kind wrap m same fits keys counted =
    letter_first (layer_full layer) classes_full layer kind wrap m same fits keys
    ∙ ap (λ o. first_among kind (λ k _. where_so (option_map_or (is_id (id_at kind k)) o false) (LayerFull (counted_letter kind))) (finite.entries m))
    (ap (λ ids. slice_get ids 10000) counted ∙ ap (λ ns. slice_get (map (id_at kind) ns) 10000) keys ∙ slice_map (id_at kind) (finite.keys m) 10000)
    ∙ at_index kind (counted_letter kind) (finite.entries m) 10000 (slice_get (finite.keys m) 10000) refl (all_small m fits)

-- ---- attributes, under both letters

apart : (a b : ℕ) → is_id (id_at letter.Attribute a) (id_at letter.Legacy b) ≡ false
apart a b = not_equal (id_place (id_at letter.Attribute a)) (id_place (id_at letter.Legacy b)) (λ e. omega arith)

not_one : (k : ℕ) (b : Option ℕ) → where_so (option_map_or (is_id (id_at letter.Attribute k)) (option_map (id_at letter.Legacy) b) false) (LayerFull letter.Attribute) ≡ None
not_one k None = refl
not_one k (Some n) = ap (λ c. where_so c (LayerFull letter.Attribute)) (apart k n)

either_letter : (layer : Annotations) → IsLayer layer → (rest : Option Flaw)
    → option_or (first_place (at_layer_full layer) (places_of layer letter.Attribute)) (option_or (first_place (at_layer_full layer) (places_of layer letter.Legacy)) rest)
    ≡ option_or (full_at letter.Attribute letter.Attribute (slice_get (finite.keys layer.attributes) 10000))
    (option_or (full_at letter.Legacy letter.Attribute (slice_get (finite.keys layer.legacy) (10000 - length (map (id_at letter.Attribute) (finite.keys layer.attributes))))) rest)
either_letter layer kept rest = split (slice_get (finite.keys layer.attributes) 10000) refl (slice_get (finite.keys layer.legacy) (10000 - length (map (id_at letter.Attribute) (finite.keys layer.attributes)))) refl
  where
    one : first_place (at_layer_full layer) (places_of layer letter.Attribute)
        ≡ first_among letter.Attribute (λ k _. where_so (option_map_or (is_id (id_at letter.Attribute k)) (slice_get (counted_with layer letter.Attribute) 10000) false) (LayerFull letter.Attribute)) (finite.entries layer.attributes)
    one = letter_first (layer_full layer) classes_full layer letter.Attribute marked.Attribute layer.attributes (λ k. refl) kept.attributes refl

    other : first_place (at_layer_full layer) (places_of layer letter.Legacy)
        ≡ first_among letter.Legacy (λ k _. where_so (option_map_or (is_id (id_at letter.Legacy k)) (slice_get (counted_with layer letter.Attribute) 10000) false) (LayerFull letter.Attribute)) (finite.entries layer.legacy)
    other = letter_first (layer_full layer) classes_full layer letter.Legacy marked.Attribute layer.legacy (λ k. refl) kept.legacy refl

    is_wanted : slice_get (counted_with layer letter.Attribute) 10000 ≡ option_or (option_map (id_at letter.Attribute) (slice_get (finite.keys layer.attributes) 10000)) (option_map (id_at letter.Legacy) (slice_get (finite.keys layer.legacy) (10000 - length (map (id_at letter.Attribute) (finite.keys layer.attributes)))))
    is_wanted =
        slice_append (ids_of_letter layer letter.Attribute) (ids_of_letter layer letter.Legacy) 10000
        ∙ ap (λ o. option_or o (slice_get (ids_of_letter layer letter.Legacy) (10000 - length (map (id_at letter.Attribute) (finite.keys layer.attributes))))) (slice_map (id_at letter.Attribute) (finite.keys layer.attributes) 10000)
        ∙ ap (option_or (option_map (id_at letter.Attribute) (slice_get (finite.keys layer.attributes) 10000))) (slice_map (id_at letter.Legacy) (finite.keys layer.legacy) (10000 - length (map (id_at letter.Attribute) (finite.keys layer.attributes))))

    split : (a : Option ℕ) → slice_get (finite.keys layer.attributes) 10000 ≡ a → (b : Option ℕ) → slice_get (finite.keys layer.legacy) (10000 - length (map (id_at letter.Attribute) (finite.keys layer.attributes))) ≡ b
        → option_or (first_place (at_layer_full layer) (places_of layer letter.Attribute)) (option_or (first_place (at_layer_full layer) (places_of layer letter.Legacy)) rest)
        ≡ option_or (full_at letter.Attribute letter.Attribute a) (option_or (full_at letter.Legacy letter.Attribute b) rest)
    split (Some n) a_is b b_is =
        let small = small_at (finite.entries layer.attributes) 10000 n a_is (all_small layer.attributes kept.attributes) in
        let target : slice_get (counted_with layer letter.Attribute) 10000 ≡ Some (id_at letter.Attribute n) =
        is_wanted ∙ ap (λ o. option_or (option_map (id_at letter.Attribute) o) (option_map (id_at letter.Legacy) (slice_get (finite.keys layer.legacy) (10000 - length (map (id_at letter.Attribute) (finite.keys layer.attributes)))))) a_is in
        ap (λ o. option_or o (option_or (first_place (at_layer_full layer) (places_of layer letter.Legacy)) rest))
        (one ∙ ap (λ o. first_among letter.Attribute (λ k _. where_so (option_map_or (is_id (id_at letter.Attribute k)) o false) (LayerFull letter.Attribute)) (finite.entries layer.attributes)) target
        ∙ met letter.Attribute (LayerFull letter.Attribute) n (finite.entries layer.attributes) 10000 a_is small (all_small layer.attributes kept.attributes))
    split None a_is b b_is =
        let target : slice_get (counted_with layer letter.Attribute) 10000 ≡ option_map (id_at letter.Legacy) b =
        is_wanted ∙ ap (λ o. option_or (option_map (id_at letter.Attribute) o) (option_map (id_at letter.Legacy) (slice_get (finite.keys layer.legacy) (10000 - length (map (id_at letter.Attribute) (finite.keys layer.attributes)))))) a_is
        ∙ ap (option_map (id_at letter.Legacy)) b_is in
        ap (λ o. option_or o (option_or (first_place (at_layer_full layer) (places_of layer letter.Legacy)) rest))
        (one ∙ ap (λ o. first_among letter.Attribute (λ k _. where_so (option_map_or (is_id (id_at letter.Attribute k)) o false) (LayerFull letter.Attribute)) (finite.entries layer.attributes)) target
        ∙ none_among letter.Attribute (λ k _. where_so (option_map_or (is_id (id_at letter.Attribute k)) (option_map (id_at letter.Legacy) b) false) (LayerFull letter.Attribute)) (finite.entries layer.attributes) (λ k v. not_one k b))
        ∙ ap (λ o. option_or o rest)
        (other ∙ ap (λ o. first_among letter.Legacy (λ k _. where_so (option_map_or (is_id (id_at letter.Legacy k)) o false) (LayerFull letter.Attribute)) (finite.entries layer.legacy)) target
        ∙ at_index letter.Legacy letter.Attribute (finite.entries layer.legacy) (10000 - length (map (id_at letter.Attribute) (finite.keys layer.attributes))) b b_is (all_small layer.legacy kept.legacy))

-- ---- classes

pub few_classes : (i : ℕ) (cs : List Class) → i + length cs ≤ 10000 → first_from i classes_full cs ≡ None
few_classes i [] few = refl
few_classes i (c ∷ cs) few =
    let differs : (i == 10000) ≡ false = not_equal i 10000 (λ e. omega arith) in
    ap (λ b. option_or (flaw_at (at.Class i) (where_so b (LayerFull letter.Text))) (first_from (i + 1) classes_full cs)) differs ∙ few_classes (i + 1) cs (omega arith)

pub many_classes : (i : ℕ) (cs : List Class) → i ≤ 10000 → 10000 < i + length cs → first_from i classes_full cs ≡ Some (record { rule = LayerFull letter.Text; at = at.Class 10000 })
many_classes i [] low many = absurd (omega arith)
many_classes i (c ∷ cs) low many = split (i == 10000) refl (λ below. many_classes (i + 1) cs below (omega arith))
  where
    split : (b : Bool) → (i == 10000) ≡ b → (i + 1 ≤ 10000 → first_from (i + 1) classes_full cs ≡ Some (record { rule = LayerFull letter.Text; at = at.Class 10000 }))
        → option_or (flaw_at (at.Class i) (where_so b (LayerFull letter.Text))) (first_from (i + 1) classes_full cs) ≡ Some (record { rule = LayerFull letter.Text; at = at.Class 10000 })
    split true is later = ap (λ k. Some (record { rule = LayerFull letter.Text; at = at.Class k })) (is_equal i 10000 is)
    split false is later = later (let differs : i ≢ 10000 = (λ e. absurd (let t : true ≡ false = sym (ap (λ k. k == 10000) e) ∙ is in cc)) in omega arith)

-- ---- the whole pass

pub full_is : (layer : Annotations) → IsLayer layer → first_place (at_layer_full layer) (places layer)
    ≡ option_or (full_at letter.Text letter.Text (slice_get (finite.keys layer.spans) 10000)) (option_or (full_at letter.Event letter.Event (slice_get (finite.keys layer.events) 10000))
    (option_or (full_at letter.Relation letter.Relation (slice_get (finite.keys layer.relations) 10000)) (option_or (full_at letter.Attribute letter.Attribute (slice_get (finite.keys layer.attributes) 10000))
    (option_or (full_at letter.Legacy letter.Attribute (slice_get (finite.keys layer.legacy) (10000 - length (map (id_at letter.Attribute) (finite.keys layer.attributes)))))
    (option_or (full_at letter.Normal letter.Normal (slice_get (finite.keys layer.normals) 10000)) (option_or (full_at letter.Note letter.Note (slice_get (finite.keys layer.notes) 10000))
    (first_from 0 classes_full layer.classes)))))))
full_is layer kept =
    first_by_places (at_layer_full layer) layer _ _ _ _ _ _ _ _
    (alone layer letter.Text marked.Span layer.spans (λ k. refl) kept.spans refl refl)
    (alone layer letter.Event marked.Event layer.events (λ k. refl) kept.events refl refl)
    (alone layer letter.Relation marked.Relation layer.relations (λ k. refl) kept.relations refl refl)
    refl refl
    (alone layer letter.Normal marked.Normal layer.normals (λ k. refl) kept.normals refl refl)
    (alone layer letter.Note marked.Note layer.notes (λ k. refl) kept.notes refl refl)
    (classes_first (layer_full layer) classes_full layer)
    ∙ ap (λ o. option_or (full_at letter.Text letter.Text (slice_get (finite.keys layer.spans) 10000)) (option_or (full_at letter.Event letter.Event (slice_get (finite.keys layer.events) 10000))
    (option_or (full_at letter.Relation letter.Relation (slice_get (finite.keys layer.relations) 10000)) o)))
    (either_letter layer kept (option_or (full_at letter.Normal letter.Normal (slice_get (finite.keys layer.normals) 10000)) (option_or (full_at letter.Note letter.Note (slice_get (finite.keys layer.notes) 10000))
    (first_from 0 classes_full layer.classes))))

-- how many attributes there are
pub counted_attributes : (layer : Annotations) → finite.len layer.attributes ≡ length (map (id_at letter.Attribute) (finite.keys layer.attributes))
counted_attributes layer = len-entries layer.attributes ∙ sym (same_length (id_at letter.Attribute) (finite.keys layer.attributes) ∙ same_length (λ e. e.0) (finite.entries layer.attributes))
  where
    same_length : {X Y : Type 0} (f : X → Y) (xs : List X) → length (map f xs) ≡ length xs
    same_length f [] = refl
    same_length f (x ∷ xs) = ap suc (same_length f xs)

-- what a pass over the letters finds
pub full_found : (layer : Annotations) → IsLayer layer → (s e r a m n t c : Option Flaw) (left : ℕ)
    → s ≡ full_at letter.Text letter.Text (slice_get (finite.keys layer.spans) 10000) → e ≡ full_at letter.Event letter.Event (slice_get (finite.keys layer.events) 10000)
    → r ≡ full_at letter.Relation letter.Relation (slice_get (finite.keys layer.relations) 10000) → a ≡ full_at letter.Attribute letter.Attribute (slice_get (finite.keys layer.attributes) 10000)
    → m ≡ full_at letter.Legacy letter.Attribute (slice_get (finite.keys layer.legacy) left) → n ≡ full_at letter.Normal letter.Normal (slice_get (finite.keys layer.normals) 10000)
    → t ≡ full_at letter.Note letter.Note (slice_get (finite.keys layer.notes) 10000) → c ≡ first_from 0 classes_full layer.classes → left ≡ 10000 - finite.len layer.attributes
    → option_or s (option_or e (option_or r (option_or a (option_or m (option_or n (option_or t c)))))) ≡ first_place (at_layer_full layer) (places layer)
full_found layer kept s e r a m n t c left ss es rs as_ ms ns ts cs ls =
    let more : left ≡ 10000 - length (map (id_at letter.Attribute) (finite.keys layer.attributes)) = ls ∙ ap (λ k. 10000 - k) (counted_attributes layer) in
    let legacy : m ≡ full_at letter.Legacy letter.Attribute (slice_get (finite.keys layer.legacy) (10000 - length (map (id_at letter.Attribute) (finite.keys layer.attributes)))) =
    ms ∙ ap (λ k. full_at letter.Legacy letter.Attribute (slice_get (finite.keys layer.legacy) k)) more in
    ap (λ o. option_or o (option_or e (option_or r (option_or a (option_or m (option_or n (option_or t c))))))) ss
    ∙ ap (option_or _) (ap (λ o. option_or o (option_or r (option_or a (option_or m (option_or n (option_or t c)))))) es
    ∙ ap (option_or _) (ap (λ o. option_or o (option_or a (option_or m (option_or n (option_or t c))))) rs
    ∙ ap (option_or _) (ap (λ o. option_or o (option_or m (option_or n (option_or t c)))) as_
    ∙ ap (option_or _) (ap (λ o. option_or o (option_or n (option_or t c))) legacy
    ∙ ap (option_or _) (ap (λ o. option_or o (option_or t c)) ns
    ∙ ap (option_or _) (ap (λ o. option_or o c) ts ∙ ap (option_or _) cs))))))
    ∙ sym (full_is layer kept)

-- ---- an index in a map's numbers

pub index_here : {V : Type 0} (rest later : List (ℕ × V)) (n : ℕ) (v : V) (left : ℕ) (whole : Option ℕ) → rest ≡ (n, v) ∷ later → left ≡ 0 → slice_get (keys_of rest) left ≡ whole → Some n ≡ whole
index_here rest later n v left whole is none before = sym (ap (λ r. slice_get (keys_of r) left) is ∙ ap (slice_get (n ∷ keys_of later)) none) ∙ before

pub index_past : {V : Type 0} (rest : List (ℕ × V)) (left : ℕ) (whole : Option ℕ) → rest ≡ [] → slice_get (keys_of rest) left ≡ whole → None ≡ whole
index_past rest left whole is before = sym (ap (λ r. slice_get (keys_of r) left) is) ∙ before

-- an index behind all of a map's numbers
pub index_over : {V : Type 0} (es : List (ℕ × V)) (m : finite.FinMap nat_cmp V) (index : ℕ) → finite.entries m ≡ es → length es ≤ index → None ≡ slice_get (finite.keys m) index
index_over es m index is few = sym (ap (λ r. slice_get (keys_of r) index) is ∙ slice_get_past (keys_of es) index (let same = as_many es in omega arith))
  where
    as_many : {V : Type 0} (es : List (ℕ × V)) → length (keys_of es) ≡ length es
    as_many [] = refl
    as_many (e ∷ es) = ap suc (as_many es)
