-- The names of a configuration are words that are read back as their places.
use Rattle.std.proofs.Common.{◌≡◌, refl, sym, ap, ◌∙◌, subst, ℕ, zero, suc, ◌+◌, ◌<◌, ◌≤◌, Bool, true, false, cond, List, [], ◌∷◌, length, map, take, arith, Option, Some, None, option_map, slice_get, bytes_eq, inl, inr, if◌then◌else◌}
use Rattle.std.proofs.lemmas.Bool.{or_parts, or_from, true≢false, cases_lt}
use Rattle.std.proofs.lemmas.Slice.Eq.{bytes_eq-Decides}
use Rattle.std.proofs.lemmas.Option.{slice_get_within, get_or_from_slice_get}
use Rattle.std.specs.Option.{is_none, option_map_or, option_or}
use Rattle.std.specs.Str.{NonePass}
use Rattle.std.specs.List.{All, list_any, position_from, range_with_len}
use Rattle.mark_base.specs.declared.table_places.TypeId.{TypeId}
use Rattle.type_hierarchy.specs.declared.type_row.TypeRow.{TypeRow}
use Rattle.type_hierarchy.specs.TypeTrees.{is_named, type_named}
use Rattle.type_hierarchy.specs.TypeFaults.{fault_of, name_twice, bad_parent, are_too_many, is_twice}
use Rattle.type_hierarchy.specs.declared.types_fault.TypesFault.{TypesFault}
use Rattle.type_hierarchy.specs.declared.types_fault.TypesFault.TheVariants.{NameTwice, BadParent, TooMany}
use Rattle.conf_model.specs.Configurations.{Configuration}
use Rattle.conf_model.specs.declared.role.Role.{Role}
use Rattle.conf_model.specs.declared.relation_type.RelationType.{RelationType}
use Rattle.conf_model.specs.declared.attribute_type.AttributeType.{AttributeType}
use Rattle.conf_model.specs.ConfFaults.{is_among, stands_twice}
use Rattle.conf_model.specs.Lookups.{relation_named, attribute_named, roles_of}
use Rattle.conf_model.specs.Sound.{IsSound, IsName, IsDeclaredName, AreRoles, IsRelation, IsAttribute}
use Rattle.annotation_conf.proofs.Written.{IsWord}
use Rattle.annotation_conf.proofs.WrittenNames.{declared_word, no_fault, none_at}

-- ---- lists

pub all_at : {X : Type 0} (P : X → Type 0) (xs : List X) (k : ℕ) (x : X) → All P xs → slice_get xs k ≡ Some x → P x
all_at P xs k x all is = subst P (get_or_from_slice_get xs k x x is) (all k x (slice_get_within xs k x is))

pub some_at : {X : Type 0} (xs : List X) (k : ℕ) → is_none (slice_get xs k) ≡ false → (x : X) × (slice_get xs k ≡ Some x)
some_at [] k e = absurd (true≢false e)
some_at (x ∷ xs) zero e = (x, refl)
some_at (x ∷ xs) (suc k) e = some_at xs k e

some_same : {X : Type 0} {x y : X} → Some x ≡ Some y → x ≡ y
some_same e = cc

none_some : {X : Type 0} {x : X} → None ≡ Some x → ⊥
none_some e = cc

-- the first that passes a test
pub position_first : {X : Type 0} (p : X → Bool) (xs : List X) (i k : ℕ) (x : X) → slice_get xs k ≡ Some x → p x ≡ true → list_any p (take k xs) ≡ false → position_from p i xs ≡ Some (i + k)
position_first p [] i k x is pass none = absurd (none_some is)
position_first p (y ∷ ys) i zero x is pass none =
    ap (λ b. cond b (Some i) (position_from p (i + 1) ys)) (ap p (some_same is) ∙ pass) ∙ ap Some (let e : i ≡ i + 0 = omega arith in e)
position_first p (y ∷ ys) i (suc k) x is pass none =
    let apart = or_parts (p y) (list_any p (take k ys)) none in
    ap (λ b. cond b (Some i) (position_from p (i + 1) ys)) apart.0 ∙ position_first p ys (i + 1) k x is pass apart.1 ∙ ap Some (let e : i + 1 + k ≡ i + suc k = omega arith in e)

pub same_word : (xs : List ℕ) → bytes_eq xs xs ≡ true
same_word xs = (bytes_eq-Decides xs xs).1 refl

pub equal_words : (xs ys : List ℕ) → bytes_eq xs ys ≡ true → xs ≡ ys
equal_words xs ys e = (bytes_eq-Decides xs ys).0 e

among_at : {X : Type 0} (name : X → List ℕ) (xs : List X) (word : List ℕ) (k : ℕ) (x : X) → slice_get xs k ≡ Some x → is_among (map name xs) word ≡ false → bytes_eq word (name x) ≡ false
among_at name [] word k x is none = absurd (none_some is)
among_at name (y ∷ ys) word zero x is none = ap (λ z. bytes_eq word (name z)) (sym (some_same is)) ∙ (or_parts _ _ none).0
among_at name (y ∷ ys) word (suc k) x is none = among_at name ys word k x is (or_parts _ _ none).1

-- no earlier name is the name at a place, where none stands twice
pub none_before : {X : Type 0} (name : X → List ℕ) (xs : List X) (k : ℕ) (x : X) → slice_get xs k ≡ Some x → stands_twice (map name xs) ≡ false → list_any (λ y. bytes_eq (name y) (name x)) (take k xs) ≡ false
none_before name [] k x is once = absurd (none_some is)
none_before name (y ∷ ys) zero x is once = refl
none_before name (y ∷ ys) (suc k) x is once =
    let apart = or_parts _ _ once in
    or_from _ _ (among_at name ys (name y) k x is apart.0) (none_before name ys k x is apart.1)

pub found_by_name : {X : Type 0} (name : X → List ℕ) (xs : List X) (k : ℕ) (x : X) → slice_get xs k ≡ Some x → stands_twice (map name xs) ≡ false → position_from (λ y. bytes_eq (name y) (name x)) 0 xs ≡ Some k
found_by_name name xs k x is once = position_first (λ y. bytes_eq (name y) (name x)) xs 0 k x is (same_word (name x)) (none_before name xs k x is once) ∙ ap Some (let e : 0 + k ≡ k = omega arith in e)

-- ---- words

pub is_word : (word : List ℕ) → IsName word → IsWord word
is_word word h = record { valid = h.valid; faultless = no_fault _ h.faultless }

pub is_declared : (word : List ℕ) → IsDeclaredName word → IsWord word
is_declared word h = declared_word word (record { valid = h.valid; faultless = h.faultless })

-- ---- types

no_first : (first : Option ℕ) (rest : Option TypesFault) → option_or (option_map NameTwice first) rest ≡ None → first ≡ None
no_first None rest e = refl
no_first (Some n) rest e = absurd (none_some (sym e))

no_twice : (rows : List TypeRow) → fault_of rows ≡ None → name_twice rows ≡ None
unfolding fault_of
no_twice rows e = no_first (name_twice rows) (option_or (option_map BadParent (bad_parent rows)) (if are_too_many rows then Some TooMany else None)) e

none_in_range : (p : ℕ → Bool) (low count k : ℕ) → NonePass p (range_with_len low count) → low ≤ k → k < low + count → p k ≡ false
none_in_range p low zero k h above below = absurd (omega arith)
none_in_range p low (suc count) k h above below =
    elim (cases_lt low k) [ inl less ↦ none_in_range p (low + 1) count k h.1 (omega arith) (omega arith) | inr same ↦ let e : low ≡ k = omega arith in subst (λ n. p n ≡ false) e h.0 ]

pub type_read_back : (conf : Configuration) → IsSound conf → (k : ℕ) (row : TypeRow) → slice_get conf.types k ≡ Some row → type_named conf.types row.name ≡ Some (record { n = k })
unfolding name_twice
type_read_back conf sound k row is =
    let once : name_twice conf.types ≡ None = no_twice conf.types sound.types in
    let none : is_twice conf.types k ≡ false = none_in_range (is_twice conf.types) 0 (length conf.types) k (none_at (is_twice conf.types) (range_with_len 0 (length conf.types)) once) (omega arith) (omega (arith, slice_get_within conf.types k row is)) in
    let before : list_any (is_named row.name) (take k conf.types) ≡ false = sym (ap (λ there. option_map_or (λ (r : TypeRow). list_any (is_named r.name) (take k conf.types)) there false) is) ∙ none in
    ap (option_map (λ place. let id : TypeId = record { n = place } in id))
    (position_first (is_named row.name) conf.types 0 k row is (same_word row.name) before ∙ ap Some (let e : 0 + k ≡ k = omega arith in e))

pub type_word : (conf : Configuration) → IsSound conf → (k : ℕ) (row : TypeRow) → slice_get conf.types k ≡ Some row → IsWord row.name
type_word conf sound k row is = is_declared row.name (all_at (λ (r : TypeRow). IsDeclaredName r.name) conf.types k row sound.names is)

-- ---- relation types

pub relation_word : (conf : Configuration) → IsSound conf → (k : ℕ) (relation : RelationType) → slice_get conf.relations k ≡ Some relation → IsRelation conf relation
relation_word conf sound k relation is = all_at (IsRelation conf) conf.relations k relation sound.relations is

pub relation_read_back : (conf : Configuration) → IsSound conf → (k : ℕ) (relation : RelationType) → slice_get conf.relations k ≡ Some relation → relation_named conf relation.name ≡ Some k
relation_read_back conf sound k relation is = found_by_name (λ (r : RelationType). r.name) conf.relations k relation is sound.relations_differ

-- ---- attributes and values

pub attribute_word : (conf : Configuration) → IsSound conf → (k : ℕ) (attribute : AttributeType) → slice_get conf.attributes k ≡ Some attribute → IsAttribute conf attribute
attribute_word conf sound k attribute is = all_at (IsAttribute conf) conf.attributes k attribute sound.attributes is

pub attribute_read_back : (conf : Configuration) → IsSound conf → (k : ℕ) (attribute : AttributeType) → slice_get conf.attributes k ≡ Some attribute → attribute_named conf attribute.name ≡ Some k
attribute_read_back conf sound k attribute is = found_by_name (λ (a : AttributeType). a.name) conf.attributes k attribute is sound.attributes_differ

-- ---- roles

roles_by : (conf : Configuration) → IsSound conf → (event : ℕ) (there : Option (List Role)) → slice_get conf.roles event ≡ there → AreRoles conf (option_map_or (λ roles. roles) there [])
roles_by conf sound event None is = record { few = omega arith; differ = refl; each = λ k d within. absurd (omega arith) }
roles_by conf sound event (Some roles) is = all_at (AreRoles conf) conf.roles event roles sound.roles is

pub are_roles : (conf : Configuration) → IsSound conf → (event : ℕ) → AreRoles conf (roles_of conf event)
are_roles conf sound event = roles_by conf sound event (slice_get conf.roles event) refl
