-- The names that lines are written with are words, and are read back as the places that they stand for.
use Rattle.std.proofs.Common.{◌≡◌, refl, sym, ap, ap₂, ◌∙◌, subst, ℕ, zero, suc, ◌<◌, true, false, cond, List, [], ◌∷◌, length, arith, Option, Some, None, option_map, option_and_then, slice_get, bytes_eq, unwrap_or}
use Rattle.std.proofs.lemmas.Bool.{true≢false}
use Rattle.std.specs.Option.{is_none, option_map_or}
use Rattle.std.specs.List.{position_from}
use Rattle.mark_base.specs.declared.table_places.TypeId.{TypeId}
use Rattle.type_hierarchy.specs.declared.type_row.TypeRow.{TypeRow}
use Rattle.type_hierarchy.specs.TypeTrees.{type_named}
use Rattle.conf_model.specs.Configurations.{Configuration}
use Rattle.conf_model.specs.declared.role.Role.{Role}
use Rattle.conf_model.specs.declared.relation_type.RelationType.{RelationType}
use Rattle.conf_model.specs.declared.attribute_type.AttributeType.{AttributeType}
use Rattle.conf_model.specs.ConfText.{type_name_at, relation_name_at}
use Rattle.conf_model.specs.Lookups.{relation_named, relation_role, attribute_named, values_of, value_named, roles_of, role_named}
use Rattle.conf_model.specs.Sound.{IsSound, IsName, IsRole, AreRoles, IsRelation, IsAttribute}
use Rattle.annotation_conf.proofs.Written.{IsWord}
use Rattle.conf_model.specs.ConfFaults.{stands_twice}
use Rattle.layer_rules.specs.AttributeValues.{Undeclared, Declared}
use Rattle.layer_rules.specs.Targets.{is_event_type}
use Rattle.ann_reader.specs.NamesRead.{by_name, type_read, where_event, event_read, relation_read, attribute_read, value_read}
use Rattle.ann_reader.specs.LineMeanings.{is_role}
use Rattle.ann_writer.specs.AnnOf.{relation_role_at, attribute_name_at, value_name_at}
use Rattle.ann_writer.specs.Words.{role_name_at}
use Rattle.ann_writer.proofs.FragWords.{map_same}
use Rattle.ann_writer.proofs.ConfWords.{all_at, some_at, same_word, found_by_name, is_word, is_declared, type_read_back, type_word, relation_word, relation_read_back, attribute_word, attribute_read_back, are_roles}

by_name_is : {X : Type 0} (found : List ℕ → Option X) (word : List ℕ) (x : Option X) → IsWord word → found word ≡ x → by_name found word ≡ x
by_name_is found word x h is = ap (λ (o : Option _). cond (is_none o) (found word) None) h.faultless ∙ is

-- there is something at a place of a list
pub there : {X : Type 0} (xs : List X) (k : ℕ) → k < length xs → is_none (slice_get xs k) ≡ false
there [] k within = absurd (omega arith)
there (x ∷ xs) zero within = refl
there (x ∷ xs) (suc k) within = there xs k (omega arith)

-- ---- types

pub record IsTypeName (conf : Configuration) (k : ℕ) (name : List ℕ) : Type 0 where
  pub word : IsWord name
  pub read : type_read conf name ≡ Some (record { n = k })

pub type_facts : (conf : Configuration) → IsSound conf → (k : ℕ) → is_none (slice_get conf.types k) ≡ false → IsTypeName conf k (type_name_at conf k)
type_facts conf sound k known =
    let row : TypeRow = (some_at conf.types k known).0 in
    let is : slice_get conf.types k ≡ Some row = (some_at conf.types k known).1 in
    let name : type_name_at conf k ≡ row.name = ap (λ o. option_map_or (λ (r : TypeRow). r.name) o []) is in
    let word = type_word conf sound k row is in
    subst (IsTypeName conf k) (sym name) (record { word = word; read = by_name_is (type_named conf.types) row.name (Some (record { n = k })) word (type_read_back conf sound k row is) })

known_event : (conf : Configuration) (id : TypeId) (o : Option TypeRow) → slice_get conf.types id.n ≡ o → option_map_or (λ (row : TypeRow). row.event) o false ≡ true → is_none o ≡ false
known_event conf id None is e = absurd (true≢false (sym e))
known_event conf id (Some row) is e = refl

pub event_known : (conf : Configuration) (id : TypeId) → is_event_type conf id ≡ true → is_none (slice_get conf.types id.n) ≡ false
event_known conf id e = known_event conf id (slice_get conf.types id.n) refl e

pub event_facts : (conf : Configuration) (id : TypeId) (name : List ℕ) → IsTypeName conf id.n name → is_event_type conf id ≡ true → event_read conf name ≡ Some id
event_facts conf id name h e = ap (option_and_then (where_event conf)) h.read ∙ ap (λ b. cond b (Some id) None) e

-- ---- relation types

pub record IsRelationName (conf : Configuration) (k : ℕ) (name first second : List ℕ) : Type 0 where
  pub word : IsWord name
  pub read : relation_read conf name ≡ Some k
  pub first_word : IsWord first
  pub second_word : IsWord second
  pub first_role : is_role conf k false first ≡ true
  pub second_role : is_role conf k true second ≡ true

pub relation_facts : (conf : Configuration) → IsSound conf → (k : ℕ) → is_none (slice_get conf.relations k) ≡ false
    → IsRelationName conf k (relation_name_at conf k) (relation_role_at conf k false) (relation_role_at conf k true)
relation_facts conf sound k known =
    let relation : RelationType = (some_at conf.relations k known).0 in
    let is : slice_get conf.relations k ≡ Some relation = (some_at conf.relations k known).1 in
    let h : IsRelation conf relation = relation_word conf sound k relation is in
    let name : relation_name_at conf k ≡ relation.name = ap (λ o. option_map_or (λ (r : RelationType). r.name) o []) is in
    let first : relation_role conf k false ≡ Some relation.first = ap (option_map (λ (r : RelationType). r.first)) is in
    let second : relation_role conf k true ≡ Some relation.second = ap (option_map (λ (r : RelationType). r.second)) is in
    let one : relation_role_at conf k false ≡ relation.first = ap (λ o. unwrap_or o []) first in
    let two : relation_role_at conf k true ≡ relation.second = ap (λ o. unwrap_or o []) second in
    let word = is_declared relation.name h.name in
    record {
      word = subst IsWord (sym name) word;
      read = ap (relation_read conf) name ∙ by_name_is (relation_named conf) relation.name (Some k) word (relation_read_back conf sound k relation is);
      first_word = subst IsWord (sym one) (is_word relation.first h.first);
      second_word = subst IsWord (sym two) (is_word relation.second h.second);
      first_role = ap₂ (λ o w. option_map_or (λ n. bytes_eq n w) o false) first one ∙ same_word relation.first;
      second_role = ap₂ (λ o w. option_map_or (λ n. bytes_eq n w) o false) second two ∙ same_word relation.second;
    }

-- ---- attributes

pub record IsAttributeName (conf : Configuration) (k : ℕ) (name : List ℕ) : Type 0 where
  pub word : IsWord name
  pub read : attribute_read conf name ≡ Some k

pub attribute_facts : (conf : Configuration) → IsSound conf → (k : ℕ) → is_none (slice_get conf.attributes k) ≡ false → IsAttributeName conf k (attribute_name_at conf k)
attribute_facts conf sound k known =
    let attribute : AttributeType = (some_at conf.attributes k known).0 in
    let is : slice_get conf.attributes k ≡ Some attribute = (some_at conf.attributes k known).1 in
    let h : IsAttribute conf attribute = attribute_word conf sound k attribute is in
    let name : attribute_name_at conf k ≡ attribute.name = ap (λ o. unwrap_or (option_map (λ (a : AttributeType). a.name) o) []) is in
    let word = is_declared attribute.name h.name in
    subst (IsAttributeName conf k) (sym name) (record { word = word; read = by_name_is (attribute_named conf) attribute.name (Some k) word (attribute_read_back conf sound k attribute is) })

pub record IsValueName (conf : Configuration) (k value : ℕ) (name : List ℕ) : Type 0 where
  pub word : IsWord name
  pub read : value_read conf k (Some name) ≡ Declared (Some value)

pub value_facts : (conf : Configuration) → IsSound conf → (k value : ℕ) → is_none (slice_get conf.attributes k) ≡ false → value < length (values_of conf k) → IsValueName conf k value (value_name_at conf k value)
value_facts conf sound k value known within =
    let attribute : AttributeType = (some_at conf.attributes k known).0 in
    let is : slice_get conf.attributes k ≡ Some attribute = (some_at conf.attributes k known).1 in
    let h : IsAttribute conf attribute = attribute_word conf sound k attribute is in
    let values : values_of conf k ≡ attribute.values = ap (λ o. option_map_or (λ (a : AttributeType). a.values) o []) is in
    let inside : is_none (slice_get (values_of conf k) value) ≡ false = there (values_of conf k) value within in
    let name : List ℕ = (some_at (values_of conf k) value inside).0 in
    let at : slice_get (values_of conf k) value ≡ Some name = (some_at (values_of conf k) value inside).1 in
    let held : slice_get attribute.values value ≡ Some name = ap (λ (vs : List (List ℕ)). slice_get vs value) (sym values) ∙ at in
    let word : IsWord name = is_word name (all_at IsName attribute.values value name h.values held) in
    let found : value_named conf k name ≡ Some value = ap (λ (vs : List (List ℕ)). position_from (λ v. bytes_eq v name) 0 vs) values ∙ found_by_name (λ v. v) attribute.values value name held (ap stands_twice (map_same attribute.values) ∙ h.differ) in
    let is_name : value_name_at conf k value ≡ name = ap (λ o. unwrap_or o []) at in
    subst (IsValueName conf k value) (sym is_name) (record { word = word; read = ap (λ o. option_map_or (λ v. Declared (Some v)) o Undeclared) (by_name_is (value_named conf k) name (Some value) word found) })

-- ---- roles

pub record IsRoleName (conf : Configuration) (event role : ℕ) (name : List ℕ) : Type 0 where
  pub word : IsWord name
  pub read : role_named conf event name ≡ Some role

pub role_facts : (conf : Configuration) → IsSound conf → (event role : ℕ) → role < length (roles_of conf event) → IsRoleName conf event role (role_name_at conf event role)
role_facts conf sound event k within =
    let known = there (roles_of conf event) k within in
    let role : Role = (some_at (roles_of conf event) k known).0 in
    let is : slice_get (roles_of conf event) k ≡ Some role = (some_at (roles_of conf event) k known).1 in
    let roles : AreRoles conf (roles_of conf event) = are_roles conf sound event in
    let h : IsRole conf role = all_at (IsRole conf) (roles_of conf event) k role roles.each is in
    let name : role_name_at conf event k ≡ role.name = ap (λ o. unwrap_or (option_map (λ (r : Role). r.name) o) []) is in
    subst (IsRoleName conf event k) (sym name) (record { word = is_word role.name h.name; read = found_by_name (λ (r : Role). r.name) (roles_of conf event) k role is roles.differ })
