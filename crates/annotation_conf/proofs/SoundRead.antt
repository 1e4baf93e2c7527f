-- What a configuration that was read keeps of its sizes: the types have no fault, and no list is longer than 256.
use Rattle.std.proofs.Common.{◌≡◌, ℕ, ◌+◌, ◌≤◌, ◌&&◌, ◌==◌, Bool, true, false, not, cond, List, [], ◌∷◌, ◌++◌, map, length, filter, All, Option, Some, None, Ok, Err, codes, bytes_eq, nat_lt, refl, sym, subst, ◌∙◌, ap, arith, flat_map}
use Rattle.std.specs.Option.{option_or}
use Rattle.std.specs.List.{AllByRecursion as Each, list_any}
use Rattle.std.specs.Str.Lossy.{utf8_valid_len}
use Rattle.std.specs.Str.Lines.{lines}
use Rattle.std.proofs.lemmas.Bool.{ltb-false, true≢false, not-false, and_parts}
use Rattle.std.proofs.lemmas.List.{length-map, length-append, append-nil}
use Rattle.std.proofs.lemmas.List.Elements.{All-from_recursion}
use Rattle.type_hierarchy.specs.TypeFaults.{fault_of}
use Rattle.conf_model.specs.ConfLines.{file_lines, Before}
use Rattle.conf_model.specs.ConfNames.{TypeLine, File, file_of}
use Rattle.conf_model.specs.ConfFaults.{RolePair, pairs_of, is_values, is_attribute, is_shapeless, word_of}
use Rattle.conf_model.specs.ConfOf.{Fault, role_of, attribute_of, configuration_of, first_fault, missing_fault, answer_of, conf_of}
use Rattle.conf_model.specs.Configurations.{Configuration}
use Rattle.conf_model.specs.declared.role.Role.{Role}
use Rattle.conf_model.specs.declared.attribute_type.AttributeType.{AttributeType}
use Rattle.annotation_conf.proofs.SoundLists.{Each-append, Each-map, each_always, each_weaker, each_fails}
use Rattle.annotation_conf.proofs.SoundLines.{AreNumbered-lines_from}
use Rattle.annotation_conf.proofs.SoundFaults.{KeepsType, KeepsAttribute}
use Rattle.annotation_conf.proofs.SoundFiles.{KeepsAll, keeps_all}
use Rattle.annotation_conf.proofs.SoundNames.{same_bytes}
use Rattle.annotation_conf.proofs.SoundSizes.{types_sound, types_few, types_length, relations_few, attributes_few}

-- the file that a configuration was read from
pub record IsRead (bytes : List ℕ) (conf : Configuration) : Type 0 where
  pub whole : nat_lt (utf8_valid_len bytes) (length bytes) ≡ false
  pub faultless : first_fault (file_of bytes) (file_of bytes).lines ≡ None
  pub keeps : KeepsAll (file_of bytes)
  pub is : configuration_of (file_of bytes) ≡ conf

answered : (b : Bool) (f : Fault) (file : File) (o m : Option Fault) (conf : Configuration) → cond b (Err f) (answer_of file (option_or o m)) ≡ Ok conf
    → (b ≡ false) × (o ≡ None) × (configuration_of file ≡ conf)
answered true f file o m conf e = absurd (cc)
answered false f file (Some g) m conf e = absurd (cc)
answered false f file None (Some g) conf e = absurd (cc)
answered false f file None None conf e = (refl, refl, cc)

pub was_read : (bytes : List ℕ) (conf : Configuration) → conf_of bytes ≡ Ok conf → IsRead bytes conf
unfolding conf_of file_of
was_read bytes conf e =
    let told = answered (nat_lt (utf8_valid_len bytes) (length bytes)) _ (file_of bytes) (first_fault (file_of bytes) (file_of bytes).lines) (missing_fault (file_of bytes)) conf e in
    record {
      whole = told.0;
      faultless = told.1;
      keeps = keeps_all (file_lines bytes) (AreNumbered-lines_from 1 Before (lines bytes)) told.1;
      is = told.2;
    }

pub types_read : (bytes : List ℕ) (conf : Configuration) → conf_of bytes ≡ Ok conf → fault_of conf.types ≡ None
types_read bytes conf e = let r = was_read bytes conf e in subst (λ (c : Configuration). fault_of c.types ≡ None) r.is (types_sound (file_of bytes) r.keeps)

pub types_few_read : (bytes : List ℕ) (conf : Configuration) → conf_of bytes ≡ Ok conf → length conf.types ≤ 256
types_few_read bytes conf e = let r = was_read bytes conf e in subst (λ (c : Configuration). length c.types ≤ 256) r.is (types_few (file_of bytes) r.keeps)

pub relations_few_read : (bytes : List ℕ) (conf : Configuration) → conf_of bytes ≡ Ok conf → length conf.relations ≤ 256
relations_few_read bytes conf e = let r = was_read bytes conf e in subst (λ (c : Configuration). length c.relations ≤ 256) r.is (relations_few (file_of bytes) r.keeps)

pub attributes_few_read : (bytes : List ℕ) (conf : Configuration) → conf_of bytes ≡ Ok conf → length conf.attributes ≤ 256
attributes_few_read bytes conf e = let r = was_read bytes conf e in subst (λ (c : Configuration). length c.attributes ≤ 256) r.is (attributes_few (file_of bytes) r.keeps)

-- one list of roles a type
pub roles_each : (file : File) → length (configuration_of file).roles ≡ length (configuration_of file).types
roles_each file =
    length-append (map (λ (line : TypeLine). []) file.entities) (map (λ (line : TypeLine). map (role_of file) (pairs_of line.pieces)) file.events)
    ∙ ap (λ n. n + length (map (λ (line : TypeLine). map (role_of file) (pairs_of line.pieces)) file.events)) (length-map file.entities (λ (line : TypeLine). []))
    ∙ ap (λ n. length file.entities + n) (length-map file.events (λ (line : TypeLine). map (role_of file) (pairs_of line.pieces)))
    ∙ sym (length-append file.entities file.events)
    ∙ sym (types_length file)

pub roles_each_read : (bytes : List ℕ) (conf : Configuration) → conf_of bytes ≡ Ok conf → length conf.roles ≡ length conf.types
roles_each_read bytes conf e = let r = was_read bytes conf e in subst (λ (c : Configuration). length c.roles ≡ length c.types) r.is (roles_each (file_of bytes))

pub roles_few : (file : File) → KeepsAll file → Each (λ (roles : List Role). length roles ≤ 256) (configuration_of file).roles
roles_few file keeps =
    Each-append (λ (roles : List Role). length roles ≤ 256) (map (λ (line : TypeLine). []) file.entities) (map (λ (line : TypeLine). map (role_of file) (pairs_of line.pieces)) file.events)
    (Each-map (λ (roles : List Role). length roles ≤ 256) (λ (line : TypeLine). []) file.entities (each_always (λ (line : TypeLine). 0 ≤ 256) (λ line. omega arith) file.entities))
    (Each-map (λ (roles : List Role). length roles ≤ 256) (λ (line : TypeLine). map (role_of file) (pairs_of line.pieces)) file.events
    (each_weaker (λ (line : TypeLine). KeepsType file file.events (pairs_of line.pieces) (list_any is_shapeless line.pieces) line) (λ (line : TypeLine). length (map (role_of file) (pairs_of line.pieces)) ≤ 256)
    (λ line k. let few : length (pairs_of line.pieces) ≤ 256 = ltb-false 256 (length (pairs_of line.pieces)) k.roles_few in
    let same : length (map (role_of file) (pairs_of line.pieces)) ≡ length (pairs_of line.pieces) = length-map (pairs_of line.pieces) (role_of file) in omega arith) file.events keeps.events))

pub roles_few_read : (bytes : List ℕ) (conf : Configuration) → conf_of bytes ≡ Ok conf → All (λ (roles : List Role). length roles ≤ 256) conf.roles
roles_few_read bytes conf e =
    let r = was_read bytes conf e in
    All-from_recursion (λ (roles : List Role). length roles ≤ 256) conf.roles (subst (λ (c : Configuration). Each (λ (roles : List Role). length roles ≤ 256) c.roles) r.is (roles_few (file_of bytes) r.keeps))

-- the values of an attribute: none, or those of its one pair
pub values_of_none : (pairs : List RolePair) → Each (λ pair. is_values pair ≡ false) pairs → filter is_values pairs ≡ []
values_of_none [] a = refl
values_of_none (pair ∷ pairs) a = ap (λ b. cond b (pair ∷ filter is_values pairs) (filter is_values pairs)) a.0 ∙ values_of_none pairs a.1

-- `Arg` is not `Value`
arg_apart : (role : List ℕ) → bytes_eq role (codes "Arg") ≡ true → bytes_eq role (codes "Value") ≡ false
arg_apart role e = let is : role ≡ codes "Arg" = same_bytes role (codes "Arg") e in ap (λ r. bytes_eq r (codes "Value")) is

-- the pairs of an attribute: `Arg`, and `Value` or nothing
pub record IsAttributePairs (pairs : List RolePair) : Type 0 where
  pub arg : RolePair
  pub values : List RolePair
  pub targets_are : filter (λ pair. not (is_values pair)) pairs ≡ arg ∷ []
  pub values_are : filter is_values pairs ≡ values
  pub one : length values ≤ 1

pub attribute_pairs : (pairs : List RolePair) → is_attribute pairs ≡ true → IsAttributePairs pairs
attribute_pairs [] e = absurd (true≢false (sym e))
attribute_pairs (arg ∷ []) e =
    let both = and_parts (length arg.mark == 0) (bytes_eq arg.role (codes "Arg")) e in
    let no : is_values arg ≡ false = arg_apart arg.role both.1 in
    record {
      arg = arg;
      values = [];
      targets_are = ap (λ b. cond (not b) (arg ∷ []) []) no;
      values_are = ap (λ b. cond b (arg ∷ []) []) no;
      one = omega arith;
    }
attribute_pairs (arg ∷ value ∷ []) e =
    let abc = and_parts (length arg.mark == 0 && length value.mark == 0 && bytes_eq arg.role (codes "Arg")) (is_values value) e in
    let ab = and_parts (length arg.mark == 0 && length value.mark == 0) (bytes_eq arg.role (codes "Arg")) abc.0 in
    let no : is_values arg ≡ false = arg_apart arg.role ab.1 in
    let yes : is_values value ≡ true = abc.1 in
    record {
      arg = arg;
      values = value ∷ [];
      targets_are = ap (λ b. cond (not b) (arg ∷ cond (not (is_values value)) (value ∷ []) []) (cond (not (is_values value)) (value ∷ []) [])) no ∙ ap (λ b. arg ∷ cond (not b) (value ∷ []) []) yes;
      values_are = ap (λ b. cond b (arg ∷ cond (is_values value) (value ∷ []) []) (cond (is_values value) (value ∷ []) [])) no ∙ ap (λ b. cond b (value ∷ []) []) yes;
      one = omega arith;
    }
attribute_pairs (arg ∷ value ∷ third ∷ more) e = absurd (true≢false (sym e))

pub one_few : (values : List RolePair) → length values ≤ 1 → Each (λ pair. nat_lt 256 (length pair.alternatives) ≡ false) values → length (flat_map (λ (pair : RolePair). map word_of pair.alternatives) values) ≤ 256
one_few [] one a = omega arith
one_few (pair ∷ []) one a =
    let few : length pair.alternatives ≤ 256 = ltb-false 256 (length pair.alternatives) a.0 in
    let same : length (map word_of pair.alternatives) ≡ length pair.alternatives = length-map pair.alternatives word_of in
    let whole : length (map word_of pair.alternatives ++ []) ≡ length (map word_of pair.alternatives) = ap length (append-nil (map word_of pair.alternatives)) in
    omega arith
one_few (pair ∷ next ∷ more) one a = absurd (omega arith)

pub values_few : (file : File) → KeepsAll file → Each (λ (attribute : AttributeType). length attribute.values ≤ 256) (configuration_of file).attributes
values_few file keeps =
    Each-map (λ (attribute : AttributeType). length attribute.values ≤ 256) (attribute_of file) file.attributes
    (each_weaker (KeepsAttribute file) (λ line. length (attribute_of file line).values ≤ 256)
    (λ line k. let p = attribute_pairs (pairs_of line.pieces) (not-false (is_attribute (pairs_of line.pieces)) k.attribute) in
    subst (λ values. length (flat_map (λ (pair : RolePair). map word_of pair.alternatives) values) ≤ 256) (sym p.values_are)
    (one_few p.values p.one (subst (λ values. Each (λ (pair : RolePair). nat_lt 256 (length pair.alternatives) ≡ false) values) p.values_are (each_fails (λ (pair : RolePair). nat_lt 256 (length pair.alternatives)) (filter is_values (pairs_of line.pieces)) k.values_few))))
    file.attributes keeps.attributes)

pub values_few_read : (bytes : List ℕ) (conf : Configuration) → conf_of bytes ≡ Ok conf → All (λ (attribute : AttributeType). length attribute.values ≤ 256) conf.attributes
values_few_read bytes conf e =
    let r = was_read bytes conf e in
    All-from_recursion (λ (attribute : AttributeType). length attribute.values ≤ 256) conf.attributes
    (subst (λ (c : Configuration). Each (λ (attribute : AttributeType). length attribute.values ≤ 256) c.attributes) r.is (values_few (file_of bytes) r.keeps))
