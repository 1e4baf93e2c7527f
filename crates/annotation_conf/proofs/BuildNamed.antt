-- In a file without fault each name is one, and each relation type has two roles.
use Rattle.std.proofs.Common.{◌≡◌, ℕ, ◌<◌, ◌||◌, Bool, true, false, not, cond, List, [], ◌∷◌, Option, Some, None, is_some, length, map, All, refl, sym, subst, ◌∙◌, ap, arith}
use Rattle.std.specs.List.{AllByRecursion as Each, list_any}
use Rattle.std.proofs.lemmas.Bool.{or_parts, true≢false}
use Rattle.std.proofs.lemmas.List.{length-map}
use Rattle.std.proofs.lemmas.List.Elements.{All-from_recursion}
use Rattle.mark_base.specs.Names.{name_fault}
use Rattle.annotation_conf.specs.declared.file.File.{File as FileValue}
use Rattle.annotation_conf.specs.declared.file.TypeLine.{TypeLine as TypeLineValue}
use Rattle.annotation_conf.specs.declared.file.NamedLine.{NamedLine as NamedLineValue}
use Rattle.annotation_conf.specs.declared.pieces.Alternative.{Alternative as AlternativeValue}
use Rattle.annotation_conf.specs.declared.pieces.RolePair.{RolePair as RolePairValue}
use Rattle.conf_model.specs.ConfPairs.{Alternative}
use Rattle.conf_model.specs.ConfNames.{TypeLine, NamedLine, File}
use Rattle.conf_model.specs.ConfFaults.{RolePair, pairs_of, is_shapeless, is_no_name, is_no_declared, names_badly, values_badly, is_values, is_held, is_binary, word_of}
use Rattle.annotation_conf.specs.FileKept.{KeptType, KeptNamed, kept_type, kept_named}
use Rattle.annotation_conf.specs.FileShows.{seen_pair, seen_alternative, seen_type, seen_named}
use Rattle.annotation_conf.specs.KnownFiles.{IsKnown}
use Rattle.annotation_conf.specs.BuildTold.{first_values, IsFaultless, IsTypeNamed, AreRolesNamed, HasRolesNamed, AreWordsNamed, IsAttributeNamed, IsRelationNamed}
use Rattle.annotation_conf.proofs.SoundLists.{each_weaker, each_of_map, each_fails}
use Rattle.annotation_conf.proofs.SoundFaults.{KeepsType, KeepsRelation, KeepsAttribute}
use Rattle.annotation_conf.proofs.BuildTables.{keeps_faultless}

none_is : {X : Type 0} (o : Option X) → is_some o ≡ false → o ≡ None
none_is None e = refl
none_is (Some x) e = absurd (true≢false e)

named : (word : List ℕ) → is_no_name word ≡ false → name_fault word ≡ None
named word e = none_is (name_fault word) e

declared_named : (word : List ℕ) → is_no_declared word ≡ false → name_fault word ≡ None
declared_named word e = named word (or_parts (is_no_name word) _ (or_parts _ _ e).0).0

-- what the lines of a file keep, their values keep
each_through : {X Y Z : Type 0} (f : X → Z) (g : Y → Z) (P : Y → Type 0) (Q : X → Type 0) → ((x : X) (y : Y) → f x ≡ g y → P y → Q x)
    → (xs : List X) (ys : List Y) → map f xs ≡ map g ys → Each P ys → Each Q xs
each_through f g P Q h [] ys e a = tt
each_through f g P Q h (x ∷ xs) [] e a = cc
each_through f g P Q h (x ∷ xs) (y ∷ ys) e a =
    let first : f x ≡ g y = cc in
    let more : map f xs ≡ map g ys = cc in
    (h x y first a.0, each_through f g P Q h xs ys more a.1)

roles_named : (values : List RolePairValue) (pairs : List RolePair) → map seen_pair values ≡ pairs → list_any names_badly pairs ≡ false → AreRolesNamed values
roles_named values pairs shown e =
    let each : Each (λ (pair : RolePair). names_badly pair ≡ false) (map seen_pair values) =
    subst (λ ps. Each (λ (pair : RolePair). names_badly pair ≡ false) ps) (sym shown) (each_fails names_badly pairs e) in
    All-from_recursion (λ (v : RolePairValue). name_fault v.role ≡ None) values
    (each_weaker (λ (v : RolePairValue). names_badly (seen_pair v) ≡ false) (λ (v : RolePairValue). name_fault v.role ≡ None)
    (λ v bad. named v.role (or_parts (is_no_name v.role) _ bad).0) values
    (each_of_map (λ (pair : RolePair). names_badly pair ≡ false) seen_pair values each))

pub entities_named : (text : List ℕ) (file : File) (values : FileValue) → IsKnown values file → IsFaultless text file → All IsTypeNamed values.entities.items
entities_named text file values known faultless =
    All-from_recursion IsTypeNamed values.entities.items
    (each_through seen_type kept_type (KeepsType file file.entities [] false) IsTypeNamed
    (λ v line same keeps. let is : v.name ≡ line.name = ap (λ (k : KeptType). k.name) same in subst (λ n. name_fault n ≡ None) (sym is) (declared_named line.name keeps.name))
    values.entities.items file.entities known.shows.entities (keeps_faultless text file faultless).entities)

pub events_named : (text : List ℕ) (file : File) (values : FileValue) → IsKnown values file → IsFaultless text file → All IsTypeNamed values.events.items
events_named text file values known faultless =
    All-from_recursion IsTypeNamed values.events.items
    (each_through seen_type kept_type (λ (line : TypeLine). KeepsType file file.events (pairs_of line.pieces) (list_any is_shapeless line.pieces) line) IsTypeNamed
    (λ v line same keeps. let is : v.name ≡ line.name = ap (λ (k : KeptType). k.name) same in subst (λ n. name_fault n ≡ None) (sym is) (declared_named line.name keeps.name))
    values.events.items file.events known.shows.events (keeps_faultless text file faultless).events)

pub event_roles_named : (text : List ℕ) (file : File) (values : FileValue) → IsKnown values file → IsFaultless text file → All HasRolesNamed values.events.items
event_roles_named text file values known faultless =
    All-from_recursion HasRolesNamed values.events.items
    (each_through seen_type kept_type (λ (line : TypeLine). KeepsType file file.events (pairs_of line.pieces) (list_any is_shapeless line.pieces) line) HasRolesNamed
    (λ v line same keeps. roles_named v.pieces.pairs.items (pairs_of line.pieces) (ap (λ (k : KeptType). k.behind.pairs) same) keeps.names)
    values.events.items file.events known.shows.events (keeps_faultless text file faultless).events)

not_false : (b : Bool) → not b ≡ false → b ≡ true
not_false true e = refl
not_false false e = sym e

binary_two : (pairs : List RolePair) → is_binary pairs ≡ true → 1 < length pairs
binary_two [] e = absurd (true≢false (sym e))
binary_two (one ∷ []) e = absurd (true≢false (sym e))
binary_two (one ∷ other ∷ more) e = omega arith

pub relations_named : (text : List ℕ) (file : File) (values : FileValue) → IsKnown values file → IsFaultless text file → All IsRelationNamed values.relations.items
relations_named text file values known faultless =
    All-from_recursion IsRelationNamed values.relations.items
    (each_through seen_named kept_named (KeepsRelation file) IsRelationNamed
    (λ v line same keeps.
    let is : v.name ≡ line.name = ap (λ (k : KeptNamed). k.name) same in
    let pairs : map seen_pair v.pieces.pairs.items ≡ pairs_of line.pieces = ap (λ (k : KeptNamed). k.behind.pairs) same in
    let two : 1 < length (pairs_of line.pieces) = binary_two (pairs_of line.pieces) (not_false (is_binary (pairs_of line.pieces)) keeps.binary) in
    let size : length v.pieces.pairs.items ≡ length (pairs_of line.pieces) = sym (length-map v.pieces.pairs.items seen_pair) ∙ ap length pairs in
    record {
      name = subst (λ n. name_fault n ≡ None) (sym is) (declared_named line.name keeps.name);
      two = omega arith;
      roles = roles_named v.pieces.pairs.items (pairs_of line.pieces) pairs keeps.names;
    })
    values.relations.items file.relations known.shows.relations (keeps_faultless text file faultless).relations)

words_named : (alternatives : List AlternativeValue) → list_any (λ one. is_held one || is_no_name (word_of one)) (map seen_alternative alternatives) ≡ false
    → Each (λ (one : AlternativeValue). name_fault (word_of (seen_alternative one)) ≡ None) alternatives
words_named alternatives e =
    each_weaker (λ (one : AlternativeValue). (is_held (seen_alternative one) || is_no_name (word_of (seen_alternative one))) ≡ false)
    (λ (one : AlternativeValue). name_fault (word_of (seen_alternative one)) ≡ None)
    (λ one bad. named (word_of (seen_alternative one)) (or_parts (is_held (seen_alternative one)) (is_no_name (word_of (seen_alternative one))) bad).1) alternatives
    (each_of_map (λ (one : Alternative). (is_held one || is_no_name (word_of one)) ≡ false) seen_alternative alternatives
    (each_fails (λ one. is_held one || is_no_name (word_of one)) (map seen_alternative alternatives) e))

values_named : (values : List RolePairValue) → Each (λ (v : RolePairValue). values_badly (seen_pair v) ≡ false) values
    → Each (λ (one : AlternativeValue). name_fault (word_of (seen_alternative one)) ≡ None) (first_values values)
values_named [] a = tt
values_named (v ∷ values) a =
    let words : List Alternative = map seen_alternative v.alternatives.items in
    let P : Bool → Type 0 = λ b. cond b (list_any (λ one. is_held one || is_no_name (word_of one)) words) (names_badly (seen_pair v)) ≡ false
    → Each (λ (one : AlternativeValue). name_fault (word_of (seen_alternative one)) ≡ None) (cond b v.alternatives.items (first_values values)) in
    (elim (is_values (seen_pair v)) as P [
      | true ↦ λ e. words_named v.alternatives.items e
      | false ↦ λ e. values_named values a.1
    ]) a.0

pub attributes_named : (text : List ℕ) (file : File) (values : FileValue) → IsKnown values file → IsFaultless text file → All IsAttributeNamed values.attributes.items
attributes_named text file values known faultless =
    All-from_recursion IsAttributeNamed values.attributes.items
    (each_through seen_named kept_named (KeepsAttribute file) IsAttributeNamed
    (λ v line same keeps.
    let is : v.name ≡ line.name = ap (λ (k : KeptNamed). k.name) same in
    let pairs : map seen_pair v.pieces.pairs.items ≡ pairs_of line.pieces = ap (λ (k : KeptNamed). k.behind.pairs) same in
    let each : Each (λ (pair : RolePair). values_badly pair ≡ false) (map seen_pair v.pieces.pairs.items) =
    subst (λ ps. Each (λ (pair : RolePair). values_badly pair ≡ false) ps) (sym pairs) (each_fails values_badly (pairs_of line.pieces) keeps.names) in
    record {
      name = subst (λ n. name_fault n ≡ None) (sym is) (declared_named line.name keeps.name);
      values = All-from_recursion (λ (one : AlternativeValue). name_fault (word_of (seen_alternative one)) ≡ None) (first_values v.pieces.pairs.items)
          (values_named v.pieces.pairs.items (each_of_map (λ (pair : RolePair). values_badly pair ≡ false) seen_pair v.pieces.pairs.items each));
    })
    values.attributes.items file.attributes known.shows.attributes (keeps_faultless text file faultless).attributes)
