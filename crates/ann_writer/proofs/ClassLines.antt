-- The line of each class says the class, and the classes that are said are those of the layer.
use Rattle.std.proofs.Common.{◌≡◌, refl, sym, ap, ap₂, ◌∙◌, subst, ℕ, suc, ◌<◌, Bool, true, false, cond, not, ◌||◌, ◌&&◌, ◌==◌, List, [], ◌∷◌, ◌++◌, length, map, append-nil, append_assoc, nat_lt, codes, arith, Some, None, is_some, option_and_then, slice_get}
use Rattle.std.proofs.lemmas.Bool.{or_from, eq-eqb, eqb-true}
use Rattle.std.proofs.lemmas.Bool.Decides.{nat_tests}
use Rattle.std.specs.Option.{is_none}
use Rattle.std.specs.Str.{NonePass}
use Rattle.std.specs.Ordering.{nat_cmp, match_ordering}
use Rattle.std.specs.declared.cmp.Ordering.TheVariants.{Less, Greater}
use Rattle.std.specs.List.{AllByRecursion, list_any, fold}
use Rattle.std.specs.List.Sorted.{IsStrictlySortedBy}
use Rattle.mark_base.specs.declared.ann_id.AnnId.{AnnId}
use Rattle.mark_base.specs.declared.table_places.RelId.{RelId}
use Rattle.conf_model.specs.Configurations.{Configuration}
use Rattle.conf_model.specs.ConfText.{relation_name_at}
use Rattle.layer_model.specs.declared.class.Class.{Class}
use Rattle.layer_model.specs.declared.flaw.FlawPlace.TheVariants as at
use Rattle.layer_model.specs.Annotations.{Annotations}
use Rattle.layer_model.specs.Classes.{rank, has_rank, is_among, with_id, ascending, Ascends, least_of, comes_before, insert_class, shares, sharing, apart, joined, IsClass, Precedes, AreClasses}
use Rattle.layer_model.proofs.ClassOrder.{insert_class-last}
use Rattle.layer_rules.specs.MarkRules.{where_so, unknown_class}
use Rattle.layer_model.specs.declared.rule.Rule.{Rule}
use Rattle.ann_reader.specs.Lines.{is_blank}
use Rattle.mark_base.specs.ReadIds.{id_read}
use Rattle.ann_reader.specs.Words.{all_of}
use Rattle.ann_reader.specs.LineForms.{Form, ClassForm, form_of, head_field}
use Rattle.ann_reader.specs.LineFaults.{is_formless}
use Rattle.ann_reader.proofs.FormFacts.{head_same}
use Rattle.ann_reader.specs.LineIds.{own_id}
use Rattle.ann_reader.specs.LineMeanings.{Said, said_by, said_of}
use Rattle.ann_reader.specs.AnnFiles.{Spells, joined_too, classes_of}
use Rattle.ann_writer.specs.Words.{id_word}
use Rattle.ann_writer.proofs.PlainWords.{IsPlain, name_plain}
use Rattle.ann_writer.proofs.FieldWords.{all_read}
use Rattle.ann_writer.proofs.FragWords.{id_read_back, map_twice, map_same}
use Rattle.ann_writer.proofs.NameFacts.{relation_facts}
use Rattle.ann_writer.proofs.LineForms.{body, class_line_read}
use Rattle.ann_writer.proofs.MarkLines.{IsHeld, id_plain, unbroken_words}

-- ---- the line of a class

abbrev pub said_class : Class → Said
said_class class = record { kind = class.kind.n; members = class.members }

pub record IsClassLine (conf : Configuration) (text : List ℕ) (layer : Annotations) (class : Class) (line : List ℕ) : Type 0 where
  pub unbroken : NonePass (λ c. c == 10) line
  pub unblank : is_blank line ≡ false
  pub spells : Spells conf text layer (form_of line)
  pub own : own_id (form_of line) ≡ None
  pub head : id_read (head_field line) ≡ None
  pub said : said_of conf (form_of line) ≡ Some (said_class class)

members_plain : (ids : List AnnId) → AllByRecursion IsPlain (map id_word ids)
members_plain [] = tt
members_plain (id ∷ ids) = (id_plain id, members_plain ids)

each_id : (ids : List AnnId) → AllByRecursion (λ id. id_read (id_word id) ≡ Some id) ids
each_id [] = tt
each_id (id ∷ ids) = (id_read_back id, each_id ids)

members_read : (ids : List AnnId) → all_of (map id_read (map id_word ids)) ≡ Some ids
members_read ids = ap all_of (map_twice id_read id_word ids) ∙ all_read (λ id. id_read (id_word id)) (λ id. id) ids (each_id ids) ∙ ap Some (map_same ids)

-- by its members
class_by : (conf : Configuration) (text : List ℕ) (layer : Annotations) → IsHeld conf text layer → (kind : RelId) (members : List AnnId) → is_none (slice_get conf.relations kind.n) ≡ false → 0 < length members
    → IsClassLine conf text layer (record { kind = kind; members = members }) (body (codes "*") (relation_name_at conf kind.n) (map id_word members))
class_by conf text layer h kind [] known some = absurd (omega arith)
class_by conf text layer h kind (first ∷ members) known some =
    let facts = relation_facts conf h.program.sound kind.n known in
    let name = relation_name_at conf kind.n in
    let plain : IsPlain name = name_plain name facts.word in
    let words = map id_word (first ∷ members) in
    let all : AllByRecursion IsPlain words = members_plain (first ∷ members) in
    let line = body (codes "*") name words in
    let form : Form = ClassForm name words in
    let read : form_of line ≡ form = class_line_read name (id_word first) (map id_word members) plain all in
    let said : said_of conf form ≡ Some (said_class (record { kind = kind; members = first ∷ members })) = ap₂ said_by facts.read (members_read (first ∷ members)) in
    record {
      unbroken = (refl, (refl, unbroken_words name words plain all));
      unblank = refl;
      spells = subst (Spells conf text layer) (sym read) (ap is_some said);
      own = ap own_id read;
      head = ap id_read (head_same line (ap is_formless read));
      said = ap (said_of conf) read ∙ said;
    }

-- ---- classes that are said in their order

none_shared : (others ids : List AnnId) → ((place : ℕ) → has_rank place ids ≡ true → has_rank place others ≡ false) → list_any (λ id. is_among id others) ids ≡ false
none_shared others [] apart_ = refl
none_shared others (id ∷ ids) apart_ =
    or_from (is_among id others) (list_any (λ i. is_among i others) ids) (apart_ (rank id) (ap (λ b. b || has_rank (rank id) ids) (eq-eqb (rank id) (rank id) refl)))
    (none_shared others ids (λ place there. apart_ place (later (rank id == place) (has_rank place ids) there)))
  where
    later : (a b : Bool) → b ≡ true → (a || b) ≡ true
    later true b e = refl
    later false b e = e

no_share_by : (kind : ℕ) (ids : List AnnId) (class : Class) (b : Bool) → (class.kind.n == kind) ≡ b → (class.kind.n ≡ kind → list_any (λ id. is_among id ids) class.members ≡ false) → shares kind ids class ≡ false
no_share_by kind ids class true e none = ap₂ (λ x y. x && y) e (none (eqb-true class.kind.n kind e))
no_share_by kind ids class false e none = ap (λ x. x && list_any (λ id. is_among id ids) class.members) e

no_share : (class other : Class) → Precedes other class → shares class.kind.n class.members other ≡ false
no_share class other h = no_share_by class.kind.n class.members other (other.kind.n == class.kind.n) refl (λ same. none_shared class.members other.members (h.disjoint same))

sharing_none : (class : Class) (done : List Class) → AllByRecursion (λ other. Precedes other class) done → sharing class.kind.n class.members done ≡ []
sharing_none class [] all = refl
sharing_none class (other ∷ done) all =
    ap (λ b. cond b (other.members ++ sharing class.kind.n class.members done) (sharing class.kind.n class.members done)) (no_share class other all.0) ∙ sharing_none class done all.1

apart_all : (class : Class) (done : List Class) → AllByRecursion (λ other. Precedes other class) done → apart class.kind.n class.members done ≡ done
apart_all class [] all = refl
apart_all class (other ∷ done) all =
    ap (λ b. cond (not b) (other ∷ apart class.kind.n class.members done) (apart class.kind.n class.members done)) (no_share class other all.0) ∙ ap (λ rest. other ∷ rest) (apart_all class done all.1)

-- IDs that ascend stay as they are
put_last : (done : List AnnId) (id : AnnId) → AllByRecursion (λ other. nat_cmp (rank id) (rank other) ≡ Greater) done → with_id done id ≡ done ++ id ∷ []
put_last [] id all = refl
put_last (other ∷ done) id all =
    ap (λ o. match_ordering o (id ∷ other ∷ done) (id ∷ done) (other ∷ with_id done id)) all.0 ∙ ap (λ rest. other ∷ rest) (put_last done id all.1)

above : (m n : ℕ) → nat_cmp m n ≡ Less → nat_cmp n m ≡ Greater
above m n e = grind (arith, nat_tests)

pushed : (P : AnnId → Type 0) (ids : List AnnId) (id : AnnId) → AllByRecursion P ids → P id → AllByRecursion P (ids ++ id ∷ [])
pushed P [] id all h = (h, tt)
pushed P (x ∷ ids) id all h = (all.0, pushed P ids id all.1 h)

-- each of these comes before all of those
abbrev Behind : List AnnId → List AnnId → Type 0
Behind done ids = AllByRecursion (λ id. AllByRecursion (λ other. nat_cmp (rank id) (rank other) ≡ Greater) done) ids

behind_more : (done ids : List AnnId) (id : AnnId) → Behind done ids → AllByRecursion (λ place. nat_cmp (rank id) place ≡ Less) (map rank ids) → Behind (done ++ id ∷ []) ids
behind_more done [] id all less = tt
behind_more done (x ∷ ids) id all less =
    (pushed (λ other. nat_cmp (rank x) (rank other) ≡ Greater) done id all.0 (above (rank id) (rank x) less.0), behind_more done ids id all.1 less.1)

kept_from : (done ids : List AnnId) → Behind done ids → Ascends ids → fold with_id done ids ≡ done ++ ids
unfolding IsStrictlySortedBy
kept_from done [] all h = sym (append-nil done)
kept_from done (id ∷ ids) all h =
    ap (λ d. fold with_id d ids) (put_last done id all.0) ∙ kept_from (done ++ id ∷ []) ids (behind_more done ids id all.1 h.0) h.1 ∙ append_assoc done (id ∷ []) ids

nothing_behind : (ids : List AnnId) → Behind [] ids
nothing_behind [] = tt
nothing_behind (id ∷ ids) = (tt, nothing_behind ids)

ascending_same : (ids : List AnnId) → Ascends ids → ascending ids ≡ ids
ascending_same ids h = kept_from [] ids (nothing_behind ids) h

abbrev before : ℕ → ℕ → ℕ → ℕ → Bool
before k l m n = nat_lt k m || (k == m && nat_lt l n)

not_back : (k l m n : ℕ) → before k l m n ≡ true → before m n k l ≡ false
not_back k l m n a = grind (arith, nat_tests)

none_later : (class : Class) (done : List Class) → AllByRecursion (λ other. Precedes other class) done → list_any (comes_before class) done ≡ false
none_later class [] all = refl
none_later class (other ∷ done) all =
    or_from (comes_before class other) (list_any (comes_before class) done)
    (not_back other.kind.n (least_of other.members) class.kind.n (least_of class.members) all.0.before) (none_later class done all.1)

joined_last : (class : Class) (done : List Class) → IsClass class → AllByRecursion (λ other. Precedes other class) done → joined class.kind class.members done ≡ done ++ class ∷ []
joined_last class done is all =
    let members : ascending (class.members ++ sharing class.kind.n class.members done) ≡ class.members =
    ap (λ more. ascending (class.members ++ more)) (sharing_none class done all) ∙ ap ascending (append-nil class.members) ∙ ascending_same class.members is.ascends in
    ap₂ (λ ms rest. insert_class (record { kind = class.kind; members = ms }) rest) members (apart_all class done all) ∙ insert_class-last class done (none_later class done all)

middle : {X : Type 0} (P : X → Type 0) (xs : List X) (y : X) (ys : List X) → AllByRecursion P (xs ++ y ∷ ys) → P y
middle P [] y ys all = all.0
middle P (x ∷ xs) y ys all = middle P xs y ys all.1

preceding : (done rest : List Class) (class : Class) → AreClasses (done ++ class ∷ rest) → AllByRecursion (λ other. Precedes other class) done
preceding [] rest class h = tt
preceding (other ∷ done) rest class h = (middle (Precedes other) done class rest h.1, preceding done rest class h.2)

is_class : (done rest : List Class) (class : Class) → AreClasses (done ++ class ∷ rest) → IsClass class
is_class [] rest class h = h.0
is_class (other ∷ done) rest class h = is_class done rest class h.2

classes_from : (done rest : List Class) → AreClasses (done ++ rest) → fold joined_too done (map said_class rest) ≡ done ++ rest
classes_from done [] h = sym (append-nil done)
classes_from done (class ∷ rest) h =
    ap (λ d. fold joined_too d (map said_class rest)) (joined_last class done (is_class done rest class h) (preceding done rest class h))
    ∙ classes_from (done ++ class ∷ []) rest (subst AreClasses (sym (append_assoc done (class ∷ []) rest)) h) ∙ append_assoc done (class ∷ []) rest

pub classes_again : (classes : List Class) → AreClasses classes → classes_of (map said_class classes) ≡ classes
classes_again classes h = classes_from [] classes h

-- ---- all classes of a layer

not_so : (b : Bool) (rule : Rule) → where_so b rule ≡ None → b ≡ false
not_so true rule e = absurd (some_none e)
  where
    some_none : {X : Type 0} {x : X} → Some x ≡ None → ⊥
    some_none e = cc
not_so false rule e = refl

each_place : {X : Type 0} (P : X → Type 0) (xs : List X) → ((i : ℕ) (x : X) → slice_get xs i ≡ Some x → P x) → AllByRecursion P xs
each_place P [] holds = tt
each_place P (x ∷ xs) holds = (holds 0 x refl, each_place P xs (λ i y is. holds (suc i) y is))

each_class : (classes : List Class) → AreClasses classes → AllByRecursion IsClass classes
each_class [] h = tt
each_class (class ∷ classes) h = (h.0, each_class classes h.2)

lines_by : (conf : Configuration) (text : List ℕ) (layer : Annotations) → IsHeld conf text layer → (classes : List Class) → AllByRecursion IsClass classes
    → AllByRecursion (λ (class : Class). is_none (slice_get conf.relations class.kind.n) ≡ false) classes
    → AllByRecursion (λ class. IsClassLine conf text layer class (body (codes "*") (relation_name_at conf class.kind.n) (map id_word class.members))) classes
lines_by conf text layer h [] are known = tt
lines_by conf text layer h (class ∷ classes) are known = (class_by conf text layer h class.kind class.members known.0 are.0.some, lines_by conf text layer h classes are.1 known.1)

pub classes_said : (conf : Configuration) (text : List ℕ) (layer : Annotations) → IsHeld conf text layer
    → AllByRecursion (λ class. IsClassLine conf text layer class (body (codes "*") (relation_name_at conf class.kind.n) (map id_word class.members))) layer.classes
classes_said conf text layer h =
    lines_by conf text layer h layer.classes (each_class layer.classes h.program.kept.classes.ordered)
    (each_place (λ (class : Class). is_none (slice_get conf.relations class.kind.n) ≡ false) layer.classes
    (λ i class is. not_so (is_none (slice_get conf.relations class.kind.n)) _ (sym (ap (option_and_then (unknown_class conf)) is) ∙ h.well.types (at.Class i))))
