-- What a line says of a class of a well-formed layer: its members stand in the layer, and its type is an equivalence.
use Rattle.std.proofs.Common.{◌≡◌, ℕ, zero, suc, Bool, true, false, not, ◌==◌, List, [], ◌∷◌, refl, sym, ◌∙◌, ap, subst, Some, None, map, option_map, slice_get, inl, inr, ◌⊎◌}
use Rattle.std.specs.Option.{option_and_then, option_map_or}
use Rattle.std.specs.List.{list_any, list_all, AllByRecursion}
use Rattle.std.proofs.lemmas.Bool.{or_cases, and_parts, eqb-true, false≢true}
use Rattle.mark_base.specs.declared.ann_id.AnnId.{AnnId}
use Rattle.conf_model.specs.Configurations.{Configuration}
use Rattle.conf_model.specs.Lookups.{is_equivalence}
use Rattle.layer_model.specs.declared.class.Class.{Class}
use Rattle.layer_model.specs.declared.flaw.FlawPlace.TheVariants as at
use Rattle.layer_model.specs.declared.rule.Rule.TheVariants.{NotForUse}
use Rattle.layer_model.specs.Annotations.{Annotations}
use Rattle.layer_model.specs.Classes.{rank, is_among}
use Rattle.layer_model.specs.Layers.{has, has_number}
use Rattle.layer_model.specs.Coherent.{IsCoherent, AllStand as AllThere, is_span_letter}
use Rattle.layer_rules.specs.MarkRules.{class_not_for_use}
use Rattle.layer_rules.specs.WellFormed.{IsWellFormed}
use Rattle.mark_base.specs.ReadIds.{id_read}
use Rattle.ann_reader.specs.Words.{all_of}
use Rattle.ann_reader.specs.LineForms.{ClassForm}
use Rattle.ann_reader.specs.declared.id_letters.Letters.TheVariants.{Spans}
use Rattle.ann_reader.specs.LineIds.{id_words, of_letters}
use Rattle.ann_reader.specs.LineFaults.{has_unknown_type, has_barred_type}
use Rattle.ann_reader.proofs.PartLemmas.{made, chained, IsSaid}
use Rattle.ann_reader.proofs.StandLemmas.{AllStand}
use Rattle.ann_reader.proofs.CoverLemmas.{covers, is_covered}
use Rattle.ann_reader.proofs.TextLemmas.{unbroken}
use Rattle.ann_reader.proofs.UniqueLemmas.{same_parts}
use Rattle.std.specs.Option.{is_none}

-- ---- lists

-- where some item passes a test, one at an index does
some_at : {X : Type 0} (p : X → Bool) (xs : List X) → list_any p xs ≡ true → (i : ℕ) × (x : X) × (slice_get xs i ≡ Some x) × (p x ≡ true)
some_at {X} p [] h = absurd (false≢true h)
some_at {X} p (x ∷ xs) h = pick (or_cases (p x) (list_any p xs) h) (some_at p xs)
  where
    pick : ((p x ≡ true) ⊎ (list_any p xs ≡ true)) → (list_any p xs ≡ true → (i : ℕ) × (y : X) × (slice_get xs i ≡ Some y) × (p y ≡ true)) → (i : ℕ) × (y : X) × (slice_get (x ∷ xs) i ≡ Some y) × (p y ≡ true)
    pick (inl t) later = (zero, x, refl, t)
    pick (inr t) later = let found = later t in (suc found.0, found.1, found.2, found.3)

unsome_ : {X : Type 0} {x y : X} → Some x ≡ Some y → x ≡ y
unsome_ e = cc

none_some : {X : Type 0} {x : X} → None ≡ Some x → ⊥
none_some e = cc

-- what is true of each item is true of the one at an index
pub at_index : {X : Type 0} (P : X → Type 0) (xs : List X) (i : ℕ) (x : X) → AllByRecursion P xs → slice_get xs i ≡ Some x → P x
at_index P [] i x all e = absurd (none_some e)
at_index P (y ∷ xs) zero x all e = subst P (unsome_ e) all.0
at_index P (y ∷ xs) (suc i) x all e = at_index P xs i x all.1 e

-- ---- members

-- a member of members that are spans of the layer is one
member_stands : (layer : Annotations) (id : AnnId) (members : List AnnId) → AllThere layer members → AllByRecursion (λ member. is_span_letter member.kind ≡ true) members
    → is_among id members ≡ true → (has layer id ≡ true) × (is_span_letter id.kind ≡ true)
member_stands layer id [] there spans h = absurd (false≢true h)
member_stands layer id (first ∷ members) there spans h =
    elim (or_cases (rank first == rank id) (is_among id members) h) as (λ _. (has layer id ≡ true) × (is_span_letter id.kind ≡ true)) [
      | inl t ↦
          let parts = same_parts first id t in (
            sym (ap (λ k. has_number layer k first.number) parts.0 ∙ ap (has_number layer id.kind) parts.1) ∙ there.0,
            sym (ap is_span_letter parts.0) ∙ spans.0,
          )
      | inr t ↦ member_stands layer id members there.1 spans.1 t
    ]

-- the words of such members stand
words_stand : (layer : Annotations) (all : List AnnId) → AllThere layer all → AllByRecursion (λ member. is_span_letter member.kind ≡ true) all
    → (words : List (List ℕ)) (members : List AnnId) → all_of (map id_read words) ≡ Some members → list_all (λ id. is_among id all) members ≡ true → AllStand layer (map (of_letters Spans) words)
words_stand layer all there spans [] members e h = tt
words_stand layer all there spans (word ∷ words) members e h =
    let one = chained (λ (x : AnnId). option_map (λ xs. x ∷ xs) (all_of (map id_read words))) (id_read word) members e in
    let more = made (λ (xs : List AnnId). one.0 ∷ xs) (all_of (map id_read words)) members one.2 in
    let is : members ≡ one.0 ∷ more.0 = more.2 in
    let both = and_parts (is_among one.0 all) (list_all (λ id. is_among id all) more.0) (sym (ap (λ (ids : List AnnId). list_all (λ id. is_among id all) ids) is) ∙ h) in
    let mine = member_stands layer one.0 all there spans both.0 in
    (record { id = one.0; read = one.1; there = mine.0; fits = mine.1 }, words_stand layer all there spans words more.0 more.1 both.1)

-- what holds of a line of a class
pub record ClassHolds (conf : Configuration) (layer : Annotations) (kind : List ℕ) (ids : List (List ℕ)) : Type 0 where
  pub stand : AllStand layer (id_words (ClassForm kind ids))
  pub types : has_unknown_type conf (ClassForm kind ids) ≡ false
  pub for_use : has_barred_type conf (ClassForm kind ids) ≡ false

-- what a line says of a class that the layer has
pub class_holds : (conf : Configuration) (characters : ℕ) (layer : Annotations) (kind : List ℕ) (ids : List (List ℕ)) (said : IsSaid conf kind ids)
    → IsWellFormed conf characters layer → IsCoherent layer → is_covered said.id said.members layer.classes ≡ true → ClassHolds conf layer kind ids
class_holds conf characters layer kind ids said good coherent covered =
    let found = some_at (covers said.id said.members) layer.classes covered in
    let class : Class = found.1 in
    let parts = and_parts (class.kind.n == said.id) (list_all (λ id. is_among id class.members) said.members) found.3 in
    let there : AllThere layer class.members = at_index (λ (one : Class). AllThere layer one.members) layer.classes found.0 class coherent.stand.classes found.2 in
    let spans : AllByRecursion (λ member. is_span_letter member.kind ≡ true) class.members =
    at_index (λ (one : Class). AllByRecursion (λ member. is_span_letter member.kind ≡ true) one.members) layer.classes found.0 class coherent.letters.classes found.2 in
    let rule : class_not_for_use conf class ≡ None = sym (ap (option_and_then (class_not_for_use conf)) found.2) ∙ good.for_use (at.Class found.0) in
    let equal : not (is_equivalence conf class.kind.n) ≡ false = unbroken (not (is_equivalence conf class.kind.n)) NotForUse rule in
    record {
      stand = words_stand layer class.members there spans ids said.members said.members_read parts.1;
      types = ap is_none said.known;
      for_use = ap (λ o. option_map_or (λ id. not (is_equivalence conf id)) o false) said.known ∙ sym (ap (λ n. not (is_equivalence conf n)) (eqb-true class.kind.n said.id parts.0)) ∙ equal;
    }
