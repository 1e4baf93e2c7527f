-- An annotation leaves a layer and the classes: those of one relation type once, and where it stands in none they stay.
use Rattle.std.proofs.Common.{◌≡◌, ℕ, ◌==◌, ◌||◌, true, false, cond, List, [], ◌∷◌, map, refl, sym, ◌∙◌, ap}
use Rattle.std.specs.List.{dedup, dedup_from, flat_map}
use Rattle.std.proofs.lemmas.Bool.{eqb-true}
use Rattle.std.proofs.lemmas.List.Concat.{flat_map-cons}
use Rattle.std.proofs.lemmas.List.Folds.{list_any-append}
use Rattle.mark_base.specs.declared.ann_id.AnnId.{AnnId}
use Rattle.mark_base.specs.declared.ann_id.Kind.{Kind}
use Rattle.mark_base.specs.declared.ann_id.Kind.TheVariants as letter
use Rattle.layer_model.specs.declared.class.Class.{Class}
use Rattle.layer_model.specs.Annotations.{Annotations}
use Rattle.layer_model.specs.Classes.{rank, has_rank, ascending, parted, IsClassList}
use Rattle.layer_model.specs.Layers.{without, without_number, with_classes}
use Rattle.layer_model.proofs.ClassPart.{parted_kept}
use Rattle.layer_model.proofs.ClassGone.{is_held, parted_absent, parted_held, parted_twice}
use Rattle.layer_model.proofs.IdSets.{has_rank-ascending}
use Rattle.layer_core.specs.MadeLayers.{gone, parted_from}
use Rattle.layer_core.specs.Cascade.{HoldMembers}

-- ---- the types of the classes, each once

once_from : (id : AnnId) (classes : List Class) (kind : ℕ) (kinds : List ℕ) → IsClassList classes → parted_from id classes (dedup_from ◌==◌ kind kinds) ≡ parted_from id classes (kind ∷ kinds)
once_from id classes kind [] all = refl
once_from id classes kind (k ∷ ks) all =
    elim (k == kind) as (λ b. (k == kind) ≡ b → parted_from id classes (cond b (dedup_from ◌==◌ kind ks) (kind ∷ dedup_from ◌==◌ k ks)) ≡ parted_from id (parted k id (parted kind id classes)) ks) [
      | true ↦ λ e.
          once_from id classes kind ks all
          ∙ ap (λ cs. parted_from id cs ks) (sym (parted_twice kind id classes all))
          ∙ ap (λ n. parted_from id (parted n id (parted kind id classes)) ks) (sym (eqb-true k kind e))
      | false ↦ λ _. once_from id (parted kind id classes) k ks (parted_kept kind id classes all)
    ] refl

pub each_once : (id : AnnId) (classes : List Class) (kinds : List ℕ) → IsClassList classes → parted_from id classes (dedup ◌==◌ kinds) ≡ parted_from id classes kinds
each_once id classes [] all = refl
each_once id classes (kind ∷ kinds) all = once_from id classes kind kinds all

pub gone_by : (layer less new : Annotations) (id : AnnId) (kinds : List ℕ) → less ≡ without layer id → IsClassList less.classes → kinds ≡ dedup ◌==◌ (map (λ class. class.kind.n) less.classes)
    → new ≡ with_classes less (parted_from id less.classes kinds) → new ≡ gone layer id
gone_by layer less new id kinds is all once by =
    by ∙ ap (λ ks. with_classes less (parted_from id less.classes ks)) once
    ∙ ap (with_classes less) (each_once id less.classes (map (λ class. class.kind.n) less.classes) all)
    ∙ ap (λ l. with_classes l (parted_from id l.classes (map (λ class. class.kind.n) l.classes))) is

-- ---- an ID that stands in no class

absent_from : (id : AnnId) (classes : List Class) (kinds : List ℕ) → is_held (rank id) classes ≡ false → parted_from id classes kinds ≡ classes
absent_from id classes [] e = refl
absent_from id classes (kind ∷ kinds) e = ap (λ cs. parted_from id cs kinds) (parted_absent kind id classes e) ∙ absent_from id classes kinds e

held_after : (place : ℕ) (id : AnnId) (classes : List Class) (kinds : List ℕ) → is_held place classes ≡ false → is_held place (parted_from id classes kinds) ≡ false
held_after place id classes [] e = e
held_after place id classes (kind ∷ kinds) e = held_after place id (parted kind id classes) kinds (parted_held place kind id classes e)

pub same_classes : (layer : Annotations) (kind : Kind) (number : ℕ) → (without_number layer kind number).classes ≡ layer.classes
same_classes layer letter.Text number = refl
same_classes layer letter.Event number = refl
same_classes layer letter.Relation number = refl
same_classes layer letter.Attribute number = refl
same_classes layer letter.Legacy number = refl
same_classes layer letter.Normal number = refl
same_classes layer letter.Note number = refl

pub gone_absent : (layer new : Annotations) (id : AnnId) → is_held (rank id) layer.classes ≡ false → new ≡ without layer id → new ≡ gone layer id
gone_absent layer new id e is =
    let less = without layer id in
    let none : is_held (rank id) less.classes ≡ false = ap (is_held (rank id)) (same_classes layer id.kind id.number) ∙ e in
    is ∙ ap (with_classes less) (sym (absent_from id less.classes (map (λ class. class.kind.n) less.classes) none))

-- what stood in no class stands in none behind an annotation that goes
pub gone_held : (held : List AnnId) (layer new : Annotations) (id : AnnId) → HoldMembers held layer.classes → new ≡ gone layer id → HoldMembers held new.classes
gone_held held layer new id hold is place out =
    let less = without layer id in
    let none : is_held place less.classes ≡ false = ap (is_held place) (same_classes layer id.kind id.number) ∙ hold place out in
    ap (λ l. is_held place l.classes) is ∙ held_after place id less.classes (map (λ class. class.kind.n) less.classes) none

-- ---- the IDs that stand in classes

in_members : (place : ℕ) (classes : List Class) → has_rank place (flat_map (λ class. class.members) classes) ≡ is_held place classes
in_members place [] = refl
in_members place (x ∷ xs) =
    ap (has_rank place) (flat_map-cons (λ class. class.members) x xs)
    ∙ list_any-append (λ id. rank id == place) x.members (flat_map (λ class. class.members) xs)
    ∙ ap (λ b. has_rank place x.members || b) (in_members place xs)

pub members_held : (classes : List Class) (members held : List AnnId) → members ≡ flat_map (λ class. class.members) classes → held ≡ ascending members → HoldMembers held classes
members_held classes members held all is place out =
    sym (in_members place classes) ∙ ap (has_rank place) (sym all) ∙ sym (has_rank-ascending members place) ∙ ap (has_rank place) (sym is) ∙ out
