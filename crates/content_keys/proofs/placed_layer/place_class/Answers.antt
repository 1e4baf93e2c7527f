use Rattle.std.proofs.Common.{◌≡◌, ℕ, Option, Some, None, subst}
use Rattle.mark_base.specs.declared.ann_id.AnnId.{AnnId}
use Rattle.content_keys.specs.Carrying.{Carries}
use Rattle.content_keys.specs.LayerContents.{class_content, class_node, content_of}
use Rattle.content_keys.specs.Nodes.{Node}
use Rattle.content_keys.specs.Parts.{made_of}
use Rattle.content_keys.specs.Places.{place_of}
use Rattle.content_keys.proofs.ClassLemmas.{class_may, class_never_lost, class_number, class_placed, class_right}
use Rattle.content_keys.proofs.OnlyLemmas.{added_only}
use Rattle.content_keys.proofs.placed_layer.place_class.Goals as goal

pub unreachable-requires : goal.unreachable-requires
unreachable-requires c =
    let place = place_of c.args.places.now in
    let P : Option (Node ℕ) → Type 0 = Carries place (made_of c.in_ok-parts.parts) in
    let Q : Node AnnId → Type 0 = λ s. Carries place s None in
    class_never_lost c.args.layer.now c.args.table.now c.args.places.now c.requires.right c.args.class.now c.requires.members (subst Q c.in_ok-parts.ensures (subst P c.in_default.is c.in_ok-shape.ensures))

pub add-requires : goal.add-requires
add-requires c =
    let place = place_of c.args.places.now in
    let P : Option (Node ℕ) → Type 0 = Carries place (made_of c.in_ok-parts.parts) in
    let Q : Node AnnId → Type 0 = λ s. Carries place s (Some c.in-Some.shape) in
    class_may c.args.layer.now c.args.table.now c.args.places.now c.requires.right c.args.class.now c.in-Some.shape (subst Q c.in_ok-parts.ensures (subst P c.in-Some.is c.in_ok-shape.ensures)) (c.is_full.ensures c.if-is_full.false)

pub returns-clause-right : goal.returns-clause-right
returns-clause-right c = class_right c.args.layer.now c.args.table.now c.args.places.now c.requires.right c.args.class.now c.add.new.self c.in-Some.shape c.in_ok-place.place c.in_ok-place.ensures.ok

pub returns-clause-content : goal.returns-clause-content
returns-clause-content c =
    let place = place_of c.args.places.now in
    let P : Option (Node ℕ) → Type 0 = Carries place (made_of c.in_ok-parts.parts) in
    let Q : Node AnnId → Type 0 = λ s. Carries place s (Some c.in-Some.shape) in
    let carries : Carries place (class_node c.args.class.now) (Some c.in-Some.shape) = subst Q c.in_ok-parts.ensures (subst P c.in-Some.is c.in_ok-shape.ensures) in
    class_placed c.args.layer.now c.args.table.now c.args.places.now c.requires.right c.args.class.now c.add.new.self c.in-Some.shape c.in_ok-place.place c.is_table.ensures
    (class_may c.args.layer.now c.args.table.now c.args.places.now c.requires.right c.args.class.now c.in-Some.shape carries (c.is_full.ensures c.if-is_full.false))
    c.in_ok-place.ensures.ok carries

pub returns-clause-only : goal.returns-clause-only
returns-clause-only c =
    let place = place_of c.args.places.now in
    let P : Option (Node ℕ) → Type 0 = Carries place (made_of c.in_ok-parts.parts) in
    let Q : Node AnnId → Type 0 = λ s. Carries place s (Some c.in-Some.shape) in
    let carries : Carries place (class_node c.args.class.now) (Some c.in-Some.shape) = subst Q c.in_ok-parts.ensures (subst P c.in-Some.is c.in_ok-shape.ensures) in
    let content : ℕ = class_content (content_of c.args.layer.now) c.args.class.now in
    added_only (λ n. n ≡ content) c.args.table.now c.in-Some.shape c.add.new.self c.in_ok-place.place c.in_ok-place.ensures.ok
    (class_number c.args.layer.now c.args.table.now c.args.places.now c.requires.right c.args.class.now c.in-Some.shape carries)
