use Rattle.std.proofs.Common.{◌≡◌, ℕ, Option, Some, option_map, sym, ap, ◌∙◌, subst}
use Rattle.std.proofs.lemmas.Option.{same_Some}
use Rattle.mark_base.specs.declared.ann_id.AnnId.{AnnId}
use Rattle.content_keys.specs.Carrying.{Carries}
use Rattle.content_keys.specs.Nodes.{Names, Node}
use Rattle.content_keys.specs.LayerContents.{node_of}
use Rattle.content_keys.specs.Parts.{made_of}
use Rattle.content_keys.specs.Places.{place_of}
use Rattle.content_keys.proofs.PlacedLemmas.{carried_content, carried_lost, carried_may}
use Rattle.content_keys.proofs.placed_layer.try_place.Goals as goal

pub returns-in_default-2-clause-here : goal.returns-in_default-2-clause-here
returns-in_default-2-clause-here c = λ s e h.
    let P : Option (Node ℕ) → Type 0 = Carries (place_of c.args.places.now) (made_of c.in-Some.parts) in
    let is : node_of c.args.layer.now c.args.id ≡ Some (made_of c.in-Some.parts) = sym (ap (option_map made_of) (sym c.in-Some.is) ∙ c.in_ok-parts.ensures) in
    let same : s ≡ made_of c.in-Some.parts = same_Some _ _ (sym e ∙ is) in
    absurd (carried_lost c.args.layer.now c.args.table.now c.args.places.now c.requires.right c.args.id (made_of c.in-Some.parts) is (subst P c.in_default-2.is c.in_ok-shape.ensures)
    (λ y n. let N : Node AnnId → Type 0 = Names y in h y (subst N (sym same) n)))

pub enter-requires-clause-may : goal.enter-requires-clause-may
enter-requires-clause-may c =
    let P : Option (Node ℕ) → Type 0 = Carries (place_of c.args.places.now) (made_of c.in-Some.parts) in
    let is : node_of c.args.layer.now c.args.id ≡ Some (made_of c.in-Some.parts) = sym (ap (option_map made_of) (sym c.in-Some.is) ∙ c.in_ok-parts.ensures) in
    carried_may c.args.layer.now c.args.table.now c.args.places.now c.requires.right c.args.id (made_of c.in-Some.parts) is c.in-Some-2.shape (subst P c.in-Some-2.is c.in_ok-shape.ensures) (c.is_full.ensures c.if-is_full.false)

pub enter-requires-clause-number : goal.enter-requires-clause-number
enter-requires-clause-number c =
    let P : Option (Node ℕ) → Type 0 = Carries (place_of c.args.places.now) (made_of c.in-Some.parts) in
    let is : node_of c.args.layer.now c.args.id ≡ Some (made_of c.in-Some.parts) = sym (ap (option_map made_of) (sym c.in-Some.is) ∙ c.in_ok-parts.ensures) in
    carried_content c.args.layer.now c.args.table.now c.args.places.now c.requires.right c.args.id (made_of c.in-Some.parts) is c.in-Some-2.shape (subst P c.in-Some-2.is c.in_ok-shape.ensures) c.requires.built
