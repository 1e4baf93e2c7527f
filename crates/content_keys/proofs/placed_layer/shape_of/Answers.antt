use Rattle.std.proofs.Common.{◌≡◌, Some, map, refl, sym, ap, ◌∙◌, option_map}
use Rattle.content_keys.specs.Carrying.{all_linked, all_moved}
use Rattle.content_keys.specs.LayerContents.{link_of}
use Rattle.content_keys.specs.Parts.{made_of}
use Rattle.content_keys.specs.Places.{place_of}
use Rattle.content_keys.proofs.CarryLemmas.{carried_all}
use Rattle.content_keys.proofs.placed_layer.shape_of.Goals as goal

pub returns : goal.returns
returns c =
    let ms = place_of c.args.places.now in
    let n : Some c.in-Some.named.items ≡ all_moved ms c.args.parts.named.items =
    ap (option_map (λ v. v.items)) (sym c.in-Some.is) ∙ c.in_ok-named.ensures ∙ ap (all_moved ms) c.as_slice.ensures.value in
    let b : Some c.in-Some-2.bag.items ≡ all_linked ms (map link_of c.args.parts.args.items) =
    ap (option_map (λ v. v.items)) (sym c.in-Some-2.is) ∙ c.in_ok-bag.ensures.links ∙ ap (λ xs. all_linked ms (map link_of xs)) c.as_slice-2.ensures.value in
    carried_all ms (made_of c.args.parts) _ _ _ _ refl n b c.order.ensures
