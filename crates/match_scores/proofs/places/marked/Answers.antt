use Rattle.std.proofs.Common.{◌≡◌, ◌<◌, ap, replicate, false, true, length, length-set, get_or, refl, ◌∙◌, arith}
use Rattle.std.proofs.lemmas.List.{length-replicate}
use Rattle.match_scores.specs.Places.{is_here}
use Rattle.match_scores.proofs.PlaceLemmas.{marked_more, marked_none}
use Rattle.match_scores.proofs.places.marked.Goals as goal

pub loop-place-init : goal.loop-place-init
loop-place-init c =
    let e : c.in_ok-here.here.items ≡ replicate c.args.count false = c.in_ok-here.ensures.items_if_clones_equal (λ y h. h) in
    record {
      long = ap length e ∙ length-replicate c.args.count false;
      so_far = λ place. ap (λ l. is_here l place) e ∙ marked_none c.args.count place;
    }

pub loop-place-preserved : goal.loop-place-preserved
loop-place-preserved c =
    let i = c.loop-place.place-index in
    let p = get_or c.args.places.now i 0 in
    let here = c.loop-place.here.items in
    let inside : p < length here = omega (arith, c.requires i 0 c.loop-place-test.true, c.loop-place.invariant.long) in
    record {
      long = length-set here p true ∙ c.loop-place.invariant.long;
      so_far = marked_more c.args.places.now here i p c.loop-place-test.true refl inside c.loop-place.invariant.so_far;
    }
