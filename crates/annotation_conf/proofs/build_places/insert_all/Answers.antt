use Rattle.std.proofs.Common.{◌≡◌, ◌∙◌, ◌+◌, ◌∷◌, sym, ap, refl, drop, get_or, add-one, drop-cons, length, ◌<◌}
use Rattle.annotation_conf.specs.BuildPlaces.{inserted}
use Rattle.annotation_conf.proofs.build_places.insert_all.Goals as goal

pub loop-place-preserved : goal.loop-place-preserved
loop-place-preserved c =
    let within : c.loop-place.place-index < length c.args.places.now = c.loop-place-test.true in
    let next : drop c.loop-place.place-index c.args.places.now ≡ get_or c.args.places.now c.loop-place.place-index 0 ∷ drop (c.loop-place.place-index + 1) c.args.places.now =
    rw (add-one, drop-cons c.args.places.now c.loop-place.place-index 0) refl in
    ap (λ keys. inserted keys (drop (c.loop-place.place-index + 1) c.args.places.now)) c.in_ok-insert.ensures.keys
    ∙ sym (ap (inserted c.loop-place.set.keys) next) ∙ c.loop-place.invariant
