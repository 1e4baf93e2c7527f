use Rattle.std.proofs.Common.{ℕ, ◌<◌, List, All, subst, sym, ◌∙◌}
use Rattle.match_scores.proofs.PlaceLemmas.{places_within}
use Rattle.match_scores.proofs.places.Places.of.Goals as goal

pub marked-requires : goal.marked-requires
marked-requires c =
    let P : List ℕ → Type 0 = λ l. All (λ place. place < c.args.count) l in
    subst P (sym (c.as_slice.ensures.value ∙ c.in_ok-list.ensures)) (places_within c.args.count c.args.sort c.args.marks.now c.requires)
