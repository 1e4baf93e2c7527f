use Rattle.std.proofs.Common.{◌≡◌, ◌+◌, ◌*◌, nat_lt, sum_by, List, Option, ap, ◌∙◌, arith}
use Rattle.match_scores.specs.declared.layer_in_table.Marks.{Marks}
use Rattle.match_scores.specs.Standing.{Layers}
use Rattle.match_scores.specs.Places.{contents_standing, size_of}
use Rattle.match_scores.proofs.RoomLemmas.{less_cut, standing_sizes}
use Rattle.match_scores.proofs.document.Document.is_crowded.Goals as goal

pub returns : goal.returns
returns c =
    let layers = c.self.inside.layers.items in
    let marks = c.self.inside.marks.items in
    let contents = c.args.contents in
    let same : sum_by size_of c.as_slice.result.now ≡ sum_by size_of marks = ap (λ (l : List (Option Marks)). sum_by size_of l) c.as_slice.ensures.value in
    let standing : sum_by size_of marks ≡ contents_standing c.args.self.now = standing_sizes c.self.inside.table layers marks c.self.invariant ∙ ap (λ (l : Layers). contents_standing l) c.self.view_is in
    let sizes = sum_by size_of c.as_slice.result.now in
    let fits = c.ranges.contents.fits in
    ap (λ x. nat_lt x contents) c.roomy_count.ensures ∙ less_cut (2 * sizes + 128) contents 18446744073709551615 (omega arith)
    ∙ ap (λ x. nat_lt (2 * x + 128) contents) (same ∙ standing)
