use Rattle.std.proofs.Common.{◌≡◌, List, length, slice_index, sym, ap, ◌∙◌, arith}
use Rattle.std.proofs.lemmas.List.{length-map}
use Rattle.content_keys.specs.LayerContents.{class_contents_of, contents_of}
use Rattle.content_keys.specs.declared.placed_layer.Placed.{Placed}
use Rattle.match_scores.specs.declared.sort.Sort.TheVariants.{Spans, Events, Relations}
use Rattle.match_scores.proofs.MarkLemmas.{marks_sorts}
use Rattle.match_scores.proofs.PlaceLemmas.{placed_sort}
use Rattle.match_scores.proofs.RoomLemmas.{whole_sum}
use Rattle.match_scores.proofs.layer_in_table.marks_of.Goals as goal

pub returns-clause-marks : goal.returns-clause-marks
returns-clause-marks c =
    let table = c.place.new.self in
    let layer = c.args.layer.now in
    let marks = c.in_ok-placed.placed.marks.items in
    let seen = c.as_slice-marks.result.now in
    let same = c.as_slice-marks.ensures.value in
    let contents = c.in_ok-placed.ensures.contents in
    let within = c.in_ok-placed.ensures.within in
    let own = c.in_ok-placed.placed.marks in
    let classes = c.in_ok-placed.placed.classes in
    let seen_long : length seen ≡ length marks = ap (λ (l : List Placed). length l) same in
    record {
      whole = c.requires;
      sorts = marks_sorts table layer (record { spans = c.in_ok-spans.spans; events = c.in_ok-events.events; relations = c.in_ok-relations.relations; size = c.saturating_add.result })
          (placed_sort table layer Spans marks seen c.in_ok-spans.spans same contents within c.in_ok-spans.ensures.list c.in_ok-spans.ensures.here)
          (placed_sort table layer Events marks seen c.in_ok-events.events same contents within c.in_ok-events.ensures.list c.in_ok-events.ensures.here)
          (placed_sort table layer Relations marks seen c.in_ok-relations.relations same contents within c.in_ok-relations.ensures.list c.in_ok-relations.ensures.here);
      few = c.is_few.ensures;
      size = whole_sum (length seen) c.len.result c.saturating_add.result (length (contents_of layer)) (length (class_contents_of layer))
          (omega (arith, seen_long, own.ok.0, own.ok.1, own.small)) (omega (arith, classes.ok.0, classes.ok.1, classes.small, c.len.ensures)) c.saturating_add.ensures
          (seen_long ∙ sym (length-map marks (λ (p : Placed). (p.id, slice_index table p.place))) ∙ ap (λ l. length l) contents)
          (c.len.ensures ∙ classes.ok.0 ∙ sym (length-map classes.items (slice_index table)) ∙ ap (λ l. length l) c.in_ok-placed.ensures.classes);
    }
