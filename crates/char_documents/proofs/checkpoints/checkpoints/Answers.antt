use Rattle.std.proofs.Common.{◌+◌, [], ◌∷◌, ◌++◌, ◌*◌, ◌∙◌, sym, ap, length}
use Rattle.std.proofs.lemmas.List.{length_push}
use Rattle.char_documents.specs.Checkpoints.{byte_of}
use Rattle.char_documents.proofs.CheckpointLemmas.{byte_of_first, first_place, places_push}
use Rattle.char_documents.proofs.checkpoints.checkpoints.Goals as goal

pub loop-number-init : goal.loop-number-init
loop-number-init c = record {
  last = sym (byte_of_first c.args.text.now);
  count = ap length (c.in_ok-push.ensures.items ∙ ap (λ l. l ++ 0 ∷ []) c.new-marks.ensures.items);
  places = first_place c.args.text.now c.push.new.self.items (c.in_ok-push.ensures.items ∙ ap (λ l. l ++ 0 ∷ []) c.new-marks.ensures.items);
}

pub loop-number-preserved : goal.loop-number-preserved
loop-number-preserved c = record {
  last = c.next_mark-mark.ensures;
  count = ap length c.in_ok-push-2.ensures.items ∙ length_push c.loop-number.marks.items _ ∙ ap (λ n. n + 1) c.loop-number.invariant.count;
  places = places_push (λ k. byte_of c.args.text.now (256 * k)) c.loop-number.marks.items c.push-in-loop-number.new.self.items _ (c.loop-number.number + 1) c.in_ok-push-2.ensures.items c.loop-number.invariant.count c.loop-number.invariant.places c.next_mark-mark.ensures;
}
