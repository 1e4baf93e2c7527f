use Rattle.std.proofs.Common.{◌∙◌, sym, refl, arith, take, get_or}
use Rattle.std.proofs.lemmas.Bool.{and_from}
use Rattle.std.proofs.lemmas.List.Folds.{list_all_more}
use Rattle.char_documents.specs.Texts.{all_lie_in, lies_in}
use Rattle.char_documents.proofs.ReferenceLemmas.{joined_none, joined_more}
use Rattle.char_documents.proofs.doc.Doc.reference.Goals as goal

pub loop-place-init : goal.loop-place-init
loop-place-init c = record { text = c.new-text.ensures.bytes ∙ sym (joined_none c.args.self.now); within = refl }

pub loop-place-preserved : goal.loop-place-preserved
loop-place-preserved c =
    let h = c.in-Some.ensures.within in
    record {
      text =
          rw (c.in_ok-push_str.ensures.bytes, c.as_str.ensures.value, c.in_ok-shown_text.ensures, c.in_ok-push_separator.ensures, c.loop-place.invariant.text, c.in-Some.ensures.characters)
          (sym (joined_more c.args.self.now c.args.frags.now c.loop-place.place (record { start = 0; end = 0 }) (omega arith)));
      within =
          list_all_more (lies_in c.args.self.now) c.args.frags.now c.loop-place.place (record { start = 0; end = 0 }) (omega arith)
          ∙ and_from (all_lie_in c.args.self.now (take c.loop-place.place c.args.frags.now)) (lies_in c.args.self.now (get_or c.args.frags.now c.loop-place.place (record { start = 0; end = 0 }))) c.loop-place.invariant.within (sym h);
    }
