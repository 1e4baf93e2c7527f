use Rattle.std.proofs.Common.{sym, ap, ◌∙◌}
use Rattle.content_keys.specs.declared.placed_layer.PlacedLayer.{PlacedLayer}
use Rattle.unanimous_merge.proofs.EntryLemmas.{entries_more}
use Rattle.unanimous_merge.proofs.entry.entries_of.Goals as goal

pub loop-holder-preserved : goal.loop-holder-preserved
loop-holder-preserved c =
    entries_more c.args.rows.now c.loop-holder.holder c.index-rows-holder.result c.loop-holder-test.true c.index-rows-holder.is c.loop-holder.entries.items c.push_entries.new.entries.items c.as_slice.result.now (c.as_slice.ensures.value ∙ ap (λ (r : PlacedLayer). r.marks.items) (sym c.index-rows-holder.is)) c.loop-holder.invariant
    c.in_ok-push_entries.ensures
