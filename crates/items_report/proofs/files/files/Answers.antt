use Rattle.std.proofs.Common.{List, ℕ, ◌∙◌, ap, arith, length, Some}
use Rattle.layer_model.specs.Annotations.{Annotations}
use Rattle.layer_rules.specs.WellFormed.{IsWellFormed}
use Rattle.ann_writer.specs.AnnOf.{ann_of}
use Rattle.items_report.proofs.HeldRows.{holds_there, layer_more, stands_there}
use Rattle.items_report.proofs.files.files.Goals as goal

abbrev layer : List ℕ × Annotations → Annotations
layer held = held.1

pub ann_bytes-requires : goal.ann_bytes-requires
ann_bytes-requires c =
    let Q : Annotations → Type 0 = IsWellFormed c.args.conf.now (length c.args.doc.now) in
    holds_there Q layer c.args.snapshot.now c.loop-i.i c.deref.result.now c.requires.layers (ap Some c.deref.ensures ∙ c.in-Some.ensures)

pub unreachable-requires : goal.unreachable-requires
unreachable-requires c = stands_there layer c.args.snapshot.now c.loop-i.i (omega (arith, c.count-i-end.ensures.count)) c.in-None.ensures

pub loop-i-preserved : goal.loop-i-preserved
loop-i-preserved c =
    let file : Annotations → List ℕ = ann_of c.args.conf.now c.args.doc.now in
    layer_more file layer c.args.snapshot.now c.loop-i.i c.deref.result.now c.in_ok-ann_bytes-in-Some.field-0 c.loop-i.files.items c.push.new.self.items
    c.in_ok-push-in-Some.ensures.items c.loop-i.invariant c.in_ok-ann_bytes-in-Some.ensures.lines (ap Some c.deref.ensures ∙ c.in-Some.ensures)
