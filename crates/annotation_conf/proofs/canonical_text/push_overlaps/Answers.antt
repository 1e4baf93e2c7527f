use Rattle.std.proofs.Common.{◌≡◌, ◌++◌, ◌+◌, ◌∙◌, ap, sym, string_bytes, take, List, ℕ, ◌∷◌, []}
use Rattle.std.specs.List.{flat_map}
use Rattle.std.proofs.lemmas.List.{flat_map_more, take_more}
use Rattle.conf_model.specs.declared.overlap_line.Overlap.{Overlap}
use Rattle.conf_model.specs.ConfText.{overlap_text}
use Rattle.annotation_conf.proofs.canonical_text.push_overlaps.Goals as goal

pub loop-line-preserved : goal.loop-line-preserved
loop-line-preserved c =
    let f : Overlap → List ℕ = overlap_text c.args.conf.now in
    let old : List ℕ = string_bytes c.args.out.now in
    let next : take (c.loop-line.line-index + 1) c.args.lines.now ≡ take c.loop-line.line-index c.args.lines.now ++ c.line-item.result ∷ [] =
    take_more c.args.lines.now c.loop-line.line-index c.line-item.result c.loop-line-test.true ∙ sym (ap (λ x. take c.loop-line.line-index c.args.lines.now ++ x ∷ []) c.line-item.is) in
    c.in_ok-push_overlap.ensures ∙ ap (λ t. t ++ f c.line-item.result) c.loop-line.invariant
    ∙ flat_map_more f old (take c.loop-line.line-index c.args.lines.now) c.line-item.result
    ∙ ap (λ l. old ++ flat_map f l) (sym next)
