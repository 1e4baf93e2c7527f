use Rattle.std.proofs.Common.{◌∙◌, ap, nat_cmp, option_map}
use Rattle.std.specs.BTreeMap.{get}
use Rattle.layer_model.specs.LayerIds.{id_place}
use Rattle.ann_reader.specs.Lines.{Line}
use Rattle.ann_reader.specs.LineFaults.{headed_by}
use Rattle.ann_reader.proofs.known_lines.KnownLines.head.Goals as goal

pub returns : goal.returns
returns c =
    c.copied.ensures ∙ c.get.ensures.value ∙ ap (get nat_cmp c.self.inside.heads) c.rank.ensures ∙ c.self.invariant (id_place c.args.id)
    ∙ ap (λ lines. option_map (λ (line : Line). line.number) (headed_by c.args.id lines)) c.self.view_is
