use Rattle.std.proofs.Common.{◌≡◌, ◌+◌, ◌≤◌, ◌∙◌, length, map, arith, ap}
use Rattle.std.specs.Str.Lines.{lines}
use Rattle.std.proofs.lemmas.List.{length-map}
use Rattle.layer_model.specs.Annotations.{no_marks}
use Rattle.token_columns.specs.ReadRuns.{put_from}
use Rattle.token_columns.specs.LineShows.{seen_text}
use Rattle.token_columns.proofs.SoundLemmas.{lines_few, sound}
use Rattle.token_columns.proofs.reader.read_text.Goals as goal

pub runs_read-requires-clause-few : goal.runs_read-requires-clause-few
runs_read-requires-clause-few c =
    let few : length (lines c.args.text.now) ≤ length c.args.text.now + 1 = lines_few c.args.text.now in
    let same = ap length (ap (map seen_text) c.deref-2.ensures.value ∙ c.in_ok-lines.ensures) in
    omega (arith, few, c.requires, same, length-map c.deref-2.result.now seen_text)

pub returns-clause-read : goal.returns-clause-read
returns-clause-read c =
    let rows : map seen_text c.deref-2.result.now ≡ lines c.args.text.now = ap (map seen_text) c.deref-2.ensures.value ∙ c.in_ok-lines.ensures in
    sound c.args.conf.now c.args.doc.now c.args.text.now (map seen_text c.deref-2.result.now) c.in_ok-runs.runs.items c.in_ok-layer_of.field-0 c.utf8.text rows
    c.in_ok-runs.ensures.read c.in_ok-runs.ensures.few (c.in_ok-layer_of.ensures ∙ ap (put_from no_marks 1) c.deref-3.ensures.value)
