use Rattle.std.proofs.Common.{◌≡◌, refl, ap, ◌∙◌, sym, length, arith, map}
use Rattle.std.specs.Str.Lines.{lines}
use Rattle.std.proofs.lemmas.List.{length-map}
use Rattle.conf_model.specs.ConfLines.{Before, lines_from}
use Rattle.annotation_conf.specs.FileGrows.{grown_by}
use Rattle.annotation_conf.proofs.FileShown.{lines-few, shows-all}
use Rattle.annotation_conf.proofs.file.read_file.Goals as goal

pub loop-line-init : goal.loop-line-init
loop-line-init c =
    let same : map (λ line. line.now) c.deref-line-items.result.now ≡ lines c.args.text.now = rw c.deref-line-items.ensures.value c.in_ok-lines.ensures in
    let long : length c.deref-line-items.result.now ≡ length (lines c.args.text.now) = sym (length-map c.deref-line-items.result.now (λ line. line.now)) ∙ ap length same in
    record {
      count = refl;
      few = omega (arith, long, lines-few c.args.text.now, c.requires);
      same = same;
      grows = ap (λ f. grown_by f (lines_from 1 Before (map (λ line. line.now) c.deref-line-items.result.now))) c.new-file.ensures;
    }

pub returns : goal.returns
returns c = shows-all c.args.text.now c.deref-line-items.result.now c.loop-line.file _ c.loop-line.line-index c.loop-line.invariant.same c.loop-line-test.false c.loop-line.invariant.grows
