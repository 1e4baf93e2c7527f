use Rattle.std.proofs.Common.{sym, ◌∙◌}
use Rattle.layer_model.specs.Classes.{rank}
use Rattle.layer_core.proofs.BackStepLemmas.{taken_alone}
use Rattle.layer_core.proofs.GoneLemmas.{gone_absent, gone_held}
use Rattle.layer_core.proofs.removal.take_held.Goals as goal

pub returns-then-has : goal.returns-then-has
returns-then-has c = record {
  gone = c.in_ok-taken.ensures.gone;
  taken = c.in_ok-taken.ensures.taken;
  held = gone_held c.args.held.now c.args.layer.now c.take_away.new.layer c.args.id c.requires c.in_ok-taken.ensures.gone;
}

pub returns : goal.returns
returns c =
    let away = gone_absent c.args.layer.now c.take-mark.new.self c.args.id (c.requires (rank c.args.id) (sym c.has.ensures ∙ c.if-has.false)) c.take-mark.ensures.rest in
    record {
      gone = away;
      taken = taken_alone c.args.layer.now c.take-mark.new.self c.args.id c.take-mark.result c.from_vec-left.result c.take-mark.ensures.taken c.take-mark.ensures.rest (c.from_vec-left.ensures ∙ c.new.ensures.items);
      held = gone_held c.args.held.now c.args.layer.now c.take-mark.new.self c.args.id c.requires away;
    }
