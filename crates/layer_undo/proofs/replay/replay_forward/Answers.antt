use Rattle.std.proofs.Common.{◌<◌, [], ◌∷◌, ◌++◌, length, sym, refl, ◌∙◌, ap, subst, arith}
use Rattle.layer_undo.specs.Replays.{replay_from}
use Rattle.layer_undo.specs.Trails.{IsTrail}
use Rattle.layer_undo.proofs.TrailLemmas.{front_is, none_is, same_step, trail_step, trail_whole}
use Rattle.layer_undo.proofs.replay.replay_forward.Goals as goal

pub loop-left-init : goal.loop-left-init
loop-left-init c =
    let work = c.args.work.now in
    record {
      same = refl;
      room = c.requires;
      conf = refl;
      text = refl;
      trail = λ more trail. subst (λ bs. IsTrail work.conf (length work.text) work.layer c.args.commands.now (bs ++ more)) (sym c.new-backs.ensures.items) trail;
    }

pub loop-left-preserved : goal.loop-left-preserved
loop-left-preserved c =
    let work = c.args.work.now in
    let before = c.loop-left.work in
    let after = c.carry_out_back.new.work in
    let left = c.loop-left.left.now in
    let some : 0 < length left = omega (arith, c.in-len1-up.len_at_least) in
    let front = front_is left c.command-item.result some c.command-item.is in
    record {
      same = same_step work.conf before.conf work.text before.text c.loop-left.index before.layer after.layer c.command-item.result left _ (replay_from work.conf (length work.text) c.args.at work.layer c.args.commands.now)
          c.loop-left.invariant.conf c.loop-left.invariant.text front c.in_ok-back.ensures.done c.loop-left.invariant.same;
      room = omega (arith, ap length front, c.loop-left.invariant.room);
      conf = c.carry_out_back.ensures.conf ∙ c.loop-left.invariant.conf;
      text = c.carry_out_back.ensures.text ∙ c.loop-left.invariant.text;
      trail = trail_step (λ backs. IsTrail work.conf (length work.text) work.layer c.args.commands.now backs) before.conf after.conf before.text after.text c.loop-left.index before.layer after.layer c.command-item.result left _ c.in_ok-back.back
          c.loop-left.backs.items c.push_reserved.new.self.items c.carry_out_back.ensures.conf c.carry_out_back.ensures.text front
          (c.push_reserved.ensures.items ∙ ap (λ xs. xs ++ c.in_ok-back.back ∷ []) c.make_way.ensures.same) c.in_ok-back.ensures.done c.in_ok-back.ensures.trail c.loop-left.invariant.trail;
    }

pub returns-clause-trail : goal.returns-clause-trail
returns-clause-trail c =
    let work = c.args.work.now in
    let before = c.loop-left.work in
    trail_whole (λ backs. IsTrail work.conf (length work.text) work.layer c.args.commands.now backs) before.conf (length before.text) before.layer c.loop-left.left.now c.loop-left.backs.items (none_is c.loop-left.left.now c.in_default.len_below) c.loop-left.invariant.trail
