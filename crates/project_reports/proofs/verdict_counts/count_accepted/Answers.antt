use Rattle.std.proofs.Common.{◌≡◌, ℕ, Bool, false, cond, sym, ◌∙◌, ap, arith}
use Rattle.std.specs.Option.{option_map_or}
use Rattle.project_machine.specs.SnapshotsTable.{accepts}
use Rattle.project_reports.proofs.CountLemmas.{count_next}
use Rattle.project_reports.proofs.verdict_counts.count_accepted.Goals as goal
use Rattle.project_reports.proofs.verdict_counts.count_accepted.Goals.{then-is_accepted, else-is_accepted}

pub loop-i-preserved : goal.loop-i-preserved
loop-i-preserved c =
    let next = count_next (λ one. accepts one.1) c.args.decisions.now c.loop-i.i c.at.result (omega (arith, c.count-i-end.ensures)) c.at.ensures in
    let so_far = c.loop-i.invariant.counted in
    let few = c.loop-i.invariant.few in
    elim c.if-is_accepted.branch [
      | then-is_accepted w ↦
          let one : ◌≡◌ {A = ℕ} (cond (option_map_or (λ one. accepts one.1) c.at.result false) 1 0) 1 = ap {B = ℕ} (λ (b : Bool). cond b 1 0) (sym c.is_accepted.ensures ∙ w.if-is_accepted.true) in
          let is = w.accepted-is in
          record { counted = omega (arith, next, so_far, one, is); few = omega (arith, few, is) }
      | else-is_accepted w ↦
          let none : ◌≡◌ {A = ℕ} (cond (option_map_or (λ one. accepts one.1) c.at.result false) 1 0) 0 = ap {B = ℕ} (λ (b : Bool). cond b 1 0) (sym c.is_accepted.ensures ∙ w.if-is_accepted.false) in
          let is = w.accepted-is in
          record { counted = omega (arith, next, so_far, none, is); few = omega (arith, few, is) }
    ]
