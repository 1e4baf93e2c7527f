use Rattle.std.proofs.Common.{◌≡◌, ℕ, List, Some, sym, subst, inl}
use Rattle.project_journal.specs.JournalFile.{opened}
use Rattle.project_journal.specs.Keeper.{IsKeptOrDoubt}
use Rattle.project_journal.specs.Settled.{kept_in, doubt_by, IsSettled}
use Rattle.project_journal.specs.Stops.{LeavesOnly}
use Rattle.project_journal.proofs.Moments.{started}
use Rattle.project_journal.specs.SettledLaws.{opened_shut, kept_are}
use Rattle.project_journal.proofs.Exits.{on_err, within, mend_moments, mend_settled, mend_kept, mend_doubt, mended_settled}
use Rattle.project_journal.proofs.journal.Journal.mend.Goals as goal

pub turn_gate-requires-clause-within : goal.turn_gate-requires-clause-within
turn_gate-requires-clause-within g c =
    let d = g.D.Disk in
    let m = g.met.D.Disk in
    within d.holds d.images d.moment d.left_since m.read_is_image m.images_told m.counts_now m.only_now c.args.self.now.disk c.args.self.now.gate c.args.self.now.mending c.args.self.now.settled

pub invariant_of-self : goal.invariant_of-self
invariant_of-self g c =
    let d = g.D.Disk in
    let m = g.met.D.Disk in
    let s = c.args.self.now in
    let yes = c.if-self.true in
    let settled = subst (λ b. (f : List ℕ) → d.holds s.disk ≡ Some f → IsSettled (d.images s.disk) s.gate b f) yes s.settled in
    record {
      small = s.small;
      settled = subst (λ b. (f : List ℕ) → d.holds c.turn_gate.new.disk ≡ Some f → IsSettled (d.images c.turn_gate.new.disk) s.gate b f) (sym yes)
          (mend_settled d.holds d.images d.moment d.left_since m.read_is_image m.images_told m.counts_now m.only_now s.disk c.turn_gate.new.disk s.gate c.turn_gate.ensures.told settled c.turn_gate.ensures.any_moment);
    }

pub returns-in_err-turn_gate-clause-kept : goal.returns-in_err-turn_gate-clause-kept
returns-in_err-turn_gate-clause-kept g c =
    let d = g.D.Disk in
    let m = g.met.D.Disk in
    let s = c.args.self.now in
    let settled = subst (λ b. (f : List ℕ) → d.holds s.disk ≡ Some f → IsSettled (d.images s.disk) s.gate b f) c.if-self.true s.settled in
    mend_kept d.holds d.images d.moment d.left_since m.read_is_image m.images_told m.counts_now m.only_now s.disk c.turn_gate.new.disk s.gate c.turn_gate.ensures.told settled c.turn_gate.ensures.any_moment

pub returns-in_err-turn_gate-clause-doubt : goal.returns-in_err-turn_gate-clause-doubt
returns-in_err-turn_gate-clause-doubt g c =
    let d = g.D.Disk in
    let m = g.met.D.Disk in
    let s = c.args.self.now in
    let settled = subst (λ b. (f : List ℕ) → d.holds s.disk ≡ Some f → IsSettled (d.images s.disk) s.gate b f) c.if-self.true s.settled in
    let same = mend_doubt d.holds d.images d.moment d.left_since m.read_is_image m.images_told m.counts_now m.only_now s.disk c.turn_gate.new.disk s.gate c.turn_gate.ensures.told settled c.turn_gate.ensures.any_moment in
    on_err c.from_residual.result _ (subst (λ b. doubt_by (d.holds c.turn_gate.new.disk) s.gate b ≡ doubt_by (d.holds s.disk) s.gate b) (sym c.if-self.true) same)

pub returns-in_err-turn_gate-clause-any_moment : goal.returns-in_err-turn_gate-clause-any_moment
returns-in_err-turn_gate-clause-any_moment g c = λ f is.
    let d = g.D.Disk in
    let m = g.met.D.Disk in
    let s = c.args.self.now in
    let yes = c.if-self.true in
    let settled = subst (λ b. (f : List ℕ) → d.holds s.disk ≡ Some f → IsSettled (d.images s.disk) s.gate b f) yes s.settled in
    let run = mend_moments d.holds d.images d.moment d.left_since m.read_is_image m.images_told m.counts_now m.only_now s.disk c.turn_gate.new.disk s.gate c.turn_gate.ensures.told settled c.turn_gate.ensures.any_moment f is in
    subst (λ b. LeavesOnly d.moment d.left_since s.disk c.turn_gate.new.disk (λ x. IsKeptOrDoubt (kept_in s.gate f) (doubt_by (Some f) s.gate b) (opened x))) (sym yes) run

pub invariant_of-self-then-self : goal.invariant_of-self-then-self
invariant_of-self-then-self g c =
    let d = g.D.Disk in
    let m = g.met.D.Disk in
    let s = c.args.self.now in
    let settled = subst (λ b. (f : List ℕ) → d.holds s.disk ≡ Some f → IsSettled (d.images s.disk) s.gate b f) c.if-self.true s.settled in
    record {
      small = s.small;
      settled = mended_settled d.holds d.images d.moment d.left_since m.read_is_image m.images_told m.counts_now m.only_now s.disk c.turn_gate.new.disk s.gate c.turn_gate.ensures.told settled c.turn_gate.ensures.any_moment
          c.in_ok-turn_gate.ensures.ok c.in_ok-turn_gate.ensures.durable;
    }

pub returns-in_ok-turn_gate-clause-kept : goal.returns-in_ok-turn_gate-clause-kept
returns-in_ok-turn_gate-clause-kept g c =
    let d = g.D.Disk in
    let m = g.met.D.Disk in
    let s = c.args.self.now in
    let settled = subst (λ b. (f : List ℕ) → d.holds s.disk ≡ Some f → IsSettled (d.images s.disk) s.gate b f) c.if-self.true s.settled in
    mend_kept d.holds d.images d.moment d.left_since m.read_is_image m.images_told m.counts_now m.only_now s.disk c.turn_gate.new.disk s.gate c.turn_gate.ensures.told settled c.turn_gate.ensures.any_moment

pub returns-in_ok-turn_gate-clause-any_moment : goal.returns-in_ok-turn_gate-clause-any_moment
returns-in_ok-turn_gate-clause-any_moment g c = λ f is.
    let d = g.D.Disk in
    let m = g.met.D.Disk in
    let s = c.args.self.now in
    let yes = c.if-self.true in
    let settled = subst (λ b. (f : List ℕ) → d.holds s.disk ≡ Some f → IsSettled (d.images s.disk) s.gate b f) yes s.settled in
    let run = mend_moments d.holds d.images d.moment d.left_since m.read_is_image m.images_told m.counts_now m.only_now s.disk c.turn_gate.new.disk s.gate c.turn_gate.ensures.told settled c.turn_gate.ensures.any_moment f is in
    subst (λ b. LeavesOnly d.moment d.left_since s.disk c.turn_gate.new.disk (λ x. IsKeptOrDoubt (kept_in s.gate f) (doubt_by (Some f) s.gate b) (opened x))) (sym yes) run

pub returns-else-self-clause-any_moment : goal.returns-else-self-clause-any_moment
returns-else-self-clause-any_moment g c = λ f is.
    let d = g.D.Disk in
    let m = g.met.D.Disk in
    let s = c.args.self.now in
    let at = (s.settled f is).closed c.if-self.false in
    started d.moment d.left_since d.images m.counts_now m.only_now s.disk _ (λ x image. inl (opened_shut s.gate _ (kept_in s.gate f) x (s.settled f is).front (kept_are s.gate f) (at x image)))
