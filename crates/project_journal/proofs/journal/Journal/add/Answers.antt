use Rattle.std.proofs.Common.{◌≡◌, ◌+◌, ℕ, List, [], ◌∷◌, Some, false, length, length-append, sym, subst, ◌∙◌, ap, arith}
use Rattle.project_journal.specs.JournalFile.{record_of}
use Rattle.project_journal.specs.RecordLaws.{length-record_of}
use Rattle.project_journal.specs.Settled.{IsSettled}
use Rattle.project_journal.proofs.Exits.{on_err, ready_within, within, stage_moments, stage_settled, stage_kept, whole_staged, open_moments, open_settled, open_kept, open_doubt, added_settled, added_kept}
use Rattle.project_journal.proofs.journal.Journal.add.Goals as goal

pub stage-requires-clause-reach : goal.stage-requires-clause-reach
stage-requires-clause-reach g c =
    let entry = c.args.entry.now in
    let size : length c.as_slice.result.now ≡ length entry + 5 = ap length (c.as_slice.ensures.value ∙ c.requires.buffer) ∙ length-append (record_of entry) (0 ∷ []) ∙ omega (arith, length-record_of entry) in
    omega (arith, size, c.requires.reach)

pub stage-requires-clause-within : goal.stage-requires-clause-within
stage-requires-clause-within g c =
    let d = g.D.Disk in
    let m = g.met.D.Disk in
    let s = c.args.self.now in
    let settled = subst (λ b. (f : List ℕ) → d.holds s.disk ≡ Some f → IsSettled (d.images s.disk) s.gate b f) c.requires.closed s.settled in
    within d.holds d.images d.moment d.left_since m.read_is_image m.images_told m.counts_now m.only_now s.disk s.gate false settled

pub invariant_of-self : goal.invariant_of-self
invariant_of-self g c =
    let d = g.D.Disk in
    let m = g.met.D.Disk in
    let s = c.args.self.now in
    let settled = subst (λ b. (f : List ℕ) → d.holds s.disk ≡ Some f → IsSettled (d.images s.disk) s.gate b f) c.requires.closed s.settled in
    record {
      small = s.small;
      settled = subst (λ b. (f : List ℕ) → d.holds c.stage.new.disk ≡ Some f → IsSettled (d.images c.stage.new.disk) s.gate b f) (sym c.requires.closed) (stage_settled d.holds d.images d.moment d.left_since m.read_is_image m.images_told m.counts_now m.only_now s.disk c.stage.new.disk s.gate c.stage.ensures.told settled c.stage.ensures.any_moment);
    }

pub returns-in_err-stage-clause-refused : goal.returns-in_err-stage-clause-refused
returns-in_err-stage-clause-refused g c =
    let d = g.D.Disk in
    let m = g.met.D.Disk in
    let s = c.args.self.now in
    let settled = subst (λ b. (f : List ℕ) → d.holds s.disk ≡ Some f → IsSettled (d.images s.disk) s.gate b f) c.requires.closed s.settled in
    on_err c.from_residual.result _ (stage_kept d.holds d.images d.moment d.left_since m.read_is_image m.images_told m.counts_now m.only_now s.disk c.stage.new.disk s.gate c.stage.ensures.told settled c.stage.ensures.any_moment)

pub returns-in_err-stage-clause-any_moment : goal.returns-in_err-stage-clause-any_moment
returns-in_err-stage-clause-any_moment g c = λ f is.
    let d = g.D.Disk in
    let m = g.met.D.Disk in
    let s = c.args.self.now in
    let settled = subst (λ b. (f : List ℕ) → d.holds s.disk ≡ Some f → IsSettled (d.images s.disk) s.gate b f) c.requires.closed s.settled in
    stage_moments d.holds d.images d.moment d.left_since m.read_is_image m.images_told m.counts_now m.only_now s.disk c.stage.new.disk s.gate c.stage.ensures.told settled c.stage.ensures.any_moment (Some c.args.entry.now) f is

pub turn_gate-requires-clause-within : goal.turn_gate-requires-clause-within
turn_gate-requires-clause-within g c =
    let d = g.D.Disk in
    let m = g.met.D.Disk in
    let s = c.args.self.now in
    let settled = subst (λ b. (f : List ℕ) → d.holds s.disk ≡ Some f → IsSettled (d.images s.disk) s.gate b f) c.requires.closed s.settled in
    let ready = whole_staged d.holds d.images d.moment d.left_since m.read_is_image m.images_told m.counts_now m.only_now s.disk c.stage.new.disk s.gate c.stage.ensures.told settled c.stage.ensures.any_moment c.args.entry.now c.as_slice.result.now (c.as_slice.ensures.value ∙ c.requires.buffer) c.in_ok-stage.ensures.ok c.in_ok-stage.ensures.durable in
    ready_within d.holds d.images d.moment d.left_since m.read_is_image m.images_told m.counts_now m.only_now s.disk c.stage.new.disk s.gate c.args.entry.now c.stage.ensures.told ready

pub invariant_of-self-in-Break-branch-2 : goal.invariant_of-self-in-Break-branch-2
invariant_of-self-in-Break-branch-2 g c =
    let d = g.D.Disk in
    let m = g.met.D.Disk in
    let s = c.args.self.now in
    let settled = subst (λ b. (f : List ℕ) → d.holds s.disk ≡ Some f → IsSettled (d.images s.disk) s.gate b f) c.requires.closed s.settled in
    let ready = whole_staged d.holds d.images d.moment d.left_since m.read_is_image m.images_told m.counts_now m.only_now s.disk c.stage.new.disk s.gate c.stage.ensures.told settled c.stage.ensures.any_moment c.args.entry.now c.as_slice.result.now (c.as_slice.ensures.value ∙ c.requires.buffer) c.in_ok-stage.ensures.ok c.in_ok-stage.ensures.durable in
    record { small = s.small; settled = open_settled d.holds d.images d.moment d.left_since m.read_is_image m.images_told m.counts_now m.only_now s.disk c.stage.new.disk c.turn_gate.new.disk s.gate c.args.entry.now c.requires.entry c.stage.ensures.told c.turn_gate.ensures.told settled ready c.stage.ensures.any_moment c.turn_gate.ensures.any_moment }

pub returns-in_err-turn_gate-clause-refused : goal.returns-in_err-turn_gate-clause-refused
returns-in_err-turn_gate-clause-refused g c =
    let d = g.D.Disk in
    let m = g.met.D.Disk in
    let s = c.args.self.now in
    let settled = subst (λ b. (f : List ℕ) → d.holds s.disk ≡ Some f → IsSettled (d.images s.disk) s.gate b f) c.requires.closed s.settled in
    let ready = whole_staged d.holds d.images d.moment d.left_since m.read_is_image m.images_told m.counts_now m.only_now s.disk c.stage.new.disk s.gate c.stage.ensures.told settled c.stage.ensures.any_moment c.args.entry.now c.as_slice.result.now (c.as_slice.ensures.value ∙ c.requires.buffer) c.in_ok-stage.ensures.ok c.in_ok-stage.ensures.durable in
    on_err c.from_residual-in_err-turn_gate.result _ (open_kept d.holds d.images d.moment d.left_since m.read_is_image m.images_told m.counts_now m.only_now s.disk c.stage.new.disk c.turn_gate.new.disk s.gate c.args.entry.now c.requires.entry c.stage.ensures.told c.turn_gate.ensures.told settled ready c.stage.ensures.any_moment c.turn_gate.ensures.any_moment)

pub returns-in_err-turn_gate-clause-doubt : goal.returns-in_err-turn_gate-clause-doubt
returns-in_err-turn_gate-clause-doubt g c =
    let d = g.D.Disk in
    let m = g.met.D.Disk in
    let s = c.args.self.now in
    let settled = subst (λ b. (f : List ℕ) → d.holds s.disk ≡ Some f → IsSettled (d.images s.disk) s.gate b f) c.requires.closed s.settled in
    let ready = whole_staged d.holds d.images d.moment d.left_since m.read_is_image m.images_told m.counts_now m.only_now s.disk c.stage.new.disk s.gate c.stage.ensures.told settled c.stage.ensures.any_moment c.args.entry.now c.as_slice.result.now (c.as_slice.ensures.value ∙ c.requires.buffer) c.in_ok-stage.ensures.ok c.in_ok-stage.ensures.durable in
    on_err c.from_residual-in_err-turn_gate.result _ (open_doubt d.holds d.images d.moment d.left_since m.read_is_image m.images_told m.counts_now m.only_now s.disk c.stage.new.disk c.turn_gate.new.disk s.gate c.args.entry.now c.requires.entry c.stage.ensures.told c.turn_gate.ensures.told settled ready c.stage.ensures.any_moment c.turn_gate.ensures.any_moment)

pub returns-in_err-turn_gate-clause-any_moment : goal.returns-in_err-turn_gate-clause-any_moment
returns-in_err-turn_gate-clause-any_moment g c = λ f is.
    let d = g.D.Disk in
    let m = g.met.D.Disk in
    let s = c.args.self.now in
    let settled = subst (λ b. (f : List ℕ) → d.holds s.disk ≡ Some f → IsSettled (d.images s.disk) s.gate b f) c.requires.closed s.settled in
    let ready = whole_staged d.holds d.images d.moment d.left_since m.read_is_image m.images_told m.counts_now m.only_now s.disk c.stage.new.disk s.gate c.stage.ensures.told settled c.stage.ensures.any_moment c.args.entry.now c.as_slice.result.now (c.as_slice.ensures.value ∙ c.requires.buffer) c.in_ok-stage.ensures.ok c.in_ok-stage.ensures.durable in
    open_moments d.holds d.images d.moment d.left_since m.read_is_image m.images_told m.counts_now m.only_now s.disk c.stage.new.disk c.turn_gate.new.disk s.gate c.args.entry.now c.requires.entry c.stage.ensures.told c.turn_gate.ensures.told settled ready c.stage.ensures.any_moment c.turn_gate.ensures.any_moment f is

pub invariant_of-self-2 : goal.invariant_of-self-2
invariant_of-self-2 g c =
    let d = g.D.Disk in
    let m = g.met.D.Disk in
    let s = c.args.self.now in
    let settled = subst (λ b. (f : List ℕ) → d.holds s.disk ≡ Some f → IsSettled (d.images s.disk) s.gate b f) c.requires.closed s.settled in
    let ready = whole_staged d.holds d.images d.moment d.left_since m.read_is_image m.images_told m.counts_now m.only_now s.disk c.stage.new.disk s.gate c.stage.ensures.told settled c.stage.ensures.any_moment c.args.entry.now c.as_slice.result.now (c.as_slice.ensures.value ∙ c.requires.buffer) c.in_ok-stage.ensures.ok c.in_ok-stage.ensures.durable in
    record { small = omega (arith, c.requires.below); settled = added_settled d.holds d.images d.moment d.left_since m.read_is_image m.images_told m.counts_now m.only_now s.disk c.stage.new.disk c.turn_gate.new.disk s.gate c.args.entry.now c.requires.entry c.stage.ensures.told c.turn_gate.ensures.told settled ready c.stage.ensures.any_moment c.turn_gate.ensures.any_moment c.in_ok-turn_gate.ensures.ok c.in_ok-turn_gate.ensures.durable }

pub returns-clause-added : goal.returns-clause-added
returns-clause-added g c =
    let d = g.D.Disk in
    let m = g.met.D.Disk in
    let s = c.args.self.now in
    let settled = subst (λ b. (f : List ℕ) → d.holds s.disk ≡ Some f → IsSettled (d.images s.disk) s.gate b f) c.requires.closed s.settled in
    let ready = whole_staged d.holds d.images d.moment d.left_since m.read_is_image m.images_told m.counts_now m.only_now s.disk c.stage.new.disk s.gate c.stage.ensures.told settled c.stage.ensures.any_moment c.args.entry.now c.as_slice.result.now (c.as_slice.ensures.value ∙ c.requires.buffer) c.in_ok-stage.ensures.ok c.in_ok-stage.ensures.durable in
    added_kept d.holds d.images d.moment d.left_since m.read_is_image m.images_told m.counts_now m.only_now s.disk c.stage.new.disk c.turn_gate.new.disk s.gate c.args.entry.now c.requires.entry c.stage.ensures.told c.turn_gate.ensures.told settled ready c.stage.ensures.any_moment c.turn_gate.ensures.any_moment c.in_ok-turn_gate.ensures.ok c.in_ok-turn_gate.ensures.durable

pub returns-clause-any_moment : goal.returns-clause-any_moment
returns-clause-any_moment g c = λ f is.
    let d = g.D.Disk in
    let m = g.met.D.Disk in
    let s = c.args.self.now in
    let settled = subst (λ b. (f : List ℕ) → d.holds s.disk ≡ Some f → IsSettled (d.images s.disk) s.gate b f) c.requires.closed s.settled in
    let ready = whole_staged d.holds d.images d.moment d.left_since m.read_is_image m.images_told m.counts_now m.only_now s.disk c.stage.new.disk s.gate c.stage.ensures.told settled c.stage.ensures.any_moment c.args.entry.now c.as_slice.result.now (c.as_slice.ensures.value ∙ c.requires.buffer) c.in_ok-stage.ensures.ok c.in_ok-stage.ensures.durable in
    open_moments d.holds d.images d.moment d.left_since m.read_is_image m.images_told m.counts_now m.only_now s.disk c.stage.new.disk c.turn_gate.new.disk s.gate c.args.entry.now c.requires.entry c.stage.ensures.told c.turn_gate.ensures.told settled ready c.stage.ensures.any_moment c.turn_gate.ensures.any_moment f is
