use Rattle.std.proofs.Common.{ℕ, List, Some, ◌∙◌, ap, arith}
use Rattle.project_journal.specs.Disk.{Reaches, Torn}
use Rattle.project_journal.specs.Settled.{Turned}
use Rattle.project_journal.proofs.Moments.{started, goes_by, goes_same}
use Rattle.project_journal.proofs.Writes.{turned_none, turn_keeps, written_byte}
use Rattle.project_journal.proofs.appending.turn_gate.Goals as goal

pub returns-in_err-write_at-clause-any_moment : goal.returns-in_err-write_at-clause-any_moment
returns-in_err-write_at-clause-any_moment g c =
    let d = g.D.Disk in
    let m = g.met.D.Disk in
    let P = Reaches (Turned c.args.gate) (d.images c.args.disk.now) in
    let at_start = started d.moment d.left_since d.images m.counts_now m.only_now c.args.disk.now P (λ f is. (f, is, turned_none c.args.gate f)) in
    goes_by d.moment d.left_since d.images m.counts_now m.only_now _ _ _ P (Torn c.args.gate 1) at_start c.write_at.ensures.time c.write_at.ensures.images (turn_keeps c.args.gate _ c.requires.within)

pub returns-in_err-sync-clause-any_moment : goal.returns-in_err-sync-clause-any_moment
returns-in_err-sync-clause-any_moment g c =
    let d = g.D.Disk in
    let m = g.met.D.Disk in
    let P = Reaches (Turned c.args.gate) (d.images c.args.disk.now) in
    let at_start = started d.moment d.left_since d.images m.counts_now m.only_now c.args.disk.now P (λ f is. (f, is, turned_none c.args.gate f)) in
    let wrote = goes_by d.moment d.left_since d.images m.counts_now m.only_now _ _ _ P (Torn c.args.gate 1) at_start c.write_at.ensures.time c.write_at.ensures.images (turn_keeps c.args.gate _ c.requires.within) in
    goes_same d.moment d.left_since d.images m.counts_now m.only_now _ _ _ P wrote c.sync.ensures.time c.sync.ensures.images

pub returns-clause-any_moment : goal.returns-clause-any_moment
returns-clause-any_moment g c =
    let d = g.D.Disk in
    let m = g.met.D.Disk in
    let P = Reaches (Turned c.args.gate) (d.images c.args.disk.now) in
    let at_start = started d.moment d.left_since d.images m.counts_now m.only_now c.args.disk.now P (λ f is. (f, is, turned_none c.args.gate f)) in
    let wrote = goes_by d.moment d.left_since d.images m.counts_now m.only_now _ _ _ P (Torn c.args.gate 1) at_start c.write_at.ensures.time c.write_at.ensures.images (turn_keeps c.args.gate _ c.requires.within) in
    goes_same d.moment d.left_since d.images m.counts_now m.only_now _ _ _ P wrote c.sync.ensures.time c.sync.ensures.images

pub returns-clause-ok : goal.returns-clause-ok
returns-clause-ok g c = λ f is.
    let within = c.requires.within f (g.met.D.Disk.read_is_image _ f is) in
    c.in_ok-sync.ensures.holds ∙ c.in_ok-write_at.ensures.written f is (omega (arith, within)) ∙ ap (λ (l : List ℕ). Some l) (written_byte c.args.gate c.args.value f within)
