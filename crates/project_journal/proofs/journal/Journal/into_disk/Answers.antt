use Rattle.std.proofs.Common.{refl}
use Rattle.project_journal.specs.StopLaws.{stop_now}
use Rattle.project_journal.proofs.journal.Journal.into_disk.Goals as goal

pub returns-clause-opens : goal.returns-clause-opens
returns-clause-opens g c = λ entries file kept held.
    let d = g.D.Disk in
    let s = c.args.self in
    stop_now (d.images s.disk) (d.holds s.disk) s.gate s.mending s.settled entries _ kept (file, g.met.D.Disk.read_is_image s.disk file held, refl)
