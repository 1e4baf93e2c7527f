-- What a journal stands on.
use Rattle.project_journal.specs.declared.disk.Disk.{Ghosts}
use Rattle.project_journal.specs.declared.journal.Journal.{Journal}

-- the disk of a journal
abbrev pub disk_of : {D : Type 0} {disk : Ghosts D} → Journal D disk → D
disk_of journal = journal.disk
