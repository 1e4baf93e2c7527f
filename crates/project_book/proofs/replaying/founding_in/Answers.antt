use Rattle.std.proofs.Common.{subst}
use Rattle.project_book.specs.Replaying.{IsReading}
use Rattle.project_book.proofs.ReplayLemmas.{founding_read, none_begins}
use Rattle.project_book.proofs.replaying.founding_in.Goals as goal

pub returns-in_ok-told-in-Some : goal.returns-in_ok-told-in-Some
returns-in_ok-told-in-Some c =
    founding_read c.sound_configurations_are_read_back.ensures c.entries_are_told_apart.ensures.no_two c.args.bytes.now c.in-Some.entry c.in_ok-told-in-Some.told (subst (IsReading c.args.bytes.now) c.in-Some.is c.requires.read) c.requires.other
    c.in_ok-told-in-Some.ensures.found c.in_ok-told-in-Some.ensures.told

pub returns-in-None : goal.returns-in-None
returns-in-None c = none_begins c.sound_configurations_are_read_back.ensures c.args.bytes.now c.requires.other (subst (IsReading c.args.bytes.now) c.in-None.is c.requires.read)
