use Rattle.checkpoint.proofs.SamePieces.{Laws, begins_one, reads_one}
use Rattle.checkpoint.proofs.SameRuns.{one_checkpoint, one_fault}
use Rattle.checkpoint.proofs.StandLemmas.{stands}
use Rattle.checkpoint.proofs.sound_laws.pieces_are_read_in_one_way.Goals as goal

pub returns : goal.returns
returns c =
    let laws : Laws = record {
      apart = c.entries_are_told_apart.ensures.no_two;
      back = c.sound_configurations_are_read_back.ensures;
      loads = c.loads_are_read_again.ensures;
      typed = c.typed_scripts_are_read_again.ensures;
      again = c.scripts_are_told_apart.ensures.read_again;
      accepted = c.accepted_scripts_can_be_written.ensures;
      flawless = c.unflawed_layers.ensures.unflawed;
    } in
    record {
      first = begins_one laws.back;
      next = λ entries so a b e read x y. reads_one laws so (stands laws.flawless entries so read) e a b x y;
      whole = one_checkpoint laws;
      fault = one_fault laws;
    }
