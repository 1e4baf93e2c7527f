use Rattle.std.proofs.Common.{rules, arith}
use Rattle.turn_hall.proofs.PassLemmas.{notes}
use Rattle.turn_hall.proofs.pass.Pass.note.Goals as goal

pub split_seat-other-requires : goal.split_seat-other-requires
split_seat-other-requires g c = let w = c.hall.invariant.0 in (search rules, omega arith, notes _ _ _)
