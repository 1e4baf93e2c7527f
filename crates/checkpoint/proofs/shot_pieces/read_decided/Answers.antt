use Rattle.std.proofs.Common.{sym, subst}
use Rattle.entry_bytes.specs.declared.entry.Entry.TheVariants as entry
use Rattle.checkpoint.specs.declared.so_far.Part.{Part}
use Rattle.checkpoint.specs.declared.so_far.SoFar.{SoFar}
use Rattle.checkpoint.specs.Runs.{IsReadAs}
use Rattle.checkpoint.proofs.shot_pieces.read_decided.Goals as goal

pub returns-in_ok-read-in-Shot : goal.returns-in_ok-read-in-Shot
returns-in_ok-read-in-Shot c =
    let so = c.args.so_far in
    subst (λ (p : Part). let o : SoFar = record { state = so.state; texts = so.texts; room = so.room; shots = so.shots; part = p } in IsReadAs o (entry.Decided c.args.pairs.now) c.in_ok-read-in-Shot.read) (sym c.in-Shot.is) c.in_ok-read-in-Shot.ensures
