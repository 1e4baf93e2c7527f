use Rattle.std.proofs.Common.{arith, []}
use Rattle.project_journal.specs.JournalFile.{new_front, new_file}
use Rattle.project_journal.proofs.Opens.{front_one, reads_front, reads_settled, reads_opened, new_kept, new_holds, new_reads}
use Rattle.project_journal.proofs.journal.Journal.create.Goals as goal

pub invariant_of-result : goal.invariant_of-result
invariant_of-result g c = record {
  small = omega arith;
  settled = λ f is. reads_settled _ _ 16 [] f (g.met.D.Disk.read_is_image _ f is) c.in-Ok.ensures.durable is
      (new_reads _ _ 16 [] (new_file 1 []) c.lay_out_empty.ensures.told c.in-Ok.ensures.ok (reads_front (new_front 1 []) [] front_one tt) f is);
}

pub returns-in-Ok-clause-kept : goal.returns-in-Ok-clause-kept
returns-in-Ok-clause-kept g c = new_kept _ _ 16 [] (new_file 1 []) c.lay_out_empty.ensures.told c.in-Ok.ensures.ok (reads_front (new_front 1 []) [] front_one tt)

pub returns-in-Ok-clause-file : goal.returns-in-Ok-clause-file
returns-in-Ok-clause-file g c = new_holds _ _ 16 [] (new_file 1 []) c.lay_out_empty.ensures.told c.in-Ok.ensures.ok (reads_front (new_front 1 []) [] front_one tt)

pub returns-in-Ok-clause-found : goal.returns-in-Ok-clause-found
returns-in-Ok-clause-found g c = λ image is.
    reads_opened 16 [] image (new_reads _ _ 16 [] (new_file 1 []) c.lay_out_empty.ensures.told c.in-Ok.ensures.ok (reads_front (new_front 1 []) [] front_one tt) image (c.in-Ok.ensures.durable image is))
