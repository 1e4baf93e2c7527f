use Rattle.std.proofs.Common.{sym, subst, ℕ}
use Rattle.project_journal.specs.JournalFile.{new_front, new_file}
use Rattle.project_journal.specs.Opening.{Reads}
use Rattle.project_journal.proofs.Creations.{are_entries}
use Rattle.project_journal.proofs.Opens.{front_two, reads_front, reads_settled, reads_opened, new_kept, new_holds, new_reads}
use Rattle.project_journal.proofs.journal.Journal.create_with.Goals as goal

pub invariant_of-result : goal.invariant_of-result
invariant_of-result g c =
    let es = c.args.entries.now in
    let gate = c.in-Ok.gate in
    let reads = subst (λ (k : ℕ). Reads (new_file 2 es) k es) (sym c.in-Ok.ensures.gate) (reads_front (new_front 2 es) es (front_two es) (are_entries es c.requires)) in
    record {
      small = c.in-Ok.ensures.small;
      settled = λ f is. reads_settled _ _ gate es f (g.met.D.Disk.read_is_image _ f is) c.in-Ok.ensures.durable is
          (new_reads _ _ gate es (new_file 2 es) c.lay_out_entries.ensures.told c.in-Ok.ensures.ok reads f is);
    }

pub returns-in-Ok-clause-kept : goal.returns-in-Ok-clause-kept
returns-in-Ok-clause-kept g c =
    let es = c.args.entries.now in
    let reads = subst (λ (k : ℕ). Reads (new_file 2 es) k es) (sym c.in-Ok.ensures.gate) (reads_front (new_front 2 es) es (front_two es) (are_entries es c.requires)) in
    new_kept _ _ c.in-Ok.gate es (new_file 2 es) c.lay_out_entries.ensures.told c.in-Ok.ensures.ok reads

pub returns-in-Ok-clause-file : goal.returns-in-Ok-clause-file
returns-in-Ok-clause-file g c =
    let es = c.args.entries.now in
    let reads = subst (λ (k : ℕ). Reads (new_file 2 es) k es) (sym c.in-Ok.ensures.gate) (reads_front (new_front 2 es) es (front_two es) (are_entries es c.requires)) in
    new_holds _ _ c.in-Ok.gate es (new_file 2 es) c.lay_out_entries.ensures.told c.in-Ok.ensures.ok reads

pub returns-in-Ok-clause-found : goal.returns-in-Ok-clause-found
returns-in-Ok-clause-found g c = λ image is.
    let es = c.args.entries.now in
    let reads = subst (λ (k : ℕ). Reads (new_file 2 es) k es) (sym c.in-Ok.ensures.gate) (reads_front (new_front 2 es) es (front_two es) (are_entries es c.requires)) in
    reads_opened c.in-Ok.gate es image (new_reads _ _ c.in-Ok.gate es (new_file 2 es) c.lay_out_entries.ensures.told c.in-Ok.ensures.ok reads image (c.in-Ok.ensures.durable image is))
