use Rattle.std.proofs.Common.{sym, ◌∙◌}
use Rattle.project_journal.proofs.Creations.{all_entries}
use Rattle.project_journal.proofs.Opens.{reads_settled, reads_opened, opens_kept}
use Rattle.project_journal.proofs.Sound.{refused_so}
use Rattle.project_journal.proofs.journal.Journal.open.Goals as goal

pub invariant_of-result : goal.invariant_of-result
invariant_of-result g c = record {
  small = c.in-Ok.ensures.small;
  settled = λ f is. reads_settled _ _ _ _ f (g.met.D.Disk.read_is_image _ f is) c.in-Ok.ensures.durable is (c.in-Ok.ensures.ok f (sym c.in-Ok.ensures.holds ∙ is));
}

pub returns-in-Ok-clause-entries : goal.returns-in-Ok-clause-entries
returns-in-Ok-clause-entries g c = λ f is. reads_opened _ _ f (c.in-Ok.ensures.ok f is)

pub returns-in-Ok-clause-kept : goal.returns-in-Ok-clause-kept
returns-in-Ok-clause-kept g c = opens_kept _ _ _ _ c.in-Ok.ensures.holds c.in-Ok.ensures.ok

pub returns-in-Err-clause-sound : goal.returns-in-Err-clause-sound
returns-in-Err-clause-sound g c = λ file entries is opens. refused_so file entries _ opens (c.in-Err.ensures.err file is)

pub returns-in-Ok-clause-after_stop : goal.returns-in-Ok-clause-after_stop
returns-in-Ok-clause-after_stop g c = λ stopped t image left is. (image, left, reads_opened _ _ image (c.in-Ok.ensures.ok image is))

pub returns-in-Ok-clause-found : goal.returns-in-Ok-clause-found
returns-in-Ok-clause-found g c = λ image is. reads_opened _ _ image (c.in-Ok.ensures.ok image (sym c.in-Ok.ensures.holds ∙ c.in-Ok.ensures.durable image is))

pub returns-in-Ok-clause-sized : goal.returns-in-Ok-clause-sized
returns-in-Ok-clause-sized g c = all_entries _ c.in-Ok.ensures.sized
