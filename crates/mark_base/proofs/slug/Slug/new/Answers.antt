use Rattle.mark_base.proofs.NameLemmas.{bad_in_slug_bound}
use Rattle.mark_base.proofs.slug.Slug.new.Goals as goal

pub spelling_fault-requires : goal.spelling_fault-requires
spelling_fault-requires c = rw c.bad_in_slug.ensures (bad_in_slug_bound c.args.text.now)
