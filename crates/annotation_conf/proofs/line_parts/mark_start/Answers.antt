use Rattle.annotation_conf.proofs.FileParts.{position-none}
use Rattle.annotation_conf.proofs.line_parts.mark_start.Goals as goal

pub returns-in-None : goal.returns-in-None
returns-in-None c = position-none _ _ c.in-None.ensures
