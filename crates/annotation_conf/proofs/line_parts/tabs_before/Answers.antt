use Rattle.annotation_conf.proofs.FileParts.{position-none}
use Rattle.annotation_conf.proofs.line_parts.tabs_before.Goals as goal

pub returns-in-None-clause-count : goal.returns-in-None-clause-count
returns-in-None-clause-count c = position-none _ _ c.in-None.ensures
