use Rattle.items_report.proofs.HeldLines.{lines_there}
use Rattle.items_report.proofs.laws.items_have_lines.Goals as goal

pub returns : goal.returns
returns c = lines_there
