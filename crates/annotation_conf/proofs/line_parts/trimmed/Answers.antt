use Rattle.std.proofs.Common.{arith, sym}
use Rattle.std.proofs.lemmas.Grind.{common_steps}
use Rattle.annotation_conf.proofs.FileParts.{skip_leading_whitespace-is, skip_leading_whitespace-none}
use Rattle.annotation_conf.proofs.line_parts.trimmed.Goals as goal

pub returns-in-Some : goal.returns-in-Some
returns-in-Some c = rw skip_leading_whitespace-is (grind (arith, common_steps))

pub returns-in-None : goal.returns-in-None
returns-in-None c = sym (skip_leading_whitespace-none c.args.characters.now c.in-None.ensures)
