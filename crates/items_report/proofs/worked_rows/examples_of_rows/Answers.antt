-- Each row is computed.
use Rattle.std.proofs.Common.{refl}
use Rattle.std.specs.Fmt.{digits}
use Rattle.csv.specs.Writing.{escaped, fields_text, is_blank}
use Rattle.items_report.proofs.worked_rows.examples_of_rows.Goals as goal

pub returns-clause-no_items : goal.returns-clause-no_items
unfolding fields_text is_blank
returns-clause-no_items c conf text = refl

pub returns-clause-unanimous : goal.returns-clause-unanimous
unfolding digits escaped fields_text is_blank
returns-clause-unanimous c = refl

pub returns-clause-undecided : goal.returns-clause-undecided
unfolding digits escaped fields_text is_blank
returns-clause-undecided c = refl

pub returns-clause-accepted : goal.returns-clause-accepted
unfolding digits escaped fields_text is_blank
returns-clause-accepted c = refl

pub returns-clause-rejected : goal.returns-clause-rejected
unfolding digits escaped fields_text is_blank
returns-clause-rejected c = refl

pub returns-clause-quoted : goal.returns-clause-quoted
unfolding digits escaped fields_text is_blank
returns-clause-quoted c = refl
