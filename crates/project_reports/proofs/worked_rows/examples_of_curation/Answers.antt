-- Each table is computed.
use Rattle.std.proofs.Common.{refl}
use Rattle.std.specs.Fmt.{digits}
use Rattle.content_keys.specs.Numbers.{listed, paired}
use Rattle.content_keys.specs.Nodes.{number}
use Rattle.content_keys.specs.Contents.{content}
use Rattle.csv.specs.Writing.{escaped, fields_text, is_blank}
use Rattle.project_reports.proofs.worked_rows.examples_of_curation.Goals as goal

pub returns-clause-no_snapshots : goal.returns-clause-no_snapshots
unfolding digits escaped fields_text is_blank content number listed paired
returns-clause-no_snapshots c = refl

pub returns-clause-nothing_decided : goal.returns-clause-nothing_decided
unfolding digits escaped fields_text is_blank content number listed paired
returns-clause-nothing_decided c = refl

pub returns-clause-accepted : goal.returns-clause-accepted
unfolding digits escaped fields_text is_blank content number listed paired
returns-clause-accepted c = refl

pub returns-clause-rejected : goal.returns-clause-rejected
unfolding digits escaped fields_text is_blank content number listed paired
returns-clause-rejected c = refl

pub returns-clause-of_each : goal.returns-clause-of_each
unfolding digits escaped fields_text is_blank content number listed paired
returns-clause-of_each c = refl
