-- Each row is computed.
use Rattle.std.proofs.Common.{refl}
use Rattle.content_keys.specs.Numbers.{listed, paired}
use Rattle.content_keys.specs.Nodes.{number}
use Rattle.content_keys.specs.Contents.{content}
use Rattle.content_keys.proofs.worked_rows.examples_of_contents.Goals as goal

pub returns-clause-a_span : goal.returns-clause-a_span
unfolding content number listed paired
returns-clause-a_span c = refl

pub returns-clause-another_span : goal.returns-clause-another_span
unfolding content number listed paired
returns-clause-another_span c = refl

pub returns-clause-an_event_in_another_order : goal.returns-clause-an_event_in_another_order
unfolding content number listed paired
returns-clause-an_event_in_another_order c = refl

pub returns-clause-an_argument_more : goal.returns-clause-an_argument_more
unfolding content number listed paired
returns-clause-an_argument_more c = refl

pub returns-clause-letters_alike : goal.returns-clause-letters_alike
unfolding content number listed paired
returns-clause-letters_alike c = refl

pub returns-clause-another_text : goal.returns-clause-another_text
unfolding content number listed paired
returns-clause-another_text c = refl
