-- Each line is computed.
use Rattle.std.proofs.Common.{refl}
use Rattle.content_keys.specs.Numbers.{listed, paired}
use Rattle.content_keys.specs.Nodes.{number}
use Rattle.content_keys.specs.Contents.{content}
use Rattle.match_scores.specs.declared.sort.Sort.TheVariants.{Spans, Events, Relations}
use Rattle.match_scores.specs.Matches.{stands_in, count_shared, count_alone, matched}
use Rattle.match_scores.specs.Standing.{total_of}
use Rattle.match_scores.proofs.WorkedLemmas.{line_is}
use Rattle.match_scores.proofs.worked_rows.worked_lines.Goals as goal

pub returns-clause-spans : goal.returns-clause-spans
unfolding content number listed paired stands_in count_shared count_alone
returns-clause-spans c = line_is Spans

pub returns-clause-events : goal.returns-clause-events
unfolding content number listed paired stands_in count_shared count_alone
returns-clause-events c = line_is Events

pub returns-clause-relations : goal.returns-clause-relations
unfolding content number listed paired stands_in count_shared count_alone
returns-clause-relations c = line_is Relations

pub returns-clause-spans_without_a_layer : goal.returns-clause-spans_without_a_layer
unfolding matched total_of
returns-clause-spans_without_a_layer c = refl

pub returns-clause-events_without_a_layer : goal.returns-clause-events_without_a_layer
unfolding matched total_of
returns-clause-events_without_a_layer c = refl

pub returns-clause-posted_again : goal.returns-clause-posted_again
unfolding matched total_of
returns-clause-posted_again c = refl

pub returns-clause-withdrawn : goal.returns-clause-withdrawn
unfolding matched total_of
returns-clause-withdrawn c = refl
