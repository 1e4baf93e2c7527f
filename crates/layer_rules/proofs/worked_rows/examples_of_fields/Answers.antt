use Rattle.std.proofs.Common.{refl}
use Rattle.std.specs.Str.{chars}
use Rattle.layer_rules.proofs.worked_rows.examples_of_fields.Goals as goal

pub returns-clause-in_order : goal.returns-clause-in_order
returns-clause-in_order c = refl

pub returns-clause-overlapping : goal.returns-clause-overlapping
returns-clause-overlapping c = refl

pub returns-clause-empty_fragment : goal.returns-clause-empty_fragment
returns-clause-empty_fragment c = refl

pub returns-clause-no_fragment : goal.returns-clause-no_fragment
returns-clause-no_fragment c = refl

pub returns-clause-reaches : goal.returns-clause-reaches
returns-clause-reaches c = refl

pub returns-clause-line_feed : goal.returns-clause-line_feed
unfolding chars
returns-clause-line_feed c = refl

pub returns-clause-empty_text : goal.returns-clause-empty_text
unfolding chars
returns-clause-empty_text c = refl

pub returns-clause-colon : goal.returns-clause-colon
unfolding chars
returns-clause-colon c = refl

pub returns-clause-colon_in_entry : goal.returns-clause-colon_in_entry
unfolding chars
returns-clause-colon_in_entry c = refl

pub returns-clause-space_in_entry : goal.returns-clause-space_in_entry
unfolding chars
returns-clause-space_in_entry c = refl

pub returns-clause-empty_entry : goal.returns-clause-empty_entry
unfolding chars
returns-clause-empty_entry c = refl
