-- Each row is computed.
use Rattle.std.proofs.Common.{refl}
use Rattle.content_keys.specs.Numbers.{listed, paired}
use Rattle.content_keys.specs.Nodes.{number}
use Rattle.content_keys.specs.Contents.{content}
use Rattle.unanimous_merge.proofs.worked_rows.examples_of_items.Goals as goal

pub returns-clause-items : goal.returns-clause-items
unfolding content number listed paired
returns-clause-items c = refl

pub returns-clause-unanimous : goal.returns-clause-unanimous
unfolding content number listed paired
returns-clause-unanimous c = refl

pub returns-clause-the_other_way : goal.returns-clause-the_other_way
unfolding content number listed paired
returns-clause-the_other_way c = refl

pub returns-clause-a_class : goal.returns-clause-a_class
unfolding content number listed paired
returns-clause-a_class c = refl

pub returns-clause-another_type : goal.returns-clause-another_type
unfolding content number listed paired
returns-clause-another_type c = refl
