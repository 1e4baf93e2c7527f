use Rattle.std.proofs.Common.{refl}
use Rattle.type_hierarchy.specs.TypeTrees.{is_under}
use Rattle.annotation_conf.specs.WorkedFiles.{meetings, macros}
use Rattle.annotation_conf.proofs.worked_rows.configurations_answer.Goals as goal

pub returns-clause-descendant : goal.returns-clause-descendant
unfolding is_under meetings macros
returns-clause-descendant c = refl

pub returns-clause-no_descendant : goal.returns-clause-no_descendant
unfolding is_under meetings macros
returns-clause-no_descendant c = refl

pub returns-clause-second_line : goal.returns-clause-second_line
unfolding is_under meetings macros
returns-clause-second_line c = refl

pub returns-clause-no_line : goal.returns-clause-no_line
unfolding is_under meetings macros
returns-clause-no_line c = refl

pub returns-clause-on_relations : goal.returns-clause-on_relations
unfolding is_under meetings macros
returns-clause-on_relations c = refl

pub returns-clause-contains : goal.returns-clause-contains
unfolding is_under meetings macros
returns-clause-contains c = refl

pub returns-clause-no_overlap : goal.returns-clause-no_overlap
unfolding is_under meetings macros
returns-clause-no_overlap c = refl

pub returns-clause-category : goal.returns-clause-category
unfolding is_under meetings macros
returns-clause-category c = refl

pub returns-clause-no_category : goal.returns-clause-no_category
unfolding is_under meetings macros
returns-clause-no_category c = refl

pub returns-clause-categories : goal.returns-clause-categories
unfolding is_under meetings macros
returns-clause-categories c = refl
