use Rattle.std.proofs.Common.{refl}
use Rattle.ann_reader.specs.Lines.{lines_of}
use Rattle.ann_reader.specs.LineForms.{form_of}
use Rattle.ann_reader.proofs.worked_rows.examples_of_lines.Goals as goal

pub returns-clause-lines : goal.returns-clause-lines
unfolding lines_of
returns-clause-lines c = refl

pub returns-clause-no_lines : goal.returns-clause-no_lines
unfolding lines_of
returns-clause-no_lines c = refl

pub returns-clause-discontinuous : goal.returns-clause-discontinuous
unfolding form_of
returns-clause-discontinuous c = refl

pub returns-clause-one_return : goal.returns-clause-one_return
unfolding form_of
returns-clause-one_return c = refl

pub returns-clause-tab_in_text : goal.returns-clause-tab_in_text
unfolding form_of
returns-clause-tab_in_text c = refl

pub returns-clause-leading_zero : goal.returns-clause-leading_zero
unfolding form_of
returns-clause-leading_zero c = refl

pub returns-clause-no_text : goal.returns-clause-no_text
unfolding form_of
returns-clause-no_text c = refl

pub returns-clause-event : goal.returns-clause-event
unfolding form_of
returns-clause-event c = refl

pub returns-clause-relation : goal.returns-clause-relation
unfolding form_of
returns-clause-relation c = refl

pub returns-clause-class : goal.returns-clause-class
unfolding form_of
returns-clause-class c = refl

pub returns-clause-no_third_field : goal.returns-clause-no_third_field
unfolding form_of
returns-clause-no_third_field c = refl
