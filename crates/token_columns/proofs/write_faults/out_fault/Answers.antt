use Rattle.std.proofs.Common.{◌∙◌, sym}
use Rattle.token_columns.proofs.OrderLemmas.{ordered_clean}
use Rattle.token_columns.proofs.OutLemmas.{first_told, second_told, third_told, fourth_told, fifth_told, sixth_told, none_of}
use Rattle.token_columns.proofs.write_faults.out_fault.Goals as goal

pub returns-in-Some : goal.returns-in-Some
returns-in-Some c = sym (first_told c.args.doc.now c.args.layer.now c.in-Some.fault (sym c.in_ok-fault.ensures ∙ c.in-Some.is))

pub returns-in-Some-class_there : goal.returns-in-Some-class_there
returns-in-Some-class_there c =
    sym (second_told c.args.doc.now c.args.layer.now c.in-Some-class_there.fault (sym c.in_ok-fault.ensures ∙ none_of _ c.in_default.not-Some) (sym c.class_there.ensures ∙ c.in-Some-class_there.is))

pub returns-in-Some-fragmented : goal.returns-in-Some-fragmented
returns-in-Some-fragmented c =
    sym (third_told c.args.doc.now c.args.layer.now c.args.spans.now c.in-Some-fragmented.fault c.requires.spans (sym c.in_ok-fault.ensures ∙ none_of _ c.in_default.not-Some)
    (sym c.class_there.ensures ∙ none_of _ c.in_default-class_there.not-Some) (sym c.fragmented.ensures ∙ c.in-Some-fragmented.is))

pub returns-in-Some-missed : goal.returns-in-Some-missed
returns-in-Some-missed c =
    sym (fourth_told c.args.doc.now c.args.layer.now c.args.spans.now c.in-Some-missed.fault c.requires.spans (sym c.in_ok-fault.ensures ∙ none_of _ c.in_default.not-Some)
    (sym c.class_there.ensures ∙ none_of _ c.in_default-class_there.not-Some) (sym c.fragmented.ensures ∙ none_of _ c.in_default-fragmented.not-Some) (sym c.in_ok-missed.ensures ∙ c.in-Some-missed.is))

pub returns-then-is_ordered : goal.returns-then-is_ordered
returns-then-is_ordered c =
    sym (ordered_clean c.args.doc.now c.args.layer.now c.args.spans.now c.requires.spans (sym c.in_ok-fault.ensures ∙ none_of _ c.in_default.not-Some)
    (sym c.class_there.ensures ∙ none_of _ c.in_default-class_there.not-Some) (sym c.fragmented.ensures ∙ none_of _ c.in_default-fragmented.not-Some) (sym c.in_ok-missed.ensures ∙ none_of _ c.in_default-missed.not-Some)
    (sym c.is_ordered.ensures ∙ c.if-is_ordered.true))

pub returns-in-Some-met : goal.returns-in-Some-met
returns-in-Some-met c =
    sym (fifth_told c.args.conf.now c.args.doc.now c.args.layer.now c.args.spans.now c.in-Some-met.fault c.keeps.ensures c.requires.well c.requires.spans (sym c.in_ok-fault.ensures ∙ none_of _ c.in_default.not-Some)
    (sym c.class_there.ensures ∙ none_of _ c.in_default-class_there.not-Some) (sym c.fragmented.ensures ∙ none_of _ c.in_default-fragmented.not-Some) (sym c.in_ok-missed.ensures ∙ none_of _ c.in_default-missed.not-Some)
    (sym c.met.ensures ∙ c.in-Some-met.is))

pub returns : goal.returns
returns c =
    c.misnumbered.ensures
    ∙ sym (sixth_told c.args.conf.now c.args.doc.now c.args.layer.now c.args.spans.now c.keeps.ensures c.requires.well c.requires.spans (sym c.in_ok-fault.ensures ∙ none_of _ c.in_default.not-Some)
    (sym c.class_there.ensures ∙ none_of _ c.in_default-class_there.not-Some) (sym c.fragmented.ensures ∙ none_of _ c.in_default-fragmented.not-Some) (sym c.in_ok-missed.ensures ∙ none_of _ c.in_default-missed.not-Some)
    (sym c.met.ensures ∙ none_of _ c.in_default-met.not-Some))
