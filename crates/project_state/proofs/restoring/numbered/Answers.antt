use Rattle.std.proofs.Common.{◌∙◌, arith, sym}
use Rattle.project_state.proofs.RestoringLemmas.{all_numbered, named_twice, numbered_differ, one_numbered}
use Rattle.project_state.proofs.restoring.numbered.Goals as goal

pub returns-then-contains_key-clause-refused : goal.returns-then-contains_key-clause-refused
returns-then-contains_key-clause-refused c =
    named_twice c.args.documents.now c.loop-number.number c.loop-number.numbers.entries c.index-documents-number.result c.name-name.result.now c.loop-number.invariant (omega arith) c.index-documents-number.is c.name-name.ensures
    (sym c.contains_key.ensures ∙ c.if-contains_key.true)

pub loop-number-preserved : goal.loop-number-preserved
loop-number-preserved c =
    one_numbered c.args.documents.now c.loop-number.number c.loop-number.numbers.entries c.put_number.new.numbers.entries c.index-documents-number.result c.name-name.result.now c.loop-number.invariant (omega arith) c.index-documents-number.is c.name-name.ensures
    (sym c.contains_key.ensures ∙ c.if-contains_key.false) c.in_ok-put_number.ensures.there c.in_ok-put_number.ensures.others

pub returns-clause-differ : goal.returns-clause-differ
returns-clause-differ c = numbered_differ c.args.documents.now c.loop-number.numbers.entries (all_numbered c.args.documents.now c.loop-number.number c.loop-number.numbers.entries c.loop-number.invariant (omega arith))
