use Rattle.layer_core.proofs.command_rules.own_rule.Goals as goal

pub returns-in-AddSpan : goal.returns-in-AddSpan
returns-in-AddSpan c = rw c.in-AddSpan.is (c.add_span.ensures c.in-AddSpan.frags)

pub returns-in-MoveSpan : goal.returns-in-MoveSpan
returns-in-MoveSpan c = rw c.in-MoveSpan.is (c.move_span.ensures c.args.conf.now c.in-MoveSpan.frags)

pub returns-in-AddRelation : goal.returns-in-AddRelation
returns-in-AddRelation c = rw c.in-AddRelation.is c.add_relation.ensures

pub returns-in-ClearAttribute : goal.returns-in-ClearAttribute
returns-in-ClearAttribute c = rw c.in-ClearAttribute.is (c.clear_attribute.ensures c.args.conf.now)

pub returns-in-SetNote : goal.returns-in-SetNote
returns-in-SetNote c = rw c.in-SetNote.is (c.set_note.ensures c.args.conf.now c.in-SetNote.text)

pub returns-in-SetReference : goal.returns-in-SetReference
returns-in-SetReference c = rw (c.in-SetReference.is, ← c.text.ensures, ← c.text-in-SetReference.ensures) (c.set_reference.ensures c.args.conf.now c.in-SetReference.text)

pub returns-in-Delete : goal.returns-in-Delete
returns-in-Delete c = rw c.in-Delete.is (c.delete.ensures c.args.conf.now)
