use Rattle.std.proofs.Common.{cond, Some, ◌∙◌}
use Rattle.std.specs.Ordering.{nat_cmp}
use Rattle.std.specs.BTreeMap.{get, is_at}
use Rattle.content_keys.specs.Places.{IsOfMark}
use Rattle.content_keys.proofs.EnterLemmas.{right_more}
use Rattle.content_keys.proofs.OnlyLemmas.{added_only}
use Rattle.content_keys.proofs.placed_layer.enter.Goals as goal

pub returns-clause-right : goal.returns-clause-right
returns-clause-right c =
    right_more c.args.layer.now c.args.table.now c.args.places.now c.add.new.self c.args.shape c.in_ok-place.place c.args.id c.requires.right c.is_table.ensures c.requires.may c.in_ok-place.ensures.ok c.requires.number
    c.insert.new.self
    (λ q. c.in_ok-insert.ensures.updates.0 q ∙ (λ i. cond (is_at (nat_cmp (c.rank.ensures i)) q) (Some c.in_ok-place.place) (get nat_cmp c.args.places.now q)))

pub returns-clause-only : goal.returns-clause-only
returns-clause-only c = added_only (IsOfMark c.args.layer.now) c.args.table.now c.args.shape c.add.new.self c.in_ok-place.place c.in_ok-place.ensures.ok (c.args.id, (c.requires.stands, c.requires.number))

pub returns-in_err-insert-clause-only : goal.returns-in_err-insert-clause-only
returns-in_err-insert-clause-only c = added_only (IsOfMark c.args.layer.now) c.args.table.now c.args.shape c.add.new.self c.in_ok-place.place c.in_ok-place.ensures.ok (c.args.id, (c.requires.stands, c.requires.number))
