use Rattle.std.proofs.Common.{◌<◌, Some, length, ap, ◌∙◌, sym, option_map}
use Rattle.std.specs.List.{slice_get}
use borrow.Author.Tests.{ltb-true}
use Rattle.curator_decisions.proofs.TakenLemmas.{got, if_mapped, taken_is}
use Rattle.curator_decisions.proofs.building.taken_mark.Goals as goal

pub returns-clause-mark : goal.returns-clause-mark
returns-clause-mark c =
    let snapshot = c.args.snapshot.now in
    let all = c.args.all.now in
    let holder = c.args.one.entry.item.holder in
    let h : holder < length all = ltb-true holder (length all) (sym c.in-Some-get.ensures.lookup.0) in
    let found = got all holder c.in-Some-get.names.now h c.in-Some-get.ensures.lookup.1 in
    let there = ap Some c.deref.ensures ∙ c.in-Some.ensures ∙ ap (λ i. option_map (λ r. r.1) (slice_get snapshot i)) c.from.ensures in
    if_mapped c.args.one c.in-Some-get.names.now c.deref.result.now c.renamed_mark.result c.renamed_mark.ensures.mark (taken_is snapshot all c.args.one c.deref.result.now c.in-Some-get.names.now there found)
