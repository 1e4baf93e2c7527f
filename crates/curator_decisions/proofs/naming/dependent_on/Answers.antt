use Rattle.std.proofs.Common.{◌≡◌, ◌&&◌, ◌<◌, ◌∙◌, Bool, List, get_or, length, map, ap, sym, subst}
use Rattle.unanimous_merge.specs.declared.entry.Entry.{Entry}
use Rattle.curator_decisions.specs.Naming.{has_place}
use Rattle.curator_decisions.specs.Placing.{is_in_at}
use Rattle.curator_decisions.proofs.DependentLemmas.{goes_on, stops}
use Rattle.curator_decisions.proofs.naming.dependent_on.Goals as goal

pub returns-then-depends : goal.returns-then-depends
returns-then-depends c named are =
    let flags : List (List Bool) = map (λ row. row.items) c.args.merged.now.marks.items in
    let firsts : List Entry = c.args.merged.now.firsts.items in
    let e : Entry = c.index-other.result.now in
    let inside : c.loop-i.i < length firsts = subst (λ n. c.loop-i.i < n) (c.len-i-end.ensures ∙ c.args.merged.now.firsts.ok.0) c.loop-i-test.true in
    let is = c.depends.ensures ∙ ap (λ ps. is_in_at flags c.args.decisions.now e && has_place ps c.args.place) c.as_slice.ensures.value in
    sym (c.loop-i.invariant named are ∙ stops flags c.args.decisions.now c.args.place named firsts c.args.names.now are c.loop-i.i e c.index-names-i.result inside c.index-other.ensures c.index-names-i.is c.depends.result is c.if-depends.true)

pub loop-i-preserved : goal.loop-i-preserved
loop-i-preserved c named are =
    let flags : List (List Bool) = map (λ row. row.items) c.args.merged.now.marks.items in
    let firsts : List Entry = c.args.merged.now.firsts.items in
    let e : Entry = c.index-other.result.now in
    let inside : c.loop-i.i < length firsts = subst (λ n. c.loop-i.i < n) (c.len-i-end.ensures ∙ c.args.merged.now.firsts.ok.0) c.loop-i-test.true in
    let is = c.depends.ensures ∙ ap (λ ps. is_in_at flags c.args.decisions.now e && has_place ps c.args.place) c.as_slice.ensures.value in
    c.loop-i.invariant named are ∙ goes_on flags c.args.decisions.now c.args.place named firsts c.args.names.now are c.loop-i.i e c.index-names-i.result inside c.index-other.ensures c.index-names-i.is c.depends.result is c.if-depends.false
