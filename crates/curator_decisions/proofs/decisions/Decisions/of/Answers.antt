use Rattle.std.proofs.Common.{◌≡◌, ◌<◌, ℕ, Bool, false, get_or, length, map, is_some, List, Some, None, sym, ap, ◌∙◌}
use Rattle.std.specs.List.{list_all}
use Rattle.unanimous_merge.specs.Readings.{readings}
use Rattle.curator_decisions.specs.DecisionFaults.{decision_fault, layer_fault}
use Rattle.curator_decisions.specs.Decisions.{Decided}
use Rattle.curator_decisions.specs.Naming.{entry_as, is_needed_at, lacked_at, named_at}
use Rattle.curator_decisions.proofs.DecideLemmas.{of_none, of_some, told}
use Rattle.curator_decisions.proofs.decisions.Decisions.of.Goals as goal

pub returns-then-not-whole-clause-refused : goal.returns-then-not-whole-clause-refused
returns-then-not-whole-clause-refused c =
    of_none c.args.conf.now (length c.args.doc.now) c.args.snapshot.now c.in_ok-comparison.comparison.merged c.in_ok-comparison.ensures.merged c.args.pairs.now
    (ap (λ es. list_all (λ one. is_some (entry_as es one.0)) c.args.pairs.now) (sym c.as_slice.ensures.value) ∙ sym c.in_ok-whole.ensures ∙ c.if-not-whole.true)

pub returns-in-Some-clause-refused : goal.returns-in-Some-clause-refused
returns-in-Some-clause-refused c =
    let snapshot = c.args.snapshot.now in
    let merged = c.in_ok-comparison.comparison.merged in
    let pairs = c.args.pairs.now in
    let marks : List (List Bool) = map (λ row. row.items) merged.marks.items in
    let all = c.in_ok-comparison.comparison.places.items in
    let places = c.in_ok-comparison.ensures.places in
    let items = ap (λ es. list_all (λ one. is_some (entry_as es one.0)) pairs) (sym c.as_slice.ensures.value) ∙ sym c.in_ok-whole.ensures ∙ c.if-not-whole.false in
    let flagged : (q : ℕ) → q < length merged.table → get_or c.in_ok-flags.flags.items q false ≡ is_needed_at (named_at snapshot all) marks pairs merged.firsts.items q =
    λ q h. c.in_ok-flags.ensures q h ∙ (λ i. is_needed_at (named_at snapshot (c.as_slice-places.ensures.value i)) marks (c.in_ok-decisions.ensures i) merged.firsts.items q) in
    of_some c.args.conf.now (length c.args.doc.now) snapshot merged c.in_ok-comparison.ensures.merged pairs items all places c.in_ok-flags.flags.items flagged (Some c.in-Some.other)
    (c.in-Some.ensures ∙ (λ i. lacked_at (c.as_slice-2.ensures.value i) marks (c.in_ok-decisions.ensures i) merged.firsts.items))

pub returns-in-Some-2-clause-refused : goal.returns-in-Some-2-clause-refused
returns-in-Some-2-clause-refused c =
    let snapshot = c.args.snapshot.now in
    let merged = c.in_ok-comparison.comparison.merged in
    let pairs = c.args.pairs.now in
    let marks : List (List Bool) = map (λ row. row.items) merged.marks.items in
    let all = c.in_ok-comparison.comparison.places.items in
    let places = c.in_ok-comparison.ensures.places in
    let items = ap (λ es. list_all (λ one. is_some (entry_as es one.0)) pairs) (sym c.as_slice.ensures.value) ∙ sym c.in_ok-whole.ensures ∙ c.if-not-whole.false in
    let flagged : (q : ℕ) → q < length merged.table → get_or c.in_ok-flags.flags.items q false ≡ is_needed_at (named_at snapshot all) marks pairs merged.firsts.items q =
    λ q h. c.in_ok-flags.ensures q h ∙ (λ i. is_needed_at (named_at snapshot (c.as_slice-places.ensures.value i)) marks (c.in_ok-decisions.ensures i) merged.firsts.items q) in
    told (decision_fault c.args.conf.now (length c.args.doc.now) (readings snapshot) pairs) c.in-Some-2.fault
    (of_some c.args.conf.now (length c.args.doc.now) snapshot merged c.in_ok-comparison.ensures.merged pairs items all places c.in_ok-flags.flags.items flagged None
    (c.in_default.ensures ∙ (λ i. lacked_at (c.as_slice-2.ensures.value i) marks (c.in_ok-decisions.ensures i) merged.firsts.items))
    ∙ ap (λ (d : Decided). layer_fault c.args.conf.now (length c.args.doc.now) (readings snapshot) d) (sym c.in_ok-decisions.ensures) ∙ sym c.in_ok-fault.ensures.fault ∙ c.in-Some-2.is)

pub returns-clause-accepted : goal.returns-clause-accepted
returns-clause-accepted c =
    let snapshot = c.args.snapshot.now in
    let merged = c.in_ok-comparison.comparison.merged in
    let pairs = c.args.pairs.now in
    let marks : List (List Bool) = map (λ row. row.items) merged.marks.items in
    let all = c.in_ok-comparison.comparison.places.items in
    let places = c.in_ok-comparison.ensures.places in
    let items = ap (λ es. list_all (λ one. is_some (entry_as es one.0)) pairs) (sym c.as_slice.ensures.value) ∙ sym c.in_ok-whole.ensures ∙ c.if-not-whole.false in
    let flagged : (q : ℕ) → q < length merged.table → get_or c.in_ok-flags.flags.items q false ≡ is_needed_at (named_at snapshot all) marks pairs merged.firsts.items q =
    λ q h. c.in_ok-flags.ensures q h ∙ (λ i. is_needed_at (named_at snapshot (c.as_slice-places.ensures.value i)) marks (c.in_ok-decisions.ensures i) merged.firsts.items q) in
    of_some c.args.conf.now (length c.args.doc.now) snapshot merged c.in_ok-comparison.ensures.merged pairs items all places c.in_ok-flags.flags.items flagged None
    (c.in_default.ensures ∙ (λ i. lacked_at (c.as_slice-2.ensures.value i) marks (c.in_ok-decisions.ensures i) merged.firsts.items))
    ∙ ap (λ (d : Decided). layer_fault c.args.conf.now (length c.args.doc.now) (readings snapshot) d) (sym c.in_ok-decisions.ensures) ∙ sym c.in_ok-fault.ensures.fault ∙ c.in_default-2.is
