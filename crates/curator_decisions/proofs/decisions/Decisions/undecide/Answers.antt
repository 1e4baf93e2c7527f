use Rattle.std.proofs.Common.{◌≡◌, length, not, sym, ap, ◌∙◌}
use Rattle.std.specs.Option.{option_or}
use Rattle.unanimous_merge.specs.Readings.{readings}
use Rattle.unanimous_merge.specs.Rows.{held_at}
use Rattle.curator_decisions.specs.DecisionFaults.{changed_fault, undecide_fault, undecided_fault}
use Rattle.curator_decisions.specs.Decisions.{Decided, without_verdict}
use Rattle.curator_decisions.specs.Naming.{entry_as}
use Rattle.curator_decisions.proofs.DecideLemmas.{told, undecide_none, undecide_some, undecided_free, undecided_taken}
use Rattle.curator_decisions.proofs.NamingLemmas.{found_good}
use Rattle.curator_decisions.proofs.decisions.Decisions.undecide.Goals as goal

pub returns-in_default-clause-refused : goal.returns-in_default-clause-refused
returns-in_default-clause-refused c =
    undecide_none c.args.conf.now (length c.args.doc.now) c.args.snapshot.now c.in_ok-comparison.comparison.merged c.in_ok-comparison.ensures.merged c.args.self.now c.args.item (c.in_default.ensures ∙ ap (λ es. entry_as es c.args.item) c.as_slice.ensures.value)

pub returns-then-is_none-clause-refused : goal.returns-then-is_none-clause-refused
returns-then-is_none-clause-refused c =
    let conf = c.args.conf.now in
    let n = length c.args.doc.now in
    let snapshot = c.args.snapshot.now in
    let merged = c.in_ok-comparison.comparison.merged in
    let after = without_verdict c.args.self.now c.args.item in
    undecide_some conf n snapshot merged c.in_ok-comparison.ensures.merged c.args.self.now c.args.item c.in-Some.entry (c.in-Some.ensures ∙ ap (λ es. entry_as es c.args.item) c.as_slice.ensures.value)
    ∙ ap (λ o. option_or o (changed_fault conf n (readings snapshot) after (held_at merged.table c.in-Some.entry))) (ap undecided_fault (sym c.verdict.ensures) ∙ undecided_free c.verdict.result (c.is_none.ensures ∙ ap not c.if-is_none.true))

pub changed_fault-requires-clause-entry : goal.changed_fault-requires-clause-entry
changed_fault-requires-clause-entry c =
    found_good c.args.snapshot.now c.in_ok-comparison.comparison.merged c.in_ok-comparison.ensures.merged c.args.item c.in-Some.entry (sym (c.in-Some.ensures ∙ ap (λ es. entry_as es c.args.item) c.as_slice.ensures.value))

pub returns-in-Some-2-clause-refused : goal.returns-in-Some-2-clause-refused
returns-in-Some-2-clause-refused c =
    let conf = c.args.conf.now in
    let n = length c.args.doc.now in
    let snapshot = c.args.snapshot.now in
    let merged = c.in_ok-comparison.comparison.merged in
    let after = without_verdict c.args.self.now c.args.item in
    let is : c.unset.new.self ≡ after = c.unset.ensures ∙ ap (λ (d : Decided). without_verdict d c.args.item) c.in_ok-changed.ensures in
    told (undecide_fault conf n (readings snapshot) c.args.self.now c.args.item) c.in-Some-2.fault
    (undecide_some conf n snapshot merged c.in_ok-comparison.ensures.merged c.args.self.now c.args.item c.in-Some.entry (c.in-Some.ensures ∙ ap (λ es. entry_as es c.args.item) c.as_slice.ensures.value)
    ∙ ap (λ o. option_or o (changed_fault conf n (readings snapshot) after (held_at merged.table c.in-Some.entry))) (ap undecided_fault (sym c.verdict.ensures) ∙ undecided_taken c.verdict.result (c.is_none.ensures ∙ ap not c.if-is_none.false))
    ∙ ap (λ (d : Decided). changed_fault conf n (readings snapshot) d (held_at merged.table c.in-Some.entry)) (sym is) ∙ sym c.in_ok-fault.ensures.fault ∙ c.in-Some-2.is)

pub returns-clause-decided : goal.returns-clause-decided
returns-clause-decided c = c.unset.ensures ∙ ap (λ (d : Decided). without_verdict d c.args.item) c.in_ok-changed.ensures

pub returns-clause-accepted : goal.returns-clause-accepted
returns-clause-accepted c =
    let conf = c.args.conf.now in
    let n = length c.args.doc.now in
    let snapshot = c.args.snapshot.now in
    let merged = c.in_ok-comparison.comparison.merged in
    let after = without_verdict c.args.self.now c.args.item in
    let is : c.unset.new.self ≡ after = c.unset.ensures ∙ ap (λ (d : Decided). without_verdict d c.args.item) c.in_ok-changed.ensures in
    undecide_some conf n snapshot merged c.in_ok-comparison.ensures.merged c.args.self.now c.args.item c.in-Some.entry (c.in-Some.ensures ∙ ap (λ es. entry_as es c.args.item) c.as_slice.ensures.value)
    ∙ ap (λ o. option_or o (changed_fault conf n (readings snapshot) after (held_at merged.table c.in-Some.entry))) (ap undecided_fault (sym c.verdict.ensures) ∙ undecided_taken c.verdict.result (c.is_none.ensures ∙ ap not c.if-is_none.false))
    ∙ ap (λ (d : Decided). changed_fault conf n (readings snapshot) d (held_at merged.table c.in-Some.entry)) (sym is) ∙ sym c.in_ok-fault.ensures.fault ∙ c.in_default-2.is

pub returns-clause-obeys : goal.returns-clause-obeys
returns-clause-obeys c = c.in_ok-fault.ensures.obeys c.in_default-2.is
