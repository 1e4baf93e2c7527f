use Rattle.std.proofs.Common.{◌≡◌, length, option_map, subst, None, Some, sym, ap, ◌∙◌}
use Rattle.std.specs.Option.{option_or}
use Rattle.unanimous_merge.specs.Items.{Held}
use Rattle.unanimous_merge.specs.Readings.{readings}
use Rattle.unanimous_merge.specs.Rows.{held_at}
use Rattle.curator_decisions.specs.Clashes.{JudgesItem}
use Rattle.curator_decisions.specs.DecisionFaults.{changed_fault, decide_fault, lacking}
use Rattle.curator_decisions.specs.Decisions.{Decided, held_as, with_verdict}
use Rattle.curator_decisions.specs.Naming.{entry_as}
use Rattle.curator_decisions.proofs.DecideLemmas.{decide_none, decide_some, told}
use Rattle.curator_decisions.proofs.NamingLemmas.{found_good, held_is}
use Rattle.curator_decisions.proofs.StepLemmas.{finished}
use Rattle.curator_decisions.proofs.decisions.Decisions.decide_by.Goals as goal

pub returns-in_default-clause-refused : goal.returns-in_default-clause-refused
returns-in_default-clause-refused c =
    decide_none c.args.conf.now (length c.args.doc.now) c.args.snapshot.now c.args.comparison.now.merged c.requires.compared.merged c.args.self.now c.args.item c.args.verdict (c.in_default.ensures ∙ ap (λ es. entry_as es c.args.item) c.as_slice.ensures.value)

pub returns-in-Some-verdict_fault-clause-refused : goal.returns-in-Some-verdict_fault-clause-refused
returns-in-Some-verdict_fault-clause-refused c =
    let conf = c.args.conf.now in
    let n = length c.args.doc.now in
    let snapshot = c.args.snapshot.now in
    let merged = c.args.comparison.now.merged in
    let after = with_verdict c.args.self.now c.args.item c.args.verdict in
    told (decide_fault conf n (readings snapshot) c.args.self.now c.args.item c.args.verdict) c.in-Some-verdict_fault.fault
    (decide_some conf n snapshot merged c.requires.compared.merged c.args.self.now c.args.item c.args.verdict c.in-Some.entry (c.in-Some.ensures ∙ ap (λ es. entry_as es c.args.item) c.as_slice.ensures.value) c.is_in.result c.is_in.ensures
    ∙ ap (λ o. option_or o (changed_fault conf n (readings snapshot) after (held_at merged.table c.in-Some.entry))) (sym c.in-Some-verdict_fault.ensures))

pub stepped_fault-requires-clause-entry : goal.stepped_fault-requires-clause-entry
stepped_fault-requires-clause-entry c =
    found_good c.args.snapshot.now c.args.comparison.now.merged c.requires.compared.merged c.args.item c.in-Some.entry (sym (c.in-Some.ensures ∙ ap (λ es. entry_as es c.args.item) c.as_slice.ensures.value))

pub stepped_fault-requires-clause-judged : goal.stepped_fault-requires-clause-judged
stepped_fault-requires-clause-judged c =
    let conf = c.args.conf.now in
    let n = length c.args.doc.now in
    let snapshot = c.args.snapshot.now in
    let merged = c.args.comparison.now.merged in
    let held : Held = held_at merged.table c.in-Some.entry in
    let after = with_verdict c.args.self.now c.args.item c.args.verdict in
    let is : c.set.new.self ≡ after = c.in_ok-set.ensures.ok ∙ ap (λ (d : Decided). with_verdict d c.args.item c.args.verdict) c.in_ok-changed.ensures in
    let named : held_as (readings snapshot) c.args.item ≡ Some held =
    held_is snapshot merged c.requires.compared.merged c.args.item ∙ ap (option_map (held_at merged.table)) (sym (c.in-Some.ensures ∙ ap (λ es. entry_as es c.args.item) c.as_slice.ensures.value)) in
    let Judges : Decided → Type 0 = λ d. lacking (readings snapshot) d held ≡ None → JudgesItem conf n snapshot d held in
    subst Judges (sym is) (c.decisions_are_judged_by_items.ensures.decide conf n snapshot c.args.self.now c.args.item c.args.verdict held (finished conf n snapshot c.args.comparison.now c.requires.compared c.count-holders.ensures.kept c.requires.obey) c.requires.stand named)

pub returns-in-Some-2-clause-refused : goal.returns-in-Some-2-clause-refused
returns-in-Some-2-clause-refused c =
    let conf = c.args.conf.now in
    let n = length c.args.doc.now in
    let snapshot = c.args.snapshot.now in
    let merged = c.args.comparison.now.merged in
    let after = with_verdict c.args.self.now c.args.item c.args.verdict in
    let is : c.set.new.self ≡ after = c.in_ok-set.ensures.ok ∙ ap (λ (d : Decided). with_verdict d c.args.item c.args.verdict) c.in_ok-changed.ensures in
    told (decide_fault conf n (readings snapshot) c.args.self.now c.args.item c.args.verdict) c.in-Some-2.fault
    (decide_some conf n snapshot merged c.requires.compared.merged c.args.self.now c.args.item c.args.verdict c.in-Some.entry (c.in-Some.ensures ∙ ap (λ es. entry_as es c.args.item) c.as_slice.ensures.value) c.is_in.result c.is_in.ensures
    ∙ ap (λ o. option_or o (changed_fault conf n (readings snapshot) after (held_at merged.table c.in-Some.entry))) (sym c.in_default-verdict_fault.ensures)
    ∙ ap (λ (d : Decided). changed_fault conf n (readings snapshot) d (held_at merged.table c.in-Some.entry)) (sym is) ∙ sym c.in_ok-fault.ensures.fault ∙ c.in-Some-2.is)

pub returns-clause-decided : goal.returns-clause-decided
returns-clause-decided c = c.in_ok-set.ensures.ok ∙ ap (λ (d : Decided). with_verdict d c.args.item c.args.verdict) c.in_ok-changed.ensures

pub returns-clause-accepted : goal.returns-clause-accepted
returns-clause-accepted c =
    let conf = c.args.conf.now in
    let n = length c.args.doc.now in
    let snapshot = c.args.snapshot.now in
    let merged = c.args.comparison.now.merged in
    let after = with_verdict c.args.self.now c.args.item c.args.verdict in
    let is : c.set.new.self ≡ after = c.in_ok-set.ensures.ok ∙ ap (λ (d : Decided). with_verdict d c.args.item c.args.verdict) c.in_ok-changed.ensures in
    decide_some conf n snapshot merged c.requires.compared.merged c.args.self.now c.args.item c.args.verdict c.in-Some.entry (c.in-Some.ensures ∙ ap (λ es. entry_as es c.args.item) c.as_slice.ensures.value) c.is_in.result c.is_in.ensures
    ∙ ap (λ o. option_or o (changed_fault conf n (readings snapshot) after (held_at merged.table c.in-Some.entry))) (sym c.in_default-verdict_fault.ensures)
    ∙ ap (λ (d : Decided). changed_fault conf n (readings snapshot) d (held_at merged.table c.in-Some.entry)) (sym is) ∙ sym c.in_ok-fault.ensures.fault ∙ c.in_default-2.is

pub returns-clause-obeys : goal.returns-clause-obeys
returns-clause-obeys c = c.in_ok-fault.ensures.obeys c.in_default-2.is
