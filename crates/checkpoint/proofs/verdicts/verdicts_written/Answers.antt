use Rattle.std.proofs.Common.{◌∙◌, ◌++◌, List, ℕ, ap, sym, append_assoc, length, take}
use Rattle.std.specs.List.{flat_map}
use Rattle.entry_bytes.specs.Fields.{u32_bytes}
use Rattle.project_machine.specs.Entries.{verdict_bytes}
use Rattle.checkpoint.proofs.VerdictLemmas.{flat_next}
use Rattle.checkpoint.proofs.verdicts.verdicts_written.Goals as goal

pub loop-place-preserved : goal.loop-place-preserved
loop-place-preserved c =
    let all = c.args.decisions.now in
    let k = c.loop-place.place in
    c.in_ok-put_verdict-in-Some.ensures
    ∙ (ap (λ (b : List ℕ). b ++ verdict_bytes c.in-Some.pair) c.loop-place.invariant
    ∙ (append_assoc (u32_bytes (length all)) (flat_map verdict_bytes (take k all)) (verdict_bytes c.in-Some.pair)
    ∙ ap (λ (b : List ℕ). u32_bytes (length all) ++ b) (sym (flat_next verdict_bytes all k c.in-Some.pair (sym c.at.ensures ∙ c.in-Some.is)))))
