-- What is read of the bytes of verdicts (private calls only).
use Rattle.std.specs.Prelude.{◌≡◌, ℕ, List, Option, MatchOption}
use Rattle.std.specs.Global.{Vec}
use Rattle.std.specs.List.{flat_map}
use Rattle.command_bytes.specs.CommandBytes.{list_bytes}
use Rattle.unanimous_merge.specs.declared.item.ItemId.{ItemId}
use Rattle.curator_decisions.specs.declared.verdict.Verdict.{Verdict}
use Rattle.project_machine.specs.Entries.{verdict_bytes}

-- what is read of bytes in which verdicts stand one behind another: these verdicts; or there are none so
abbrev pub ReadsPairs : List ℕ → Option (Vec (ItemId × Verdict)) → Type 0
ReadsPairs bytes found = (verdicts : List (ItemId × Verdict)) → bytes ≡ flat_map verdict_bytes verdicts → MatchOption found ⊥ (λ read. read.items ≡ verdicts)

-- what is read of the bytes of verdicts: those whose bytes they are; or they are those of none
abbrev pub ReadsVerdicts : List ℕ → Option (Vec (ItemId × Verdict)) → Type 0
ReadsVerdicts bytes found = (verdicts : List (ItemId × Verdict)) → bytes ≡ list_bytes verdict_bytes verdicts → MatchOption found ⊥ (λ read. read.items ≡ verdicts)
