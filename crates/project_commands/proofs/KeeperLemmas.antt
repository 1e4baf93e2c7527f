-- What calls in turn tell of a keeper.
use Rattle.std.proofs.Common.{◌≡◌, ℕ, ◌≤◌, Ok, refl, ◌∙◌, subst, arith}
use Rattle.std.specs.Prelude.{IsErrOf}
use Rattle.mark_base.specs.Streams.{TellsFault}
use Rattle.project_book.specs.Keeping.{TellsKeeper}
use Rattle.program_inputs.specs.declared.trouble.Trouble.{Trouble}
use Rattle.program_inputs.specs.declared.trouble.Trouble.TheVariants as trouble
use Rattle.project_commands.proofs.CommandsProofs.ReplyLemmas.{tells_as}

-- no call yet, none of which failed
pub no_call : {K : Type 0} (faults : K → ℕ) (faultless : K → Type 0) (k : K) → TellsKeeper faults faultless k k ⊥
no_call faults faultless k = record {
  later = omega arith;
  cause = record { rose = λ failed. absurd failed; still = λ _. refl };
  stays = λ sure. (sure, refl);
  never = λ _ failed. failed;
}

-- behind calls that did not fail one more tells what all together do
pub one_call : {K : Type 0} (faults : K → ℕ) (faultless : K → Type 0) (old between new : K) (failed : Type 0) → TellsKeeper faults faultless old between ⊥ → TellsKeeper faults faultless between new failed → TellsKeeper faults faultless old new failed
one_call faults faultless old between new failed first second =
    let same : faults between ≡ faults old = first.cause.still (λ it. it) in
    record {
      later = subst (λ (n : ℕ). n ≤ faults new) same second.later;
      cause = subst (λ (n : ℕ). TellsFault failed n (faults new)) same second.cause;
      stays = λ sure. (let end = second.stays (first.stays sure).0 in (end.0, end.1 ∙ same));
      never = λ sure is. second.never (first.stays sure).0 is;
    }

ok_fails : {X : Type 0} (value : X) (why : Trouble) → IsErrOf (Ok value) why → ⊥
ok_fails {X} value why is = cc

-- a call that gave something did not fail
pub call_done : {K X : Type 0} (faults : K → ℕ) (faultless : K → Type 0) (old new : K) (value : X) → TellsKeeper faults faultless old new (IsErrOf {T = X} {E = Trouble} (Ok value) trouble.DiskFailed) → TellsKeeper faults faultless old new ⊥
call_done faults faultless old new value = tells_as faults faultless old new (λ no. absurd no) (λ is. ok_fails value trouble.DiskFailed is)
