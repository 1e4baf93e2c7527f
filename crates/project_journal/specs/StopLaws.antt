-- What a stop between two calls leaves of a journal.
use Rattle.std.specs.Prelude.{◌≡◌, ℕ, Bool, true, false, List, Option, Some, None, refl}
use Rattle.std.proofs.Common.{inl, subst}
use Rattle.project_journal.specs.JournalFile.{opened}
use Rattle.project_journal.specs.Keeper.{IsKeptOrDoubt}
use Rattle.project_journal.specs.Settled.{IsSettled, kept_in, kept_by, doubt_by}
use Rattle.project_journal.specs.SettledLaws.{opened_shut, opened_whole, kept_are}

-- each image of a settled file opens to the entries before the gate, alone or with the refused one
pub opens : (images : List ℕ → Type 0) (gate : ℕ) (mending : Bool) (f : List ℕ) → IsSettled images gate mending f → (c : List ℕ) → images c
    → IsKeptOrDoubt (kept_in gate f) (doubt_by (Some f) gate mending) (opened c)
opens images gate true f settled c image = opened_whole gate _ _ _ c settled.front (kept_are gate f) (settled.refused refl) (settled.whole refl c image)
opens images gate false f settled c image = inl (opened_shut gate _ _ c settled.front (kept_are gate f) (settled.closed refl c image))

-- the same of what a stop left
pub stop_now : (images : List ℕ → Type 0) (holds : Option (List ℕ)) (gate : ℕ) (mending : Bool) → ((f : List ℕ) → holds ≡ Some f → IsSettled images gate mending f)
    → (es : List (List ℕ)) (found : Option (List (List ℕ))) → kept_by holds gate ≡ Some es → (c : List ℕ) × images c × (opened c ≡ found) → IsKeptOrDoubt es (doubt_by holds gate mending) found
stop_now images None gate mending settled es found kept left = absurd (cc)
stop_now images (Some f) gate mending settled es found kept left =
    let same : kept_in gate f ≡ es = cc in
    subst (λ o. IsKeptOrDoubt es (doubt_by (Some f) gate mending) o) left.2
    (subst (λ l. IsKeptOrDoubt l (doubt_by (Some f) gate mending) (opened left.0)) same (opens images gate mending f (settled f refl) left.0 left.1))
