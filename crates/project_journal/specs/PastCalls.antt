-- All that a crash may leave of a disk in memory, from what it held at first and the calls made since.
use Rattle.std.specs.Prelude.{◌≡◌, ◌⊎◌, ℕ, ◌≤◌, List, [], ◌∷◌, length, take, Some, refl}
use Rattle.std.proofs.Common.{inl, sym, subst, arith}
use Rattle.std.proofs.lemmas.List.{take_all}
use Rattle.project_journal.specs.Disk.{Torn, Resized, Reaches}
use Rattle.project_journal.specs.declared.past_calls.Effect.{Effect}
use Rattle.project_journal.specs.declared.past_calls.Effect.TheVariants.{Wrote, Cut, Synced}
use Rattle.project_journal.specs.declared.past_calls.PastCall.{PastCall}

-- what a read gave after the call
abbrev pub after : PastCall → List ℕ
after call = call.after.value.items

-- the images after a call, from those before it
abbrev pub next : PastCall → Effect → (List ℕ → Type 0) → List ℕ → Type 0
next call (Wrote at size) images c = (c ≡ after call) ⊎ Reaches (Torn at size) images c
next call (Cut len) images c = (c ≡ after call) ⊎ Reaches (Resized len) images c
next call Synced images c = c ≡ after call

-- the images after some calls, the first of them first
abbrev pub images_after : (List ℕ → Type 0) → List PastCall → List ℕ → Type 0
images_after images [] c = images c
images_after images (call ∷ calls) c = images_after (next call call.effect images) calls c

-- what a read gives after the last call
abbrev pub last : List ℕ → List PastCall → List ℕ
last start [] = start
last start (call ∷ calls) = last (after call) calls

-- an image of a disk that held `start`, alone durable, before these calls
abbrev pub ImageOf : List ℕ → List PastCall → List ℕ → Type 0
ImageOf start calls c = images_after (λ d. d ≡ start) calls c

-- what a crash after the call of some number from t on may have left
abbrev pub LeftSince : List ℕ → List PastCall → ℕ → List ℕ → Type 0
LeftSince start calls t c = (k : ℕ) × (t ≤ k) × (k ≤ length calls) × ImageOf start (take k calls) c

here : (call : PastCall) (effect : Effect) (images : List ℕ → Type 0) → next call effect images (after call)
here call (Wrote at size) images = inl refl
here call (Cut len) images = inl refl
here call Synced images = refl

last_is : (calls : List PastCall) (images : List ℕ → Type 0) (file : List ℕ) → images file → images_after images calls (last file calls)
last_is [] images file is = is
last_is (call ∷ calls) images file is = last_is calls (next call call.effect images) (after call) (here call call.effect images)

-- what a read gives is an image
pub read_is : (start bytes : List ℕ) (calls : List PastCall) → last start calls ≡ bytes → (f : List ℕ) → Some bytes ≡ Some f → ImageOf start calls f
read_is start bytes calls whole f is = let same : last start calls ≡ f = cc in subst (ImageOf start calls) same (last_is calls (λ d. d ≡ start) start refl)

-- what a crash leaves now it has left since an earlier moment
pub counts : (start : List ℕ) (calls : List PastCall) (t : ℕ) (c : List ℕ) → t ≤ length calls → ImageOf start calls c → LeftSince start calls t c
counts start calls t c le is = (length calls, le, omega arith, subst (λ l. ImageOf start l c) (sym (take_all (length calls) calls (omega arith))) is)

-- what a crash has left since this moment it leaves now
pub only : (start : List ℕ) (calls : List PastCall) (c : List ℕ) → LeftSince start calls (length calls) c → ImageOf start calls c
only start calls c left = subst (λ l. ImageOf start l c) (take_all left.0 calls left.1) left.3
