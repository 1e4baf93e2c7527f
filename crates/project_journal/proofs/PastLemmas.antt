-- One call more of a disk in memory.
use Rattle.std.proofs.Common.{◌≡◌, ◌⊎◌, ◌↔◌, inl, inr, ⊎_elim, ℕ, ◌+◌, List, [], ◌∷◌, ◌++◌, length, take, refl, sym, ◌∙◌, ap, subst, arith, length-append, Some}
use Rattle.std.proofs.lemmas.List.{take_all, take-append-le, take_min}
use Rattle.std.proofs.lemmas.Bool.{cases_lt}
use Rattle.project_journal.specs.Disk.{Torn, Resized, Reaches, Follows, NoMore, Durable}
use Rattle.project_journal.specs.Stops.{Elapses}
use Rattle.project_journal.specs.PastCalls.{after, next, images_after, last, ImageOf, LeftSince, read_is}
use Rattle.project_journal.specs.declared.past_calls.Effect.{Effect}
use Rattle.project_journal.specs.declared.past_calls.Effect.TheVariants.{Wrote, Cut, Synced}
use Rattle.project_journal.specs.declared.past_calls.PastCall.{PastCall}

pub images_push : (calls : List PastCall) (call : PastCall) (images : List ℕ → Type 0) (c : List ℕ) → images_after images (calls ++ call ∷ []) c → next call call.effect (images_after images calls) c
images_push [] call images c is = is
images_push (x ∷ calls) call images c is = images_push calls call (next x x.effect images) c is

pub images_unpush : (calls : List PastCall) (call : PastCall) (images : List ℕ → Type 0) (c : List ℕ) → next call call.effect (images_after images calls) c → images_after images (calls ++ call ∷ []) c
images_unpush [] call images c is = is
images_unpush (x ∷ calls) call images c is = images_unpush calls call (next x x.effect images) c is

pub last_push : (calls : List PastCall) (call : PastCall) (start : List ℕ) → last start (calls ++ call ∷ []) ≡ after call
last_push [] call start = refl
last_push (x ∷ calls) call start = last_push calls call (after x)

module _ (start : List ℕ) (calls later : List PastCall) (call : PastCall) (pushed : later ≡ calls ++ call ∷ []) where
  pub last_now : (bytes : List ℕ) → after call ≡ bytes → last start later ≡ bytes
  last_now bytes is = ap (last start) pushed ∙ last_push calls call start ∙ is

  image_now : (effect : Effect) → call.effect ≡ effect → (c : List ℕ) → ImageOf start later c → next call effect (ImageOf start calls) c
  image_now effect is c image = subst (λ (s : Effect). next call s (ImageOf start calls) c) is (images_push calls call (λ d. d ≡ start) c (subst (λ (l : List PastCall). ImageOf start l c) pushed image))

  image_after : (effect : Effect) → call.effect ≡ effect → (c : List ℕ) → next call effect (ImageOf start calls) c → ImageOf start later c
  image_after effect is c image = subst (λ (l : List PastCall). ImageOf start l c) (sym pushed) (images_unpush calls call (λ d. d ≡ start) c (subst (λ (s : Effect). next call s (ImageOf start calls) c) (sym is) image))

  -- a crash leaves all that the model allows
  pub all_of_write : (at size : ℕ) (bytes : List ℕ) → call.effect ≡ Wrote at size → after call ≡ bytes → (c : List ℕ) → ImageOf start later c ↔ ((c ≡ bytes) ⊎ Reaches (Torn at size) (ImageOf start calls) c)
  all_of_write at size bytes step now c = (
    λ image. ⊎_elim (λ is. inl (is ∙ now)) inr (image_now (Wrote at size) step c image),
    λ image. image_after (Wrote at size) step c (⊎_elim (λ is. inl (is ∙ sym now)) inr image),
  )

  pub all_of_cut : (len : ℕ) (bytes : List ℕ) → call.effect ≡ Cut len → after call ≡ bytes → (c : List ℕ) → ImageOf start later c ↔ ((c ≡ bytes) ⊎ Reaches (Resized len) (ImageOf start calls) c)
  all_of_cut len bytes step now c = (
    λ image. ⊎_elim (λ is. inl (is ∙ now)) inr (image_now (Cut len) step c image),
    λ image. image_after (Cut len) step c (⊎_elim (λ is. inl (is ∙ sym now)) inr image),
  )

  pub all_of_sync : (bytes : List ℕ) → call.effect ≡ Synced → after call ≡ bytes → (c : List ℕ) → ImageOf start later c ↔ (c ≡ bytes)
  all_of_sync bytes step now c = (λ image. image_now Synced step c image ∙ now, λ is. image_after Synced step c (is ∙ sym now))

  pub follows_write : (at size : ℕ) (old new : List ℕ) → call.effect ≡ Wrote at size → last start calls ≡ old → after call ≡ new → Torn at size old new → Follows (Torn at size) (ImageOf start calls) (ImageOf start later)
  follows_write at size old new step whole now torn c image =
      ⊎_elim (λ is. (old, read_is start old calls whole old refl, subst (Torn at size old) (sym (is ∙ now)) torn)) (λ from. from) (image_now (Wrote at size) step c image)

  pub follows_cut : (len : ℕ) (old new : List ℕ) → call.effect ≡ Cut len → last start calls ≡ old → after call ≡ new → Resized len old new → Follows (Resized len) (ImageOf start calls) (ImageOf start later)
  follows_cut len old new step whole now cut c image =
      ⊎_elim (λ is. (old, read_is start old calls whole old refl, subst (Resized len old) (sym (is ∙ now)) cut)) (λ from. from) (image_now (Cut len) step c image)

  pub no_more_sync : (bytes : List ℕ) → call.effect ≡ Synced → last start calls ≡ bytes → after call ≡ bytes → NoMore (ImageOf start calls) (ImageOf start later)
  no_more_sync bytes step whole now c image =
      let is = image_now Synced step c image in
      subst (ImageOf start calls) (sym now ∙ sym is) (read_is start bytes calls whole bytes refl)

  pub durable_sync : (bytes : List ℕ) → call.effect ≡ Synced → after call ≡ bytes → Durable (Some bytes) (ImageOf start later)
  durable_sync bytes step now c image = let is = image_now Synced step c image in cc

  pub elapses : Elapses (length calls) (length later) (LeftSince start calls) (LeftSince start later) (ImageOf start later)
  elapses =
      let size : length later ≡ length calls + 1 = omega (arith, ap length pushed, length-append calls (call ∷ [])) in
      record {
        later = omega (arith, size);
        nothing_else = λ t c le left. elim (cases_lt (length calls) left.0) [
          | inl more ↦ inr (subst (λ (l : List PastCall). ImageOf start l c) (take_all left.0 later (omega (arith, size))) left.3)
          | inr less ↦ inl (left.0, left.1, less, subst (λ (l : List PastCall). ImageOf start l c) (ap (λ (l : List PastCall). take left.0 l) pushed ∙ take-append-le left.0 calls (call ∷ []) less) left.3)
        ];
        keeps = λ t c le left. (left.0, left.1, omega (arith, size, left.2), subst (λ (l : List PastCall). ImageOf start l c) (sym (ap (λ (l : List PastCall). take left.0 l) pushed ∙ take-append-le left.0 calls (call ∷ []) left.2)) left.3);
      }

pub elapses_same : (start : List ℕ) (calls : List PastCall) → Elapses (length calls) (length calls) (LeftSince start calls) (LeftSince start calls) (ImageOf start calls)
elapses_same start calls = record { later = omega arith; nothing_else = λ t c le left. inl left; keeps = λ t c le left. left }

pub torn_none : (at size : ℕ) (old : List ℕ) → Torn at size old old
torn_none at size old = record { before = take_min at old; after = refl; no_shorter = omega arith; no_longer = omega arith }
