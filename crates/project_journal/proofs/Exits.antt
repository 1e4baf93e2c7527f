-- What each way out of an append leaves.
use Rattle.std.proofs.Common.{◌≡◌, ◌⊎◌, inl, inr, ℕ, ◌+◌, ◌≤◌, Bool, true, false, List, [], ◌∷◌, ◌++◌, length, take, refl, sym, ◌∙◌, ap, subst, arith, slice_set, Option, Some, None, option_map, is_some, Result, Ok, Err, OnErr}
use Rattle.project_journal.specs.Disk.{written, Reaches, Durable}
use Rattle.project_journal.specs.JournalFile.{record_of, opened}
use Rattle.project_journal.specs.Keeper.{IsEntry, IsKeptOrDoubt}
use Rattle.project_journal.specs.RecordLaws.{are-push, front-push}
use Rattle.project_journal.specs.Settled.{kept_in, refused_in, kept_by, doubt_by, Shut, Whole, IsSettled, Turned, KeepsFront, Longer}
use Rattle.project_journal.specs.SettledLaws.{whole_within, opened_shut, opened_whole, kept_by_front, kept_same, kept_are, refused_whole, shut_keeps, whole_turned, mended, staged, added, settled_shut, settled_whole}
use Rattle.project_journal.specs.Stops.{LeavesOnly}
use Rattle.project_journal.proofs.Moments.{now, weakens, joins}

-- a value that is there
pub the_some : {X : Type 0} (o : Option X) → is_some o ≡ true → (x : X) × (o ≡ Some x)
the_some None none = absurd (cc)
the_some (Some x) some = (x, refl)

pub on_err : {T E : Type 0} (r : Result T E) (P : Type 0) → P → OnErr r P
on_err (Ok x) P p = tt
on_err (Err e) P p = p

pub same_by : {X Y : Type 0} (F : X → Y) (old new : Option X) → is_some new ≡ is_some old → ((f h : X) → old ≡ Some f → new ≡ Some h → F h ≡ F f) → option_map F new ≡ option_map F old
same_by F None None told same = refl
same_by F None (Some h) told same = absurd (cc)
same_by F (Some f) None told same = absurd (cc)
same_by F (Some f) (Some h) told same = ap (λ y. Some y) (same f h refl refl)

module _ {D : Type 0} (holds : D → Option (List ℕ)) (images : D → List ℕ → Type 0) (moment : D → ℕ) (left_since : D → ℕ → List ℕ → Type 0)
    (read_is_image : (disk : D) (f : List ℕ) → holds disk ≡ Some f → images disk f)
    (images_told : (disk : D) (c : List ℕ) → images disk c → is_some (holds disk) ≡ true)
    (counts_now : (disk : D) (t : ℕ) (c : List ℕ) → t ≤ moment disk → images disk c → left_since disk t c)
    (only_now : (disk : D) (c : List ℕ) → left_since disk (moment disk) c → images disk c) where
  abbrev Settled : D → ℕ → Bool → Type 0
  Settled disk gate mending = (f : List ℕ) → holds disk ≡ Some f → IsSettled (images disk) gate mending f

  -- the gate lies within
  pub within : (disk : D) (gate : ℕ) (mending : Bool) → Settled disk gate mending → Longer gate (images disk)
  within disk gate true settled c is =
      let told = the_some (holds disk) (images_told disk c is) in
      let s = settled told.0 told.1 in
      omega (arith, whole_within gate _ _ c (s.whole refl c is))
  within disk gate false settled c is =
      let told = the_some (holds disk) (images_told disk c is) in
      let s = settled told.0 told.1 in
      (s.closed refl c is).within

  -- the old file where the new one is told
  was : (old new : D) (h : List ℕ) → is_some (holds new) ≡ is_some (holds old) → holds new ≡ Some h → (f : List ℕ) × (holds old ≡ Some f)
  was old new h told is = the_some (holds old) (sym told ∙ ap is_some is)

  module _ (old new : D) (gate : ℕ) (told : is_some (holds new) ≡ is_some (holds old)) where
    -- every image has the entry whole behind the gate
    module _ (settled : Settled old gate true) (run : LeavesOnly moment left_since old new (Reaches (Turned gate) (images old))) where
      whole_of : (f : List ℕ) → holds old ≡ Some f → (c : List ℕ) → Reaches (Turned gate) (images old) c → Whole gate (take gate f) (refused_in gate f) c
      whole_of f is c from = whole_turned gate _ _ from.0 c ((settled f is).whole refl from.0 from.1) from.2

      whole_now : (f : List ℕ) → holds old ≡ Some f → (c : List ℕ) → images new c → Whole gate (take gate f) (refused_in gate f) c
      whole_now f is c image = whole_of f is c (now moment left_since images counts_now only_now old new _ run c image)

      pub mend_moments : (f : List ℕ) → holds old ≡ Some f → LeavesOnly moment left_since old new (λ c. IsKeptOrDoubt (kept_in gate f) (Some (refused_in gate f)) (opened c))
      mend_moments f is =
          let s = settled f is in
          weakens moment left_since images counts_now only_now old new _ _ run (λ c from. opened_whole gate _ _ _ c s.front (kept_are gate f) (s.refused refl) (whole_of f is c from))

      pub mend_settled : Settled new gate true
      mend_settled h is =
          let old_is = was old new h told is in
          let f = old_is.0 in
          let s = settled f old_is.1 in
          settled_whole (images new) gate (take gate f) (kept_in gate f) (refused_in gate f) h s.front (kept_are gate f) (s.refused refl) (read_is_image new h is) (whole_now f old_is.1)

      pub mend_kept : kept_by (holds new) gate ≡ kept_by (holds old) gate
      mend_kept = same_by (kept_in gate) (holds old) (holds new) told (λ f h is new_is. kept_same gate f h (whole_now f is h (read_is_image new h new_is)).same)

      pub mend_doubt : doubt_by (holds new) gate true ≡ doubt_by (holds old) gate true
      mend_doubt = same_by (refused_in gate) (holds old) (holds new) told (λ f h is new_is. refused_whole gate (take gate f) (refused_in gate f) h ((settled f is).refused refl) (whole_now f is h (read_is_image new h new_is)))

      pub mended_settled : ((f : List ℕ) → holds old ≡ Some f → holds new ≡ Some (slice_set f gate 0)) → Durable (holds new) (images new) → Settled new gate false
      mended_settled ok durable h is =
          let old_is = was old new h told is in
          let f = old_is.0 in
          let s = settled f old_is.1 in
          let shut = mended gate (take gate f) (refused_in gate f) f (s.whole refl f (read_is_image old f old_is.1)) in
          let new_is = ok f old_is.1 in
          settled_shut (images new) gate (take gate f) (kept_in gate f) h s.front (kept_are gate f) (read_is_image new h is) (λ c image. let same : slice_set f gate 0 ≡ c = cc (durable c image) in subst (λ l. Shut gate (take gate f) l) same shut)

    module _ (settled : Settled old gate false) (run : LeavesOnly moment left_since old new (Reaches (KeepsFront (gate + 1)) (images old))) where
      shut_of : (f : List ℕ) → holds old ≡ Some f → (c : List ℕ) → Reaches (KeepsFront (gate + 1)) (images old) c → Shut gate (take gate f) c
      shut_of f is c from = shut_keeps gate _ from.0 c ((settled f is).closed refl from.0 from.1) from.2

      shut_now : (f : List ℕ) → holds old ≡ Some f → (c : List ℕ) → images new c → Shut gate (take gate f) c
      shut_now f is c image = shut_of f is c (now moment left_since images counts_now only_now old new _ run c image)

      pub stage_moments : (P : Option (List ℕ)) (f : List ℕ) → holds old ≡ Some f → LeavesOnly moment left_since old new (λ c. IsKeptOrDoubt (kept_in gate f) P (opened c))
      stage_moments P f is =
          let s = settled f is in
          weakens moment left_since images counts_now only_now old new _ _ run (λ c from. inl (opened_shut gate _ _ c s.front (kept_are gate f) (shut_of f is c from)))

      pub stage_settled : Settled new gate false
      stage_settled h is =
          let old_is = was old new h told is in
          let f = old_is.0 in
          settled_shut (images new) gate (take gate f) (kept_in gate f) h (settled f old_is.1).front (kept_are gate f) (read_is_image new h is) (shut_now f old_is.1)

      pub stage_kept : kept_by (holds new) gate ≡ kept_by (holds old) gate
      stage_kept = same_by (kept_in gate) (holds old) (holds new) told (λ f h is new_is. kept_same gate f h (shut_now f is h (read_is_image new h new_is)).same)

      -- the record is whole in each image
      pub whole_staged : (entry record' : List ℕ) → record' ≡ record_of entry ++ 0 ∷ [] → ((f : List ℕ) → holds old ≡ Some f → holds new ≡ Some (written f (gate + 1) record')) → Durable (holds new) (images new)
          → (f : List ℕ) → holds old ≡ Some f → (c : List ℕ) → images new c → Whole gate (take gate f) entry c
      whole_staged entry record' is_record ok durable f is c image =
          let same : written f (gate + 1) record' ≡ c = cc (durable c image, ok f is) in
          staged gate (take gate f) entry f c ((settled f is).closed refl f (read_is_image old f is)) (sym same ∙ ap (λ (l : List ℕ). written f (gate + 1) l) is_record)

  pub ready_within : (old mid : D) (gate : ℕ) (entry : List ℕ) → is_some (holds mid) ≡ is_some (holds old)
      → ((f : List ℕ) → holds old ≡ Some f → (c : List ℕ) → images mid c → Whole gate (take gate f) entry c) → Longer gate (images mid)
  ready_within old mid gate entry told ready c image =
      let old_is = the_some (holds old) (sym told ∙ images_told mid c image) in
      omega (arith, whole_within gate _ _ c (ready old_is.0 old_is.1 c image))

  -- the second half of an append, after the record stands on the disk
  module _ (old mid new : D) (gate : ℕ) (entry : List ℕ) (is_entry : IsEntry entry)
      (told1 : is_some (holds mid) ≡ is_some (holds old)) (told2 : is_some (holds new) ≡ is_some (holds mid)) (settled : Settled old gate false)
      (ready : (f : List ℕ) → holds old ≡ Some f → (c : List ℕ) → images mid c → Whole gate (take gate f) entry c)
      (first : LeavesOnly moment left_since old mid (Reaches (KeepsFront (gate + 1)) (images old)))
      (second : LeavesOnly moment left_since mid new (Reaches (Turned gate) (images mid))) where
    told : is_some (holds new) ≡ is_some (holds old)
    told = told2 ∙ told1

    turned_of : (f : List ℕ) → holds old ≡ Some f → (c : List ℕ) → Reaches (Turned gate) (images mid) c → Whole gate (take gate f) entry c
    turned_of f is c from = whole_turned gate _ _ from.0 c (ready f is from.0 from.1) from.2

    turned_now : (f : List ℕ) → holds old ≡ Some f → (c : List ℕ) → images new c → Whole gate (take gate f) entry c
    turned_now f is c image = turned_of f is c (now moment left_since images counts_now only_now mid new _ second c image)

    pub open_moments : (f : List ℕ) → holds old ≡ Some f → LeavesOnly moment left_since old new (λ c. IsKeptOrDoubt (kept_in gate f) (Some entry) (opened c))
    open_moments f is =
        joins moment left_since images counts_now only_now old mid new _ _ (stage_moments old mid gate told1 settled first (Some entry) f is) second
        (λ c from. opened_whole gate _ _ entry c (settled f is).front (kept_are gate f) is_entry (turned_of f is c from))

    pub open_settled : Settled new gate true
    open_settled h is =
        let old_is = was old new h told is in
        let f = old_is.0 in
        settled_whole (images new) gate (take gate f) (kept_in gate f) entry h (settled f old_is.1).front (kept_are gate f) is_entry (read_is_image new h is) (turned_now f old_is.1)

    pub open_kept : kept_by (holds new) gate ≡ kept_by (holds old) gate
    open_kept = same_by (kept_in gate) (holds old) (holds new) told (λ f h is new_is. kept_same gate f h (turned_now f is h (read_is_image new h new_is)).same)

    pub open_doubt : (doubt_by (holds new) gate true ≡ None) ⊎ (doubt_by (holds new) gate true ≡ Some entry)
    open_doubt = by (holds new) refl
      where
        by : (o : Option (List ℕ)) → holds new ≡ o → (doubt_by o gate true ≡ None) ⊎ (doubt_by o gate true ≡ Some entry)
        by None is = inl refl
        by (Some h) is =
            let old_is = was old new h told is in
            inr (ap (λ (e : List ℕ). Some e) (refused_whole gate (take gate old_is.0) entry h is_entry (turned_now old_is.0 old_is.1 h (read_is_image new h is))))

    module _ (ok : (f : List ℕ) → holds mid ≡ Some f → holds new ≡ Some (slice_set f gate 1)) (durable : Durable (holds new) (images new)) where
      added_now : (f : List ℕ) → holds old ≡ Some f → (c : List ℕ) → images new c → Shut (gate + (length entry + 5)) (take gate f ++ 1 ∷ record_of entry) c
      added_now f is c image =
          let mid_is = the_some (holds mid) (told1 ∙ ap is_some is) in
          let shut = added gate (take gate f) entry mid_is.0 (ready f is mid_is.0 (read_is_image mid mid_is.0 mid_is.1)) in
          let same : slice_set mid_is.0 gate 1 ≡ c = cc (durable c image, ok mid_is.0 mid_is.1) in
          subst (λ l. Shut (gate + (length entry + 5)) (take gate f ++ 1 ∷ record_of entry) l) same shut

      pub added_settled : Settled new (gate + (length entry + 5)) false
      added_settled h is =
          let old_is = was old new h told is in
          let f = old_is.0 in
          settled_shut (images new) (gate + (length entry + 5)) (take gate f ++ 1 ∷ record_of entry) (kept_in gate f ++ entry ∷ []) h
          (front-push _ _ entry (settled f old_is.1).front) (are-push (kept_in gate f) entry (kept_are gate f) is_entry) (read_is_image new h is) (added_now f old_is.1)

      pub added_kept : kept_by (holds new) (gate + (length entry + 5)) ≡ option_map (λ es. es ++ entry ∷ []) (kept_by (holds old) gate)
      added_kept = by (holds old) (holds new) refl refl
        where
          by : (o n : Option (List ℕ)) → holds old ≡ o → holds new ≡ n → kept_by n (gate + (length entry + 5)) ≡ option_map (λ es. es ++ entry ∷ []) (kept_by o gate)
          by None None is new_is = refl
          by None (Some h) is new_is = absurd (cc (told, ap is_some is, ap is_some new_is))
          by (Some f) None is new_is = absurd (cc (told, ap is_some is, ap is_some new_is))
          by (Some f) (Some h) is new_is =
              let shut = added_now f is h (read_is_image new h new_is) in
              ap (λ es. Some es) (kept_by_front (gate + (length entry + 5)) (take gate f ++ 1 ∷ record_of entry) (kept_in gate f ++ entry ∷ []) h
              (front-push _ _ entry (settled f is).front) (are-push (kept_in gate f) entry (kept_are gate f) is_entry) shut.same)
