-- How the state of a journal's file goes on.
use Rattle.std.proofs.Common.{◌≡◌, inl, inr, ℕ, suc, ◌+◌, ◌<◌, true, false, List, [], ◌∷◌, ◌++◌, length, take, drop, get_or, sym, ◌∙◌, ap, subst, arith, append_assoc, length-append, length-drop, take-append-drop, slice_set, slice_index, Option, Some}
use Rattle.std.specs.Option.{option_map_or}
use Rattle.std.proofs.lemmas.Bool.{cases_eq}
use Rattle.std.proofs.lemmas.List.{take_at, drop_at, length-take-le, length-take, take-take, drop_more, get_or-take, set_split, take-append-le, get_or_at, length-set, get_or-set_same}
use Rattle.project_journal.specs.Disk.{written}
use Rattle.project_journal.specs.JournalFile.{record_of, whole_record, entries, opened, entries_on}
use Rattle.project_journal.specs.Keeper.{IsEntry, IsKeptOrDoubt}
use Rattle.project_journal.specs.Settled.{IsFront, kept_in, refused_in, Shut, Whole, IsSettled, Turned, KeepsFront}
use Rattle.project_journal.specs.RecordLaws.{AreEntries, opened_closed, opened_open, entries_are, entries_on_closed, behind_header, few, whole_record_is, length-record_of}

-- what follows from the front
pub whole_within : (gate : ℕ) (front e c : List ℕ) → Whole gate front e c → gate + 1 < length c
whole_within gate front e c whole =
    let size = ap length whole.behind in
    omega (arith, size, length-take (length e + 5) (drop (gate + 1) c), length-drop (gate + 1) c, length-append (record_of e) (0 ∷ []), length-record_of e)

pub at_gate : (gate : ℕ) (c : List ℕ) → gate < length c → c ≡ take gate c ++ slice_index c gate ∷ drop (gate + 1) c
at_gate gate c within = sym (take-append-drop gate c) ∙ ap (λ (l : List ℕ). take gate c ++ l) (drop_more c gate 0 within)

pub shut_is : (gate : ℕ) (front c : List ℕ) → Shut gate front c → c ≡ front ++ slice_index c gate ∷ drop (gate + 1) c
shut_is gate front c shut = at_gate gate c shut.within ∙ ap (λ (l : List ℕ). l ++ slice_index c gate ∷ drop (gate + 1) c) shut.same

pub opened_shut : (gate : ℕ) (front : List ℕ) (es : List (List ℕ)) (c : List ℕ) → IsFront front es → AreEntries es → Shut gate front c → opened c ≡ Some es
opened_shut gate front es c is are shut = ap opened (shut_is gate front c shut) ∙ opened_closed front es (slice_index c gate) (drop (gate + 1) c) is are shut.closed

behind_is : (gate : ℕ) (front e c : List ℕ) → Whole gate front e c → drop (gate + 1) c ≡ record_of e ++ 0 ∷ drop (length e + 5) (drop (gate + 1) c)
behind_is gate front e c whole =
    let tail = drop (length e + 5) (drop (gate + 1) c) in
    sym (take-append-drop (length e + 5) (drop (gate + 1) c)) ∙ ap (λ (l : List ℕ). l ++ tail) whole.behind ∙ append_assoc (record_of e) (0 ∷ []) tail

pub whole_is : (gate : ℕ) (front e c : List ℕ) → Whole gate front e c
    → c ≡ front ++ slice_index c gate ∷ (record_of e ++ 0 ∷ drop (length e + 5) (drop (gate + 1) c))
whole_is gate front e c whole =
    let within = whole_within gate front e c whole in
    at_gate gate c (omega (arith, within)) ∙ (λ i. whole.same i ++ slice_index c gate ∷ behind_is gate front e c whole i)

pub opened_whole : (gate : ℕ) (front : List ℕ) (es : List (List ℕ)) (e c : List ℕ) → IsFront front es → AreEntries es → IsEntry e → Whole gate front e c → IsKeptOrDoubt es (Some e) (opened c)
opened_whole gate front es e c is are entry whole =
    let tail = drop (length e + 5) (drop (gate + 1) c) in
    elim (cases_eq (slice_index c gate) 1) [
      | inl open' ↦ inr (ap opened (whole_is gate front e c whole ∙ ap (λ g. front ++ g ∷ (record_of e ++ 0 ∷ tail)) open') ∙ opened_open front es e 0 tail is are entry (omega arith))
      | inr shut ↦ inl (ap opened (whole_is gate front e c whole) ∙ opened_closed front es (slice_index c gate) (record_of e ++ 0 ∷ tail) is are shut)
    ]

-- the entries of a front
pub kept_front : (front : List ℕ) (es : List (List ℕ)) → IsFront front es → AreEntries es → entries (front ++ 0 ∷ []) ≡ es
kept_front front es is are =
    let file = front ++ 0 ∷ [] in
    ap (λ (l : List ℕ). entries_on (length file) l) (behind_header front es (0 ∷ []) is) ∙ entries_on_closed (length file) es 0 [] (few front es (0 ∷ []) is) are (omega arith)

pub kept_by_front : (gate : ℕ) (front : List ℕ) (es : List (List ℕ)) (c : List ℕ) → IsFront front es → AreEntries es → take gate c ≡ front → kept_in gate c ≡ es
unfolding kept_in
kept_by_front gate front es c is are same = ap (λ (l : List ℕ). entries (l ++ 0 ∷ [])) same ∙ kept_front front es is are

-- two files with one front keep the same
pub kept_same : (gate : ℕ) (f c : List ℕ) → take gate c ≡ take gate f → kept_in gate c ≡ kept_in gate f
unfolding kept_in
kept_same gate f c same = ap (λ (l : List ℕ). entries (l ++ 0 ∷ [])) same

pub kept_are : (gate : ℕ) (c : List ℕ) → AreEntries (kept_in gate c)
unfolding kept_in
kept_are gate c = entries_are (length (take gate c ++ 0 ∷ [])) (drop 16 (take gate c ++ 0 ∷ []))

pub refused_whole : (gate : ℕ) (front e c : List ℕ) → IsEntry e → Whole gate front e c → refused_in gate c ≡ e
unfolding refused_in
refused_whole gate front e c is whole =
    let tail = drop (length e + 5) (drop (gate + 1) c) in
    ap (λ (l : List ℕ). option_map_or (λ (it : List ℕ × List ℕ). it.0) (whole_record l) []) (behind_is gate front e c whole)
    ∙ ap (λ (o : Option (List ℕ × List ℕ)). option_map_or (λ (it : List ℕ × List ℕ). it.0) o []) (whole_record_is e (0 ∷ tail) is (omega arith))

-- steps
pub shut_keeps : (gate : ℕ) (front d c : List ℕ) → Shut gate front d → KeepsFront (gate + 1) d c → Shut gate front c
shut_keeps gate front d c shut keeps = record {
  same = sym (take-take gate (gate + 1) c (omega arith)) ∙ ap (λ (l : List ℕ). take gate l) keeps.front ∙ take-take gate (gate + 1) d (omega arith) ∙ shut.same;
  within = omega (arith, shut.within, keeps.no_shorter);
  closed = λ is. shut.closed (sym (get_or-take (gate + 1) d gate 0 (omega arith)) ∙ ap (λ (l : List ℕ). get_or l gate 0) (sym keeps.front) ∙ get_or-take (gate + 1) c gate 0 (omega arith) ∙ is);
}

pub whole_turned : (gate : ℕ) (front e d c : List ℕ) → Whole gate front e d → Turned gate d c → Whole gate front e c
whole_turned gate front e d c whole turned = record {
  same = turned.before ∙ whole.same;
  behind = ap (λ (l : List ℕ). take (length e + 5) l) turned.after ∙ whole.behind;
}

set_turned : (gate value : ℕ) (f : List ℕ) → gate < length f → Turned gate f (slice_set f gate value)
set_turned gate value f within =
    let e : gate + 1 ≡ suc gate = omega arith in
    let is : slice_set f gate value ≡ take gate f ++ value ∷ drop (suc gate) f = set_split f gate value within in
    let size = length-take-le gate f (omega (arith, within)) in
    record {
      before = ap (λ (l : List ℕ). take gate l) is ∙ take_at (take gate f) (value ∷ drop (suc gate) f) gate size;
      after =
          let rest = drop (suc gate) f in
          let one : length (take gate f ++ value ∷ []) ≡ gate + 1 = omega (arith, size, length-append (take gate f) (value ∷ [])) in
          ap (λ (l : List ℕ). drop (gate + 1) l) (is ∙ sym (append_assoc (take gate f) (value ∷ []) rest))
          ∙ drop_at (take gate f ++ value ∷ []) rest (gate + 1) one ∙ ap (λ (n : ℕ). drop n f) (sym e);
      size = length-set f gate value;
    }

whole_set : (gate value : ℕ) (front e f : List ℕ) → Whole gate front e f → Whole gate front e (slice_set f gate value)
whole_set gate value front e f whole = whole_turned gate front e f (slice_set f gate value) whole (set_turned gate value f (omega (arith, whole_within gate front e f whole)))

set_at : (gate value : ℕ) (f : List ℕ) → gate < length f → slice_index (slice_set f gate value) gate ≡ value
set_at gate value f within = get_or-set_same f gate value 0 within

pub mended : (gate : ℕ) (front e f : List ℕ) → Whole gate front e f → Shut gate front (slice_set f gate 0)
mended gate front e f whole =
    let within = whole_within gate front e f whole in
    record {
      same = (whole_set gate 0 front e f whole).same;
      within = omega (arith, within, length-set f gate 0);
      closed = λ is. absurd (omega (arith, is, set_at gate 0 f (omega (arith, within))));
    }

pub staged : (gate : ℕ) (front e f new : List ℕ) → Shut gate front f → new ≡ written f (gate + 1) (record_of e ++ 0 ∷ []) → Whole gate front e new
staged gate front e f new shut is =
    let piece = record_of e ++ 0 ∷ [] in
    let low = take (gate + 1) f in
    let tail = drop (gate + 1 + length piece) f in
    let size = length-take-le (gate + 1) f (omega (arith, shut.within)) in
    let parts : new ≡ low ++ (piece ++ tail) = is ∙ append_assoc low piece tail in
    let long : length piece ≡ length e + 5 = omega (arith, length-append (record_of e) (0 ∷ []), length-record_of e) in
    record {
      same = ap (λ (l : List ℕ). take gate l) parts ∙ take-append-le gate low (piece ++ tail) (omega (arith, size)) ∙ take-take gate (gate + 1) f (omega arith) ∙ shut.same;
      behind =
          ap (λ (l : List ℕ). take (length e + 5) (drop (gate + 1) l)) parts
          ∙ ap (λ (l : List ℕ). take (length e + 5) l) (drop_at low (piece ++ tail) (gate + 1) size) ∙ take_at piece tail (length e + 5) long;
    }

-- the gate is open: one entry more
pub added : (gate : ℕ) (front e f : List ℕ) → Whole gate front e f → Shut (gate + (length e + 5)) (front ++ 1 ∷ record_of e) (slice_set f gate 1)
added gate front e f whole =
    let within = whole_within gate front e f whole in
    let g = slice_set f gate 1 in
    let w = whole_set gate 1 front e f whole in
    let tail = drop (length e + 5) (drop (gate + 1) g) in
    let now = front ++ 1 ∷ record_of e in
    let is : g ≡ now ++ 0 ∷ tail = whole_is gate front e g w ∙ ap (λ (v : ℕ). front ++ v ∷ (record_of e ++ 0 ∷ tail)) (set_at gate 1 f (omega (arith, within))) ∙ sym (append_assoc front (1 ∷ record_of e) (0 ∷ tail)) in
    let old_size : length front ≡ gate = ap length (sym whole.same) ∙ length-take-le gate f (omega (arith, within)) in
    let size : length now ≡ gate + (length e + 5) = omega (arith, old_size, length-append front (1 ∷ record_of e), length-record_of e) in
    record {
      same = ap (λ (l : List ℕ). take (gate + (length e + 5)) l) is ∙ take_at now (0 ∷ tail) (gate + (length e + 5)) size;
      within = omega (arith, ap length is, length-append now (0 ∷ tail), size);
      closed = λ one. absurd (omega (arith, one, ap (λ (l : List ℕ). slice_index l (gate + (length e + 5))) is ∙ get_or_at now 0 tail 0 (gate + (length e + 5)) size));
    }

-- a front that a read gives
front_again : (gate : ℕ) (front : List ℕ) (es : List (List ℕ)) (f : List ℕ) → IsFront front es → AreEntries es → take gate f ≡ front → IsFront (take gate f) (kept_in gate f)
front_again gate front es f is are same =
    let kept : kept_in gate f ≡ es = kept_by_front gate front es f is are same in
    subst (λ (l : List ℕ). IsFront l (kept_in gate f)) (sym same) (subst (λ (l : List (List ℕ)). IsFront front l) (sym kept) is)

-- settled again
pub settled_shut : (images : List ℕ → Type 0) (gate : ℕ) (front : List ℕ) (es : List (List ℕ)) (f : List ℕ) → IsFront front es → AreEntries es → images f → ((c : List ℕ) → images c → Shut gate front c) → IsSettled images gate false f
settled_shut images gate front es f is are image shut =
    let same = (shut f image).same in
    record {
      front = front_again gate front es f is are same;
      closed = λ _ c at. subst (λ (l : List ℕ). Shut gate l c) (sym same) (shut c at);
      refused = λ no. absurd (cc);
      whole = λ no. absurd (cc);
    }

pub settled_whole : (images : List ℕ → Type 0) (gate : ℕ) (front : List ℕ) (es : List (List ℕ)) (e f : List ℕ) → IsFront front es → AreEntries es → IsEntry e → images f → ((c : List ℕ) → images c → Whole gate front e c) → IsSettled images gate true f
settled_whole images gate front es e f is are entry image whole =
    let here = whole f image in
    let same = here.same in
    let refused : refused_in gate f ≡ e = refused_whole gate front e f entry here in
    record {
      front = front_again gate front es f is are same;
      closed = λ no. absurd (cc);
      refused = λ _. subst IsEntry (sym refused) entry;
      whole = λ _ c at. subst (λ (l : List ℕ). Whole gate (take gate f) l c) (sym refused) (subst (λ (l : List ℕ). Whole gate l e c) (sym same) (whole c at));
    }
