-- What the pieces so far tell is a project as it can be restored.
use Rattle.std.proofs.Common.{◌≡◌, ℕ, ◌+◌, ◌-◌, ◌<◌, ◌≤◌, ◌^◌, ◌==◌, ◌||◌, Bool, true, false, List, [], ◌∷◌, ◌++◌, length, map, sum, set, get_or, replicate, nat_lt, nat_le, Option, Some, None, is_some, zero, suc, refl, sym, ◌∙◌, ap, subst, arith, length-append}
use Rattle.std.specs.Prelude.{IsUtf8, chars, encode_utf8_all, ⊤}
use Rattle.std.specs.Cmp.Lexicographic.{slice_cmp}
use Rattle.std.specs.List.{All, list_any}
use Rattle.std.specs.List.Sorted.{IsStrictlySortedBy}
use Rattle.std.specs.Ordering.{nat_cmp}
use Rattle.std.proofs.lemmas.Bool.{and_parts, eqb-true, le-ltb, leb-true, lt-leb, ltb-true, or_parts}
use Rattle.std.proofs.lemmas.List.{get_or_append_left}
use Rattle.std.proofs.lemmas.List.Elements.{All-push}
use Rattle.std.proofs.lemmas.Str.{encodes-chars}
use Rattle.entry_bytes.specs.declared.entry.Entry.{Entry}
use Rattle.entry_bytes.specs.declared.entry.Entry.TheVariants as entry
use Rattle.entry_bytes.specs.Entries.{IsEntry}
use Rattle.entry_bytes.specs.Fields.{IsSlug, IsText}
use Rattle.layer_model.specs.Annotations.{Annotations, no_marks}
use Rattle.layer_core.specs.declared.command.Command.{Command}
use Rattle.layer_undo.specs.Replays.{first_refusal}
use Rattle.ann_writer.specs.AnnOf.{ann_of}
use Rattle.unanimous_merge.specs.Readings.{readings}
use Rattle.unanimous_merge.specs.declared.item.ItemId.{ItemId}
use Rattle.curator_decisions.specs.declared.verdict.Verdict.{Verdict}
use Rattle.curator_decisions.specs.DecisionFaults.{decision_fault}
use Rattle.project_machine.specs.Entries.{IsShort}
use Rattle.project_machine.specs.Legal.{AreAccepted, IsAccepted, IsKept, IsRowKept, IsSnapshotKept, IsSound, LayerObeys}
use Rattle.project_machine.specs.Machine.{is_full}
use Rattle.project_machine.specs.ProjectState.{Row, Document, Snapshot, ProjectState, annotators, blank_row, document, is_annotator, is_some_out, is_there, new_document, no_document, rater_of, with_row}
use Rattle.project_machine.specs.RequestValues.{IsDocText}
use Rattle.project_machine.proofs.KeptLemmas.{same_text, snapshot_stays}
use Rattle.project_machine.proofs.RowLemmas.{Flawless, nothing_obeys}
use Rattle.project_machine.proofs.SizeLemmas.{nothing_short}
use Rattle.project_machine.proofs.StepLemmas.{add_kept, set_kept}
use Rattle.checkpoint.specs.HeldSoFar.{HeldSoFar, follows, with_held}
use Rattle.checkpoint.specs.Projects.{put_row}
use Rattle.checkpoint.specs.declared.so_far.OpenRow.{OpenRow}
use Rattle.checkpoint.specs.declared.so_far.Part.{Part}
use Rattle.checkpoint.specs.declared.so_far.Part.TheVariants as part
use Rattle.checkpoint.specs.declared.so_far.SoFar.{SoFar}
use Rattle.checkpoint.specs.declared.so_far.Stage.{Stage}
use Rattle.checkpoint.specs.declared.so_far.Stage.TheVariants as stage
use Rattle.checkpoint.specs.Reading.{Begins, TakesDraft, TakesHeld, TakesLayer, TakesVerdicts, closed, closed_by, comes_next, end_fits, is_start, is_told, is_whole, row_fits, shot_fits, takes_draft, text_fits, wants_layer, with_draft, with_end, with_held_in, with_layer, with_named, with_shot, with_text, with_verdicts}
use Rattle.checkpoint.specs.Runs.{IsCheckpoint, IsReadTo, begins, goes_on}
use Rattle.checkpoint.proofs.HolderLemmas.{names_push}
use Rattle.checkpoint.proofs.KeepableLemmas.{Keepable, closed_length, keepable, not_true}
use Rattle.checkpoint.proofs.KindLemmas.{Kinds, by_kind}

-- the row that is open is one of a document and an annotator; where it lacks no piece it is as steps leave it
pub record IsRowPart (s : ProjectState) (r : OpenRow) : Type 0 where
  pub within : r.doc < length s.documents
  pub annotates : is_annotator s r.who ≡ true
  pub rater : r.rater ≡ rater_of s r.who
  pub layer : LayerObeys s.conf (length (document s r.doc).text) r.row.layer
  pub counted : r.row.revision ≤ s.place
  pub free : r.row.hold ≡ None
  pub empty : r.row.revision ≡ 0 → r.row.layer ≡ no_marks
  pub finished : r.row.revision ≡ 0 → r.row.finished ≡ false
  pub ignored : r.row.revision ≡ 0 → r.row.ignored ≡ false
  pub kept : is_told r.stage ≡ true → IsRowKept s.conf (document s r.doc).text s.place r.who r.row

-- the layers of the open snapshot are those of one
pub record IsShotPart (s : ProjectState) (h : HeldSoFar) : Type 0 where
  pub doc : h.doc < length s.documents
  pub two : 2 ≤ h.layers
  pub few : h.layers ≤ 16
  pub ascending : IsStrictlySortedBy (slice_cmp nat_cmp) (map (λ row. row.0) h.held)
  pub annotate : All (λ (held : List ℕ × Annotations). is_annotator s held.0 ≡ true) h.held
  pub layers_are : All (λ (held : List ℕ × Annotations). LayerObeys s.conf (length (document s h.doc).text) held.1) h.held
  pub short : All (λ (held : List ℕ × Annotations). IsShort (entry.HeldLayer held.0 (ann_of s.conf (document s h.doc).text held.1))) h.held

abbrev pub IsPart : ProjectState → Part → Type 0
IsPart s (part.Row r) = IsRowPart s r
IsPart s (part.Shot h) = IsShotPart s h
IsPart s _ = ⊤

-- how many snapshots are open
abbrev pub in_hand : Part → ℕ
in_hand (part.Shot h) = 1
in_hand _ = 0

-- a project that can be restored but for what is open and what is still to come
pub record Stands (so : SoFar) : Type 0 where
  pub sound : IsSound so.state
  pub taken : length so.state.snapshots + in_hand so.part + so.shots ≤ so.state.place
  pub part_is : IsPart so.state so.part

-- ---- no row is out

or_both : (a b : Bool) → a ≡ false → b ≡ false → (a || b) ≡ false
or_both false b e f = f
or_both true b e f = e

any_at : {X : Type 0} (p : X → Bool) (xs : List X) (k : ℕ) (d : X) → list_any p xs ≡ false → p d ≡ false → p (get_or xs k d) ≡ false
any_at p [] k d e f = f
any_at p (x ∷ xs) zero d e f = (or_parts (p x) (list_any p xs) e).0
any_at p (x ∷ xs) (suc k) d e f = any_at p xs k d (or_parts (p x) (list_any p xs) e).1 f

any_set : {X : Type 0} (p : X → Bool) (xs : List X) (k : ℕ) (y : X) → list_any p xs ≡ false → p y ≡ false → list_any p (set xs k y) ≡ false
any_set p [] k y e f = refl
any_set p (x ∷ xs) zero y e f = or_both (p y) (list_any p xs) f (or_parts (p x) (list_any p xs) e).1
any_set p (x ∷ xs) (suc k) y e f = or_both (p x) (list_any p (set xs k y)) (or_parts (p x) (list_any p xs) e).0 (any_set p xs k y (or_parts (p x) (list_any p xs) e).1 f)

any_push : {X : Type 0} (p : X → Bool) (xs : List X) (y : X) → list_any p xs ≡ false → p y ≡ false → list_any p (xs ++ y ∷ []) ≡ false
any_push p [] y e f = or_both (p y) false f refl
any_push p (x ∷ xs) y e f = or_both (p x) (list_any p (xs ++ y ∷ [])) (or_parts (p x) (list_any p xs) e).0 (any_push p xs y (or_parts (p x) (list_any p xs) e).1 f)

blank_free : (n : ℕ) → list_any (λ (r : Row). is_some r.hold) (replicate n blank_row) ≡ false
blank_free zero = refl
blank_free (suc n) = blank_free n

free_put : (s : ProjectState) (doc rater : ℕ) (r : Row) → is_some_out s ≡ false → r.hold ≡ None → is_some_out (put_row s doc rater r) ≡ false
free_put s doc rater r free none =
    any_set (λ (d : Document). list_any (λ (q : Row). is_some q.hold) d.rows) s.documents doc (with_row rater r (document s doc)) free
    (any_set (λ (q : Row). is_some q.hold) (document s doc).rows rater r (any_at (λ (d : Document). list_any (λ (q : Row). is_some q.hold) d.rows) s.documents doc no_document free refl) (ap (λ (o : Option ℕ). is_some o) none))

-- ---- what is open in its place

accepted_put : (s : ProjectState) (doc : ℕ) (who : List ℕ) (r : Row) → AreAccepted s → AreAccepted (put_row s doc (rater_of s who) r)
accepted_put s doc who r a = λ i d inside.
    subst (λ (text : List ℕ). decision_fault s.conf (length text) (readings (get_or s.snapshots i d).holders) (get_or s.snapshots i d).verdicts ≡ None) (sym (same_text s doc (get_or s.snapshots i d).doc who (λ _. r))) (a i d inside)

put_sound : (s : ProjectState) (r : OpenRow) → IsSound s → IsRowPart s r → is_told r.stage ≡ true → IsSound (put_row s r.doc (rater_of s r.who) r.row)
put_sound s r sound is told = record {
  kept = set_kept s r.doc s.place r.who (λ _. r.row) (omega arith) sound.kept is.annotates (is.kept told);
  accepted = accepted_put s r.doc r.who r.row sound.accepted;
  free = free_put s r.doc (rater_of s r.who) r.row sound.free is.free;
  placed = sound.placed;
  low = sound.low;
}

closed_sound : (s : ProjectState) (p : Part) → IsSound s → IsPart s p → is_whole p ≡ true → IsSound (closed_by p s)
closed_sound s (part.Row r) sound is told = subst (λ n. IsSound (put_row s r.doc n r.row)) (sym is.rater) (put_sound s r sound is told)
closed_sound s _ sound is told = sound

closed_place : (s : ProjectState) (p : Part) → (closed_by p s).place ≡ s.place
closed_place s (part.Row r) = refl
closed_place s _ = refl

closed_shots : (s : ProjectState) (p : Part) → (closed_by p s).snapshots ≡ s.snapshots
closed_shots s (part.Row r) = refl
closed_shots s _ = refl

pub whole_hand : (p : Part) → is_whole p ≡ true → in_hand p ≡ 0
whole_hand part.Start e = refl
whole_hand (part.Row r) e = refl
whole_hand (part.Shot h) e = absurd cc
whole_hand part.Shots e = refl
whole_hand part.Ended e = refl

-- ---- documents

doc_text : (text : List ℕ) → IsText text → length (chars text) ≤ 200000 → IsDocText (chars text)
doc_text text is short =
    let back : encode_utf8_all (chars text) ≡ text = encodes-chars text is.utf8 in
    record { short = short; valid = subst (λ (bytes : List ℕ). IsUtf8 bytes) (sym back) is.utf8; characters = ap chars back }

text_stands : Flawless → (so : SoFar) (name text : List ℕ) → Keepable so → Stands so → IsEntry (entry.Document name text) → text_fits so name text ≡ true → Stands (with_text so name text)
text_stands flawless so name text h st entered fits =
    let a = and_parts _ _ fits in
    let b = and_parts _ _ a.0 in
    let c = and_parts _ _ b.0 in
    let d = and_parts _ _ c.0 in
    let s = so.state in
    let words = chars text in
    let room : length words ≤ so.room = leb-true (length words) so.room a.1 in
    let short : length words ≤ 200000 = leb-true (length words) 200000 b.1 in
    let new : is_there s name ≡ false = not_true (is_there s name) c.1 in
    let wanted : 0 < so.texts = ltb-true 0 so.texts d.1 in
    let few : length s.documents + so.texts ≤ 4096 = h.few in
    let total : sum (map (λ (x : Document). length x.text) s.documents) + so.room ≡ 16777216 = h.total in
    let full : is_full s words ≡ false = or_both (nat_le 4096 (length s.documents)) (nat_lt 16777216 (sum (map (λ (x : Document). length x.text) s.documents) + length words)) (lt-leb 4096 (length s.documents) (omega arith)) (le-ltb 16777216 (sum (map (λ (x : Document). length x.text) s.documents) + length words) (omega arith)) in
    let k : IsKept s = st.sound.kept in
    let taken : length s.snapshots + in_hand so.part + so.shots ≤ s.place = st.taken in
    record {
      sound = record {
        kept = add_kept s [] name words s.place (omega arith) flawless k entered.0 (doc_text text entered.1 short) new full;
        accepted = λ i x inside.
            subst (λ (w : List ℕ). decision_fault s.conf (length w) (readings (get_or s.snapshots i x).holders) (get_or s.snapshots i x).verdicts ≡ None)
            (sym (ap (λ (one : Document). one.text) (get_or_append_left s.documents (new_document s name words ∷ []) no_document (get_or s.snapshots i x).doc (k.snapshots i x inside).doc))) (st.sound.accepted i x inside);
        free = any_push (λ (x : Document). list_any (λ (q : Row). is_some q.hold) x.rows) s.documents (new_document s name words) st.sound.free (blank_free (length (annotators s)));
        placed = st.sound.placed;
        low = st.sound.low;
      };
      taken = st.taken;
      part_is = start_is so.part (with_text so name text).state d.0;
    }
  where
    start_is : (p : Part) (s : ProjectState) → is_start p ≡ true → IsPart s p
    start_is part.Start s e = tt
    start_is (part.Row r) s e = absurd cc
    start_is (part.Shot h) s e = absurd cc
    start_is part.Shots s e = tt
    start_is part.Ended s e = tt

-- ---- rows

flag_none : (revision flags : ℕ) → (nat_lt 0 revision || flags == 0) ≡ true → revision ≡ 0 → flags ≡ 0
flag_none zero flags e none = eqb-true flags 0 e
flag_none (suc n) flags e none = absurd (omega arith)

pub told_next : (p : Part) (doc rater : ℕ) → comes_next p doc rater ≡ true → is_whole p ≡ true
told_next part.Start doc rater e = refl
told_next (part.Row r) doc rater e = (and_parts _ _ e).0
told_next (part.Shot h) doc rater e = absurd cc
told_next part.Shots doc rater e = absurd cc
told_next part.Ended doc rater e = absurd cc

closed_people : (s : ProjectState) (p : Part) (who : List ℕ) → is_annotator (closed_by p s) who ≡ is_annotator s who
closed_people s (part.Row r) who = refl
closed_people s _ who = refl

closed_rater : (s : ProjectState) (p : Part) (who : List ℕ) → rater_of (closed_by p s) who ≡ rater_of s who
closed_rater s (part.Row r) who = refl
closed_rater s _ who = refl

row_stands : Flawless → (so : SoFar) (doc : ℕ) (who : List ℕ) (revision flags : ℕ) → Stands so → row_fits so doc who revision flags ≡ true → Stands (with_named so doc who revision flags)
row_stands flawless so doc who revision flags st fits =
    let a = and_parts _ _ fits in
    let b = and_parts _ _ a.0 in
    let c = and_parts _ _ b.0 in
    let d = and_parts _ _ c.0 in
    let e = and_parts _ _ d.0 in
    let s = so.state in
    let t = closed so in
    let whole : is_whole so.part ≡ true = told_next so.part doc (rater_of s who) e.1 in
    let within : doc < length s.documents = ltb-true doc (length s.documents) d.1 in
    let counted : revision ≤ s.place = leb-true revision s.place b.1 in
    let many : length t.documents ≡ length s.documents = closed_length so.part s in
    let hand : in_hand so.part ≡ 0 = whole_hand so.part whole in
    let taken : length s.snapshots + in_hand so.part + so.shots ≤ s.place = st.taken in
    let same : length t.snapshots ≡ length s.snapshots = ap (λ (xs : List Snapshot). length xs) (closed_shots s so.part) in
    let place : t.place ≡ s.place = closed_place s so.part in
    record {
      sound = closed_sound s so.part st.sound st.part_is whole;
      taken = omega arith;
      part_is = record {
        within = omega arith;
        annotates = closed_people s so.part who ∙ c.1;
        rater = sym (closed_rater s so.part who);
        layer = nothing_obeys t.conf (length (document t doc).text) flawless;
        counted = omega arith;
        free = refl;
        empty = λ none. refl;
        finished = λ none. ap (λ n. n == 1 || n == 3) (flag_none revision flags a.1 none);
        ignored = λ none. ap (λ n. nat_le 2 n) (flag_none revision flags a.1 none);
        kept = λ told. absurd cc;
      };
    }

layer_stands : (so : SoFar) (p : Part) (lines : List ℕ) (layer : Annotations) → IsPart so.state p → TakesLayer so.state p lines layer → IsPart so.state (with_layer p layer)
layer_stands so (part.Row r) lines layer is takes =
    let wants = and_parts _ _ takes.0 in
    let some : 0 < r.row.revision = ltb-true 0 r.row.revision wants.1 in
    let short : IsShort (entry.Commit r.who 0 0 (ann_of so.state.conf (document so.state r.doc).text layer)) = subst (λ (l : List ℕ). IsShort (entry.Commit r.who 0 0 l)) takes.2.are takes.1 in
    record {
      within = is.within;
      annotates = is.annotates;
      rater = is.rater;
      layer = takes.2.obeys;
      counted = is.counted;
      free = refl;
      empty = λ none. absurd (omega arith);
      finished = is.finished;
      ignored = is.ignored;
      kept = λ told. record {
        layer = takes.2.obeys;
        commit = λ some. short;
        commands = (tt, tt);
        accepted = refl;
        draft = nothing_short so.state.conf (document so.state r.doc).text;
        counted = is.counted;
        held = tt;
        empty = λ none. absurd (omega arith);
        finished = is.finished;
        ignored = is.ignored;
      };
    }
layer_stands so _ lines layer is takes = absurd takes

commit_behind : (st : Stage) (revision : ℕ) → takes_draft st revision ≡ true → 0 < revision → is_told st ≡ true
commit_behind stage.Named revision e some = absurd (let none : revision ≡ 0 = eqb-true revision 0 e in omega arith)
commit_behind stage.Committed revision e some = refl
commit_behind stage.Parked revision e some = refl

draft_stands : (so : SoFar) (p : Part) (bytes : List ℕ) (done undone : List Command) → IsPart so.state p → TakesDraft so.state p bytes done undone → IsPart so.state (with_draft p done undone)
draft_stands so (part.Row r) bytes done undone is takes = record {
  within = is.within;
  annotates = is.annotates;
  rater = is.rater;
  layer = is.layer;
  counted = is.counted;
  free = refl;
  empty = is.empty;
  finished = is.finished;
  ignored = is.ignored;
  kept = λ told. record {
    layer = is.layer;
    commit = λ some. (is.kept (commit_behind r.stage r.row.revision takes.0 some)).commit some;
    commands = takes.2.typed;
    accepted = takes.2.accepted;
    draft = subst (λ (b : List ℕ). IsShort (entry.Draft b)) takes.2.are takes.1;
    counted = is.counted;
    held = tt;
    empty = is.empty;
    finished = is.finished;
    ignored = is.ignored;
  };
}
draft_stands so _ bytes done undone is takes = absurd takes

-- ---- snapshots

none_all : {X : Type 0} (P : X → Type 0) → All P []
none_all P k d within = absurd (omega arith)

sorted_none : IsStrictlySortedBy (slice_cmp nat_cmp) (map (λ (row : List ℕ × Annotations). row.0) [])
unfolding IsStrictlySortedBy
sorted_none = tt

shot_stands : (so : SoFar) (doc layers : ℕ) → Stands so → shot_fits so doc layers ≡ true → Stands (with_shot so doc layers)
shot_stands so doc layers st fits =
    let a = and_parts _ _ fits in
    let b = and_parts _ _ a.0 in
    let c = and_parts _ _ b.0 in
    let d = and_parts _ _ c.0 in
    let e = and_parts _ _ d.0 in
    let s = so.state in
    let t = closed so in
    let within : doc < length s.documents = ltb-true doc (length s.documents) c.1 in
    let many : length t.documents ≡ length s.documents = closed_length so.part s in
    let hand : in_hand so.part ≡ 0 = whole_hand so.part e.1 in
    let wanted : 0 < so.shots = ltb-true 0 so.shots d.1 in
    let taken : length s.snapshots + in_hand so.part + so.shots ≤ s.place = st.taken in
    let same : length t.snapshots ≡ length s.snapshots = ap (λ (xs : List Snapshot). length xs) (closed_shots s so.part) in
    let place : t.place ≡ s.place = closed_place s so.part in
    record {
      sound = closed_sound s so.part st.sound st.part_is e.1;
      taken = omega arith;
      part_is = record {
        doc = omega arith;
        two = leb-true 2 layers b.1;
        few = leb-true layers 16 a.1;
        ascending = sorted_none;
        annotate = none_all _;
        layers_are = none_all _;
        short = none_all _;
      };
    }

held_stands : (so : SoFar) (p : Part) (who lines : List ℕ) (layer : Annotations) → IsPart so.state p → TakesHeld so.state p who lines layer → IsPart so.state (with_held_in p who layer)
held_stands so (part.Shot h) who lines layer is takes =
    let a = and_parts _ _ takes.0 in
    let b = and_parts _ _ a.0 in
    let s = so.state in
    record {
      doc = is.doc;
      two = is.two;
      few = is.few;
      ascending = names_push h.held who layer is.ascending a.1;
      annotate = All-push (λ (held : List ℕ × Annotations). is_annotator s held.0 ≡ true) h.held (who, layer) is.annotate b.1;
      layers_are = All-push (λ (held : List ℕ × Annotations). LayerObeys s.conf (length (document s h.doc).text) held.1) h.held (who, layer) is.layers_are takes.2.obeys;
      short = All-push (λ (held : List ℕ × Annotations). IsShort (entry.HeldLayer held.0 (ann_of s.conf (document s h.doc).text held.1))) h.held (who, layer) is.short
          (subst (λ (l : List ℕ). IsShort (entry.HeldLayer who l)) takes.2.are takes.1);
    }
held_stands so _ who lines layer is takes = absurd takes

pub held_hand : (p : Part) (who : List ℕ) (layer : Annotations) → in_hand (with_held_in p who layer) ≡ in_hand p
held_hand (part.Shot h) who layer = refl
held_hand _ who layer = refl

pub layer_hand : (p : Part) (layer : Annotations) → in_hand (with_layer p layer) ≡ in_hand p
layer_hand (part.Row r) layer = refl
layer_hand _ layer = refl

pub draft_hand : (p : Part) (done undone : List Command) → in_hand (with_draft p done undone) ≡ in_hand p
draft_hand (part.Row r) done undone = refl
draft_hand _ done undone = refl

-- the same project with another part open
part_stands : (so : SoFar) (p : Part) → Stands so → in_hand p ≡ in_hand so.part → IsPart so.state p → Stands (record so { part = p })
part_stands so p st same is = record { sound = st.sound; taken = subst (λ n. length so.state.snapshots + n + so.shots ≤ so.state.place) (sym same) st.taken; part_is = is }

decided_sound : (s : ProjectState) (h : HeldSoFar) (bytes : List ℕ) (verdicts : List (ItemId × Verdict)) → IsSound s → IsShotPart s h → length s.snapshots + 1 ≤ s.place → TakesVerdicts s (part.Shot h) bytes verdicts → IsSound (with_verdicts s (part.Shot h) verdicts)
decided_sound s h bytes verdicts sound is more takes =
    let one : Snapshot = record { doc = h.doc; holders = h.held; verdicts = verdicts } in
    let t : ProjectState = record s { snapshots = s.snapshots ++ one ∷ [] } in
    let k : IsKept s = sound.kept in
    let many : length h.held ≡ h.layers = takes.0 in
    let two : 2 ≤ h.layers = is.two in
    let few : h.layers ≤ 16 = is.few in
    let size : length (s.snapshots ++ one ∷ []) ≡ length s.snapshots + 1 = omega (arith, length-append s.snapshots (one ∷ [])) in
    record {
      kept = record {
        founding = k.founding;
        few = k.few;
        total = k.total;
        names = k.names;
        documents = k.documents;
        snapshots = All-push (IsSnapshotKept t) s.snapshots one
            (λ i d inside. snapshot_stays s t (get_or s.snapshots i d) refl refl (k.snapshots i d inside).doc refl (k.snapshots i d inside))
            (record {
              doc = is.doc;
              holders = record { two = omega arith; few = omega arith; ascending = is.ascending };
              annotate = is.annotate;
              layers = is.layers_are;
              short = is.short;
              ascending = takes.1.ascending;
            });
        taken = omega arith;
      };
      accepted = All-push (IsAccepted t) s.snapshots one sound.accepted takes.1.accepted;
      free = sound.free;
      placed = sound.placed;
      low = sound.low;
    }

decided_stands : (so : SoFar) (p : Part) (bytes : List ℕ) (verdicts : List (ItemId × Verdict)) → IsSound so.state → length so.state.snapshots + in_hand p + so.shots ≤ so.state.place → IsPart so.state p → TakesVerdicts so.state p bytes verdicts → Stands (record so { state = with_verdicts so.state p verdicts; part = part.Shots })
decided_stands so (part.Shot h) bytes verdicts sound taken is takes =
    let one : Snapshot = record { doc = h.doc; holders = h.held; verdicts = verdicts } in
    let size : length (so.state.snapshots ++ one ∷ []) ≡ length so.state.snapshots + 1 = omega (arith, length-append so.state.snapshots (one ∷ [])) in
    record { sound = decided_sound so.state h bytes verdicts sound is (omega arith) takes; taken = omega arith; part_is = tt }
decided_stands so _ bytes verdicts sound taken is takes = absurd takes

end_stands : (so : SoFar) → Stands so → end_fits so ≡ true → Stands (with_end so)
end_stands so st fits =
    let a = and_parts _ _ fits in
    let b = and_parts _ _ a.0 in
    let s = so.state in
    let t = closed so in
    let hand : in_hand so.part ≡ 0 = whole_hand so.part b.1 in
    let taken : length s.snapshots + in_hand so.part + so.shots ≤ s.place = st.taken in
    let same : length t.snapshots ≡ length s.snapshots = ap (λ (xs : List Snapshot). length xs) (closed_shots s so.part) in
    let place : t.place ≡ s.place = closed_place s so.part in
    record { sound = closed_sound s so.part st.sound st.part_is b.1; taken = omega arith; part_is = tt }

-- ---- all pieces

abbrev pub Goes : Entry → SoFar → Type 0
Goes e now = IsEntry e → Stands now

stands_kinds : Flawless → (so : SoFar) → Keepable so → Stands so → Kinds so Goes
stands_kinds flawless so h st = record {
  text = λ name text fits entered. text_stands flawless so name text h st entered fits;
  row = λ doc who revision flags fits entered. row_stands flawless so doc who revision flags st fits;
  layer = λ lines layer takes entered. part_stands so (with_layer so.part layer) st (layer_hand so.part layer) (layer_stands so so.part lines layer st.part_is takes);
  draft = λ bytes done undone takes entered. part_stands so (with_draft so.part done undone) st (draft_hand so.part done undone) (draft_stands so so.part bytes done undone st.part_is takes);
  shot = λ doc layers fits entered. shot_stands so doc layers st fits;
  held = λ who lines layer takes entered. part_stands so (with_held_in so.part who layer) st (held_hand so.part who layer) (held_stands so so.part who lines layer st.part_is takes);
  decided = λ bytes verdicts takes entered. decided_stands so so.part bytes verdicts st.sound st.taken st.part_is takes;
  end = λ fits entered. end_stands so st fits;
}

begun_stands : (e : Entry) (so : SoFar) → Begins e so → Stands so
begun_stands (entry.Restored place level documents snapshots text people) so b =
    let a = and_parts _ _ b.1.placed in
    let c = and_parts _ _ a.0 in
    let d = and_parts _ _ c.0 in
    let taken : snapshots ≤ place = leb-true snapshots place a.1 in
    subst Stands (sym b.2) (record {
      sound = record {
        kept = record { founding = b.1.founding; few = omega arith; total = omega arith; names = λ i j before within. absurd (omega arith); documents = none_all _; snapshots = none_all _; taken = omega arith };
        accepted = none_all _;
        free = refl;
        placed = ltb-true 0 place d.0;
        low = leb-true place (2 ^ 62) d.1;
      };
      taken = omega arith;
      part_is = tt;
    })
begun_stands _ so b = absurd b

pub stands : Flawless → (entries : List (List ℕ)) (so : SoFar) → IsReadTo entries so → Stands so
stands flawless _ _ (begins e so entered b) = begun_stands e so b
stands flawless _ _ (goes_on entries so now e read entered reads) =
    by_kind so Goes (stands_kinds flawless so (keepable entries so read) (stands flawless entries so read)) e now reads entered

-- a checkpoint tells a project that can be restored
pub checkpoint_sound : Flawless → (entries : List (List ℕ)) (s : ProjectState) → IsCheckpoint entries s → IsSound s
checkpoint_sound flawless entries s is = subst IsSound is.told (stands flawless entries is.so is.read).sound
