-- The entries of a checkpoint are the pieces of its project.
use Rattle.std.proofs.Common.{◌≡◌, ◌≢◌, ◌⊎◌, ℕ, ◌+◌, ◌-◌, ◌<◌, ◌≤◌, ◌==◌, ◌&&◌, ◌||◌, true, List, [], ◌∷◌, ◌++◌, length, map, get_or, replicate, nat_lt, zero, suc, refl, sym, ◌∙◌, ap, subst, arith, inl, inr, append_assoc}
use Rattle.std.specs.Prelude.{chars, ⊤}
use Rattle.std.proofs.lemmas.Bool.{and_parts, cases_lt, eqb-true, ltb-true, or_cases}
use Rattle.std.proofs.lemmas.Grind.{get_or-set_at}
use Rattle.std.proofs.lemmas.List.{get_or-set_other, map-append, set_past}
use Rattle.entry_bytes.specs.declared.entry.Entry.{Entry}
use Rattle.entry_bytes.specs.declared.entry.Entry.TheVariants as entry
use Rattle.entry_bytes.specs.Entries.{entry_bytes, IsEntry}
use Rattle.layer_model.specs.Annotations.{Annotations}
use Rattle.layer_core.specs.declared.command.Command.{Command}
use Rattle.conf_model.specs.ConfText.{conf_text}
use Rattle.project_machine.specs.Entries.{document_piece, pieces_of}
use Rattle.project_machine.specs.ProjectState.{Row, Document, ProjectState, annotators, blank_row, document, new_document, no_document, rater_of, row_at, with_row}
use Rattle.project_machine.proofs.RowLemmas.{Flawless, same_or}
use Rattle.checkpoint.specs.Projects.{put_row}
use Rattle.checkpoint.specs.declared.so_far.Part.{Part}
use Rattle.checkpoint.specs.declared.so_far.Part.TheVariants as part
use Rattle.checkpoint.specs.declared.so_far.SoFar.{SoFar}
use Rattle.checkpoint.specs.Reading.{Begins, TakesDraft, TakesHeld, TakesLayer, closed, closed_by, comes_next, end_fits, is_start, is_whole, row_fits, shot_fits, text_fits, with_draft, with_end, with_held_in, with_layer, with_named, with_shot, with_text}
use Rattle.checkpoint.specs.Runs.{IsCheckpoint, IsReadTo, begins, goes_on, is_ended}
use Rattle.checkpoint.proofs.KindLemmas.{Kinds, by_kind}
use Rattle.checkpoint.proofs.StandLemmas.{Stands, draft_hand, held_hand, in_hand, layer_hand, stands, told_next}
use Rattle.checkpoint.proofs.ToldPieces.{BlankFrom, HasNone, IsBlank, all_told, head_on, part_told, rows_told, shots_told}
use Rattle.checkpoint.proofs.ToldParts.{IsBare, closing, decided_told, draft_told, held_told, layer_told, named_told, part_grows, text_told}

-- nothing is wanted behind the last piece
abbrev pub IsDone : Part → ℕ → ℕ → Type 0
IsDone part.Ended texts shots = (texts ≡ 0) × (shots ≡ 0)
IsDone _ texts shots = ⊤

-- what is still to come was not told: the rows behind the open one are blank, nothing is parked in that before its piece, no snapshot stands where a row may come, and nothing is wanted behind the last piece
pub record Awaits (s : ProjectState) (p : Part) (texts shots : ℕ) : Type 0 where
  pub blank : IsBlank s p
  pub bare : IsBare p
  pub none : HasNone s p
  pub done : IsDone p texts shots

abbrev pub AwaitsIn : SoFar → Type 0
AwaitsIn so = Awaits so.state so.part so.texts so.shots

-- ---- documents

start_blank : (s : ProjectState) (p : Part) → is_start p ≡ true → IsBlank s p → (d r : ℕ) → row_at s d r ≡ blank_row
start_blank s part.Start e blank = blank
start_blank s (part.Row r) e blank = absurd cc
start_blank s (part.Shot h) e blank = absurd cc
start_blank s part.Shots e blank = absurd cc
start_blank s part.Ended e blank = absurd cc

start_none : (s : ProjectState) (p : Part) → is_start p ≡ true → HasNone s p → s.snapshots ≡ []
start_none s part.Start e none = none
start_none s (part.Row r) e none = absurd cc
start_none s (part.Shot h) e none = absurd cc
start_none s part.Shots e none = absurd cc
start_none s part.Ended e none = absurd cc

start_awaits : (s : ProjectState) (p : Part) (texts shots : ℕ) → is_start p ≡ true → ((d r : ℕ) → row_at s d r ≡ blank_row) → s.snapshots ≡ [] → Awaits s p texts shots
start_awaits s part.Start texts shots e blank none = record { blank = blank; bare = tt; none = none; done = tt }
start_awaits s (part.Row r) texts shots e blank none = absurd cc
start_awaits s (part.Shot h) texts shots e blank none = absurd cc
start_awaits s part.Shots texts shots e blank none = absurd cc
start_awaits s part.Ended texts shots e blank none = absurd cc

blank_rows : (n r : ℕ) → get_or (replicate n blank_row) r blank_row ≡ blank_row
blank_rows zero r = refl
blank_rows (suc n) zero = refl
blank_rows (suc n) (suc r) = blank_rows n r

blank_push : (ds : List Document) (one : Document) → ((d r : ℕ) → get_or (get_or ds d no_document).rows r blank_row ≡ blank_row) → ((r : ℕ) → get_or one.rows r blank_row ≡ blank_row) → (d r : ℕ) → get_or (get_or (ds ++ one ∷ []) d no_document).rows r blank_row ≡ blank_row
blank_push [] one all last zero r = last r
blank_push [] one all last (suc d) r = refl
blank_push (x ∷ ds) one all last zero r = all 0 r
blank_push (x ∷ ds) one all last (suc d) r = blank_push ds one (λ i j. all (suc i) j) last d r

-- a document that is read has blank rows
still_blank : (so : SoFar) (name text : List ℕ) → ((d r : ℕ) → row_at so.state d r ≡ blank_row) → (d r : ℕ) → row_at (with_text so name text).state d r ≡ blank_row
still_blank so name text blank = blank_push so.state.documents (new_document so.state name (chars text)) blank (λ r. blank_rows (length (annotators so.state)) r)

text_awaits : (so : SoFar) (name text : List ℕ) → AwaitsIn so → text_fits so name text ≡ true → AwaitsIn (with_text so name text)
text_awaits so name text h fits =
    let a = and_parts _ _ fits in
    let b = and_parts _ _ a.0 in
    let c = and_parts _ _ b.0 in
    let d = and_parts _ _ c.0 in
    start_awaits (with_text so name text).state so.part (so.texts - 1) so.shots d.0 (still_blank so name text (start_blank so.state so.part d.0 h.blank)) (start_none so.state so.part d.0 h.none)

text_more : (so : SoFar) (name text : List ℕ) → AwaitsIn so → text_fits so name text ≡ true → IsEntry (entry.Document name text) → all_told (with_text so name text) ≡ all_told so ++ entry.Document name text ∷ []
text_more so name text h fits entered =
    let a = and_parts _ _ fits in
    let b = and_parts _ _ a.0 in
    let c = and_parts _ _ b.0 in
    let d = and_parts _ _ c.0 in
    let blank : (d r : ℕ) → row_at so.state d r ≡ blank_row = start_blank so.state so.part d.0 h.blank in
    text_told so name text entered.1 d.0 (ltb-true 0 so.texts d.1) blank (still_blank so name text blank) (start_none so.state so.part d.0 h.none)

-- ---- rows

-- a row that is put into its place leaves the others as they were
put_other : (s : ProjectState) (doc rater : ℕ) (new : Row) (d r : ℕ) → (d ≢ doc) ⊎ (r ≢ rater) → row_at (put_row s doc rater new) d r ≡ row_at s d r
put_other s doc rater new d r (inl differs) = ap (λ (x : Document). get_or x.rows r blank_row) (get_or-set_other s.documents doc d (with_row rater new (document s doc)) no_document differs)
put_other s doc rater new d r (inr differs) =
    let one : Document = with_row rater new (document s doc) in
    elim (same_or d doc) as (λ _. row_at (put_row s doc rater new) d r ≡ row_at s d r) [
      | inr elsewhere ↦ ap (λ (x : Document). get_or x.rows r blank_row) (get_or-set_other s.documents doc d one no_document elsewhere)
      | inl here ↦ elim (cases_lt doc (length s.documents)) as (λ _. row_at (put_row s doc rater new) d r ≡ row_at s d r) [
        | inl within ↦
            ap (λ (x : Document). get_or x.rows r blank_row) (get_or-set_at s.documents doc d one no_document here within)
            ∙ (get_or-set_other (document s doc).rows rater r new blank_row differs ∙ ap (λ n. row_at s n r) (sym here))
        | inr past ↦ ap (λ (xs : List Document). get_or (get_or xs d no_document).rows r blank_row) (set_past s.documents doc one past)
      ]
    ]

-- the rows behind the open one are blank still when it is in its place
behind_put : (s : ProjectState) (doc rater : ℕ) (new : Row) (next place : ℕ) → (doc < next) ⊎ ((doc ≡ next) × (rater < place)) → BlankFrom s doc rater → BlankFrom (put_row s doc rater new) next place
behind_put s doc rater new next place (inl later) blank d r at =
    let above : doc < d = reached next place d r at later in
    let differs : d ≢ doc = λ e. absurd (omega arith) in
    put_other s doc rater new d r (inl differs) ∙ blank d r (inl above)
  where
    reached : (next place d r : ℕ) → (next < d) ⊎ ((d ≡ next) × (place ≤ r)) → doc < next → doc < d
    reached next place d r (inl more) later = omega arith
    reached next place d r (inr same) later = let e : d ≡ next = same.0 in omega arith
behind_put s doc rater new next place (inr same) blank d r (inl more) =
    let e : doc ≡ next = same.0 in
    let above : doc < d = omega arith in
    let differs : d ≢ doc = λ f. absurd (omega arith) in
    put_other s doc rater new d r (inl differs) ∙ blank d r (inl above)
behind_put s doc rater new next place (inr same) blank d r (inr at) =
    let e : doc ≡ next = same.0 in
    let less : rater < place = same.1 in
    let f : d ≡ next = at.0 in
    let up : place ≤ r = at.1 in
    let here : d ≡ doc = omega arith in
    let behind : rater ≤ r = omega arith in
    let differs : r ≢ rater = λ g. absurd (omega arith) in
    put_other s doc rater new d r (inr differs) ∙ blank d r (inr (here, behind))

later_of : (a b c d : ℕ) → (nat_lt a b || (a == b && nat_lt c d)) ≡ true → (a < b) ⊎ ((a ≡ b) × (c < d))
later_of a b c d e =
    elim (or_cases (nat_lt a b) (a == b && nat_lt c d) e) as (λ _. (a < b) ⊎ ((a ≡ b) × (c < d))) [
      | inl above ↦ inl (ltb-true a b above)
      | inr same ↦ inr (eqb-true a b (and_parts (a == b) (nat_lt c d) same).0, ltb-true c d (and_parts (a == b) (nat_lt c d) same).1)
    ]

next_blank : (s : ProjectState) (p : Part) (doc rater : ℕ) → comes_next p doc rater ≡ true → IsBlank s p → BlankFrom (closed_by p s) doc rater
next_blank s part.Start doc rater e blank = λ d r at. blank d r
next_blank s (part.Row r) doc rater e blank = behind_put s r.doc r.rater r.row doc rater (later_of r.doc doc r.rater rater (and_parts _ _ e).1) blank
next_blank s (part.Shot h) doc rater e blank = absurd cc
next_blank s part.Shots doc rater e blank = absurd cc
next_blank s part.Ended doc rater e blank = absurd cc

next_none : (s : ProjectState) (p : Part) (doc rater : ℕ) → comes_next p doc rater ≡ true → HasNone s p → (closed_by p s).snapshots ≡ []
next_none s part.Start doc rater e none = none
next_none s (part.Row r) doc rater e none = none
next_none s (part.Shot h) doc rater e none = absurd cc
next_none s part.Shots doc rater e none = absurd cc
next_none s part.Ended doc rater e none = absurd cc

row_next : (so : SoFar) (doc : ℕ) (who : List ℕ) (revision flags : ℕ) → row_fits so doc who revision flags ≡ true → comes_next so.part doc (rater_of so.state who) ≡ true
row_next so doc who revision flags fits =
    let a = and_parts _ _ fits in
    let b = and_parts _ _ a.0 in
    let c = and_parts _ _ b.0 in
    let d = and_parts _ _ c.0 in
    (and_parts _ _ d.0).1

row_awaits : (so : SoFar) (doc : ℕ) (who : List ℕ) (revision flags : ℕ) → AwaitsIn so → row_fits so doc who revision flags ≡ true → AwaitsIn (with_named so doc who revision flags)
row_awaits so doc who revision flags h fits =
    let next : comes_next so.part doc (rater_of so.state who) ≡ true = row_next so doc who revision flags fits in
    record { blank = next_blank so.state so.part doc (rater_of so.state who) next h.blank; bare = (refl, refl); none = next_none so.state so.part doc (rater_of so.state who) next h.none; done = tt }

row_more : (so : SoFar) (doc : ℕ) (who : List ℕ) (revision flags : ℕ) → Stands so → AwaitsIn so → row_fits so doc who revision flags ≡ true → flags < 4
    → all_told (with_named so doc who revision flags) ≡ all_told so ++ entry.Row doc who revision flags ∷ []
row_more so doc who revision flags st h fits low =
    let next : comes_next so.part doc (rater_of so.state who) ≡ true = row_next so doc who revision flags fits in
    closing so so.shots (with_named so doc who revision flags).part (entry.Row doc who revision flags) st.sound st.part_is h.blank h.none (told_next so.part doc (rater_of so.state who) next) (omega arith)
    (named_told (closed so) doc (rater_of so.state who) who revision flags low)

layer_awaits : (s : ProjectState) (p : Part) (texts shots : ℕ) (lines : List ℕ) (layer : Annotations) → Awaits s p texts shots → TakesLayer s p lines layer → Awaits s (with_layer p layer) texts shots
layer_awaits s (part.Row r) texts shots lines layer h takes = record { blank = h.blank; bare = (ltb-true 0 r.row.revision (and_parts _ _ takes.0).1, refl, refl); none = h.none; done = tt }
layer_awaits s _ texts shots lines layer h takes = absurd takes

draft_awaits : (s : ProjectState) (p : Part) (texts shots : ℕ) (bytes : List ℕ) (done undone : List Command) → Awaits s p texts shots → TakesDraft s p bytes done undone → Awaits s (with_draft p done undone) texts shots
draft_awaits s (part.Row r) texts shots bytes done undone h takes = record { blank = h.blank; bare = tt; none = h.none; done = tt }
draft_awaits s _ texts shots bytes done undone h takes = absurd takes

-- ---- all pieces

wanted_less : (so : SoFar) (doc layers : ℕ) → shot_fits so doc layers ≡ true → (is_whole so.part ≡ true) × (0 < so.shots)
wanted_less so doc layers fits =
    let a = and_parts _ _ fits in
    let b = and_parts _ _ a.0 in
    let c = and_parts _ _ b.0 in
    let d = and_parts _ _ c.0 in
    ((and_parts _ _ d.0).1, ltb-true 0 so.shots d.1)

shot_more : (so : SoFar) (doc layers : ℕ) → Stands so → AwaitsIn so → shot_fits so doc layers ≡ true → all_told (with_shot so doc layers) ≡ all_told so ++ entry.Snapshot doc layers ∷ []
shot_more so doc layers st h fits =
    let is : (is_whole so.part ≡ true) × (0 < so.shots) = wanted_less so doc layers fits in
    let some : 0 < so.shots = is.1 in
    closing so (so.shots - 1) (with_shot so doc layers).part (entry.Snapshot doc layers) st.sound st.part_is h.blank h.none is.0 (omega arith) refl

end_more : (so : SoFar) → Stands so → AwaitsIn so → end_fits so ≡ true → all_told (with_end so) ≡ all_told so ++ entry.End ∷ []
end_more so st h fits =
    let all : 0 + so.shots ≡ so.shots = omega arith in
    let a = and_parts _ _ fits in
    let b = and_parts _ _ a.0 in
    closing so so.shots part.Ended entry.End st.sound st.part_is h.blank h.none b.1 all refl

end_awaits : (so : SoFar) → end_fits so ≡ true → AwaitsIn (with_end so)
end_awaits so fits =
    let a = and_parts _ _ fits in
    let b = and_parts _ _ a.0 in
    record { blank = tt; bare = tt; none = tt; done = (eqb-true so.texts 0 b.0, eqb-true so.shots 0 a.1) }

abbrev pub Awaiting : Entry → SoFar → Type 0
Awaiting e now = AwaitsIn now

awaits_kinds : (so : SoFar) → AwaitsIn so → Kinds so Awaiting
awaits_kinds so h = record {
  text = λ name text fits. text_awaits so name text h fits;
  row = λ doc who revision flags fits. row_awaits so doc who revision flags h fits;
  layer = λ lines layer takes. layer_awaits so.state so.part so.texts so.shots lines layer h takes;
  draft = λ bytes done undone takes. draft_awaits so.state so.part so.texts so.shots bytes done undone h takes;
  shot = λ doc layers fits. record { blank = tt; bare = tt; none = tt; done = tt };
  held = λ who lines layer takes. held_awaits so.state so.part so.texts so.shots who lines layer takes;
  decided = λ bytes verdicts takes. record { blank = tt; bare = tt; none = tt; done = tt };
  end = λ fits. end_awaits so fits;
}
  where
    held_awaits : (s : ProjectState) (p : Part) (texts shots : ℕ) (who lines : List ℕ) (layer : Annotations) → TakesHeld s p who lines layer → Awaits s (with_held_in p who layer) texts shots
    held_awaits s (part.Shot h) texts shots who lines layer takes = record { blank = tt; bare = tt; none = tt; done = tt }
    held_awaits s _ texts shots who lines layer takes = absurd takes

begun_awaits : (e : Entry) (so : SoFar) → Begins e so → AwaitsIn so
begun_awaits (entry.Restored place level documents snapshots text people) so b = subst AwaitsIn (sym b.2) (record { blank = λ d r. refl; bare = tt; none = refl; done = tt })
begun_awaits _ so b = absurd b

awaits : (entries : List (List ℕ)) (so : SoFar) → IsReadTo entries so → AwaitsIn so
awaits _ _ (begins e so entered b) = begun_awaits e so b
awaits _ _ (goes_on entries so now e read entered reads) = by_kind so Awaiting (awaits_kinds so (awaits entries so read)) e now reads

-- a piece is told behind those so far
abbrev pub TellsMore : SoFar → Entry → SoFar → Type 0
TellsMore so e now = IsEntry e → all_told now ≡ all_told so ++ e ∷ []

more_kinds : (so : SoFar) → Stands so → AwaitsIn so → Kinds so (TellsMore so)
more_kinds so st h = record {
  text = λ name text fits entered. text_more so name text h fits entered;
  row = λ doc who revision flags fits entered. row_more so doc who revision flags st h fits entered.3;
  layer = λ lines layer takes entered. part_grows so (with_layer so.part layer) (entry.Layer lines) (layer_hand so.part layer) (layer_told so.state so.part lines layer takes);
  draft = λ bytes done undone takes entered. part_grows so (with_draft so.part done undone) (entry.Draft bytes) (draft_hand so.part done undone) (draft_told so.state so.part bytes done undone h.bare takes);
  shot = λ doc layers fits entered. shot_more so doc layers st h fits;
  held = λ who lines layer takes entered. part_grows so (with_held_in so.part who layer) (entry.HeldLayer who lines) (held_hand so.part who layer) (held_told so.state so.part who lines layer takes);
  decided = λ bytes verdicts takes entered. decided_told so bytes verdicts takes;
  end = λ fits entered. end_more so st h fits;
}

begun_told : (e : Entry) (so : SoFar) → Begins e so → all_told so ≡ e ∷ []
begun_told (entry.Restored place level documents snapshots text people) so b =
    let docs : 0 + documents ≡ documents = omega arith in
    let shots : 0 + 0 + snapshots ≡ snapshots = omega arith in
    ap all_told b.2
    ∙ (ap (λ n. entry.Restored place level n (0 + 0 + snapshots) (conf_text b.0) people ∷ []) docs
    ∙ (ap (λ n. entry.Restored place level documents n (conf_text b.0) people ∷ []) shots
    ∙ ap (λ (t : List ℕ). entry.Restored place level documents snapshots t people ∷ []) (sym b.1.is)))
begun_told _ so b = absurd b

-- the entries that were read are the pieces so far
told : Flawless → (entries : List (List ℕ)) (so : SoFar) → IsReadTo entries so → entries ≡ map entry_bytes (all_told so)
told flawless _ _ (begins e so entered b) = sym (ap (λ (x : List Entry). map entry_bytes x) (begun_told e so b))
told flawless _ _ (goes_on entries so now e read entered reads) =
    ap (λ (x : List (List ℕ)). x ++ entry_bytes e ∷ []) (told flawless entries so read)
    ∙ (sym (map-append entry_bytes (all_told so) (e ∷ []))
    ∙ sym (ap (λ (x : List Entry). map entry_bytes x) (by_kind so (TellsMore so) (more_kinds so (stands flawless entries so read) (awaits entries so read)) e now reads entered)))

-- ---- all pieces of a checkpoint

ended_part : (s : ProjectState) (p : Part) → is_ended p ≡ true → part_told s p ≡ entry.End ∷ []
ended_part s part.Start e = absurd cc
ended_part s (part.Row r) e = absurd cc
ended_part s (part.Shot h) e = absurd cc
ended_part s part.Shots e = absurd cc
ended_part s part.Ended e = refl

ended_hand : (p : Part) → is_ended p ≡ true → in_hand p ≡ 0
ended_hand part.Start e = refl
ended_hand (part.Row r) e = refl
ended_hand (part.Shot h) e = absurd cc
ended_hand part.Shots e = refl
ended_hand part.Ended e = refl

ended_done : (p : Part) (texts shots : ℕ) → is_ended p ≡ true → IsDone p texts shots → (texts ≡ 0) × (shots ≡ 0)
ended_done part.Start texts shots e done = absurd cc
ended_done (part.Row r) texts shots e done = absurd cc
ended_done (part.Shot h) texts shots e done = absurd cc
ended_done part.Shots texts shots e done = absurd cc
ended_done part.Ended texts shots e done = done

-- behind the last piece they are all pieces of the project
all_pieces : (so : SoFar) → AwaitsIn so → is_ended so.part ≡ true → all_told so ≡ pieces_of so.state
unfolding pieces_of
all_pieces so h ended =
    let s = so.state in
    let done : (so.texts ≡ 0) × (so.shots ≡ 0) = ended_done so.part so.texts so.shots ended h.done in
    let hand : in_hand so.part ≡ 0 = ended_hand so.part ended in
    let texts : so.texts ≡ 0 = done.0 in
    let shots : so.shots ≡ 0 = done.1 in
    let docs : length s.documents + so.texts ≡ length s.documents = omega arith in
    let taken : length s.snapshots + in_hand so.part + so.shots ≡ length s.snapshots = omega arith in
    let front : List Entry = head_on s (length s.documents) (length s.snapshots) ∷ map document_piece s.documents in
    ap (λ n. (head_on s n (length s.snapshots + in_hand so.part + so.shots) ∷ map document_piece s.documents) ++ ((rows_told s ++ shots_told s) ++ part_told s so.part)) docs
    ∙ (ap (λ n. (head_on s (length s.documents) n ∷ map document_piece s.documents) ++ ((rows_told s ++ shots_told s) ++ part_told s so.part)) taken
    ∙ (ap (λ (x : List Entry). front ++ ((rows_told s ++ shots_told s) ++ x)) (ended_part s so.part ended)
    ∙ (sym (append_assoc front (rows_told s ++ shots_told s) (entry.End ∷ []))
    ∙ ap (λ (x : List Entry). x ++ entry.End ∷ []) (sym (append_assoc front (rows_told s) (shots_told s))))))

-- the entries of a checkpoint are the pieces of its project
pub are_pieces : Flawless → (entries : List (List ℕ)) (s : ProjectState) → IsCheckpoint entries s → entries ≡ map entry_bytes (pieces_of s)
are_pieces flawless entries s is =
    told flawless entries is.so is.read
    ∙ (ap (λ (x : List Entry). map entry_bytes x) (all_pieces is.so (awaits entries is.so is.read) is.ended) ∙ ap (λ (x : ProjectState). map entry_bytes (pieces_of x)) is.told)
