-- A row of a project that can be restored is read.
use Rattle.std.proofs.Common.{◌≡◌, ◌⊎◌, ℕ, ◌+◌, ◌<◌, ◌≤◌, ◌^◌, ◌==◌, ◌&&◌, ◌||◌, Bool, true, false, cond, List, [], ◌∷◌, ◌++◌, length, nat_lt, Option, None, zero, suc, refl, sym, ◌∙◌, ap, subst, arith, inl, inr}
use Rattle.std.specs.Prelude.{nat_le}
use Rattle.std.proofs.lemmas.Bool.{and_from, eq-eqb, le-leb, lt-ltb, ltb-false, ltb-true, or_left, or_right}
use Rattle.entry_bytes.specs.declared.entry.Entry.{Entry}
use Rattle.entry_bytes.specs.declared.entry.Entry.TheVariants as entry
use Rattle.entry_bytes.specs.declared.person.Person.{Person}
use Rattle.entry_bytes.specs.Entries.{IsEntry}
use Rattle.entry_bytes.specs.Fields.{flag, IsSlug}
use Rattle.layer_model.specs.Annotations.{Annotations, no_marks}
use Rattle.layer_core.specs.declared.command.Command.{Command}
use Rattle.ann_writer.specs.AnnOf.{ann_of}
use Rattle.command_bytes.specs.CommandBytes.{scripts_bytes}
use Rattle.project_machine.specs.Entries.{flags_of, has_draft, is_committed, lines_in, pieces_where, row_pieces}
use Rattle.project_machine.specs.Legal.{IsRowKept, IsSound}
use Rattle.project_machine.specs.ProjectState.{Row, ProjectState, blank_row, document, is_annotator, rater_of, row_at}
use Rattle.project_state.proofs.EntriesProofs.SizeLemmas.{commit_long}
use Rattle.checkpoint.specs.declared.so_far.Part.{Part}
use Rattle.checkpoint.specs.declared.so_far.Part.TheVariants as part
use Rattle.checkpoint.specs.declared.so_far.SoFar.{SoFar}
use Rattle.checkpoint.specs.declared.so_far.Stage.{Stage}
use Rattle.checkpoint.specs.declared.so_far.Stage.TheVariants as stage
use Rattle.checkpoint.specs.Reading.{AreLines, AreParked, closed, closed_by, comes_next, is_told, is_whole, named_row, row_fits, with_named}
use Rattle.checkpoint.proofs.KeepableLemmas.{closed_length}
use Rattle.checkpoint.proofs.SamePieces.{of_document}
use Rattle.checkpoint.proofs.SoundEntries.{WrittenIsUtf8, flags_low, lines_are}
use Rattle.checkpoint.proofs.SoundRows.{blanked, blanked_many, blanked_put, blanked_same, blanked_text}
use Rattle.checkpoint.proofs.SoundWalk.{Goes, goes_none}

-- a row of a document stands at a place or behind it
abbrev pub IsBehind : ℕ → ℕ → ℕ → ℕ → Type 0
IsBehind doc rater d r = (doc < d) ⊎ ((doc ≡ d) × (rater ≤ r))

-- all rows before a place were read, and no snapshot was begun
pub record IsAt (s : ProjectState) (doc rater : ℕ) (so : SoFar) : Type 0 where
  pub texts : so.texts ≡ 0
  pub shots : so.shots ≡ length s.snapshots
  pub told : closed so ≡ blanked s doc rater
  pub whole : is_whole so.part ≡ true
  pub next : (d r : ℕ) → IsBehind doc rater d r → comes_next so.part d r ≡ true

-- ---- what an open row leaves of a project

people_stay : (p : Part) (s : ProjectState) → (closed_by p s).people ≡ s.people
people_stay (part.Row r) s = refl
people_stay _ s = refl

place_stays : (p : Part) (s : ProjectState) → (closed_by p s).place ≡ s.place
place_stays (part.Row r) s = refl
place_stays _ s = refl

many_stay : (p : Part) (s : ProjectState) → length (closed_by p s).documents ≡ length s.documents
many_stay p s = closed_length p s

people_are : (s : ProjectState) (doc rater : ℕ) (so : SoFar) → IsAt s doc rater so → so.state.people ≡ s.people
people_are s doc rater so at = sym (people_stay so.part so.state) ∙ ap (λ (x : ProjectState). x.people) at.told

place_is : (s : ProjectState) (doc rater : ℕ) (so : SoFar) → IsAt s doc rater so → so.state.place ≡ s.place
place_is s doc rater so at = sym (place_stays so.part so.state) ∙ ap (λ (x : ProjectState). x.place) at.told

many_are : (s : ProjectState) (doc rater : ℕ) (so : SoFar) → IsAt s doc rater so → length so.state.documents ≡ length s.documents
many_are s doc rater so at = sym (many_stay so.part so.state) ∙ (ap (λ (x : ProjectState). length x.documents) at.told ∙ blanked_many s doc rater)

-- the place of a name, and whether it is one, are told by the people
rater_same : (s t : ProjectState) (who : List ℕ) → s.people ≡ t.people → rater_of s who ≡ rater_of t who
rater_same s t who e = ap (λ (people : List Person). rater_of (record s { people = people }) who) e

annotator_same : (s t : ProjectState) (who : List ℕ) → s.people ≡ t.people → is_annotator s who ≡ is_annotator t who
annotator_same s t who e = ap (λ (people : List Person). is_annotator (record s { people = people }) who) e

-- ---- the row at a place

-- what is kept of the row of an annotator at a place of a document
pub record IsHere (s : ProjectState) (doc rater : ℕ) (who : List ℕ) (q : Row) : Type 0 where
  pub within : doc < length s.documents
  pub low : rater < length (document s doc).rows
  pub is : q ≡ row_at s doc rater
  pub slug : IsSlug who
  pub annotates : is_annotator s who ≡ true
  pub placed : rater_of s who ≡ rater
  pub kept : IsRowKept s.conf (document s doc).text s.place who q
  pub free : q.hold ≡ None

rows_equal : (r q : Row) → r.revision ≡ q.revision → r.layer ≡ q.layer → r.done ≡ q.done → r.undone ≡ q.undone → r.hold ≡ q.hold → r.finished ≡ q.finished → r.ignored ≡ q.ignored → r ≡ q
rows_equal r q revision layer done undone hold finished ignored =
    ap (λ (x : ℕ). let row : Row = record { revision = x; layer = r.layer; done = r.done; undone = r.undone; hold = r.hold; finished = r.finished; ignored = r.ignored } in row) revision
    ∙ (ap (λ (x : Annotations). let row : Row = record { revision = q.revision; layer = x; done = r.done; undone = r.undone; hold = r.hold; finished = r.finished; ignored = r.ignored } in row) layer
    ∙ (ap (λ (x : List Command). let row : Row = record { revision = q.revision; layer = q.layer; done = x; undone = r.undone; hold = r.hold; finished = r.finished; ignored = r.ignored } in row) done
    ∙ (ap (λ (x : List Command). let row : Row = record { revision = q.revision; layer = q.layer; done = q.done; undone = x; hold = r.hold; finished = r.finished; ignored = r.ignored } in row) undone
    ∙ (ap (λ (x : Option ℕ). let row : Row = record { revision = q.revision; layer = q.layer; done = q.done; undone = q.undone; hold = x; finished = r.finished; ignored = r.ignored } in row) hold
    ∙ (ap (λ (x : Bool). let row : Row = record { revision = q.revision; layer = q.layer; done = q.done; undone = q.undone; hold = q.hold; finished = x; ignored = r.ignored } in row) finished
    ∙ ap (λ (x : Bool). let row : Row = record { revision = q.revision; layer = q.layer; done = q.done; undone = q.undone; hold = q.hold; finished = q.finished; ignored = x } in row) ignored)))))

-- nothing was committed in a row
never : (q : Row) → is_committed q ≡ false → q.revision ≡ 0
never q none = let low : q.revision ≤ 0 = ltb-false 0 q.revision none in omega arith

no_commands : (cs : List Command) → length cs ≤ 0 → cs ≡ []
no_commands [] none = refl
no_commands (c ∷ cs) none = absurd (omega arith)

-- nothing is parked in a row
bare : (q : Row) → has_draft q ≡ false → (q.done ≡ []) × (q.undone ≡ [])
bare q none =
    let low : length q.done + length q.undone ≤ 0 = ltb-false 0 (length q.done + length q.undone) none in
    (no_commands q.done (omega arith), no_commands q.undone (omega arith))

finished_back : (a b : Bool) → ((flag a + cond b 2 0) == 1 || (flag a + cond b 2 0) == 3) ≡ a
finished_back true true = refl
finished_back true false = refl
finished_back false true = refl
finished_back false false = refl

ignored_back : (a b : Bool) → nat_le 2 (flag a + cond b 2 0) ≡ b
ignored_back true true = refl
ignored_back true false = refl
ignored_back false true = refl
ignored_back false false = refl

flags_none : (a b : Bool) → a ≡ false → b ≡ false → flag a + cond b 2 0 ≡ 0
flags_none a b e f = ap (λ (x : Bool). flag x + cond b 2 0) e ∙ ap (λ (x : Bool). flag false + cond x 2 0) f

-- the flags fit the number of commits
flags_fit : (n : ℕ) (a b : Bool) → (n ≡ 0 → a ≡ false) → (n ≡ 0 → b ≡ false) → (nat_lt 0 n || (flag a + cond b 2 0) == 0) ≡ true
flags_fit zero a b e f = or_right (nat_lt 0 zero) ((flag a + cond b 2 0) == 0) (eq-eqb (flag a + cond b 2 0) 0 (flags_none a b (e refl) (f refl)))
flags_fit (suc n) a b e f = or_left (nat_lt 0 (suc n)) ((flag a + cond b 2 0) == 0) (lt-ltb 0 (suc n) (omega arith))

-- a row of this layer and these commands, with the number of commits and the flags of another
abbrev told_row : Row → Annotations → List Command → List Command → Row
told_row q layer done undone = record { revision = q.revision; layer = layer; done = done; undone = undone; hold = None; finished = flags_of q == 1 || flags_of q == 3; ignored = nat_le 2 (flags_of q) }

told_is : (q : Row) (layer : Annotations) (done undone : List Command) → layer ≡ q.layer → done ≡ q.done → undone ≡ q.undone → q.hold ≡ None → told_row q layer done undone ≡ q
told_is q layer done undone same did undid free = rows_equal (told_row q layer done undone) q refl same did undid (sym free) (finished_back q.finished q.ignored) (ignored_back q.finished q.ignored)

blank_so : (q : Row) → q.hold ≡ None → (q.revision ≡ 0) × (q.layer ≡ no_marks) × (q.finished ≡ false) × (q.ignored ≡ false) → has_draft q ≡ false → q ≡ blank_row
blank_so q free none bare_is =
    let parked : (q.done ≡ []) × (q.undone ≡ []) = bare q bare_is in
    rows_equal q blank_row none.0 none.1 parked.0 parked.1 free none.2 none.3

-- ---- the piece of a row

-- what is left where a row is open
abbrev opened : ProjectState → ℕ → ℕ → SoFar → List ℕ → Row → Stage → SoFar
opened s doc rater so who row st = record { state = blanked s doc rater; texts = so.texts; room = so.room; shots = so.shots; part = part.Row (record { doc = doc; rater = rater; who = who; row = row; stage = st }) }

-- so it is of another project and another place that are the same
abbrev open_on : ℕ → SoFar → List ℕ → Row → ProjectState → ℕ → SoFar
open_on doc so who row s rater = record { state = s; texts = so.texts; room = so.room; shots = so.shots; part = part.Row (record { doc = doc; rater = rater; who = who; row = row; stage = stage.Named }) }

row_is_read : (s : ProjectState) (doc rater : ℕ) (who : List ℕ) (q : Row) (so : SoFar) → IsHere s doc rater who q → IsAt s doc rater so
    → (row_fits so doc who q.revision (flags_of q) ≡ true) × (opened s doc rater so who (named_row q.revision (flags_of q)) stage.Named ≡ with_named so doc who q.revision (flags_of q))
row_is_read s doc rater who q so here at =
    let people : so.state.people ≡ s.people = people_are s doc rater so at in
    let placed : rater_of so.state who ≡ rater = rater_same so.state s who people ∙ here.placed in
    let many : length so.state.documents ≡ length s.documents = many_are s doc rater so at in
    let within : doc < length s.documents = here.within in
    let place : so.state.place ≡ s.place = place_is s doc rater so at in
    let counted : q.revision ≤ s.place = here.kept.counted in
    let behind : rater ≤ rater_of so.state who = omega (arith, placed) in
    let inside : doc < length so.state.documents = omega (arith, many, within) in
    let low : q.revision ≤ so.state.place = omega (arith, place, counted) in (
      and_from _ _ (and_from _ _ (and_from _ _ (and_from _ _ (and_from _ _ (eq-eqb so.texts 0 at.texts) (at.next doc (rater_of so.state who) (inr (refl, behind)))) (lt-ltb doc (length so.state.documents) inside)) (annotator_same so.state s who people ∙ here.annotates)) (le-leb q.revision so.state.place low))
          (flags_fit q.revision q.finished q.ignored here.kept.finished here.kept.ignored),
      ap (λ (t : ProjectState). open_on doc so who (named_row q.revision (flags_of q)) t rater) (sym at.told)
          ∙ ap (λ (n : ℕ). open_on doc so who (named_row q.revision (flags_of q)) (closed so) n) (sym placed),
    )

row_entered : (s : ProjectState) (doc rater : ℕ) (who : List ℕ) (q : Row) → IsSound s → IsHere s doc rater who q → IsEntry (entry.Row doc who q.revision (flags_of q))
row_entered s doc rater who q sound here =
    let few : length s.documents ≤ 4096 = sound.kept.few in
    let within : doc < length s.documents = here.within in
    let low : s.place ≤ 2 ^ 62 = sound.low in
    let counted : q.revision ≤ s.place = here.kept.counted in
    let short : doc < 2 ^ 32 = omega (arith, few, within) in
    let long : q.revision < 2 ^ 64 = omega (arith, low, counted) in
    (short, here.slug, long, flags_low q.finished q.ignored)

-- ---- the layer, and what is parked

layer_entered : WrittenIsUtf8 → (s : ProjectState) (doc rater : ℕ) (who : List ℕ) (q : Row) → IsSound s → IsHere s doc rater who q → is_committed q ≡ true → IsEntry (entry.Layer (lines_in s doc q.layer))
layer_entered written s doc rater who q sound here some =
    lines_are written s.conf (document s doc).text q.layer (of_document s doc sound.kept here.within) here.kept.layer.typed (commit_long who 0 0 (ann_of s.conf (document s doc).text q.layer) (here.kept.commit (ltb-true 0 q.revision some)))

lines_here : (s : ProjectState) (doc rater : ℕ) (who : List ℕ) (q : Row) → IsHere s doc rater who q → AreLines s.conf (document (blanked s doc rater) doc).text (lines_in s doc q.layer) q.layer
lines_here s doc rater who q here =
    subst (λ (w : List ℕ). AreLines s.conf w (lines_in s doc q.layer) q.layer) (sym (blanked_text s doc rater doc)) (record { obeys = here.kept.layer; are = refl })

parked_here : (s : ProjectState) (doc rater : ℕ) (who : List ℕ) (q : Row) (layer : Annotations) → IsHere s doc rater who q → layer ≡ q.layer → has_draft q ≡ true
    → AreParked s.conf (document (blanked s doc rater) doc).text layer (scripts_bytes s.conf (document s doc).text q.done q.undone) q.done q.undone
parked_here s doc rater who q layer here same some =
    let bytes : List ℕ = scripts_bytes s.conf (document s doc).text q.done q.undone in
    subst (λ (w : List ℕ). AreParked s.conf w layer bytes q.done q.undone) (sym (blanked_text s doc rater doc))
    (subst (λ (l : Annotations). AreParked s.conf (document s doc).text l bytes q.done q.undone) (sym same)
    (record { based = here.kept.layer.obeys.well_formed; some = ltb-true 0 (length q.done + length q.undone) some; typed = here.kept.commands; accepted = here.kept.accepted; are = refl }))

-- ---- behind a row

-- a place behind the open row comes next
next_behind : (doc rater d r : ℕ) → IsBehind doc (suc rater) d r → (nat_lt doc d || (doc == d && nat_lt rater r)) ≡ true
next_behind doc rater d r (inl later) = or_left (nat_lt doc d) (doc == d && nat_lt rater r) (lt-ltb doc d later)
next_behind doc rater d r (inr same) = or_right (nat_lt doc d) (doc == d && nat_lt rater r) (and_from (doc == d) (nat_lt rater r) (eq-eqb doc d same.0) (lt-ltb rater r (omega (arith, same.1))))

-- the row is whole, and the next place is reached
row_behind : (s : ProjectState) (doc rater : ℕ) (who : List ℕ) (q : Row) (so : SoFar) (layer : Annotations) (done undone : List Command) (st : Stage) → IsHere s doc rater who q → IsAt s doc rater so → is_told st ≡ true → layer ≡ q.layer → done ≡ q.done → undone ≡ q.undone
    → IsAt s doc (suc rater) (opened s doc rater so who (told_row q layer done undone) st)
row_behind s doc rater who q so layer done undone st here at told same did undid = record {
  texts = at.texts;
  shots = at.shots;
  told = blanked_put s doc rater (told_row q layer done undone) here.within here.low (told_is q layer done undone same did undid here.free ∙ here.is);
  whole = told;
  next = λ d r behind. and_from (is_told st) (nat_lt doc d || (doc == d && nat_lt rater r)) told (next_behind doc rater d r behind);
}

-- a blank row has no piece
blank_behind : (s : ProjectState) (doc rater : ℕ) (who : List ℕ) (q : Row) (so : SoFar) → IsHere s doc rater who q → IsAt s doc rater so → is_committed q ≡ false → has_draft q ≡ false → IsAt s doc (suc rater) so
blank_behind s doc rater who q so here at none bare_is =
    let zeroth : q.revision ≡ 0 = never q none in
    let blank : q ≡ blank_row = blank_so q here.free (zeroth, here.kept.empty zeroth, here.kept.finished zeroth, here.kept.ignored zeroth) bare_is in
    record {
      texts = at.texts;
      shots = at.shots;
      told = at.told ∙ blanked_same s doc rater here.within here.low (sym here.is ∙ blank);
      whole = at.whole;
      next = λ d r behind. at.next d r (earlier d r behind);
    }
  where
    earlier : (d r : ℕ) → IsBehind doc (suc rater) d r → IsBehind doc rater d r
    earlier d r (inl later) = inl later
    earlier d r (inr same) = inr (same.0, omega (arith, same.1))

-- ---- the pieces of a row

-- a row that was committed, and one in which something is parked too, and one that was never committed
committed_read : WrittenIsUtf8 → (s : ProjectState) (doc rater : ℕ) (who : List ℕ) (q : Row) (so : SoFar) → IsSound s → IsHere s doc rater who q → IsAt s doc rater so → is_committed q ≡ true → has_draft q ≡ false
    → Goes so (entry.Row doc who q.revision (flags_of q) ∷ entry.Layer (lines_in s doc q.layer) ∷ []) (IsAt s doc (suc rater))
committed_read written s doc rater who q so sound here at some none =
    let parked : (q.done ≡ []) × (q.undone ≡ []) = bare q none in
    let named : SoFar = opened s doc rater so who (named_row q.revision (flags_of q)) stage.Named in
    let layered : SoFar = opened s doc rater so who (told_row q q.layer [] []) stage.Committed in
    record {
      now = layered;
      run = (
        named,
        row_entered s doc rater who q sound here,
        row_is_read s doc rater who q so here at,
        (
          layered,
          layer_entered written s doc rater who q sound here some,
          (q.layer, (and_from true (nat_lt 0 q.revision) refl some, here.kept.commit (ltb-true 0 q.revision some), lines_here s doc rater who q here), refl),
          refl,
        ),
      );
      is = row_behind s doc rater who q so q.layer [] [] stage.Committed here at refl refl (sym parked.0) (sym parked.1);
    }

both_read : WrittenIsUtf8 → (s : ProjectState) (doc rater : ℕ) (who : List ℕ) (q : Row) (so : SoFar) → IsSound s → IsHere s doc rater who q → IsAt s doc rater so → is_committed q ≡ true → has_draft q ≡ true
    → Goes so (entry.Row doc who q.revision (flags_of q) ∷ entry.Layer (lines_in s doc q.layer) ∷ entry.Draft (scripts_bytes s.conf (document s doc).text q.done q.undone) ∷ []) (IsAt s doc (suc rater))
both_read written s doc rater who q so sound here at some parked =
    let named : SoFar = opened s doc rater so who (named_row q.revision (flags_of q)) stage.Named in
    let layered : SoFar = opened s doc rater so who (told_row q q.layer [] []) stage.Committed in
    let drafted : SoFar = opened s doc rater so who (told_row q q.layer q.done q.undone) stage.Parked in
    record {
      now = drafted;
      run = (
        named,
        row_entered s doc rater who q sound here,
        row_is_read s doc rater who q so here at,
        (
          layered,
          layer_entered written s doc rater who q sound here some,
          (q.layer, (and_from true (nat_lt 0 q.revision) refl some, here.kept.commit (ltb-true 0 q.revision some), lines_here s doc rater who q here), refl),
          (drafted, tt, (q.done, (q.undone, (refl, here.kept.draft, parked_here s doc rater who q q.layer here refl parked), refl)), refl),
        ),
      );
      is = row_behind s doc rater who q so q.layer q.done q.undone stage.Parked here at refl refl refl refl;
    }

parked_read : (s : ProjectState) (doc rater : ℕ) (who : List ℕ) (q : Row) (so : SoFar) → IsSound s → IsHere s doc rater who q → IsAt s doc rater so → is_committed q ≡ false → has_draft q ≡ true
    → Goes so (entry.Row doc who q.revision (flags_of q) ∷ entry.Draft (scripts_bytes s.conf (document s doc).text q.done q.undone) ∷ []) (IsAt s doc (suc rater))
parked_read s doc rater who q so sound here at none parked =
    let zeroth : q.revision ≡ 0 = never q none in
    let nothing : no_marks ≡ q.layer = sym (here.kept.empty zeroth) in
    let named : SoFar = opened s doc rater so who (named_row q.revision (flags_of q)) stage.Named in
    let drafted : SoFar = opened s doc rater so who (told_row q no_marks q.done q.undone) stage.Parked in
    record {
      now = drafted;
      run = (
        named,
        row_entered s doc rater who q sound here,
        row_is_read s doc rater who q so here at,
        (drafted, tt, (q.done, (q.undone, (eq-eqb q.revision 0 zeroth, here.kept.draft, parked_here s doc rater who q no_marks here nothing parked), refl)), refl),
      );
      is = row_behind s doc rater who q so no_marks q.done q.undone stage.Parked here at refl nothing refl refl;
    }

-- the pieces of a row, where it was committed or not, and something is parked in it or not
abbrev cell : Bool → Bool → Entry → Entry → Entry → List Entry
cell committed parked row layer draft = pieces_where (committed || parked) row ++ pieces_where committed layer ++ pieces_where parked draft

row_either : WrittenIsUtf8 → (s : ProjectState) (doc rater : ℕ) (who : List ℕ) (q : Row) (so : SoFar) → IsSound s → IsHere s doc rater who q → IsAt s doc rater so → (committed parked : Bool) → is_committed q ≡ committed → has_draft q ≡ parked
    → Goes so (cell committed parked (entry.Row doc who q.revision (flags_of q)) (entry.Layer (lines_in s doc q.layer)) (entry.Draft (scripts_bytes s.conf (document s doc).text q.done q.undone))) (IsAt s doc (suc rater))
row_either written s doc rater who q so sound here at true true some more = both_read written s doc rater who q so sound here at some more
row_either written s doc rater who q so sound here at true false some more = committed_read written s doc rater who q so sound here at some more
row_either written s doc rater who q so sound here at false true some more = parked_read s doc rater who q so sound here at some more
row_either written s doc rater who q so sound here at false false some more = goes_none so (IsAt s doc (suc rater)) (blank_behind s doc rater who q so here at some more)

pub row_walked : WrittenIsUtf8 → (s : ProjectState) (doc rater : ℕ) (who : List ℕ) (q : Row) (so : SoFar) → IsSound s → IsHere s doc rater who q → IsAt s doc rater so → Goes so (row_pieces s doc (who, q)) (IsAt s doc (suc rater))
row_walked written s doc rater who q so sound here at = row_either written s doc rater who q so sound here at (is_committed q) (has_draft q) refl refl
