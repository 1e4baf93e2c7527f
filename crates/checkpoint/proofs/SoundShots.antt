-- The snapshots of a project that can be restored are read.
use Rattle.std.proofs.Common.{◌≡◌, ℕ, ◌+◌, ◌-◌, ◌<◌, ◌≤◌, ◌^◌, true, List, [], ◌∷◌, ◌++◌, length, map, get_or, take, zero, suc, refl, sym, ◌∙◌, ap, subst, arith}
use Rattle.std.specs.Cmp.Lexicographic.{slice_cmp}
use Rattle.std.specs.declared.cmp.Ordering.TheVariants.{Less}
use Rattle.std.specs.List.{flat_map, list_all}
use Rattle.std.specs.List.Sorted.{IsStrictlySortedBy}
use Rattle.std.specs.Ordering.{is_lt, nat_cmp}
use Rattle.std.proofs.lemmas.Bool.{and_from, eq-eqb, le-leb, lt-ltb}
use Rattle.std.proofs.lemmas.List.{get_or-map, length-map, length-take-le, take_all}
use Rattle.std.proofs.lemmas.List.Concat.{flat_map_single}
use Rattle.std.proofs.Math.Seq.{take-suc}
use Rattle.entry_bytes.specs.declared.entry.Entry.{Entry}
use Rattle.entry_bytes.specs.declared.entry.Entry.TheVariants as entry
use Rattle.entry_bytes.specs.Entries.{IsEntry}
use Rattle.layer_model.specs.Annotations.{Annotations}
use Rattle.ann_writer.specs.AnnOf.{ann_of}
use Rattle.command_bytes.specs.CommandBytes.{list_bytes}
use Rattle.project_machine.specs.Entries.{IsShort, held_piece, snapshot_pieces, verdict_bytes}
use Rattle.project_machine.specs.Legal.{IsAccepted, IsKept, IsSnapshotKept, IsSound, LayerObeys}
use Rattle.project_machine.specs.People.{comes_before}
use Rattle.project_machine.specs.ProjectState.{Snapshot, ProjectState, is_annotator, text_of}
use Rattle.checkpoint.specs.HeldSoFar.{HeldSoFar, follows}
use Rattle.checkpoint.specs.declared.so_far.Part.TheVariants as part
use Rattle.checkpoint.specs.declared.so_far.SoFar.{SoFar}
use Rattle.checkpoint.specs.Reading.{closed, holder_fits, is_whole, shot_fits, with_shot}
use Rattle.checkpoint.proofs.KeepableLemmas.{closed_length}
use Rattle.checkpoint.proofs.SamePieces.{of_document}
use Rattle.checkpoint.proofs.SameValues.{held_long}
use Rattle.checkpoint.proofs.SoundEntries.{WrittenIsUtf8, annotator_slug, below_at, lines_are}
use Rattle.checkpoint.proofs.SoundWalk.{Goes, goes_one, goes_then, walk}

-- a project with its first snapshots
abbrev pub shown : ProjectState → List Snapshot → ProjectState
shown s snapshots = record { conf = s.conf; level = s.level; people = s.people; place = s.place; documents = s.documents; snapshots = snapshots }

-- all rows and so many snapshots were read
pub record HasShots (s : ProjectState) (i : ℕ) (so : SoFar) : Type 0 where
  pub texts : so.texts ≡ 0
  pub shots : so.shots + i ≡ length s.snapshots
  pub told : closed so ≡ shown s (take i s.snapshots)
  pub whole : is_whole so.part ≡ true

-- ---- holders

names_at : (held : List (List ℕ × Annotations)) (j : ℕ) (d : List ℕ × Annotations) → j < length held → get_or (map (λ (row : List ℕ × Annotations). row.0) held) j [] ≡ (get_or held j d).0
names_at held j d within = get_or-map (λ (row : List ℕ × Annotations). row.0) held j d [] within

-- a holder follows those before
follows_front : (held : List (List ℕ × Annotations)) (j : ℕ) (d : List ℕ × Annotations) → IsStrictlySortedBy (slice_cmp nat_cmp) (map (λ (row : List ℕ × Annotations). row.0) held) → j < length held → list_all (λ (row : List ℕ × Annotations). comes_before row.0 (get_or held j d).0) (take j held) ≡ true
unfolding IsStrictlySortedBy
follows_front [] j d up within = absurd (omega arith)
follows_front (h ∷ held) zero d up within = refl
follows_front (h ∷ held) (suc j) d up within =
    let inside : j < length held = omega arith in
    let many : length (map (λ (row : List ℕ × Annotations). row.0) held) ≡ length held = length-map held (λ (row : List ℕ × Annotations). row.0) in
    let less : slice_cmp nat_cmp h.0 (get_or (map (λ (row : List ℕ × Annotations). row.0) held) j []) ≡ Less = below_at h.0 (map (λ (row : List ℕ × Annotations). row.0) held) j up.0 (omega (arith, many, inside)) in
    and_from (comes_before h.0 (get_or held j d).0) (list_all (λ (row : List ℕ × Annotations). comes_before row.0 (get_or held j d).0) (take j held))
    (ap is_lt (subst (λ (name : List ℕ). slice_cmp nat_cmp h.0 name ≡ Less) (names_at held j d inside) less)) (follows_front held j d up.1 inside)

-- ---- one snapshot

-- the first layers of a snapshot were read
abbrev held_upto : Snapshot → List (List ℕ × Annotations) → HeldSoFar
held_upto x held = record { doc = x.doc; layers = length x.holders; held = held }

abbrev shot_open : ProjectState → ℕ → ℕ → ℕ → HeldSoFar → SoFar
shot_open t texts room shots held = record { state = t; texts = texts; room = room; shots = shots; part = part.Shot held }

shot_is_read : (s : ProjectState) (i : ℕ) (x : Snapshot) (so : SoFar) → i < length s.snapshots → IsSnapshotKept s x → HasShots s i so
    → (shot_fits so x.doc (length x.holders) ≡ true) × (shot_open (shown s (take i s.snapshots)) 0 so.room (so.shots - 1) (held_upto x []) ≡ with_shot so x.doc (length x.holders))
shot_is_read s i x so within k at =
    let shots : so.shots + i ≡ length s.snapshots = at.shots in
    let wanted : 0 < so.shots = omega (arith, shots, within) in
    let many : length so.state.documents ≡ length s.documents = sym (closed_length so.part so.state) ∙ ap (λ (t : ProjectState). length t.documents) at.told in
    let there : x.doc < length s.documents = k.doc in
    let inside : x.doc < length so.state.documents = omega (arith, many, there) in (
      and_from _ _ (and_from _ _ (and_from _ _ (and_from _ _ (and_from _ _ (eq-eqb so.texts 0 at.texts) at.whole) (lt-ltb 0 so.shots wanted)) (lt-ltb x.doc (length so.state.documents) inside)) (le-leb 2 (length x.holders) k.holders.two)) (le-leb (length x.holders) 16 k.holders.few),
      ap (λ (t : ProjectState). shot_open t 0 so.room (so.shots - 1) (held_upto x [])) (sym at.told) ∙ ap (λ (n : ℕ). shot_open (closed so) n so.room (so.shots - 1) (held_upto x [])) (sym at.texts),
    )

shot_entered : (s : ProjectState) (x : Snapshot) → IsKept s → IsSnapshotKept s x → IsEntry (entry.Snapshot x.doc (length x.holders))
shot_entered s x kept k =
    let few : length s.documents ≤ 4096 = kept.few in
    let within : x.doc < length s.documents = k.doc in
    let some : length x.holders ≤ 16 = k.holders.few in
    let low : x.doc < 2 ^ 32 = omega (arith, few, within) in
    let byte : length x.holders < 256 = omega (arith, some) in
    (low, byte)

-- one more layer that a snapshot holds
held_step : WrittenIsUtf8 → (s : ProjectState) (shots : List Snapshot) (x : Snapshot) (room wanted : ℕ) → IsKept s → IsSnapshotKept s x → (j : ℕ) (held : List ℕ × Annotations) (so : SoFar) → j < length x.holders → get_or x.holders j held ≡ held
    → so ≡ shot_open (shown s shots) 0 room wanted (held_upto x (take j x.holders)) → Goes so (held_piece s x held ∷ []) (λ now. now ≡ shot_open (shown s shots) 0 room wanted (held_upto x (take (suc j) x.holders)))
held_step written s shots x room wanted kept k j held so within is here =
    let t : ProjectState = shown s shots in
    let obeys : LayerObeys s.conf (length (text_of s x)) held.1 = subst (λ (h : List ℕ × Annotations). LayerObeys s.conf (length (text_of s x)) h.1) is (k.layers j held within) in
    let short : length (ann_of s.conf (text_of s x) held.1) ≤ 16777216 = held_long held.0 (ann_of s.conf (text_of s x) held.1) (subst (λ (h : List ℕ × Annotations). IsShort (held_piece s x h)) is (k.short j held within)) in
    let annotates : is_annotator s held.0 ≡ true = subst (λ (h : List ℕ × Annotations). is_annotator s h.0 ≡ true) is (k.annotate j held within) in
    let behind : follows (take j x.holders) held.0 ≡ true = subst (λ (h : List ℕ × Annotations). follows (take j x.holders) h.0 ≡ true) is (follows_front x.holders j held k.holders.ascending within) in
    let size : length (take j x.holders) ≡ j = length-take-le j x.holders (omega arith) in
    let fits : holder_fits t (held_upto x (take j x.holders)) held.0 ≡ true = and_from _ _ (and_from _ _ (lt-ltb (length (take j x.holders)) (length x.holders) (omega (arith, size, within))) annotates) behind in
    let more : take (suc j) x.holders ≡ take j x.holders ++ (held.0, held.1) ∷ [] = take-suc x.holders j held within ∙ ap (λ (h : List ℕ × Annotations). take j x.holders ++ h ∷ []) is in
    let now : SoFar = shot_open t 0 room wanted (held_upto x (take (suc j) x.holders)) in
    subst (λ (z : SoFar). Goes z (held_piece s x held ∷ []) (λ y. y ≡ now)) (sym here)
    (goes_one (shot_open t 0 room wanted (held_upto x (take j x.holders))) now (held_piece s x held) (λ y. y ≡ now)
    (annotator_slug s held.0 kept annotates, lines_are written s.conf (text_of s x) held.1 (of_document s x.doc kept k.doc) obeys.typed short)
    (held.1, (fits, subst (λ (h : List ℕ × Annotations). IsShort (held_piece s x h)) is (k.short j held within), record { obeys = obeys; are = refl }), ap (λ (hs : List (List ℕ × Annotations)). shot_open t 0 room wanted (held_upto x hs)) more) refl)

held_walked : WrittenIsUtf8 → (s : ProjectState) (shots : List Snapshot) (x : Snapshot) (room wanted : ℕ) (so : SoFar) → IsKept s → IsSnapshotKept s x → so ≡ shot_open (shown s shots) 0 room wanted (held_upto x [])
    → Goes so (map (held_piece s x) x.holders) (λ now. now ≡ shot_open (shown s shots) 0 room wanted (held_upto x (take (length x.holders) x.holders)))
held_walked written s shots x room wanted so kept k here =
    subst (λ (es : List Entry). Goes so es (λ now. now ≡ shot_open (shown s shots) 0 room wanted (held_upto x (take (length x.holders) x.holders)))) (flat_map_single (held_piece s x) x.holders)
    (walk (λ (h : List ℕ × Annotations). held_piece s x h ∷ []) (λ j now. now ≡ shot_open (shown s shots) 0 room wanted (held_upto x (take j x.holders))) x.holders (held_step written s shots x room wanted kept k) so here)

-- the verdicts end it
decided_read : (s : ProjectState) (i : ℕ) (x : Snapshot) (room wanted : ℕ) (so : SoFar) → i < length s.snapshots → get_or s.snapshots i x ≡ x → IsSnapshotKept s x → IsAccepted s x → wanted + suc i ≡ length s.snapshots
    → so ≡ shot_open (shown s (take i s.snapshots)) 0 room wanted (held_upto x (take (length x.holders) x.holders)) → Goes so (entry.Decided (list_bytes verdict_bytes x.verdicts) ∷ []) (HasShots s (suc i))
decided_read s i x room wanted so within is k accepted shots here =
    let all : take (length x.holders) x.holders ≡ x.holders = take_all (length x.holders) x.holders (omega arith) in
    let more : take i s.snapshots ++ x ∷ [] ≡ take (suc i) s.snapshots = sym (take-suc s.snapshots i x within ∙ ap (λ (y : Snapshot). take i s.snapshots ++ y ∷ []) is) in
    let now : SoFar = record { state = shown s (take i s.snapshots ++ x ∷ []); texts = 0; room = room; shots = wanted; part = part.Shots } in
    subst (λ (z : SoFar). Goes z (entry.Decided (list_bytes verdict_bytes x.verdicts) ∷ []) (HasShots s (suc i))) (sym (here ∙ ap (λ (hs : List (List ℕ × Annotations)). shot_open (shown s (take i s.snapshots)) 0 room wanted (held_upto x hs)) all))
    (goes_one (shot_open (shown s (take i s.snapshots)) 0 room wanted (held_upto x x.holders)) now (entry.Decided (list_bytes verdict_bytes x.verdicts)) (HasShots s (suc i)) tt
    (x.verdicts, (refl, record { ascending = k.ascending; accepted = accepted; are = refl }), refl) (record { texts = refl; shots = shots; told = ap (shown s) more; whole = refl }))

shot_walked : WrittenIsUtf8 → (s : ProjectState) (i : ℕ) (x : Snapshot) (so : SoFar) → IsKept s → i < length s.snapshots → get_or s.snapshots i x ≡ x → IsSnapshotKept s x → IsAccepted s x → HasShots s i so → Goes so (snapshot_pieces s x) (HasShots s (suc i))
shot_walked written s i x so kept within is k accepted at =
    let first : SoFar = shot_open (shown s (take i s.snapshots)) 0 so.room (so.shots - 1) (held_upto x []) in
    let last : SoFar = shot_open (shown s (take i s.snapshots)) 0 so.room (so.shots - 1) (held_upto x (take (length x.holders) x.holders)) in
    let shots : so.shots + i ≡ length s.snapshots = at.shots in
    let wanted : so.shots - 1 + suc i ≡ length s.snapshots = omega (arith, shots, within) in
    goes_then (entry.Snapshot x.doc (length x.holders) ∷ []) (map (held_piece s x) x.holders ++ entry.Decided (list_bytes verdict_bytes x.verdicts) ∷ []) so (λ now. now ≡ first) (HasShots s (suc i))
    (goes_one so first (entry.Snapshot x.doc (length x.holders)) (λ now. now ≡ first) (shot_entered s x kept k) (shot_is_read s i x so within k at) refl)
    (λ mid begun.
    goes_then (map (held_piece s x) x.holders) (entry.Decided (list_bytes verdict_bytes x.verdicts) ∷ []) mid (λ now. now ≡ last) (HasShots s (suc i)) (held_walked written s (take i s.snapshots) x so.room (so.shots - 1) mid kept k begun)
    (λ now here. decided_read s i x so.room (so.shots - 1) now within is k accepted wanted here))

-- ---- all snapshots

shots_step : WrittenIsUtf8 → (s : ProjectState) → IsSound s → (i : ℕ) (x : Snapshot) (so : SoFar) → i < length s.snapshots → get_or s.snapshots i x ≡ x → HasShots s i so → Goes so (snapshot_pieces s x) (HasShots s (suc i))
shots_step written s sound i x so within is at =
    shot_walked written s i x so sound.kept within is (subst (IsSnapshotKept s) is (sound.kept.snapshots i x within)) (subst (λ (y : Snapshot). IsAccepted s y) is (sound.accepted i x within)) at

pub shots_walked : WrittenIsUtf8 → (s : ProjectState) (so : SoFar) → IsSound s → HasShots s zero so → Goes so (flat_map (snapshot_pieces s) s.snapshots) (HasShots s (length s.snapshots))
shots_walked written s so sound at = walk (snapshot_pieces s) (HasShots s) s.snapshots (shots_step written s sound) so at
