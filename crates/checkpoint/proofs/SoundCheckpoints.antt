-- The pieces of a project that can be restored are a checkpoint, which tells it.
use Rattle.std.proofs.Common.{◌≡◌, ℕ, ◌+◌, ◌-◌, ◌^◌, true, List, [], ◌∷◌, ◌++◌, length, map, zero, refl, sym, ◌∙◌, ap, subst, arith, append_assoc}
use Rattle.std.specs.List.{enumerate_from, flat_map}
use Rattle.std.proofs.lemmas.Bool.{and_from, eq-eqb, le-leb, lt-ltb}
use Rattle.std.proofs.lemmas.List.{take_all}
use Rattle.std.proofs.lemmas.List.FromFn.{length-enumerate_from}
use Rattle.entry_bytes.specs.declared.entry.Entry.{Entry}
use Rattle.entry_bytes.specs.declared.entry.Entry.TheVariants as entry
use Rattle.entry_bytes.specs.Entries.{entry_bytes}
use Rattle.project_machine.specs.Entries.{document_piece, first_piece, pieces_of, rows_pieces, snapshot_pieces}
use Rattle.project_machine.specs.Legal.{IsKept, IsSound}
use Rattle.project_machine.specs.ProjectState.{Document, ProjectState}
use Rattle.checkpoint.specs.declared.so_far.Part.TheVariants as part
use Rattle.checkpoint.specs.declared.so_far.SoFar.{SoFar}
use Rattle.checkpoint.specs.Reading.{Begins, with_end}
use Rattle.checkpoint.specs.Runs.{IsCheckpoint, IsReadTo, begins, is_ended}
use Rattle.checkpoint.proofs.SamePieces.{ReadBack}
use Rattle.checkpoint.proofs.SoundEntries.{WrittenIsUtf8, first_entered}
use Rattle.checkpoint.proofs.SoundRowPieces.{IsAt}
use Rattle.checkpoint.proofs.SoundRowWalks.{rows_walked}
use Rattle.checkpoint.proofs.SoundRows.{blank_document, blanked_start, blanked_whole, with_documents}
use Rattle.checkpoint.proofs.SoundShots.{HasShots, shots_walked, shown}
use Rattle.checkpoint.proofs.SoundTexts.{texts_read, texts_walked}
use Rattle.checkpoint.proofs.SoundWalk.{Goes, goes_on_to, goes_one, goes_then, run_read}

-- ---- the first piece

first_begins : (s : ProjectState) → IsSound s → Begins (first_piece s) (texts_read s zero)
first_begins s sound =
    let k : IsKept s = sound.kept in
    let all : length s.documents - zero ≡ length s.documents = omega arith in (
      s.conf,
      record {
        placed = and_from _ _ (and_from _ _ (and_from _ _ (lt-ltb 0 s.place sound.placed) (le-leb s.place (2 ^ 62) sound.low)) (le-leb (length s.documents) 4096 k.few)) (le-leb (length s.snapshots) s.place k.taken);
        founding = k.founding;
        is = refl;
      },
      ap (λ (n : ℕ). let so : SoFar = record { state = with_documents s []; texts = n; room = 16777216; shots = length s.snapshots; part = part.Start } in so) all,
    )

-- ---- from part to part

-- all documents were read
rows_begin : (s : ProjectState) (now : SoFar) → now ≡ texts_read s (length s.documents) → IsAt s zero zero now
rows_begin s now here =
    subst (λ (z : SoFar). IsAt s zero zero z) (sym here)
    (record {
      texts = omega arith;
      shots = refl;
      told = ap (λ (ds : List Document). with_documents s (map blank_document ds)) (take_all (length s.documents) s.documents (omega arith)) ∙ blanked_start s;
      whole = refl;
      next = λ d r behind. refl;
    })

-- all rows were read
shots_begin : (s : ProjectState) (now : SoFar) → IsAt s (length (enumerate_from 0 s.documents)) zero now → HasShots s zero now
shots_begin s now at =
    let size : length (enumerate_from 0 s.documents) ≡ length s.documents = length-enumerate_from 0 s.documents in
    let shots : now.shots ≡ length s.snapshots = at.shots in
    record {
      texts = at.texts;
      shots = omega (arith, shots);
      told = at.told ∙ blanked_whole s (length (enumerate_from 0 s.documents)) zero (omega (arith, size));
      whole = at.whole;
    }

-- the last piece was read, and the project is told
pub record IsTold (s : ProjectState) (so : SoFar) : Type 0 where
  pub ended : is_ended so.part ≡ true
  pub told : so.state ≡ s

end_read : (s : ProjectState) (now : SoFar) → HasShots s (length s.snapshots) now → Goes now (entry.End ∷ []) (IsTold s)
end_read s now at =
    let shots : now.shots + length s.snapshots ≡ length s.snapshots = at.shots in
    let none : now.shots ≡ 0 = omega (arith, shots) in
    goes_one now (with_end now) entry.End (IsTold s) tt (and_from _ _ (and_from _ _ (eq-eqb now.texts 0 at.texts) at.whole) (eq-eqb now.shots 0 none), refl)
    (record { ended = refl; told = at.told ∙ ap (shown s) (take_all (length s.snapshots) s.snapshots (omega arith)) })

-- ---- all pieces

regroup : (a b c d : List Entry) → a ++ (b ++ (c ++ d)) ≡ a ++ b ++ c ++ d
regroup a b c d = sym (append_assoc (a ++ b) c d ∙ append_assoc a b (c ++ d))

behind_first : WrittenIsUtf8 → (s : ProjectState) → IsSound s → Goes (texts_read s zero) (map document_piece s.documents ++ flat_map (rows_pieces s) (enumerate_from 0 s.documents) ++ flat_map (snapshot_pieces s) s.snapshots ++ entry.End ∷ []) (IsTold s)
behind_first written s sound =
    let ds : List Entry = map document_piece s.documents in
    let rs : List Entry = flat_map (rows_pieces s) (enumerate_from 0 s.documents) in
    let xs : List Entry = flat_map (snapshot_pieces s) s.snapshots in
    let last : ℕ = length (enumerate_from 0 s.documents) in
    subst (λ (es : List Entry). Goes (texts_read s zero) es (IsTold s)) (regroup ds rs xs (entry.End ∷ []))
    (goes_then ds (rs ++ (xs ++ entry.End ∷ [])) (texts_read s zero) (IsAt s zero zero) (IsTold s) (goes_on_to ds (texts_read s zero) (λ now. now ≡ texts_read s (length s.documents)) (IsAt s zero zero) (texts_walked s sound.kept) (rows_begin s))
    (λ one at.
    goes_then rs (xs ++ entry.End ∷ []) one (HasShots s zero) (IsTold s) (goes_on_to rs one (IsAt s last zero) (HasShots s zero) (rows_walked written s one sound at) (shots_begin s))
    (λ two has. goes_then xs (entry.End ∷ []) two (HasShots s (length s.snapshots)) (IsTold s) (shots_walked written s two sound has) (end_read s))))

pub sound_checkpoint : ReadBack → WrittenIsUtf8 → (s : ProjectState) → IsSound s → IsCheckpoint (map entry_bytes (pieces_of s)) s
unfolding pieces_of
sound_checkpoint back written s sound =
    let first : IsReadTo (entry_bytes (first_piece s) ∷ []) (texts_read s zero) = begins (first_piece s) (texts_read s zero) (first_entered back s sound) (first_begins s sound) in
    let rest = behind_first written s sound in
    record {
      so = rest.now;
      read = run_read (map document_piece s.documents ++ flat_map (rows_pieces s) (enumerate_from 0 s.documents) ++ flat_map (snapshot_pieces s) s.snapshots ++ entry.End ∷ []) (entry_bytes (first_piece s) ∷ []) (texts_read s zero) rest.now rest.run first;
      ended = rest.is.ended;
      told = rest.is.told;
    }
