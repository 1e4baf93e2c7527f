-- A state that can be restored is told by its pieces, and no history but those that go on from it begins with them.
use Rattle.std.proofs.Common.{◌≡◌, ℕ, ◌==◌, Bool, true, false, cond, List, ◌∷◌, ◌++◌, map, sym, ◌∙◌, ap, arith, append-nil}
use Rattle.conf_model.specs.ConfText.{conf_text}
use Rattle.conf_model.specs.Configurations.{Configuration}
use Rattle.entry_bytes.specs.declared.entry.Entry.TheVariants as entry
use Rattle.entry_bytes.specs.declared.person.Person.{Person}
use Rattle.entry_bytes.specs.Entries.{entry_bytes}
use Rattle.project_machine.specs.Entries.{first_piece, founding_entry, pieces_of}
use Rattle.project_machine.specs.History.{encoded}
use Rattle.project_machine.specs.Legal.{IsSound, legal_restored}
use Rattle.project_machine.specs.Opening.{GoesOn, IsReplay, restored}
use Rattle.project_machine.specs.ProjectState.{ProjectState}
use Rattle.project_machine.specs.Requests.{Happened, Founded, Restored}
use Rattle.checkpoint.specs.SoundLaws.{PiecesTellOne}
use Rattle.project_book.proofs.StatePiecesProofs.BeginLemmas.{Begins, begins, with_founding, with_state}

head_same : {X : Type 0} (x y : X) (xs ys : List X) → x ∷ xs ≡ y ∷ ys → x ≡ y
head_same x y xs ys e = cc

no_founding : (s : ProjectState) (text : List ℕ) (people : List Person) (level : ℕ) (b : Bool) → entry_bytes (first_piece s) ≡ entry_bytes (cond b (entry.Found text people) (entry.FoundAt text people level)) → ⊥
unfolding entry_bytes
no_founding s text people level true e = absurd (let k : 16 ≡ 1 = head_same 16 1 _ _ e in omega arith)
no_founding s text people level false e = absurd (let k : 16 ≡ 15 = head_same 16 15 _ _ e in omega arith)

founded_otherwise : (s : ProjectState) (more : List (List ℕ)) (conf : Configuration) (level : ℕ) (people : List Person) (rest : List Happened) → map entry_bytes (pieces_of s) ++ more ≡ encoded (Founded conf level people ∷ rest) → ⊥
unfolding pieces_of
founded_otherwise s more conf level people rest e = no_founding s (conf_text conf) people level (level == 255) (head_same (entry_bytes (first_piece s)) (entry_bytes (founding_entry (conf_text conf) people level)) _ _ e)

goes_on : PiecesTellOne → (s : ProjectState) (other : List Happened) (more : List (List ℕ)) → IsSound s → map entry_bytes (pieces_of s) ++ more ≡ encoded other → Begins other → GoesOn (restored s) other
goes_on apart s other more sound e (with_founding conf level people rest is same) = absurd (founded_otherwise s more conf level people rest (e ∙ ap encoded same))
goes_on apart s other more sound e (with_state state rest good same) =
    let one : s ≡ state = apart s state more _ sound good (e ∙ ap encoded same) in
    (rest, same ∙ ap (λ (x : ProjectState). Restored x.place x ∷ rest) (sym one))

-- the pieces of a state that can be restored tell the history that begins with it, and no other
pub replayed : PiecesTellOne → (s : ProjectState) → IsSound s → IsReplay (map entry_bytes (pieces_of s)) (restored s)
replayed apart s sound = record {
  legal = legal_restored s sound;
  told = sym (append-nil (map entry_bytes (pieces_of s)));
  only = λ other more legal e. goes_on apart s other more sound e (begins other legal);
}
