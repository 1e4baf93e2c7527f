-- What the first tests of a request tell where they are passed.
use Rattle.std.proofs.Common.{◌≡◌, ℕ, ◌<◌, Bool, true, false, not, List, [], ◌∷◌, length, Option, Some, None, nat_le, nat_lt, refl, sym, ◌∙◌, ap, bytes_eq}
use Rattle.std.specs.Option.{option_or}
use Rattle.project_machine.specs.declared.book_refusal.BookRefusal.{BookRefusal}
use Rattle.project_machine.specs.declared.book_refusal.BookRefusal.TheVariants as no
use Rattle.project_machine.specs.ProjectState.{ProjectState, annotators, is_annotator, is_there, number_of, rater_of}
use Rattle.project_machine.specs.Machine.{first_of, has_layer, is_full, there, when}
use Rattle.project_machine.proofs.KeptLemmas.{any_within, unmet, when_none}
use Rattle.project_machine.proofs.RowLemmas.{or_first, or_second}

-- the document is there
pub there_first : (s : ProjectState) (name : List ℕ) (more : List (Option BookRefusal)) → None ≡ first_of (there s name ∷ more) → is_there s name ≡ true
there_first s name more e = unmet (is_there s name) no.NoDocument (or_first (there s name) (first_of more) (sym e))

-- and somebody named is an annotator
pub layer_second : (s : ProjectState) (name who : List ℕ) (more : List (Option BookRefusal)) → None ≡ first_of (there s name ∷ has_layer s who ∷ more) → is_annotator s who ≡ true
layer_second s name who more e = unmet (is_annotator s who) no.NoLayer (or_first (has_layer s who) (first_of more) (or_second (there s name) (first_of (has_layer s who ∷ more)) (sym e)))

-- the document is not there, and there is room for it
pub new_first : (s : ProjectState) (name text : List ℕ) → None ≡ first_of (when (is_there s name) no.DocumentThere ∷ when (is_full s text) no.ProjectFull ∷ []) → is_there s name ≡ false
new_first s name text e = when_none (is_there s name) no.DocumentThere (or_first (when (is_there s name) no.DocumentThere) _ (sym e))

pub room_second : (s : ProjectState) (name text : List ℕ) → None ≡ first_of (when (is_there s name) no.DocumentThere ∷ when (is_full s text) no.ProjectFull ∷ []) → is_full s text ≡ false
room_second s name text e =
    when_none (is_full s text) no.ProjectFull
    (or_first (when (is_full s text) no.ProjectFull) (first_of []) (or_second (when (is_there s name) no.DocumentThere) (first_of (when (is_full s text) no.ProjectFull ∷ [])) (sym e)))

-- the number of a document that is there, and the place of an annotator, are in range
pub number_within : (s : ProjectState) (name : List ℕ) → is_there s name ≡ true → number_of s name < length s.documents
number_within s name is = any_within (λ d. bytes_eq d.name name) s.documents is

pub rater_within : (s : ProjectState) (who : List ℕ) → is_annotator s who ≡ true → rater_of s who < length (annotators s)
rater_within s who is = any_within (bytes_eq who) (annotators s) is
