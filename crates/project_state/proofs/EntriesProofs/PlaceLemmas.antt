-- What stands at a number.
use Rattle.std.proofs.Common.{◌≡◌, ℕ, ◌<◌, ◌≤◌, Bool, true, false, List, [], ◌∷◌, length, nat_lt, get_or, slice_get, Option, Some, None, zero, suc, refl, sym, ◌∙◌, ap, arith}
use Rattle.std.proofs.lemmas.Bool.{le-ltb, lt-ltb}
use Rattle.project_machine.specs.ProjectState.{Document, ProjectState, no_document, document}
use Rattle.project_state.proofs.StoredLemmas.{got, missed}

none_some : {X : Type 0} (x : X) → None ≡ Some x → ⊥
none_some x e = cc

inside : {X : Type 0} (xs : List X) (k : ℕ) (x : X) → slice_get xs k ≡ Some x → k < length xs
inside [] k x e = absurd (none_some x e)
inside (y ∷ xs) zero x e = omega arith
inside (y ∷ xs) (suc k) x e = let h = inside xs k x e in omega arith

outside : {X : Type 0} (xs : List X) (k : ℕ) → slice_get xs k ≡ None → length xs ≤ k
outside [] k e = omega arith
outside (y ∷ xs) zero e = absurd (none_some y (sym e))
outside (y ∷ xs) (suc k) e = let h = outside xs k e in omega arith

-- a document that is found at a number
pub found_at : (s : ProjectState) (doc : ℕ) (d : Document) → Some d ≡ slice_get s.documents doc → d ≡ document s doc
found_at s doc d e = sym (got s.documents doc no_document d (sym e))

pub there_at : (s : ProjectState) (doc : ℕ) (d : Document) → Some d ≡ slice_get s.documents doc → true ≡ nat_lt doc (length s.documents)
there_at s doc d e = sym (lt-ltb doc (length s.documents) (inside s.documents doc d (sym e)))

-- and where none is
pub nowhere_at : (s : ProjectState) (doc : ℕ) → None ≡ slice_get s.documents doc → false ≡ nat_lt doc (length s.documents)
nowhere_at s doc e = sym (le-ltb doc (length s.documents) (outside s.documents doc (sym e)))

pub none_at : (s : ProjectState) (doc : ℕ) → None ≡ slice_get s.documents doc → document s doc ≡ no_document
none_at s doc e = missed s.documents doc no_document (sym e)
