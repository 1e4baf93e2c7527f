use Rattle.std.proofs.Common.{◌≡◌, ◌∙◌, ap, subst, Option, ℕ, List, Some, None, Ok, Err, IfOk, get_or}
use Rattle.content_keys.specs.Nodes.{Node}
use Rattle.content_keys.specs.Tables.{IsAt, IsTable, IsPlace, values}
use Rattle.content_keys.specs.Carrying.{Carries, move_at}
use Rattle.content_keys.proofs.TableLemmas.{read}
use Rattle.content_keys.proofs.PlaceLemmas.{place_found, place_lost}
use Rattle.content_keys.proofs.table.Table.place_in.Goals as goal

pub returns-in-Some : goal.returns-in-Some
returns-in-Some c =
    let T : List (Node ℕ) → Type 0 = IsTable in
    let A : List (Node ℕ) = c.args.self.now in
    let B : List (Node ℕ) = c.args.other.now in
    let a : IsTable A = subst T c.self.view_is c.self.invariant.table in
    let b : IsTable B = subst T c.other.view_is c.other.invariant.table in
    let d : Node ℕ = c.index.result.now in
    let ms : List (Option ℕ) = c.args.moves.now in
    let e : d ≡ get_or A c.args.i d = c.index.ensures ∙ ap (λ (l : List (Node ℕ)). get_or l c.args.i d) c.self.view_is in
    let P : Option (Node ℕ) → Type 0 = Carries (move_at ms) d in
    let Q : Node ℕ → Type 0 = λ s. Carries (move_at ms) s (Some c.in-Some.shape) in
    let y : Carries (move_at ms) (get_or A c.args.i d) (Some c.in-Some.shape) = subst Q e (subst P c.in-Some.is c.in_ok-shape.ensures) in
    elim c.find.result as (λ r. IfOk r (λ o. IsAt B c.in-Some.shape o) → IfOk r (λ o. IsPlace (values B) (read (values A) c.args.i) o)) [
      | Ok o ↦ λ h. place_found A B a b ms c.requires.right c.args.i c.requires.within c.requires.so_far d c.in-Some.shape o y h
      | Err x ↦ λ h. h
    ] c.find.ensures

pub returns-in-None : goal.returns-in-None
returns-in-None c =
    let T : List (Node ℕ) → Type 0 = IsTable in
    let A : List (Node ℕ) = c.args.self.now in
    let B : List (Node ℕ) = c.args.other.now in
    let a : IsTable A = subst T c.self.view_is c.self.invariant.table in
    let b : IsTable B = subst T c.other.view_is c.other.invariant.table in
    let d : Node ℕ = c.index.result.now in
    let ms : List (Option ℕ) = c.args.moves.now in
    let e : d ≡ get_or A c.args.i d = c.index.ensures ∙ ap (λ (l : List (Node ℕ)). get_or l c.args.i d) c.self.view_is in
    let P : Option (Node ℕ) → Type 0 = Carries (move_at ms) d in
    let Q : Node ℕ → Type 0 = λ s. Carries (move_at ms) s None in
    let y : Carries (move_at ms) (get_or A c.args.i d) None = subst Q e (subst P c.in-None.is c.in_ok-shape.ensures) in
    place_lost A B a b ms c.requires.right c.args.i c.requires.within c.requires.so_far d y
