-- A desk that is held, in the history that a visitor has seen.
use Rattle.std.specs.Prelude.{◌≡◌, ◌⊎◌, ℕ, ◌≤◌, true, List, Option, Some, ⊤}
use Rattle.std.specs.List.{Contains}
use Rattle.std.specs.Option.{IsSomeAnd}
use Rattle.layer_model.specs.Annotations.{Annotations}
use Rattle.project_machine.specs.ProjectState.{document, is_there, number_of, row_in}
use Rattle.project_machine.specs.Requests.{Happened, CheckedOut, TakenOver, LayerCommitted}
use Rattle.project_machine.specs.History.{after, change_at}
use Rattle.annotation_http.specs.Exchanges.Connections.{Connection, Bare, Holding, Holds}

-- ---- commits under a hold

-- a change is a commit under the hold under which a layer is out
abbrev pub IsUnder : Option ℕ → Happened → Type 0
IsUnder held (LayerCommitted by doc hold layer) = held ≡ Some hold
IsUnder held other = ⊥

-- no commit under a hold stands above a place
abbrev pub CommitsUpTo : List Happened → ℕ → ℕ → Type 0
CommitsUpTo log hold most = (place : ℕ) (by : List ℕ) (doc : ℕ) (layer : Annotations) → change_at place log ≡ Some (LayerCommitted by doc hold layer) → place ≤ most

-- every commit under a hold stands at a place of one's own
abbrev pub OwnsCommits : List Happened → List ℕ → ℕ → Type 0
OwnsCommits log mine hold = (place : ℕ) (by : List ℕ) (doc : ℕ) (layer : Annotations) → change_at place log ≡ Some (LayerCommitted by doc hold layer) → Contains mine place

-- ---- a desk that is open

-- a change takes out the layer of an annotator on the document of a number: a checkout, or a takeover
abbrev pub TakesOut : List ℕ → ℕ → Happened → Type 0
TakesOut who doc happened = (happened ≡ CheckedOut who doc) ⊎ (happened ≡ TakenOver who doc)

-- a held desk is open on the row of its hold: the hold is the place of the checkout or takeover of this document by this person; the text is the document's, and the configuration the project's; and where the row is still out under this hold and every commit under it is one's own, the desk stands on the row's layer
pub record IsOpenOn (seen : List Happened) (mine : List ℕ) (held : Holding) : Type 0 where
  pub there : is_there (after seen) held.doc ≡ true
  pub taken : IsSomeAnd (change_at held.hold seen) (TakesOut held.who (number_of (after seen) held.doc))
  pub text : held.desk.text ≡ (document (after seen) (number_of (after seen) held.doc)).text
  pub conf : held.desk.conf ≡ (after seen).conf
  pub base : (row_in (after seen) held.doc held.who).hold ≡ Some held.hold → OwnsCommits seen mine held.hold → held.desk.base ≡ (row_in (after seen) held.doc held.who).layer

-- a connection holds no desk, or one that is open on the row of its hold
abbrev pub IsOpen : List Happened → List ℕ → Connection → Type 0
IsOpen seen mine Bare = ⊤
IsOpen seen mine (Holds held) = IsOpenOn seen mine held
