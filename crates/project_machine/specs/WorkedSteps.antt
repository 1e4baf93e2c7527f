-- A history of one document and two annotators, for worked examples.
use Rattle.std.specs.Prelude.{ℕ, List, [], ◌∷◌, Some, None, true, false, codes}
use Rattle.entry_bytes.specs.declared.person.Person.{Person}
use Rattle.mark_base.specs.declared.ann_id.Kind.TheVariants as letter
use Rattle.mark_base.specs.ReadIds.{id_at}
use Rattle.conf_model.specs.Configurations.{Configuration}
use Rattle.layer_model.specs.Annotations.{no_marks}
use Rattle.layer_model.specs.declared.rule.Rule.{Rule}
use Rattle.layer_model.specs.declared.rule.Rule.TheVariants.{TooFew}
use Rattle.layer_model.specs.declared.rule.RoleAt.TheVariants.{Event}
use Rattle.project_machine.specs.declared.book_refusal.BookRefusal.{BookRefusal}
use Rattle.project_machine.specs.ProjectState.{ProjectState}
use Rattle.project_machine.specs.Requests.{Out, Answered, Refused, Happened, Founded, TextAdded, CheckedOut, TakenOver, LayerCommitted, LayerParked, LayerFinished, SnapshotTaken}
use Rattle.project_machine.specs.Machine.{Step}
use Rattle.project_machine.specs.History.{after, unfounded, upto}

-- the annotators ann and bob, and the curator cur
abbrev pub people : List Person
people = record { name = codes "ann"; curator = false } ∷ record { name = codes "bob"; curator = false } ∷ record { name = codes "cur"; curator = true } ∷ []

-- cur adds the document x; ann checks it out, takes it over from her other desk, commits the empty layer, parks her desk and finishes; bob checks it out, commits the empty layer, parks and finishes; cur takes a snapshot
abbrev pub history : List Happened
history =
    Founded unfounded.conf 255 people
    ∷ TextAdded (codes "cur") (codes "x") (codes "a b c")
    ∷ CheckedOut (codes "ann") 0
    ∷ TakenOver (codes "ann") 0
    ∷ LayerCommitted (codes "ann") 0 4 no_marks
    ∷ LayerParked (codes "ann") 0 4 [] []
    ∷ LayerFinished (codes "ann") 0
    ∷ CheckedOut (codes "bob") 0
    ∷ LayerCommitted (codes "bob") 0 8 no_marks
    ∷ LayerParked (codes "bob") 0 8 [] []
    ∷ LayerFinished (codes "bob") 0
    ∷ SnapshotTaken (codes "cur") 0
    ∷ []

-- the project at a place of that history
abbrev pub at_place : ℕ → ProjectState
at_place place = after (upto place history)

-- the layer of x as it is handed out under a hold before anything was committed
abbrev pub handed : ℕ → Out
handed hold = record { hold = hold; revision = 0; base = no_marks; done = []; undone = []; text = codes "a b c"; conf = unfounded.conf }

-- a refusal that names something, which changes nothing
abbrev pub refuses_of : BookRefusal → List ℕ → Step
refuses_of refusal named = record { answer = Refused refusal named; change = None }

-- a refusal that names nothing
abbrev pub refuses : BookRefusal → Step
refuses refusal = refuses_of refusal []

-- an answer that changes nothing
abbrev pub tells : Answered → Step
tells answer = record { answer = answer; change = None }

-- an answer, and what happens
abbrev pub makes : Answered → Happened → Step
makes answer happened = record { answer = answer; change = Some happened }

-- a configuration of one event type Pair, of which each event has two members
abbrev pub pairs_conf : Configuration
pairs_conf = record {
  types = record { name = codes "Pair"; parent = None; usable = true; event = true } ∷ [];
  roles = (record {
    name = codes "Member";
    least = 2;
    most = 2;
    targets = record { entity = true; event = false; any = false; relation = false; bound = []; between = [] };
  } ∷ []) ∷ [];
  relations = [];
  attributes = [];
  overlaps = [];
}

-- E1 lacks a member
abbrev pub lacks_member : Rule
lacks_member = TooFew (id_at letter.Event 1) (Event (record { n = 0 }) 0)

-- a project of that configuration, in which ann has x out under the hold 3
abbrev pub of_pairs : ProjectState
of_pairs = after (Founded pairs_conf 255 people ∷ TextAdded (codes "cur") (codes "x") (codes "a b c") ∷ CheckedOut (codes "ann") 0 ∷ [])
