-- A change that a request makes can be written as an entry.
use Rattle.std.proofs.Common.{◌≡◌, ℕ, ◌<◌, ◌||◌, Bool, true, false, not, List, length, nat_lt, Option, Some, None, option_map, refl, sym, ◌∙◌, subst, is_some}
use Rattle.std.specs.List.{AllByRecursion}
use Rattle.std.specs.Option.{option_or}
use Rattle.std.proofs.lemmas.Bool.{ltb-true}
use Rattle.conf_model.specs.Configurations.{Configuration}
use Rattle.layer_model.specs.Annotations.{Annotations}
use Rattle.layer_model.specs.declared.flaw.Flaw.{Flaw}
use Rattle.layer_model.specs.declared.rule.Rule.{Rule}
use Rattle.layer_core.specs.declared.command.Command.{Command}
use Rattle.layer_rules.specs.WellFormed.{IsWellFormed, least_flaw, commit_fault}
use Rattle.layer_undo.specs.Replays.{first_refusal}
use Rattle.project_machine.specs.declared.book_refusal.BookRefusal.{BookRefusal}
use Rattle.project_machine.specs.declared.book_refusal.BookRefusal.TheVariants as no
use Rattle.project_machine.specs.declared.book_refusal.Policy.TheVariants as policy
use Rattle.command_bytes.specs.WritableCommands.{CanBeWritten}
use Rattle.project_machine.specs.Machine.{change, commit_rule, first_of, held, park_rule, policies, refusal, size_of, tests, there, when}
use Rattle.project_machine.specs.ProjectState.{ProjectState, document, holder_of, is_annotator, is_curator, is_there, number_of, row_in, snapshot}
use Rattle.project_machine.specs.Requests.{Asked, ReadConf, ListDocs, ReadText, AddText, Checkout, TakeOver, Commit, Park, Finish, ReadLayer, Reopen, Ignore, Readmit, Snap, TakeSnapshot, Decide, Undecide, ReadPairs, ReadAlpha, ReadReport, Happened, TextAdded, CheckedOut, TakenOver, LayerCommitted, LayerParked, LayerFinished, LayerReopened, LayerIgnored, LayerReadmitted, SnapshotTaken, ItemDecided, ItemUndecided}
use Rattle.project_state.proofs.StoredLemmas.{there_by_number}
use Rattle.project_state.specs.Entries.Writing.{CanBeEntered}

some_same : (a b : Happened) → Some a ≡ Some b → a ≡ b
some_same a b e = cc

none_some : (x : Happened) → None ≡ Some x → ⊥
none_some x e = cc

or_first : {X : Type 0} (a b : Option X) → option_or a b ≡ None → a ≡ None
or_first None b e = refl
or_first (Some x) b e = e

or_second : {X : Type 0} (a b : Option X) → option_or a b ≡ None → b ≡ None
or_second None b e = e
or_second (Some x) b e = cc

map_none : {X Y : Type 0} (f : X → Y) (a : Option X) → option_map f a ≡ None → a ≡ None
map_none f None e = refl
map_none f (Some x) e = cc

unmet : (b : Bool) (r : BookRefusal) → when (not b) r ≡ None → b ≡ true
unmet true r e = refl
unmet false r e = cc

tests_free : (s : ProjectState) (caller : List ℕ) (asked : Asked) → refusal s caller asked ≡ None → first_of (tests s caller asked) ≡ None
tests_free s caller asked e =
    or_second (policies s caller asked) (first_of (tests s caller asked))
    (or_second (when (not (is_annotator s caller || is_curator s caller)) (no.NotAllowed policy.Roster)) (option_or (policies s caller asked) (first_of (tests s caller asked))) e)

within : (s : ProjectState) (name : List ℕ) (more : Option BookRefusal) → option_or (there s name) more ≡ None → number_of s name < length s.documents
within s name more e = ltb-true (number_of s name) (length s.documents) (there_by_number s name ∙ unmet (is_there s name) no.NoDocument (or_first (there s name) more e))

-- a layer without a flaw is well-formed
abbrev pub Unflawed : Type 0
Unflawed = (conf : Configuration) (characters : ℕ) (layer : Annotations) → least_flaw conf characters layer ≡ None → IsWellFormed conf characters layer

-- commands that are not refused can be written
abbrev pub Replayed : Type 0
Replayed = (conf : Configuration) (text : List ℕ) (base : Annotations) (done undone : List Command) → first_refusal conf (length text) base done undone ≡ None → AllByRecursion (CanBeWritten conf text) done × AllByRecursion (CanBeWritten conf text) undone

-- a layer that may be committed is well-formed
pub commit_free : Unflawed → (s : ProjectState) (caller name : List ℕ) (hold : ℕ) (layer : Annotations) → refusal s caller (Commit name hold layer) ≡ None
    → (number_of s name < length s.documents) × IsWellFormed s.conf (size_of s name) layer
commit_free unflawed s caller name hold layer e =
    let free = tests_free s caller (Commit name hold layer) e in
    let rule : commit_rule s.conf (size_of s name) layer ≡ None =
    map_none no.Broken (commit_rule s.conf (size_of s name) layer)
    (or_first (option_map no.Broken (commit_rule s.conf (size_of s name) layer)) None (or_second (held (row_in s name caller) hold) _ (or_second (there s name) _ free))) in (
      within s name _ free,
      unflawed s.conf (size_of s name) layer
          (map_none (λ (flaw : Flaw). flaw.rule) (least_flaw s.conf (size_of s name) layer) (or_first (option_map (λ (flaw : Flaw). flaw.rule) (least_flaw s.conf (size_of s name) layer)) (commit_fault s.conf layer) rule)),
    )

-- commands that may be parked are not refused
pub park_free : (s : ProjectState) (caller name : List ℕ) (hold : ℕ) (done undone : List Command) → refusal s caller (Park name hold done undone) ≡ None
    → (number_of s name < length s.documents) × (first_refusal s.conf (size_of s name) (row_in s name caller).layer done undone ≡ None)
park_free s caller name hold done undone e =
    let free = tests_free s caller (Park name hold done undone) e in (
      within s name _ free,
      map_none (λ (at : ℕ × Rule). at.1) (first_refusal s.conf (size_of s name) (row_in s name caller).layer done undone)
          (map_none no.Broken (park_rule s.conf (size_of s name) (row_in s name caller).layer done undone)
          (or_first (option_map no.Broken (park_rule s.conf (size_of s name) (row_in s name caller).layer done undone)) None
          (or_second (held (row_in s name caller) hold) _ (or_second (there s name) _ free)))),
    )

entered : (s : ProjectState) (made happened : Happened) → Some made ≡ Some happened → CanBeEntered s made → CanBeEntered s happened
entered s made happened e h = subst (CanBeEntered s) (some_same made happened e) h

-- the change of a request that is not refused can be written
pub can_be_entered : Unflawed → Replayed → (s : ProjectState) (caller : List ℕ) (asked : Asked) (happened : Happened) → refusal s caller asked ≡ None → change s caller asked ≡ Some happened → CanBeEntered s happened
can_be_entered unflawed replayed s caller ReadConf e free made = absurd (none_some e made)
can_be_entered unflawed replayed s caller ListDocs e free made = absurd (none_some e made)
can_be_entered unflawed replayed s caller (ReadText name) e free made = absurd (none_some e made)
can_be_entered unflawed replayed s caller (ReadLayer name who) e free made = absurd (none_some e made)
can_be_entered unflawed replayed s caller (TakeSnapshot number) e free made = absurd (none_some e made)
can_be_entered unflawed replayed s caller ReadPairs e free made = absurd (none_some e made)
can_be_entered unflawed replayed s caller ReadAlpha e free made = absurd (none_some e made)
can_be_entered unflawed replayed s caller (ReadReport report) e free made = absurd (none_some e made)
can_be_entered unflawed replayed s caller (AddText name text) e free made = entered s _ e made tt
can_be_entered unflawed replayed s caller (Checkout name) e free made = entered s _ e made tt
can_be_entered unflawed replayed s caller (TakeOver name) e free made = entered s _ e made tt
can_be_entered unflawed replayed s caller (Commit name hold layer) e free made = entered s _ e made (commit_free unflawed s caller name hold layer free)
can_be_entered unflawed replayed s caller (Park name hold done undone) e free made =
    let parts = park_free s caller name hold done undone free in
    let both = replayed s.conf (document s (number_of s name)).text (row_in s name caller).layer done undone parts.1 in
    entered s _ e made (parts.0, both.0, both.1)
can_be_entered unflawed replayed s caller (Finish name) e free made = entered s _ e made tt
can_be_entered unflawed replayed s caller (Reopen name who) e free made = entered s _ e made tt
can_be_entered unflawed replayed s caller (Ignore name who) e free made = entered s _ e made tt
can_be_entered unflawed replayed s caller (Readmit name who) e free made = entered s _ e made tt
can_be_entered unflawed replayed s caller (Snap name) e free made = entered s _ e made tt
can_be_entered unflawed replayed s caller (Decide number holder id verdict) e free made = entered s _ e made tt
can_be_entered unflawed replayed s caller (Undecide number holder id) e free made = entered s _ e made tt
