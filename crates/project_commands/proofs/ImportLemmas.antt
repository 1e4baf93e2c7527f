-- What is told of a desk on which a layer was loaded is told of the desk before.
use Rattle.std.proofs.Common.{◌≡◌, ℕ, List, inr, subst, ◌∙◌}
use Rattle.layer_model.specs.Annotations.{Annotations}
use Rattle.layer_undo.specs.Desks.{layer_of, settled}
use Rattle.project_machine.specs.Requests.{Commit, Committed, Happened}
use Rattle.annotation_http.specs.Exchanges.Connections.{Holding, with_desk}
use Rattle.program_inputs.specs.declared.trouble.Trouble.{Trouble}
use Rattle.project_commands.specs.Commands.Requests.{Grants, RefusesTo}
use Rattle.project_commands.specs.Importing.{CommitRefused, Commits, Loads, NotCommitted}

same_held : (one other : Holding) → one.who ≡ other.who → one.doc ≡ other.doc → one.hold ≡ other.hold → with_desk one (settled one.desk) ≡ with_desk other (settled one.desk)
same_held one other who doc hold = cc

-- a layer that was loaded and committed was committed on the desk before
pub commits : (log now : List Happened) (old mid behind : Holding) (layer : Annotations) (revision : ℕ) → Loads old.desk layer mid.desk
    → mid.who ≡ old.who → mid.doc ≡ old.doc → mid.hold ≡ old.hold → Grants log mid.who (Commit mid.doc mid.hold (layer_of mid.desk)) (Committed revision) now
    → behind ≡ with_desk mid (settled mid.desk) → Commits log old layer revision behind now
commits log now old mid behind layer revision loaded who doc hold granted goes_on = record {
  desk = mid.desk;
  loaded = loaded;
  committed =
      subst (λ (name : List ℕ). Grants log name (Commit old.doc old.hold (layer_of mid.desk)) (Committed revision) now) who
      (subst (λ (name : List ℕ). Grants log mid.who (Commit name old.hold (layer_of mid.desk)) (Committed revision) now) doc
      (subst (λ (number : ℕ). Grants log mid.who (Commit mid.doc number (layer_of mid.desk)) (Committed revision) now) hold granted));
  goes_on = goes_on ∙ same_held mid old who doc hold;
}

-- a layer that was loaded and refused was refused on the desk before
pub commit_refused : (log : List Happened) (old mid : Holding) (layer : Annotations) (why : Trouble) → Loads old.desk layer mid.desk
    → mid.who ≡ old.who → mid.doc ≡ old.doc → mid.hold ≡ old.hold → RefusesTo log mid.who (Commit mid.doc mid.hold (layer_of mid.desk)) why → NotCommitted log old layer why
commit_refused log old mid layer why loaded who doc hold refused = inr (record {
  desk = mid.desk;
  loaded = loaded;
  refused =
      subst (λ (name : List ℕ). RefusesTo log name (Commit old.doc old.hold (layer_of mid.desk)) why) who
      (subst (λ (name : List ℕ). RefusesTo log mid.who (Commit name old.hold (layer_of mid.desk)) why) doc
      (subst (λ (number : ℕ). RefusesTo log mid.who (Commit mid.doc number (layer_of mid.desk)) why) hold refused));
})
