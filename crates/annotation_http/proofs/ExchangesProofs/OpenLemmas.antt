-- A message keeps the desk that a connection holds open on the row of its hold.
use Rattle.std.proofs.Common.{◌≡◌, ◌⊎◌, ◌&&◌, ℕ, ◌+◌, ◌<◌, ◌≤◌, Bool, true, false, List, [], ◌∷◌, ◌++◌, length, nat_lt, Option, Some, None, Result, Ok, Err, refl, sym, ◌∙◌, ap, subst, arith, inl, inr, bytes_eq, lt-ltb, le-ltb, length-append, append-nil, if◌then◌else◌}
use Rattle.std.specs.Prelude.{is_some, ok_or, option_map, ⊤}
use Rattle.std.specs.Option.{option_to_list}
use Rattle.std.specs.List.{All}
use Rattle.http_wire.specs.declared.answer.Answer.{Answer}
use Rattle.http_wire.specs.declared.message.Message.{Message}
use Rattle.layer_model.specs.declared.rule.Rule.{Rule}
use Rattle.layer_model.specs.declared.rule.Rule.TheVariants.{NothingToUndo, NothingToRedo}
use Rattle.layer_model.specs.Annotations.{Annotations}
use Rattle.layer_core.specs.Commands.{Applied, apply}
use Rattle.layer_core.specs.declared.command.Command.{Command}
use Rattle.layer_undo.specs.Desks.{DeskState, Performed, after_redo, after_undo, but_last, last_of, layer_of, performed, taken_in, with_scripts}
use Rattle.ann_reader.specs.AnnFaults as ann
use Rattle.ann_reader.specs.LineFaults.{Fault}
use Rattle.command_json.specs.Bodies.{command_of}
use Rattle.http_answers.specs.Desk.DeskAnswers.{Outcome, asked, asked_for, commanded, loaded, loaded_but, moved, redone, said_of, shown, undone}
use Rattle.http_answers.specs.declared.answer_bodies.message_fault.MessageFault.{MessageFault}
use Rattle.http_answers.specs.declared.answer_bodies.message_fault.MessageFault.TheVariants as message
use Rattle.http_answers.specs.declared.routes.route.Route.{Route}
use Rattle.http_answers.specs.declared.routes.route.Route.TheVariants as route
use Rattle.http_answers.specs.declared.routes.route.BookRoute.{BookRoute}
use Rattle.http_answers.specs.declared.routes.route.BookRoute.TheVariants.{Project, Document, Layer, Snapshot}
use Rattle.http_answers.specs.declared.routes.route.ProjectRoute.{ProjectRoute}
use Rattle.http_answers.specs.declared.routes.route.ProjectRoute.TheVariants as project
use Rattle.http_answers.specs.declared.routes.route.DocumentRoute.{DocumentRoute}
use Rattle.http_answers.specs.declared.routes.route.DocumentRoute.TheVariants as document
use Rattle.http_answers.specs.declared.routes.route.LayerRoute.{LayerRoute}
use Rattle.http_answers.specs.declared.routes.route.LayerRoute.TheVariants as layer
use Rattle.http_answers.specs.declared.routes.route.SnapshotRoute.{SnapshotRoute}
use Rattle.http_answers.specs.declared.routes.route.SnapshotRoute.TheVariants as snapshot
use Rattle.http_answers.specs.declared.routes.route.DeskRoute.{DeskRoute}
use Rattle.http_answers.specs.declared.routes.route.DeskRoute.TheVariants as desk
use Rattle.http_answers.specs.declared.routes.found.Found.{Found}
use Rattle.http_answers.specs.declared.routes.found.Found.TheVariants as found
use Rattle.http_answers.specs.Routes.Found.{found_by}
use Rattle.http_answers.specs.declared.requests.body_fault.BodyFault.{BodyFault}
use Rattle.http_answers.specs.declared.requests.body_fault.BodyFault.TheVariants as body
use Rattle.http_answers.specs.declared.requests.decision_body.DecisionBody.{DecisionBody}
use Rattle.http_answers.specs.declared.requests.item_named.ItemNamed.{ItemNamed}
use Rattle.http_answers.specs.Requests.Bodies.{decision_body, or_bad, text_body, undecision_body}
use Rattle.http_answers.specs.Requests.Requests.{asked_of_document, asked_of_layer, asked_of_project, asked_of_snapshot, asked_on, asks, decides, undecides}
use Rattle.project_machine.specs.declared.book_refusal.BookRefusal.{BookRefusal}
use Rattle.project_machine.specs.declared.book_refusal.BookRefusal.TheVariants as no
use Rattle.project_machine.specs.ProjectState.{ProjectState, holder_of, number_of, snapshot}
use Rattle.project_machine.specs.Requests.{Asked, ReadConf, ListDocs, ReadText, AddText, Checkout, TakeOver, Commit, Park, Finish, ReadLayer, Reopen, Ignore, Readmit, Snap, TakeSnapshot, Decide, Undecide, ReadPairs, ReadAlpha, ReadReport, Answered, Committed, HandedOut, Out, Refused, Happened, TextAdded, LayerFinished, LayerReopened, LayerIgnored, LayerReadmitted, SnapshotTaken, ItemDecided, ItemUndecided}
use Rattle.project_machine.specs.Machine.{Step, change, refusal, refused, reply, size_in, step, unless}
use Rattle.project_machine.specs.History.{after, last}
use Rattle.project_machine.specs.Legal.{IsLegal}
use Rattle.project_machine.specs.Asking.{IsStep, IsVisiting, LiesWithin, Visited, Visiting, gained, is_not_kept, step_at, steps, wants_memory}
use Rattle.project_machine.proofs.HistoryLemmas.{begin_more, granted, legal_some}
use Rattle.project_machine.proofs.LegalLemmas.{none_some, some_same}
use Rattle.annotation_http.specs.Exchanges.Connections.{Connection, Bare, Holding, Holds, committed, handed, is_held, with_desk}
use Rattle.annotation_http.specs.Exchanges.Plans.{Plan, AtOnce, AsksBook, at_book, at_desk, at_once, by_body, by_caller, by_found, caller_of, commits, desk_named, loads, on_desk, on_route, planned, refuses}
use Rattle.annotation_http.specs.Exchanges.Exchanges as exchange
use Rattle.annotation_http.specs.Exchanges.Exchanges.{Carried, IsExchange, IsGiven, committed_by, held_by, next, parked_by}
use Rattle.annotation_http.specs.Exchanges.OpenDesks.{IsOpen, IsOpenOn, IsUnder}
use Rattle.annotation_http.proofs.ExchangesProofs.HoldLemmas.{checkout_open, committed_open, own_stays_open, stays_open, step_reply, takeover_open}
use Rattle.annotation_http.proofs.ExchangesProofs.VisitedLemmas.{others_legal}

-- ---- what a desk does at once changes its scripts alone

-- a desk stands where it stood
record SameGround (old new : DeskState) : Type 0 where
  conf : new.conf ≡ old.conf
  text : new.text ≡ old.text
  base : new.base ≡ old.base

itself : (d : DeskState) → SameGround d d
itself d = record { conf = refl; text = refl; base = refl }

scripts : (d : DeskState) (done undone : List Command) → SameGround d (with_scripts d done undone)
scripts d done undone = record { conf = refl; text = refl; base = refl }

applied_ground : (d : DeskState) (command : Command) (r : Result Applied Rule) → SameGround d (said_of d (taken_in d command r)).1
applied_ground d command (Ok applied) = scripts d (d.done ++ command ∷ []) []
applied_ground d command (Err rule) = itself d

full_ground : (d : DeskState) (command : Command) (room : Bool) (full : Rule) → SameGround d (said_of d (if room then taken_in d command (apply d.conf (length d.text) (layer_of d) command) else Err full)).1
full_ground d command true full = applied_ground d command (apply d.conf (length d.text) (layer_of d) command)
full_ground d command false full = itself d

commanded_ground : (d : DeskState) (command : Command) → SameGround d (commanded d command).1
commanded_ground d command = full_ground d command (nat_lt (length d.done) 4096) _

asked_ground : (d : DeskState) (o : Option Command) → SameGround d (asked_for d o).1
asked_ground d (Some command) = commanded_ground d command
asked_ground d None = itself d

undone_ground : (d : DeskState) (o : Option Command) → SameGround d (moved d (ok_or (option_map (λ command. with_scripts d (but_last d.done) (d.undone ++ command ∷ [])) o) NothingToUndo)).1
undone_ground d (Some command) = scripts d (but_last d.done) (d.undone ++ command ∷ [])
undone_ground d None = itself d

redone_ground : (d : DeskState) (o : Option Command) → SameGround d (moved d (ok_or (option_map (λ command. with_scripts d (d.done ++ command ∷ []) (but_last d.undone)) o) NothingToRedo)).1
redone_ground d (Some command) = scripts d (d.done ++ command ∷ []) (but_last d.undone)
redone_ground d None = itself d

loaded_ground : (d : DeskState) (bytes : List ℕ) (o : Option Fault) → SameGround d (loaded_but d bytes o).1
loaded_ground d bytes None = commanded_ground d _
loaded_ground d bytes (Some fault) = itself d

-- ---- what a message comes to

-- the connection holds what it held, on the same ground
Alike : Connection → Connection → Type 0
Alike Bare Bare = ⊤
Alike (Holds old) (Holds new) = (d : DeskState) × (new ≡ with_desk old d) × SameGround old.desk d
Alike old new = ⊥

-- what is asked of the project is no commit, or one of the desk that is held
AsksWell : Connection → List ℕ → Asked → Type 0
AsksWell c caller (Commit doc hold layer) = (held : Holding) × (c ≡ Holds held) × (caller ≡ held.who) × (doc ≡ held.doc) × (hold ≡ held.hold) × (layer ≡ layer_of held.desk)
AsksWell c caller other = ⊤

IsWell : Connection → Plan → Type 0
IsWell c (AtOnce answer now) = Alike c now
IsWell c (AsksBook route caller asked) = AsksWell c caller asked

alike_itself : (c : Connection) → Alike c c
unfolding Alike
alike_itself Bare = tt
alike_itself (Holds held) = (held.desk, refl, itself held.desk)

refuses_well : (c : Connection) (fault : MessageFault) → IsWell c (refuses c fault)
unfolding IsWell
refuses_well c fault = alike_itself c

once_well : (held : Holding) (outcome : Outcome) → SameGround held.desk outcome.1 → IsWell (Holds held) (at_once held outcome)
unfolding IsWell Alike
once_well held outcome ground = (outcome.1, refl, ground)

loads_well : (held : Holding) (bytes : List ℕ) (long : Bool) → IsWell (Holds held) (if long then refuses (Holds held) message.BadBody else at_once held (loaded held.desk bytes))
loads_well held bytes true = refuses_well (Holds held) message.BadBody
loads_well held bytes false = once_well held (loaded held.desk bytes) (loaded_ground held.desk bytes (ann.ann_fault held.desk.conf held.desk.text bytes))

desk_well : (held : Holding) (r : DeskRoute) (bytes : List ℕ) → IsWell (Holds held) (on_desk held r bytes)
unfolding IsWell AsksWell
desk_well held desk.Show bytes = once_well held (shown held.desk) (itself held.desk)
desk_well held desk.Do bytes = once_well held (asked held.desk bytes) (asked_ground held.desk (command_of bytes))
desk_well held desk.Undo bytes = once_well held (undone held.desk) (undone_ground held.desk (last_of held.desk.done))
desk_well held desk.Redo bytes = once_well held (redone held.desk) (redone_ground held.desk (last_of held.desk.undone))
desk_well held desk.Load bytes = loads_well held bytes (nat_lt 16777216 (length bytes))
desk_well held desk.Commit bytes = (held, refl, refl, refl, refl, refl)
desk_well held desk.Park bytes = tt

own_desk_well : (held : Holding) (r : DeskRoute) (bytes : List ℕ) (own : Bool) → IsWell (Holds held) (if own then on_desk held r bytes else refuses (Holds held) message.NotYours)
own_desk_well held r bytes true = desk_well held r bytes
own_desk_well held r bytes false = refuses_well (Holds held) message.NotYours

-- what a body asks is no commit
NoCommit : Result Asked BodyFault → Type 0
NoCommit (Ok (Commit doc hold layer)) = ⊥
NoCommit other = ⊤

text_none : (doc : List ℕ) (r : Result (List ℕ) BodyFault) → NoCommit (asks (AddText doc) r)
unfolding NoCommit
text_none doc (Ok said) = tt
text_none doc (Err fault) = tt

decides_none : (number : ℕ) (o : Option DecisionBody) → NoCommit (or_bad (option_map (decides number) o))
unfolding NoCommit
decides_none number (Some said) = tt
decides_none number None = tt

undecides_none : (number : ℕ) (o : Option ItemNamed) → NoCommit (or_bad (option_map (undecides number) o))
unfolding NoCommit
undecides_none number (Some said) = tt
undecides_none number None = tt

none_commits : (r : BookRoute) (bytes : List ℕ) → NoCommit (asked_on r bytes)
unfolding NoCommit
none_commits (Project project.Conf) bytes = tt
none_commits (Project project.Documents) bytes = tt
none_commits (Project project.Pairs) bytes = tt
none_commits (Project project.Alpha) bytes = tt
none_commits (Project project.Progress) bytes = tt
none_commits (Project project.Snapshots) bytes = tt
none_commits (Project project.Roster) bytes = tt
none_commits (Document document.ReadText doc) bytes = tt
none_commits (Document document.AddText doc) bytes = text_none doc (text_body bytes)
none_commits (Document document.Checkout doc) bytes = tt
none_commits (Document document.TakeOver doc) bytes = tt
none_commits (Document document.Finish doc) bytes = tt
none_commits (Document document.Snap doc) bytes = tt
none_commits (Layer layer.Read doc who) bytes = tt
none_commits (Layer layer.Reopen doc who) bytes = tt
none_commits (Layer layer.Ignore doc who) bytes = tt
none_commits (Layer layer.Readmit doc who) bytes = tt
none_commits (Snapshot snapshot.Items number) bytes = tt
none_commits (Snapshot snapshot.Curated number) bytes = tt
none_commits (Snapshot snapshot.Decide number) bytes = decides_none number (decision_body bytes)
none_commits (Snapshot snapshot.Undecide number) bytes = undecides_none number (undecision_body bytes)

well_asked : (c : Connection) (caller : List ℕ) (wanted : Asked) → NoCommit (Ok wanted) → AsksWell c caller wanted
unfolding NoCommit AsksWell
well_asked c caller ReadConf none = tt
well_asked c caller ListDocs none = tt
well_asked c caller (ReadText name) none = tt
well_asked c caller (AddText name text) none = tt
well_asked c caller (Checkout name) none = tt
well_asked c caller (TakeOver name) none = tt
well_asked c caller (Commit name hold layer) none = absurd none
well_asked c caller (Park name hold done undone) none = tt
well_asked c caller (Finish name) none = tt
well_asked c caller (ReadLayer name whose) none = tt
well_asked c caller (Reopen name whose) none = tt
well_asked c caller (Ignore name whose) none = tt
well_asked c caller (Readmit name whose) none = tt
well_asked c caller (Snap name) none = tt
well_asked c caller (TakeSnapshot number) none = tt
well_asked c caller (Decide number holder id verdict) none = tt
well_asked c caller (Undecide number holder id) none = tt
well_asked c caller ReadPairs none = tt
well_asked c caller ReadAlpha none = tt
well_asked c caller (ReadReport report) none = tt

body_well : (c : Connection) (r : BookRoute) (caller : List ℕ) (said : Result Asked BodyFault) → NoCommit said → IsWell c (by_body c r caller said)
unfolding IsWell
body_well c r caller (Ok wanted) none = well_asked c caller wanted none
body_well c r caller (Err body.BadBody) none = refuses_well c message.BadBody
body_well c r caller (Err body.TextTooLong) none = refuses_well c message.TextTooLong
body_well c r caller (Err body.Memory) none = alike_itself c

book_well : (c : Connection) (caller : List ℕ) (r : BookRoute) (bytes : List ℕ) (second : Bool) → IsWell c (if second then refuses c message.DeskHeld else by_body c r caller (asked_on r bytes))
book_well c caller r bytes true = refuses_well c message.DeskHeld
book_well c caller r bytes false = body_well c r caller (asked_on r bytes) (none_commits r bytes)

route_well : (c : Connection) (caller : List ℕ) (r : Route) (bytes : List ℕ) → IsWell c (on_route c caller r bytes)
route_well c caller (route.Book r) bytes = book_well c caller r bytes (is_some (desk_named r) && is_held c)
route_well Bare caller (route.Desk r) bytes = refuses_well Bare message.NoDesk
route_well (Holds held) caller (route.Desk r) bytes = own_desk_well held r bytes (bytes_eq held.who caller)

caller_well : (c : Connection) (r : Route) (bytes : List ℕ) (o : Option (List ℕ)) → IsWell c (by_caller c r bytes o)
caller_well c r bytes None = refuses_well c message.NoCaller
caller_well c r bytes (Some caller) = route_well c caller r bytes

found_well : (c : Connection) (m : Message) (f : Found) → IsWell c (by_found c m f)
found_well c m found.NoRoute = refuses_well c message.NoRoute
found_well c m found.NoMethod = refuses_well c message.NoMethod
found_well c m (found.At r) = caller_well c r m.body (caller_of m)

planned_well : (c : Connection) (m : Message) → IsWell c (planned c m)
unfolding planned
planned_well c m = found_well c m (found_by m.method m.path)

-- ---- a desk on the same ground is as open

ground_open : (seen : List Happened) (mine : List ℕ) (held : Holding) (d : DeskState) → SameGround held.desk d → IsOpenOn seen mine held → IsOpenOn seen mine (with_desk held d)
ground_open seen mine held d ground open_on = record {
  there = open_on.there;
  taken = open_on.taken;
  text = ground.text ∙ open_on.text;
  conf = ground.conf ∙ open_on.conf;
  base = λ out owns. ground.base ∙ open_on.base out owns;
}

alike_open : (seen : List Happened) (mine : List ℕ) (c now : Connection) → Alike c now → IsOpen seen mine c → IsOpen seen mine now
unfolding Alike
alike_open seen mine Bare Bare alike open_on = tt
alike_open seen mine (Holds old) (Holds new) (d, is, ground) open_on = subst (λ (held : Holding). IsOpenOn seen mine held) (sym is) (ground_open seen mine old d ground open_on)
alike_open seen mine Bare (Holds new) alike open_on = absurd alike
alike_open seen mine (Holds old) Bare alike open_on = absurd alike

-- ---- where a request changes nothing

no_out : (long : Bool) (s : ProjectState) (wanted : Asked) (r : BookRefusal) (answer : Answered) (e : Happened)
    → (if◌then◌else◌ {A = Step} long (refused s wanted r) (record { answer = answer; change = Some e })).change ≡ None
    → (named : List ℕ) × ((if◌then◌else◌ {A = Step} long (refused s wanted r) (record { answer = answer; change = Some e })).answer ≡ Refused r named)
no_out true s wanted r answer e none = (_, refl)
no_out false s wanted r answer e none = absurd (none_some e (sym none))

-- what makes nothing happen where it could is refused
refused_by : (s : ProjectState) (wanted : Asked) (o : Option BookRefusal) (answer : Answered) (e : Happened) → (unless s wanted o answer (Some e)).change ≡ None
    → (r : BookRefusal) × (named : List ℕ) × ((unless s wanted o answer (Some e)).answer ≡ Refused r named)
refused_by s wanted (Some r) answer e none = (r, _, refl)
refused_by s wanted None answer e none =
    let told : (named : List ℕ) × _ = no_out (nat_lt 16777216 (size_in s e)) s wanted (no.EntryTooLong (size_in s e)) answer e none in
    (no.EntryTooLong (size_in s e), told.0, told.1)

StaysOrLeaves : Connection → Connection → Type 0
StaysOrLeaves c now = (now ≡ c) ⊎ (now ≡ Bare)

parked_stays : (c : Connection) (r : BookRefusal) (named : List ℕ) → StaysOrLeaves c (parked_by c (Refused r named))
unfolding StaysOrLeaves
parked_stays c no.NotYours named = inr refl
parked_stays c other named = inl refl

refused_stays : (c : Connection) (caller : List ℕ) (wanted : Asked) (r : BookRefusal) (named : List ℕ) → StaysOrLeaves c (next c caller wanted (Refused r named))
unfolding StaysOrLeaves
refused_stays c caller ReadConf r named = inl refl
refused_stays c caller ListDocs r named = inl refl
refused_stays c caller (ReadText name) r named = inl refl
refused_stays c caller (AddText name text) r named = inl refl
refused_stays c caller (Checkout name) r named = inl refl
refused_stays c caller (TakeOver name) r named = inl refl
refused_stays c caller (Commit name hold layer) r named = inl refl
refused_stays c caller (Park name hold done undone) r named = parked_stays c r named
refused_stays c caller (Finish name) r named = inl refl
refused_stays c caller (ReadLayer name whose) r named = inl refl
refused_stays c caller (Reopen name whose) r named = inl refl
refused_stays c caller (Ignore name whose) r named = inl refl
refused_stays c caller (Readmit name whose) r named = inl refl
refused_stays c caller (Snap name) r named = inl refl
refused_stays c caller (TakeSnapshot number) r named = inl refl
refused_stays c caller (Decide number holder id verdict) r named = inl refl
refused_stays c caller (Undecide number holder id) r named = inl refl
refused_stays c caller ReadPairs r named = inl refl
refused_stays c caller ReadAlpha r named = inl refl
refused_stays c caller (ReadReport report) r named = inl refl

quiet_stays : (s : ProjectState) (c : Connection) (caller : List ℕ) (wanted : Asked) (answered : Answered) → answered ≡ (step s caller wanted).answer → (step s caller wanted).change ≡ None → StaysOrLeaves c (next c caller wanted answered)
unfolding StaysOrLeaves
quiet_stays s c caller ReadConf answered is none = inl refl
quiet_stays s c caller ListDocs answered is none = inl refl
quiet_stays s c caller (ReadText name) answered is none = inl refl
quiet_stays s c caller (AddText name text) answered is none = inl refl
quiet_stays s c caller (Checkout name) answered is none =
    let told : (r : BookRefusal) × (named : List ℕ) × ((step s caller (Checkout name)).answer ≡ Refused r named) = refused_by s (Checkout name) (refusal s caller (Checkout name)) (reply s caller (Checkout name)) _ none in
    subst (λ (x : Answered). StaysOrLeaves c (next c caller (Checkout name) x)) (sym (is ∙ told.2)) (refused_stays c caller (Checkout name) told.0 told.1)
quiet_stays s c caller (TakeOver name) answered is none =
    let told : (r : BookRefusal) × (named : List ℕ) × ((step s caller (TakeOver name)).answer ≡ Refused r named) = refused_by s (TakeOver name) (refusal s caller (TakeOver name)) (reply s caller (TakeOver name)) _ none in
    subst (λ (x : Answered). StaysOrLeaves c (next c caller (TakeOver name) x)) (sym (is ∙ told.2)) (refused_stays c caller (TakeOver name) told.0 told.1)
quiet_stays s c caller (Commit name hold layer) answered is none =
    let told : (r : BookRefusal) × (named : List ℕ) × ((step s caller (Commit name hold layer)).answer ≡ Refused r named) = refused_by s (Commit name hold layer) (refusal s caller (Commit name hold layer)) (reply s caller (Commit name hold layer)) _ none in
    subst (λ (x : Answered). StaysOrLeaves c (next c caller (Commit name hold layer) x)) (sym (is ∙ told.2)) (refused_stays c caller (Commit name hold layer) told.0 told.1)
quiet_stays s c caller (Park name hold done undone) answered is none =
    let told : (r : BookRefusal) × (named : List ℕ) × ((step s caller (Park name hold done undone)).answer ≡ Refused r named) = refused_by s (Park name hold done undone) (refusal s caller (Park name hold done undone)) (reply s caller (Park name hold done undone)) _ none in
    subst (λ (x : Answered). StaysOrLeaves c (next c caller (Park name hold done undone) x)) (sym (is ∙ told.2)) (refused_stays c caller (Park name hold done undone) told.0 told.1)
quiet_stays s c caller (Finish name) answered is none = inl refl
quiet_stays s c caller (ReadLayer name whose) answered is none = inl refl
quiet_stays s c caller (Reopen name whose) answered is none = inl refl
quiet_stays s c caller (Ignore name whose) answered is none = inl refl
quiet_stays s c caller (Readmit name whose) answered is none = inl refl
quiet_stays s c caller (Snap name) answered is none = inl refl
quiet_stays s c caller (TakeSnapshot number) answered is none = inl refl
quiet_stays s c caller (Decide number holder id verdict) answered is none = inl refl
quiet_stays s c caller (Undecide number holder id) answered is none = inl refl
quiet_stays s c caller ReadPairs answered is none = inl refl
quiet_stays s c caller ReadAlpha answered is none = inl refl
quiet_stays s c caller (ReadReport report) answered is none = inl refl

stays_or_leaves_open : (seen : List Happened) (mine : List ℕ) (c now : Connection) → StaysOrLeaves c now → IsOpen seen mine c → IsOpen seen mine now
unfolding StaysOrLeaves
stays_or_leaves_open seen mine c now (inl same) open_on = subst (IsOpen seen mine) (sym same) open_on
stays_or_leaves_open seen mine c now (inr bare) open_on = subst (IsOpen seen mine) (sym bare) tt

-- ---- where it changes something

-- a change that is no commit leaves the connection open
other_open : (log : List Happened) (e made : Happened) (mine : List ℕ) (c : Connection) → IsLegal log → IsLegal (log ++ e ∷ []) → ((held : Option ℕ) → IsUnder held made → ⊥) → made ≡ e → IsOpen log mine c → IsOpen (log ++ e ∷ []) (mine ++ (last log + 1) ∷ []) c
other_open log e made mine Bare legal all none is open_on = tt
other_open log e made mine (Holds held) legal all none is open_on =
    own_stays_open log e mine held legal all (λ under. none (Some held.hold) (subst (IsUnder (Some held.hold)) (sym is) under)) open_on

commit_opens : (log : List Happened) (mine mine_now : List ℕ) (c : Connection) (caller doc : List ℕ) (hold : ℕ) (layer : Annotations) (e : Happened) → IsLegal log → AsksWell c caller (Commit doc hold layer)
    → (step (after log) caller (Commit doc hold layer)).change ≡ Some e → IsOpen log mine c → IsOpen (log ++ e ∷ []) mine_now (committed c)
unfolding AsksWell
commit_opens log mine mine_now c caller doc hold layer e legal (held, is, who, on, under, is_layer) made open_on =
    subst (λ (x : Connection). IsOpen (log ++ e ∷ []) mine_now (committed x)) (sym is)
    (committed_open log mine mine_now held _ (layer_of held.desk) e legal
    (same_request caller held.who doc held.doc hold held.hold layer (layer_of held.desk) who on under is_layer made)
    refl refl refl (subst (IsOpen log mine) is open_on))
  where
    same_request : (a b d f : List ℕ) (g h : ℕ) (k l : Annotations) → a ≡ b → d ≡ f → g ≡ h → k ≡ l → (step (after log) a (Commit d g k)).change ≡ Some e → (step (after log) b (Commit f h l)).change ≡ Some e
    same_request a b d f g h k l p q r t made = rw (← p, ← q, ← r, ← t) made

made_opens : (log : List Happened) (mine : List ℕ) (c : Connection) (caller : List ℕ) (wanted : Asked) (answered : Answered) (e : Happened) → IsLegal log → IsLegal (log ++ e ∷ []) → AsksWell c caller wanted
    → answered ≡ reply (after log) caller wanted → (step (after log) caller wanted).change ≡ Some e → change (after log) caller wanted ≡ Some e
    → IsOpen log mine c → IsOpen (log ++ e ∷ []) (mine ++ (last log + 1) ∷ []) (next c caller wanted answered)
made_opens log mine c caller ReadConf answered e legal all well is stepped made open_on = absurd (none_some e made)
made_opens log mine c caller ListDocs answered e legal all well is stepped made open_on = absurd (none_some e made)
made_opens log mine c caller (ReadText name) answered e legal all well is stepped made open_on = absurd (none_some e made)
made_opens log mine c caller (AddText name text) answered e legal all well is stepped made open_on =
    other_open log e (TextAdded caller name text) mine c legal all (λ held under. under) (some_same (TextAdded caller name text) e made) open_on
made_opens log mine c caller (Checkout name) answered e legal all well is stepped made open_on =
    subst (λ (x : Answered). IsOpen (log ++ e ∷ []) (mine ++ (last log + 1) ∷ []) (next c caller (Checkout name) x)) (sym is)
    (checkout_open log (mine ++ (last log + 1) ∷ []) caller name _ e legal (sym (step_reply (after log) caller (Checkout name) e stepped)) stepped)
made_opens log mine c caller (TakeOver name) answered e legal all well is stepped made open_on =
    subst (λ (x : Answered). IsOpen (log ++ e ∷ []) (mine ++ (last log + 1) ∷ []) (next c caller (TakeOver name) x)) (sym is)
    (takeover_open log (mine ++ (last log + 1) ∷ []) caller name _ e legal (sym (step_reply (after log) caller (TakeOver name) e stepped)) stepped)
made_opens log mine c caller (Commit name hold layer) answered e legal all well is stepped made open_on =
    subst (λ (x : Answered). IsOpen (log ++ e ∷ []) (mine ++ (last log + 1) ∷ []) (next c caller (Commit name hold layer) x)) (sym is)
    (commit_opens log mine (mine ++ (last log + 1) ∷ []) c caller name hold layer e legal well stepped open_on)
made_opens log mine c caller (Park name hold done undone) answered e legal all well is stepped made open_on =
    subst (λ (x : Answered). IsOpen (log ++ e ∷ []) (mine ++ (last log + 1) ∷ []) (next c caller (Park name hold done undone) x)) (sym is) tt
made_opens log mine c caller (Finish name) answered e legal all well is stepped made open_on =
    other_open log e (LayerFinished caller (number_of (after log) name)) mine c legal all (λ held under. under) (some_same (LayerFinished caller (number_of (after log) name)) e made) open_on
made_opens log mine c caller (ReadLayer name whose) answered e legal all well is stepped made open_on = absurd (none_some e made)
made_opens log mine c caller (Reopen name whose) answered e legal all well is stepped made open_on =
    other_open log e (LayerReopened caller (number_of (after log) name) whose) mine c legal all (λ held under. under) (some_same (LayerReopened caller (number_of (after log) name) whose) e made) open_on
made_opens log mine c caller (Ignore name whose) answered e legal all well is stepped made open_on =
    other_open log e (LayerIgnored caller (number_of (after log) name) whose) mine c legal all (λ held under. under) (some_same (LayerIgnored caller (number_of (after log) name) whose) e made) open_on
made_opens log mine c caller (Readmit name whose) answered e legal all well is stepped made open_on =
    other_open log e (LayerReadmitted caller (number_of (after log) name) whose) mine c legal all (λ held under. under) (some_same (LayerReadmitted caller (number_of (after log) name) whose) e made) open_on
made_opens log mine c caller (Snap name) answered e legal all well is stepped made open_on =
    other_open log e (SnapshotTaken caller (number_of (after log) name)) mine c legal all (λ held under. under) (some_same (SnapshotTaken caller (number_of (after log) name)) e made) open_on
made_opens log mine c caller (TakeSnapshot number) answered e legal all well is stepped made open_on = absurd (none_some e made)
made_opens log mine c caller (Decide number holder id verdict) answered e legal all well is stepped made open_on =
    other_open log e (ItemDecided caller number (holder_of (snapshot (after log) number) holder) id verdict) mine c legal all (λ held under. under) (some_same (ItemDecided caller number (holder_of (snapshot (after log) number) holder) id verdict) e made) open_on
made_opens log mine c caller (Undecide number holder id) answered e legal all well is stepped made open_on =
    other_open log e (ItemUndecided caller number (holder_of (snapshot (after log) number) holder) id) mine c legal all (λ held under. under) (some_same (ItemUndecided caller number (holder_of (snapshot (after log) number) holder) id) e made) open_on
made_opens log mine c caller ReadPairs answered e legal all well is stepped made open_on = absurd (none_some e made)
made_opens log mine c caller ReadAlpha answered e legal all well is stepped made open_on = absurd (none_some e made)
made_opens log mine c caller (ReadReport report) answered e legal all well is stepped made open_on = absurd (none_some e made)

-- ---- one message

gained_none : (log : List Happened) → gained log log ≡ []
gained_none log = ap (λ (b : Bool). if b then last log ∷ [] else []) (le-ltb (length log) (length log) (omega arith))

gained_more : (log : List Happened) (e : Happened) → 0 < length log → gained log (log ++ e ∷ []) ≡ (last log + 1) ∷ []
gained_more log e some =
    ap (λ (b : Bool). if b then last (log ++ e ∷ []) ∷ [] else []) (lt-ltb (length log) (length (log ++ e ∷ [])) (omega (arith, length-append log (e ∷ []))))
    ∙ ap (λ (n : ℕ). n ∷ []) (omega (arith, begin_more log (e ∷ []) some, length-append log (e ∷ [])))

same_opens : (log now : List Happened) (mine mine_now : List ℕ) (c c_now : Connection) → now ≡ log → mine_now ≡ mine ++ gained log now → IsOpen log mine c_now → IsOpen now mine_now c_now
same_opens log now mine mine_now c c_now same own open_on =
    subst (λ (seen : List Happened). IsOpen seen mine_now c_now) (sym same)
    (subst (λ (places : List ℕ). IsOpen log places c_now)
    (sym (own ∙ (ap (λ (seen : List Happened). mine ++ gained log seen) same ∙ (ap (λ (places : List ℕ). mine ++ places) (gained_none log) ∙ append-nil mine)))) open_on)

stepped_opens : (log now : List Happened) (mine mine_now : List ℕ) (c : Connection) (caller : List ℕ) (wanted : Asked) (answered : Answered) (made : Option Happened) → 0 < length log → IsLegal log → IsLegal now → AsksWell c caller wanted
    → mine_now ≡ mine ++ gained log now → answered ≡ (step_at log caller wanted).answer → (step_at log caller wanted).change ≡ made → now ≡ log ++ option_to_list made
    → IsOpen log mine c → IsOpen now mine_now (next c caller wanted answered)
stepped_opens log now mine mine_now c caller wanted answered None some legal legal_now well own is ch goes open_on =
    same_opens log now mine mine_now c (next c caller wanted answered) (goes ∙ append-nil log) own
    (stays_or_leaves_open log mine c (next c caller wanted answered) (quiet_stays (after log) c caller wanted answered is ch) open_on)
stepped_opens log now mine mine_now c caller wanted answered (Some e) some legal legal_now well own is ch goes open_on =
    subst (λ (seen : List Happened). IsOpen seen mine_now (next c caller wanted answered)) (sym goes)
    (subst (λ (places : List ℕ). IsOpen (log ++ e ∷ []) places (next c caller wanted answered))
    (sym (own ∙ (ap (λ (seen : List Happened). mine ++ gained log seen) goes ∙ ap (λ (places : List ℕ). mine ++ places) (gained_more log e some))))
    (made_opens log mine c caller wanted answered e legal (subst IsLegal goes legal_now) well (is ∙ step_reply (after log) caller wanted e ch) ch (granted (after log) caller wanted e ch).made open_on))

asked_opens : (log now : List Happened) (mine mine_now : List ℕ) (c : Connection) (caller : List ℕ) (wanted : Asked) (answered : Answered) → 0 < length log → IsLegal log → IsLegal now → AsksWell c caller wanted
    → mine_now ≡ mine ++ gained log now → IsStep log caller wanted answered now → IsOpen log mine c → IsOpen now mine_now (next c caller wanted answered)
asked_opens log now mine mine_now c caller wanted answered some legal legal_now well own (steps is goes room) open_on =
    stepped_opens log now mine mine_now c caller wanted answered (step_at log caller wanted).change some legal legal_now well own is refl goes open_on
asked_opens log now mine mine_now c caller wanted answered some legal legal_now well own (wants_memory is goes) open_on =
    same_opens log now mine mine_now c (next c caller wanted answered) goes own
    (stays_or_leaves_open log mine c (next c caller wanted answered) (subst (λ (x : Answered). StaysOrLeaves c (next c caller wanted x)) (sym is) (refused_stays c caller wanted no.Memory [])) open_on)
asked_opens log now mine mine_now c caller wanted answered some legal legal_now well own (is_not_kept is goes makes room) open_on =
    same_opens log now mine mine_now c (next c caller wanted answered) goes own
    (stays_or_leaves_open log mine c (next c caller wanted answered) (subst (λ (x : Answered). StaysOrLeaves c (next c caller wanted x)) (sym is) (refused_stays c caller wanted no.Keeper [])) open_on)

front_of : (old new : Visiting) (caller : List ℕ) (wanted : Asked) (answered : Answered) (visited : Visited old new caller wanted answered) → IsLegal old.seen → IsLegal (old.seen ++ visited.replied.others)
front_of old new caller wanted answered visited legal = by_step (old.seen ++ visited.replied.others) (omega (arith, legal_some old.seen legal, length-append old.seen visited.replied.others)) visited.replied.stepped
  where
    by_step : (log : List Happened) → 0 < length log → IsStep log caller wanted answered new.seen → IsLegal log
    by_step log some (steps is goes room) = others_legal log (option_to_list (step_at log caller wanted).change) some (subst IsLegal goes (visited.legal legal))
    by_step log some (wants_memory is goes) = subst IsLegal goes (visited.legal legal)
    by_step log some (is_not_kept is goes makes room) = subst IsLegal goes (visited.legal legal)

others_open : (seen others : List Happened) (mine : List ℕ) (c : Connection) → IsLegal seen → IsLegal (seen ++ others) → All (LiesWithin seen) mine → IsOpen seen mine c → IsOpen (seen ++ others) mine c
others_open seen others mine Bare legal all within open_on = tt
others_open seen others mine (Holds held) legal all within open_on = stays_open seen others mine held legal all within open_on

well_by : (c : Connection) (plan : Plan) (r : Route) (caller : List ℕ) (wanted : Asked) → plan ≡ AsksBook r caller wanted → IsWell c plan → AsksWell c caller wanted
unfolding IsWell
well_by c plan r caller wanted is well = subst (IsWell c) is well

alike_by : (c now : Connection) (plan : Plan) (answer : Answer) → plan ≡ AtOnce answer now → IsWell c plan → Alike c now
unfolding IsWell
alike_by c now plan answer is well = subst (IsWell c) is well

carried_open : (plan : Plan) (c now : Connection) (old new : Visiting) (answer : Answer) (failed : Bool) → IsLegal old.seen → IsVisiting old → IsWell c plan → Carried plan c old answer now new failed → IsOpen old.seen old.mine c → IsOpen new.seen new.mine now
carried_open plan c now old new answer failed legal visiting well (exchange.is_at_once p same kept) open_on =
    subst (λ (v : Visiting). IsOpen v.seen v.mine now) (sym same) (alike_open old.seen old.mine c now (alike_by c now plan answer p well) open_on)
carried_open plan c now old new answer failed legal visiting well (exchange.asks r caller wanted answered p visited is goes kept) open_on =
    let front : IsLegal (old.seen ++ visited.replied.others) = front_of old new caller wanted answered visited legal in
    subst (IsOpen new.seen new.mine) (sym goes)
    (asked_opens (old.seen ++ visited.replied.others) new.seen old.mine new.mine c caller wanted answered (legal_some (old.seen ++ visited.replied.others) front) front (visited.legal legal)
    (well_by c plan r caller wanted p well) visited.replied.mine_is visited.replied.stepped (others_open old.seen visited.replied.others old.mine c legal front visiting.within open_on))
carried_open plan c now old new answer failed legal visiting well (exchange.loses r caller doc wanted out p d visited is goes kept) open_on = subst (IsOpen new.seen new.mine) (sym goes) tt
carried_open plan c now old new answer failed legal visiting well (exchange.is_unable is goes same kept) open_on =
    subst (λ (v : Visiting). IsOpen v.seen v.mine now) (sym same) (subst (IsOpen old.seen old.mine) (sym goes) open_on)

-- a message keeps a connection open
exchange_open : (c now : Connection) (old new : Visiting) (faultless : Type 0) (m : Message) (answer : Answer) → IsLegal old.seen → IsVisiting old → IsExchange c old faultless m now new answer → IsOpen old.seen old.mine c → IsOpen new.seen new.mine now
exchange_open c now old new faultless m answer legal visiting done open_on = carried_open (planned c m) c now old new answer done.failed legal visiting (planned_well c m) done.carried open_on

-- whether its answer is given, or there was no memory for it
pub given_open : {E : Type 0} (result : Result Answer E) (c now : Connection) (old new : Visiting) (faultless : Type 0) (m : Message) → IsLegal old.seen → IsVisiting old
    → IsGiven result (IsExchange c old faultless m now new) → IsOpen old.seen old.mine c → IsOpen new.seen new.mine now
given_open (Ok answer) c now old new faultless m legal visiting given open_on = exchange_open c now old new faultless m answer legal visiting given.0 open_on
given_open (Err lack) c now old new faultless m legal visiting given open_on = exchange_open c now old new faultless m given.0 legal visiting given.1 open_on
