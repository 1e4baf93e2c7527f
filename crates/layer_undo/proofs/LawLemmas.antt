-- Laws of desks under any calls.
use Rattle.std.proofs.Common.{◌≡◌, ℕ, ◌+◌, ◌-◌, Bool, true, false, List, [], ◌∷◌, ◌++◌, length, take, Option, Some, None, Result, Ok, Err, IfOk, refl, sym, ◌∙◌, ap, subst, arith}
use Rattle.std.specs.Prelude.{IsOk, is_ok, suc, slice_get, nat_lt, replicate, reverse, option_map, ok_or, unwrap_or, if◌then◌else◌}
use Rattle.std.specs.Result.{result_ok}
use Rattle.std.proofs.lemmas.Bool.{false≢true, ltb-true}
use Rattle.std.proofs.lemmas.List.{append-nil, append_assoc, reverse-append, length_push, take_at}
use Rattle.conf_model.specs.Configurations.{Configuration}
use Rattle.layer_model.specs.declared.rule.Rule.{Rule}
use Rattle.layer_model.specs.declared.rule.Rule.TheVariants.{DeskFull, NothingToUndo, NothingToRedo}
use Rattle.layer_model.specs.Annotations.{Annotations}
use Rattle.layer_core.specs.declared.command.Command.{Command}
use Rattle.layer_core.specs.Commands.{Applied, apply}
use Rattle.layer_rules.specs.WellFormed.{IsWellFormed}
use Rattle.layer_undo.specs.Replays.{Outcome, next, replay_from, replay}
use Rattle.layer_undo.specs.Desks.{DeskState, IsDesk, layer_of, with_scripts, last_of, but_last, Performed, performed, taken_in, after_undo, after_redo}
use Rattle.layer_undo.specs.Calls.{Call, Perform, Undo, Redo, Settle, after_call, after_calls}
use Rattle.layer_undo.proofs.ReplayLemmas.{replay_front}
use Rattle.layer_undo.proofs.DeskLemmas.{all_accepted, last_splits, one_more, perform_keeps, redo_keeps, undo_keeps}

-- every command keeps a layer well-formed
abbrev pub KeepsLayers : Type 0
KeepsLayers = (conf : Configuration) (characters : ℕ) (layer : Annotations) (command : Command) → IsWellFormed conf characters layer → IfOk (apply conf characters layer command) (λ applied. IsWellFormed conf characters applied.layer)

made_of : (base : Annotations) (outcome : Outcome) → IsOk outcome → outcome ≡ Ok (unwrap_or (result_ok outcome) base)
made_of base (Ok layer) ok = refl
made_of base (Err stop) ok = absurd (false≢true ok)

-- the layer of a desk is what its done commands make
pub layer_made : (desk : DeskState) → IsDesk desk → replay desk.conf (length desk.text) desk.base desk.done ≡ Ok (layer_of desk)
layer_made desk is =
    made_of desk.base (replay desk.conf (length desk.text) desk.base desk.done)
    (replay_front desk.conf (length desk.text) 0 desk.base desk.done (reverse desk.undone) (all_accepted desk is))

next_keeps : (P : Annotations → Type 0) (at : ℕ) (made : Annotations) (applied : Result Applied Rule) (rest : Annotations → Outcome) → IfOk applied (λ a. P a.layer) → ((layer : Annotations) → P layer → rest layer ≡ Ok made → P made) → next at applied rest ≡ Ok made → P made
next_keeps P at made (Ok applied) rest kept more e = more applied.layer kept e
next_keeps P at made (Err rule) rest kept more e = absurd (false≢true (ap is_ok e))

pub replay_keeps : KeepsLayers → (conf : Configuration) (characters at : ℕ) (layer made : Annotations) (commands : List Command) → IsWellFormed conf characters layer → replay_from conf characters at layer commands ≡ Ok made → IsWellFormed conf characters made
replay_keeps keeps conf characters at layer made [] well e = subst (λ o. IsWellFormed conf characters (unwrap_or (result_ok o) layer)) e well
replay_keeps keeps conf characters at layer made (command ∷ commands) well e =
    next_keeps (IsWellFormed conf characters) at made (apply conf characters layer command) (λ after. replay_from conf characters (at + 1) after commands)
    (keeps conf characters layer command well) (λ after kept more. replay_keeps keeps conf characters (at + 1) after made commands kept more) e

pub layer_well_formed : KeepsLayers → (desk : DeskState) → IsDesk desk → IsWellFormed desk.conf (length desk.text) (layer_of desk)
layer_well_formed keeps desk is = replay_keeps keeps desk.conf (length desk.text) 0 desk.base (layer_of desk) desk.done is.base (layer_made desk is)

perform_stays : (desk : DeskState) (command : Command) → IsDesk desk → (room : Bool) → nat_lt (length desk.done) 4096 ≡ room → (applied : Result Applied Rule) → apply desk.conf (length desk.text) (layer_of desk) command ≡ applied → IsDesk (unwrap_or (option_map (λ p. p.desk) (result_ok (if room then taken_in desk command applied else Err DeskFull))) desk)
perform_stays desk command is true room (Ok applied) e =
    let one : replay_from desk.conf (length desk.text) (length desk.done) (layer_of desk) (command ∷ []) ≡ Ok applied.layer = ap (λ r. next (length desk.done) r (λ l. Ok l)) e in
    perform_keeps desk (layer_of desk) applied.layer command is (ltb-true (length desk.done) 4096 room)
    (one_more desk (layer_of desk) applied.layer command (length desk.done) (layer_made desk is) refl one)
perform_stays desk command is true room (Err rule) e = is
perform_stays desk command is false room applied e = is

undo_stays : (desk : DeskState) → IsDesk desk → (last : Option Command) → last_of desk.done ≡ last → IsDesk (unwrap_or (result_ok (ok_or (option_map (λ command. with_scripts desk (but_last desk.done) (desk.undone ++ command ∷ [])) last) NothingToUndo)) desk)
undo_stays desk is None e = is
undo_stays desk is (Some command) e = undo_keeps desk command is e

redo_stays : (desk : DeskState) → IsDesk desk → (last : Option Command) → last_of desk.undone ≡ last → IsDesk (unwrap_or (result_ok (ok_or (option_map (λ command. with_scripts desk (desk.done ++ command ∷ []) (but_last desk.undone)) last) NothingToRedo)) desk)
redo_stays desk is None e = is
redo_stays desk is (Some command) e = redo_keeps desk command is e

call_stays : KeepsLayers → (desk : DeskState) (call : Call) → IsDesk desk → IsDesk (after_call desk call)
call_stays keeps desk (Perform command) is = perform_stays desk command is (nat_lt (length desk.done) 4096) refl (apply desk.conf (length desk.text) (layer_of desk) command) refl
call_stays keeps desk Undo is = undo_stays desk is (last_of desk.done) refl
call_stays keeps desk Redo is = redo_stays desk is (last_of desk.undone) refl
call_stays keeps desk Settle is = record { base = layer_well_formed keeps desk is; accepted = refl }

pub calls_stay : KeepsLayers → (desk : DeskState) (calls : List Call) → IsDesk desk → IsDesk (after_calls desk calls)
calls_stay keeps desk [] is = is
calls_stay keeps desk (call ∷ calls) is = calls_stay keeps (after_call desk call) calls (call_stays keeps desk call is)

-- the last of a list with one more item, and the others
pub last_more : {X : Type 0} (xs : List X) (x : X) → last_of (xs ++ x ∷ []) ≡ Some x
last_more [] x = refl
last_more (y ∷ []) x = refl
last_more (y ∷ z ∷ xs) x =
    let one : length (y ∷ z ∷ xs ++ x ∷ []) - 1 ≡ length (z ∷ xs ++ x ∷ []) = omega arith in
    let two : length (z ∷ xs ++ x ∷ []) ≡ suc (length (z ∷ xs ++ x ∷ []) - 1) = omega arith in
    ap (slice_get (y ∷ z ∷ xs ++ x ∷ [])) (one ∙ two) ∙ last_more (z ∷ xs) x

pub but_last_more : {X : Type 0} (xs : List X) (x : X) → but_last (xs ++ x ∷ []) ≡ xs
but_last_more xs x =
    let one : length (xs ++ x ∷ []) - 1 ≡ length xs = omega (arith, length_push xs x) in
    ap (λ k. take k (xs ++ x ∷ [])) one ∙ take_at xs (x ∷ []) (length xs) refl

undo_at : (desk : DeskState) (kept undone : List Command) (command : Command) → after_undo (with_scripts desk (kept ++ command ∷ []) undone) ≡ Ok (with_scripts desk kept (undone ++ command ∷ []))
undo_at desk kept undone command =
    ap (λ last. ok_or (option_map (λ c. with_scripts desk (but_last (kept ++ command ∷ [])) (undone ++ c ∷ [])) last) NothingToUndo) (last_more kept command)
    ∙ ap (λ done. ok_or (Some (with_scripts desk done (undone ++ command ∷ []))) NothingToUndo) (but_last_more kept command)

redo_at : (desk : DeskState) (done kept : List Command) (command : Command) → after_redo (with_scripts desk done (kept ++ command ∷ [])) ≡ Ok (with_scripts desk (done ++ command ∷ []) kept)
redo_at desk done kept command =
    ap (λ last. ok_or (option_map (λ c. with_scripts desk (done ++ c ∷ []) (but_last (kept ++ command ∷ []))) last) NothingToRedo) (last_more kept command)
    ∙ ap (λ undone. ok_or (Some (with_scripts desk (done ++ command ∷ []) undone)) NothingToRedo) (but_last_more kept command)

-- what is said of the value of an outcome is said of each value that it has
carry_ok : {X : Type 0} (a b : X) (P : X → Type 0) → Path (Result X Rule) (Ok a) (Ok b) → P a → P b
carry_ok a b P e h = subst (λ o. P (unwrap_or (result_ok o) a)) e h

redone_of : (desk earlier : DeskState) (last : Option Command) → last_of desk.done ≡ last → ok_or (option_map (λ command. with_scripts desk (but_last desk.done) (desk.undone ++ command ∷ [])) last) NothingToUndo ≡ Ok earlier → after_redo earlier ≡ Ok desk
redone_of desk earlier None l e = absurd (false≢true (ap is_ok e))
redone_of desk earlier (Some command) l e =
    carry_ok (with_scripts desk (but_last desk.done) (desk.undone ++ command ∷ [])) earlier (λ d. after_redo d ≡ Ok desk) e
    (redo_at desk (but_last desk.done) desk.undone command ∙ ap (λ done. ok_or (Some (with_scripts desk done desk.undone)) NothingToRedo) (sym (last_splits desk.done command l)))

undone_of : (desk later : DeskState) (last : Option Command) → last_of desk.undone ≡ last → ok_or (option_map (λ command. with_scripts desk (desk.done ++ command ∷ []) (but_last desk.undone)) last) NothingToRedo ≡ Ok later → after_undo later ≡ Ok desk
undone_of desk later None l e = absurd (false≢true (ap is_ok e))
undone_of desk later (Some command) l e =
    carry_ok (with_scripts desk (desk.done ++ command ∷ []) (but_last desk.undone)) later (λ d. after_undo d ≡ Ok desk) e
    (undo_at desk desk.done (but_last desk.undone) command ∙ ap (λ undone. ok_or (Some (with_scripts desk desk.done undone)) NothingToUndo) (sym (last_splits desk.undone command l)))

pub redo_of_undo : (desk earlier : DeskState) → after_undo desk ≡ Ok earlier → after_redo earlier ≡ Ok desk
redo_of_undo desk earlier e = redone_of desk earlier (last_of desk.done) refl e

pub undo_of_redo : (desk later : DeskState) → after_redo desk ≡ Ok later → after_undo later ≡ Ok desk
undo_of_redo desk later e = undone_of desk later (last_of desk.undone) refl e

taken_back : (desk : DeskState) (command : Command) (made : Performed) (room : Bool) (applied : Result Applied Rule) → (if room then taken_in desk command applied else Err DeskFull) ≡ Ok made → after_undo made.desk ≡ Ok (with_scripts desk desk.done (command ∷ []))
taken_back desk command made true (Ok applied) e =
    carry_ok (record { desk = with_scripts desk (desk.done ++ command ∷ []) []; made = applied.made }) made (λ p. after_undo p.desk ≡ Ok (with_scripts desk desk.done (command ∷ []))) e
    (undo_at desk desk.done [] command)
taken_back desk command made true (Err rule) e = absurd (false≢true (ap is_ok e))
taken_back desk command made false applied e = absurd (false≢true (ap is_ok e))

pub undo_of_perform : (desk : DeskState) (command : Command) (made : Performed) → performed desk command ≡ Ok made → after_undo made.desk ≡ Ok (with_scripts desk desk.done (command ∷ []))
undo_of_perform desk command made e = taken_back desk command made (nat_lt (length desk.done) 4096) (apply desk.conf (length desk.text) (layer_of desk) command) e

pub layer_before : (desk : DeskState) (command : Command) (made : Performed) → performed desk command ≡ Ok made → IfOk (after_undo made.desk) (λ earlier. layer_of earlier ≡ layer_of desk)
layer_before desk command made e = subst (λ r. IfOk r (λ earlier. layer_of earlier ≡ layer_of desk)) (sym (undo_of_perform desk command made e)) refl

pub undos : (desk : DeskState) (kept taken : List Command) → desk.done ≡ kept ++ reverse taken → after_calls desk (replicate (length taken) Undo) ≡ with_scripts desk kept (desk.undone ++ taken)
undos desk kept [] e = ap (λ done. with_scripts desk done desk.undone) (e ∙ append-nil kept) ∙ ap (with_scripts desk kept) (sym (append-nil desk.undone))
undos desk kept (command ∷ taken) e =
    let split : desk.done ≡ (kept ++ reverse taken) ++ command ∷ [] = e ∙ ap (λ l. kept ++ l) (reverse-append (command ∷ []) taken) ∙ sym (append_assoc kept (reverse taken) (command ∷ [])) in
    let middle : DeskState = with_scripts desk (kept ++ reverse taken) (desk.undone ++ command ∷ []) in
    ap (λ r. after_calls (unwrap_or (result_ok r) desk) (replicate (length taken) Undo)) (ap (λ done. after_undo (with_scripts desk done desk.undone)) split ∙ undo_at desk (kept ++ reverse taken) desk.undone command)
    ∙ undos middle kept taken refl
    ∙ ap (with_scripts desk kept) (append_assoc desk.undone (command ∷ []) taken)

pub redos : (desk : DeskState) (kept given : List Command) → desk.undone ≡ kept ++ reverse given → after_calls desk (replicate (length given) Redo) ≡ with_scripts desk (desk.done ++ given) kept
redos desk kept [] e = ap (with_scripts desk desk.done) (e ∙ append-nil kept) ∙ ap (λ done. with_scripts desk done kept) (sym (append-nil desk.done))
redos desk kept (command ∷ given) e =
    let split : desk.undone ≡ (kept ++ reverse given) ++ command ∷ [] = e ∙ ap (λ l. kept ++ l) (reverse-append (command ∷ []) given) ∙ sym (append_assoc kept (reverse given) (command ∷ [])) in
    let middle : DeskState = with_scripts desk (desk.done ++ command ∷ []) (kept ++ reverse given) in
    ap (λ r. after_calls (unwrap_or (result_ok r) desk) (replicate (length given) Redo)) (ap (λ undone. after_redo (with_scripts desk desk.done undone)) split ∙ redo_at desk desk.done (kept ++ reverse given) command)
    ∙ redos middle kept given refl
    ∙ ap (λ done. with_scripts desk done kept) (append_assoc desk.done (command ∷ []) given)
