-- What the calls of a desk keep.
use Rattle.std.proofs.Common.{◌≡◌, ℕ, ◌+◌, ◌-◌, ◌<◌, ◌≤◌, ⊎_elim, List, [], ◌∷◌, ◌++◌, length, Option, Some, None, Ok, Err, refl, sym, ◌∙◌, ap, subst, arith}
use Rattle.std.specs.Prelude.{IsOk, is_ok, nat_lt, reverse, option_map, unwrap_or}
use Rattle.std.specs.Result.{result_err, result_ok}
use Rattle.std.proofs.lemmas.Bool.{cases_lt, cond-true, cond-false, false≢true, lt-ltb, le-ltb}
use Rattle.std.proofs.lemmas.List.{append-nil, length-append}
use Rattle.std.proofs.lemmas.Option.{none-some, slice_get_within}
use Rattle.mark_base.specs.declared.ann_id.AnnId.{AnnId}
use Rattle.conf_model.specs.Configurations.{Configuration}
use Rattle.layer_model.specs.declared.rule.Rule.TheVariants.{DeskFull}
use Rattle.layer_model.specs.Annotations.{Annotations}
use Rattle.layer_core.specs.declared.command.Command.{Command}
use Rattle.layer_core.specs.Commands.{apply}
use Rattle.layer_core.specs.Works.{WorkState}
use Rattle.layer_undo.specs.Replays.{Outcome, next, replay_from, replay, first_refusal}
use Rattle.layer_undo.specs.Desks.{DeskState, IsDesk, IsWorkOf, layer_of, with_scripts, last_of, but_last}
use Rattle.layer_undo.proofs.ReplayLemmas.{replay_front, replay_on, same_refusal, split_last}

-- the outcome of both scripts of a desk
abbrev pub all_of : DeskState → Outcome
all_of desk = replay desk.conf (length desk.text) desk.base (desk.done ++ reverse desk.undone)

no_err : (outcome : Outcome) → IsOk outcome → result_err outcome ≡ None
no_err (Ok layer) ok = refl
no_err (Err stop) ok = absurd (false≢true ok)

from_no_err : (outcome : Outcome) → result_err outcome ≡ None → IsOk outcome
from_no_err (Ok layer) e = refl
from_no_err (Err stop) e = absurd (none-some stop (sym e))

-- scripts that are not too long are refused where a command of them is
pub tried : (conf : Configuration) (characters : ℕ) (base : Annotations) (done undone : List Command) → length done + length undone ≤ 4096 → first_refusal conf characters base done undone ≡ result_err (replay conf characters base (done ++ reverse undone))
tried conf characters base done undone few = cond-false (nat_lt 4096 (length done + length undone)) _ _ (le-ltb 4096 (length done + length undone) few)

pub accepted : (conf : Configuration) (characters : ℕ) (base : Annotations) (done undone : List Command) → length done + length undone ≤ 4096 → IsOk (replay conf characters base (done ++ reverse undone)) → first_refusal conf characters base done undone ≡ None
accepted conf characters base done undone few ok = tried conf characters base done undone few ∙ no_err (replay conf characters base (done ++ reverse undone)) ok

-- a desk has at most so many commands
pub few_commands : (desk : DeskState) → IsDesk desk → length desk.done + length desk.undone ≤ 4096
few_commands desk is_desk =
    ⊎_elim
    (λ (many : 4096 < length desk.done + length desk.undone).
    absurd (none-some (4096, DeskFull) (sym is_desk.accepted ∙ cond-true (nat_lt 4096 (length desk.done + length desk.undone)) (Some (4096, DeskFull)) (result_err (all_of desk)) (lt-ltb 4096 (length desk.done + length desk.undone) many))))
    (λ few. few)
    (cases_lt 4096 (length desk.done + length desk.undone))

-- none of the commands of a desk is refused
pub all_accepted : (desk : DeskState) → IsDesk desk → IsOk (all_of desk)
all_accepted desk is_desk =
    from_no_err (all_of desk) (sym (tried desk.conf (length desk.text) desk.base desk.done desk.undone (few_commands desk is_desk)) ∙ is_desk.accepted)

-- a list that has a last is the others and it
pub last_splits : {X : Type 0} (xs : List X) (x : X) → last_of xs ≡ Some x → xs ≡ but_last xs ++ x ∷ []
last_splits xs x e =
    let within : length xs - 1 < length xs = slice_get_within xs (length xs - 1) x e in
    let split = split_last xs (omega arith) in
    split.2 ∙ ap (λ y. but_last xs ++ y ∷ []) (ap (λ o. unwrap_or o x) (sym split.1 ∙ e))

-- undo leaves a desk
pub undo_keeps : (desk : DeskState) (command : Command) → IsDesk desk → last_of desk.done ≡ Some command → IsDesk (with_scripts desk (but_last desk.done) (desk.undone ++ command ∷ []))
undo_keeps desk command is_desk e =
    record {
      base = is_desk.base;
      accepted =
          same_refusal desk.conf (length desk.text) desk.base (but_last desk.done) desk.undone command
          ∙ ap (λ done. first_refusal desk.conf (length desk.text) desk.base done desk.undone) (sym (last_splits desk.done command e))
          ∙ is_desk.accepted;
    }

-- redo leaves a desk
pub redo_keeps : (desk : DeskState) (command : Command) → IsDesk desk → last_of desk.undone ≡ Some command → IsDesk (with_scripts desk (desk.done ++ command ∷ []) (but_last desk.undone))
redo_keeps desk command is_desk e =
    record {
      base = is_desk.base;
      accepted =
          sym (same_refusal desk.conf (length desk.text) desk.base desk.done (but_last desk.undone) command)
          ∙ ap (first_refusal desk.conf (length desk.text) desk.base desk.done) (sym (last_splits desk.undone command e))
          ∙ is_desk.accepted;
    }

-- the command that was undone last is not refused on the layer of the desk
pub last_accepted : (desk : DeskState) (layer : Annotations) (command : Command) → IsDesk desk → replay desk.conf (length desk.text) desk.base desk.done ≡ Ok layer → last_of desk.undone ≡ Some command → IsOk (replay_from desk.conf (length desk.text) (length desk.done) layer (command ∷ []))
last_accepted desk layer command is_desk now e =
    let after = with_scripts desk (desk.done ++ command ∷ []) (but_last desk.undone) in
    let ok = replay_front desk.conf (length desk.text) 0 desk.base after.done (reverse after.undone) (all_accepted after (redo_keeps desk command is_desk e)) in
    let first : 0 + length desk.done ≡ length desk.done = omega arith in
    sym (ap is_ok (replay_on desk.conf (length desk.text) 0 desk.base layer desk.done (command ∷ []) now ∙ ap (λ at. replay_from desk.conf (length desk.text) at layer (command ∷ [])) first)) ∙ ok

-- the done commands and one more, where it is carried out on the layer of the desk
pub one_more : (desk : DeskState) (layer made : Annotations) (command : Command) (at : ℕ) → replay desk.conf (length desk.text) desk.base desk.done ≡ Ok layer → at ≡ length desk.done → replay_from desk.conf (length desk.text) at layer (command ∷ []) ≡ Ok made → replay desk.conf (length desk.text) desk.base (desk.done ++ command ∷ []) ≡ Ok made
one_more desk layer made command at now place more =
    let first : 0 + length desk.done ≡ length desk.done = omega arith in
    replay_on desk.conf (length desk.text) 0 desk.base layer desk.done (command ∷ []) now
    ∙ ap (λ k. replay_from desk.conf (length desk.text) k layer (command ∷ [])) (first ∙ sym place)
    ∙ more

-- the layer of a desk
pub layer_is : (desk : DeskState) (layer : Annotations) → replay desk.conf (length desk.text) desk.base desk.done ≡ Ok layer → layer_of desk ≡ layer
layer_is desk layer e = ap (λ outcome. unwrap_or (result_ok outcome) desk.base) e

-- the last of a list that went to the end of another
pub moved_of : {X : Type 0} (last : Option X) (ys zs : List X) → option_map (λ x. ys ++ x ∷ []) last ≡ Some zs → (x : X) × (last ≡ Some x) × (ys ++ x ∷ [] ≡ zs)
moved_of None ys zs e = absurd (none-some zs e)
moved_of (Some x) ys zs e = (x, refl, ap (λ o. unwrap_or o zs) e)

-- the configuration and the text of a work are those of its desk
same_setting : (desk : DeskState) (work : WorkState) (at : ℕ) (layer : Annotations) (commands : List Command) → IsWorkOf desk work → replay_from work.conf (length work.text) at layer commands ≡ replay_from desk.conf (length desk.text) at layer commands
same_setting desk work at layer commands is =
    ap (λ conf. replay_from conf (length work.text) at layer commands) is.conf ∙ ap (λ text. replay_from desk.conf (length text) at layer commands) is.text

-- a work that has the layer of a desk with one command more that was undone
pub redo_works : (desk : DeskState) (old new : WorkState) (at : ℕ) (done undone : List Command) → IsWorkOf desk old → at ≡ length desk.done → undone ≡ but_last desk.undone → option_map (λ command. desk.done ++ command ∷ []) (last_of desk.undone) ≡ Some done → ((command : Command) → last_of desk.undone ≡ Some command → replay_from old.conf (length old.text) at old.layer (command ∷ []) ≡ Ok new.layer) → new.conf ≡ old.conf → new.text ≡ old.text → IsWorkOf (with_scripts desk done undone) new
redo_works desk old new at done undone is place less more layer conf text =
    let m = moved_of (last_of desk.undone) desk.done done more in
    record {
      is_desk = subst (λ u. IsDesk (with_scripts desk done u)) (sym less) (subst (λ d. IsDesk (with_scripts desk d (but_last desk.undone))) m.2 (redo_keeps desk m.0 is.is_desk m.1));
      conf = conf ∙ is.conf;
      text = text ∙ is.text;
      layer =
          ap (replay desk.conf (length desk.text) desk.base) (sym m.2)
          ∙ one_more desk old.layer new.layer m.0 at is.layer place (sym (same_setting desk old at old.layer (m.0 ∷ []) is) ∙ layer m.0 m.1);
    }

-- the command that was undone last is not refused on a work that has the layer of the desk
pub last_works : (desk : DeskState) (work : WorkState) (at : ℕ) (undone : List Command) → IsWorkOf desk work → at ≡ length desk.done → undone ≡ desk.undone → (command : Command) → last_of undone ≡ Some command → IsOk (replay_from work.conf (length work.text) at work.layer (command ∷ []))
last_works desk work at undone is place same command e =
    ap is_ok (same_setting desk work at work.layer (command ∷ []) is ∙ ap (λ k. replay_from desk.conf (length desk.text) k work.layer (command ∷ [])) place)
    ∙ last_accepted desk work.layer command is.is_desk is.layer (ap last_of (sym same) ∙ e)

-- a command that was carried out on the layer of a desk leaves a desk
pub perform_keeps : (desk : DeskState) (layer made : Annotations) (command : Command) → IsDesk desk → length desk.done < 4096 → replay desk.conf (length desk.text) desk.base (desk.done ++ command ∷ []) ≡ Ok made → IsDesk (with_scripts desk (desk.done ++ command ∷ []) [])
perform_keeps desk layer made command is few e =
    let more : length (desk.done ++ command ∷ []) ≡ length desk.done + 1 = length-append desk.done (command ∷ []) in
    record {
      base = is.base;
      accepted =
          accepted desk.conf (length desk.text) desk.base (desk.done ++ command ∷ []) [] (omega (arith, more))
          (ap (λ all. is_ok (replay desk.conf (length desk.text) desk.base all)) (append-nil (desk.done ++ command ∷ [])) ∙ ap is_ok e);
    }

-- a work that has the layer of a desk with a new command
pub perform_works : (desk : DeskState) (old new : WorkState) (command : Command) (made : Option AnnId) (done undone : List Command) → IsWorkOf desk old → length desk.done < 4096 → apply old.conf (length old.text) old.layer command ≡ Ok (record { layer = new.layer; made = made }) → new.conf ≡ old.conf → new.text ≡ old.text → done ≡ desk.done ++ command ∷ [] → undone ≡ [] → IsWorkOf (with_scripts desk done undone) new
perform_works desk old new command made done undone is few applied conf text more none =
    let at = length desk.done in
    let one : replay_from old.conf (length old.text) at old.layer (command ∷ []) ≡ Ok new.layer = ap (λ r. next at r (λ l. Ok l)) applied in
    let all = one_more desk old.layer new.layer command at is.layer refl (sym (same_setting desk old at old.layer (command ∷ []) is) ∙ one) in
    record {
      is_desk =
          subst (λ u. IsDesk (with_scripts desk done u)) (sym none)
          (subst (λ d. IsDesk (with_scripts desk d [])) (sym more) (perform_keeps desk old.layer new.layer command is.is_desk few all));
      conf = conf ∙ is.conf;
      text = text ∙ is.text;
      layer = ap (replay desk.conf (length desk.text) desk.base) more ∙ all;
    }
