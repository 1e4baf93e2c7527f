-- What the calls of a desk keep of its ways back.
use Rattle.std.proofs.Common.{◌≡◌, ℕ, ◌==◌, ◌<◌, zero, suc, Bool, true, false, List, [], ◌∷◌, ◌++◌, length, Option, Some, Ok, sym, ◌∙◌, ap, subst, arith}
use Rattle.std.specs.Prelude.{option_map}
use Rattle.std.proofs.lemmas.Bool.{false≢true}
use Rattle.mark_base.specs.declared.ann_id.AnnId.{AnnId}
use Rattle.layer_model.specs.Annotations.{Annotations}
use Rattle.layer_core.specs.declared.command.Command.{Command}
use Rattle.layer_core.specs.declared.back.Back.{Back}
use Rattle.layer_core.specs.Backs.{IsWayBack, fits_back, led_back}
use Rattle.layer_core.specs.Commands.{apply}
use Rattle.layer_rules.specs.WellFormed.{IsWellFormed}
use Rattle.layer_core.specs.Works.{WorkState}
use Rattle.layer_undo.specs.Replays.{replay, replay_from}
use Rattle.layer_undo.specs.Desks.{DeskState, IsDesk, IsWorkOf, with_scripts, last_of, but_last}
use Rattle.layer_undo.specs.Trails.{IsKept, IsReverted, IsTrail}
use Rattle.layer_undo.proofs.ReplayLemmas.{split_last}
use Rattle.layer_undo.proofs.DeskLemmas.{moved_of, perform_works, redo_works, undo_keeps}
use Rattle.layer_undo.proofs.LawLemmas.{KeepsLayers, replay_keeps}
use Rattle.layer_undo.proofs.TrailLemmas.{Before, as_long, trail-append, trail_back, trail_on}

-- ---- undo

-- where a desk has a last way back, it leads to the layer before its last command
pub before_of : (desk : DeskState) (work : WorkState) (backs fewer : List Back) (back : Back) → IsKept desk work backs → 0 < length desk.done → backs ≡ fewer ++ back ∷ []
    → Before desk.conf (length desk.text) 0 desk.base work.layer (but_last desk.done) fewer back
before_of desk work backs fewer back kept some last =
    let split = split_last desk.done some in
    trail_back desk.conf (length desk.text) 0 desk.base work.layer (but_last desk.done) fewer split.0 back
    (ap (replay desk.conf (length desk.text) desk.base) (sym split.2) ∙ kept.is_work.layer)
    (subst (λ cs. IsTrail desk.conf (length desk.text) desk.base cs (fewer ++ back ∷ [])) split.2
    (subst (λ bs. IsTrail desk.conf (length desk.text) desk.base desk.done bs) last kept.trail))

pub back_fits : (desk : DeskState) (work : WorkState) (backs fewer : List Back) (back : Back) → IsKept desk work backs → 0 < length desk.done → backs ≡ fewer ++ back ∷ []
    → fits_back back ≡ true
back_fits desk work backs fewer back kept some last = let before = before_of desk work backs fewer back kept some last in before.way.fits

pub back_well : KeepsLayers → (desk : DeskState) (work : WorkState) (backs fewer : List Back) (back : Back) → IsKept desk work backs → 0 < length desk.done → backs ≡ fewer ++ back ∷ []
    → IsWellFormed work.conf (length work.text) (led_back back work.layer)
back_well keeps desk work backs fewer back kept some last =
    let before = before_of desk work backs fewer back kept some last in
    let well : IsWellFormed desk.conf (length desk.text) before.earlier =
    replay_keeps keeps desk.conf (length desk.text) 0 desk.base before.earlier (but_last desk.done) kept.is_work.is_desk.base before.replayed in
    subst (λ c. IsWellFormed c (length work.text) (led_back back work.layer)) (sym kept.is_work.conf)
    (subst (λ t. IsWellFormed desk.conf (length t) (led_back back work.layer)) (sym kept.is_work.text)
    (subst (IsWellFormed desk.conf (length desk.text)) (sym before.way.leads) well))

pub some_backs : (desk : DeskState) (work : WorkState) (backs : List Back) → IsKept desk work backs → length backs ≡ length desk.done
some_backs desk work backs kept = as_long desk.conf (length desk.text) 0 desk.base work.layer desk.done backs kept.is_work.layer kept.trail

pub undo_kept : (desk : DeskState) (old new : WorkState) (backs fewer : List Back) (done undone : List Command) → IsKept desk old backs → 0 < length desk.done
    → IsReverted old new backs fewer → done ≡ but_last desk.done → option_map (λ command. desk.undone ++ command ∷ []) (last_of desk.done) ≡ Some undone
    → IsKept (with_scripts desk done undone) new fewer
undo_kept desk old new backs fewer done undone kept some reverted less more =
    let before = before_of desk old backs fewer reverted.back kept some reverted.last in
    let m = moved_of (last_of desk.done) desk.undone undone more in
    record {
      is_work = record {
        is_desk = subst (λ d. IsDesk (with_scripts desk d undone)) (sym less) (subst (λ u. IsDesk (with_scripts desk (but_last desk.done) u)) m.2 (undo_keeps desk m.0 kept.is_work.is_desk m.1));
        conf = ap (λ w. w.conf) reverted.work ∙ kept.is_work.conf;
        text = ap (λ w. w.text) reverted.work ∙ kept.is_work.text;
        layer =
            ap (replay desk.conf (length desk.text) desk.base) less ∙ before.replayed
            ∙ ap Ok (sym before.way.leads ∙ sym (ap (λ w. w.layer) reverted.work));
      };
      trail = subst (λ cs. IsTrail desk.conf (length desk.text) desk.base cs fewer) (sym less) before.trail;
    }

-- ---- perform and redo

-- a trail of a work is one of its desk
same_trail : (desk : DeskState) (work : WorkState) (layer : Annotations) (commands : List Command) (backs : List Back) → IsWorkOf desk work
    → IsTrail work.conf (length work.text) layer commands backs → IsTrail desk.conf (length desk.text) layer commands backs
same_trail desk work layer commands backs is trail =
    subst (λ t. IsTrail desk.conf (length t) layer commands backs) is.text (subst (λ c. IsTrail c (length work.text) layer commands backs) is.conf trail)

pub perform_kept : (desk : DeskState) (old new : WorkState) (backs more : List Back) (back : Back) (command : Command) (made : Option AnnId) (done undone : List Command) → IsKept desk old backs
    → length desk.done < 4096 → apply old.conf (length old.text) old.layer command ≡ Ok (record { layer = new.layer; made = made }) → IsWayBack back new.layer old.layer
    → new.conf ≡ old.conf → new.text ≡ old.text → done ≡ desk.done ++ command ∷ [] → undone ≡ [] → more ≡ backs ++ back ∷ []
    → IsKept (with_scripts desk done undone) new more
perform_kept desk old new backs more back command made done undone kept few applied way conf text longer none on =
    let here : apply desk.conf (length desk.text) old.layer command ≡ Ok (record { layer = new.layer; made = made }) =
    ap (λ t. apply desk.conf (length t) old.layer command) (sym kept.is_work.text) ∙ ap (λ c. apply c (length old.text) old.layer command) (sym kept.is_work.conf) ∙ applied in
    record {
      is_work = perform_works desk old new command made done undone kept.is_work few applied conf text longer none;
      trail =
          subst (λ cs. IsTrail desk.conf (length desk.text) desk.base cs more) (sym longer)
          (subst (IsTrail desk.conf (length desk.text) desk.base (desk.done ++ command ∷ [])) (sym on)
          (trail_on desk.conf (length desk.text) 0 desk.base old.layer desk.done backs command back (record { layer = new.layer; made = made }) kept.is_work.layer kept.trail here way));
    }

pub redo_kept : (desk : DeskState) (old new : WorkState) (backs more : List Back) (back : Back) (at : ℕ) (done undone : List Command) → IsKept desk old backs
    → at ≡ length desk.done → undone ≡ but_last desk.undone → option_map (λ command. desk.done ++ command ∷ []) (last_of desk.undone) ≡ Some done
    → ((command : Command) → last_of desk.undone ≡ Some command → replay_from old.conf (length old.text) at old.layer (command ∷ []) ≡ Ok new.layer)
    → ((command : Command) → last_of desk.undone ≡ Some command → IsTrail old.conf (length old.text) old.layer (command ∷ []) (back ∷ []))
    → new.conf ≡ old.conf → new.text ≡ old.text → more ≡ backs ++ back ∷ []
    → IsKept (with_scripts desk done undone) new more
redo_kept desk old new backs more back at done undone kept place less longer layer trail conf text on =
    let m = moved_of (last_of desk.undone) desk.done done longer in
    let one = same_trail desk old old.layer (m.0 ∷ []) (back ∷ []) kept.is_work (trail m.0 m.1) in
    record {
      is_work = redo_works desk old new at done undone kept.is_work place less longer layer conf text;
      trail =
          subst (λ cs. IsTrail desk.conf (length desk.text) desk.base cs more) m.2
          (subst (IsTrail desk.conf (length desk.text) desk.base (desk.done ++ m.0 ∷ [])) (sym on)
          (trail-append desk.conf (length desk.text) 0 desk.base old.layer desk.done (m.0 ∷ []) backs (back ∷ []) kept.is_work.layer kept.trail one));
    }

-- ---- a desk without a command

-- what is not empty has something
pub not_empty : (count : ℕ) (empty : Bool) → empty ≡ (count == 0) → empty ≡ false → 0 < count
not_empty zero empty is out = absurd (false≢true (sym out ∙ is))
not_empty (suc n) empty is out = omega arith
