-- What carrying out a command comes to, from its steps.
use Rattle.std.proofs.Common.{◌≡◌, ℕ, ◌<◌, ◌≤◌, zero, suc, List, [], ◌∷◌, length, slice_get, Option, Some, None, Ok, Err, option_and_then, refl, sym, ◌∙◌, ap, subst, arith}
use Rattle.std.specs.Prelude.{IfOk, IfErr, OnErr, OnOk, Result}
use Rattle.mark_base.specs.declared.ann_id.AnnId.{AnnId}
use Rattle.conf_model.specs.Configurations.{Configuration}
use Rattle.layer_model.specs.declared.class.Class.{Class}
use Rattle.layer_model.specs.declared.rule.Rule.{Rule}
use Rattle.layer_model.specs.declared.flaw.FlawPlace.TheVariants as at
use Rattle.layer_model.specs.Annotations.{Annotations}
use Rattle.layer_core.specs.declared.command.Command.{Command}
use Rattle.layer_rules.specs.LayerRules.{classes_full}
use Rattle.layer_rules.specs.WellFormed.{IsWellFormed}
use Rattle.layer_core.specs.MadeLayers.{Draft, draft}
use Rattle.layer_core.specs.declared.back.Back.{Back}
use Rattle.layer_core.specs.declared.work.Done.{Done}
use Rattle.layer_core.specs.declared.refusal.Refusal.{Refusal}
use Rattle.layer_core.specs.declared.refusal.Refusal.TheVariants as refused
use Rattle.layer_core.specs.Backs.{IsWayBack}
use Rattle.layer_core.specs.OwnRules.{own_rule}
use Rattle.layer_core.specs.Outcomes.{IsOutcome}
use Rattle.layer_core.specs.Works.{IsRefusal}
use Rattle.layer_core.specs.Commands.{Applied, answer_of, applied_of, apply, refusal}
use Rattle.layer_core.proofs.CommandLemmas.{commands_keep}

-- ---- a well-formed layer has not too many classes

some_none : {X : Type 0} {x : X} → Some x ≡ None → ⊥
some_none e = cc

past : {X : Type 0} (xs : List X) (i : ℕ) → slice_get xs i ≡ None → length xs ≤ i
past [] i e = omega arith
past (x ∷ xs) zero e = absurd (some_none e)
past (x ∷ xs) (suc i) e = let later = past xs i e in omega arith

pub few_classes : (conf : Configuration) (characters : ℕ) (layer : Annotations) → IsWellFormed conf characters layer → length layer.classes < 4294967295
few_classes conf characters layer well = split (slice_get layer.classes 10000) refl
  where
    split : (o : Option Class) → slice_get layer.classes 10000 ≡ o → length layer.classes < 4294967295
    split None e = let few = past layer.classes 10000 e in omega arith
    split (Some class) e = absurd (some_none (sym (ap (option_and_then (classes_full 10000)) e) ∙ well.room (at.Class 10000)))

-- ---- the answer

pub refused_by : (conf : Configuration) (characters : ℕ) (layer : Annotations) (command : Command) (rule : Rule) → Some rule ≡ refusal conf characters layer command
    → apply conf characters layer command ≡ Err rule
unfolding apply
refused_by conf characters layer command rule is = ap (λ r. answer_of r (applied_of layer (draft conf layer command))) (sym is)

pub done_by : (conf : Configuration) (characters : ℕ) (layer : Annotations) (command : Command) (made : Option Draft) → made ≡ draft conf layer command
    → None ≡ refusal conf characters layer command → apply conf characters layer command ≡ Ok (applied_of layer made)
unfolding apply
done_by conf characters layer command made drafts is =
    ap (λ r. answer_of r (applied_of layer (draft conf layer command))) (sym is) ∙ ap (λ m. answer_of None (applied_of layer m)) (sym drafts)

-- what is applied is the draft that was taken
pub taken_as : (applied : Applied) (layer : Annotations) (made : Option AnnId) → layer ≡ applied.layer → made ≡ applied.made → applied ≡ record { layer = layer; made = made }
taken_as applied layer made ls ms = ap (λ l. let a : Applied = record { layer = l; made = applied.made } in a) (sym ls) ∙ ap (λ m. let a : Applied = record { layer = layer; made = m } in a) (sym ms)

-- what an outcome says of a command
pub record Carries (conf : Configuration) (characters : ℕ) (layer : Annotations) (command : Command) (new : Annotations) (outcome : Result (Done × Back) Refusal) : Type 0 where
  pub done : IfOk outcome (λ told. apply conf characters layer command ≡ Ok (record { layer = new; made = told.0.made }))
  pub back : IfOk outcome (λ told. IsWayBack told.1 new layer)
  pub refused : IfErr outcome (IsRefusal conf characters layer command)
  pub kept : OnErr outcome (new ≡ layer)

pub carries : (conf : Configuration) (characters : ℕ) (layer : Annotations) (command : Command) (new : Annotations) (outcome : Result (Done × Back) Refusal)
    → IsOutcome conf characters (own_rule conf characters layer command) (draft conf layer command) layer new outcome → Carries conf characters layer command new outcome
carries conf characters layer command new (Ok told) is =
    record {
      done =
          done_by conf characters layer command (draft conf layer command) refl (sym is.unbroken)
          ∙ ap Ok (taken_as (applied_of layer (draft conf layer command)) new told.0.made is.layer is.made);
      back = is.back;
      refused = tt;
      kept = tt;
    }
carries conf characters layer command new (Err (refused.Rule rule)) is = record { done = tt; back = tt; refused = refused_by conf characters layer command rule (sym is.0); kept = is.1 }
carries conf characters layer command new (Err refused.Memory) is = record { done = tt; back = tt; refused = tt; kept = is }

-- the layer that stands behind an outcome is well-formed
pub carried_well : (conf : Configuration) (characters : ℕ) (layer : Annotations) (command : Command) (new : Annotations) (outcome : Result (Done × Back) Refusal) → IsWellFormed conf characters layer
    → Carries conf characters layer command new outcome → IsWellFormed conf characters new
carried_well conf characters layer command new (Ok told) well all =
    subst (λ r. IfOk r (λ applied. IsWellFormed conf characters applied.layer)) all.done (commands_keep conf characters layer command well)
carried_well conf characters layer command new (Err stop) well all = subst (IsWellFormed conf characters) (sym all.kept) well

-- what is kept where something is done and where nothing is
pub kept_either : {X Y : Type 0} (P : Annotations → Type 0) (result : Result X Y) (old led new : Annotations) → OnOk result (new ≡ led) → OnErr result (new ≡ old) → P old → P led → P new
kept_either P (Ok x) old led new done stays before after = subst P (sym done) after
kept_either P (Err y) old led new done stays before after = subst P (sym stays) before
