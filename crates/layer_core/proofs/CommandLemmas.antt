-- A command makes a well-formed layer of a well-formed one.
use Rattle.std.proofs.Common.{◌≡◌, ℕ, Bool, true, false, cond, Option, Some, None, option_map, option_and_then, nat_lt, refl}
use Rattle.std.specs.Prelude.{IfOk}
use Rattle.conf_model.specs.Configurations.{Configuration}
use Rattle.layer_model.specs.declared.rule.Rule.{Rule}
use Rattle.layer_model.specs.declared.flaw.Flaw.{Flaw}
use Rattle.layer_model.specs.Annotations.{Annotations}
use Rattle.layer_model.specs.Rules.{number_of}
use Rattle.layer_core.specs.declared.command.Command.{Command}
use Rattle.layer_rules.specs.WellFormed.{IsWellFormed, least_flaw}
use Rattle.layer_core.specs.MadeLayers.{Draft, draft}
use Rattle.layer_core.specs.Commands.{lower_rule, draft_rule, refusal, applied_of, answer_of, apply, Applied}
use Rattle.layer_core.specs.OwnRules.{own_rule}
use Rattle.layer_rules.proofs.LawLemmas.{unflawed_is_well_formed}

some_none : {X : Type 0} {x : X} → Some x ≡ None → ⊥
some_none e = cc

cond_some : (b : Bool) (x y : Rule) → cond b (Some x) (Some y) ≡ None → ⊥
cond_some true x y e = some_none e
cond_some false x y e = some_none e

-- where no rule is the lower one, there is neither
neither : (a b : Option Rule) → lower_rule a b ≡ None → (a ≡ None) × (b ≡ None)
neither None b e = (refl, e)
neither (Some a) None e = absurd (some_none e)
neither (Some a) (Some b) e = absurd (cond_some (nat_lt (number_of b) (number_of a)) b a e)

none_told : (told : Flaw → Rule) (flaw : Option Flaw) → option_map told flaw ≡ None → flaw ≡ None
none_told told None e = refl
none_told told (Some flaw) e = absurd (some_none e)

-- the layer of a draft that breaks no rule is well-formed
drafted : (conf : Configuration) (characters : ℕ) (made : Draft) → draft_rule conf characters made ≡ None → IsWellFormed conf characters made.layer
drafted conf characters made e = unflawed_is_well_formed conf characters made.layer (none_told _ (least_flaw conf characters made.layer) e)

-- what is answered where no rule refuses
answered : (conf : Configuration) (characters : ℕ) (refused : Option Rule) (applied : Applied)
    → (refused ≡ None → IsWellFormed conf characters applied.layer) → IfOk (answer_of refused applied) (λ a. IsWellFormed conf characters a.layer)
answered conf characters None applied kept = kept refl
answered conf characters (Some broken) applied kept = tt

made_of : (conf : Configuration) (characters : ℕ) (layer : Annotations) (own : Option Rule) (made : Option Draft) → IsWellFormed conf characters layer
    → lower_rule own (option_and_then (draft_rule conf characters) made) ≡ None → IsWellFormed conf characters (applied_of layer made).layer
made_of conf characters layer own None well e = well
made_of conf characters layer own (Some made) well e = drafted conf characters made (neither own (draft_rule conf characters made) e).1

pub commands_keep : (conf : Configuration) (characters : ℕ) (layer : Annotations) (command : Command) → IsWellFormed conf characters layer
    → IfOk (apply conf characters layer command) (λ applied. IsWellFormed conf characters applied.layer)
unfolding apply
commands_keep conf characters layer command well =
    answered conf characters (refusal conf characters layer command) (applied_of layer (draft conf layer command))
    (made_of conf characters layer (own_rule conf characters layer command) (draft conf layer command) well)
