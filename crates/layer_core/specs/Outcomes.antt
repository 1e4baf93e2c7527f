-- What a change of a layer comes to once it is judged (private calls only).
use Rattle.std.specs.Prelude.{◌≡◌, ℕ, ⊤, Option, Some, None, Result, Ok, Err, option_and_then}
use Rattle.mark_base.specs.declared.ann_id.AnnId.{AnnId}
use Rattle.conf_model.specs.Configurations.{Configuration}
use Rattle.layer_model.specs.declared.rule.Rule as broken
use Rattle.layer_model.specs.Annotations.{Annotations}
use Rattle.layer_rules.specs.WellFormed.{IsWellFormed}
use Rattle.layer_core.specs.declared.back.Back.{Back}
use Rattle.layer_core.specs.declared.index.Index.{Index}
use Rattle.layer_core.specs.declared.work.Done.{Done}
use Rattle.layer_core.specs.declared.refusal.Refusal.{Refusal}
use Rattle.layer_core.specs.declared.refusal.Refusal.TheVariants.{Rule, Memory}
use Rattle.layer_core.specs.Backs.{IsWayBack}
use Rattle.layer_core.specs.Commands.{Applied, applied_of, draft_rule, lower_rule}
use Rattle.layer_core.specs.Indexes.{IsIndex}
use Rattle.layer_core.specs.MadeLayers.{Draft}

-- the rule of the lower number of one that is broken and of one that a draft breaks
abbrev pub rule_with : Configuration → ℕ → Option broken.Rule → Option Draft → Option broken.Rule
rule_with conf characters own made = lower_rule own (option_and_then (draft_rule conf characters) made)

-- a change is done: no rule is broken, the layer is the one that it makes, and what is told leads back
pub record IsDone (rule : Option broken.Rule) (applied : Applied) (old new : Annotations) (told : Done × Back) : Type 0 where
  pub unbroken : rule ≡ None
  pub layer : new ≡ applied.layer
  pub made : told.0.made ≡ applied.made
  pub back : IsWayBack told.1 new old

-- a change is done, or refused by the rule that it breaks or for want of memory, and then the layer is as it was
abbrev pub IsOutcome : Configuration → ℕ → Option broken.Rule → Option Draft → Annotations → Annotations → Result (Done × Back) Refusal → Type 0
IsOutcome conf characters own made old new (Ok told) = IsDone (rule_with conf characters own made) (applied_of old made) old new told
IsOutcome conf characters own made old new (Err (Rule rule)) = (rule_with conf characters own made ≡ Some rule) × (new ≡ old)
IsOutcome conf characters own made old new (Err Memory) = new ≡ old

-- the index that is kept of a layer, where one is
abbrev pub IsIndexed : Annotations → Option Index → Type 0
IsIndexed layer None = ⊤
IsIndexed layer (Some index) = IsIndex None layer index

-- the same, as far as it does not speak of the annotation of an ID
abbrev pub IsIndexedBut : AnnId → Annotations → Option Index → Type 0
IsIndexedBut id layer None = ⊤
IsIndexedBut id layer (Some index) = IsIndex (Some id) layer index

-- an index of one layer is one of another
abbrev pub KeepsIndex : Annotations → Annotations → Type 0
KeepsIndex before after = (index : Index) → IsIndex None before index → IsIndex None after index

-- a layer is well-formed for some configuration and some text
abbrev pub IsSomeWellFormed : Annotations → Type 0
IsSomeWellFormed layer = (conf : Configuration) × ((characters : ℕ) × IsWellFormed conf characters layer)
