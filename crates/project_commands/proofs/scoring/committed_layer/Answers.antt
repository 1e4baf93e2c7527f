use Rattle.std.proofs.Common.{refl, subst}
use Rattle.std.specs.Prelude.{length}
use Rattle.std.specs.Arc.{arc_value}
use Rattle.layer_model.specs.Annotations.{Annotations}
use Rattle.layer_model.specs.Layers.{IsLayer}
use Rattle.project_machine.specs.Requests.{Refused}
use Rattle.project_commands.proofs.CommandsProofs.ReplyLemmas.{tells_refused}
use Rattle.project_commands.proofs.CuratorLemmas.{reads_or_memory}
use Rattle.project_commands.proofs.scoring.committed_layer.Goals as goal

pub returns-in-Layer-clause-whole : goal.returns-in-Layer-clause-whole
returns-in-Layer-clause-whole g c =
    c.well_formed_layers_cohere.ensures (arc_value c.in-Layer._conf) (length (arc_value c.in-Layer._doc)) (arc_value c.in-Layer.layer)
    (subst (λ (layer : Annotations). IsLayer layer) c.deref.ensures c.keeps.ensures) c.in-Layer.ensures.shown

pub returns-in_default-refusal : goal.returns-in_default-refusal
returns-in_default-refusal g c = record {
  committed = tt;
  whole = tt;
  still = tt;
  refused = rw c.trouble_of.ensures.value (reads_or_memory _ _ _ _ c.in-Refused.refusal c.in-Refused.named _ c.requires.curates c.requires.there c.requires.annotates c.in-Refused.ensures.step c.in_default-refusal.not-NoLayer);
  keeper =
      rw c.trouble_of.ensures.value (tells_refused g.K.Keeper.faults g.K.Keeper.faultless _ _ _ _ _ (Refused c.in-Refused.refusal c.in-Refused.named) c.in-Refused.refusal c.in-Refused.named _ c.in-Refused.ensures.step
      refl c.in-Refused.ensures.keeper);
  certain = λ _. tt;
  no_file = c.trouble_of.ensures.no_file;
  no_read = c.trouble_of.ensures.no_read;
  no_write = c.trouble_of.ensures.no_write;
  no_use = c.trouble_of.ensures.no_use;
}
