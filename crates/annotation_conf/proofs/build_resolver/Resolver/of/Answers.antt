use Rattle.std.proofs.Common.{◌∙◌, ap, map}
use Rattle.annotation_conf.specs.declared.build_places.Table.TheVariants.{Types, Relations}
use Rattle.conf_model.specs.ConfNames.{File, MacroLine}
use Rattle.annotation_conf.specs.BuildPlaces.{places_held}
use Rattle.annotation_conf.proofs.build_resolver.Resolver.of.Goals as goal

pub invariant_of-result : goal.invariant_of-result
invariant_of-result c = record {
  tables = c.requires;
  types_held = c.in_ok-types.ensures ∙ ap (λ (f : File). map (λ (macro : MacroLine). places_held f Types macro.holding) f.macros) c.names.ensures;
  relations_held = c.in_ok-relations.ensures ∙ ap (λ (f : File). map (λ (macro : MacroLine). places_held f Relations macro.holding) f.macros) c.names-2.ensures;
}
