use Rattle.std.proofs.Common.{◌∙◌, sym, ap, subst, map, filter}
use Rattle.conf_model.specs.ConfNames.{file_of}
use Rattle.annotation_conf.specs.NamePlaces.{firsts_among}
use Rattle.annotation_conf.specs.KnownFiles.{type_declared, named_declared, macro_declared}
use Rattle.annotation_conf.proofs.FaultKnown.{Rises, declare_in_order, entities_shown, events_shown, usable_entities_shown, usable_events_shown, relations_shown, attributes_shown, macros_shown, firsts_shown}
use Rattle.annotation_conf.proofs.names_by_sort.KnownNames.of.Goals as goal

pub of-requires : goal.of-requires
of-requires c = subst Rises (sym (c.in_ok-type_names.ensures ∙ ap (map type_declared) c.deref.ensures.value)) (declare_in_order _ _ c.requires).entities

pub of-requires-2 : goal.of-requires-2
of-requires-2 c = subst Rises (sym (c.in_ok-type_names-2.ensures ∙ ap (map type_declared) c.deref-2.ensures.value)) (declare_in_order _ _ c.requires).events

pub of-requires-3 : goal.of-requires-3
of-requires-3 c = subst Rises (sym (c.in_ok-usable_names.ensures ∙ ap (λ xs. map type_declared (filter (λ line. line.usable) xs)) c.deref-3.ensures.value)) (declare_in_order _ _ c.requires).usable_entities

pub of-requires-4 : goal.of-requires-4
of-requires-4 c = subst Rises (sym (c.in_ok-usable_names-2.ensures ∙ ap (λ xs. map type_declared (filter (λ line. line.usable) xs)) c.deref-4.ensures.value)) (declare_in_order _ _ c.requires).usable_events

pub of-requires-5 : goal.of-requires-5
of-requires-5 c = subst Rises (sym (c.in_ok-other_names.ensures ∙ ap (map named_declared) c.deref-5.ensures.value)) (declare_in_order _ _ c.requires).relations

pub of-requires-6 : goal.of-requires-6
of-requires-6 c = subst Rises (sym (c.in_ok-other_names-2.ensures ∙ ap (map named_declared) c.deref-6.ensures.value)) (declare_in_order _ _ c.requires).attributes

pub of-requires-7 : goal.of-requires-7
of-requires-7 c = subst Rises (sym (c.in_ok-macro_names.ensures ∙ ap (map macro_declared) c.deref-7.ensures.value)) (declare_in_order _ _ c.requires).macros

pub invariant_of-result : goal.invariant_of-result
invariant_of-result c = (
  c.requires,
  record {
    entities = c.in_ok-entities.ensures ∙ c.in_ok-type_names.ensures ∙ ap (map type_declared) c.deref.ensures.value ∙ entities_shown _ _ c.requires;
    events = c.in_ok-events.ensures ∙ c.in_ok-type_names-2.ensures ∙ ap (map type_declared) c.deref-2.ensures.value ∙ events_shown _ _ c.requires;
    usable_entities = c.in_ok-usable_entities.ensures ∙ c.in_ok-usable_names.ensures ∙ ap (λ xs. map type_declared (filter (λ line. line.usable) xs)) c.deref-3.ensures.value ∙ usable_entities_shown _ _ c.requires;
    usable_events = c.in_ok-usable_events.ensures ∙ c.in_ok-usable_names-2.ensures ∙ ap (λ xs. map type_declared (filter (λ line. line.usable) xs)) c.deref-4.ensures.value ∙ usable_events_shown _ _ c.requires;
    relations = c.in_ok-relations.ensures ∙ c.in_ok-other_names.ensures ∙ ap (map named_declared) c.deref-5.ensures.value ∙ relations_shown _ _ c.requires;
    attributes = c.in_ok-attributes.ensures ∙ c.in_ok-other_names-2.ensures ∙ ap (map named_declared) c.deref-6.ensures.value ∙ attributes_shown _ _ c.requires;
    macros = c.in_ok-macros.ensures ∙ c.in_ok-macro_names.ensures ∙ ap (map macro_declared) c.deref-7.ensures.value ∙ macros_shown _ _ c.requires;
    relation_types = c.in_ok-relation_types.ensures ∙ ap firsts_among (c.in_ok-relations.ensures ∙ c.in_ok-other_names.ensures ∙ ap (map named_declared) c.deref-5.ensures.value ∙ relations_shown _ _ c.requires) ∙ firsts_shown (file_of c.args.text.now).relations;
  },
)
