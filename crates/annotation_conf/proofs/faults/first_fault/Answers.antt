use Rattle.std.proofs.Common.{◌≡◌, ◌∙◌, [], false, Option, None, ap, subst, refl}
use Rattle.annotation_conf.specs.declared.file.File.{File as FileValue}
use Rattle.annotation_conf.specs.declared.line.Section.{Section}
use Rattle.annotation_conf.specs.declared.line.Section.TheVariants.{Entities, Relations, Events, Attributes}
use Rattle.conf_model.specs.ConfNames.{File, TypeLine, NamedLine, MacroLine}
use Rattle.conf_model.specs.ConfLines.{Line}
use Rattle.conf_model.specs.ConfFaults.{type_fault, relation_fault, overlap_fault, attribute_fault}
use Rattle.conf_model.specs.ConfOf.{Fault}
use Rattle.annotation_conf.specs.FirstFaults.{first_among, sooner, soonest_fault, bare_fault, event_fault, macro_line_fault}
use Rattle.annotation_conf.specs.KnownFiles.{IsKnown}
use Rattle.annotation_conf.specs.FaultsTold.{relation_told, overlap_told, attribute_told}
use Rattle.annotation_conf.specs.FaultsFirst.{first_entity_told, first_event_told, first_macro_told, first_bare_told, none_open, is_open}
use Rattle.annotation_conf.proofs.FaultTold.{relation_is, overlap_is, attribute_is}
use Rattle.annotation_conf.proofs.FaultFirsts.{first_bare_is, first_macro_is, first_entity_is, first_event_is, first_named_is}
use Rattle.annotation_conf.proofs.faults.first_fault.Goals as goal

none_is_open : (s : Section) → is_open none_open s ≡ false
none_is_open Entities = refl
none_is_open Relations = refl
none_is_open Events = refl
none_is_open Attributes = refl

join : (file : File) (b m e v r o a : Option Fault)
    → b ≡ first_among (λ (l : Line). l.number) (bare_fault file) file.lines
    → m ≡ first_among (λ (l : MacroLine). l.number) (macro_line_fault file) file.macros
    → e ≡ first_among (λ (l : TypeLine). l.number) (type_fault file file.entities [] false) file.entities
    → v ≡ first_among (λ (l : TypeLine). l.number) (event_fault file) file.events
    → r ≡ first_among (λ (l : NamedLine). l.number) (relation_fault file) file.relations
    → o ≡ first_among (λ (l : NamedLine). l.number) (overlap_fault file) file.overlaps
    → a ≡ first_among (λ (l : NamedLine). l.number) (attribute_fault file) file.attributes
    → sooner b (sooner m (sooner e (sooner v (sooner r (sooner o a))))) ≡ soonest_fault file
unfolding soonest_fault
join file b m e v r o a p q s t u w x =
    ap (λ f. sooner f (sooner m (sooner e (sooner v (sooner r (sooner o a)))))) p
    ∙ ap (sooner (first_among (λ (l : Line). l.number) (bare_fault file) file.lines))
    (ap (λ f. sooner f (sooner e (sooner v (sooner r (sooner o a))))) q
    ∙ ap (sooner (first_among (λ (l : MacroLine). l.number) (macro_line_fault file) file.macros))
    (ap (λ f. sooner f (sooner v (sooner r (sooner o a)))) s
    ∙ ap (sooner (first_among (λ (l : TypeLine). l.number) (type_fault file file.entities [] false) file.entities))
    (ap (λ f. sooner f (sooner r (sooner o a))) t
    ∙ ap (sooner (first_among (λ (l : TypeLine). l.number) (event_fault file) file.events))
    (ap (λ f. sooner f (sooner o a)) u
    ∙ ap (sooner (first_among (λ (l : NamedLine). l.number) (relation_fault file) file.relations))
    (ap (λ f. sooner f a) w ∙ ap (sooner (first_among (λ (l : NamedLine). l.number) (overlap_fault file) file.overlaps)) x)))))

pub returns : goal.returns
returns c =
    let file : File = c.args.known.now in
    let values : FileValue = c.file-file.result.now in
    let known : IsKnown values file = (let P : File → Type 0 = λ f. IsKnown values f in subst P c.names.ensures c.file-file.ensures) in
    c.sooner-5.ensures
    ∙ ap (sooner _) (c.sooner-4.ensures ∙ ap (sooner _) (c.sooner-3.ensures ∙ ap (sooner _) (c.sooner-2.ensures ∙ ap (sooner _) (c.sooner-named.ensures ∙ ap (sooner _) c.sooner.ensures))))
    ∙ join file _ _ _ _ _ _ _
    (c.first_bare-bare.ensures ∙ ap (first_bare_told none_open) c.deref.ensures.value
    ∙ first_bare_is file [] file.lines values.lines.items none_open refl known.order.lines known.shows.lines none_is_open)
    (c.first_macro-macros.ensures ∙ ap (first_macro_told file 0) c.deref-2.ensures.value
    ∙ first_macro_is file [] file.macros values.macros.items refl known.order.macros known.shows.macros)
    (c.in_ok-entities.ensures ∙ ap (first_entity_told file None) c.deref-3.ensures.value
    ∙ first_entity_is file file.entities [] file.entities values.entities.items refl known.order.entities known.shows.entities)
    (c.in_ok-events.ensures ∙ ap (first_event_told file None) c.deref-4.ensures.value
    ∙ first_event_is file file.events [] file.events values.events.items refl known.order.events known.shows.events)
    (c.first_relation-relations.ensures ∙ ap (first_among (λ line. line.number) (relation_told file)) c.deref-5.ensures.value
    ∙ first_named_is (relation_told file) (relation_fault file) (relation_is file) file.relations values.relations.items known.shows.relations)
    (c.in_ok-overlaps.ensures ∙ ap (first_among (λ line. line.number) (overlap_told file)) c.deref-6.ensures.value
    ∙ first_named_is (overlap_told file) (overlap_fault file) (overlap_is file) file.overlaps values.overlaps.items known.shows.overlaps)
    (c.in_ok-attributes.ensures ∙ ap (first_among (λ line. line.number) (attribute_told file)) c.deref-7.ensures.value
    ∙ first_named_is (attribute_told file) (attribute_fault file) (attribute_is file) file.attributes values.attributes.items known.shows.attributes)
