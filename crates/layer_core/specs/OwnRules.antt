-- The rules that a command's own fields break, whatever layer it makes.
use Rattle.std.specs.Prelude.{ℕ, not, length, List, [], ◌∷◌, map, nat_lt, Option, None, is_none, option_and_then, if◌then◌else◌}
use Rattle.std.specs.Option.{option_or}
use Rattle.mark_base.specs.declared.ann_id.AnnId.{AnnId}
use Rattle.mark_base.specs.declared.ann_id.Kind.{Kind}
use Rattle.mark_base.specs.declared.ann_id.Kind.TheVariants as letter
use Rattle.mark_base.specs.declared.fragments.Frag.{Frag}
use Rattle.type_hierarchy.specs.TypeTrees.{type_named}
use Rattle.conf_model.specs.Configurations.{Configuration}
use Rattle.conf_model.specs.Lookups.{relation_named, attribute_named, values_of}
use Rattle.layer_model.specs.declared.rule.Rule.{Rule}
use Rattle.layer_model.specs.declared.rule.Rule.TheVariants.{BadFragments, OutOfText, SpanTooLong, UnknownValue}
use Rattle.layer_model.specs.Annotations.{Annotations}
use Rattle.layer_core.specs.declared.command.Command.{Command}
use Rattle.layer_core.specs.declared.command.Command.TheVariants as ask
use Rattle.overlap_rules.specs.Overlaps.{last_end, reach}
use Rattle.layer_rules.specs.BadTexts.{are_fragments}
use Rattle.layer_rules.specs.Targets.{is_attribute_target, type_of}
use Rattle.layer_rules.specs.MarkRules.{where_so, first_missing, first_unwanted, Wanted, argument, trigger, member}
use Rattle.layer_core.specs.CommandRules.{event_named, undeclared, barred, no_equivalence, of_letters, is_span_letter, is_event_letter, is_attribute_letter, in_use, trigger_in_use, used_up, roles_undeclared, event_type, no_such_argument, attribute_on, attribute_same, target_refused, members_refused, not_in_class}
use Rattle.layer_rules.specs.AttributeValues.{value_of, value_refused}
use Rattle.layer_core.specs.MadeLayers.{is_note_on, is_reference_to, lowest}

-- the target of an attribute
abbrev pub attribute_target : Configuration → Annotations → AnnId → Wanted
attribute_target conf layer id = record { id = id; fits = is_attribute_target conf id.kind (type_of layer id) }

-- a value that the attribute of a name does not have
abbrev pub value_unknown : Configuration → Option ℕ → Option (List ℕ) → Option Rule
value_unknown conf found value = option_and_then (λ place. where_so (value_refused (length (values_of conf place)) (value_of conf place value)) UnknownValue) found

-- a new annotation of a letter is wanted, and the greatest number is taken
abbrev pub new_used_up : Annotations → Kind → Option AnnId → Option Rule
new_used_up layer kind there = if is_none there then used_up layer kind else None

-- the rules that a command's own fields break, in the order of their numbers
abbrev pub own_rules : Configuration → Annotations → Command → List (Option Rule)
own_rules conf layer (ask.AddSpan kind frags) = undeclared (type_named conf.types kind) ∷ used_up layer letter.Text ∷ []
own_rules conf layer (ask.RetypeSpan id kind) =
    undeclared (type_named conf.types kind) ∷ barred conf (type_named conf.types kind) ∷ first_missing layer (id ∷ [])
    ∷ first_unwanted (of_letters is_span_letter id ∷ []) ∷ trigger_in_use layer id ∷ []
own_rules conf layer (ask.MoveSpan id frags) = first_missing layer (id ∷ []) ∷ first_unwanted (of_letters is_span_letter id ∷ []) ∷ []
own_rules conf layer (ask.AddEvent kind by args) =
    undeclared (event_named conf kind) ∷ barred conf (event_named conf kind) ∷ first_missing layer (by ∷ map (λ arg. arg.target) args)
    ∷ option_and_then (λ type_. first_unwanted (trigger layer type_ by ∷ map (λ arg. argument conf layer arg.target) args)) (event_named conf kind)
    ∷ roles_undeclared conf (event_named conf kind) args ∷ used_up layer letter.Event ∷ []
own_rules conf layer (ask.AddArg id arg) =
    first_missing layer (id ∷ arg.target ∷ []) ∷ first_unwanted (of_letters is_event_letter id ∷ argument conf layer arg.target ∷ [])
    ∷ roles_undeclared conf (event_type layer id) (arg ∷ []) ∷ []
own_rules conf layer (ask.RemoveArg id arg) =
    first_missing layer (id ∷ arg.target ∷ []) ∷ first_unwanted (of_letters is_event_letter id ∷ argument conf layer arg.target ∷ [])
    ∷ roles_undeclared conf (event_type layer id) (arg ∷ []) ∷ no_such_argument conf layer id arg ∷ []
own_rules conf layer (ask.AddRelation kind first second) =
    undeclared (relation_named conf kind) ∷ first_missing layer (first ∷ second ∷ []) ∷ used_up layer letter.Relation ∷ []
own_rules conf layer (ask.SetAttribute kind target value) =
    let found = attribute_named conf kind in
    undeclared found ∷ first_missing layer (target ∷ []) ∷ first_unwanted (attribute_target conf layer target ∷ []) ∷ target_refused conf layer found target
    ∷ value_unknown conf found value ∷ option_and_then (λ place. attribute_same layer place target (value_of conf place value)) found
    ∷ option_and_then (λ place. new_used_up layer letter.Attribute (attribute_on layer place target)) found ∷ []
own_rules conf layer (ask.ClearAttribute id) = first_missing layer (id ∷ []) ∷ first_unwanted (of_letters is_attribute_letter id ∷ []) ∷ in_use layer id ∷ []
own_rules conf layer (ask.Equate kind members) =
    undeclared (relation_named conf kind) ∷ no_equivalence conf (relation_named conf kind) ∷ first_missing layer members
    ∷ first_unwanted (map (member conf layer) members) ∷ members_refused conf layer (relation_named conf kind) members ∷ []
own_rules conf layer (ask.Unequate kind id) =
    undeclared (relation_named conf kind) ∷ no_equivalence conf (relation_named conf kind) ∷ first_missing layer (id ∷ [])
    ∷ first_unwanted (member conf layer id ∷ []) ∷ not_in_class layer (relation_named conf kind) id ∷ []
own_rules conf layer (ask.SetNote target kind text) = first_missing layer (target ∷ []) ∷ new_used_up layer letter.Note (lowest (is_note_on kind target) layer letter.Note) ∷ []
own_rules conf layer (ask.SetReference target store entry text) =
    first_missing layer (target ∷ []) ∷ new_used_up layer letter.Normal (lowest (is_reference_to target store entry) layer letter.Normal) ∷ []
own_rules conf layer (ask.Delete id) = first_missing layer (id ∷ []) ∷ in_use layer id ∷ []
own_rules conf layer (ask.Purge id) = first_missing layer (id ∷ []) ∷ []
own_rules conf layer (ask.Load loaded) = []

-- the first of some rules that is broken
abbrev pub first_broken : List (Option Rule) → Option Rule
first_broken [] = None
first_broken (broken ∷ more) = option_or broken (first_broken more)

-- the rules that fragments break by themselves
abbrev pub frags_rule : ℕ → List Frag → Option Rule
frags_rule characters frags =
    first_broken
    (where_so (not (are_fragments frags)) BadFragments ∷ where_so (nat_lt characters (last_end 0 frags)) OutOfText ∷ where_so (nat_lt 10000 (reach frags)) SpanTooLong ∷ [])

-- the rules that the fragments of a move break, whatever its ID leads to
abbrev pub moved_rule : ℕ → Command → Option Rule
moved_rule characters (ask.MoveSpan id frags) = frags_rule characters frags
moved_rule characters command = None

-- the first rule that a command's own fields break
abbrev pub own_rule : Configuration → ℕ → Annotations → Command → Option Rule
own_rule conf characters layer command = option_or (moved_rule characters command) (first_broken (own_rules conf layer command))
