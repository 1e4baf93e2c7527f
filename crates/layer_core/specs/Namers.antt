-- Which annotations name another (private calls only).
use Rattle.std.specs.Prelude.{◌≡◌, ℕ, ◌==◌, ◌&&◌, Bool, false, not, List, Option, None, filter}
use Rattle.std.specs.Option.{option_map_or}
use Rattle.std.specs.List.{list_any}
use Rattle.mark_base.specs.declared.ann_id.AnnId.{AnnId}
use Rattle.layer_model.specs.declared.mark.Mark.{Mark}
use Rattle.layer_model.specs.declared.mark.Mark.TheVariants.{Event}
use Rattle.layer_model.specs.Annotations.{Annotations}
use Rattle.layer_model.specs.Layers.{mark_at}
use Rattle.layer_model.specs.LayerIds.{ids_of}
use Rattle.layer_rules.specs.LayerRules.{is_id}
use Rattle.layer_rules.specs.MarkRules.{named_by}

-- the annotation of another ID is there and names the one of an ID
abbrev pub names_it : Annotations → AnnId → AnnId → Bool
names_it layer id other = option_map_or (λ mark. list_any (is_id id) (named_by mark)) (mark_at layer other) false

-- an ID is the one that is left out, where one is
abbrev pub is_but : Option AnnId → AnnId → Bool
is_but but other = option_map_or (λ id. is_id id other) but false

-- the annotations that name another, ascending, but the one that is left out
abbrev pub namers_but : Option AnnId → Annotations → AnnId → List AnnId
namers_but but layer id = filter (λ other. not (is_but but other) && names_it layer id other) (ids_of layer)

-- all annotations that name another, ascending
abbrev pub namers : Annotations → AnnId → List AnnId
namers layer id = namers_but None layer id

-- these are all annotations that name another, ascending
abbrev pub AreNamersOf : Annotations → AnnId → List AnnId → Type 0
AreNamersOf layer id ids = ids ≡ namers layer id

-- the mark is an event with the trigger of this number
abbrev pub is_triggered_by : ℕ → Mark → Bool
is_triggered_by number (Event event) = event.trigger == number
is_triggered_by number _ = false
