-- Small snapshots, on which the definitions are shown at work.
use Rattle.std.specs.Prelude.{ℕ, List, [], ◌∷◌, map}
use Rattle.mark_base.specs.declared.ann_id.AnnId.{AnnId}
use Rattle.layer_model.specs.declared.class.Class.{Class}
use Rattle.layer_model.specs.declared.mark.Mark.{Mark}
use Rattle.content_keys.specs.WorkedLayers.{arg, e, event, marks, span, t}
use Rattle.unanimous_merge.specs.declared.item.Item.{Item}
use Rattle.unanimous_merge.specs.declared.item.ItemId.{ItemId}
use Rattle.unanimous_merge.specs.Readings.{Reading}

-- a layer that is written as a list
abbrev pub written : List (AnnId × Mark) → List Class → Reading
written layer classes = record { ids = map (λ entry. entry.0) layer; mark = marks layer; classes = classes }

-- on 'Ann met Bob in Rome', with the types Person, Meet and Location: T1 Person 0 3, T2 Meet 4 7, E1 Meet:T2 Who:T1
abbrev pub ann : Reading
ann = written ((t 1, span 0 0 3) ∷ (t 2, span 1 4 7) ∷ (e 1, event 1 2 (arg 0 (t 1) ∷ [])) ∷ []) []

-- T1 Meet 4 7, T2 Person 0 3, T3 Location 15 19, E1 Meet:T1 Who:T2
abbrev pub bob : Reading
bob = written ((t 1, span 1 4 7) ∷ (t 2, span 0 0 3) ∷ (t 3, span 2 15 19) ∷ (e 1, event 1 1 (arg 0 (t 2) ∷ [])) ∷ []) []

-- the layers of both
abbrev pub both : List Reading
both = ann ∷ bob ∷ []

-- two spans that are held to be one, in a class of a type
abbrev pub one : AnnId → AnnId → ℕ → Reading
one first second kind = written ((first, span 0 0 3) ∷ (second, span 0 8 11) ∷ []) (record { kind = record { n = kind }; members = first ∷ second ∷ [] } ∷ [])

-- the name of an item of a holder
abbrev pub name : ℕ → AnnId → ItemId
name holder id = record { holder = holder; id = id }

-- an item with its holders
abbrev pub item : ℕ → AnnId → ℕ → Item
item holder id holders = record { id = name holder id; holders = holders }
