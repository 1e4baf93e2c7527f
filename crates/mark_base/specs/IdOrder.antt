-- How the IDs of annotations are ordered: by letter, T, E, R, A, M, N, #, and then by number.
use Rattle.std.specs.Prelude.{ℕ}
use Rattle.std.specs.declared.cmp.Ordering.{Ordering}
use Rattle.std.specs.Ordering.{nat_cmp, ordering_then}
use Rattle.mark_base.specs.declared.ann_id.AnnId.{AnnId}
use Rattle.mark_base.specs.declared.ann_id.Kind.{Kind}
use Rattle.mark_base.specs.declared.ann_id.Kind.TheVariants.{Text, Event, Relation, Attribute, Legacy, Normal, Note}

-- the place of a sort in that order
abbrev pub place_of : Kind → ℕ
place_of Text = 0
place_of Event = 1
place_of Relation = 2
place_of Attribute = 3
place_of Legacy = 4
place_of Normal = 5
place_of Note = 6

-- the order of two IDs
abbrev pub id_cmp : AnnId → AnnId → Ordering
id_cmp a b = ordering_then (nat_cmp (place_of a.kind) (place_of b.kind)) (nat_cmp a.number b.number)
