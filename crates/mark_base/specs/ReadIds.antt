-- Which ID bytes spell (brat standoff manual, "Annotation ID conventions").
use Rattle.std.specs.Prelude.{ℕ, List, min, drop, slice_index, Option, option_map, option_and_then}
use Rattle.std.proofs.Math.Nat.{min-le_right}
use Rattle.mark_base.specs.declared.ann_id.AnnId.{AnnId}
use Rattle.mark_base.specs.declared.ann_id.Kind.{Kind}
use Rattle.mark_base.specs.AnnIds.{number_read, kind_read}

-- the ID of a letter and a number; a number above the greatest stands for the greatest
abbrev pub id_at : Kind → ℕ → AnnId
id_at kind number = record { kind = kind; number = min number 999999999; within = min-le_right number 999999999 }

-- the ID that bytes spell: a letter and a number
abbrev pub id_read : List ℕ → Option AnnId
id_read bytes = option_and_then (λ kind. option_map (id_at kind) (number_read (drop 1 bytes))) (kind_read (slice_index bytes 0))
