-- Small layers, on which the definitions of clashes are shown at work.
use Rattle.std.specs.Prelude.{ℕ, List, [], ◌∷◌, Some}
use Rattle.mark_base.specs.declared.ann_id.AnnId.{AnnId}
use Rattle.mark_base.specs.declared.ann_id.Kind.TheVariants as letter
use Rattle.mark_base.specs.ReadIds.{id_at}
use Rattle.content_keys.specs.WorkedLayers.{attribute, span, t}
use Rattle.unanimous_merge.specs.Items.{Held}
use Rattle.unanimous_merge.specs.Readings.{Reading}
use Rattle.unanimous_merge.specs.WorkedSnapshots.{written}

-- a name, T1, with an attribute of a value, A1
abbrev pub valued : ℕ → Reading
valued value = written ((t 1, span 0 0 3) ∷ (id_at letter.Attribute 1, attribute 0 (t 1) (Some value)) ∷ []) []

-- two holders give the name two values
abbrev pub two_values : List Reading
two_values = valued 0 ∷ valued 1 ∷ []

-- an annotation of a holder, by which no content is asked
abbrev pub held : ℕ → AnnId → Held
held holder id = record { holder = holder; id = id; content = 0 }
