-- Two small files on 'Ann met Bob in Rome, "the city"', on which the definitions are shown at work.
use Rattle.std.specs.Prelude.{ℕ, List, [], ◌∷◌, map, codes}
use Rattle.mark_base.specs.declared.ann_id.Kind.TheVariants as letter
use Rattle.mark_base.specs.ReadIds.{id_at}
use Rattle.unanimous_merge.specs.declared.item.ItemId.{ItemId}
use Rattle.curator_decisions.specs.Decisions.{Decided}
use Rattle.items_report.specs.ItemRows.{item_fields, lines_of}
use Rattle.items_report.specs.ItemsTable.{row}

-- the holders
abbrev pub holders : List (List ℕ)
holders = codes "ann" ∷ codes "bob" ∷ []

-- their files
abbrev pub files : List (List ℕ)
files =
    codes "T11\tPerson 8 11\tBob\nT1\tPerson 0 3\tAnn\n"
    ∷ codes "T2\tPerson 0 3\tAnn\nT3\tLocation 15 19\tRome\nT4\tLocation 15 31\tRome, \"the city\"\n" ∷ []

-- the span T of a number of a holder
abbrev pub span_of : ℕ → ℕ → ItemId
span_of holder number = record { holder = holder; id = id_at letter.Text number }

-- the row of such a span, by who holds it
abbrev pub shown_row : Decided → ItemId → ℕ → List ℕ
shown_row decided item bits = row (item_fields holders (map lines_of files) decided (record { id = item; holders = bits }))
