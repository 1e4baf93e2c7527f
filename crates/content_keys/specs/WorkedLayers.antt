-- Small layers, on which the definitions are shown at work.
use Rattle.std.specs.Prelude.{ℕ, min, List, [], ◌∷◌, Option, None, codes}
use Rattle.std.proofs.Math.Nat.{min-le_right}
use Rattle.mark_base.specs.declared.ann_id.AnnId.{AnnId}
use Rattle.mark_base.specs.declared.ann_id.Kind.TheVariants as letter
use Rattle.mark_base.specs.declared.arguments.Arg.{Arg}
use Rattle.mark_base.specs.ReadIds.{id_at}
use Rattle.layer_model.specs.declared.mark.Mark.{Mark}
use Rattle.layer_model.specs.declared.mark.Mark.TheVariants as marked
use Rattle.content_keys.specs.Counterparts.{behind}

-- the marks of a layer that is written as a list
abbrev pub marks : List (AnnId × Mark) → AnnId → Option Mark
marks layer id = behind id layer

-- the span T of a number
abbrev pub t : ℕ → AnnId
t number = id_at letter.Text number

-- the event E of a number
abbrev pub e : ℕ → AnnId
e number = id_at letter.Event number

-- a span of a type over the characters from `start` up to `end`
abbrev pub span : ℕ → ℕ → ℕ → Mark
span kind start end = marked.Span (record { kind = record { n = kind }; frags = record { start = start; end = end } ∷ [] })

-- an event of a type on the span of a number
abbrev pub event : ℕ → ℕ → List Arg → Mark
event kind number args = marked.Event (record { kind = record { n = kind }; trigger = min number 999999999; args = args; within = min-le_right number 999999999 })

-- an argument
abbrev pub arg : ℕ → AnnId → Arg
arg role target = record { role = role; target = target }

-- an attribute of a type
abbrev pub attribute : ℕ → AnnId → Option ℕ → Mark
attribute kind target value = marked.Attribute (record { kind = record { n = kind }; target = target; value = value })

-- a normalization of T1 to W:1, of which the text is given
abbrev pub normal : List ℕ → Mark
normal text = marked.Normal (record { target = t 1; store = codes "W"; entry = codes "1"; text = text })

-- T1 and T2 are persons, T3 states the meeting E1 of both
abbrev pub ann : List (AnnId × Mark)
ann = (t 1, span 0 0 3) ∷ (t 2, span 0 8 11) ∷ (t 3, span 1 4 7) ∷ (e 1, event 1 3 (arg 0 (t 1) ∷ arg 0 (t 2) ∷ [])) ∷ []

-- the same under other IDs, with the arguments in another order
abbrev pub bob : List (AnnId × Mark)
bob = (t 4, span 1 4 7) ∷ (t 5, span 0 0 3) ∷ (t 9, span 0 8 11) ∷ (e 6, event 1 4 (arg 0 (t 9) ∷ arg 0 (t 5) ∷ [])) ∷ []

-- the same with one argument more
abbrev pub eve : List (AnnId × Mark)
eve = (t 1, span 0 0 3) ∷ (t 2, span 0 8 11) ∷ (t 3, span 1 4 7) ∷ (e 1, event 1 3 (arg 0 (t 1) ∷ arg 0 (t 2) ∷ arg 0 (t 2) ∷ [])) ∷ []

-- T1 with an attribute under the letters A and M, and with two normalizations that differ in the text alone
abbrev pub joe : List (AnnId × Mark)
joe =
    (t 1, span 0 0 3)
    ∷ (id_at letter.Attribute 1, attribute 0 (t 1) None)
    ∷ (id_at letter.Legacy 4, attribute 0 (t 1) None)
    ∷ (id_at letter.Normal 1, normal (codes "a"))
    ∷ (id_at letter.Normal 2, normal (codes "b"))
    ∷ []
