-- Annotations that stand for the same numbers as one before them (private calls only).
use Rattle.std.specs.Prelude.{ℕ, Bool, List, [], ◌∷◌, ◌++◌, Option, None, option_map, find}
use Rattle.std.specs.Option.{option_or}
use Rattle.std.specs.List.{flat_map}
use Rattle.std.specs.Ordering.{nat_cmp, is_eq}
use Rattle.std.specs.Cmp.Lexicographic.{slice_cmp}
use Rattle.mark_base.specs.declared.ann_id.AnnId.{AnnId}
use Rattle.mark_base.specs.declared.ann_id.Kind.{Kind}
use Rattle.mark_base.specs.declared.fragments.Frag.{Frag}
use Rattle.layer_model.specs.Classes.{rank}
use Rattle.layer_model.specs.declared.attribute.Attribute.{Attribute}
use Rattle.layer_model.specs.declared.relation.Relation.{Relation}
use Rattle.layer_model.specs.declared.span.Span.{Span}
use Rattle.layer_rules.specs.declared.repeats.KeyedId.{KeyedId}
use Rattle.layer_rules.specs.declared.repeats.Repeat.{Repeat}
use Rattle.mark_base.specs.ReadIds.{id_at}

-- an annotation and the numbers that stand for it
abbrev pub shown : KeyedId → AnnId × List ℕ
shown one = (one.id, one.key.items)

-- the same numbers in the same order
abbrev pub same_numbers : List ℕ → List ℕ → Bool
same_numbers a b = is_eq (slice_cmp nat_cmp a b)

-- of some annotations the first with these numbers
abbrev pub first_with : List ℕ → List (AnnId × List ℕ) → Option AnnId
first_with key seen = option_map (λ one. one.0) (find (λ one. same_numbers key one.1) seen)

-- the first of some annotations that has the numbers of one before it, and the first that had them; some were seen before
abbrev pub repeat_after : List (AnnId × List ℕ) → List (AnnId × List ℕ) → Option Repeat
repeat_after seen [] = None
repeat_after seen (one ∷ more) =
    option_or (option_map (λ first. record { first = first; again = one.0 }) (first_with one.1 seen)) (repeat_after (seen ++ (one ∷ [])) more)

-- the numbers of a fragment
abbrev pub frag_key : Frag → List ℕ
frag_key frag = frag.start ∷ frag.end ∷ []

-- the numbers that stand for a span: its type, and where its fragments lie
abbrev pub span_key : Span → List ℕ
span_key span = span.kind.n ∷ flat_map frag_key span.frags

-- the annotations of a letter, by the numbers that stand for each
abbrev pub keyed : {V : Type 0} → Kind → (V → List ℕ) → List (ℕ × V) → List (AnnId × List ℕ)
keyed kind key [] = []
keyed kind key (entry ∷ more) = (id_at kind entry.0, key entry.1) ∷ keyed kind key more

-- the numbers that stand for a relation: its type and both arguments
abbrev pub relation_key : Relation → List ℕ
relation_key relation = relation.kind.n ∷ rank relation.first ∷ rank relation.second ∷ []

-- the numbers that stand for an attribute: its type and its target
abbrev pub attribute_key : Attribute → List ℕ
attribute_key attribute = attribute.kind.n ∷ rank attribute.target ∷ []
