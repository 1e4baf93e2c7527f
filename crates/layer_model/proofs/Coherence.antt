-- A layer with nothing marked is coherent.
use Rattle.std.proofs.Common.{◌≡◌, ℕ, [], refl, sym, ◌∙◌, ap, Option, Some, None}
use Rattle.std.specs.Ordering.{nat_cmp}
use Rattle.std.specs.List.{list_any}
use Rattle.std.specs.Option.{option_map, option_map_or}
use Rattle.std.specs.FinMap as finite
use Rattle.std.specs.FinMap.{get-empty}
use Rattle.mark_base.specs.declared.ann_id.Kind.{Kind}
use Rattle.mark_base.specs.declared.ann_id.Kind.TheVariants as letter
use Rattle.layer_model.specs.declared.event.Event.{Event}
use Rattle.layer_model.specs.declared.attribute.Attribute.{Attribute}
use Rattle.layer_model.specs.declared.mark.Mark.{Mark}
use Rattle.layer_model.specs.declared.mark.Mark.TheVariants as marked
use Rattle.layer_model.specs.Annotations.{no_marks}
use Rattle.layer_model.specs.Layers.{mark_of, attribute_of}
use Rattle.layer_model.specs.Coherent.{events_among, begins_chain, ChainsAreShort, IsCoherent}

absent : {X A : Type 0} (n : ℕ) (x : X) → finite.get (finite.empty {K = ℕ} {X = X} {R = nat_cmp}) n ≡ Some x → A
absent {X} n x e = absurd (let f : ◌≡◌ {A = Option X} None (Some x) = sym (get-empty nat_cmp n) ∙ e in cc)

unmapped : {X : Type 0} (f : X → Mark) (n : ℕ) → option_map f (finite.get (finite.empty {K = ℕ} {X = X} {R = nat_cmp}) n) ≡ None
unmapped f n = ap (option_map f) (get-empty nat_cmp n)

pub no_mark : (kind : Kind) (n : ℕ) → mark_of no_marks kind n ≡ None
no_mark letter.Text n = unmapped marked.Span n
no_mark letter.Event n = unmapped marked.Event n
no_mark letter.Relation n = unmapped marked.Relation n
no_mark letter.Attribute n = unmapped marked.Attribute n
no_mark letter.Legacy n = unmapped marked.Attribute n
no_mark letter.Normal n = unmapped marked.Normal n
no_mark letter.Note n = unmapped marked.Note n

no_attribute : (kind : Kind) (n : ℕ) → attribute_of no_marks kind n ≡ None
no_attribute letter.Attribute n = get-empty nat_cmp n
no_attribute letter.Legacy n = get-empty nat_cmp n
no_attribute kind n = refl

unmarked : {A : Type 0} (kind : Kind) (n : ℕ) (mark : Mark) → mark_of no_marks kind n ≡ Some mark → A
unmarked kind n mark e = absurd (let f : ◌≡◌ {A = Option Mark} None (Some mark) = sym (no_mark kind n) ∙ e in cc)

no_chain : ChainsAreShort no_marks
unfolding begins_chain
no_chain n = ap (λ (o : Option Event). list_any (begins_chain no_marks 16) (option_map_or (λ event. events_among event.args) o [])) (get-empty nat_cmp n)

pub nothing_coheres : IsCoherent no_marks
nothing_coheres = record {
  stand = record { marks = λ kind n mark e. unmarked kind n mark e; classes = tt };
  letters = record { marks = λ kind n mark e. unmarked kind n mark e; classes = tt };
  chains = no_chain;
  spans = λ m n a b e f same. absent m a e;
  events = λ m n a b e f same. absent m a e;
  relations = λ m n a b e f same. absent m a e;
  attributes = λ j k m n a b e f same. absurd (let g : ◌≡◌ {A = Option Attribute} None (Some a) = sym (no_attribute j m) ∙ e in cc);
}
