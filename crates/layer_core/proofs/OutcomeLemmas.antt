-- What a change of a layer comes to, once it is judged.
use Rattle.std.proofs.Common.{◌≡◌, ℕ, ◌+◌, ◌*◌, ◌==◌, ◌&&◌, Bool, true, false, Option, Some, None, option_map, is_some, refl, sym, ◌∙◌, ap, subst, arith}
use Rattle.std.proofs.lemmas.Bool.{false≢true}
use Rattle.std.specs.Prelude.{if◌then◌else◌}
use Rattle.std.specs.Option.{option_map_or, option_or}
use Rattle.std.specs.List.{list_any}
use Rattle.std.specs.Ordering.{nat_cmp, eq_by_cmp, is_eq}
use Rattle.std.specs.Cmp.{nat_cmp_total, tied_itself}
use Rattle.std.specs.FinMap as finite
use Rattle.std.specs.FinMap.{get-insert, get-remove}
use Rattle.mark_base.specs.declared.ann_id.AnnId.{AnnId}
use Rattle.mark_base.specs.declared.ann_id.Kind.{Kind}
use Rattle.mark_base.specs.declared.ann_id.Kind.TheVariants as letter
use Rattle.conf_model.specs.Configurations.{Configuration}
use Rattle.layer_model.specs.declared.mark.Mark.{Mark}
use Rattle.layer_model.specs.declared.mark.Mark.TheVariants as marked
use Rattle.layer_model.specs.declared.span.Span.{Span}
use Rattle.layer_model.specs.declared.rule.Rule.{Rule}
use Rattle.layer_model.specs.declared.flaw.Flaw.{Flaw}
use Rattle.layer_model.specs.Annotations.{Annotations}
use Rattle.layer_model.specs.Classes.{letter_place}
use Rattle.layer_model.specs.Layers.{IsLayer, has_number, is_of_kind, mark_at, mark_of, with_mark, with_marked, without, without_number}
use Rattle.layer_rules.specs.FlawPlaces.{first_rule, places}
use Rattle.layer_rules.specs.LowestFlaw.{HasGoodSpans, single_rules}
use Rattle.layer_rules.proofs.CheckLemmas.{good_spans, in_two}
use Rattle.layer_rules.specs.WellFormed.{IsWellFormed, least_flaw}
use Rattle.layer_rules.specs.MarkRules.{named_by}
use Rattle.layer_rules.specs.LayerRules.{is_id}
use Rattle.layer_rules.proofs.LawLemmas.{unflawed_is_well_formed, well_formed_is_unflawed}
use Rattle.layer_core.specs.declared.index.Index.{Index}
use Rattle.layer_core.specs.declared.back.Back.TheVariants.{Under}
use Rattle.layer_core.specs.Backs.{DiffersUnder, IsWayBack, with_this}
use Rattle.layer_core.specs.CommandRules.{first_naming, is_span_letter}
use Rattle.layer_core.specs.Commands.{draft_rule, lower_rule}
use Rattle.layer_core.specs.Changes.{changed_rule}
use Rattle.layer_core.specs.MadeLayers.{gone, with_less}
use Rattle.layer_core.specs.Indexes.{IsIndex, frags_at}
use Rattle.layer_core.specs.Outcomes.{IsIndexed, IsIndexedBut}
use Rattle.layer_core.proofs.ElsewhereLemmas.{alike, this_elsewhere}
use Rattle.layer_core.proofs.GoneFlawLemmas.{gone_unflawed}
use Rattle.layer_core.proofs.BackLemmas.{mark_fits, marked_back, without_differs}

-- ---- what stands under an ID

-- a mark stands where it was put
put_there : {X : Type 0} (m : finite.FinMap nat_cmp X) (n : ℕ) (x : X) → is_some (finite.get (finite.insert m n x) n) ≡ true
put_there m n x = ap is_some (get-insert nat_cmp_total m n x n ∙ ap (λ o. if is_eq o then Some x else finite.get m n) (tied_itself nat_cmp_total n))

pub has_put : (l : Annotations) (kind : Kind) (n : ℕ) (mark : Mark) → is_of_kind kind mark ≡ true → has_number (with_marked l kind n mark) kind n ≡ true
has_put l letter.Text n (marked.Span x) fits = put_there l.spans n x
has_put l letter.Event n (marked.Event x) fits = put_there l.events n x
has_put l letter.Relation n (marked.Relation x) fits = put_there l.relations n x
has_put l letter.Attribute n (marked.Attribute x) fits = put_there l.attributes n x
has_put l letter.Legacy n (marked.Attribute x) fits = put_there l.legacy n x
has_put l letter.Normal n (marked.Normal x) fits = put_there l.normals n x
has_put l letter.Note n (marked.Note x) fits = put_there l.notes n x
has_put l kind n mark fits = absurd (false≢true fits)

pub put_differs : (layer after : Annotations) (id : AnnId) (mark : Mark) → after ≡ with_mark layer id mark → DiffersUnder after id layer
put_differs layer after id mark is = subst (λ a. DiffersUnder a id layer) (sym is) (marked_back layer id.kind id.number mark)

pub before_fits : (layer : Annotations) (id : AnnId) (before : Option Mark) → before ≡ mark_at layer id → option_map_or (is_of_kind id.kind) before true ≡ true
before_fits layer id before is = ap (λ o. option_map_or (is_of_kind id.kind) o true) is ∙ mark_fits layer id.kind id.number

-- what was put is taken back
pub put_back : (layer after again : Annotations) (id : AnnId) (mark : Mark) (before : Option Mark) → before ≡ mark_at layer id → after ≡ with_mark layer id mark
    → again ≡ with_this after id.kind id.number before → again ≡ layer
put_back layer after again id mark before was is back = back ∙ ap (with_this after id.kind id.number) was ∙ put_differs layer after id mark is

-- ---- the index, where one annotation changed

other_spans : (l : Annotations) (kind : Kind) (n : ℕ) (this : Option Mark) → is_span_letter kind ≡ false → (with_this l kind n this).spans ≡ l.spans
other_spans l letter.Text n this apart = absurd (false≢true (sym apart))
other_spans l letter.Event n None apart = refl
other_spans l letter.Relation n None apart = refl
other_spans l letter.Attribute n None apart = refl
other_spans l letter.Legacy n None apart = refl
other_spans l letter.Normal n None apart = refl
other_spans l letter.Note n None apart = refl
other_spans l letter.Event n (Some (marked.Event x)) apart = refl
other_spans l letter.Relation n (Some (marked.Relation x)) apart = refl
other_spans l letter.Attribute n (Some (marked.Attribute x)) apart = refl
other_spans l letter.Legacy n (Some (marked.Attribute x)) apart = refl
other_spans l letter.Normal n (Some (marked.Normal x)) apart = refl
other_spans l letter.Note n (Some (marked.Note x)) apart = refl
other_spans l kind n (Some mark) apart = refl

span_of_mark : (a b : Option Span) → option_map marked.Span a ≡ option_map marked.Span b → a ≡ b
span_of_mark None None e = refl
span_of_mark None (Some y) e = absurd (let f : None ≡ Some (marked.Span y) = e in cc)
span_of_mark (Some x) None e = absurd (let f : Some (marked.Span x) ≡ None = e in cc)
span_of_mark (Some x) (Some y) e = let f : Some (marked.Span x) ≡ Some (marked.Span y) = e in cc

of_other : (after before : Annotations) (kind : Kind) (n q : ℕ) (this : Option Mark) → is_span_letter kind ≡ false → with_this after kind n this ≡ before → frags_at after q ≡ frags_at before q
of_other after before kind n q this apart differs = ap (λ m. option_map (λ (span : Span). span.frags) (finite.get m q)) (sym (other_spans after kind n this apart) ∙ ap (λ (l : Annotations). l.spans) differs)

-- two numbers of spans that differ are of two places
text_apart : (n q : ℕ) → (n == q) ≡ false → (letter_place letter.Text * 1000000000 + n == letter_place letter.Text * 1000000000 + q) ≡ false
text_apart n q apart = ap (λ k. k == letter_place letter.Text * 1000000000 + q) (from_zero n) ∙ ap (λ k. n == k) (from_zero q) ∙ apart
  where
    from_zero : (k : ℕ) → letter_place letter.Text * 1000000000 + k ≡ k
    from_zero k = omega arith

spans_but : (after before : Annotations) (kind : Kind) (n q : ℕ) (this : Option Mark) → with_this after kind n this ≡ before → (is_span_letter kind && n == q) ≡ false
    → frags_at after q ≡ frags_at before q
spans_but after before letter.Text n q this differs apart =
    ap (option_map (λ (span : Span). span.frags)) (span_of_mark (finite.get after.spans q) (finite.get before.spans q)
    (sym (this_elsewhere after letter.Text letter.Text n q this (text_apart n q apart)) ∙ ap (λ l. mark_of l letter.Text q) differs))
spans_but after before letter.Event n q this differs apart = of_other after before letter.Event n q this refl differs
spans_but after before letter.Relation n q this differs apart = of_other after before letter.Relation n q this refl differs
spans_but after before letter.Attribute n q this differs apart = of_other after before letter.Attribute n q this refl differs
spans_but after before letter.Legacy n q this differs apart = of_other after before letter.Legacy n q this refl differs
spans_but after before letter.Normal n q this differs apart = of_other after before letter.Normal n q this refl differs
spans_but after before letter.Note n q this differs apart = of_other after before letter.Note n q this refl differs

pub index_but : (after before : Annotations) (id : AnnId) (index : Index) → DiffersUnder after id before → IsIndex None before index → IsIndex (Some id) after index
index_but after before id index differs is =
    record {
      namers = λ named other apart names.
          is.namers named other refl (sym (ap (λ o. option_map_or (λ mark. list_any (is_id named) (named_by mark)) o false) ((alike after before id differs).marks other apart)) ∙ names);
      spans = λ number apart. is.spans number refl ∙ sym (spans_but after before id.kind id.number number (mark_at before id) differs apart);
    }

pub indexed_but : (after before : Annotations) (id : AnnId) (index : Option Index) → DiffersUnder after id before → IsIndexed before index → IsIndexedBut id after index
indexed_but after before id None differs is = tt
indexed_but after before id (Some index) differs is = index_but after before id index differs is

-- ---- no rule is broken

no_lower : (a b : Option Rule) → lower_rule a b ≡ None → b ≡ None
no_lower None b e = e
no_lower (Some a) None e = refl
no_lower (Some a) (Some b) e = absurd (some_rule _ a b e)
  where
    some_rule : (c : Bool) (a b : Rule) → (if c then Some b else Some a) ≡ None → ⊥
    some_rule true a b e = cc
    some_rule false a b e = cc

unmapped : {X Y : Type 0} (f : X → Y) (o : Option X) → option_map f o ≡ None → o ≡ None
unmapped f None e = refl
unmapped f (Some x) e = absurd (let g : Some (f x) ≡ None = e in cc)

-- the layer that was judged is well-formed
pub judged_well : (conf : Configuration) (characters : ℕ) (layer : Annotations) (id : AnnId) (own : Option Rule) → None ≡ lower_rule own (changed_rule conf characters layer id) → IsWellFormed conf characters layer
judged_well conf characters layer id own e = unflawed_is_well_formed conf characters layer (unmapped _ (least_flaw conf characters layer) (no_lower own _ (sym e)))

-- the spans of a well-formed layer are good
pub good_well : (conf : Configuration) (characters : ℕ) (layer : Annotations) → IsLayer layer → IsWellFormed conf characters layer → HasGoodSpans conf layer
good_well conf characters layer kept well = good_spans conf characters layer kept (sym (first_none (first_rule (single_rules conf characters layer) (places layer)) _ (sym (in_two conf characters layer) ∙ well_formed_is_unflawed conf characters layer well)))
  where
    first_none : (a b : Option Flaw) → option_or a b ≡ None → a ≡ None
    first_none None b e = refl
    first_none (Some flaw) b e = e

-- spans stay good where an annotation goes
pub good_less : (conf : Configuration) (l : Annotations) (kind : Kind) (n : ℕ) → HasGoodSpans conf l → HasGoodSpans conf (without_number l kind n)
good_less conf l letter.Text n good = λ number span is. good number span (there number span (eq_by_cmp nat_cmp number n) (sym (get-remove nat_cmp_total l.spans n number) ∙ is))
  where
    there : (number : ℕ) (span : Span) (b : Bool) → (if b then None else finite.get l.spans number) ≡ Some span → finite.get l.spans number ≡ Some span
    there number span true e = absurd (let f : None ≡ Some span = e in cc)
    there number span false e = e
good_less conf l letter.Event n good = good
good_less conf l letter.Relation n good = good
good_less conf l letter.Attribute n good = good
good_less conf l letter.Legacy n good = good
good_less conf l letter.Normal n good = good
good_less conf l letter.Note n good = good

pub less_differs : (layer after : Annotations) (id : AnnId) → after ≡ without layer id → DiffersUnder after id layer
less_differs layer after id is = subst (λ a. DiffersUnder a id layer) (sym is) (without_differs layer id)

-- what stood under an ID leads back
pub leads_back : (layer after : Annotations) (id : AnnId) (before : Option Mark) → before ≡ mark_at layer id → DiffersUnder after id layer → IsWayBack (Under id before) after layer
leads_back layer after id before was differs = record { fits = before_fits layer id before was; leads = ap (with_this after id.kind id.number) was ∙ differs }

-- no rule is broken where an annotation goes that none names
pub gone_rule : (conf : Configuration) (characters : ℕ) (layer : Annotations) (id : AnnId) → IsLayer layer → IsWellFormed conf characters layer → first_naming layer id ≡ None
    → draft_rule conf characters (with_less (gone layer id)) ≡ None
gone_rule conf characters layer id kept well unnamed = ap (option_map (λ (flaw : Flaw). flaw.rule)) (gone_unflawed conf characters layer id kept well unnamed)

pub own_stands : (own made : Option Rule) (rule : Rule) → own ≡ Some rule → made ≡ None → lower_rule own made ≡ Some rule
own_stands own made rule is none = ap (λ o. lower_rule o made) is ∙ ap (lower_rule (Some rule)) none

pub none_stands : (own made : Option Rule) → own ≡ None → made ≡ None → lower_rule own made ≡ None
none_stands own made is none = ap (λ o. lower_rule o made) is ∙ none
