-- The rules on one annotation or class first, and then the others.
use Rattle.std.proofs.Common.{◌≡◌, ℕ, ◌<◌, ◌≤◌, Bool, true, false, not, nat_lt, List, [], ◌∷◌, ◌++◌, length, slice_get, zero, suc, refl, sym, ◌∙◌, ap, Option, Some, None, arith, tests}
use Rattle.std.specs.Option.{option_or, is_none}
use Rattle.mark_base.specs.declared.ann_id.Kind.TheVariants as letter
use Rattle.conf_model.specs.Configurations.{Configuration}
use Rattle.overlap_rules.specs.Overlaps.{reach}
use Rattle.layer_model.specs.declared.mark.Mark.TheVariants as marked
use Rattle.layer_model.specs.declared.rule.Rule.{Rule}
use Rattle.layer_model.specs.declared.flaw.Flaw.{Flaw}
use Rattle.layer_model.specs.declared.flaw.FlawPlace.{FlawPlace}
use Rattle.layer_model.specs.declared.flaw.FlawPlace.TheVariants as at
use Rattle.layer_model.specs.Annotations.{Annotations}
use Rattle.layer_model.specs.Layers.{IsLayer}
use Rattle.mark_base.specs.ReadIds.{id_at}
use Rattle.layer_rules.specs.FlawPlaces.{first_place, first_rule, places}
use Rattle.layer_rules.specs.MarkRules.{where_so, unknown_type, unknown_class, bad_fragments, span_too_long}
use Rattle.layer_rules.specs.BadTexts.{are_fragments}
use Rattle.layer_rules.specs.WellFormed.{least_flaw, no_class}
use Rattle.layer_rules.specs.LowestFlaw.{HasGoodSpans, later_rules, single_rules}
use Rattle.layer_rules.proofs.FlawLemmas.{or_assoc}
use Rattle.layer_rules.proofs.PlaceLemmas.{at_entry}
use Rattle.layer_rules.proofs.LawLemmas.{never, parted}

some_none : {X : Type 0} {x : X} → Some x ≡ None → ⊥
some_none e = cc

rules-append : (tests others : List (FlawPlace → Option Rule)) (ps : List FlawPlace) → first_rule (tests ++ others) ps ≡ option_or (first_rule tests ps) (first_rule others ps)
rules-append [] others ps = refl
rules-append (told ∷ tests) others ps = ap (option_or (first_place told ps)) (rules-append tests others ps) ∙ sym (or_assoc (first_place told ps) (first_rule tests ps) (first_rule others ps))

-- the least flaw is of the rules on one record, or else of the others
pub in_two : (conf : Configuration) (characters : ℕ) (layer : Annotations)
    → least_flaw conf characters layer ≡ option_or (first_rule (single_rules conf characters layer) (places layer)) (first_rule (later_rules conf layer) (places layer))
unfolding least_flaw
in_two conf characters layer = rules-append (single_rules conf characters layer) (later_rules conf layer) (places layer)

pub flaw_of_one : (conf : Configuration) (characters : ℕ) (layer : Annotations) (flaw : Flaw) → Some flaw ≡ first_rule (single_rules conf characters layer) (places layer) → Some flaw ≡ least_flaw conf characters layer
flaw_of_one conf characters layer flaw is = ap (λ o. option_or o (first_rule (later_rules conf layer) (places layer))) is ∙ sym (in_two conf characters layer)

pub flaw_of_others : (conf : Configuration) (characters : ℕ) (layer : Annotations) (o : Option Flaw) → None ≡ first_rule (single_rules conf characters layer) (places layer)
    → o ≡ first_rule (later_rules conf layer) (places layer) → o ≡ least_flaw conf characters layer
flaw_of_others conf characters layer o none is =
    is ∙ ap (λ x. option_or x (first_rule (later_rules conf layer) (places layer))) none ∙ sym (in_two conf characters layer)

not_so : (b : Bool) (rule : Rule) → where_so b rule ≡ None → b ≡ false
not_so true rule e = absurd (some_none e)
not_so false rule e = refl

not_not : (b : Bool) → not b ≡ false → b ≡ true
not_not true e = refl
not_not false e = absurd (let f : true ≡ false = e in cc)

at_most : (m n : ℕ) → nat_lt m n ≡ false → n ≤ m
at_most m n e = search (arith, tests)

declared : {X : Type 0} (xs : List X) (i : ℕ) → is_none (slice_get xs i) ≡ false → i < length xs
declared [] i e = absurd (let f : true ≡ false = e in cc)
declared (x ∷ xs) zero e = omega arith
declared (x ∷ xs) (suc i) e = let later = declared xs i e in omega arith

-- where the rules on one record are kept, spans have fragments in order, reach not too far, and have types that are declared
pub good_spans : (conf : Configuration) (characters : ℕ) (layer : Annotations) → IsLayer layer → None ≡ first_rule (single_rules conf characters layer) (places layer) → HasGoodSpans conf layer
good_spans conf characters layer kept none number span is =
    let r = parted (single_rules conf characters layer) (places layer) (sym none) in
    let place : FlawPlace = at.Mark (id_at letter.Text number) in
    let types : unknown_type conf (marked.Span span) ≡ None =
    sym (at_entry (λ id. unknown_type conf) (λ i. unknown_class conf) layer letter.Text marked.Span layer.spans (λ k. refl) kept.spans (number, span) is)
    ∙ never (λ id. unknown_type conf) (λ i. unknown_class conf) layer r.0 place in
    let fragments : bad_fragments (marked.Span span) ≡ None =
    sym (at_entry (λ id. bad_fragments) no_class layer letter.Text marked.Span layer.spans (λ k. refl) kept.spans (number, span) is) ∙ never (λ id. bad_fragments) no_class layer r.1.1.0 place in
    let short : span_too_long (marked.Span span) ≡ None =
    sym (at_entry (λ id. span_too_long) no_class layer letter.Text marked.Span layer.spans (λ k. refl) kept.spans (number, span) is) ∙ never (λ id. span_too_long) no_class layer r.1.1.1.1.0 place in (
      not_not (are_fragments span.frags) (not_so (not (are_fragments span.frags)) _ fragments),
      at_most 10000 (reach span.frags) (not_so (nat_lt 10000 (reach span.frags)) _ short),
      declared conf.types span.kind.n (not_so (is_none (slice_get conf.types span.kind.n)) _ types),
    )
