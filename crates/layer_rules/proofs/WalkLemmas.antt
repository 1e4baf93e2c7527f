-- The first of some rules that is broken somewhere, by one walk over the places.
use Rattle.std.proofs.Common.{◌≡◌, ℕ, ◌+◌, ◌≤◌, Bool, true, false, List, [], ◌∷◌, ◌++◌, map, slice_get, refl, sym, ◌∙◌, ap, Option, Some, None, if◌then◌else◌, arith}
use Rattle.std.specs.Prelude.{⊤}
use Rattle.std.specs.Option.{option_or, option_map, option_and_then}
use Rattle.std.specs.FinMap as finite
use Rattle.std.specs.Ordering.{nat_cmp}
use Rattle.mark_base.specs.declared.ann_id.Kind.{Kind}
use Rattle.mark_base.specs.declared.ann_id.Kind.TheVariants as letter
use Rattle.conf_model.specs.Configurations.{Configuration}
use Rattle.layer_model.specs.declared.mark.Mark.{Mark}
use Rattle.layer_model.specs.declared.mark.Mark.TheVariants as marked
use Rattle.layer_model.specs.declared.class.Class.{Class}
use Rattle.layer_model.specs.Numbers.{NumbersFit}
use Rattle.layer_model.specs.declared.rule.Rule.{Rule}
use Rattle.layer_model.specs.declared.flaw.Flaw.{Flaw}
use Rattle.layer_model.specs.declared.flaw.FlawPlace.{FlawPlace}
use Rattle.layer_model.specs.declared.flaw.FlawPlace.TheVariants as at
use Rattle.layer_model.specs.Rules.{number_of}
use Rattle.layer_model.specs.Annotations.{Annotations}
use Rattle.layer_model.specs.Layers.{IsLayer, mark_at, mark_of, numbers}
use Rattle.mark_base.specs.ReadIds.{id_at}
use Rattle.layer_rules.specs.WellFormed.{no_class}
use Rattle.layer_rules.specs.MarkRules.{unknown_type, unknown_class, not_for_use, class_not_for_use, bad_fragments, out_of_text, span_too_long, named_by, first_missing, wanted_by, member, first_unwanted, unknown_role, argument_type, too_many, unknown_value}
use Rattle.layer_rules.specs.FlawPlaces.{first_place, first_rule, places}
use Rattle.layer_rules.specs.LowestFlaw.{at_single, class_rule, flaw_at, lower_flaw, lowest_at, lowest_from, lowest_of, mark_rule, single_rules}
use Rattle.layer_rules.proofs.FlawLemmas.{lower-first, lower-second}
use Rattle.layer_rules.proofs.PlaceLemmas.{at_entries, by_letters, class_places, lowest-append, lowest_classes, lowest_keys, places_of}
use Rattle.layer_rules.proofs.RuleNumbers.{Tells, type_tells, use_tells, fragments_tells, text_tells, long_tells, there_tells, kind_tells, role_tells, argument_tells, many_tells, value_tells}

-- the first of some rules that a place breaks
abbrev pub first_at : List (FlawPlace → Option Rule) → FlawPlace → Option Rule
first_at [] place = None
first_at (broken ∷ more) place = option_or (broken place) (first_at more place)

-- the rules tell flaws of rising numbers
abbrev pub Rising : ℕ → List (FlawPlace → Option Rule) → Type 0
Rising low [] = ⊤
Rising low (broken ∷ more) = (number : ℕ) × (low ≤ number) × Tells number broken × Rising (number + 1) more

none_some : {X : Type 0} {x : X} → None ≡ Some x → ⊥
none_some e = cc

same_some : {X : Type 0} {a b : X} → Some a ≡ Some b → a ≡ b
same_some e = cc

-- what is told is no lower than a number
record Above (low : ℕ) (o : Option Flaw) : Type 0 where
  above : (flaw : Flaw) → o ≡ Some flaw → low ≤ number_of flaw.rule

nothing_above : (low : ℕ) → Above low None
nothing_above low = record { above = λ flaw e. absurd (none_some e) }

one_above : (low : ℕ) (flaw : Flaw) → low ≤ number_of flaw.rule → Above low (Some flaw)
one_above low flaw h = record { above = λ g e. let same = ap (λ (f : Flaw). number_of f.rule) (same_some e) in omega arith }

rules_above : (low : ℕ) (tests : List (FlawPlace → Option Rule)) (place : FlawPlace) (rule : Rule) → Rising low tests → first_at tests place ≡ Some rule → low ≤ number_of rule
rules_above low [] place rule rising e = absurd (none_some e)
rules_above low (broken ∷ more) place rule rising e = split (broken place) refl (λ f. rules_above (rising.0 + 1) more place rule rising.3 f) e
  where
    split : (o : Option Rule) → broken place ≡ o → (first_at more place ≡ Some rule → rising.0 + 1 ≤ number_of rule) → option_or o (first_at more place) ≡ Some rule → low ≤ number_of rule
    split None is others f = let later = others f in let below = rising.1 in omega arith
    split (Some r) is others f = let own = (rising.2 place).gives r is in let same = ap number_of (same_some f) in let below = rising.1 in omega arith

lower_above : (low : ℕ) (a b : Option Flaw) → Above low a → Above low b → Above low (lower_flaw a b)
lower_above low None b ha hb = hb
lower_above low (Some a) None ha hb = ha
lower_above low (Some a) (Some b) ha hb = choose _
  where
    choose : (c : Bool) → Above low (if c then Some a else Some b)
    choose true = ha
    choose false = hb

flaw_above : (low : ℕ) (place : FlawPlace) (o : Option Rule) → ((rule : Rule) → o ≡ Some rule → low ≤ number_of rule) → Above low (flaw_at place o)
flaw_above low place None h = nothing_above low
flaw_above low place (Some rule) h = one_above low (record { rule = rule; at = place }) (h rule refl)

lowest_above : (low : ℕ) (tests : List (FlawPlace → Option Rule)) (ps : List FlawPlace) → Rising low tests → Above low (lowest_at (first_at tests) ps)
lowest_above low tests [] rising = nothing_above low
lowest_above low tests (p ∷ ps) rising =
    lower_above low (flaw_at p (first_at tests p)) (lowest_at (first_at tests) ps) (flaw_above low p (first_at tests p) (λ rule e. rules_above low tests p rule rising e)) (lowest_above low tests ps rising)

-- the first place that breaks a rule has a flaw of its number
record Exactly (number : ℕ) (o : Option Flaw) : Type 0 where
  exactly : (flaw : Flaw) → o ≡ Some flaw → number_of flaw.rule ≡ number

place_exactly : (number : ℕ) (broken : FlawPlace → Option Rule) (ps : List FlawPlace) → Tells number broken → Exactly number (first_place broken ps)
place_exactly number broken [] tells = record { exactly = λ flaw e. absurd (none_some e) }
place_exactly number broken (p ∷ ps) tells = split (broken p) refl (place_exactly number broken ps tells)
  where
    split : (o : Option Rule) → broken p ≡ o → Exactly number (first_place broken ps) → Exactly number (option_or (flaw_at p o) (first_place broken ps))
    split None is later = later
    split (Some rule) is later = record { exactly = λ flaw e. sym (ap (λ (f : Flaw). number_of f.rule) (same_some e)) ∙ (tells p).gives rule is }

least_first : (flaw : Flaw) (o : Option Flaw) → Above (number_of flaw.rule) o → lower_flaw (Some flaw) o ≡ Some flaw
least_first flaw None h = refl
least_first flaw (Some other) h = lower-first flaw other (h.above other refl)

-- a flaw of a lower rule, whatever comes later or earlier of higher ones
takes : (x f l : Option Flaw) (number : ℕ) → Exactly number f → Above (number + 1) x → lower_flaw x (option_or f l) ≡ option_or f (lower_flaw x l)
takes x None l number exact above = refl
takes None (Some f) l number exact above = refl
takes (Some x) (Some f) l number exact above =
    let own = exact.exactly f refl in
    let high = above.above x refl in
    lower-second x f (omega arith)

or_above : (low number : ℕ) (f l : Option Flaw) → low ≤ number → Exactly number f → Above (number + 1) l → Above low (option_or f l)
or_above low number None l below exact above = record { above = λ flaw e. let high = above.above flaw e in omega arith }
or_above low number (Some f) l below exact above = one_above low f (let own = exact.exactly f refl in omega arith)

lowest_nowhere : (ps : List FlawPlace) → lowest_at (first_at []) ps ≡ None
lowest_nowhere [] = refl
lowest_nowhere (p ∷ ps) = lowest_nowhere ps

-- one rule more, before the others
first_more : (number : ℕ) (broken : FlawPlace → Option Rule) (more : List (FlawPlace → Option Rule)) (ps : List FlawPlace) → Tells number broken → Rising (number + 1) more
    → lowest_at (first_at (broken ∷ more)) ps ≡ option_or (first_place broken ps) (lowest_at (first_at more) ps)
first_more number broken more [] tells rising = refl
first_more number broken more (p ∷ ps) tells rising = split (broken p) refl (first_more number broken more ps tells rising)
  where
    split : (o : Option Rule) → broken p ≡ o → lowest_at (first_at (broken ∷ more)) ps ≡ option_or (first_place broken ps) (lowest_at (first_at more) ps)
        → lower_flaw (flaw_at p (option_or o (first_at more p))) (lowest_at (first_at (broken ∷ more)) ps)
        ≡ option_or (option_or (flaw_at p o) (first_place broken ps)) (lower_flaw (flaw_at p (first_at more p)) (lowest_at (first_at more) ps))
    split None is before =
        ap (lower_flaw (flaw_at p (first_at more p))) before
        ∙ takes (flaw_at p (first_at more p)) (first_place broken ps) (lowest_at (first_at more) ps) number (place_exactly number broken ps tells)
        (flaw_above (number + 1) p (first_at more p) (λ rule e. rules_above (number + 1) more p rule rising e))
    split (Some rule) is before =
        ap (lower_flaw (Some (record { rule = rule; at = p }))) before
        ∙ least_first (record { rule = rule; at = p }) (option_or (first_place broken ps) (lowest_at (first_at more) ps))
        (or_above (number_of rule) number (first_place broken ps) (lowest_at (first_at more) ps) (let own = (tells p).gives rule is in omega arith)
        (place_exactly number broken ps tells) (lowest_above (number + 1) more ps rising))

-- the flaw of the first of some rules of rising numbers is what one walk finds
pub one_walk : (low : ℕ) (tests : List (FlawPlace → Option Rule)) (ps : List FlawPlace) → Rising low tests → lowest_at (first_at tests) ps ≡ first_rule tests ps
one_walk low [] ps rising = lowest_nowhere ps
one_walk low (broken ∷ more) ps rising =
    first_more rising.0 broken more ps rising.2 rising.3 ∙ ap (option_or (first_place broken ps)) (one_walk (rising.0 + 1) more ps rising.3)

pub single_rising : (conf : Configuration) (characters : ℕ) (layer : Annotations) → Rising 0 (single_rules conf characters layer)
single_rising conf characters layer = (
  1,
  omega arith,
  type_tells conf layer,
  (
    2,
    omega arith,
    use_tells conf layer,
    (
      3,
      omega arith,
      fragments_tells layer,
      (
        4,
        omega arith,
        text_tells characters layer,
        (
          5,
          omega arith,
          long_tells layer,
          (
            6,
            omega arith,
            there_tells layer,
            (
              7,
              omega arith,
              kind_tells conf layer,
              (
                8,
                omega arith,
                role_tells conf layer,
                (9, omega arith, argument_tells conf layer, (10, omega arith, many_tells conf layer, (12, omega arith, value_tells conf layer, tt))),
              ),
            ),
          ),
        ),
      ),
    ),
  ),
)

-- the rules on one annotation or class, in turn, where it is there
marks_in_turn : (conf : Configuration) (characters : ℕ) (layer : Annotations) (o : Option Mark) → option_and_then (mark_rule conf characters layer) o
    ≡ option_or (option_and_then (unknown_type conf) o) (option_or (option_and_then (not_for_use conf) o) (option_or (option_and_then bad_fragments o) (option_or (option_and_then (out_of_text characters) o)
    (option_or (option_and_then span_too_long o) (option_or (option_and_then (λ mark. first_missing layer (named_by mark)) o) (option_or (option_and_then (λ mark. first_unwanted (wanted_by conf layer mark)) o)
    (option_or (option_and_then (unknown_role conf) o) (option_or (option_and_then (argument_type conf layer) o) (option_or (option_and_then (too_many conf) o) (option_or (option_and_then (unknown_value conf) o) None))))))))))
marks_in_turn conf characters layer None = refl
marks_in_turn conf characters layer (Some mark) = refl

nowhere : (i : ℕ) (o : Option Class) → option_and_then (no_class i) o ≡ None
nowhere i None = refl
nowhere i (Some class) = refl

classes_in_turn : (conf : Configuration) (layer : Annotations) (o : Option Class) → option_and_then (class_rule conf layer) o
    ≡ option_or (option_and_then (unknown_class conf) o) (option_or (option_and_then (class_not_for_use conf) o) (option_or (option_and_then (λ class. first_missing layer class.members) o)
    (option_or (option_and_then (λ class. first_unwanted (map (member conf layer) class.members)) o) None)))
classes_in_turn conf layer None = refl
classes_in_turn conf layer (Some class) = refl

single_at : (conf : Configuration) (characters : ℕ) (layer : Annotations) (place : FlawPlace) → at_single conf characters layer place ≡ first_at (single_rules conf characters layer) place
single_at conf characters layer (at.Mark id) = marks_in_turn conf characters layer (mark_at layer id)
single_at conf characters layer (at.Class i) = classes_in_turn conf layer (slice_get layer.classes i) ∙ with_none (slice_get layer.classes i)
  where
    with_none : (o : Option Class)
        → option_or (option_and_then (unknown_class conf) o) (option_or (option_and_then (class_not_for_use conf) o) (option_or (option_and_then (λ class. first_missing layer class.members) o)
        (option_or (option_and_then (λ class. first_unwanted (map (member conf layer) class.members)) o) None)))
        ≡ option_or (option_and_then (unknown_class conf) o) (option_or (option_and_then (class_not_for_use conf) o) (option_or (option_and_then (no_class i) o) (option_or (option_and_then (no_class i) o)
        (option_or (option_and_then (no_class i) o) (option_or (option_and_then (λ class. first_missing layer class.members) o) (option_or (option_and_then (λ class. first_unwanted (map (member conf layer) class.members)) o)
        (option_or (option_and_then (no_class i) o) (option_or (option_and_then (no_class i) o) (option_or (option_and_then (no_class i) o) (option_or (option_and_then (no_class i) o) None))))))))))
    with_none None = refl
    with_none (Some class) = refl

same_walk : (told other : FlawPlace → Option Rule) → ((place : FlawPlace) → told place ≡ other place) → (ps : List FlawPlace) → lowest_at told ps ≡ lowest_at other ps
same_walk told other same [] = refl
same_walk told other same (p ∷ ps) = ap (λ o. lower_flaw (flaw_at p o) (lowest_at told ps)) (same p) ∙ ap (lower_flaw (flaw_at p (other p))) (same_walk told other same ps)

-- one walk finds the flaw of the first of the rules on one annotation or class
pub single_walk : (conf : Configuration) (characters : ℕ) (layer : Annotations) → lowest_at (at_single conf characters layer) (places layer) ≡ first_rule (single_rules conf characters layer) (places layer)
single_walk conf characters layer =
    same_walk (at_single conf characters layer) (first_at (single_rules conf characters layer)) (single_at conf characters layer) (places layer)
    ∙ one_walk 0 (single_rules conf characters layer) (places layer) (single_rising conf characters layer)

-- ---- the walk letter by letter

-- what stands at the entries of a letter
at_letter : {V : Type 0} (conf : Configuration) (characters : ℕ) (layer : Annotations) (kind : Kind) (wrap : V → Mark) (m : finite.FinMap nat_cmp V)
    → ((n : ℕ) → mark_of layer kind n ≡ option_map wrap (finite.get m n)) → NumbersFit m → numbers layer kind ≡ finite.keys m
    → lowest_at (at_single conf characters layer) (places_of layer kind) ≡ lowest_of kind (λ v. mark_rule conf characters layer (wrap v)) (finite.entries m)
at_letter conf characters layer kind wrap m same fits keys =
    ap (λ ns. lowest_at (at_single conf characters layer) (map at.Mark (map (id_at kind) ns))) keys
    ∙ lowest_keys (at_single conf characters layer) kind (λ v. mark_rule conf characters layer (wrap v)) (finite.entries m)
    (at_entries (λ id. mark_rule conf characters layer) (λ i. class_rule conf layer) layer kind wrap m same fits)

pub by_places : (told : FlawPlace → Option Rule) (layer : Annotations) (s e r a m n t c : Option Flaw)
    → s ≡ lowest_at told (places_of layer letter.Text) → e ≡ lowest_at told (places_of layer letter.Event) → r ≡ lowest_at told (places_of layer letter.Relation)
    → a ≡ lowest_at told (places_of layer letter.Attribute) → m ≡ lowest_at told (places_of layer letter.Legacy) → n ≡ lowest_at told (places_of layer letter.Normal)
    → t ≡ lowest_at told (places_of layer letter.Note) → c ≡ lowest_at told (class_places layer)
    → lower_flaw s (lower_flaw e (lower_flaw r (lower_flaw a (lower_flaw m (lower_flaw n (lower_flaw t c)))))) ≡ lowest_at told (places layer)
by_places told layer s e r a m n t c ss es rs as_ ms ns ts cs =
    sym (ap (lowest_at told) (by_letters layer)
    ∙ more letter.Text s ss _ _ (more letter.Event e es _ _ (more letter.Relation r rs _ _ (more letter.Attribute a as_ _ _ (more letter.Legacy m ms _ _ (more letter.Normal n ns _ _ (more letter.Note t ts _ _ (sym cs))))))))
  where
    more : (kind : Kind) (one : Option Flaw) → one ≡ lowest_at told (places_of layer kind) → (rest : Option Flaw) (ps : List FlawPlace) → lowest_at told ps ≡ rest
        → lowest_at told (places_of layer kind ++ ps) ≡ lower_flaw one rest
    more kind one is rest ps later = lowest-append told (places_of layer kind) ps ∙ ap (λ o. lower_flaw o (lowest_at told ps)) (sym is) ∙ ap (lower_flaw one) later

pub single_is : (conf : Configuration) (characters : ℕ) (layer : Annotations) → IsLayer layer → (s e r a m n t c : Option Flaw)
    → s ≡ lowest_of letter.Text (λ v. mark_rule conf characters layer (marked.Span v)) (finite.entries layer.spans)
    → e ≡ lowest_of letter.Event (λ v. mark_rule conf characters layer (marked.Event v)) (finite.entries layer.events)
    → r ≡ lowest_of letter.Relation (λ v. mark_rule conf characters layer (marked.Relation v)) (finite.entries layer.relations)
    → a ≡ lowest_of letter.Attribute (λ v. mark_rule conf characters layer (marked.Attribute v)) (finite.entries layer.attributes)
    → m ≡ lowest_of letter.Legacy (λ v. mark_rule conf characters layer (marked.Attribute v)) (finite.entries layer.legacy)
    → n ≡ lowest_of letter.Normal (λ v. mark_rule conf characters layer (marked.Normal v)) (finite.entries layer.normals)
    → t ≡ lowest_of letter.Note (λ v. mark_rule conf characters layer (marked.Note v)) (finite.entries layer.notes)
    → c ≡ lowest_from 0 (class_rule conf layer) layer.classes
    → lower_flaw s (lower_flaw e (lower_flaw r (lower_flaw a (lower_flaw m (lower_flaw n (lower_flaw t c)))))) ≡ first_rule (single_rules conf characters layer) (places layer)
single_is conf characters layer kept s e r a m n t c ss es rs as_ ms ns ts cs =
    by_places (at_single conf characters layer) layer s e r a m n t c
    (ss ∙ sym (at_letter conf characters layer letter.Text marked.Span layer.spans (λ k. refl) kept.spans refl))
    (es ∙ sym (at_letter conf characters layer letter.Event marked.Event layer.events (λ k. refl) kept.events refl))
    (rs ∙ sym (at_letter conf characters layer letter.Relation marked.Relation layer.relations (λ k. refl) kept.relations refl))
    (as_ ∙ sym (at_letter conf characters layer letter.Attribute marked.Attribute layer.attributes (λ k. refl) kept.attributes refl))
    (ms ∙ sym (at_letter conf characters layer letter.Legacy marked.Attribute layer.legacy (λ k. refl) kept.legacy refl))
    (ns ∙ sym (at_letter conf characters layer letter.Normal marked.Normal layer.normals (λ k. refl) kept.normals refl))
    (ts ∙ sym (at_letter conf characters layer letter.Note marked.Note layer.notes (λ k. refl) kept.notes refl))
    (cs ∙ sym (lowest_classes (at_single conf characters layer) (class_rule conf layer) 0 layer.classes (λ k j j_is. ap (λ i. option_and_then (class_rule conf layer) (slice_get layer.classes i)) (let same : j ≡ k = omega arith in same))))
    ∙ single_walk conf characters layer
