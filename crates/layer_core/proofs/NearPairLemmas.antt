-- The rules on pairs, where one annotation was changed: they can be broken only by a pair with it.
use Rattle.std.proofs.Common.{◌≡◌, ℕ, ◌<◌, ◌==◌, inl, inr, Bool, true, false, not, ◌&&◌, ◌||◌, List, [], ◌∷◌, ◌++◌, length, nat_lt, slice_get, refl, sym, ◌∙◌, ap, subst, Option, Some, None, eq-eqb, arith}
use Rattle.std.proofs.lemmas.Bool.{cases_order, eqb-true, le-ltb, lt-ltb, ne_eqb}
use Rattle.std.proofs.lemmas.List.Folds.{list_all-append}
use Rattle.std.specs.Option.{option_or, option_map, option_map_or, option_and_then}
use Rattle.std.specs.List.{count_by, find, list_all, list_any}
use Rattle.mark_base.specs.declared.ann_id.AnnId.{AnnId}
use Rattle.mark_base.specs.declared.arguments.Arg.{Arg}
use Rattle.mark_base.specs.declared.fragments.Frag.{Frag}
use Rattle.mark_base.specs.declared.overlap.OvlKind.{OvlKind}
use Rattle.mark_base.specs.declared.overlap.OvlKind.TheVariants.{Apart, Equal as Same, Contains, Inside, Cross}
use Rattle.mark_base.specs.declared.table_places.TypeId.{TypeId}
use Rattle.conf_model.specs.Configurations.{Configuration}
use Rattle.conf_model.specs.Lookups.{line_allows, overlap_allowed}
use Rattle.conf_model.specs.Lookups as admitted
use Rattle.overlap_rules.specs.Overlaps.{kind_of, turned}
use Rattle.overlap_rules.proofs.Laws.{kind_of-turned}
use Rattle.layer_model.specs.declared.span.Span.{Span}
use Rattle.layer_model.specs.declared.mark.Mark.{Mark}
use Rattle.layer_model.specs.declared.mark.Mark.TheVariants as marked
use Rattle.layer_model.specs.declared.class.Class.{Class}
use Rattle.layer_model.specs.declared.rule.Rule.{Rule}
use Rattle.layer_model.specs.declared.flaw.Flaw.{Flaw}
use Rattle.layer_model.specs.declared.flaw.FlawPlace.{FlawPlace}
use Rattle.layer_model.specs.declared.flaw.FlawPlace.TheVariants as at
use Rattle.layer_model.specs.Annotations.{Annotations}
use Rattle.layer_model.specs.Classes.{rank}
use Rattle.layer_model.specs.Layers.{mark_at}
use Rattle.layer_model.specs.LayerIds.{ids_of}
use Rattle.layer_model.specs.Span.{same_fragments}
use Rattle.layer_rules.specs.FlawPlaces.{by_place, first_place, places}
use Rattle.layer_rules.specs.LayerRules.{is_arg, is_id, lower_pair, refused_overlap, same_attributes, same_bag, same_events, same_relations, same_spans}
use Rattle.layer_rules.specs.WellFormed.{Never, no_class}
use Rattle.layer_rules.specs.LowestFlaw.{flaw_at}
use Rattle.layer_rules.proofs.LawLemmas.{never}
use Rattle.layer_core.specs.Commands.{other_than}
use Rattle.layer_core.specs.Near.{other_pair}
use Rattle.layer_core.proofs.NearIdLemmas.{find_holds, find_narrower, not_both, unfound}
use Rattle.layer_core.proofs.ElsewhereLemmas.{AlikeBut, one_id, unmapped}
use Rattle.layer_core.proofs.AlikeLemmas.{below_none, lower_none, pair_none}

none_some : {X : Type 0} {x : X} → None ≡ Some x → ⊥
none_some e = cc

same_some : {X : Type 0} {a b : X} → Some a ≡ Some b → a ≡ b
same_some e = cc

-- ---- the order of a pair does not matter

flip : (m n : ℕ) → (m == n) ≡ (n == m)
flip m n = split (m == n) refl
  where
    split : (b : Bool) → (m == n) ≡ b → (m == n) ≡ (n == m)
    split true is = is ∙ sym (eq-eqb n m (sym (eqb-true m n is)))
    split false apart = apart ∙ sym (ne_eqb n m (λ g. not_both (m == n) (eq-eqb m n (sym g)) apart))

and_turned : (p q : Bool) → (p && q) ≡ (q && p)
and_turned true true = refl
and_turned true false = refl
and_turned false true = refl
and_turned false false = refl

or_turned : (p q : Bool) → (p || q) ≡ (q || p)
or_turned true true = refl
or_turned true false = refl
or_turned false true = refl
or_turned false false = refl

frags_turned : (as_ bs : List Frag) → same_fragments as_ bs ≡ same_fragments bs as_
frags_turned [] [] = refl
frags_turned [] (b ∷ bs) = refl
frags_turned (a ∷ as_) [] = refl
frags_turned (a ∷ as_) (b ∷ bs) = λ i. flip a.start b.start i && flip a.end b.end i && frags_turned as_ bs i

bags_turned : (a b : List Arg) → same_bag a b ≡ same_bag b a
bags_turned a b =
    (λ i. list_all (λ arg. flip (count_by (is_arg arg) a) (count_by (is_arg arg) b) i) (a ++ b))
    ∙ list_all-append (λ arg. count_by (is_arg arg) b == count_by (is_arg arg) a) a b
    ∙ and_turned (list_all (λ arg. count_by (is_arg arg) b == count_by (is_arg arg) a) a) (list_all (λ arg. count_by (is_arg arg) b == count_by (is_arg arg) a) b)
    ∙ sym (list_all-append (λ arg. count_by (is_arg arg) b == count_by (is_arg arg) a) b a)

no_way : {A : Type 0} → false ≡ true → A
no_way e = absurd (let f : false ≡ true = e in cc)

-- two marks that make a pair make one in the other order
abbrev pub Either : (Mark → Mark → Bool) → Type 0
Either pairs = (a b : Mark) → pairs a b ≡ true → pairs b a ≡ true

pub either_span : Either same_spans
either_span (marked.Span a) (marked.Span b) e = sym (λ i. flip a.kind.n b.kind.n i && frags_turned a.frags b.frags i) ∙ e
either_span (marked.Span a) (marked.Event b) e = no_way e
either_span (marked.Span a) (marked.Relation b) e = no_way e
either_span (marked.Span a) (marked.Attribute b) e = no_way e
either_span (marked.Span a) (marked.Normal b) e = no_way e
either_span (marked.Span a) (marked.Note b) e = no_way e
either_span (marked.Event a) b e = no_way e
either_span (marked.Relation a) b e = no_way e
either_span (marked.Attribute a) b e = no_way e
either_span (marked.Normal a) b e = no_way e
either_span (marked.Note a) b e = no_way e

pub either_event : Either same_events
either_event (marked.Event a) (marked.Span b) e = no_way e
either_event (marked.Event a) (marked.Event b) e = sym (λ i. flip a.kind.n b.kind.n i && flip a.trigger b.trigger i && bags_turned a.args b.args i) ∙ e
either_event (marked.Event a) (marked.Relation b) e = no_way e
either_event (marked.Event a) (marked.Attribute b) e = no_way e
either_event (marked.Event a) (marked.Normal b) e = no_way e
either_event (marked.Event a) (marked.Note b) e = no_way e
either_event (marked.Span a) b e = no_way e
either_event (marked.Relation a) b e = no_way e
either_event (marked.Attribute a) b e = no_way e
either_event (marked.Normal a) b e = no_way e
either_event (marked.Note a) b e = no_way e

pub either_relation : Either same_relations
either_relation (marked.Relation a) (marked.Span b) e = no_way e
either_relation (marked.Relation a) (marked.Event b) e = no_way e
either_relation (marked.Relation a) (marked.Relation b) e = sym (λ i. flip a.kind.n b.kind.n i && flip (rank a.first) (rank b.first) i && flip (rank a.second) (rank b.second) i) ∙ e
either_relation (marked.Relation a) (marked.Attribute b) e = no_way e
either_relation (marked.Relation a) (marked.Normal b) e = no_way e
either_relation (marked.Relation a) (marked.Note b) e = no_way e
either_relation (marked.Span a) b e = no_way e
either_relation (marked.Event a) b e = no_way e
either_relation (marked.Attribute a) b e = no_way e
either_relation (marked.Normal a) b e = no_way e
either_relation (marked.Note a) b e = no_way e

pub either_attribute : Either same_attributes
either_attribute (marked.Attribute a) (marked.Span b) e = no_way e
either_attribute (marked.Attribute a) (marked.Event b) e = no_way e
either_attribute (marked.Attribute a) (marked.Relation b) e = no_way e
either_attribute (marked.Attribute a) (marked.Attribute b) e = sym (λ i. flip a.kind.n b.kind.n i && flip (rank a.target) (rank b.target) i) ∙ e
either_attribute (marked.Attribute a) (marked.Normal b) e = no_way e
either_attribute (marked.Attribute a) (marked.Note b) e = no_way e
either_attribute (marked.Span a) b e = no_way e
either_attribute (marked.Event a) b e = no_way e
either_attribute (marked.Relation a) b e = no_way e
either_attribute (marked.Normal a) b e = no_way e
either_attribute (marked.Note a) b e = no_way e

apart_turned : (kind : OvlKind) → admitted.is_apart (turned kind) ≡ admitted.is_apart kind
apart_turned Apart = refl
apart_turned Same = refl
apart_turned Contains = refl
apart_turned Inside = refl
apart_turned Cross = refl

turned_once : (kind : OvlKind) → turned kind ≡ admitted.turned kind
turned_once Apart = refl
turned_once Same = refl
turned_once Contains = refl
turned_once Inside = refl
turned_once Cross = refl

turned_twice : (kind : OvlKind) → admitted.turned (turned kind) ≡ kind
turned_twice Apart = refl
turned_twice Same = refl
turned_twice Contains = refl
turned_twice Inside = refl
turned_twice Cross = refl

allowed_turned : (conf : Configuration) (a b : TypeId) (kind : OvlKind) → overlap_allowed conf b a (turned kind) ≡ overlap_allowed conf a b kind
allowed_turned conf a b kind =
    (λ i. and_turned (nat_lt b.n (length conf.types)) (nat_lt a.n (length conf.types)) i
    && (apart_turned kind i || not (nat_lt 0 (length conf.overlaps))
    || list_any (λ line. line_allows conf.types b a (turned_once kind i) line || line_allows conf.types a b (turned_twice kind i) line) conf.overlaps))
    ∙ (λ i. (nat_lt a.n (length conf.types) && nat_lt b.n (length conf.types))
    && (admitted.is_apart kind || not (nat_lt 0 (length conf.overlaps))
    || list_any (λ line. or_turned (line_allows conf.types b a (admitted.turned kind) line) (line_allows conf.types a b kind line) i) conf.overlaps))

refused_turned : (conf : Configuration) (a b : Span) → refused_overlap conf (marked.Span a) (marked.Span b) ≡ refused_overlap conf (marked.Span b) (marked.Span a)
refused_turned conf a b =
    ap not (ap (overlap_allowed conf b.kind a.kind) (kind_of-turned a.frags b.frags) ∙ allowed_turned conf a.kind b.kind (kind_of a.frags b.frags))

pub either_overlap : (conf : Configuration) → Either (refused_overlap conf)
either_overlap conf (marked.Span a) (marked.Span b) e = sym (refused_turned conf a b) ∙ e
either_overlap conf (marked.Span a) (marked.Event b) e = no_way e
either_overlap conf (marked.Span a) (marked.Relation b) e = no_way e
either_overlap conf (marked.Span a) (marked.Attribute b) e = no_way e
either_overlap conf (marked.Span a) (marked.Normal b) e = no_way e
either_overlap conf (marked.Span a) (marked.Note b) e = no_way e
either_overlap conf (marked.Event a) b e = no_way e
either_overlap conf (marked.Relation a) b e = no_way e
either_overlap conf (marked.Attribute a) b e = no_way e
either_overlap conf (marked.Normal a) b e = no_way e
either_overlap conf (marked.Note a) b e = no_way e

-- ---- what the first place that breaks a rule tells

-- what is told at a place that breaks a rule is true of the rule of the first of them
pub told_first : (P : Rule → Type 0) (f : AnnId → Mark → Option Rule) (g : ℕ → Class → Option Rule) (layer : Annotations) (ps : List FlawPlace)
    → ((id : AnnId) (mark : Mark) (rule : Rule) → f id mark ≡ Some rule → P rule) → ((index : ℕ) (class : Class) (rule : Rule) → g index class ≡ Some rule → P rule)
    → (flaw : Flaw) → first_place (by_place f g layer) ps ≡ Some flaw → P flaw.rule
told_first P f g layer [] marks classes flaw e = absurd (none_some e)
told_first P f g layer (p ∷ ps) marks classes flaw e = split (by_place f g layer p) refl (told_first P f g layer ps marks classes flaw) e
  where
    at_mark : (id : AnnId) (rule : Rule) (o : Option Mark) → option_and_then (f id) o ≡ Some rule → P rule
    at_mark id rule None is = absurd (none_some is)
    at_mark id rule (Some mark) is = marks id mark rule is

    at_class : (index : ℕ) (rule : Rule) (o : Option Class) → option_and_then (g index) o ≡ Some rule → P rule
    at_class index rule None is = absurd (none_some is)
    at_class index rule (Some class) is = classes index class rule is

    here : (place : FlawPlace) (rule : Rule) → by_place f g layer place ≡ Some rule → P rule
    here (at.Mark id) rule is = at_mark id rule (mark_at layer id) is
    here (at.Class index) rule is = at_class index rule (slice_get layer.classes index) is

    split : (o : Option Rule) → by_place f g layer p ≡ o → (first_place (by_place f g layer) ps ≡ Some flaw → P flaw.rule)
        → option_or (flaw_at p o) (first_place (by_place f g layer) ps) ≡ Some flaw → P flaw.rule
    split None is later h = later h
    split (Some rule) is later h = subst (λ (found : Flaw). P found.rule) (same_some h) (here p rule is)

pub no_class_tells : (P : Rule → Type 0) (index : ℕ) (class : Class) (rule : Rule) → no_class index class ≡ Some rule → P rule
no_class_tells P index class rule e = absurd (none_some e)

pub nothing_told : (told : FlawPlace → Option Rule) (ps : List FlawPlace) → ((p : FlawPlace) → told p ≡ None) → first_place told ps ≡ None
nothing_told told [] h = refl
nothing_told told (p ∷ ps) h = ap (λ o. option_or (flaw_at p o) (first_place told ps)) (h p) ∙ nothing_told told ps h

pub no_class_at : (f : AnnId → Mark → Option Rule) (layer : Annotations) (index : ℕ) → by_place f no_class layer (at.Class index) ≡ None
no_class_at f layer index = split (slice_get layer.classes index)
  where
    split : (o : Option Class) → option_and_then (no_class index) o ≡ None
    split None = refl
    split (Some class) = refl

-- ---- a rule on pairs

with_false : (a : Bool) → (a && false) ≡ false
with_false true = refl
with_false false = refl

-- the annotation makes no pair, so it is refused nowhere
quiet_itself : (pairs : Mark → Mark → Bool) (layer : Annotations) (id : AnnId) (mark : Mark) → find (other_than pairs layer id mark) (ids_of layer) ≡ None → lower_pair pairs layer id mark ≡ None
quiet_itself pairs layer id mark none =
    find_narrower (other_than pairs layer id mark) (λ other. nat_lt (rank other) (rank id) && option_map_or (pairs mark) (mark_at layer other) false) (ids_of layer) (λ other. narrow other (is_id id other) refl) none
  where
    narrow : (other : AnnId) (b : Bool) → is_id id other ≡ b → (not (is_id id other) && option_map_or (pairs mark) (mark_at layer other) false) ≡ false
        → (nat_lt (rank other) (rank id) && option_map_or (pairs mark) (mark_at layer other) false) ≡ false
    narrow other true is e =
        let same : rank id ≡ rank other = ap rank (one_id id other is) in
        ap (λ b. b && option_map_or (pairs mark) (mark_at layer other) false) (le-ltb (rank other) (rank id) (omega (arith, same)))
    narrow other false is e =
        ap (λ v. nat_lt (rank other) (rank id) && v) (sym (ap (λ b. not b && option_map_or (pairs mark) (mark_at layer other) false) is) ∙ e) ∙ with_false (nat_lt (rank other) (rank id))

-- another annotation makes no pair with it
quiet_other : (pairs : Mark → Mark → Bool) → Either pairs → (layer : Annotations) (id other : AnnId) (mark : Mark) → is_id id other ≡ false → mark_at layer other ≡ Some mark → other_pair pairs layer id ≡ None
    → option_map_or (pairs mark) (mark_at layer id) false ≡ false
quiet_other pairs either layer id other mark apart is none = split (mark_at layer id) refl
  where
    untrue_back : (changed : Mark) (b : Bool) → pairs mark changed ≡ b → pairs changed mark ≡ false → b ≡ false
    untrue_back changed false e no_ = refl
    untrue_back changed true e no_ = not_both (pairs changed mark) (either mark changed e) no_

    split : (o : Option Mark) → mark_at layer id ≡ o → option_map_or (pairs mark) o false ≡ false
    split None at_id = refl
    split (Some changed) at_id =
        let nowhere : find (other_than pairs layer id changed) (ids_of layer) ≡ None = sym (ap (option_and_then (λ m. find (other_than pairs layer id m) (ids_of layer))) at_id) ∙ none in
        let untrue : other_than pairs layer id changed other ≡ false = unfound (other_than pairs layer id changed) layer other mark nowhere is in
        untrue_back changed (pairs mark changed) refl
        (sym (ap (λ b. not b && option_map_or (pairs changed) (mark_at layer other) false) apart ∙ ap (λ o. option_map_or (pairs changed) o false) is) ∙ untrue)

-- no place breaks the rule where the annotation makes no pair
quiet : (pairs : Mark → Mark → Bool) → Either pairs → (rule : AnnId → Rule) (a b : Annotations) (id : AnnId) → AlikeBut a b id → Never (by_place (λ i m. option_map rule (lower_pair pairs b i m)) no_class b)
    → other_pair pairs a id ≡ None → (p : FlawPlace) → by_place (λ i m. option_map rule (lower_pair pairs a i m)) no_class a p ≡ None
quiet pairs either rule a b id but kept none (at.Class index) = no_class_at (λ i m. option_map rule (lower_pair pairs a i m)) a index
quiet pairs either rule a b id but kept none (at.Mark other) = split (is_id id other) refl
  where
    own : (o : Option Mark) → mark_at a id ≡ o → option_and_then (λ m. option_map rule (lower_pair pairs a id m)) o ≡ None
    own None is = refl
    own (Some mark) is =
        ap (option_map rule) (quiet_itself pairs a id mark (sym (ap (option_and_then (λ m. find (other_than pairs a id m) (ids_of a))) is) ∙ none))

    others : is_id id other ≡ false → (o : Option Mark) → mark_at a other ≡ o → option_and_then (λ m. option_map rule (lower_pair pairs a other m)) o ≡ None
    others apart None is = refl
    others apart (Some mark) is =
        let before : mark_at b other ≡ Some mark = sym (but.marks other apart) ∙ is in
        let unpaired : lower_pair pairs b other mark ≡ None =
        unmapped rule (lower_pair pairs b other mark) (sym (ap (option_and_then (λ m. option_map rule (lower_pair pairs b other m))) before) ∙ kept (at.Mark other)) in
        ap (option_map rule) (pair_none pairs a b id other mark but.marks (quiet_other pairs either a id other mark apart is none) unpaired)

    split : (so : Bool) → is_id id other ≡ so → by_place (λ i m. option_map rule (lower_pair pairs a i m)) no_class a (at.Mark other) ≡ None
    split true is = subst (λ (i : AnnId). by_place (λ i_ m. option_map rule (lower_pair pairs a i_ m)) no_class a (at.Mark i) ≡ None) (one_id id other is) (own (mark_at a id) refl)
    split false apart = others apart (mark_at a other) refl

-- the test of one annotation below another
below_both : (pairs : Mark → Mark → Bool) (layer : Annotations) (low high : AnnId) (mark : Mark) → rank low < rank high → lower_pair pairs layer high mark ≡ None
    → option_map_or (pairs mark) (mark_at layer low) false ≡ true → ⊥
below_both pairs layer low high mark less none so =
    not_both (nat_lt (rank low) (rank high) && option_map_or (pairs mark) (mark_at layer low) false)
    (ap (λ b. b && option_map_or (pairs mark) (mark_at layer low) false) (lt-ltb (rank low) (rank high) less) ∙ so)
    (below_none (pairs mark) high low (mark_at layer low) (lower_none pairs layer high mark none low))

-- where it makes a pair, some place breaks the rule
loud : (pairs : Mark → Mark → Bool) → Either pairs → (rule : AnnId → Rule) (a : Annotations) (id x : AnnId) → other_pair pairs a id ≡ Some x
    → Never (by_place (λ i m. option_map rule (lower_pair pairs a i m)) no_class a) → ⊥
loud pairs either rule a id x found never_ = at_id (mark_at a id) refl found
  where
    unbroken : (i : AnnId) (mark : Mark) → mark_at a i ≡ Some mark → lower_pair pairs a i mark ≡ None
    unbroken i mark is = unmapped rule (lower_pair pairs a i mark) (sym (ap (option_and_then (λ m. option_map rule (lower_pair pairs a i m))) is) ∙ never_ (at.Mark i))

    both : (p q : Bool) → (not p && q) ≡ true → (p ≡ false) × (q ≡ true)
    both true q e = absurd (let f : false ≡ true = e in cc)
    both false q e = (refl, e)

    order : (mark other : Mark) → mark_at a id ≡ Some mark → mark_at a x ≡ Some other → is_id id x ≡ false → pairs mark other ≡ true → ⊥
    order mark other at_ at_x apart so =
        elim (cases_order (rank id) (rank x)) [
          | inl same ↦ not_both (is_id id x) (eq-eqb (rank id) (rank x) same) apart
          | inr differ ↦
              elim differ [
                | inl less ↦ below_both pairs a id x other less (unbroken x other at_x) (ap (λ o. option_map_or (pairs other) o false) at_ ∙ either mark other so)
                | inr more ↦ below_both pairs a x id mark more (unbroken id mark at_) (ap (λ o. option_map_or (pairs mark) o false) at_x ∙ so)
              ]
        ]

    at_other : (mark : Mark) → mark_at a id ≡ Some mark → is_id id x ≡ false → (o : Option Mark) → mark_at a x ≡ o → option_map_or (pairs mark) o false ≡ true → ⊥
    at_other mark at_ apart None is so = absurd (let f : false ≡ true = so in cc)
    at_other mark at_ apart (Some other) is so = order mark other at_ is apart so

    at_id : (o : Option Mark) → mark_at a id ≡ o → option_and_then (λ mark. find (other_than pairs a id mark) (ids_of a)) o ≡ Some x → ⊥
    at_id None is e = none_some e
    at_id (Some mark) is e =
        let holds = both (is_id id x) (option_map_or (pairs mark) (mark_at a x) false) (find_holds (other_than pairs a id mark) (ids_of a) x e) in
        at_other mark is holds.0 (mark_at a x) refl holds.1

-- a rule on pairs tells the lowest annotation that makes a pair with the changed one
pub pair_part : (pairs : Mark → Mark → Bool) → Either pairs → (rule : AnnId → Rule) (tell : Rule → Rule) (a b : Annotations) (id : AnnId) → AlikeBut a b id
    → Never (by_place (λ i m. option_map rule (lower_pair pairs b i m)) no_class b) → ((told : AnnId) → tell (rule told) ≡ rule (option_map_or (λ other. other) (other_pair pairs a id) told))
    → option_map (λ flaw. tell flaw.rule) (first_place (by_place (λ i m. option_map rule (lower_pair pairs a i m)) no_class a) (places a)) ≡ option_map rule (other_pair pairs a id)
pair_part pairs either rule tell a b id but kept tells = split (other_pair pairs a id) refl
  where
    mapped : (o : Option AnnId) (found : Rule) (x : AnnId) → other_pair pairs a id ≡ Some x → option_map rule o ≡ Some found → tell found ≡ rule x
    mapped None found x is e = absurd (none_some e)
    mapped (Some y) found x is e = ap tell (sym (same_some e)) ∙ tells y ∙ ap (λ o. rule (option_map_or (λ other. other) o y)) is

    some_ : (x : AnnId) → other_pair pairs a id ≡ Some x → (o : Option Flaw) → first_place (by_place (λ i m. option_map rule (lower_pair pairs a i m)) no_class a) (places a) ≡ o
        → option_map (λ flaw. tell flaw.rule) o ≡ Some (rule x)
    some_ x is None e = absurd (loud pairs either rule a id x is (never (λ i m. option_map rule (lower_pair pairs a i m)) no_class a e))
    some_ x is (Some flaw) e =
        ap (λ r. Some r)
        (told_first (λ found. tell found ≡ rule x) (λ i m. option_map rule (lower_pair pairs a i m)) no_class a (places a) (λ i m found h. mapped (lower_pair pairs a i m) found x is h)
        (no_class_tells (λ found. tell found ≡ rule x)) flaw e)

    split : (o : Option AnnId) → other_pair pairs a id ≡ o
        → option_map (λ flaw. tell flaw.rule) (first_place (by_place (λ i m. option_map rule (lower_pair pairs a i m)) no_class a) (places a)) ≡ option_map rule o
    split None is =
        ap (option_map (λ flaw. tell flaw.rule))
        (nothing_told (by_place (λ i m. option_map rule (lower_pair pairs a i m)) no_class a) (places a) (quiet pairs either rule a b id but kept is))
    split (Some x) is = some_ x is (first_place (by_place (λ i m. option_map rule (lower_pair pairs a i m)) no_class a) (places a)) refl
