-- A well-formed layer is coherent: what its annotations name is there and of a letter that fits, no chain of events is too deep, and no two are alike.
use Rattle.std.proofs.Common.{◌≡◌, ℕ, ◌<◌, ◌≤◌, min, zero, suc, Bool, true, false, not, ◌&&◌, ◌||◌, ◌==◌, nat_lt, cond, eq-eqb, ne_eqb, List, [], ◌∷◌, ◌++◌, map, length, slice_get, refl, sym, ◌∙◌, ap, subst, Option, Some, None, arith}
use Rattle.std.proofs.lemmas.Bool.{eqb-true, lt-ltb}
use Rattle.std.specs.Option.{option_or, option_map, option_map_or, option_and_then, is_some}
use Rattle.std.specs.List.{AllByRecursion, count_by, find, list_all, list_any, range_with_len}
use Rattle.std.specs.Ordering.{nat_cmp}
use Rattle.std.specs.Cmp.{ranked}
use Rattle.std.specs.declared.cmp.Ordering.TheVariants.{Less, Equal, Greater}
use Rattle.std.specs.FinMap as finite
use Rattle.mark_base.specs.declared.ann_id.AnnId.{AnnId}
use Rattle.mark_base.specs.declared.ann_id.Kind.{Kind}
use Rattle.mark_base.specs.declared.ann_id.Kind.TheVariants as letter
use Rattle.mark_base.specs.declared.table_places.TypeId.{TypeId}
use Rattle.mark_base.specs.declared.arguments.Arg.{Arg}
use Rattle.mark_base.specs.declared.fragments.Frag.{Frag}
use Rattle.conf_model.specs.Configurations.{Configuration}
use Rattle.layer_model.specs.declared.span.Span.{Span}
use Rattle.layer_model.specs.declared.event.Event.{Event}
use Rattle.layer_model.specs.declared.relation.Relation.{Relation}
use Rattle.layer_model.specs.declared.attribute.Attribute.{Attribute}
use Rattle.layer_model.specs.declared.mark.Mark.{Mark}
use Rattle.layer_model.specs.declared.mark.Mark.TheVariants as marked
use Rattle.layer_model.specs.declared.class.Class.{Class}
use Rattle.layer_model.specs.declared.rule.Rule.{Rule}
use Rattle.layer_model.specs.declared.rule.Rule.TheVariants.{NoSuch, WrongKind, TooDeep, SameSpan, SameEvent, SameRelation, AttributeThere}
use Rattle.layer_model.specs.declared.flaw.FlawPlace.{FlawPlace}
use Rattle.layer_model.specs.declared.flaw.FlawPlace.TheVariants as at
use Rattle.layer_model.specs.Annotations.{Annotations}
use Rattle.layer_model.specs.Classes.{rank}
use Rattle.layer_model.specs.Layers.{IsLayer, has, mark_at, mark_of}
use Rattle.layer_model.specs.Span.{same_fragments}
use Rattle.layer_model.specs.Coherent as whole
use Rattle.layer_model.specs.Coherent.{begins_chain as chain_of}
use Rattle.mark_base.specs.ReadIds.{id_at}
use Rattle.layer_model.specs.LayerIds.{ids_of}
use Rattle.layer_rules.specs.FlawPlaces.{by_place, first_place}
use Rattle.layer_rules.specs.Targets.{is_argument, is_attribute_target, is_member, is_normal_target, is_note_target}
use Rattle.layer_rules.specs.MarkRules.{where_so, named_by, first_missing, Wanted, argument, member, first_unwanted, wanted_by}
use Rattle.layer_rules.specs.LayerRules.{begins_longer_chain, is_arg, is_event_id, letter_is_event, lower_pair, same_attributes, same_bag, same_events, same_relations, same_spans, attribute_there, too_deep}
use Rattle.layer_rules.specs.WellFormed.{IsWellFormed, Never}
use Rattle.mark_base.proofs.IdLemmas.{id_at-id}
use Rattle.layer_rules.proofs.LawLemmas.{never}

no_some : {X : Type 0} {x : X} → None ≡ Some x → ⊥
no_some e = cc

not_both : {A : Type 0} (b : Bool) → b ≡ true → b ≡ false → A
not_both b so no_ = absurd (let e : true ≡ false = sym so ∙ no_ in cc)

unmapped : {X Y : Type 0} (f : X → Y) (o : Option X) → option_map f o ≡ None → o ≡ None
unmapped f None e = refl
unmapped f (Some x) e = absurd (no_some (sym e))

not_so : (b : Bool) (rule : Rule) → where_so b rule ≡ None → b ≡ false
not_so true rule e = absurd (no_some (sym e))
not_so false rule e = refl

both : {a b : Bool} → a ≡ true → b ≡ true → (a && b) ≡ true
both {a} {b} so also = ap (λ v. v && b) so ∙ also

min_is : (n : ℕ) → n ≤ 999999999 → min n 999999999 ≡ n
min_is n h = omega arith

-- ---- a mark stands under the number of an ID

stands : {V : Type 0} (wrap : V → Mark) (o : Option V) (mark : Mark) → option_map wrap o ≡ Some mark → is_some o ≡ true
stands wrap None mark e = absurd (no_some e)
stands wrap (Some v) mark e = refl

fits : (layer : Annotations) → IsLayer layer → (kind : Kind) (n : ℕ) (mark : Mark) → mark_of layer kind n ≡ Some mark → n ≤ 999999999
fits layer is letter.Text n mark e = is.spans n (stands marked.Span (finite.get layer.spans n) mark e)
fits layer is letter.Event n mark e = is.events n (stands marked.Event (finite.get layer.events n) mark e)
fits layer is letter.Relation n mark e = is.relations n (stands marked.Relation (finite.get layer.relations n) mark e)
fits layer is letter.Attribute n mark e = is.attributes n (stands marked.Attribute (finite.get layer.attributes n) mark e)
fits layer is letter.Legacy n mark e = is.legacy n (stands marked.Attribute (finite.get layer.legacy n) mark e)
fits layer is letter.Normal n mark e = is.normals n (stands marked.Normal (finite.get layer.normals n) mark e)
fits layer is letter.Note n mark e = is.notes n (stands marked.Note (finite.get layer.notes n) mark e)

there : (layer : Annotations) → IsLayer layer → (kind : Kind) (n : ℕ) (mark : Mark) → mark_of layer kind n ≡ Some mark → mark_at layer (id_at kind n) ≡ Some mark
there layer is kind n mark e = ap (mark_of layer kind) (min_is n (fits layer is kind n mark e)) ∙ e

-- what no place breaks, no mark breaks
of_mark : (f : AnnId → Mark → Option Rule) (g : ℕ → Class → Option Rule) (layer : Annotations) → IsLayer layer → Never (by_place f g layer)
    → (kind : Kind) (n : ℕ) (mark : Mark) → mark_of layer kind n ≡ Some mark → f (id_at kind n) mark ≡ None
of_mark f g layer is nowhere kind n mark e = sym (ap (option_and_then (f (id_at kind n))) (there layer is kind n mark e)) ∙ nowhere (at.Mark (id_at kind n))

-- nor any class
of_class : (f : AnnId → Mark → Option Rule) (g : ℕ → Class → Option Rule) (layer : Annotations) → Never (by_place f g layer)
    → (i : ℕ) (class : Class) → slice_get layer.classes i ≡ Some class → g i class ≡ None
of_class f g layer nowhere i class e = sym (ap (option_and_then (g i)) e) ∙ nowhere (at.Class i)

each_class : (P : Class → Type 0) (classes : List Class) → ((i : ℕ) (class : Class) → slice_get classes i ≡ Some class → P class) → AllByRecursion P classes
each_class P [] h = tt
each_class P (class ∷ classes) h = (h zero class refl, each_class P classes (λ i c e. h (suc i) c e))

-- ---- named IDs are there

all_there : (layer : Annotations) (ids : List AnnId) → find (λ id. not (has layer id)) ids ≡ None → whole.AllStand layer ids
all_there layer [] e = tt
all_there layer (id ∷ ids) e =
    elim (has layer id) as (λ b. has layer id ≡ b → cond (not b) (Some id) (find (λ i. not (has layer i)) ids) ≡ None → whole.AllStand layer (id ∷ ids)) [
      | true ↦ λ so later. (so, all_there layer ids later)
      | false ↦ λ _ found. absurd (no_some (sym found))
    ] refl e

marks_stand : (layer : Annotations) (mark : Mark) → whole.AllStand layer (named_by mark) → whole.AllStand layer (whole.named mark)
marks_stand layer (marked.Span span) all = tt
marks_stand layer (marked.Event event) all = (subst (λ id. has layer id ≡ true) (id_at-id (whole.trigger_id event)) all.0, all.1)
marks_stand layer (marked.Relation relation) all = all
marks_stand layer (marked.Attribute attribute) all = all
marks_stand layer (marked.Normal normal) all = all
marks_stand layer (marked.Note note) all = all

names_stand : (conf : Configuration) (characters : ℕ) (layer : Annotations) → IsLayer layer → IsWellFormed conf characters layer → whole.NamesStand layer
names_stand conf characters layer is kept = record {
  marks = λ kind n mark e. marks_stand layer mark (all_there layer (named_by mark) (unmapped NoSuch (find (λ id. not (has layer id)) (named_by mark))
      (of_mark (λ _ m. first_missing layer (named_by m)) (λ _ class. first_missing layer class.members) layer is kept.there kind n mark e)));
  classes = each_class (λ class. whole.AllStand layer class.members) layer.classes (λ i class e. all_there layer class.members
      (unmapped NoSuch (find (λ id. not (has layer id)) class.members) (of_class (λ _ m. first_missing layer (named_by m)) (λ _ c. first_missing layer c.members) layer kept.there i class e)));
}

-- ---- named IDs are of a letter that fits

all_fit : (ws : List Wanted) → find (λ wanted. not wanted.fits) ws ≡ None → AllByRecursion (λ wanted. wanted.fits ≡ true) ws
all_fit [] e = tt
all_fit (w ∷ ws) e =
    elim (w.fits) as (λ b. w.fits ≡ b → cond (not b) (Some w) (find (λ wanted. not wanted.fits) ws) ≡ None → AllByRecursion (λ wanted. wanted.fits ≡ true) (w ∷ ws)) [
      | true ↦ λ so later. (so, all_fit ws later)
      | false ↦ λ _ found. absurd (no_some (sym found))
    ] refl e

no_way : {A : Type 0} → false ≡ true → A
no_way e = absurd (let f : false ≡ true = e in cc)

argument_letter : (conf : Configuration) (kind : Kind) (type_ : Option TypeId) → is_argument conf kind type_ ≡ true → whole.is_span_or_event_letter kind ≡ true
argument_letter conf letter.Text type_ e = refl
argument_letter conf letter.Event type_ e = refl
argument_letter conf letter.Relation type_ e = no_way e
argument_letter conf letter.Attribute type_ e = no_way e
argument_letter conf letter.Legacy type_ e = no_way e
argument_letter conf letter.Normal type_ e = no_way e
argument_letter conf letter.Note type_ e = no_way e

attributed_letter : (conf : Configuration) (kind : Kind) (type_ : Option TypeId) → is_attribute_target conf kind type_ ≡ true → whole.is_attributed_letter kind ≡ true
attributed_letter conf letter.Text type_ e = refl
attributed_letter conf letter.Event type_ e = refl
attributed_letter conf letter.Relation type_ e = refl
attributed_letter conf letter.Attribute type_ e = no_way e
attributed_letter conf letter.Legacy type_ e = no_way e
attributed_letter conf letter.Normal type_ e = no_way e
attributed_letter conf letter.Note type_ e = no_way e

member_letter : (conf : Configuration) (kind : Kind) (type_ : Option TypeId) → is_member conf kind type_ ≡ true → whole.is_span_letter kind ≡ true
member_letter conf letter.Text type_ e = refl
member_letter conf letter.Event type_ e = no_way e
member_letter conf letter.Relation type_ e = no_way e
member_letter conf letter.Attribute type_ e = no_way e
member_letter conf letter.Legacy type_ e = no_way e
member_letter conf letter.Normal type_ e = no_way e
member_letter conf letter.Note type_ e = no_way e

normal_letter : (kind : Kind) → is_normal_target kind ≡ true → whole.is_span_or_event_letter kind ≡ true
normal_letter letter.Text e = refl
normal_letter letter.Event e = refl
normal_letter letter.Relation e = no_way e
normal_letter letter.Attribute e = no_way e
normal_letter letter.Legacy e = no_way e
normal_letter letter.Normal e = no_way e
normal_letter letter.Note e = no_way e

noted_letter : (kind : Kind) → is_note_target kind ≡ true → whole.is_noted_letter kind ≡ true
noted_letter letter.Text e = refl
noted_letter letter.Event e = refl
noted_letter letter.Relation e = refl
noted_letter letter.Attribute e = refl
noted_letter letter.Legacy e = refl
noted_letter letter.Normal e = refl
noted_letter letter.Note e = no_way e

args_fit : (conf : Configuration) (layer : Annotations) (args : List Arg) → AllByRecursion (λ wanted. wanted.fits ≡ true) (map (λ arg. argument conf layer arg.target) args)
    → AllByRecursion (λ arg. whole.is_span_or_event_letter arg.target.kind ≡ true) args
args_fit conf layer [] all = tt
args_fit conf layer (arg ∷ args) all = (argument_letter conf arg.target.kind _ all.0, args_fit conf layer args all.1)

members_fit : (conf : Configuration) (layer : Annotations) (ids : List AnnId) → AllByRecursion (λ wanted. wanted.fits ≡ true) (map (member conf layer) ids)
    → AllByRecursion (λ id. whole.is_span_letter id.kind ≡ true) ids
members_fit conf layer [] all = tt
members_fit conf layer (id ∷ ids) all = (member_letter conf id.kind _ all.0, members_fit conf layer ids all.1)

mark_fits : (conf : Configuration) (layer : Annotations) (mark : Mark) → AllByRecursion (λ wanted. wanted.fits ≡ true) (wanted_by conf layer mark) → whole.LettersFitIn mark
mark_fits conf layer (marked.Span span) all = tt
mark_fits conf layer (marked.Event event) all = args_fit conf layer event.args all.1
mark_fits conf layer (marked.Relation relation) all = (argument_letter conf relation.first.kind _ all.0, argument_letter conf relation.second.kind _ all.1.0)
mark_fits conf layer (marked.Attribute attribute) all = attributed_letter conf attribute.target.kind _ all.0
mark_fits conf layer (marked.Normal normal) all = normal_letter normal.target.kind all.0
mark_fits conf layer (marked.Note note) all = noted_letter note.target.kind all.0

letters_fit : (conf : Configuration) (characters : ℕ) (layer : Annotations) → IsLayer layer → IsWellFormed conf characters layer → whole.LettersFit layer
letters_fit conf characters layer is kept = record {
  marks = λ kind n mark e. mark_fits conf layer mark (all_fit (wanted_by conf layer mark) (unmapped (λ w. WrongKind w.id) (find (λ w. not w.fits) (wanted_by conf layer mark))
      (of_mark (λ _ m. first_unwanted (wanted_by conf layer m)) (λ _ class. first_unwanted (map (member conf layer) class.members)) layer is kept.fitting kind n mark e)));
  classes = each_class (λ class. AllByRecursion (λ id. whole.is_span_letter id.kind ≡ true) class.members) layer.classes (λ i class e. members_fit conf layer class.members (all_fit (map (member conf layer) class.members)
      (unmapped (λ w. WrongKind w.id) (find (λ w. not w.fits) (map (member conf layer) class.members))
      (of_class (λ _ m. first_unwanted (wanted_by conf layer m)) (λ _ c. first_unwanted (map (member conf layer) c.members)) layer kept.fitting i class e))));
}

-- ---- no chain is too deep

leads_same : (p q : ℕ → Bool) → ((n : ℕ) → p n ≡ q n) → (args : List Arg)
    → list_any p (whole.events_among args) ≡ list_any (λ arg. is_event_id arg.target && q arg.target.number) args
leads_same p q same [] = refl
leads_same p q same (arg ∷ args) =
    elim (arg.target.kind) as (λ kind. list_any p (cond (whole.is_event_letter kind) (arg.target.number ∷ whole.events_among args) (whole.events_among args))
    ≡ ((letter_is_event kind && q arg.target.number) || list_any (λ a. is_event_id a.target && q a.target.number) args)) [
      | letter.Text ↦ leads_same p q same args
      | letter.Event ↦ ap (λ b. b || list_any p (whole.events_among args)) (same arg.target.number) ∙ ap (λ b. q arg.target.number || b) (leads_same p q same args)
      | letter.Relation ↦ leads_same p q same args
      | letter.Attribute ↦ leads_same p q same args
      | letter.Legacy ↦ leads_same p q same args
      | letter.Normal ↦ leads_same p q same args
      | letter.Note ↦ leads_same p q same args
    ]

-- a chain of one event more than so many is a chain of more than so many
one_more : (layer : Annotations) (events n : ℕ) → chain_of layer (suc events) n ≡ begins_longer_chain layer events n
unfolding chain_of begins_longer_chain
one_more layer zero n = refl
one_more layer (suc events) n =
    elim (finite.get layer.events n) as (λ o. list_any (chain_of layer (suc events)) (option_map_or (λ event. whole.events_among event.args) o [])
    ≡ option_map_or (λ event. list_any (λ arg. is_event_id arg.target && begins_longer_chain layer events arg.target.number) event.args) o false) [
      | None ↦ refl
      | Some event ↦ leads_same (chain_of layer (suc events)) (begins_longer_chain layer events) (one_more layer events) event.args
    ]

no_event : (layer : Annotations) (events n : ℕ) → finite.get layer.events n ≡ None → begins_longer_chain layer (suc events) n ≡ false
unfolding begins_longer_chain
no_event layer events n e = ap (λ o. option_map_or (λ event. list_any (λ arg. is_event_id arg.target && begins_longer_chain layer events arg.target.number) event.args) o false) e

chains_short : (conf : Configuration) (characters : ℕ) (layer : Annotations) → IsLayer layer → IsWellFormed conf characters layer → whole.ChainsAreShort layer
chains_short conf characters layer is kept n = one_more layer 16 n ∙ split (finite.get layer.events n) refl
  where
    split : (o : Option Event) → finite.get layer.events n ≡ o → begins_longer_chain layer 16 n ≡ false
    split None e = no_event layer 15 n e
    split (Some event) e =
        let mark : mark_of layer letter.Event n ≡ Some (marked.Event event) = ap (option_map marked.Event) e in
        let none : where_so (begins_longer_chain layer 16 (min n 999999999)) TooDeep ≡ None = of_mark (too_deep layer) (λ _ _. None) layer is kept.shallow letter.Event n (marked.Event event) mark in
        sym (ap (begins_longer_chain layer 16) (min_is n (fits layer is letter.Event n (marked.Event event) mark))) ∙ not_so (begins_longer_chain layer 16 (min n 999999999)) TooDeep none

-- ---- no two are alike

-- an ID below another, whose mark makes a pair
abbrev pub pairs_below : (Mark → Bool) → Annotations → AnnId → AnnId → Bool
pairs_below pairs layer id other = nat_lt (rank other) (rank id) && option_map_or pairs (mark_at layer other) false

-- the same as a rule of places
abbrev pub below_rule : (Mark → Bool) → AnnId → AnnId → Mark → Option Rule
below_rule pairs id other mark = where_so (nat_lt (rank other) (rank id) && pairs mark) TooDeep

pub no_class_place : (f : AnnId → Mark → Option Rule) (layer : Annotations) (is_ : List ℕ) → first_place (by_place f (λ _ _. None) layer) (map at.Class is_) ≡ None
no_class_place f layer [] = refl
no_class_place f layer (i ∷ is_) =
    elim (slice_get layer.classes i) as (λ o. option_or (option_map (λ rule. record { rule = rule; at = at.Class i }) (option_and_then (λ _. None) o)) (first_place (by_place f (λ _ _. None) layer) (map at.Class is_)) ≡ None) [
      | None ↦ no_class_place f layer is_
      | Some class ↦ no_class_place f layer is_
    ]

not_below : (pairs : Mark → Bool) (layer : Annotations) (id other : AnnId) → pairs_below pairs layer id other ≡ false → option_and_then (below_rule pairs id other) (mark_at layer other) ≡ None
not_below pairs layer id other none =
    elim (mark_at layer other) as (λ o. (nat_lt (rank other) (rank id) && option_map_or pairs o false) ≡ false → option_and_then (below_rule pairs id other) o ≡ None) [
      | None ↦ λ _. refl
      | Some mark ↦ λ no_. ap (λ b. where_so b TooDeep) no_
    ] none

pub none_below : (pairs : Mark → Bool) (layer : Annotations) (id : AnnId) (rest : List FlawPlace) → first_place (by_place (below_rule pairs id) (λ _ _. None) layer) rest ≡ None
    → (ids : List AnnId) → find (pairs_below pairs layer id) ids ≡ None → first_place (by_place (below_rule pairs id) (λ _ _. None) layer) (map at.Mark ids ++ rest) ≡ None
none_below pairs layer id rest later [] e = later
none_below pairs layer id rest later (other ∷ ids) e =
    elim (pairs_below pairs layer id other) as (λ b. pairs_below pairs layer id other ≡ b → cond b (Some other) (find (pairs_below pairs layer id) ids) ≡ None
    → first_place (by_place (below_rule pairs id) (λ _ _. None) layer) (map at.Mark (other ∷ ids) ++ rest) ≡ None) [
      | true ↦ λ _ found. absurd (no_some (sym found))
      | false ↦ λ no_ more. ap (λ o. option_or (option_map (λ rule. record { rule = rule; at = at.Mark other }) o) (first_place (by_place (below_rule pairs id) (λ _ _. None) layer) (map at.Mark ids ++ rest))) (not_below pairs layer id other no_)
          ∙ none_below pairs layer id rest later ids more
    ] refl e

-- where no lower annotation makes a pair with a mark, a mark under a lower ID makes none
apart : (pairs : Mark → Mark → Bool) (layer : Annotations) → IsLayer layer → (id : AnnId) (mark : Mark) → lower_pair pairs layer id mark ≡ None
    → (kind : Kind) (m : ℕ) (other : Mark) → mark_of layer kind m ≡ Some other → rank (id_at kind m) < rank id → pairs mark other ≡ false
apart pairs layer is id mark none kind m other e low =
    let nowhere = never (below_rule (pairs mark) id) (λ _ _. None) layer
    (none_below (pairs mark) layer id (map at.Class (range_with_len 0 (length layer.classes))) (no_class_place (below_rule (pairs mark) id) layer (range_with_len 0 (length layer.classes))) (ids_of layer) none) in
    let so : (nat_lt (rank (id_at kind m)) (rank id) && pairs mark other) ≡ false =
    not_so (nat_lt (rank (id_at kind m)) (rank id) && pairs mark other) TooDeep (of_mark (below_rule (pairs mark) id) (λ _ _. None) layer is nowhere kind m other e) in
    sym (ap (λ b. b && pairs mark other) (lt-ltb (rank (id_at kind m)) (rank id) low)) ∙ so

rank_up : (kind : Kind) (a b : ℕ) → a < b → b ≤ 999999999 → rank (id_at kind a) < rank (id_at kind b)
rank_up kind a b less fit =
    let a_is : min a 999999999 ≡ a = omega arith in
    let b_is : min b 999999999 ≡ b = omega arith in
    omega arith

-- two marks under one letter that are alike have one number
one_number : (pairs : Mark → Mark → Bool) (rule : AnnId → Rule) (layer : Annotations) → IsLayer layer
    → Never (by_place (λ id mark. option_map rule (lower_pair pairs layer id mark)) (λ _ _. None) layer)
    → (kind : Kind) (m n : ℕ) (x y : Mark) → mark_of layer kind m ≡ Some x → mark_of layer kind n ≡ Some y → pairs x y ≡ true → pairs y x ≡ true → m ≡ n
one_number pairs rule layer is nowhere kind m n x y e f xy yx =
    elim (nat_cmp m n) as (λ r. r ≡ nat_cmp m n → m ≡ n) [
      | Less ↦ λ less. not_both (pairs y x) yx (apart pairs layer is (id_at kind n) y (lowest n y f) kind m x e (rank_up kind m n (ranked m n Less less) (fits layer is kind n y f)))
      | Equal ↦ λ same. ranked m n Equal same
      | Greater ↦ λ more. not_both (pairs x y) xy (apart pairs layer is (id_at kind m) x (lowest m x e) kind n y f (rank_up kind n m (ranked m n Greater more) (fits layer is kind m x e)))
    ] refl
  where
    lowest : (k : ℕ) (mark : Mark) → mark_of layer kind k ≡ Some mark → lower_pair pairs layer (id_at kind k) mark ≡ None
    lowest k mark g =
        unmapped rule (lower_pair pairs layer (id_at kind k) mark)
        (of_mark (λ id m_. option_map rule (lower_pair pairs layer id m_)) (λ _ _. None) layer is nowhere kind k mark g)

same_itself : (frags : List Frag) → same_fragments frags frags ≡ true
same_itself [] = refl
same_itself (frag ∷ frags) = both (both (eq-eqb frag.start frag.start refl) (eq-eqb frag.end frag.end refl)) (same_itself frags)

spans_alike : (a b : Span) → whole.SameSpan a b → same_spans (marked.Span a) (marked.Span b) ≡ true
spans_alike a b same = both (eq-eqb a.kind.n b.kind.n same.kind) (subst (λ (frags : List Frag). same_fragments a.frags frags ≡ true) same.frags (same_itself a.frags))

turned_span : (a b : Span) → whole.SameSpan a b → whole.SameSpan b a
turned_span a b same = record { kind = sym same.kind; frags = sym same.frags }

flip : (m n : ℕ) → (m == n) ≡ (n == m)
flip m n =
    elim (m == n) as (λ b. (m == n) ≡ b → b ≡ (n == m)) [
      | true ↦ λ is. sym (eq-eqb n m (sym (eqb-true m n is)))
      | false ↦ λ apart_. sym (ne_eqb n m (λ g. not_both (m == n) (eq-eqb m n (sym g)) apart_))
    ] refl

counted : (arg : Arg) (args : List Arg) → count_by (is_arg arg) args ≡ count_by (λ x. x.role == arg.role && rank x.target == rank arg.target) args
counted arg args = λ i. count_by (λ x. flip arg.role x.role i && flip (rank arg.target) (rank x.target) i) args

all_so : (test : Arg → Bool) → ((arg : Arg) → test arg ≡ true) → (args : List Arg) → list_all test args ≡ true
all_so test so [] = refl
all_so test so (a ∷ args) = both (so a) (all_so test so args)

bags_alike : (a b : List Arg) → whole.SameArguments a b → same_bag a b ≡ true
bags_alike a b same =
    all_so (λ arg. count_by (is_arg arg) a == count_by (is_arg arg) b)
    (λ arg. eq-eqb (count_by (is_arg arg) a) (count_by (is_arg arg) b) (counted arg a ∙ same arg.role (rank arg.target) ∙ sym (counted arg b))) (a ++ b)

events_alike : (a b : Event) → whole.SameEvent a b → same_events (marked.Event a) (marked.Event b) ≡ true
events_alike a b same = both (both (eq-eqb a.kind.n b.kind.n same.kind) (eq-eqb a.trigger b.trigger same.trigger)) (bags_alike a.args b.args same.args)

turned_event : (a b : Event) → whole.SameEvent a b → whole.SameEvent b a
turned_event a b same = record { kind = sym same.kind; trigger = sym same.trigger; args = λ role place. sym (same.args role place) }

relations_alike : (a b : Relation) → whole.SameRelation a b → same_relations (marked.Relation a) (marked.Relation b) ≡ true
relations_alike a b same = both (both (eq-eqb a.kind.n b.kind.n same.kind) (eq-eqb (rank a.first) (rank b.first) same.first)) (eq-eqb (rank a.second) (rank b.second) same.second)

turned_relation : (a b : Relation) → whole.SameRelation a b → whole.SameRelation b a
turned_relation a b same = record { kind = sym same.kind; first = sym same.first; second = sym same.second }

attributes_alike : (a b : Attribute) → whole.SameAttribute a b → same_attributes (marked.Attribute a) (marked.Attribute b) ≡ true
attributes_alike a b same = both (eq-eqb a.kind.n b.kind.n same.kind) (eq-eqb (rank a.target) (rank b.target) same.target)

turned_attribute : (a b : Attribute) → whole.SameAttribute a b → whole.SameAttribute b a
turned_attribute a b same = record { kind = sym same.kind; target = sym same.target }

spans_differ : (conf : Configuration) (characters : ℕ) (layer : Annotations) → IsLayer layer → IsWellFormed conf characters layer → whole.SpansDiffer layer
spans_differ conf characters layer is kept m n a b e f same =
    one_number same_spans SameSpan layer is kept.spans_differ letter.Text m n (marked.Span a) (marked.Span b) (ap (option_map marked.Span) e) (ap (option_map marked.Span) f)
    (spans_alike a b same) (spans_alike b a (turned_span a b same))

events_differ : (conf : Configuration) (characters : ℕ) (layer : Annotations) → IsLayer layer → IsWellFormed conf characters layer → whole.EventsDiffer layer
events_differ conf characters layer is kept m n a b e f same =
    one_number same_events SameEvent layer is kept.events_differ letter.Event m n (marked.Event a) (marked.Event b) (ap (option_map marked.Event) e) (ap (option_map marked.Event) f)
    (events_alike a b same) (events_alike b a (turned_event a b same))

relations_differ : (conf : Configuration) (characters : ℕ) (layer : Annotations) → IsLayer layer → IsWellFormed conf characters layer → whole.RelationsDiffer layer
relations_differ conf characters layer is kept m n a b e f same =
    one_number same_relations SameRelation layer is kept.relations_differ letter.Relation m n (marked.Relation a) (marked.Relation b) (ap (option_map marked.Relation) e)
    (ap (option_map marked.Relation) f) (relations_alike a b same) (relations_alike b a (turned_relation a b same))

rank_across : (a b : ℕ) → rank (id_at letter.Attribute a) < rank (id_at letter.Legacy b)
rank_across a b = let small : min a 999999999 ≤ 999999999 = omega arith in omega arith

-- an attribute of the letter A is like none of the letter M
letters_apart : (conf : Configuration) (characters : ℕ) (layer : Annotations) → IsLayer layer → IsWellFormed conf characters layer → (m n : ℕ) (a b : Attribute)
    → finite.get layer.attributes m ≡ Some a → finite.get layer.legacy n ≡ Some b → same_attributes (marked.Attribute b) (marked.Attribute a) ≡ false
letters_apart conf characters layer is kept m n a b e f =
    apart same_attributes layer is (id_at letter.Legacy n) (marked.Attribute b)
    (unmapped AttributeThere (lower_pair same_attributes layer (id_at letter.Legacy n) (marked.Attribute b))
    (of_mark (attribute_there layer) (λ _ _. None) layer is kept.attributes_differ letter.Legacy n (marked.Attribute b) (ap (option_map marked.Attribute) f)))
    letter.Attribute m (marked.Attribute a) (ap (option_map marked.Attribute) e) (rank_across m n)

attributes_differ : (conf : Configuration) (characters : ℕ) (layer : Annotations) → IsLayer layer → IsWellFormed conf characters layer → whole.AttributesDiffer layer
attributes_differ conf characters layer is kept letter.Attribute letter.Attribute m n a b e f same = (
  refl,
  one_number same_attributes AttributeThere layer is kept.attributes_differ letter.Attribute m n (marked.Attribute a) (marked.Attribute b) (ap (option_map marked.Attribute) e)
      (ap (option_map marked.Attribute) f) (attributes_alike a b same) (attributes_alike b a (turned_attribute a b same)),
)
attributes_differ conf characters layer is kept letter.Legacy letter.Legacy m n a b e f same = (
  refl,
  one_number same_attributes AttributeThere layer is kept.attributes_differ letter.Legacy m n (marked.Attribute a) (marked.Attribute b) (ap (option_map marked.Attribute) e)
      (ap (option_map marked.Attribute) f) (attributes_alike a b same) (attributes_alike b a (turned_attribute a b same)),
)
attributes_differ conf characters layer is kept letter.Attribute letter.Legacy m n a b e f same =
    not_both (same_attributes (marked.Attribute b) (marked.Attribute a)) (attributes_alike b a (turned_attribute a b same)) (letters_apart conf characters layer is kept m n a b e f)
attributes_differ conf characters layer is kept letter.Legacy letter.Attribute m n a b e f same =
    not_both (same_attributes (marked.Attribute a) (marked.Attribute b)) (attributes_alike a b same) (letters_apart conf characters layer is kept n m b a f e)
attributes_differ conf characters layer is kept letter.Attribute letter.Text m n a b e f same = absurd (no_some f)
attributes_differ conf characters layer is kept letter.Attribute letter.Event m n a b e f same = absurd (no_some f)
attributes_differ conf characters layer is kept letter.Attribute letter.Relation m n a b e f same = absurd (no_some f)
attributes_differ conf characters layer is kept letter.Attribute letter.Normal m n a b e f same = absurd (no_some f)
attributes_differ conf characters layer is kept letter.Attribute letter.Note m n a b e f same = absurd (no_some f)
attributes_differ conf characters layer is kept letter.Legacy letter.Text m n a b e f same = absurd (no_some f)
attributes_differ conf characters layer is kept letter.Legacy letter.Event m n a b e f same = absurd (no_some f)
attributes_differ conf characters layer is kept letter.Legacy letter.Relation m n a b e f same = absurd (no_some f)
attributes_differ conf characters layer is kept letter.Legacy letter.Normal m n a b e f same = absurd (no_some f)
attributes_differ conf characters layer is kept letter.Legacy letter.Note m n a b e f same = absurd (no_some f)
attributes_differ conf characters layer is kept letter.Text k m n a b e f same = absurd (no_some e)
attributes_differ conf characters layer is kept letter.Event k m n a b e f same = absurd (no_some e)
attributes_differ conf characters layer is kept letter.Relation k m n a b e f same = absurd (no_some e)
attributes_differ conf characters layer is kept letter.Normal k m n a b e f same = absurd (no_some e)
attributes_differ conf characters layer is kept letter.Note k m n a b e f same = absurd (no_some e)

pub coheres : (conf : Configuration) (characters : ℕ) (layer : Annotations) → IsLayer layer → IsWellFormed conf characters layer → whole.IsCoherent layer
coheres conf characters layer is kept = record {
  stand = names_stand conf characters layer is kept;
  letters = letters_fit conf characters layer is kept;
  chains = chains_short conf characters layer is kept;
  spans = spans_differ conf characters layer is kept;
  events = events_differ conf characters layer is kept;
  relations = relations_differ conf characters layer is kept;
  attributes = attributes_differ conf characters layer is kept;
}
