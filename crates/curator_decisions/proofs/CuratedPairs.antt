-- The rules on chains of events and on classes, and what may be committed, carry from layers to a layer of some of their
-- marks; a rule on two annotations is kept where those that make a pair are one.
use Rattle.std.proofs.Common.{◌≡◌, ℕ, zero, suc, ◌<◌, ◌≤◌, ◌⊎◌, not, nat_lt, Bool, true, false, ◌||◌, ◌&&◌, List, [], ◌∷◌, map, length, slice_get, refl, sym, ◌∙◌, ap, inl, inr, Option, Some, None, is_some, arith}
use Rattle.std.proofs.lemmas.Bool.Decides.{nat_tests}
use Rattle.std.specs.Option.{option_map, option_map_or, option_and_then, option_or}
use Rattle.std.specs.List.{find, list_any, range_with_len}
use Rattle.std.specs.FinMap as finite
use Rattle.mark_base.specs.declared.ann_id.AnnId.{AnnId}
use Rattle.mark_base.specs.declared.ann_id.Kind.{Kind}
use Rattle.mark_base.specs.declared.ann_id.Kind.TheVariants as letter
use Rattle.mark_base.specs.declared.arguments.Arg.{Arg}
use Rattle.mark_base.specs.ReadIds.{id_at}
use Rattle.conf_model.specs.Configurations.{Configuration}
use Rattle.conf_model.specs.Lookups.{role_least, roles_of}
use Rattle.layer_model.specs.declared.event.Event.{Event}
use Rattle.layer_model.specs.declared.class.Class.{Class}
use Rattle.layer_model.specs.declared.mark.Mark.{Mark}
use Rattle.layer_model.specs.declared.mark.Mark.TheVariants as marked
use Rattle.layer_model.specs.declared.flaw.FlawPlace.TheVariants as at
use Rattle.layer_model.specs.declared.rule.Rule.{Rule}
use Rattle.layer_model.specs.declared.rule.Rule.TheVariants.{EquivMembers, TooDeep, TooFew}
use Rattle.layer_model.specs.declared.rule.RoleAt.TheVariants as role
use Rattle.layer_model.specs.Annotations.{Annotations}
use Rattle.layer_model.specs.Classes.{rank}
use Rattle.layer_model.specs.Layers.{mark_at, mark_of}
use Rattle.layer_model.specs.LayerIds.{ids_of}
use Rattle.layer_rules.specs.FlawPlaces.{by_place}
use Rattle.layer_rules.specs.MarkRules.{where_so}
use Rattle.layer_rules.specs.LayerRules.{are_bad_members, begins_longer_chain, equiv_members, is_event_id, is_id, letter_is_event, lower_pair, may_be_equal, too_deep}
use Rattle.layer_rules.specs.Targets.{type_of}
use Rattle.layer_rules.specs.WellFormed.{Never, at_equiv_members, at_too_deep, commit_fault, first_told, no_class, too_few, too_few_of}
use Rattle.content_keys.specs.Nodes.{IsIn}
use Rattle.content_keys.proofs.IdLemmas.{same_rank}
use Rattle.unanimous_merge.proofs.ListLemmas.{any_map, length_map, same_test}
use Rattle.curator_decisions.specs.Curated.{curated_letter, renamed, renamed_event}
use Rattle.curator_decisions.proofs.CuratedParts.{IsPart, Nowhere, Origin, Row, carry, find_none, in_keys, none_some, so_none, unmapped}
use Rattle.curator_decisions.proofs.CuratedOwn.{same_filled, type_same}
use Rattle.curator_decisions.proofs.ListLemmas.{or_true}

-- ---- tests that agree on each of a list

any_each : {X : Type 0} (p q : X → Bool) (xs : List X) → ((x : X) → IsIn x xs → p x ≡ q x) → list_any p xs ≡ list_any q xs
any_each p q [] same = refl
any_each p q (x ∷ xs) same = λ i. same x (inl refl) i || any_each p q xs (λ y k. same y (inr k)) i

pub any_is : {X : Type 0} (p : X → Bool) (xs : List X) → list_any p xs ≡ true → (x : X) × (IsIn x xs × (p x ≡ true))
any_is p [] h = absurd (let e : false ≡ true = h in cc)
any_is {X} p (x ∷ xs) h =
    elim (p x) as (λ b. p x ≡ b → (b || list_any p xs) ≡ true → (y : X) × (((y ≡ x) ⊎ IsIn y xs) × (p y ≡ true))) [
      | true ↦ λ e _. (x, (inl refl, e))
      | false ↦ λ _ g. let r : (y : X) × (IsIn y xs × (p y ≡ true)) = any_is p xs g in (r.0, (inr r.1.0, r.1.1))
    ] refl h

pub is_any : {X : Type 0} (p : X → Bool) (xs : List X) (x : X) → IsIn x xs → p x ≡ true → list_any p xs ≡ true
is_any p [] x k so = absurd k
is_any p (y ∷ ys) x k so = elim k [
  | inl same ↦ ap (λ b. b || list_any p ys) (ap p (sym same) ∙ so)
  | inr m ↦ ap (λ b. p y || b) (is_any p ys x m so) ∙ or_true (p y)
]

pub both_true : (a b : Bool) → (a && b) ≡ true → (a ≡ true) × (b ≡ true)
both_true true b e = (refl, e)
both_true false b e = absurd (let f : false ≡ true = e in cc)

-- ---- events

pub record IsEvent (l : Annotations) (n : ℕ) (mark : Mark) : Type 0 where
  pub event : Event
  pub got : finite.get l.events n ≡ Some event
  pub is : mark ≡ marked.Event event

event_under : (o : Option Event) (mark : Mark) → option_map marked.Event o ≡ Some mark → (event : Event) × ((o ≡ Some event) × (mark ≡ marked.Event event))
event_under None mark e = none_some e
event_under (Some event) mark e = (event, (refl, cc))

pub event_at : (l : Annotations) (kind : Kind) (n : ℕ) (mark : Mark) → mark_of l kind n ≡ Some mark → kind ≡ letter.Event → IsEvent l n mark
event_at l kind n mark e is =
    let r : (event : Event) × ((finite.get l.events n ≡ Some event) × (mark ≡ marked.Event event)) = event_under (finite.get l.events n) mark (ap (λ k. mark_of l k n) (sym is) ∙ e) in
    record { event = r.0; got = r.1.0; is = r.1.1 }

not_event : {V : Type 0} {A : Type 0} (wrap : V → Mark) (event : Event) → ((v : V) → wrap v ≡ marked.Event event → ⊥) → (o : Option V) → option_map wrap o ≡ Some (marked.Event event) → A
not_event wrap event differs None e = none_some e
not_event wrap event differs (Some v) e = absurd (differs v cc)

pub letter_of_event : (l : Annotations) (kind : Kind) (n : ℕ) (event : Event) → mark_of l kind n ≡ Some (marked.Event event) → kind ≡ letter.Event
letter_of_event l letter.Text n event e = not_event marked.Span event (λ v h. cc) (finite.get l.spans n) e
letter_of_event l letter.Event n event e = refl
letter_of_event l letter.Relation n event e = not_event marked.Relation event (λ v h. cc) (finite.get l.relations n) e
letter_of_event l letter.Attribute n event e = not_event marked.Attribute event (λ v h. cc) (finite.get l.attributes n) e
letter_of_event l letter.Legacy n event e = not_event marked.Attribute event (λ v h. cc) (finite.get l.legacy n) e
letter_of_event l letter.Normal n event e = not_event marked.Normal event (λ v h. cc) (finite.get l.normals n) e
letter_of_event l letter.Note n event e = not_event marked.Note event (λ v h. cc) (finite.get l.notes n) e

as_event : (k : Kind) → letter_is_event (curated_letter k) ≡ letter_is_event k
as_event letter.Legacy = refl
as_event k = refl

is_event_letter : (k : Kind) → letter_is_event k ≡ true → k ≡ letter.Event
is_event_letter letter.Event e = refl
is_event_letter letter.Text e = cc
is_event_letter letter.Relation e = cc
is_event_letter letter.Attribute e = cc
is_event_letter letter.Legacy e = cc
is_event_letter letter.Normal e = cc
is_event_letter letter.Note e = cc

back_to_event : (k : Kind) → curated_letter k ≡ letter.Event → k ≡ letter.Event
back_to_event k e = is_event_letter k (sym (as_event k) ∙ ap letter_is_event e)

pub of_event : (a b : Event) → marked.Event a ≡ marked.Event b → a ≡ b
of_event a b e = cc

and_false : (b : Bool) → (b && false) ≡ false
and_false true = refl
and_false false = refl

ap_lt : (a b c : ℕ) → nat_lt a b ≡ true → a ≡ c → c < b
ap_lt a b c t e = grind (arith, nat_tests)

-- the event of a layer that is known by an ID, and the event that is shown in its place: what the latter names is known
pub record Twins (layer : Annotations) (In : Row → AnnId → Type 0) (new : Row → AnnId → AnnId) (row : Row) (old : AnnId) : Type 0 where
  pub event : Event
  pub was : finite.get row.1.events old.number ≡ Some event
  pub now : Event
  pub is : finite.get layer.events (new row old).number ≡ Some now
  pub args : (arg : Arg) → IsIn arg now.args → (mine : Arg) × (IsIn mine event.args × (In row mine.target × (arg.target ≡ new row mine.target)))

-- ---- what is told of a list

told_none : {X : Type 0} (told : X → Option Rule) (xs : List X) → ((x : X) → told x ≡ None) → first_told told xs ≡ None
told_none told [] h = refl
told_none told (x ∷ xs) h = or_none (told x) (first_told told xs) (h x) (told_none told xs h)
  where
    or_none : (a b : Option Rule) → a ≡ None → b ≡ None → option_or a b ≡ None
    or_none None b p q = q
    or_none (Some r) b p q = none_some (sym p)

none_told : {X : Type 0} (told : X → Option Rule) (xs : List X) → first_told told xs ≡ None → (x : X) → IsIn x xs → told x ≡ None
none_told told [] e x k = absurd k
none_told told (y ∷ ys) e x k = elim k [
  | inl same ↦ ap told same ∙ left (told y) (first_told told ys) e
  | inr m ↦ none_told told ys (right (told y) (first_told told ys) e) x m
]
  where
    left : (a b : Option Rule) → option_or a b ≡ None → a ≡ None
    left None b h = refl
    left (Some r) b h = none_some (sym h)

    right : (a b : Option Rule) → option_or a b ≡ None → b ≡ None
    right None b h = h
    right (Some r) b h = none_some (sym h)

-- ---- two annotations

-- where no annotation makes a pair with a lower one, the rule breaks nowhere
pub pairs_never : (layer : Annotations) (pairs : Mark → Mark → Bool) (rule : AnnId → Rule)
    → ((id other : AnnId) (mark m : Mark) → mark_at layer id ≡ Some mark → mark_at layer other ≡ Some m → pairs mark m ≡ true → rank other < rank id → ⊥) → Never (by_place (λ id mark. option_map rule (lower_pair pairs layer id mark)) no_class layer)
pairs_never layer pairs rule apart (at.Class index) = nothing (slice_get layer.classes index)
  where
    nothing : (o : Option Class) → option_and_then (no_class index) o ≡ None
    nothing None = refl
    nothing (Some class) = refl
pairs_never layer pairs rule apart (at.Mark id) = split (mark_at layer id) refl
  where
    meets : (mark m : Mark) (other : AnnId) → mark_at layer id ≡ Some mark → mark_at layer other ≡ Some m → (b c : Bool) → nat_lt (rank other) (rank id) ≡ b → pairs mark m ≡ c → (b && c) ≡ false
    meets mark m other o p false c t e = refl
    meets mark m other o p true false t e = refl
    meets mark m other o p true true t e = absurd (apart id other mark m o p e (ap_lt (rank other) (rank id) (rank other) t refl))

    none : (mark : Mark) → mark_at layer id ≡ Some mark → (other : AnnId) (o : Option Mark) → mark_at layer other ≡ o → (nat_lt (rank other) (rank id) && option_map_or (pairs mark) (mark_at layer other) false) ≡ false
    none mark is other None g = ap (λ o. nat_lt (rank other) (rank id) && option_map_or (pairs mark) o false) g ∙ and_false (nat_lt (rank other) (rank id))
    none mark is other (Some m) g =
        ap (λ o. nat_lt (rank other) (rank id) && option_map_or (pairs mark) o false) g ∙ meets mark m other is g (nat_lt (rank other) (rank id)) (pairs mark m) refl refl

    split : (o : Option Mark) → mark_at layer id ≡ o → option_and_then (λ mark. option_map rule (lower_pair pairs layer id mark)) (mark_at layer id) ≡ None
    split None e = ap (option_and_then (λ mark. option_map rule (lower_pair pairs layer id mark))) e
    split (Some mark) e =
        ap (option_and_then (λ mark. option_map rule (lower_pair pairs layer id mark))) e
        ∙ ap (option_map rule) (find_none (λ other. nat_lt (rank other) (rank id) && option_map_or (pairs mark) (mark_at layer other) false) (ids_of layer) (λ other k. none mark e other (mark_at layer other) refl))

module _ (rows : List Row) (layer : Annotations) (In : Row → AnnId → Type 0) (new : Row → AnnId → AnnId) (part : IsPart rows layer In new) where
  -- ---- chains of events

  module _ (twins : (row : Row) (old : AnnId) → In row old → old.kind ≡ letter.Event → Twins layer In new row old) where
    pub chain : (events : ℕ) (row : Row) (old : AnnId) → In row old → old.kind ≡ letter.Event → begins_longer_chain layer events (new row old).number ≡ true → begins_longer_chain row.1 events old.number ≡ true
    unfolding begins_longer_chain
    chain zero row old i event h = let t : Twins layer In new row old = twins row old i event in ap is_some t.was
    chain (suc events) row old i event h =
        let t : Twins layer In new row old = twins row old i event in
        let here : Arg → Bool = λ arg. is_event_id arg.target && begins_longer_chain layer events arg.target.number in
        let there : Arg → Bool = λ arg. is_event_id arg.target && begins_longer_chain row.1 events arg.target.number in
        let x : (arg : Arg) × (IsIn arg t.now.args × ((is_event_id arg.target && begins_longer_chain layer events arg.target.number) ≡ true)) =
        any_is (λ arg. is_event_id arg.target && begins_longer_chain layer events arg.target.number) t.now.args
        (sym (ap (λ o. option_map_or (λ e. list_any (λ arg. is_event_id arg.target && begins_longer_chain layer events arg.target.number) e.args) o false) t.is) ∙ h) in
        let m : (mine : Arg) × (IsIn mine t.event.args × (In row mine.target × (x.0.target ≡ new row mine.target))) = t.args x.0 x.1.0 in
        let two : (is_event_id (new row m.0.target) ≡ true) × (begins_longer_chain layer events (new row m.0.target).number ≡ true) =
        both_true (is_event_id (new row m.0.target)) (begins_longer_chain layer events (new row m.0.target).number)
        (sym (ap (λ id. is_event_id id && begins_longer_chain layer events id.number) m.1.1.1) ∙ x.1.1) in
        let lettered : is_event_id m.0.target ≡ true = sym (as_event m.0.target.kind) ∙ ap letter_is_event (sym (part.letter row m.0.target m.1.1.0)) ∙ two.0 in
        let down : begins_longer_chain row.1 events m.0.target.number ≡ true = chain events row m.0.target m.1.1.0 (is_event_letter m.0.target.kind lettered) two.1 in
        ap (λ o. option_map_or (λ e. list_any (λ arg. is_event_id arg.target && begins_longer_chain row.1 events arg.target.number) e.args) o false) t.was
        ∙ is_any (λ arg. is_event_id arg.target && begins_longer_chain row.1 events arg.target.number) t.event.args m.0 m.1.0 (λ k. lettered k && down k)

    not_deep : (b c : Bool) → (b ≡ true → c ≡ true) → where_so c TooDeep ≡ None → where_so b TooDeep ≡ None
    not_deep false c h none = refl
    not_deep true c h none = absurd (so_none c TooDeep (h refl) none)

    pub chains_carry : Nowhere rows (λ row. at_too_deep row.1) → Never (at_too_deep layer)
    chains_carry =
        carry rows layer In new part (λ row. too_deep row.1) (too_deep layer) (λ row. no_class) no_class (λ id mark o none. by o.row o.old o.was o.within o.there none) (λ index class o none. refl)
      where
        by : (row : Row) (old : AnnId) (was : Mark) → In row old → mark_at row.1 old ≡ Some was → too_deep row.1 old was ≡ None → too_deep layer (new row old) (renamed (new row) was) ≡ None
        by row old (marked.Event event) i e none =
            not_deep (begins_longer_chain layer 16 (new row old).number) (begins_longer_chain row.1 16 old.number) (chain 16 row old i (letter_of_event row.1 old.kind old.number event e)) none
        by row old was i e none = refl

  -- ---- classes

  members_same : (conf : Configuration) (kind : ℕ) (row : Row) (ids : List AnnId) → ((id : AnnId) → IsIn id ids → In row id) → ((a b : AnnId) → IsIn a ids → IsIn b ids → rank (new row a) ≡ rank (new row b) → a ≡ b)
      → are_bad_members conf layer kind (map (new row) ids) ≡ are_bad_members conf row.1 kind ids
  members_same conf kind row [] all apart = refl
  members_same conf kind row (id ∷ ids) all apart = λ i.
      (any_map (λ other. is_id (new row id) other || not (may_be_equal conf kind (type_of layer (new row id)) (type_of layer other))) (new row) ids
      ∙ any_each (λ other. is_id (new row id) (new row other) || not (may_be_equal conf kind (type_of layer (new row id)) (type_of layer (new row other)))) (λ other. is_id id other || not (may_be_equal conf kind (type_of row.1 id) (type_of row.1 other))) ids
      (λ other k j. same_test (rank (new row id)) (rank (new row other)) (rank id) (rank other) (λ e. ap rank (apart id other (inl refl) (inr k) e)) (λ e. ap (λ x. rank (new row x)) (same_rank id other e)) j
      || not (may_be_equal conf kind (type_same rows layer In new part row id (all id (inl refl)) j) (type_same rows layer In new part row other (all other (inr k)) j)))) i
      || members_same conf kind row ids (λ x k. all x (inr k)) (λ a b k l. apart a b (inr k) (inr l)) i

  pub members_carry : (conf : Configuration) → Nowhere rows (λ row. at_equiv_members conf row.1) → Never (at_equiv_members conf layer)
  members_carry conf =
      carry rows layer In new part (λ row id mark. None) (λ id mark. None) (λ row index. equiv_members conf row.1) (λ index. equiv_members conf layer)
      (λ id mark o none. refl)
      (λ index class o none. (λ i. where_so (nat_lt (length_map (new o.row) o.was.members i) 2 || members_same conf o.was.kind.n o.row o.was.members o.within o.apart i) EquivMembers) ∙ none)

  -- ---- what may be committed

  fewest : (conf : Configuration) (row : Row) (event : Event) → too_few_of conf (renamed_event (new row) event) ≡ too_few_of conf event
  fewest conf row event = λ i.
      find (λ place. nat_lt (same_filled (new row) place event.args i) (role_least conf event.kind.n place)) (range_with_len 0 (length (roles_of conf event.kind.n)))

  enough_at : (conf : Configuration) → ((row : Row) → IsIn row rows → first_told (too_few conf row.1) (finite.keys row.1.events) ≡ None) → (n : ℕ) (o : Option Event) → finite.get layer.events n ≡ o → too_few conf layer n ≡ None
  enough_at conf none n None e = ap (option_and_then (λ event. option_map (λ place. TooFew (id_at letter.Event n) (role.Event event.kind place)) (too_few_of conf event))) e
  enough_at conf none n (Some event) e =
      let is : mark_of layer letter.Event n ≡ Some (marked.Event event) = ap (option_map marked.Event) e in
      let small : n ≤ 999999999 = part.fits letter.Event n (marked.Event event) is in
      let id : AnnId = record { kind = letter.Event; number = n; within = small } in
      let o : Origin rows In new id (marked.Event event) = part.from id (marked.Event event) is in
      let kind : o.old.kind ≡ letter.Event = back_to_event o.old.kind (sym (part.letter o.row o.old o.within) ∙ sym (ap (λ (x : AnnId). x.kind) o.id_is)) in
      let w : IsEvent o.row.1 o.old.number o.was = event_at o.row.1 o.old.kind o.old.number o.was o.there kind in
      let same : event ≡ renamed_event (new o.row) w.event = of_event event (renamed_event (new o.row) w.event) (o.mark_is ∙ ap (renamed (new o.row)) w.is) in
      let old_none : too_few conf o.row.1 o.old.number ≡ None =
      none_told (too_few conf o.row.1) (finite.keys o.row.1.events) (none o.row o.among) o.old.number (in_keys o.row.1.events o.old.number (ap is_some w.got)) in
      let none_here : too_few_of conf w.event ≡ None =
      unmapped (λ place. TooFew (id_at letter.Event o.old.number) (role.Event w.event.kind place)) (too_few_of conf w.event)
      (sym (ap (option_and_then (λ ev. option_map (λ place. TooFew (id_at letter.Event o.old.number) (role.Event ev.kind place)) (too_few_of conf ev))) w.got) ∙ old_none) in
      ap (option_and_then (λ ev. option_map (λ place. TooFew (id_at letter.Event n) (role.Event ev.kind place)) (too_few_of conf ev))) e
      ∙ ap (option_map (λ place. TooFew (id_at letter.Event n) (role.Event event.kind place))) (ap (too_few_of conf) same ∙ fewest conf o.row w.event ∙ none_here)

  pub enough_carries : (conf : Configuration) → ((row : Row) → IsIn row rows → commit_fault conf row.1 ≡ None) → commit_fault conf layer ≡ None
  unfolding commit_fault
  enough_carries conf none = told_none (too_few conf layer) (finite.keys layer.events) (λ n. enough_at conf none n (finite.get layer.events n) refl)
