-- Where the changed annotation has no event as an argument, no chain of events has become longer.
use Rattle.std.proofs.Common.{◌≡◌, ℕ, zero, suc, Bool, true, false, not, ◌&&◌, ◌||◌, cond, List, [], ◌∷◌, map, refl, sym, ◌∙◌, ap, subst, Option, Some, None}
use Rattle.std.specs.Option.{option_map, option_map_or, option_and_then, is_some}
use Rattle.std.specs.List.{AllByRecursion, find, list_any}
use Rattle.std.specs.FinMap as finite
use Rattle.mark_base.specs.declared.ann_id.AnnId.{AnnId}
use Rattle.mark_base.specs.declared.ann_id.Kind.TheVariants as letter
use Rattle.mark_base.specs.declared.arguments.Arg.{Arg}
use Rattle.conf_model.specs.Configurations.{Configuration}
use Rattle.layer_model.specs.declared.event.Event.{Event}
use Rattle.layer_model.specs.declared.mark.Mark.{Mark}
use Rattle.layer_model.specs.declared.mark.Mark.TheVariants as marked
use Rattle.layer_model.specs.declared.rule.Rule.TheVariants.{NoSuch, TooDeep}
use Rattle.layer_model.specs.declared.flaw.FlawPlace.{FlawPlace}
use Rattle.layer_model.specs.declared.flaw.FlawPlace.TheVariants as at
use Rattle.layer_model.specs.Annotations.{Annotations}
use Rattle.layer_model.specs.Layers.{has, has_number, mark_at, mark_of}
use Rattle.layer_rules.specs.FlawPlaces.{first_place, places}
use Rattle.layer_rules.specs.MarkRules.{first_missing, named_by, where_so}
use Rattle.layer_rules.specs.LayerRules.{begins_longer_chain, is_event_id, is_id, too_deep}
use Rattle.layer_rules.specs.WellFormed.{IsWellFormed, at_too_deep}
use Rattle.layer_core.specs.Near.{leads_to_event}
use Rattle.layer_core.proofs.NearIdLemmas.{not_both}
use Rattle.layer_core.proofs.NearPairLemmas.{no_class_at, nothing_told}
use Rattle.layer_core.proofs.ElsewhereLemmas.{AlikeBut, first_false, last_false, not_so, one_id, unmapped}
use Rattle.layer_core.proofs.AlikeLemmas.{as_event, event_letter, mark_letter}

none_some : {X : Type 0} {x : X} → None ≡ Some x → ⊥
none_some e = cc

no_way : {A : Type 0} → false ≡ true → A
no_way e = absurd (let f : false ≡ true = e in cc)

-- ---- some of a list

narrower_any : {X : Type 0} (p q : X → Bool) (xs : List X) → ((x : X) → p x ≡ false → q x ≡ false) → list_any p xs ≡ false → list_any q xs ≡ false
narrower_any p q [] narrow e = refl
narrower_any p q (x ∷ xs) narrow e =
    ap (λ b. b || list_any q xs) (narrow x (first_false (p x) (list_any p xs) e)) ∙ narrower_any p q xs narrow (last_false (p x) (list_any p xs) e)

any_along : {X : Type 0} (p q : X → Bool) (xs : List X) → AllByRecursion (λ x. p x ≡ true → q x ≡ true) xs → list_any p xs ≡ true → list_any q xs ≡ true
any_along p q [] all e = no_way e
any_along p q (x ∷ xs) all e = split (p x) refl (any_along p q xs all.1) e
  where
    so_or : (a b : Bool) → a ≡ true → (a || b) ≡ true
    so_or a b is = ap (λ v. v || b) is

    or_so : (a b : Bool) → b ≡ true → (a || b) ≡ true
    or_so true b is = refl
    or_so false b is = is

    split : (b : Bool) → p x ≡ b → (list_any p xs ≡ true → list_any q xs ≡ true) → (b || list_any p xs) ≡ true → (q x || list_any q xs) ≡ true
    split true is later f = so_or (q x) (list_any q xs) (all.0 is)
    split false is later f = or_so (q x) (list_any q xs) (later f)

-- ---- what an event names is there

all_there : (layer : Annotations) (ids : List AnnId) → find (λ id. not (has layer id)) ids ≡ None → AllByRecursion (λ id. has layer id ≡ true) ids
all_there layer [] e = tt
all_there layer (id ∷ ids) e = split (has layer id) refl (all_there layer ids) e
  where
    split : (b : Bool) → has layer id ≡ b → (find (λ i. not (has layer i)) ids ≡ None → AllByRecursion (λ i. has layer i ≡ true) ids) → cond (not b) (Some id) (find (λ i. not (has layer i)) ids) ≡ None → AllByRecursion (λ i. has layer i ≡ true) (id ∷ ids)
    split true so rest later = (so, rest later)
    split false _ rest found = absurd (none_some (sym found))

of_targets : (P : AnnId → Type 0) (args : List Arg) → AllByRecursion P (map (λ arg. arg.target) args) → AllByRecursion (λ arg. P arg.target) args
of_targets P [] all = tt
of_targets P (arg ∷ args) all = (all.0, of_targets P args all.1)

all_args : (P Q : Arg → Type 0) (args : List Arg) → ((arg : Arg) → P arg → Q arg) → AllByRecursion P args → AllByRecursion Q args
all_args P Q [] f all = tt
all_args P Q (arg ∷ args) f all = (f arg all.0, all_args P Q args f all.1)

targets_there : (conf : Configuration) (characters : ℕ) (layer : Annotations) (other : AnnId) (event : Event) → IsWellFormed conf characters layer → mark_at layer other ≡ Some (marked.Event event)
    → AllByRecursion (λ arg. has layer arg.target ≡ true) event.args
targets_there conf characters layer other event kept is =
    of_targets (λ id. has layer id ≡ true) event.args
    (all_there layer (named_by (marked.Event event))
    (unmapped NoSuch (find (λ id. not (has layer id)) (named_by (marked.Event event)))
    (sym (ap (option_and_then (λ mark. first_missing layer (named_by mark))) is) ∙ kept.there (at.Mark other)))).1

-- ---- chains

-- the changed annotation begins no chain of two events
pub no_longer : (a : Annotations) (id : AnnId) (steps : ℕ) → id.kind ≡ letter.Event → option_map_or leads_to_event (mark_at a id) false ≡ false → begins_longer_chain a (suc steps) id.number ≡ false
unfolding begins_longer_chain
no_longer a id steps event leads = split (finite.get a.events id.number) refl
  where
    split : (o : Option Event) → finite.get a.events id.number ≡ o
        → option_map_or (λ e. list_any (λ arg. is_event_id arg.target && begins_longer_chain a steps arg.target.number) e.args) o false ≡ false
    split None is = refl
    split (Some e) is =
        let mark : mark_at a id ≡ Some (marked.Event e) = ap (λ k. mark_of a k id.number) event ∙ ap (option_map marked.Event) is in
        let none : list_any (λ arg. is_event_id arg.target) e.args ≡ false = sym (ap (λ o. option_map_or leads_to_event o false) mark) ∙ leads in
        narrower_any (λ arg. is_event_id arg.target) (λ arg. is_event_id arg.target && begins_longer_chain a steps arg.target.number) e.args
        (λ arg no_. ap (λ b. b && begins_longer_chain a steps arg.target.number) no_) none

-- chains of so many events were there before
abbrev pub Were : ℕ → Annotations → Annotations → Type 0
Were steps a b = (other : AnnId) → other.kind ≡ letter.Event → has b other ≡ true → begins_longer_chain a steps other.number ≡ true → begins_longer_chain b steps other.number ≡ true

led_on : (steps : ℕ) (a b : Annotations) → Were steps a b → (arg : Arg) → has b arg.target ≡ true
    → (is_event_id arg.target && begins_longer_chain a steps arg.target.number) ≡ true → (is_event_id arg.target && begins_longer_chain b steps arg.target.number) ≡ true
led_on steps a b were arg there = split (is_event_id arg.target) refl
  where
    split : (so : Bool) → is_event_id arg.target ≡ so → (so && begins_longer_chain a steps arg.target.number) ≡ true → (so && begins_longer_chain b steps arg.target.number) ≡ true
    split true is long = were arg.target (event_letter arg.target.kind is) there long
    split false is long = no_way long

led_within : (conf : Configuration) (characters : ℕ) (steps : ℕ) (a b : Annotations) (other : AnnId) → IsWellFormed conf characters b → other.kind ≡ letter.Event → Were steps a b
    → (o : Option Event) → finite.get b.events other.number ≡ o
    → option_map_or (λ e. list_any (λ arg. is_event_id arg.target && begins_longer_chain a steps arg.target.number) e.args) o false ≡ true
    → option_map_or (λ e. list_any (λ arg. is_event_id arg.target && begins_longer_chain b steps arg.target.number) e.args) o false ≡ true
led_within conf characters steps a b other kept event were None is long = no_way long
led_within conf characters steps a b other kept event were (Some e) is long =
    let mark : mark_at b other ≡ Some (marked.Event e) = ap (λ k. mark_of b k other.number) event ∙ ap (option_map marked.Event) is in
    any_along (λ arg. is_event_id arg.target && begins_longer_chain a steps arg.target.number) (λ arg. is_event_id arg.target && begins_longer_chain b steps arg.target.number) e.args
    (all_args (λ arg. has b arg.target ≡ true)
    (λ arg. (is_event_id arg.target && begins_longer_chain a steps arg.target.number) ≡ true → (is_event_id arg.target && begins_longer_chain b steps arg.target.number) ≡ true) e.args
    (led_on steps a b were) (targets_there conf characters b other e kept mark)) long

-- a chain that begins at an event which was there was there
pub chain_was : (conf : Configuration) (characters : ℕ) (a b : Annotations) (id : AnnId) → IsWellFormed conf characters b → AlikeBut a b id → option_map_or leads_to_event (mark_at a id) false ≡ false
    → (steps : ℕ) → Were steps a b
unfolding begins_longer_chain
chain_was conf characters a b id kept but leads zero other event there long = subst (λ kind. has_number b kind other.number ≡ true) event there
chain_was conf characters a b id kept but leads (suc steps) other event there long = split (is_id id other) refl (chain_was conf characters a b id kept but leads steps)
  where
    split : (so : Bool) → is_id id other ≡ so → Were steps a b → begins_longer_chain b (suc steps) other.number ≡ true
    split true is were =
        let same : id ≡ other = one_id id other is in
        not_both (begins_longer_chain a (suc steps) other.number) long
        (no_longer a other steps event (subst (λ (i : AnnId). option_map_or leads_to_event (mark_at a i) false ≡ false) same leads))
    split false apart were =
        let here : finite.get a.events other.number ≡ finite.get b.events other.number = as_event a b other event (but.marks other apart) in
        led_within conf characters steps a b other kept event were (finite.get b.events other.number) refl
        (sym (ap (λ o. option_map_or (λ e. list_any (λ arg. is_event_id arg.target && begins_longer_chain a steps arg.target.number) e.args) o false) here) ∙ long)

-- an event begins no chain that is too long
short_event : (conf : Configuration) (characters : ℕ) (a b : Annotations) (id other : AnnId) (event : Event) → IsWellFormed conf characters b → AlikeBut a b id
    → option_map_or leads_to_event (mark_at a id) false ≡ false → other.kind ≡ letter.Event → mark_at a other ≡ Some (marked.Event event) → begins_longer_chain a 16 other.number ≡ false
short_event conf characters a b id other event kept but leads kind is = split (is_id id other) refl
  where
    in_map : (o : Option Event) → option_map marked.Event o ≡ Some (marked.Event event) → is_some o ≡ true
    in_map None f = absurd (none_some f)
    in_map (Some x) f = refl

    was : is_id id other ≡ false → has b other ≡ true
    was apart =
        let before : mark_at b other ≡ Some (marked.Event event) = sym (but.marks other apart) ∙ is in
        let found : option_map marked.Event (finite.get b.events other.number) ≡ Some (marked.Event event) = sym (ap (λ k. mark_of b k other.number) kind) ∙ before in
        subst (λ k. has_number b k other.number ≡ true) (sym kind) (in_map (finite.get b.events other.number) found)

    shallow : is_id id other ≡ false → begins_longer_chain b 16 other.number ≡ false
    shallow apart =
        let before : mark_at b other ≡ Some (marked.Event event) = sym (but.marks other apart) ∙ is in
        not_so (begins_longer_chain b 16 other.number) TooDeep (sym (ap (option_and_then (too_deep b other)) before) ∙ kept.shallow (at.Mark other))

    split : (so : Bool) → is_id id other ≡ so → begins_longer_chain a 16 other.number ≡ false
    split true same = no_longer a other 15 kind (subst (λ (i : AnnId). option_map_or leads_to_event (mark_at a i) false ≡ false) (one_id id other same) leads)
    split false apart = long (begins_longer_chain a 16 other.number) refl
      where
        long : (b_ : Bool) → begins_longer_chain a 16 other.number ≡ b_ → b_ ≡ false
        long false e = refl
        long true e = not_both (begins_longer_chain b 16 other.number) (chain_was conf characters a b id kept but leads 16 other kind (was apart) e) (shallow apart)

pub no_deeper : (conf : Configuration) (characters : ℕ) (a b : Annotations) (id : AnnId) → IsWellFormed conf characters b → AlikeBut a b id → option_map_or leads_to_event (mark_at a id) false ≡ false
    → first_place (at_too_deep a) (places a) ≡ None
no_deeper conf characters a b id kept but leads = nothing_told (at_too_deep a) (places a) each
  where
    at_mark : (other : AnnId) (o : Option Mark) → mark_at a other ≡ o → option_and_then (too_deep a other) o ≡ None
    at_mark other None is = refl
    at_mark other (Some (marked.Span x)) is = refl
    at_mark other (Some (marked.Event event)) is =
        ap (λ so. where_so so TooDeep) (short_event conf characters a b id other event kept but leads (mark_letter a other.kind other.number event is) is)
    at_mark other (Some (marked.Relation x)) is = refl
    at_mark other (Some (marked.Attribute x)) is = refl
    at_mark other (Some (marked.Normal x)) is = refl
    at_mark other (Some (marked.Note x)) is = refl

    each : (p : FlawPlace) → at_too_deep a p ≡ None
    each (at.Mark other) = at_mark other (mark_at a other) refl
    each (at.Class index) = no_class_at (too_deep a) a index
