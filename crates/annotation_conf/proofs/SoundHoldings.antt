-- What alternatives hold that name what may stand.
use Rattle.std.proofs.Common.{◌≡◌, ℕ, ◌<◌, ◌||◌, ◌&&◌, Bool, true, false, not, cond, List, [], ◌∷◌, ◌++◌, length, find, Option, Some, None, option_map, nat_lt, bytes_eq, codes, suc, refl, sym, subst, ◌∙◌, ap, arith}
use Rattle.std.specs.Option.{option_map_or, option_or}
use Rattle.std.specs.List.{AllByRecursion as Each, list_any}
use Rattle.std.proofs.lemmas.Bool.{or_parts, or_from, or_right, not-false, true≢false, lt-ltb}
use Rattle.std.proofs.lemmas.Option.{none-some, same_Some}
use Rattle.conf_model.specs.ConfPairs.{Alternative, Named, Held}
use Rattle.conf_model.specs.ConfNames.{Holding, MacroLine, none_held, built_in, macro_named, both_held, one_held, all_held}
use Rattle.conf_model.specs.ConfFaults.{is_among, is_unknown, is_unheld}
use Rattle.annotation_conf.proofs.SoundLists.{Each-append, each_both, each_fails}

-- something is held
abbrev pub holds_some : Holding → Bool
holds_some holding = holding.entity || holding.event || holding.any || holding.relation || nat_lt 0 (length holding.names)

-- what is held is among names that may stand, and no relation types where none may
pub record MayStand (names : List (List ℕ)) (relations : Bool) (holding : Holding) : Type 0 where
  pub known : Each (λ name. is_among names name ≡ true) holding.names
  pub relation : relations ≡ false → holding.relation ≡ false

may_both : (names : List (List ℕ)) (relations : Bool) (a b : Holding) → MayStand names relations a → MayStand names relations b → MayStand names relations (both_held a b)
may_both names relations a b p q = record {
  known = Each-append (λ name. is_among names name ≡ true) a.names b.names p.known q.known;
  relation = λ e. or_from a.relation b.relation (p.relation e) (q.relation e);
}

-- names that are declared stand where none is declared and may not stand
not_fails : (declared names : List (List ℕ)) (held : List (List ℕ)) → Each (λ name. is_among declared name ≡ true) held
    → list_any (λ name. is_among declared name && not (is_among names name)) held ≡ false → Each (λ name. is_among names name ≡ true) held
not_fails declared names held d e =
    each_both (λ name. is_among declared name ≡ true) (λ name. (is_among declared name && not (is_among names name)) ≡ false) (λ name. is_among names name ≡ true)
    (λ name t f. not-false (is_among names name) (sym (ap (λ b. b && not (is_among names name)) t) ∙ f)) held d
    (each_fails (λ name. is_among declared name && not (is_among names name)) held e)

and_not : (a relations : Bool) → (a && not relations) ≡ false → relations ≡ false → a ≡ false
and_not false relations e f = refl
and_not true true e f = absurd (true≢false f)
and_not true false e f = absurd (true≢false e)

-- what a macro holds is something, and its names are declared
pub record HoldsWell (declared : List (List ℕ)) (holding : Holding) : Type 0 where
  pub some : holds_some holding ≡ true
  pub known : Each (λ name. is_among declared name ≡ true) holding.names

-- each macro holds something that is declared
abbrev pub AllHold : List (List ℕ) → List MacroLine → Type 0
AllHold declared macros = Each (λ (macro : MacroLine). HoldsWell declared macro.holding) macros

find_keeps : {X : Type 0} (P : X → Type 0) (p : X → Bool) (xs : List X) (x : X) → Each P xs → find p xs ≡ Some x → P x
find_keeps P p [] x a e = absurd (none-some x e)
find_keeps {X} P p (y ∷ xs) x a e = go (p y) (λ f. find_keeps P p xs x a.1 f) e
  where
    go : (b : Bool) → (find p xs ≡ Some x → P x) → cond b (Some y) (find p xs) ≡ Some x → P x
    go true more f = subst P (same_Some y x f) a.0
    go false more f = more f

-- a built-in macro holds something
built_in_some : (name : List ℕ) (holding : Holding) → built_in name ≡ Some holding → holds_some holding ≡ true
built_in_some name holding e =
    go (bytes_eq name (codes "ENTITY")) (bytes_eq name (codes "EVENT")) (bytes_eq name (codes "ANY")) (bytes_eq name (codes "RELATION")) e
  where
    go : (a b c d : Bool) → cond a (Some (record { entity = true; event = false; any = false; relation = false; names = [] }))
        (cond b (Some (record { entity = false; event = true; any = false; relation = false; names = [] }))
        (cond c (Some (record { entity = false; event = false; any = true; relation = false; names = [] }))
        (cond d (Some (record { entity = false; event = false; any = false; relation = true; names = [] })) None))) ≡ Some holding → holds_some holding ≡ true
    go true b c d f = sym (ap (λ (o : Option Holding). option_map_or holds_some o true) f)
    go false true c d f = sym (ap (λ (o : Option Holding). option_map_or holds_some o true) f)
    go false false true d f = sym (ap (λ (o : Option Holding). option_map_or holds_some o true) f)
    go false false false true f = sym (ap (λ (o : Option Holding). option_map_or holds_some o true) f)
    go false false false false f = absurd (none-some holding f)

-- and no names
built_in_none : (name : List ℕ) (holding : Holding) → built_in name ≡ Some holding → holding.names ≡ []
built_in_none name holding e =
    go (bytes_eq name (codes "ENTITY")) (bytes_eq name (codes "EVENT")) (bytes_eq name (codes "ANY")) (bytes_eq name (codes "RELATION")) e
  where
    go : (a b c d : Bool) → cond a (Some (record { entity = true; event = false; any = false; relation = false; names = [] }))
        (cond b (Some (record { entity = false; event = true; any = false; relation = false; names = [] }))
        (cond c (Some (record { entity = false; event = false; any = true; relation = false; names = [] }))
        (cond d (Some (record { entity = false; event = false; any = false; relation = true; names = [] })) None))) ≡ Some holding → holding.names ≡ []
    go true b c d f = sym (ap (λ (o : Option Holding). option_map_or (λ h. h.names) o []) f)
    go false true c d f = sym (ap (λ (o : Option Holding). option_map_or (λ h. h.names) o []) f)
    go false false true d f = sym (ap (λ (o : Option Holding). option_map_or (λ h. h.names) o []) f)
    go false false false true f = sym (ap (λ (o : Option Holding). option_map_or (λ h. h.names) o []) f)
    go false false false false f = absurd (none-some holding f)

named_well : (declared : List (List ℕ)) (macros : List MacroLine) (name : List ℕ) (holding : Holding) → AllHold declared macros → macro_named macros name ≡ Some holding → HoldsWell declared holding
named_well declared macros name holding all e =
    go (built_in name) refl (find (λ (macro : MacroLine). bytes_eq macro.name name) macros) refl e
  where
    go : (o : Option Holding) → built_in name ≡ o → (m : Option MacroLine) → find (λ (macro : MacroLine). bytes_eq macro.name name) macros ≡ m
        → option_or o (option_map (λ (macro : MacroLine). macro.holding) m) ≡ Some holding → HoldsWell declared holding
    go (Some own) f m g h = record {
      some = built_in_some name holding (f ∙ h);
      known = subst (Each (λ one. is_among declared one ≡ true)) (sym (built_in_none name holding (f ∙ h))) tt;
    }
    go None f (Some macro) g h =
        subst (HoldsWell declared) (same_Some macro.holding holding h) (find_keeps (λ (one : MacroLine). HoldsWell declared one.holding) (λ (one : MacroLine). bytes_eq one.name name) macros macro all g)
    go None f None g h = absurd (none-some holding h)

one_may : (declared : List (List ℕ)) (macros : List MacroLine) (names : List (List ℕ)) (relations : Bool) (one : Alternative) → AllHold declared macros → is_unknown macros declared names one ≡ false
    → is_unheld macros relations one ≡ false → MayStand names relations (one_held macros one)
one_may declared macros names relations (Named name) all known held = record { known = (not-false (is_among names name) known, tt); relation = λ e. refl }
one_may declared macros names relations (Held name) all known held = go (macro_named macros name) refl known held
  where
    go : (o : Option Holding) → macro_named macros name ≡ o
        → option_map_or (λ holding. list_any (λ held. is_among declared held && not (is_among names held)) holding.names) o false ≡ false → option_map_or (λ holding. holding.relation && not relations) o true ≡ false
        → MayStand names relations (option_map_or (λ holding. holding) o none_held)
    go None f a b = absurd (true≢false b)
    go (Some holding) f a b = record { known = not_fails declared names holding.names (named_well declared macros name holding all f).known a; relation = λ e. and_not holding.relation relations b e }

pub all_may : (declared : List (List ℕ)) (macros : List MacroLine) (names : List (List ℕ)) (relations : Bool) (alternatives : List Alternative) → AllHold declared macros
    → list_any (is_unknown macros declared names) alternatives ≡ false → list_any (is_unheld macros relations) alternatives ≡ false → MayStand names relations (all_held macros alternatives)
all_may declared macros names relations [] all known held = record { known = tt; relation = λ e. refl }
all_may declared macros names relations (one ∷ more) all known held =
    let k = or_parts (is_unknown macros declared names one) (list_any (is_unknown macros declared names) more) known in
    let h = or_parts (is_unheld macros relations one) (list_any (is_unheld macros relations) more) held in
    may_both names relations (one_held macros one) (all_held macros more) (one_may declared macros names relations one all k.0 h.0) (all_may declared macros names relations more all k.1 h.1)

or_true : (t : Bool) → (t || true) ≡ true
or_true true = refl
or_true false = refl

some_left : (a b : Holding) → holds_some a ≡ true → holds_some (both_held a b) ≡ true
some_left a b e = go a.entity a.event a.any a.relation a.names e
  where
    go : (entity event any relation : Bool) (names : List (List ℕ)) → (entity || event || any || relation || nat_lt 0 (length names)) ≡ true
        → ((entity || b.entity) || (event || b.event) || (any || b.any) || (relation || b.relation) || nat_lt 0 (length (names ++ b.names))) ≡ true
    go true event any relation names f = refl
    go false true any relation names f = ap (λ t. t || (any || b.any) || (relation || b.relation) || nat_lt 0 (length (names ++ b.names))) (or_true b.entity)
    go false false true relation names f = ap (λ t. t || (relation || b.relation) || nat_lt 0 (length (names ++ b.names))) (or_true (b.entity || b.event))
    go false false false true names f = ap (λ t. t || nat_lt 0 (length (names ++ b.names))) (or_true (b.entity || b.event || b.any))
    go false false false false [] f = absurd (true≢false (sym f))
    go false false false false (name ∷ names) f =
        or_right (b.entity || b.event || b.any || b.relation) (nat_lt 0 (suc (length (names ++ b.names)))) (lt-ltb 0 (suc (length (names ++ b.names))) (omega arith))

one_some : (declared : List (List ℕ)) (macros : List MacroLine) (relations : Bool) (one : Alternative) → AllHold declared macros → is_unheld macros relations one ≡ false → holds_some (one_held macros one) ≡ true
one_some declared macros relations (Named name) all e = refl
one_some declared macros relations (Held name) all e = go (macro_named macros name) refl e
  where
    go : (o : Option Holding) → macro_named macros name ≡ o → option_map_or (λ holding. holding.relation && not relations) o true ≡ false → holds_some (option_map_or (λ holding. holding) o none_held) ≡ true
    go None f g = absurd (true≢false g)
    go (Some holding) f g = (named_well declared macros name holding all f).some

-- some alternatives hold something
pub all_some : (declared : List (List ℕ)) (macros : List MacroLine) (relations : Bool) (alternatives : List Alternative) → AllHold declared macros → 0 < length alternatives → list_any (is_unheld macros relations) alternatives ≡ false
    → holds_some (all_held macros alternatives) ≡ true
all_some declared macros relations [] all some held = absurd (omega arith)
all_some declared macros relations (one ∷ more) all some held =
    let h = or_parts (is_unheld macros relations one) (list_any (is_unheld macros relations) more) held in
    some_left (one_held macros one) (all_held macros more) (one_some declared macros relations one all h.0)
