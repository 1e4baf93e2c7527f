-- What the values of a read file declare is what the file declares, in the order of its lines.
use Rattle.std.proofs.Common.{◌≡◌, ℕ, ◌+◌, ◌≤◌, Bool, true, false, not, cond, List, [], ◌∷◌, map, filter, refl, sym, ◌∙◌, ap, subst, arith}
use Rattle.annotation_conf.specs.declared.file.File.{File as FileValue}
use Rattle.conf_model.specs.ConfNames.{TypeLine, NamedLine, MacroLine, File}
use Rattle.conf_model.specs.ConfFaults.{Declared, of_types, of_named, firsts, stood_before}
use Rattle.annotation_conf.specs.FirstFaults.{IsRising}
use Rattle.annotation_conf.specs.FileKept.{KeptType, KeptNamed, KeptMacro, kept_type, kept_named, kept_macro}
use Rattle.annotation_conf.specs.FileShows.{seen_type, seen_named, seen_macro}
use Rattle.annotation_conf.specs.NamePlaces.{firsts_among}
use Rattle.annotation_conf.specs.KnownFiles.{type_declared, named_declared, macro_declared, of_macros, IsKnown}
use Rattle.annotation_conf.proofs.FaultNames.{map_of_rising}

map_twice : {X Y Z : Type 0} (h : Y → Z) (f : X → Y) (xs : List X) → map h (map f xs) ≡ map (λ x. h (f x)) xs
map_twice h f [] = refl
map_twice h f (x ∷ xs) = ap (λ r. h (f x) ∷ r) (map_twice h f xs)

-- two lists that show the same show the same through a further function
pub same_through : {X Y Z W : Type 0} (h : Z → W) (f : X → Z) (g : Y → Z) (xs : List X) (ys : List Y) → map f xs ≡ map g ys
    → map (λ x. h (f x)) xs ≡ map (λ y. h (g y)) ys
same_through h f g xs ys e = sym (map_twice h f xs) ∙ ap (map h) e ∙ map_twice h g ys

pub filter_through : {X Z : Type 0} (p : Z → Bool) (f : X → Z) (xs : List X) → filter p (map f xs) ≡ map f (filter (λ x. p (f x)) xs)
filter_through p f [] = refl
filter_through {X} {Z} p f (x ∷ xs) =
    let P : Bool → Type 0 = λ b. cond b (f x ∷ filter p (map f xs)) (filter p (map f xs)) ≡ map f (cond b (x ∷ filter (λ y. p (f y)) xs) (filter (λ y. p (f y)) xs)) in
    elim (p (f x)) as P [ true ↦ ap (λ r. f x ∷ r) (filter_through p f xs) | false ↦ filter_through p f xs ]

pub same_filtered : {X Y Z : Type 0} (p : Z → Bool) (f : X → Z) (g : Y → Z) (xs : List X) (ys : List Y) → map f xs ≡ map g ys
    → map f (filter (λ x. p (f x)) xs) ≡ map g (filter (λ y. p (g y)) ys)
same_filtered p f g xs ys e = sym (filter_through p f xs) ∙ ap (filter p) e ∙ filter_through p g ys

pub rising_from : {X : Type 0} (n : X → ℕ) (m k : ℕ) (xs : List X) → k ≤ m → IsRising n m xs → IsRising n k xs
rising_from n m k [] le rising = tt
rising_from n m k (x ∷ xs) le rising = (omega (arith, rising.0), rising.1)

pub rising_filter : {X : Type 0} (n : X → ℕ) (p : X → Bool) (m : ℕ) (xs : List X) → IsRising n m xs → IsRising n m (filter p xs)
rising_filter n p m [] rising = tt
rising_filter {X} n p m (x ∷ xs) rising =
    let rest : IsRising n (n x + 1) (filter p xs) = rising_filter n p (n x + 1) xs rising.1 in
    let P : Bool → Type 0 = λ b. IsRising n m (cond b (x ∷ filter p xs) (filter p xs)) in
    elim (p x) as P [ true ↦ (rising.0, rest) | false ↦ rising_from n (n x + 1) m (filter p xs) (omega (arith, rising.0)) rest ]

abbrev declared_kept : KeptType → Declared
declared_kept line = record { number = line.number; name = line.name }

abbrev declared_kept_named : KeptNamed → Declared
declared_kept_named line = record { number = line.number; name = line.name }

abbrev declared_kept_macro : KeptMacro → Declared
declared_kept_macro line = record { number = line.number; name = line.name }

pub entities_shown : (values : FileValue) (file : File) → IsKnown values file → map type_declared values.entities.items ≡ of_types file.entities
entities_shown values file known = same_through declared_kept seen_type kept_type values.entities.items file.entities known.shows.entities

pub events_shown : (values : FileValue) (file : File) → IsKnown values file → map type_declared values.events.items ≡ of_types file.events
events_shown values file known = same_through declared_kept seen_type kept_type values.events.items file.events known.shows.events

pub usable_entities_shown : (values : FileValue) (file : File) → IsKnown values file
    → map type_declared (filter (λ line. line.usable) values.entities.items) ≡ of_types (filter (λ line. line.usable) file.entities)
usable_entities_shown values file known =
    same_through declared_kept seen_type kept_type (filter (λ line. line.usable) values.entities.items) (filter (λ line. line.usable) file.entities)
    (same_filtered (λ line. line.usable) seen_type kept_type values.entities.items file.entities known.shows.entities)

pub usable_events_shown : (values : FileValue) (file : File) → IsKnown values file
    → map type_declared (filter (λ line. line.usable) values.events.items) ≡ of_types (filter (λ line. line.usable) file.events)
usable_events_shown values file known =
    same_through declared_kept seen_type kept_type (filter (λ line. line.usable) values.events.items) (filter (λ line. line.usable) file.events)
    (same_filtered (λ line. line.usable) seen_type kept_type values.events.items file.events known.shows.events)

pub relations_shown : (values : FileValue) (file : File) → IsKnown values file → map named_declared values.relations.items ≡ of_named file.relations
relations_shown values file known = same_through declared_kept_named seen_named kept_named values.relations.items file.relations known.shows.relations

pub attributes_shown : (values : FileValue) (file : File) → IsKnown values file → map named_declared values.attributes.items ≡ of_named file.attributes
attributes_shown values file known = same_through declared_kept_named seen_named kept_named values.attributes.items file.attributes known.shows.attributes

pub macros_shown : (values : FileValue) (file : File) → IsKnown values file → map macro_declared values.macros.items ≡ of_macros file.macros
macros_shown values file known = same_through declared_kept_macro seen_macro kept_macro values.macros.items file.macros known.shows.macros

abbrev pub Rises : List Declared → Type 0
Rises all = IsRising (λ (one : Declared). one.number) 1 all

pub types_rise : (lines : List TypeLine) → IsRising (λ (line : TypeLine). line.number) 1 lines → Rises (of_types lines)
types_rise lines rising = map_of_rising (λ (line : TypeLine). record { number = line.number; name = line.name }) (λ (one : Declared). one.number) 1 lines rising

pub named_rise : (lines : List NamedLine) → IsRising (λ (line : NamedLine). line.number) 1 lines → Rises (of_named lines)
named_rise lines rising = map_of_rising (λ (line : NamedLine). record { number = line.number; name = line.name }) (λ (one : Declared). one.number) 1 lines rising

pub macros_rise : (lines : List MacroLine) → IsRising (λ (line : MacroLine). line.number) 1 lines → Rises (of_macros lines)
macros_rise lines rising = map_of_rising (λ (line : MacroLine). record { number = line.number; name = line.name }) (λ (one : Declared). one.number) 1 lines rising

-- what the lists of a file's values declare ascends
pub record DeclareInOrder (values : FileValue) : Type 0 where
  pub entities : Rises (map type_declared values.entities.items)
  pub events : Rises (map type_declared values.events.items)
  pub usable_entities : Rises (map type_declared (filter (λ line. line.usable) values.entities.items))
  pub usable_events : Rises (map type_declared (filter (λ line. line.usable) values.events.items))
  pub relations : Rises (map named_declared values.relations.items)
  pub attributes : Rises (map named_declared values.attributes.items)
  pub macros : Rises (map macro_declared values.macros.items)

pub declare_in_order : (values : FileValue) (file : File) → IsKnown values file → DeclareInOrder values
declare_in_order values file known = record {
  entities = subst Rises (sym (entities_shown values file known)) (types_rise file.entities known.order.entities);
  events = subst Rises (sym (events_shown values file known)) (types_rise file.events known.order.events);
  usable_entities = subst Rises (sym (usable_entities_shown values file known))
      (types_rise (filter (λ line. line.usable) file.entities) (rising_filter (λ (line : TypeLine). line.number) (λ line. line.usable) 1 file.entities known.order.entities));
  usable_events = subst Rises (sym (usable_events_shown values file known))
      (types_rise (filter (λ line. line.usable) file.events) (rising_filter (λ (line : TypeLine). line.number) (λ line. line.usable) 1 file.events known.order.events));
  relations = subst Rises (sym (relations_shown values file known)) (named_rise file.relations known.order.relations);
  attributes = subst Rises (sym (attributes_shown values file known)) (named_rise file.attributes known.order.attributes);
  macros = subst Rises (sym (macros_shown values file known)) (macros_rise file.macros known.order.macros);
}

-- the first lines of names are those of relation types
pub firsts_shown : (lines : List NamedLine) → firsts_among (of_named lines) ≡ of_named (firsts lines)
firsts_shown lines =
    filter_through (λ (one : Declared). not (stood_before one.number one.name (of_named lines))) (λ (line : NamedLine). record { number = line.number; name = line.name }) lines

pub firsts_rise : (all : List Declared) → Rises all → Rises (firsts_among all)
firsts_rise all rising = rising_filter (λ (one : Declared). one.number) (λ one. not (stood_before one.number one.name all)) 1 all rising
