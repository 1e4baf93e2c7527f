-- Equivalence classes: the order of their members, the order of classes, and how they are joined and parted.
use Rattle.std.specs.Prelude.{◌≡◌, ℕ, ◌+◌, ◌*◌, ◌<◌, ◌≤◌, ◌==◌, ◌&&◌, ◌||◌, not, nat_lt, Bool, true, false, if◌then◌else◌, List, [], ◌∷◌, ◌++◌, length, map, Option, Some, None, ⊤}
use Rattle.std.specs.Ordering.{nat_cmp, match_ordering}
use Rattle.std.specs.List.{list_any, filter, fold, AllByRecursion}
use Rattle.std.specs.List.Sorted.{IsStrictlySortedBy}
use Rattle.mark_base.specs.declared.ann_id.AnnId.{AnnId}
use Rattle.mark_base.specs.declared.ann_id.Kind.{Kind}
use Rattle.mark_base.specs.declared.ann_id.Kind.TheVariants as letter
use Rattle.mark_base.specs.declared.table_places.RelId.{RelId}
use Rattle.layer_model.specs.declared.class.Class.{Class}

-- ---- IDs in their order: by letter, then by number

-- the place of a letter among T, E, R, A, M, N and #
abbrev pub letter_place : Kind → ℕ
letter_place letter.Text = 0
letter_place letter.Event = 1
letter_place letter.Relation = 2
letter_place letter.Attribute = 3
letter_place letter.Legacy = 4
letter_place letter.Normal = 5
letter_place letter.Note = 6

-- the place of an ID among all IDs, whose numbers are at most 999,999,999
abbrev pub rank : AnnId → ℕ
rank id = letter_place id.kind * 1000000000 + id.number

-- one of these IDs has the place
abbrev pub has_rank : ℕ → List AnnId → Bool
has_rank place ids = list_any (λ id. rank id == place) ids

-- the ID is one of these
abbrev pub is_among : AnnId → List AnnId → Bool
is_among id ids = has_rank (rank id) ids

-- an ID put in its place among ascending ones
abbrev pub with_id : List AnnId → AnnId → List AnnId
with_id [] id = id ∷ []
with_id (first ∷ ids) id = match_ordering (nat_cmp (rank id) (rank first)) (id ∷ first ∷ ids) (id ∷ ids) (first ∷ with_id ids id)

-- these IDs, each once, ascending
abbrev pub ascending : List AnnId → List AnnId
ascending ids = fold with_id [] ids

-- the IDs ascend, each once
abbrev pub Ascends : List AnnId → Type 0
Ascends ids = IsStrictlySortedBy nat_cmp (map rank ids)

-- ---- classes in their order: by type, then by least member

-- the place of the least member
abbrev pub least_of : List AnnId → ℕ
least_of [] = 0
least_of (first ∷ ids) = rank first

-- the first class comes before the second
abbrev pub comes_before : Class → Class → Bool
comes_before a b = nat_lt a.kind.n b.kind.n || (a.kind.n == b.kind.n && nat_lt (least_of a.members) (least_of b.members))

-- a class put in its place among classes in their order
abbrev pub insert_class : Class → List Class → List Class
insert_class class [] = class ∷ []
insert_class class (first ∷ classes) = if comes_before class first then class ∷ first ∷ classes else first ∷ insert_class class classes

-- ---- joining: a class of these members and of all classes of the type that share one with them

-- the class is of the type and has one of these members
abbrev pub shares : ℕ → List AnnId → Class → Bool
shares kind ids class = class.kind.n == kind && list_any (λ id. is_among id ids) class.members

-- the members of the classes that share one with these
abbrev pub sharing : ℕ → List AnnId → List Class → List AnnId
sharing kind ids [] = []
sharing kind ids (class ∷ classes) = if shares kind ids class then class.members ++ sharing kind ids classes else sharing kind ids classes

-- the classes that share no member with these
abbrev pub apart : ℕ → List AnnId → List Class → List Class
apart kind ids classes = filter (λ class. not (shares kind ids class)) classes

-- the class that these members make with all that share one
abbrev pub joined_class : RelId → List AnnId → List Class → Class
joined_class kind ids classes = record { kind = kind; members = ascending (ids ++ sharing kind.n ids classes) }

-- the classes with these members joined
abbrev pub joined : RelId → List AnnId → List Class → List Class
joined kind ids classes = insert_class (joined_class kind ids classes) (apart kind.n ids classes)

-- ---- parting: a member leaves the class of the type that has it

-- the class is of the type and has the member
abbrev pub has_member : ℕ → AnnId → Class → Bool
has_member kind id class = class.kind.n == kind && is_among id class.members

-- the class that has the member, of which there is at most one
abbrev pub class_with : ℕ → AnnId → List Class → Option Class
class_with kind id [] = None
class_with kind id (class ∷ classes) = if has_member kind id class then Some class else class_with kind id classes

-- the other classes
abbrev pub other_classes : ℕ → AnnId → List Class → List Class
other_classes kind id [] = []
other_classes kind id (class ∷ classes) = if has_member kind id class then classes else class ∷ other_classes kind id classes

-- a class less one member
abbrev pub without_member : AnnId → Class → Class
without_member id class = record class { members = filter (λ member. not (rank member == rank id)) class.members }

-- what is left of a class takes its place, where it has two members or more
abbrev pub settled : Class → List Class → List Class
settled class classes = if nat_lt (length class.members) 2 then classes else insert_class class classes

-- what is left of the class that had the member takes its place among the others; where none had it they stay
abbrev pub settled_rest : AnnId → Option Class → List Class → List Class
settled_rest id None classes = classes
settled_rest id (Some class) classes = settled (without_member id class) classes

-- the classes with the member taken out of the one that has it
abbrev pub parted : ℕ → AnnId → List Class → List Class
parted kind id classes = settled_rest id (class_with kind id classes) (other_classes kind id classes)

-- ---- what the classes of a layer keep

-- a class has a member, and its members ascend
pub record IsClass (class : Class) : Type 0 where
  pub some : 0 < length class.members
  pub ascends : Ascends class.members

-- of two classes of one type, none has a member of the other
abbrev pub AreDisjoint : Class → Class → Type 0
AreDisjoint a b = a.kind.n ≡ b.kind.n → (place : ℕ) → has_rank place a.members ≡ true → has_rank place b.members ≡ false

-- the first of two classes comes before the second, and they have no member in common where they are of one type
pub record Precedes (a b : Class) : Type 0 where
  pub before : comes_before a b ≡ true
  pub disjoint : AreDisjoint a b

-- each is a class, and precedes those behind it
abbrev pub AreClasses : List Class → Type 0
AreClasses [] = ⊤
AreClasses (class ∷ classes) = IsClass class × AllByRecursion (Precedes class) classes × AreClasses classes

-- there are few enough classes to number them
pub record IsClassList (classes : List Class) : Type 0 where
  pub few : length classes ≤ 4294967295
  pub ordered : AreClasses classes
