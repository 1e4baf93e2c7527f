-- The classes of a file are the smallest disjoint sets that its lines allow: a class is what lines of its type bring together, and no more.
use Rattle.std.specs.Prelude.{◌≡◌, ℕ, ◌<◌, ◌==◌, ◌&&◌, Bool, true, List, [], ◌∷◌, length}
use Rattle.std.specs.List.{AllByRecursion, Contains, list_all}
use Rattle.layer_model.specs.declared.class.Class.{Class}
use Rattle.layer_model.specs.Classes.{has_rank, is_among}
use Rattle.ann_reader.specs.LineMeanings.{Said}

-- the class is of the type of a line, and has all of the line's members
abbrev pub holds_line : Said → Class → Bool
holds_line said class = class.kind.n == said.kind && list_all (λ id. is_among id class.members) said.members

-- the ID of the place is a member on a line of the type
abbrev pub is_member_on : ℕ → ℕ → Said → Bool
is_member_on kind place said = said.kind == kind && has_rank place said.members

-- a chain of lines of the type leads from one ID to another: the first has the one, each shares a member with the next, and the last has the other
abbrev pub Leads : ℕ → ℕ → ℕ → List Said → Type 0
Leads kind from to [] = from ≡ to
Leads kind from to (said ∷ more) = (is_member_on kind from said ≡ true) × ((place : ℕ) × (is_member_on kind place said ≡ true) × Leads kind place to more)

-- some chain of these lines, of at least one, leads from one ID to another
pub record AreLinked (lines : List Said) (kind from to : ℕ) : Type 0 where
  pub chain : List Said
  pub taken : AllByRecursion (Contains lines) chain
  pub some : 0 < length chain
  pub leads : Leads kind from to chain

-- each two members of a class are linked
abbrev pub IsLinkedClass : List Said → Class → Type 0
IsLinkedClass lines class = (a b : ℕ) → has_rank a class.members ≡ true → has_rank b class.members ≡ true → AreLinked lines class.kind.n a b
