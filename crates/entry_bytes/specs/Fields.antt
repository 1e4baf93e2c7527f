-- The bytes of the fields of an entry. Numbers have their low byte first.
use Rattle.std.specs.Prelude.{◌≡◌, ℕ, ◌<◌, ◌^◌, Bool, List, ◌∷◌, ◌++◌, length, None, if◌then◌else◌}
use Rattle.std.specs.List.{flat_map, AllByRecursion}
use Rattle.std.specs.Int.{w32, w64, to_le_bytes}
use Rattle.std.specs.Str.{IsUtf8}
use Rattle.mark_base.specs.Names.{slug_fault}
use Rattle.entry_bytes.specs.declared.person.Person.{Person}

-- a number below 2 ^ 32 in four bytes
unfoldable pub u32_bytes : ℕ → List ℕ
u32_bytes n = to_le_bytes w32 n

-- a number below 2 ^ 64 in eight bytes
unfoldable pub u64_bytes : ℕ → List ℕ
u64_bytes n = to_le_bytes w64 n

-- a byte that is 1 for yes and 0 for no
abbrev pub flag : Bool → ℕ
flag b = if b then 1 else 0

-- a slug: one byte of length, and its bytes
abbrev pub slug_bytes : List ℕ → List ℕ
slug_bytes slug = length slug ∷ slug

-- a text: four bytes of length, and its UTF-8 bytes
abbrev pub text_bytes : List ℕ → List ℕ
text_bytes text = u32_bytes (length text) ++ text

-- a person: 1 for a curator and 0 for an annotator, and the name
abbrev pub person_bytes : Person → List ℕ
person_bytes person = flag person.curator ∷ slug_bytes person.name

-- people: one byte of their number, and each
abbrev pub people_bytes : List Person → List ℕ
people_bytes people = length people ∷ flat_map person_bytes people

-- a text, whose length is below 2 ^ 32
pub record IsText (text : List ℕ) : Type 0 where
  pub utf8 : IsUtf8 text
  pub size : length text < 2 ^ 32

-- the spelling of a slug
pub record IsSlug (slug : List ℕ) : Type 0 where
  pub utf8 : IsUtf8 slug
  pub spelling : slug_fault slug ≡ None

-- at most 255 people, each with a name
pub record ArePeople (people : List Person) : Type 0 where
  pub count : length people < 256
  pub names : AllByRecursion (λ person. IsSlug person.name) people
