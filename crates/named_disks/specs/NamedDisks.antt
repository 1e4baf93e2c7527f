-- What named disks store, which of them are out, and what a call of them keeps.
use Rattle.std.specs.Prelude.{◌≡◌, ◌≢◌, ℕ, Bool, true, false, List, [], bytes_eq, Option, IfSome, is_some, option_map, unwrap_or, ⊤}
use Rattle.std.specs.List.{list_any}
use Rattle.std.specs.Ordering.{nat_cmp}
use Rattle.std.specs.Cmp.Lexicographic.{slice_cmp}
use Rattle.std.specs.FinMap as map
use Rattle.mark_base.specs.Streams.{TellsFault}

-- what disks store: a finite map from names, in the order of their bytes, to what a read of the disk of a name gives
abbrev pub Stored : Type 0
Stored = map.FinMap (slice_cmp nat_cmp) (List ℕ)

-- the bytes of a name; a name that the map lacks reads as 0 bytes
abbrev pub bytes_at : List ℕ → Stored → List ℕ
bytes_at name stored = unwrap_or (map.get stored name) []

-- what the disk of a name reads as, where the disks tell it
abbrev pub reads_as : Option Stored → List ℕ → Option (List ℕ)
reads_as stored name = option_map (bytes_at name) stored

-- whether there is a disk of a name, where the disks tell it
abbrev pub is_there : Option Stored → List ℕ → Option Bool
is_there stored name = option_map (λ it. is_some (map.get it name)) stored

-- there is no disk of a name, as far as the disks tell it
abbrev pub IsLacking : Option Stored → List ℕ → Type 0
IsLacking stored name = IfSome (is_there stored name) (λ there. there ≡ false)

-- whether the disk of a name is out, where the disks tell which names are
abbrev pub is_out : Option (List (List ℕ)) → List ℕ → Option Bool
is_out out name = option_map (λ names. list_any (bytes_eq name) names) out

-- the disk of a name is out, as far as the disks tell it
abbrev pub IsOut : Option (List (List ℕ)) → List ℕ → Type 0
IsOut out name = IfSome (is_out out name) (λ told. told ≡ true)

-- the disk of a name is not out, as far as the disks tell it
abbrev pub IsIn : Option (List (List ℕ)) → List ℕ → Type 0
IsIn out name = IfSome (is_out out name) (λ told. told ≡ false)

-- Each of these names is as before: what its disk reads as, whether there is one, and whether it is out. What was told of all names is still told.
pub record KeepsNames (These : List ℕ → Type 0) (stored : Option Stored) (out : Option (List (List ℕ))) (stored_now : Option Stored) (out_now : Option (List (List ℕ))) : Type 0 where
  pub told : is_some stored_now ≡ is_some stored
  pub told_out : is_some out_now ≡ is_some out
  pub reads : (name : List ℕ) → These name → reads_as stored_now name ≡ reads_as stored name
  pub same_there : (name : List ℕ) → These name → is_there stored_now name ≡ is_there stored name
  pub same_out : (name : List ℕ) → These name → is_out out_now name ≡ is_out out name

-- each name but this one is as before
abbrev pub KeepsOthers : List ℕ → Option Stored → Option (List (List ℕ)) → Option Stored → Option (List (List ℕ)) → Type 0
KeepsOthers name = KeepsNames (λ other. other ≢ name)

-- each name is as before
abbrev pub KeepsAll : Option Stored → Option (List (List ℕ)) → Option Stored → Option (List (List ℕ)) → Type 0
KeepsAll = KeepsNames (λ name. ⊤)

-- What a call tells of the faults of named disks: the count rose where the call says that they failed, and stands
-- elsewhere; where no fault can come none comes, and it stays so.
pub record TellsDisks (faults : ℕ) (faultless : Type 0) (faults_now : ℕ) (faultless_now : Type 0) (failed : Type 0) : Type 0 where
  pub cause : TellsFault failed faults faults_now
  pub stays : faultless → faultless_now
  pub never : faultless → failed → ⊥
