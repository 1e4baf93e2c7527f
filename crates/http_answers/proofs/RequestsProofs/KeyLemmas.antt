-- The keys of an object.
use Rattle.std.proofs.Common.{◌≡◌, ℕ, ◌&&◌, Bool, List, [], ◌∷◌, map, refl, ap}
use Rattle.std.specs.Prelude.{String, string_bytes}
use Rattle.std.specs.List.{list_all}
use Rattle.std.specs.declared.alloc.Global.{Global}
use Rattle.serde_json.specs.declared.value.Value.{Value}
use Rattle.serde_json.specs.View.{members_view}
use Rattle.command_json.specs.BodyFields.{keys_of}

-- what all keys of a map pass, all keys of its object pass
pub keys_view : (test : List ℕ → Bool) (entries : List (String Global × Value))
    → list_all (λ key. test (string_bytes key)) (map (λ entry. entry.0) entries) ≡ list_all test (keys_of (members_view entries))
keys_view test [] = refl
keys_view test (entry ∷ entries) = ap (λ b. test (string_bytes entry.0) && b) (keys_view test entries)
