-- A role is sought from place to place.
use Rattle.std.proofs.Common.{◌≡◌, ℕ, ◌+◌, Bool, true, false, cond, List, [], ◌∷◌, zero, suc, drop, Option, Some, None, refl, sym, ◌∙◌, ap, add-one, bytes_eq, slice_get, option_map}
use Rattle.std.specs.Option.{option_map_or}
use Rattle.std.specs.List.{position_from}
use Rattle.conf_model.specs.declared.role.Role.{Role}

-- the search goes on behind a place
position_step : {K : Type 0} (test : K → Bool) (i k : ℕ) (xs : List K)
    → position_from test i (drop k xs) ≡ option_map_or (λ x. cond (test x) (Some i) (position_from test (i + 1) (drop (suc k) xs))) (slice_get xs k) None
position_step test i zero [] = refl
position_step test i (suc k) [] = refl
position_step test i zero (x ∷ xs) = refl
position_step test i (suc k) (x ∷ xs) = position_step test i k xs

some_word : {a b : List ℕ} → Some a ≡ Some b → a ≡ b
some_word e = cc

some_none : {a : List ℕ} → Some a ≡ None → ⊥
some_none e = cc

-- by what stands at the place
by_place : (name shown : List ℕ) (b : Bool) (i : ℕ) (rest : Option ℕ) (there : Option Role) → Some shown ≡ option_map (λ role. role.name) there → bytes_eq shown name ≡ b
    → option_map_or (λ role. cond (bytes_eq role.name name) (Some i) rest) there None ≡ cond b (Some i) rest
by_place name shown b i rest None is e = absurd (some_none is)
by_place name shown b i rest (Some role) is e = ap (λ t. cond t (Some i) rest) (ap (λ word. bytes_eq word name) (sym (some_word is)) ∙ e)

-- the role at a place has the name
pub found_here : (name shown : List ℕ) (k : ℕ) (roles : List Role) → Some shown ≡ option_map (λ role. role.name) (slice_get roles k) → bytes_eq shown name ≡ true
    → position_from (λ role. bytes_eq role.name name) k (drop k roles) ≡ Some k
found_here name shown k roles is e =
    position_step (λ role. bytes_eq role.name name) k k roles ∙ by_place name shown true k (position_from (λ role. bytes_eq role.name name) (k + 1) (drop (suc k) roles)) (slice_get roles k) is e

-- it has another
pub passed : (name shown : List ℕ) (k : ℕ) (roles : List Role) → Some shown ≡ option_map (λ role. role.name) (slice_get roles k) → bytes_eq shown name ≡ false
    → position_from (λ role. bytes_eq role.name name) k (drop k roles) ≡ position_from (λ role. bytes_eq role.name name) (k + 1) (drop (k + 1) roles)
passed name shown k roles is e =
    position_step (λ role. bytes_eq role.name name) k k roles ∙ by_place name shown false k (position_from (λ role. bytes_eq role.name name) (k + 1) (drop (suc k) roles)) (slice_get roles k) is e
    ∙ ap (λ n. position_from (λ role. bytes_eq role.name name) (k + 1) (drop n roles)) (sym (add-one k))

nothing : (name : List ℕ) (i : ℕ) (rest : Option ℕ) (there : Option Role) → None ≡ option_map (λ role. role.name) there
    → option_map_or (λ role. cond (bytes_eq role.name name) (Some i) rest) there None ≡ None
nothing name i rest None is = refl
nothing name i rest (Some role) is = absurd (some_none (sym is))

-- no role stands there
pub past_all : (name : List ℕ) (k : ℕ) (roles : List Role) → None ≡ option_map (λ role. role.name) (slice_get roles k)
    → position_from (λ role. bytes_eq role.name name) k (drop k roles) ≡ None
past_all name k roles is =
    position_step (λ role. bytes_eq role.name name) k k roles ∙ nothing name k (position_from (λ role. bytes_eq role.name name) (k + 1) (drop (suc k) roles)) (slice_get roles k) is
