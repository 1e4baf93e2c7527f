-- A type is sought from place to place.
use Rattle.std.proofs.Common.{◌≡◌, ℕ, ◌+◌, Bool, true, false, cond, List, [], ◌∷◌, zero, suc, drop, Option, Some, None, is_none, refl, sym, ◌∙◌, ap, add-one, slice_get, option_map}
use Rattle.std.specs.Option.{option_map_or}
use Rattle.std.specs.List.{position_from}
use Rattle.mark_base.specs.declared.table_places.TypeId.{TypeId}
use Rattle.mark_base.specs.Names.{name_fault}
use Rattle.type_hierarchy.specs.declared.type_row.TypeRow.{TypeRow}
use Rattle.type_hierarchy.specs.TypeTrees.{is_named, type_named}
use Rattle.ann_reader.specs.NamesRead.{by_name}

-- the search goes on behind a place
step : (test : TypeRow → Bool) (i k : ℕ) (rows : List TypeRow)
    → position_from test i (drop k rows) ≡ option_map_or (λ row. cond (test row) (Some i) (position_from test (i + 1) (drop (suc k) rows))) (slice_get rows k) None
step test i zero [] = refl
step test i (suc k) [] = refl
step test i zero (row ∷ rows) = refl
step test i (suc k) (row ∷ rows) = step test i k rows

at : (test : TypeRow → Bool) (k : ℕ) (rows : List TypeRow) (row : Option TypeRow) → row ≡ slice_get rows k
    → position_from test k (drop k rows) ≡ option_map_or (λ row. cond (test row) (Some k) (position_from test (k + 1) (drop (suc k) rows))) row None
at test k rows row is = step test k k rows ∙ ap (λ r. option_map_or (λ row. cond (test row) (Some k) (position_from test (k + 1) (drop (suc k) rows))) r None) (sym is)

-- the type at a place has the name
pub found_here : (test : TypeRow → Bool) (k : ℕ) (rows : List TypeRow) (row : TypeRow) → Some row ≡ slice_get rows k → test row ≡ true → position_from test k (drop k rows) ≡ Some k
found_here test k rows row is e = at test k rows (Some row) is ∙ ap (λ t. cond t (Some k) (position_from test (k + 1) (drop (suc k) rows))) e

-- it has another
pub passed : (test : TypeRow → Bool) (k : ℕ) (rows : List TypeRow) (row : TypeRow) → Some row ≡ slice_get rows k → test row ≡ false
    → position_from test k (drop k rows) ≡ position_from test (k + 1) (drop (k + 1) rows)
passed test k rows row is e =
    at test k rows (Some row) is ∙ ap (λ t. cond t (Some k) (position_from test (k + 1) (drop (suc k) rows))) e ∙ ap (λ n. position_from test (k + 1) (drop n rows)) (sym (add-one k))

-- no type stands there
pub past_all : (test : TypeRow → Bool) (k : ℕ) (rows : List TypeRow) → None ≡ slice_get rows k → position_from test k (drop k rows) ≡ None
past_all test k rows is = at test k rows None is

abbrev type_at : ℕ → TypeId
type_at k = record { n = k }

-- a word that a type has is a name
pub found_type : (rows : List TypeRow) (word : List ℕ) (k : ℕ) → name_fault word ≡ None → position_from (is_named word) 0 rows ≡ Some k → Some (record { n = k }) ≡ by_name (type_named rows) word
found_type rows word k good is = sym (ap (λ f. cond (is_none f) (type_named rows word) None) good ∙ ap (option_map type_at) is)

none_either : (b : Bool) (o : Option TypeId) → o ≡ None → cond b o None ≡ None
none_either true o e = e
none_either false o e = refl

-- no type has it
pub no_type : (rows : List TypeRow) (word : List ℕ) → position_from (is_named word) 0 rows ≡ None → None ≡ by_name (type_named rows) word
no_type rows word is = sym (none_either (is_none (name_fault word)) (type_named rows word) (ap (option_map type_at) is))
