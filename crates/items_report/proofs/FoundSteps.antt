-- A line more in the map.
use Rattle.std.proofs.Common.{◌≡◌, ℕ, Bool, true, false, cond, Option, Some, List, [], ◌∷◌, ◌-◌, ◌<◌, ◌≤◌, suc, length, drop, get_or, drop-cons, arith, refl, ◌∙◌, ap, bytes_eq}
use Rattle.std.specs.Option.{option_map_or}
use Rattle.std.specs.Ordering.{nat_cmp}
use Rattle.std.specs.Cmp.Lexicographic.{slice_cmp}
use Rattle.std.specs.Map.{update}
use Rattle.std.specs.BTreeMap.{BTreeMap, get_by}
use Rattle.items_report.specs.ItemRows.{behind_id, id_in, rest_in}
use Rattle.items_report.specs.FoundLines.{FindsLines, found_behind}
use denote.Ref.{Bor}

-- what a map has for an ID
abbrev pub look_up : BTreeMap (Bor (List ℕ)) (Bor (List ℕ)) → List ℕ → Option (Bor (List ℕ))
look_up behind id = get_by (λ key. slice_cmp nat_cmp id key.now) behind

-- a choice of what is found is one of what stands behind the ID
chosen : (b : Bool) (rest : Bor (List ℕ)) (old : Option (Bor (List ℕ)))
    → option_map_or (λ r. r.now) (cond b (Some rest) old) [] ≡ cond b rest.now (option_map_or (λ r. r.now) old [])
chosen true rest old = refl
chosen false rest old = refl

-- once a line is put down over those behind it, the map has it and those
pub finds_more : (line : List ℕ) (lines : List (List ℕ)) (before after : BTreeMap (Bor (List ℕ)) (Bor (List ℕ))) (first : List ℕ) (rest : Bor (List ℕ))
    → FindsLines lines before → first ≡ id_in line → rest.now ≡ rest_in line
    → ((id : List ℕ) → look_up after id ≡ update bytes_eq (look_up before) first (Some rest) id)
    → FindsLines (line ∷ lines) after
finds_more line lines before after first rest finds begins same updates id =
    ap (λ o. option_map_or (λ r. r.now) o []) (updates id)
    ∙ chosen (bytes_eq first id) rest (look_up before id)
    ∙ ap (λ r. cond (bytes_eq first id) r (found_behind id before)) same
    ∙ ap (λ r. cond (bytes_eq first id) (rest_in line) r) (finds id)
    ∙ ap (λ word. cond (bytes_eq word id) (rest_in line) (behind_id id lines)) begins

-- the lines from the one before a place on
pub line_before : (lines : List (Bor (List ℕ))) (place : ℕ) (none : Bor (List ℕ)) → 0 < place → place ≤ length lines
    → drop (place - 1) lines ≡ get_or lines (place - 1) none ∷ drop place lines
line_before lines place none some within =
    let next : suc (place - 1) ≡ place = omega arith in
    drop-cons lines (place - 1) none (omega arith) ∙ ap (λ k. get_or lines (place - 1) none ∷ drop k lines) next
