-- The first line of a name by its place.
use Rattle.std.proofs.Common.{◌≡◌, ℕ, ◌+◌, ◌-◌, ◌<◌, ◌≤◌, Bool, true, false, cond, List, [], ◌∷◌, Some, None, suc, length, get_or, bytes_eq, refl, sym, ◌∙◌, ap, arith}
use Rattle.std.specs.List.{position_from}
use Rattle.std.proofs.lemmas.Option.{same_Some}
use Rattle.std.proofs.lemmas.List.{get_or-map, length-map}
use Rattle.annotation_conf.specs.declared.file.File.{File as FileValue}
use Rattle.annotation_conf.specs.declared.file.NamedLine.{NamedLine as NamedLineValue}
use Rattle.conf_model.specs.ConfNames.{NamedLine, File}
use Rattle.conf_model.specs.ConfFaults.{of_named, first_line}
use Rattle.annotation_conf.specs.FileKept.{kept_named}
use Rattle.annotation_conf.specs.FileShows.{seen_named}
use Rattle.annotation_conf.specs.NamePlaces.{is_called}
use Rattle.annotation_conf.specs.KnownFiles.{IsKnown}

-- the first line of a name stands at its place
pub record FirstAt (lines : List NamedLine) (i place : ℕ) (name : List ℕ) : Type 0 where
  pub from : i ≤ place
  pub within : place < i + length lines
  pub first : (d : NamedLine) → first_line lines name ≡ Some (get_or lines (place - i) d)

first_step : (x : NamedLine) (lines : List NamedLine) (i place : ℕ) (name : List ℕ)
    → (position_from (is_called name) (i + 1) (of_named lines) ≡ Some place → FirstAt lines (i + 1) place name)
    → (b : Bool) → bytes_eq x.name name ≡ b → cond b (Some i) (position_from (is_called name) (i + 1) (of_named lines)) ≡ Some place
    → FirstAt (x ∷ lines) i place name
first_step x lines i place name rest true is found =
    let here : i ≡ place = same_Some i place found in
    let zero_there : place - i ≡ 0 = omega arith in
    record {
      from = omega arith;
      within = omega arith;
      first = λ d. ap (λ b. cond b (Some x) (first_line lines name)) is ∙ ap (λ k. Some (get_or (x ∷ lines) k d)) (sym zero_there);
    }
first_step x lines i place name rest false is found =
    let there : FirstAt lines (i + 1) place name = rest found in
    let next : suc (place - (i + 1)) ≡ place - i = omega (arith, there.from) in
    record {
      from = omega (arith, there.from);
      within = omega (arith, there.within);
      first = λ d. ap (λ b. cond b (Some x) (first_line lines name)) is ∙ there.first d ∙ ap (λ k. Some (get_or (x ∷ lines) k d)) next;
    }

pub first_at : (lines : List NamedLine) (i place : ℕ) (name : List ℕ) → position_from (is_called name) i (of_named lines) ≡ Some place → FirstAt lines i place name
first_at [] i place name found = cc
first_at (x ∷ lines) i place name found = first_step x lines i place name (first_at lines (i + 1) place name) (bytes_eq x.name name) refl found

none_step : (x : NamedLine) (lines : List NamedLine) (i : ℕ) (name : List ℕ)
    → (position_from (is_called name) (i + 1) (of_named lines) ≡ None → first_line lines name ≡ None)
    → (b : Bool) → bytes_eq x.name name ≡ b → cond b (Some i) (position_from (is_called name) (i + 1) (of_named lines)) ≡ None → first_line (x ∷ lines) name ≡ None
none_step x lines i name rest true is none = cc
none_step x lines i name rest false is none = ap (λ b. cond b (Some x) (first_line lines name)) is ∙ rest none

pub first_nowhere : (lines : List NamedLine) (i : ℕ) (name : List ℕ) → position_from (is_called name) i (of_named lines) ≡ None → first_line lines name ≡ None
first_nowhere [] i name none = refl
first_nowhere (x ∷ lines) i name none = none_step x lines i name (first_nowhere lines (i + 1) name) (bytes_eq x.name name) refl none

pub no_line : NamedLine
no_line = record { number = 0; name = []; pieces = [] }

-- the values of the relation lines, place by place
pub relations_size : (values : FileValue) (file : File) → IsKnown values file → length values.relations.items ≡ length file.relations
relations_size values file known = sym (length-map values.relations.items seen_named) ∙ ap length known.shows.relations ∙ length-map file.relations kept_named

pub relation_at : (values : FileValue) (file : File) → IsKnown values file → (place : ℕ) (d : NamedLineValue) (e : NamedLine) → place < length values.relations.items
    → seen_named (get_or values.relations.items place d) ≡ kept_named (get_or file.relations place e)
relation_at values file known place d e within =
    sym (get_or-map seen_named values.relations.items place d (seen_named d) within)
    ∙ ap (λ xs. get_or xs place (seen_named d)) known.shows.relations
    ∙ get_or-map kept_named file.relations place e (seen_named d) (omega (arith, relations_size values file known, within))
