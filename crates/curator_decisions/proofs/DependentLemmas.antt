-- A list of items that is gone through beside the places that each names.
use Rattle.std.proofs.Common.{◌≡◌, ℕ, suc, ◌+◌, ◌<◌, ◌&&◌, Bool, true, false, cond, drop, drop-cons, List, ◌∷◌, map, length, get_or, sym, ap, ◌∙◌, Option, Some, Vec, Global, arith}
use Rattle.std.specs.List.{find}
use Rattle.std.proofs.lemmas.List.{get_or-map, length-map}
use Rattle.unanimous_merge.specs.declared.entry.Entry.{Entry}
use Rattle.curator_decisions.specs.Decisions.{Decided}
use Rattle.curator_decisions.specs.Naming.{dependent_at, has_place}
use Rattle.curator_decisions.specs.Placing.{is_in_at}

module _ (flags : List (List Bool)) (decided : Decided) (place : ℕ) (named : Entry → List ℕ) (firsts : List Entry) (names : List (Vec ℕ Global)) (are : map (λ of. of.items) names ≡ map named firsts)
    (i : ℕ) (e : Entry) (n : Vec ℕ Global) (inside : i < length firsts) (first : e ≡ get_or firsts i e) (its : n ≡ get_or names i n) where
  same : n.items ≡ named e
  same =
      let a : length (map {A = Vec ℕ Global} {B = List ℕ} (λ of. of.items) names) ≡ length names = length-map names (λ of. of.items) in
      let b : length (map named firsts) ≡ length firsts = length-map firsts named in
      let c : length (map {A = Vec ℕ Global} {B = List ℕ} (λ of. of.items) names) ≡ length (map named firsts) = ap length are in
      let short : i < length names = omega (arith, a, b, c) in
      ap (λ (v : Vec ℕ Global). v.items) its ∙ sym (get_or-map (λ (v : Vec ℕ Global). v.items) names i n n.items short) ∙ ap (λ xs. get_or xs i n.items) are ∙ get_or-map named firsts i e n.items inside ∙ ap named (sym first)

  step : (b : Bool) → b ≡ (is_in_at flags decided e && has_place n.items place) → dependent_at named flags decided (drop i firsts) place ≡ cond b (Some e) (dependent_at named flags decided (drop (i + 1) firsts) place)
  step b is =
      let p : Entry → Bool = λ other. is_in_at flags decided other && has_place (named other) place in
      let next : drop i firsts ≡ e ∷ drop (i + 1) firsts = let k : suc i ≡ i + 1 = omega arith in drop-cons firsts i e inside ∙ (λ j. sym first j ∷ drop (k j) firsts) in
      let test : p e ≡ b = ap (λ ps. is_in_at flags decided e && has_place ps place) (sym same) ∙ sym is in
      ap (find p) next ∙ (λ j. cond (test j) (Some e) (find p (drop (i + 1) firsts)))

  pub stops : (b : Bool) → b ≡ (is_in_at flags decided e && has_place n.items place) → b ≡ true → dependent_at named flags decided (drop i firsts) place ≡ Some e
  stops b is passes = step b is ∙ ap (λ t. cond t (Some e) (dependent_at named flags decided (drop (i + 1) firsts) place)) passes

  pub goes_on : (b : Bool) → b ≡ (is_in_at flags decided e && has_place n.items place) → b ≡ false → dependent_at named flags decided (drop i firsts) place ≡ dependent_at named flags decided (drop (i + 1) firsts) place
  goes_on b is fails = step b is ∙ ap (λ t. cond t (Some e) (dependent_at named flags decided (drop (i + 1) firsts) place)) fails
