-- The fields of a line, by where its TABs stand.
use Rattle.std.proofs.Common.{◌≡◌, ℕ, ◌+◌, ◌<◌, ◌≤◌, ◌==◌, ◌||◌, ◌&&◌, Bool, true, false, not, cond, List, [], ◌∷◌, length, take, drop, refl, sym, ◌∙◌, ap, arith}
use Rattle.std.specs.List.{list_any, position_or_len, before_first, after_first}
use Rattle.std.proofs.lemmas.List.{take_all, drop_all}
use Rattle.ann_reader.specs.Lines.{has_tab, first_field, behind_tab, without_end, without_return}
use Rattle.ann_reader.specs.LineForms.{BadForm, two_form, three_form, of_two, of_three}

picked : {X : Type 0} (t : Bool) (x y : X) → t ≡ true → cond t x y ≡ x
picked t x y e = ap (λ s. cond s x y) e

left : {X : Type 0} (t : Bool) (x y : X) → t ≡ false → cond t x y ≡ y
left t x y e = ap (λ s. cond s x y) e

-- a TAB is found in a text
pub tab_in : (xs : List ℕ) → position_or_len (λ b. b == 9) xs < length xs → has_tab xs ≡ true
tab_in [] h = absurd (omega arith)
tab_in (x ∷ xs) h =
    elim (x == 9) as (λ t. (x == 9) ≡ t → (t || list_any (λ b. b == 9) xs) ≡ true) [
      | true ↦ λ t. refl
      | false ↦ λ t.
          let at : position_or_len (λ b. b == 9) (x ∷ xs) ≡ 1 + position_or_len (λ b. b == 9) xs = ap (λ b. cond (not b) (1 + position_or_len (λ b. b == 9) xs) 0) t in
          tab_in xs (omega arith)
    ] refl

-- none is
pub no_tab : (xs : List ℕ) → position_or_len (λ b. b == 9) xs ≡ length xs → has_tab xs ≡ false
no_tab [] h = refl
no_tab (x ∷ xs) h =
    elim (x == 9) as (λ t. (x == 9) ≡ t → (t || list_any (λ b. b == 9) xs) ≡ false) [
      | true ↦ λ t.
          let at : position_or_len (λ b. b == 9) (x ∷ xs) ≡ 0 = ap (λ b. cond (not b) (1 + position_or_len (λ b. b == 9) xs) 0) t in
          absurd (omega arith)
      | false ↦ λ t.
          let at : position_or_len (λ b. b == 9) (x ∷ xs) ≡ 1 + position_or_len (λ b. b == 9) xs = ap (λ b. cond (not b) (1 + position_or_len (λ b. b == 9) xs) 0) t in
          no_tab xs (omega arith)
    ] refl

-- then all is the first field, and nothing stands behind it
pub all_first : (xs : List ℕ) → position_or_len (λ b. b == 9) xs ≡ length xs → first_field xs ≡ xs
all_first xs h = take_all (position_or_len (λ b. b == 9) xs) xs (omega arith)

pub none_behind : (xs : List ℕ) → position_or_len (λ b. b == 9) xs ≡ length xs → behind_tab xs ≡ []
none_behind xs h = drop_all (position_or_len (λ b. b == 9) xs + 1) xs (omega arith)

-- two fields
pub two_good : (b : ℕ) (first second short line : List ℕ) → short ≡ without_end line → first ≡ first_field line → second ≡ behind_tab short → has_tab short ≡ true → has_tab second ≡ false
    → two_form b first second ≡ of_two b line
two_good b first second short line is f s there alone =
    let at : second ≡ behind_tab (without_end line) = s ∙ ap behind_tab is in
    let fits : (has_tab (without_end line) && not (has_tab (behind_tab (without_end line)))) ≡ true =
    ap (λ t. t && not (has_tab (behind_tab (without_end line)))) (ap has_tab (sym is) ∙ there) ∙ ap not (ap has_tab (sym at) ∙ alone) in
    ap (λ w. two_form b w second) f ∙ ap (two_form b (first_field line)) at ∙ sym (picked (has_tab (without_end line) && not (has_tab (behind_tab (without_end line)))) (two_form b (first_field line) (behind_tab (without_end line))) BadForm fits)

-- fewer, or more
pub two_bad : (b : ℕ) (short line : List ℕ) → short ≡ without_end line → (has_tab short && not (has_tab (behind_tab short))) ≡ false → BadForm ≡ of_two b line
two_bad b short line is h =
    sym (left (has_tab (without_end line) && not (has_tab (behind_tab (without_end line)))) (two_form b (first_field line) (behind_tab (without_end line))) BadForm
    (ap (λ s. has_tab s && not (has_tab (behind_tab s))) (sym is) ∙ h))

-- three fields
pub three_good : (b : ℕ) (first second text line : List ℕ) → first ≡ first_field line → second ≡ first_field (behind_tab line) → text ≡ without_return (behind_tab (behind_tab line))
    → has_tab line ≡ true → (b == 78 || has_tab (behind_tab line)) ≡ true → three_form b first second text ≡ of_three b line
three_good b first second text line f s t there more =
    ap (λ w. three_form b w second text) f ∙ ap (λ w. three_form b (first_field line) w text) s ∙ ap (three_form b (first_field line) (first_field (behind_tab line))) t
    ∙ sym (picked (has_tab line && (b == 78 || has_tab (behind_tab line))) (three_form b (first_field line) (first_field (behind_tab line)) (without_return (behind_tab (behind_tab line)))) BadForm
    (ap (λ u. u && (b == 78 || has_tab (behind_tab line))) there ∙ more))

pub three_bad : (b : ℕ) (line : List ℕ) → (has_tab line && (b == 78 || has_tab (behind_tab line))) ≡ false → BadForm ≡ of_three b line
three_bad b line h =
    sym (left (has_tab line && (b == 78 || has_tab (behind_tab line))) (three_form b (first_field line) (first_field (behind_tab line)) (without_return (behind_tab (behind_tab line)))) BadForm h)

pub either : (b : Bool) → (b || true) ≡ true
either true = refl
either false = refl
