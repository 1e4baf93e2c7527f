-- Where a text may be cut, and the pieces that line feeds separate.
use Rattle.std.proofs.Common.{◌≡◌, ℕ, ◌+◌, ◌-◌, ◌<◌, ◌≤◌, ◌==◌, ◌&&◌, ◌||◌, zero, suc, true, false, not, cond, List, length, map, get_or, sym, ◌∙◌, ap, subst, arith, count_by}
use Rattle.std.specs.List.{slice_split}
use Rattle.std.specs.Str.{IsUtf8, IsCharBoundary}
use Rattle.std.proofs.lemmas.List.{length-map}
use Rattle.std.proofs.lemmas.List.Splits.{length-slice_split}
use Rattle.std.proofs.lemmas.List.Sums.{count_by-le-length}
use Rattle.std.proofs.lemmas.Str.{IsCharBoundary-start, IsCharBoundary-after_ascii}
use Rattle.ann_reader.specs.Lines.{has_tab, first_field, behind_tab, without_end, without_return}
use Rattle.ann_reader.specs.LineForms.{BadForm, two_form, three_form, of_two, of_three}
use denote.Ref.{Bor}

-- behind its start or an ASCII character
pub cut_back : (bs : List ℕ) (start : ℕ) → IsUtf8 bs → start ≤ length bs → (0 < start → get_or bs (start - 1) 0 < 128) → IsCharBoundary bs start
cut_back bs zero u l a = IsCharBoundary-start bs u
cut_back bs (suc k) u l a =
    let at : suc k - 1 ≡ k = omega arith in
    let some : 0 < suc k = omega arith in
    let small : get_or bs k 0 < 128 = subst (λ i. get_or bs i 0 < 128) at (a some) in
    let e : k + 1 ≡ suc k = omega arith in
    let below : k < length bs = omega arith in
    subst (IsCharBoundary bs) e (IsCharBoundary-after_ascii bs k u below small)

-- there is at most one piece more than there are bytes
pub pieces_few : (bs : List ℕ) (items : List (Bor (List ℕ))) → map (λ piece. piece.now) items ≡ slice_split (λ b. b == 10) bs → length items ≤ length bs + 1
pieces_few bs items same =
    let a : length items ≡ length (slice_split (λ b. b == 10) bs) = sym (length-map items (λ piece. piece.now)) ∙ ap length same in
    let b : length (slice_split (λ b. b == 10) bs) ≡ count_by (λ b. b == 10) bs + 1 = length-slice_split (λ b. b == 10) bs in
    let c : count_by (λ b. b == 10) bs ≤ length bs = count_by-le-length (λ b. b == 10) bs in
    omega arith

-- ---- the fields of a line

pub two_fields : (b : ℕ) (bytes : List ℕ) → has_tab (without_end bytes) ≡ true → has_tab (behind_tab (without_end bytes)) ≡ false
    → two_form b (first_field bytes) (behind_tab (without_end bytes)) ≡ of_two b bytes
two_fields b bytes p q =
    sym (ap (λ s. cond (s && not (has_tab (behind_tab (without_end bytes)))) (two_form b (first_field bytes) (behind_tab (without_end bytes))) BadForm) p
    ∙ ap (λ s. cond (not s) (two_form b (first_field bytes) (behind_tab (without_end bytes))) BadForm) q)

pub three_fields : (b : ℕ) (line : List ℕ) → has_tab line ≡ true → (b == 78 || has_tab (behind_tab line)) ≡ true
    → three_form b (first_field line) (first_field (behind_tab line)) (without_return (behind_tab (behind_tab line))) ≡ of_three b line
three_fields b line p q =
    sym (ap (λ s. cond (s && (b == 78 || has_tab (behind_tab line))) (three_form b (first_field line) (first_field (behind_tab line)) (without_return (behind_tab (behind_tab line)))) BadForm) p
    ∙ ap (λ s. cond s (three_form b (first_field line) (first_field (behind_tab line)) (without_return (behind_tab (behind_tab line)))) BadForm) q)
