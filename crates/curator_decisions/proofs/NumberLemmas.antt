-- Items numbered one by one.
use Rattle.std.proofs.Common.{◌≡◌, ℕ, ◌+◌, ◌<◌, ◌≤◌, ◌==◌, List, [], ◌∷◌, ◌++◌, length, get_or, set, take, get_or-set_same, get_or-set_other, append_assoc, refl, sym, ap, ◌∙◌, arith, inl, inr}
use Rattle.std.proofs.lemmas.Bool.Decides.{eqb_tells}
use Rattle.std.proofs.lemmas.List.{take_more, length-take-le}
use Rattle.std.proofs.lemmas.List.Sums.{count_by-le-length, count_by_more_no, count_by_more_yes}
use Rattle.mark_base.specs.declared.ann_id.Kind.{Kind}
use Rattle.mark_base.specs.ReadIds.{id_at}
use Rattle.layer_model.specs.Classes.{letter_place}
use Rattle.unanimous_merge.specs.declared.entry.Entry.{Entry}
use Rattle.unanimous_merge.proofs.ListLemmas.{any_default}
use Rattle.curator_decisions.specs.declared.numbering.NumberedEntry.{NumberedEntry}
use Rattle.curator_decisions.specs.Placing.{count_of_entries, letter_of_entry, numbered_entries}

-- how many annotations of each letter there are
abbrev pub AreCounts : List ℕ → List Entry → Type 0
AreCounts counts entries = (kind : Kind) → get_or counts (letter_place kind) 0 ≡ count_of_entries kind entries

-- one item numbered behind others
abbrev pub number_next : List Entry → Entry → NumberedEntry
number_next before entry = record { entry = entry; id = id_at (letter_of_entry entry) (count_of_entries (letter_of_entry entry) before + 1) }

append_nil : {X : Type 0} (xs : List X) → xs ++ [] ≡ xs
append_nil [] = refl
append_nil (x ∷ xs) = ap (λ ys. x ∷ ys) (append_nil xs)

pub numbered_push : (before xs : List Entry) (e : Entry) → numbered_entries before (xs ++ e ∷ []) ≡ numbered_entries before xs ++ number_next (before ++ xs) e ∷ []
numbered_push before [] e = ap (λ b. number_next b e ∷ []) (sym (append_nil before))
numbered_push before (x ∷ xs) e =
    ap (λ ys. number_next before x ∷ ys) (numbered_push (before ++ x ∷ []) xs e)
    ∙ ap (λ b. number_next before x ∷ (numbered_entries (before ++ x ∷ []) xs ++ number_next b e ∷ [])) (append_assoc before (x ∷ []) xs)

pub count_small : (kind : Kind) (xs : List Entry) → count_of_entries kind xs ≤ length xs
count_small kind xs = count_by-le-length (λ entry. letter_place (letter_of_entry entry) == letter_place kind) xs

module _ (entries : List Entry) (i : ℕ) (e : Entry) (h : i < length entries) (at : e ≡ get_or entries i e) where
  more : take (i + 1) entries ≡ take i entries ++ e ∷ []
  more = take_more entries i e h ∙ ap (λ q. take i entries ++ q ∷ []) (sym at)

  -- the counts with one more
  pub counts_more : (counts : List ℕ) → length counts ≡ 7 → AreCounts counts (take i entries) → (place number : ℕ) → place < 7 → place ≡ letter_place (letter_of_entry e) → number ≡ get_or counts place 0 + 1 → AreCounts (set counts place number) (take (i + 1) entries)
  counts_more counts long so_far place number small is next kind =
      elim (eqb_tells (letter_place (letter_of_entry e)) (letter_place kind)) [
        | inl p ↦
            let same : place ≡ letter_place kind = is ∙ p.1 in
            let room : place < length counts = omega arith in
            let put : get_or (set counts place number) (letter_place kind) 0 ≡ number = ap (λ k. get_or (set counts place number) k 0) (sym same) ∙ get_or-set_same counts place number 0 room in
            let was : get_or counts place 0 ≡ count_of_entries kind (take i entries) = ap (λ k. get_or counts k 0) same ∙ so_far kind in
            let grown : count_of_entries kind (take (i + 1) entries) ≡ count_of_entries kind (take i entries) + 1 = count_by_more_yes (λ entry. letter_place (letter_of_entry entry) == letter_place kind) entries i e h (ap (λ o. letter_place (letter_of_entry o) == letter_place kind) (sym at) ∙ p.0) in
            omega (arith, put, was, grown, next)
        | inr p ↦
            let grown : count_of_entries kind (take (i + 1) entries) ≡ count_of_entries kind (take i entries) = count_by_more_no (λ entry. letter_place (letter_of_entry entry) == letter_place kind) entries i e h (ap (λ o. letter_place (letter_of_entry o) == letter_place kind) (sym at) ∙ p.0) in
            let kept : get_or (set counts place number) (letter_place kind) 0 ≡ get_or counts (letter_place kind) 0 = get_or-set_other counts place (letter_place kind) number 0 (λ s. p.1 (sym is ∙ sym s)) in
            let was : get_or counts (letter_place kind) 0 ≡ count_of_entries kind (take i entries) = so_far kind in
            omega (arith, grown, kept, was)
      ]

  pub numbered_more : (old new : List NumberedEntry) (one : NumberedEntry) → old ≡ numbered_entries [] (take i entries) → new ≡ old ++ one ∷ [] → one ≡ number_next (take i entries) e → new ≡ numbered_entries [] (take (i + 1) entries)
  numbered_more old new one so pushed is = pushed ∙ (λ j. so j ++ is j ∷ []) ∙ sym (ap (numbered_entries []) more ∙ numbered_push [] (take i entries) e)

pub count_within : (entries : List Entry) (i : ℕ) → i ≤ length entries → (counts : List ℕ) → length counts ≡ 7 → AreCounts counts (take i entries) → (kind : Kind) (place x : ℕ) → place < 7 → place ≡ letter_place kind → x ≡ get_or counts place x → x ≤ i
count_within entries i h counts long so_far kind place x small is at =
    let room : place < length counts = omega arith in
    let same : x ≡ count_of_entries kind (take i entries) = at ∙ any_default counts place x 0 room ∙ ap (λ k. get_or counts k 0) is ∙ so_far kind in
    let few : count_of_entries kind (take i entries) ≤ length (take i entries) = count_small kind (take i entries) in
    let front : length (take i entries) ≡ i = length-take-le i entries h in
    omega (arith, same, few, front)

pub next_is : (counts : List ℕ) → length counts ≡ 7 → (place x : ℕ) → place < 7 → x ≡ get_or counts place x → x + 1 ≡ get_or counts place 0 + 1
next_is counts long place x small at = ap (λ n. n + 1) (at ∙ any_default counts place x 0 (let room : place < length counts = omega arith in room))
