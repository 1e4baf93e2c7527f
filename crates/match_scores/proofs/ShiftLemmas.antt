-- The counts of a rater and each other one, in their order.
use Rattle.std.proofs.Common.{◌≡◌, ℕ, ◌+◌, ◌<◌, min, max, List, set, refl, sym, ap, ◌∙◌, arith, inl, inr, Option, None}
use Rattle.std.proofs.lemmas.List.{get_or-set_other}
use Rattle.std.proofs.lemmas.Bool.{cases_eq, cases_lt}
use Rattle.match_scores.specs.declared.sort.Sort.{Sort}
use Rattle.match_scores.specs.declared.layer_in_table.Marks.{Marks}
use Rattle.match_scores.specs.declared.tally.Tallies.{Tallies}
use Rattle.match_scores.specs.Matches.{Part}
use Rattle.match_scores.specs.Places.{Moves, marks_at, met}
use Rattle.match_scores.specs.Shifting.{IsTouched, Shifting}
use Rattle.match_scores.specs.Tallies.{cell}

pub shift_none : (raters rater : ℕ) (totals : List Tallies) (before after : List (Option Marks)) → Shifting raters rater totals totals before after 0
shift_none raters rater totals before after = record {
  done = λ a b sort part h k t. elim t [ inl e ↦ absurd (omega (arith, e.1)) | inr e ↦ absurd (omega (arith, e.1)) ];
  rest = λ a b sort part h k t. refl;
}

-- what is touched below an index is touched below the next
touched_more : (rater i p q : ℕ) → IsTouched rater i p q → IsTouched rater (i + 1) p q
touched_more rater i p q t = elim t [ inl e ↦ inl (e.0, omega (arith, e.1)) | inr e ↦ inr (e.0, omega (arith, e.1)) ]

module _ (rater i a b : ℕ) (ea : a ≡ min rater i) (eb : b ≡ max rater i) where
  -- the pair at the index was not touched before it
  fresh : IsTouched rater i a b → ⊥
  fresh t = elim t [ inl e ↦ omega (arith, e.0, e.1) | inr e ↦ omega (arith, e.0, e.1) ]

  -- and is touched with it
  touched_here : (i ≡ rater → ⊥) → (p q : ℕ) → p ≡ a → q ≡ b → IsTouched rater (i + 1) p q
  touched_here ne p q ep eq =
      elim (cases_lt rater i) [
        | inl h ↦ inl (omega arith, omega arith)
        | inr h ↦ inr (omega arith, omega arith)
      ]

  -- no other pair is
  touched_before : (p q : ℕ) → p < q → ((p ≡ a) × (q ≡ b) → ⊥) → IsTouched rater (i + 1) p q → IsTouched rater i p q
  touched_before p q h ne t =
      elim t [
        | inl e ↦
            let ep : p ≡ rater = e.0 in
            let below : q < i + 1 = e.1 in
            elim (cases_lt q i) [
              | inl l ↦ inl (ep, l)
              | inr l ↦ absurd (ne (omega arith, omega arith))
            ]
        | inr e ↦
            let eq : q ≡ rater = e.0 in
            let below : p < i + 1 = e.1 in
            elim (cases_lt p i) [
              | inl l ↦ inr (eq, l)
              | inr l ↦ absurd (ne (omega arith, omega arith))
            ]
      ]

-- one pair more
pub shift_more : (raters rater : ℕ) (old mid new : List Tallies) (before after : List (Option Marks)) (i a b : ℕ) → a ≡ min rater i → b ≡ max rater i → (i ≡ rater → ⊥) → rater < raters → i < raters → ((sort : Sort) (part : Part) → cell raters new a b sort part + met sort part (marks_at before a) (marks_at before b) ≡ cell raters mid a b sort part + met sort part (marks_at after a) (marks_at after b)) → ((p q : ℕ) (sort : Sort) (part : Part) → p < q → q < raters → ((p ≡ a) × (q ≡ b) → ⊥) → cell raters new p q sort part ≡ cell raters mid p q sort part) → Shifting raters rater old mid before after i → Shifting raters rater old new before after (i + 1)
shift_more raters rater old mid new before after i a b ea eb ne hr hi here rest so_far =
    let apart : a < b = omega arith in
    let inside : b < raters = omega arith in
    let pair : (sort : Sort) (part : Part) → cell raters new a b sort part + met sort part (marks_at before a) (marks_at before b) ≡ cell raters old a b sort part + met sort part (marks_at after a) (marks_at after b) =
    λ sort part. here sort part ∙ ap (λ n. n + met sort part (marks_at after a) (marks_at after b)) (so_far.rest a b sort part apart inside (fresh rater i a b ea eb)) in
    let others : (p q : ℕ) (sort : Sort) (part : Part) → p < q → q < raters → ((p ≡ a) × (q ≡ b) → ⊥) → IsTouched rater (i + 1) p q → cell raters new p q sort part + met sort part (marks_at before p) (marks_at before q) ≡ cell raters old p q sort part + met sort part (marks_at after p) (marks_at after q) =
    λ p q sort part h k no t. ap (λ n. n + met sort part (marks_at before p) (marks_at before q)) (rest p q sort part h k no) ∙ so_far.done p q sort part h k (touched_before rater i a b ea eb p q h no t) in
    record {
      done = λ p q sort part h k t.
          elim (cases_eq p a) [
            | inl ep ↦ elim (cases_eq q b) [
              | inl eq ↦ rw (ep, eq) (pair sort part)
              | inr nq ↦ others p q sort part h k (λ e. nq e.1) t
            ]
            | inr np ↦ others p q sort part h k (λ e. np e.0) t
          ];
      rest = λ p q sort part h k t.
          rest p q sort part h k (λ e. t (touched_here rater i a b ea eb ne p q e.0 e.1))
          ∙ so_far.rest p q sort part h k (λ u. t (touched_more rater i p q u));
    }

-- the rater itself has no pair
pub shift_skip : (raters rater : ℕ) (old new : List Tallies) (before after : List (Option Marks)) (i : ℕ) → i ≡ rater → Shifting raters rater old new before after i → Shifting raters rater old new before after (i + 1)
shift_skip raters rater old new before after i same so_far = record {
  done = λ p q sort part h k t.
      elim t [
        | inl e ↦ absurd (omega (arith, e.0, e.1))
        | inr e ↦ so_far.done p q sort part h k (inr (e.0, omega (arith, e.0)))
      ];
  rest = λ p q sort part h k t. so_far.rest p q sort part h k (λ u. t (touched_more rater i p q u));
}

-- all pairs have moved: of those without the rater nothing has changed
pub shift_all : (raters rater : ℕ) (old new : List Tallies) (marks : List (Option Marks)) (before after : Option Marks) → Shifting raters rater old new (set marks rater before) (set marks rater after) raters → Moves raters old new (set marks rater before) (set marks rater after)
shift_all raters rater old new marks before after all = λ p q sort part h k.
    elim (cases_eq p rater) [
      | inl e ↦ all.done p q sort part h k (inl (e, k))
      | inr np ↦ elim (cases_eq q rater) [
        | inl e ↦ all.done p q sort part h k (inr (e, omega arith))
        | inr nq ↦
            let ep : marks_at (set marks rater before) p ≡ marks_at (set marks rater after) p = get_or-set_other marks rater p before None np ∙ sym (get_or-set_other marks rater p after None np) in
            let eq : marks_at (set marks rater before) q ≡ marks_at (set marks rater after) q = get_or-set_other marks rater q before None nq ∙ sym (get_or-set_other marks rater q after None nq) in
            let none : IsTouched rater raters p q → ⊥ = λ t. elim t [ inl e ↦ np e.0 | inr e ↦ nq e.0 ] in
            λ i. all.rest p q sort part h k none i + met sort part (ep i) (eq i)
      ]
    ]
