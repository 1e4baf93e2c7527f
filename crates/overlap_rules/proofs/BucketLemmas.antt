-- Numbers that are put beside buckets, and taken away.
use Rattle.std.proofs.Common.{◌≡◌, ◌==◌, ℕ, ◌+◌, ◌-◌, ◌/◌, ◌<◌, ◌≤◌, inl, inr, Bool, true, false, cond, ◌&&◌, List, [], ◌∷◌, ◌++◌, Some, None, nat_le, nat_lt, refl, sym, ◌∙◌, ap, subst, arith}
use Rattle.std.specs.Ordering.{nat_cmp, is_eq, eq_by_cmp, ordering_then}
use Rattle.std.specs.declared.cmp.Ordering.{Ordering}
use Rattle.std.specs.declared.cmp.Ordering.TheVariants.{Less, Equal, Greater}
use Rattle.std.specs.BTreeMap.{is_at}
use Rattle.std.specs.BTreeSet.{Updates, UpdatesBy}
use Rattle.std.specs.Cmp.{nat_cmp_total}
use Rattle.std.specs.FinMap as map
use Rattle.std.specs.FinMap.{get-insert, get-remove}
use Rattle.std.proofs.lemmas.Bool.{cases_Bool, cases_lt, eqb-true, false≢true, or_cases}
use Rattle.std.proofs.lemmas.Cmp.{ranked, tied_itself}
use Rattle.std.proofs.lemmas.List.Folds.{list_any-append}
use Rattle.std.proofs.lemmas.Nat.{le-div}
use Rattle.std.proofs.Math.Nat.{div-mul-le_self}
use Rattle.mark_base.specs.declared.fragments.Frag.{Frag}
use Rattle.overlap_rules.specs.Overlaps.{are_ascending, covers}
use Rattle.overlap_rules.specs.TouchingSpans.{Held}
use Rattle.overlap_rules.specs.Buckets.{Places, place_cmp, bucket_of, has, HasBetween, begins, IsBeside, AreBeside, Keeps, KeepsOthers, IsKept}
use Rattle.overlap_rules.proofs.CoverLemmas.{IsIn, covers_cases}
use Rattle.overlap_rules.proofs.IndexLemmas.{none_some, same_some, looked_up, ascending_empty, ascending_insert, ascending_remove}

pub same_number : (m n : ℕ) → is_eq (nat_cmp m n) ≡ true → m ≡ n
same_number m n e =
    elim (nat_cmp m n) as (λ r. r ≡ nat_cmp m n → is_eq r ≡ true → m ≡ n) [
      | Less ↦ λ _ h. absurd (false≢true h)
      | Equal ↦ λ is _. ranked m n Equal is
      | Greater ↦ λ _ h. absurd (false≢true h)
    ] refl e

equal_numbers : (m n : ℕ) → m ≡ n → eq_by_cmp nat_cmp m n ≡ true
equal_numbers m n e = subst (λ k. eq_by_cmp nat_cmp m k ≡ true) e (ap is_eq (tied_itself nat_cmp_total m))

pub first_equal : (x y : Ordering) → is_eq (ordering_then x y) ≡ true → is_eq x ≡ true
first_equal Less y e = absurd (false≢true e)
first_equal Equal y e = refl
first_equal Greater y e = absurd (false≢true e)

pub second_equal : (x y : Ordering) → is_eq (ordering_then x y) ≡ true → is_eq y ≡ true
second_equal Less y e = absurd (false≢true e)
second_equal Equal y e = e
second_equal Greater y e = absurd (false≢true e)

kept_by_either : (test before : Bool) → before ≡ true → cond test true before ≡ true
kept_by_either true before e = refl
kept_by_either false before e = e

kept_by_other : (test before : Bool) → test ≡ false → before ≡ true → cond test false before ≡ true
kept_by_other true before is e = absurd (false≢true (sym is))
kept_by_other false before is e = e

-- putting a number beside a bucket
pub put_keeps : (before after : Places) (bucket number : ℕ) → Updates place_cmp before after (bucket, number) true → Keeps before after
put_keeps before after bucket number updates b n there =
    updates.0 (b, n) ∙ kept_by_either (is_at (place_cmp (bucket, number)) (b, n)) (has before b n) there

-- taking it away
pub take_keeps : (before after : Places) (bucket gone : ℕ) → UpdatesBy place_cmp (place_cmp (bucket, gone)) before after false → KeepsOthers gone before after
take_keeps before after bucket gone updates b n other there =
    updates.0 (b, n) ∙ kept_by_other (is_at (place_cmp (bucket, gone)) (b, n)) (has before b n)
    (elim (cases_Bool (is_at (place_cmp (bucket, gone)) (b, n))) [
      | inl same ↦ absurd (other (sym (same_number gone n (second_equal (nat_cmp bucket b) (nat_cmp gone n) same))))
      | inr differs ↦ differs
    ]) there

-- a number that stands beside each bucket from the first one on, and then beside the next
pub put_next : (before after : Places) (first bucket number : ℕ) → Updates place_cmp before after (bucket, number) true
    → ((b : ℕ) → first ≤ b → b < bucket → has before b number ≡ true)
    → (b : ℕ) → first ≤ b → b < bucket + 1 → has after b number ≡ true
put_next before after first bucket number updates all b low high =
    elim (cases_lt b bucket) [
      | inl lower ↦ put_keeps before after bucket number updates b number (all b low lower)
      | inr least ↦ (let same : bucket ≡ b = omega (arith, least, high) in subst (λ k. has after k number ≡ true) same updates.1)
    ]

-- the buckets of characters that ascend
pub bucket_le : (a b : ℕ) → a ≤ b → bucket_of a ≤ bucket_of b
bucket_le a b le = le-div (a / 64) b 64 (omega arith) (let low = div-mul-le_self a 64 in omega (arith, low, le))

-- a number that is put beside the buckets of a fragment stands beside the bucket of each of its characters
pub between_spreads : (places : Places) (number : ℕ) (frag : Frag) (character : ℕ) → HasBetween places number (bucket_of frag.start) (bucket_of (frag.end - 1))
    → IsIn frag character → has places (bucket_of character) number ≡ true
between_spreads places number frag character all within =
    let low = within.behind_start in
    let high : character ≤ frag.end - 1 = (let h = within.before_end in omega arith) in
    all (bucket_of character) (bucket_le frag.start character low) (bucket_le character (frag.end - 1) high)

pub no_frags : (places : Places) (number : ℕ) → IsBeside covers places number []
no_frags places number character e = absurd (false≢true e)

-- the next fragment's buckets
pub spread_next : (before after : Places) (number : ℕ) (frags : List Frag) (frag : Frag) → IsBeside covers before number frags → Keeps before after
    → HasBetween after number (bucket_of frag.start) (bucket_of (frag.end - 1)) → IsBeside covers after number (frags ++ frag ∷ [])
spread_next before after number frags frag spread keeps all character e =
    elim (or_cases (covers frags character) (covers (frag ∷ []) character) (sym (list_any-append (λ (f : Frag). nat_le f.start character && nat_lt character f.end) frags (frag ∷ [])) ∙ e)) [
      | inl earlier ↦ keeps (bucket_of character) number (spread character earlier)
      | inr here ↦
          elim (covers_cases frag [] character here) [
            | inl within ↦ between_spreads after number frag character all within
            | inr later ↦ absurd (false≢true later)
          ]
    ]

pub no_starts : (places : Places) (number : ℕ) → IsBeside begins places number []
no_starts places number character e = absurd (false≢true e)

-- the bucket in which the next fragment begins
pub starts_next : (before after : Places) (number : ℕ) (frags : List Frag) (frag : Frag) (bucket : ℕ) → IsBeside begins before number frags → bucket ≡ bucket_of frag.start
    → Updates place_cmp before after (bucket, number) true → IsBeside begins after number (frags ++ frag ∷ [])
starts_next before after number frags frag bucket starts is updates character e =
    elim (or_cases (begins frags character) (begins (frag ∷ []) character) (sym (list_any-append (λ (f : Frag). f.start == character) frags (frag ∷ [])) ∙ e)) [
      | inl earlier ↦ put_keeps before after bucket number updates (bucket_of character) number (starts character earlier)
      | inr here ↦
          elim (or_cases (frag.start == character) false here) [
            | inl same ↦ subst (λ b. has after b number ≡ true) (is ∙ ap bucket_of (eqb-true frag.start character same)) updates.1
            | inr later ↦ absurd (false≢true later)
          ]
    ]

-- what stands beside buckets, after a span is put and after one is let go
beside_put : (lies : List Frag → ℕ → Bool) (held : Held) (before after : Places) (k : ℕ) (frags : List Frag) → AreBeside lies held before
    → Keeps before after → IsBeside lies after k frags → AreBeside lies (map.insert held k frags) after
beside_put lies held before after k frags all keeps one number span is character lying =
    let here = sym (get-insert nat_cmp_total held k frags number) ∙ is in
    elim (cases_Bool (eq_by_cmp nat_cmp number k)) [
      | inl same ↦
          (let n : k ≡ number = sym (same_number number k same) in
          let f : frags ≡ span = same_some (sym (ap (λ b. cond b (Some frags) (map.get held number)) same) ∙ here) in
          subst (λ m. has after (bucket_of character) m ≡ true) n (one character (ap (λ fs. lies fs character) f ∙ lying)))
      | inr other ↦
          keeps (bucket_of character) number (all number span (sym (ap (λ b. cond b (Some frags) (map.get held number)) other) ∙ here) character lying)
    ]

beside_more : (lies : List Frag → ℕ → Bool) (held : Held) (before after : Places) → AreBeside lies held before → Keeps before after → AreBeside lies held after
beside_more lies held before after all keeps number span is character lying = keeps (bucket_of character) number (all number span is character lying)

beside_without : (lies : List Frag → ℕ → Bool) (held : Held) (before after : Places) (gone : ℕ) → AreBeside lies held before → map.get held gone ≡ None → KeepsOthers gone before after
    → AreBeside lies held after
beside_without lies held before after gone all none keeps number span is character lying =
    keeps (bucket_of character) number (λ same. none_some (sym none ∙ sym (ap (map.get held) same) ∙ is)) (all number span is character lying)

beside_remove : (lies : List Frag → ℕ → Bool) (held : Held) (before after : Places) (gone : ℕ) → AreBeside lies held before → KeepsOthers gone before after
    → AreBeside lies (map.remove held gone) after
beside_remove lies held before after gone all keeps number span is character lying =
    let here = sym (get-remove nat_cmp_total held gone number) ∙ is in
    elim (cases_Bool (eq_by_cmp nat_cmp number gone)) [
      | inl same ↦ absurd (none_some (sym (ap (λ b. cond b None (map.get held number)) same) ∙ here))
      | inr other ↦
          keeps (bucket_of character) number (λ same. false≢true (sym other ∙ equal_numbers number gone same))
          (all number span (sym (ap (λ b. cond b None (map.get held number)) other) ∙ here) character lying)
    ]

beside_empty : (lies : List Frag → ℕ → Bool) (entries : List (ℕ × List Frag)) (places : Places) → entries ≡ [] → AreBeside lies (map.from_entries entries) places
beside_empty lies entries places none number span is = absurd (none_some (sym (ap (λ l. map.get {R = nat_cmp} (map.from_entries l) number) none ∙ looked_up [] number) ∙ is))

-- what an index keeps, after a span is put and after one is let go
pub kept_empty : (entries : List (ℕ × List Frag)) (covered begun : Places) → entries ≡ [] → IsKept (map.from_entries entries) covered begun
kept_empty entries covered begun none = record {
  ascending = ascending_empty entries none;
  spread = beside_empty covers entries covered none;
  starts = beside_empty begins entries begun none;
}

pub kept_put : (held : Held) (covered begun covered_after begun_after : Places) (k : ℕ) (frags : List Frag) → IsKept held covered begun → are_ascending frags ≡ true
    → Keeps covered covered_after → IsBeside covers covered_after k frags → Keeps begun begun_after → IsBeside begins begun_after k frags
    → IsKept (map.insert held k frags) covered_after begun_after
kept_put held covered begun covered_after begun_after k frags kept ascending keeps spread keeps_begun starts = record {
  ascending = ascending_insert held k frags kept.ascending ascending;
  spread = beside_put covers held covered covered_after k frags kept.spread keeps spread;
  starts = beside_put begins held begun begun_after k frags kept.starts keeps_begun starts;
}

pub kept_more : (held : Held) (covered begun covered_after begun_after : Places) → IsKept held covered begun → Keeps covered covered_after → Keeps begun begun_after
    → IsKept held covered_after begun_after
kept_more held covered begun covered_after begun_after kept keeps keeps_begun = record {
  ascending = kept.ascending;
  spread = beside_more covers held covered covered_after kept.spread keeps;
  starts = beside_more begins held begun begun_after kept.starts keeps_begun;
}

-- a number that is not held may be taken away
pub kept_without : (held : Held) (covered begun covered_after begun_after : Places) (gone : ℕ) → IsKept held covered begun → map.get held gone ≡ None
    → KeepsOthers gone covered covered_after → KeepsOthers gone begun begun_after → IsKept held covered_after begun_after
kept_without held covered begun covered_after begun_after gone kept none keeps keeps_begun = record {
  ascending = kept.ascending;
  spread = beside_without covers held covered covered_after gone kept.spread none keeps;
  starts = beside_without begins held begun begun_after gone kept.starts none keeps_begun;
}

pub kept_remove : (held : Held) (covered begun covered_after begun_after : Places) (gone : ℕ) → IsKept held covered begun
    → KeepsOthers gone covered covered_after → KeepsOthers gone begun begun_after → IsKept (map.remove held gone) covered_after begun_after
kept_remove held covered begun covered_after begun_after gone kept keeps keeps_begun = record {
  ascending = ascending_remove held gone kept.ascending;
  spread = beside_remove covers held covered covered_after gone kept.spread keeps;
  starts = beside_remove begins held begun begun_after gone kept.starts keeps_begun;
}
