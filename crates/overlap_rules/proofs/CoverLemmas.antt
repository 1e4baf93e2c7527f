-- Which characters fragments cover.
use Rattle.std.proofs.Common.{◌≡◌, ℕ, ◌+◌, ◌-◌, ◌<◌, ◌≤◌, ◌⊎◌, inl, inr, zero, suc, Bool, true, false, not, ◌&&◌, ◌||◌, List, [], ◌∷◌, nat_lt, nat_le, length, max, refl, sym, ◌∙◌, ap, subst, arith}
use Rattle.std.specs.List.{list_any, list_all, range_with_len}
use Rattle.std.proofs.lemmas.Bool.{false≢true, or_cases, or_left, or_right, and_parts, and_from, leb-true, ltb-true, le-leb, lt-ltb, not-true, not-false, not_from_false, both_ways, false_from_ne_true, true_from_ne_false, cases_Bool, cases_lt, cases_order}
use Rattle.std.proofs.lemmas.List.Folds.{list_all-append}
use Rattle.mark_base.specs.declared.fragments.Frag.{Frag}
use Rattle.overlap_rules.specs.Overlaps.{are_ascending, characters, characters_of, covers, shares, has_all, kind_by, kind_of}
use Rattle.mark_base.specs.declared.overlap.OvlKind.TheVariants.{Apart}

-- a character lies in a fragment
pub record IsIn (frag : Frag) (c : ℕ) : Type 0 where
  pub behind_start : frag.start ≤ c
  pub before_end : c < frag.end

pub covers_cases : (frag : Frag) (more : List Frag) (c : ℕ) → covers (frag ∷ more) c ≡ true → IsIn frag c ⊎ (covers more c ≡ true)
covers_cases frag more c e =
    elim (or_cases (nat_le frag.start c && nat_lt c frag.end) (covers more c) e) [
      | inl here ↦
          (let both = and_parts (nat_le frag.start c) (nat_lt c frag.end) here in
          inl (record { behind_start = leb-true frag.start c both.0; before_end = ltb-true c frag.end both.1 }))
      | inr later ↦ inr later
    ]

pub covers_here : (frag : Frag) (more : List Frag) (c : ℕ) → frag.start ≤ c → c < frag.end → covers (frag ∷ more) c ≡ true
covers_here frag more c low high =
    or_left (nat_le frag.start c && nat_lt c frag.end) (covers more c)
    (and_from (nat_le frag.start c) (nat_lt c frag.end) (le-leb frag.start c low) (lt-ltb c frag.end high))

pub covers_later : (frag : Frag) (more : List Frag) (c : ℕ) → covers more c ≡ true → covers (frag ∷ more) c ≡ true
covers_later frag more c later = or_right (nat_le frag.start c && nat_lt c frag.end) (covers more c) later

-- the first of ascending fragments is not empty, and the others are ascending and stand behind it
pub not_empty : (frag : Frag) (more : List Frag) → are_ascending (frag ∷ more) ≡ true → frag.start < frag.end
not_empty frag [] e = ltb-true frag.start frag.end e
not_empty frag (next ∷ more) e =
    let two = and_parts (nat_lt frag.start frag.end && nat_le frag.end next.start) (are_ascending (next ∷ more)) e in
    ltb-true frag.start frag.end (and_parts (nat_lt frag.start frag.end) (nat_le frag.end next.start) two.0).0

pub ascending_later : (frag : Frag) (more : List Frag) → are_ascending (frag ∷ more) ≡ true → are_ascending more ≡ true
ascending_later frag [] e = refl
ascending_later frag (next ∷ more) e = (and_parts (nat_lt frag.start frag.end && nat_le frag.end next.start) (are_ascending (next ∷ more)) e).1

next_behind : (frag next : Frag) (more : List Frag) → are_ascending (frag ∷ next ∷ more) ≡ true → frag.end ≤ next.start
next_behind frag next more e =
    let two = and_parts (nat_lt frag.start frag.end && nat_le frag.end next.start) (are_ascending (next ∷ more)) e in
    leb-true frag.end next.start (and_parts (nat_lt frag.start frag.end) (nat_le frag.end next.start) two.0).1

pub later_behind : (frag : Frag) (more : List Frag) (c : ℕ) → are_ascending (frag ∷ more) ≡ true → covers more c ≡ true → frag.end ≤ c
later_behind frag [] c e in_more = absurd (false≢true in_more)
later_behind frag (next ∷ more) c e in_more =
    let near = next_behind frag next more e in
    let rest = ascending_later frag (next ∷ more) e in
    let full = not_empty next more rest in
    elim (covers_cases next more c in_more) [
      | inl here ↦ (let low = here.behind_start in omega arith)
      | inr later ↦ (let far = later_behind next more c rest later in omega arith)
    ]

pub all_behind : (frag : Frag) (more : List Frag) (c : ℕ) → are_ascending (frag ∷ more) ≡ true → covers (frag ∷ more) c ≡ true → frag.start ≤ c
all_behind frag more c e is =
    elim (covers_cases frag more c is) [
      | inl here ↦ here.behind_start
      | inr later ↦ (let far = later_behind frag more c e later in let full = not_empty frag more e in omega arith)
    ]

-- no fragment covers nothing
pub none_covers : (left : List Frag) (c : ℕ) → length left ≡ 0 → covers left c ≡ true → ⊥
none_covers [] c none is = false≢true is
none_covers (frag ∷ more) c none is = absurd (omega arith)

-- a test of each number of a range
range_at : (test : ℕ → Bool) (low count c : ℕ) → list_all test (range_with_len low count) ≡ true → low ≤ c → c < low + count → test c ≡ true
range_at test low zero c e a b = absurd (omega arith)
range_at test low (suc count) c e a b =
    let both = and_parts (test low) (list_all test (range_with_len (low + 1) count)) e in
    elim (cases_order low c) [
      | inl same ↦ ap test (sym same) ∙ both.0
      | inr apart ↦
          elim apart [
            | inl less ↦ range_at test (low + 1) count c both.1 (omega arith) (omega arith)
            | inr more ↦ absurd (omega arith)
          ]
    ]

range_from : (test : ℕ → Bool) (low count : ℕ) → ((c : ℕ) → low ≤ c → c < low + count → test c ≡ true) → list_all test (range_with_len low count) ≡ true
range_from test low zero each = refl
range_from test low (suc count) each =
    and_from (test low) (list_all test (range_with_len (low + 1) count)) (each low (omega arith) (omega arith))
    (range_from test (low + 1) count (λ c a b. each c (omega arith) (omega arith)))

-- a test of each character that fragments cover
all_at : (test : ℕ → Bool) (frags : List Frag) (c : ℕ) → list_all test (characters frags) ≡ true → covers frags c ≡ true → test c ≡ true
all_at test [] c e is = absurd (false≢true is)
all_at test (frag ∷ more) c e is =
    let both = and_parts (list_all test (characters_of frag)) (list_all test (characters more)) (sym (list_all-append test (characters_of frag) (characters more)) ∙ e) in
    elim (covers_cases frag more c is) [
      | inl here ↦ (let low = here.behind_start in let high = here.before_end in range_at test frag.start (frag.end - frag.start) c both.0 low (omega arith))
      | inr later ↦ all_at test more c both.1 later
    ]

all_from : (test : ℕ → Bool) (frags : List Frag) → ((c : ℕ) → covers frags c ≡ true → test c ≡ true) → list_all test (characters frags) ≡ true
all_from test [] each = refl
all_from test (frag ∷ more) each =
    list_all-append test (characters_of frag) (characters more)
    ∙ and_from (list_all test (characters_of frag)) (list_all test (characters more))
    (range_from test frag.start (frag.end - frag.start) (λ c a b. each c (covers_here frag more c a (omega arith))))
    (all_from test more (λ c is. each c (covers_later frag more c is)))

-- one has each character of the other from a place on
pub HasFrom : List Frag → List Frag → ℕ → Type 0
HasFrom a b place = (c : ℕ) → covers b c ≡ true → place ≤ c → covers a c ≡ true

pub has_all-from : (a b : List Frag) → HasFrom a b 0 → has_all a b ≡ true
unfolding HasFrom
has_all-from a b has = all_from (covers a) b (λ c is. has c is (omega arith))

pub has_all-gives : (a b : List Frag) → has_all a b ≡ true → HasFrom a b 0
unfolding HasFrom
has_all-gives a b e c is _ = all_at (covers a) b c e is

-- no character of one is a character of the other
pub AreApart : List Frag → List Frag → Type 0
AreApart a b = (c : ℕ) → covers a c ≡ true → covers b c ≡ true → ⊥

any_not : (test : ℕ → Bool) (xs : List ℕ) → list_any test xs ≡ not (list_all (λ x. not (test x)) xs)
any_not test [] = refl
any_not test (x ∷ xs) = elim (test x) as (λ b. (b || list_any test xs) ≡ not (not b && list_all (λ y. not (test y)) xs)) [ true ↦ refl | false ↦ any_not test xs ]

pub shares-from : (a b : List Frag) → AreApart a b → shares a b ≡ false
unfolding AreApart
shares-from a b apart =
    any_not (covers b) (characters a) ∙ ap not (all_from (λ c. not (covers b c)) a (λ c is. not_from_false (covers b c) (false_from_ne_true (covers b c) (apart c is))))

pub shares-gives : (a b : List Frag) → shares a b ≡ false → AreApart a b
unfolding AreApart
shares-gives a b e c in_a in_b =
    let each = not-false (list_all (λ x. not (covers b x)) (characters a)) (sym (any_not (covers b) (characters a)) ∙ e) in
    both_ways (covers b c) (not-true (covers b c) (all_at (λ x. not (covers b x)) a c each in_a)) in_b

-- what is left of two spans while they are walked: ascending, and apart exactly where the whole spans are
pub record Walks (a b left right : List Frag) : Type 0 where
  pub first : are_ascending left ≡ true
  pub second : are_ascending right ≡ true
  pub to : AreApart left right → AreApart a b
  pub back : AreApart a b → AreApart left right

pub walks_none : (a b : List Frag) → are_ascending a ≡ true → are_ascending b ≡ true → Walks a b a b
walks_none a b x y = record { first = x; second = y; to = λ h. h; back = λ h. h }

pub walks_left : (a b left right : List Frag) (one : Frag) (lefts : List Frag) (other : Frag) (rights : List Frag)
    → left ≡ one ∷ lefts → right ≡ other ∷ rights → one.end ≤ other.start → Walks a b left right → Walks a b lefts right
unfolding AreApart
walks_left a b left right one lefts other rights begins is past whole_left =
    let w : Walks a b (one ∷ lefts) right = subst (λ l. Walks a b l right) begins whole_left in
    let low : (c : ℕ) → covers right c ≡ true → other.start ≤ c = λ c in_right. all_behind other rights c (ap are_ascending (sym is) ∙ w.second) (ap (λ r. covers r c) (sym is) ∙ in_right) in
    record {
      first = ascending_later one lefts w.first;
      second = w.second;
      to = λ apart. w.to (λ c in_left in_right.
          elim (covers_cases one lefts c in_left) [
            | inl here ↦ (let high = here.before_end in let far = low c in_right in absurd (omega arith))
            | inr later ↦ apart c later in_right
          ]);
      back = λ whole c in_left in_right. w.back whole c (covers_later one lefts c in_left) in_right;
    }

pub walks_right : (a b left right : List Frag) (one : Frag) (lefts : List Frag) (other : Frag) (rights : List Frag)
    → left ≡ one ∷ lefts → right ≡ other ∷ rights → other.end ≤ one.start → Walks a b left right → Walks a b left rights
unfolding AreApart
walks_right a b left right one lefts other rights is begins past whole_right =
    let w : Walks a b left (other ∷ rights) = subst (λ r. Walks a b left r) begins whole_right in
    let low : (c : ℕ) → covers left c ≡ true → one.start ≤ c = λ c in_left. all_behind one lefts c (ap are_ascending (sym is) ∙ w.first) (ap (λ r. covers r c) (sym is) ∙ in_left) in
    record {
      first = w.first;
      second = ascending_later other rights w.second;
      to = λ apart. w.to (λ c in_left in_right.
          elim (covers_cases other rights c in_right) [
            | inl here ↦ (let high = here.before_end in let far = low c in_left in absurd (omega arith))
            | inr later ↦ apart c in_left later
          ]);
      back = λ whole c in_left in_right. w.back whole c in_left (covers_later other rights c in_right);
    }

pub walks_met : (a b left right : List Frag) (one : Frag) (lefts : List Frag) (other : Frag) (rights : List Frag)
    → left ≡ one ∷ lefts → right ≡ other ∷ rights → other.start < one.end → one.start < other.end → Walks a b left right → shares a b ≡ true
unfolding AreApart
walks_met a b left right one lefts other rights begins_left begins_right x y whole =
    let w : Walks a b (one ∷ lefts) (other ∷ rights) = subst (λ r. Walks a b (one ∷ lefts) r) begins_right (subst (λ l. Walks a b l right) begins_left whole) in
    let full = not_empty one lefts w.first in
    let filled = not_empty other rights w.second in
    true_from_ne_false (shares a b) (λ none.
    let apart = w.back (shares-gives a b none) in
    elim (cases_lt one.start other.start) [
      | inl less ↦ apart other.start (covers_here one lefts other.start (omega arith) (omega arith)) (covers_here other rights other.start (omega arith) (omega arith))
      | inr more ↦ apart one.start (covers_here one lefts one.start (omega arith) (omega arith)) (covers_here other rights one.start (omega arith) (omega arith))
    ])

pub walks_all : (a b left right : List Frag) → Walks a b left right → (length left ≡ 0) ⊎ (length right ≡ 0) → shares a b ≡ false
unfolding AreApart
walks_all a b left right w ended =
    shares-from a b (w.to (λ c in_left in_right.
    elim ended [
      | inl none ↦ none_covers left c none in_left
      | inr none ↦ none_covers right c none in_right
    ]))

max_is : (m n : ℕ) → (max m n ≡ m) ⊎ (max m n ≡ n)
max_is m n = elim (cases_lt m n) [ inl less ↦ inr (omega arith) | inr more ↦ inl (omega arith) ]

-- what is left of the characters that are sought: ascending, and the first span has them all exactly where it has those that are left, from a place on
pub record Seeks (a b left sought : List Frag) (place : ℕ) : Type 0 where
  pub first : are_ascending left ≡ true
  pub second : are_ascending sought ≡ true
  pub to : HasFrom left sought place → HasFrom a b 0
  pub back : HasFrom a b 0 → HasFrom left sought place

pub seeks_none : (a b : List Frag) → are_ascending a ≡ true → are_ascending b ≡ true → Seeks a b a b 0
seeks_none a b x y = record { first = x; second = y; to = λ h. h; back = λ h. h }

-- a fragment that ends before what is left is done
pub seeks_later : (a b left sought : List Frag) (frag : Frag) (later : List Frag) (place : ℕ)
    → sought ≡ frag ∷ later → frag.end ≤ max frag.start place → Seeks a b left sought place → Seeks a b left later place
unfolding HasFrom
seeks_later a b left sought frag later place begins done whole_sought =
    let s : Seeks a b left (frag ∷ later) place = subst (λ r. Seeks a b left r place) begins whole_sought in
    let full = not_empty frag later s.second in
    let past : frag.end ≤ place = elim (max_is frag.start place) [ inl e ↦ absurd (omega arith) | inr e ↦ omega arith ] in
    record {
      first = s.first;
      second = ascending_later frag later s.second;
      to = λ has. s.to (λ c is from.
          elim (covers_cases frag later c is) [
            | inl here ↦ (let high = here.before_end in absurd (omega arith))
            | inr behind ↦ has c behind from
          ]);
      back = λ whole c is from. s.back whole c (covers_later frag later c is) from;
    }

-- a fragment of the first span that starts no later covers what is left up to its end
pub seeks_covered : (a b left sought : List Frag) (cover : Frag) (lefts : List Frag) (frag : Frag) (later : List Frag) (place : ℕ)
    → left ≡ cover ∷ lefts → sought ≡ frag ∷ later → cover.start ≤ max frag.start place
    → Seeks a b left sought place → Seeks a b lefts sought (max cover.end (max frag.start place))
unfolding HasFrom
seeks_covered a b left sought cover lefts frag later place begins is low whole_left =
    let s : Seeks a b (cover ∷ lefts) sought place = subst (λ l. Seeks a b l sought place) begins whole_left in
    let start : ℕ = max frag.start place in
    let next : ℕ = max cover.end start in
    let which = max_is frag.start place in
    let next_is = max_is cover.end start in
    let x : frag.start ≤ start = omega arith in
    let y : place ≤ start = omega arith in
    let ends : cover.end ≤ next = omega arith in
    let after : start ≤ next = omega arith in
    let low_of : (c : ℕ) → covers sought c ≡ true → place ≤ c → start ≤ c = λ c in_sought from.
    let behind = all_behind frag later c (ap are_ascending (sym is) ∙ s.second) (ap (λ r. covers r c) (sym is) ∙ in_sought) in
    elim which [ inl e ↦ omega arith | inr e ↦ omega arith ] in
    record {
      first = ascending_later cover lefts s.first;
      second = s.second;
      to = λ has. s.to (λ c in_sought from.
          let reached = low_of c in_sought from in
          elim (cases_lt c cover.end) [
            | inl inside ↦ covers_here cover lefts c (omega arith) inside
            | inr past ↦ covers_later cover lefts c (has c in_sought (elim next_is [ inl e ↦ omega arith | inr e ↦ omega arith ]))
          ]);
      back = λ whole c in_sought from.
          elim (covers_cases cover lefts c (s.back whole c in_sought (omega arith))) [
            | inl here ↦ (let high = here.before_end in absurd (omega arith))
            | inr behind ↦ behind
          ];
    }

pub seeks_gap : (a b left sought : List Frag) (frag : Frag) (later : List Frag) (place : ℕ)
    → sought ≡ frag ∷ later → max frag.start place < frag.end → (covers left (max frag.start place) ≡ true → ⊥) → Seeks a b left sought place → has_all a b ≡ false
unfolding HasFrom
seeks_gap a b left sought frag later place begins z missing whole =
    let s : Seeks a b left (frag ∷ later) place = subst (λ r. Seeks a b left r place) begins whole in
    let start : ℕ = max frag.start place in
    let x : frag.start ≤ start = omega arith in
    let y : place ≤ start = omega arith in
    false_from_ne_true (has_all a b) (λ all. missing (s.back (has_all-gives a b all) start (covers_here frag later start x z) y))

-- a span that starts behind a character lacks it
pub starts_behind : (left : List Frag) (cover : Frag) (lefts : List Frag) (c : ℕ) → left ≡ cover ∷ lefts → are_ascending left ≡ true → c < cover.start → covers left c ≡ true → ⊥
starts_behind left cover lefts c begins ascending before is =
    let low = all_behind cover lefts c (ap are_ascending (sym begins) ∙ ascending) (ap (λ l. covers l c) (sym begins) ∙ is) in
    absurd (omega arith)

pub seeks_all : (a b left sought : List Frag) (place : ℕ) → length sought ≡ 0 → Seeks a b left sought place → has_all a b ≡ true
unfolding HasFrom
seeks_all a b left sought place none s = has_all-from a b (s.to (λ c is _. absurd (none_covers sought c none is)))

-- the kind of overlap by the three comparisons
pub kind_with : (a b : List Frag) (shared first second : Bool) → shares a b ≡ shared → has_all a b ≡ first → has_all b a ≡ second → kind_of a b ≡ kind_by shared first second
unfolding kind_of
kind_with a b shared first second x y z =
    ap (λ s. kind_by s (has_all a b) (has_all b a)) x ∙ ap (λ f. kind_by shared f (has_all b a)) y ∙ ap (kind_by shared first) z

pub kind_apart : (a b : List Frag) → shares a b ≡ false → kind_of a b ≡ Apart
kind_apart a b x = kind_with a b false (has_all a b) (has_all b a) x refl refl

-- it is the same whether one shares a character with the other or the other with it
apart_turned : (a b : List Frag) → shares a b ≡ false → shares b a ≡ false
unfolding AreApart
apart_turned a b apart = shares-from b a (λ c in_b in_a. shares-gives a b apart c in_a in_b)

pub shares_turned : (a b : List Frag) → shares b a ≡ shares a b
shares_turned a b =
    elim (cases_Bool (shares a b)) [
      | inl some ↦ true_from_ne_false (shares b a) (λ apart. both_ways (shares a b) (apart_turned b a apart) some) ∙ sym some
      | inr apart ↦ apart_turned a b apart ∙ sym apart
    ]
