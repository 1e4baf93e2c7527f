-- What callers may conclude from the kind of overlap, and from the first span that touches.
use Rattle.std.proofs.Common.{◌≡◌, ℕ, inl, inr, Bool, true, false, cond, List, Option, Some, None, refl, sym, ◌∙◌, ap}
use Rattle.std.proofs.lemmas.Bool.{both_ways, cases_order}
use Rattle.std.specs.Ordering.{is_eq}
use Rattle.std.specs.Cmp.{nat_cmp_total}
use Rattle.std.specs.FinMap as map
use Rattle.std.specs.FinMap.{get-remove}
use Rattle.std.proofs.lemmas.Cmp.{tied_itself}
use Rattle.mark_base.specs.declared.fragments.Frag.{Frag}
use Rattle.mark_base.specs.declared.overlap.OvlKind.{OvlKind}
use Rattle.overlap_rules.specs.Overlaps.{kind_by, kind_of, shares, has_all, turned}
use Rattle.overlap_rules.specs.TouchingSpans.{Held, Fails, Passes, IsFirstTouching}
use Rattle.overlap_rules.proofs.CoverLemmas.{kind_with, shares_turned}

by_turned : (shared one other : Bool) → kind_by shared other one ≡ turned (kind_by shared one other)
by_turned true true true = refl
by_turned true true false = refl
by_turned true false true = refl
by_turned true false false = refl
by_turned false one other = refl

-- two spans in the other order
pub kind_of-turned : (a b : List Frag) → kind_of b a ≡ turned (kind_of a b)
kind_of-turned a b =
    kind_with b a (shares a b) (has_all b a) (has_all a b) (shares_turned a b) refl refl
    ∙ by_turned (shares a b) (has_all a b) (has_all b a)
    ∙ sym (ap turned (kind_with a b (shares a b) (has_all a b) (has_all b a) refl refl refl))

-- what a test's answers are known to be may stand in the place of the answers
pub touching_by : (answers known : ℕ → OvlKind → Bool → Type 0) → ((number : ℕ) (kind : OvlKind) (answer : Bool) → answers number kind answer → known number kind answer)
    → (held : Held) (frags : List Frag) (skip : Option ℕ) (result : Option ℕ) → IsFirstTouching answers held frags skip result → IsFirstTouching known held frags skip result
touching_by answers known told held frags skip None each = λ number span is touches. told number (kind_of span frags) false (each number span is touches)
touching_by answers known told held frags skip (Some number) found =
    let p = found.passes in
    record {
      passes = record { span = p.span; held_so = p.held_so; touches = p.touches; passes = told number (kind_of p.span frags) true p.passes };
      lowest = λ lower below span is touches. told lower (kind_of span frags) false (found.lowest lower below span is touches);
    }

-- the answer to number and kind is that of a function of them
abbrev pub Pure : (ℕ → OvlKind → Bool) → ℕ → OvlKind → Bool → Type 0
Pure test number kind answer = answer ≡ test number kind

not_both : (test : ℕ → OvlKind → Bool) (held : Held) (frags : List Frag) (skip : Option ℕ) (number : ℕ)
    → Fails (Pure test) held frags skip number → Passes (Pure test) held frags skip number → ⊥
not_both test held frags skip number fails p =
    both_ways (test number (kind_of p.span frags)) (sym (fails p.span p.held_so p.touches)) (sym p.passes)

-- a test by number and kind has one answer
pub touching_once : (test : ℕ → OvlKind → Bool) (held : Held) (frags : List Frag) (skip : Option ℕ) (one other : Option ℕ)
    → IsFirstTouching (Pure test) held frags skip one → IsFirstTouching (Pure test) held frags skip other → one ≡ other
touching_once test held frags skip None None x y = refl
touching_once test held frags skip None (Some n) x y = absurd (not_both test held frags skip n (x n) y.passes)
touching_once test held frags skip (Some n) None x y = absurd (not_both test held frags skip n (y n) x.passes)
touching_once test held frags skip (Some m) (Some n) x y =
    elim (cases_order m n) [
      | inl same ↦ ap Some same
      | inr apart ↦
          elim apart [
            | inl less ↦ absurd (not_both test held frags skip m (y.lowest m less) x.passes)
            | inr more ↦ absurd (not_both test held frags skip n (x.lowest n more) y.passes)
          ]
    ]

-- a number that was let go is not held
pub released : (held : Held) (number : ℕ) → map.get (map.remove held number) number ≡ None
released held number =
    get-remove nat_cmp_total held number number
    ∙ ap (λ b. cond b None (map.get held number)) (ap is_eq (tied_itself nat_cmp_total number))
