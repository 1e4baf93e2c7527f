-- Which of two flaws is told.
use Rattle.std.proofs.Common.{◌≡◌, ℕ, ◌+◌, ◌<◌, ◌≤◌, ◌⊎◌, inl, inr, true, false, cond, nat_le, refl, sym, ◌∙◌, ap, Option, Some, None, List, [], ◌∷◌, zero, suc, length, get_or, drop, drop-cons, arith, tests}
use Rattle.std.specs.Option.{option_or}
use Rattle.std.proofs.lemmas.Bool.{le-leb, lt-leb}
use Rattle.mark_base.specs.declared.ann_id.Kind.{Kind}
use Rattle.layer_model.specs.declared.class.Class.{Class}
use Rattle.layer_model.specs.declared.rule.Rule.{Rule}
use Rattle.layer_model.specs.declared.flaw.Flaw.{Flaw}
use Rattle.layer_model.specs.declared.flaw.FlawPlace.TheVariants as at
use Rattle.layer_model.specs.Rules.{number_of}
use Rattle.mark_base.specs.ReadIds.{id_at}
use Rattle.layer_rules.specs.LowestFlaw.{lower_flaw, lowest_of, lowest_from, flaw_at}

pub lower-None : (a : Option Flaw) → lower_flaw a None ≡ a
lower-None None = refl
lower-None (Some a) = refl

either : (x y : ℕ) → (x ≤ y) ⊎ (y < x)
either x y = elim (nat_le x y) as (λ b. nat_le x y ≡ b → (x ≤ y) ⊎ (y < x)) [ true ↦ λ e. inl (is x y e) | false ↦ λ e. inr (is_not x y e) ] refl
  where
    is : (m n : ℕ) → nat_le m n ≡ true → m ≤ n
    is m n e = search (arith, tests)

    is_not : (m n : ℕ) → nat_le m n ≡ false → n < m
    is_not m n e = search (arith, tests)

pub lower-first : (a b : Flaw) → number_of a.rule ≤ number_of b.rule → lower_flaw (Some a) (Some b) ≡ Some a
lower-first a b h = ap (λ r. cond r (Some a) (Some b)) (le-leb _ _ h)

pub lower-second : (a b : Flaw) → number_of b.rule < number_of a.rule → lower_flaw (Some a) (Some b) ≡ Some b
lower-second a b h = ap (λ r. cond r (Some a) (Some b)) (lt-leb _ _ h)

lower_three : (a b c : Flaw) → lower_flaw (lower_flaw (Some a) (Some b)) (Some c) ≡ lower_flaw (Some a) (lower_flaw (Some b) (Some c))
lower_three a b c =
    elim (either (number_of a.rule) (number_of b.rule)) [
      | inl ab ↦
          ap (λ o. lower_flaw o (Some c)) (lower-first a b ab)
          ∙ elim (either (number_of b.rule) (number_of c.rule)) [
            | inl bc ↦ (let ac : number_of a.rule ≤ number_of c.rule = omega arith in lower-first a c ac ∙ sym (ap (lower_flaw (Some a)) (lower-first b c bc) ∙ lower-first a b ab))
            | inr cb ↦ sym (ap (lower_flaw (Some a)) (lower-second b c cb))
          ]
      | inr ba ↦
          ap (λ o. lower_flaw o (Some c)) (lower-second a b ba)
          ∙ elim (either (number_of b.rule) (number_of c.rule)) [
            | inl bc ↦ lower-first b c bc ∙ sym (ap (lower_flaw (Some a)) (lower-first b c bc) ∙ lower-second a b ba)
            | inr cb ↦ (let ca : number_of c.rule < number_of a.rule = omega arith in lower-second b c cb ∙ sym (ap (lower_flaw (Some a)) (lower-second b c cb) ∙ lower-second a c ca))
          ]
    ]

pub lower_assoc : (a b c : Option Flaw) → lower_flaw (lower_flaw a b) c ≡ lower_flaw a (lower_flaw b c)
lower_assoc None b c = refl
lower_assoc (Some a) None c = refl
lower_assoc (Some a) (Some b) None = lower-None (lower_flaw (Some a) (Some b))
lower_assoc (Some a) (Some b) (Some c) = lower_three a b c

pub or-None : {X : Type 0} (a : Option X) → option_or a None ≡ a
or-None None = refl
or-None (Some a) = refl

pub or_assoc : {X : Type 0} (a b c : Option X) → option_or (option_or a b) c ≡ option_or a (option_or b c)
or_assoc None b c = refl
or_assoc (Some a) b c = refl

-- ---- a walk, one annotation or class at a time

-- one more annotation of a letter
pub walk_on : {V : Type 0} (kind : Kind) (told : V → Option Rule) (so_far whole : Option Flaw) (rest later : List (ℕ × V)) (n : ℕ) (v : V)
    → rest ≡ (n, v) ∷ later → lower_flaw so_far (lowest_of kind told rest) ≡ whole
    → lower_flaw (lower_flaw so_far (flaw_at (at.Mark (id_at kind n)) (told v))) (lowest_of kind told later) ≡ whole
walk_on kind told so_far whole rest later n v is before =
    lower_assoc so_far (flaw_at (at.Mark (id_at kind n)) (told v)) (lowest_of kind told later)
    ∙ sym (ap (λ r. lower_flaw so_far (lowest_of kind told r)) is) ∙ before

-- one more class
pub classes_on : (told : Class → Option Rule) (so_far whole : Option Flaw) (rest later : List Class) (i : ℕ) (class : Class)
    → rest ≡ class ∷ later → lower_flaw so_far (lowest_from i told rest) ≡ whole
    → lower_flaw (lower_flaw so_far (flaw_at (at.Class i) (told class))) (lowest_from (i + 1) told later) ≡ whole
classes_on told so_far whole rest later i class is before =
    lower_assoc so_far (flaw_at (at.Class i) (told class)) (lowest_from (i + 1) told later)
    ∙ sym (ap (λ r. lower_flaw so_far (lowest_from i told r)) is) ∙ before

-- the classes from a place on
pub dropped : (classes : List Class) (i : ℕ) (class : Class) → i < length classes → class ≡ get_or classes i class → drop i classes ≡ class ∷ drop (i + 1) classes
dropped classes i class below is =
    let next : suc i ≡ i + 1 = omega arith in
    drop-cons classes i class below ∙ ap (λ k. get_or classes i class ∷ drop k classes) next ∙ ap (λ c. c ∷ drop (i + 1) classes) (sym is)

pub none_left : (classes : List Class) (i : ℕ) → length classes ≤ i → drop i classes ≡ []
none_left [] zero h = refl
none_left [] (suc i) h = refl
none_left (class ∷ classes) zero h = absurd (omega arith)
none_left (class ∷ classes) (suc i) h = none_left classes i (omega arith)
