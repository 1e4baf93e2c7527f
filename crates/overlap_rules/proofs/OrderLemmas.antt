-- Fragments in order, walked from the first on.
use Rattle.std.proofs.Common.{◌≡◌, ℕ, ◌-◌, ◌<◌, ◌≤◌, ◌⊎◌, inl, inr, Bool, true, false, ◌&&◌, List, [], ◌∷◌, Some, None, nat_lt, nat_le, length, slice_get, refl, sym, ◌∙◌, ap, arith}
use Rattle.std.proofs.lemmas.Bool.{le-leb, lt-leb, lt-ltb, le-ltb, and_left, and_right}
use Rattle.mark_base.specs.declared.fragments.Frag.{Frag}
use Rattle.overlap_rules.specs.Overlaps.{are_ascending, last_end, reach}

-- fragments are in order, and the first starts no earlier than a place
pub ascend_from : ℕ → List Frag → Bool
ascend_from place [] = true
ascend_from place (frag ∷ more) = nat_le place frag.start && (nat_lt frag.start frag.end && ascend_from frag.end more)

grouped : (a b c : Bool) → ((a && b) && c) ≡ (a && (b && c))
grouped true b c = refl
grouped false b c = refl

-- the first fragment, and the others from its end on
ascending_first : (frag : Frag) (more : List Frag) → are_ascending (frag ∷ more) ≡ (nat_lt frag.start frag.end && ascend_from frag.end more)
unfolding ascend_from
ascending_first frag [] = elim (nat_lt frag.start frag.end) as (λ b. b ≡ (b && true)) [ true ↦ refl | false ↦ refl ]
ascending_first frag (next ∷ more) =
    grouped (nat_lt frag.start frag.end) (nat_le frag.end next.start) (are_ascending (next ∷ more))
    ∙ ap (λ b. nat_lt frag.start frag.end && (nat_le frag.end next.start && b)) (ascending_first next more)

pub ascend_none : (frags : List Frag) → are_ascending frags ≡ ascend_from 0 frags
unfolding ascend_from
ascend_none [] = refl
ascend_none (frag ∷ more) = ascending_first frag more ∙ sym (ap (λ b. b && (nat_lt frag.start frag.end && ascend_from frag.end more)) (le-leb 0 frag.start (omega arith)))

pub ascend_more : (frags rest : List Frag) (frag : Frag) (later : List Frag) (place : ℕ) → rest ≡ frag ∷ later
    → place ≤ frag.start → frag.start < frag.end → are_ascending frags ≡ ascend_from place rest → are_ascending frags ≡ ascend_from frag.end later
unfolding ascend_from
ascend_more frags rest frag later place begins behind full is =
    is ∙ ap (ascend_from place) begins
    ∙ ap (λ b. b && (nat_lt frag.start frag.end && ascend_from frag.end later)) (le-leb place frag.start behind)
    ∙ ap (λ b. b && ascend_from frag.end later) (lt-ltb frag.start frag.end full)

pub ascend_broken : (frags rest : List Frag) (frag : Frag) (later : List Frag) (place : ℕ) → rest ≡ frag ∷ later
    → (frag.start < place) ⊎ (frag.end ≤ frag.start) → are_ascending frags ≡ ascend_from place rest → are_ascending frags ≡ false
unfolding ascend_from
ascend_broken frags rest frag later place begins broken is =
    is ∙ ap (ascend_from place) begins
    ∙ elim broken [
      | inl early ↦ and_left (nat_le place frag.start) (nat_lt frag.start frag.end && ascend_from frag.end later) (lt-leb place frag.start early)
      | inr empty ↦ and_right (nat_le place frag.start) (nat_lt frag.start frag.end && ascend_from frag.end later) (and_left (nat_lt frag.start frag.end) (ascend_from frag.end later) (le-ltb frag.start frag.end empty))
    ]

pub ascend_all : (frags rest : List Frag) (place : ℕ) → length rest ≡ 0 → are_ascending frags ≡ ascend_from place rest → are_ascending frags ≡ true
unfolding ascend_from
ascend_all frags [] place none is = is
ascend_all frags (frag ∷ more) place none is = absurd (omega arith)

some_frag : {f g : Frag} → Some f ≡ Some g → f ≡ g
some_frag e = cc

none_frag : {f : Frag} → None ≡ Some f → ⊥
none_frag e = cc

last_end_is : (frag : Frag) (more : List Frag) (last : Frag) → slice_get (frag ∷ more) (length more) ≡ Some last → last.end ≡ last_end frag.end more
last_end_is frag [] last is = ap (λ (f : Frag). f.end) (sym (some_frag is))
last_end_is frag (next ∷ more) last is = last_end_is next more last is

pub reach_is : (frags : List Frag) (first last : Frag) → Some first ≡ slice_get frags 0 → Some last ≡ slice_get frags (length frags - 1) → last.end - first.start ≡ reach frags
reach_is [] first last begins ends = absurd (none_frag (sym begins))
reach_is (frag ∷ more) first last begins ends =
    let whole : length (frag ∷ more) - 1 ≡ length more = omega arith in
    ap (λ e. e - first.start) (last_end_is frag more last (sym (ends ∙ ap (slice_get (frag ∷ more)) whole)))
    ∙ ap (λ (f : Frag). last_end frag.end more - f.start) (some_frag begins)
