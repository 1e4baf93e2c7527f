use Rattle.std.proofs.Common.{◌≡◌, ℕ, ◌+◌, ◌<◌, ◌≤◌, ◌==◌, ◌&&◌, List, length, get_or, set, Option, Some, None, refl, arith, sym, ◌∙◌, inl, inr}
use Rattle.std.proofs.lemmas.Bool.{cases_Bool, cases_eq, ne_eqb, eq-eqb, and_from, and_left, and_right}
use Rattle.std.proofs.lemmas.List.{get_or-set_same, get_or-set_other}
use Rattle.kappa_alpha.specs.Columns.{worth, confusion_at}
use Rattle.kappa_alpha.specs.Standing.{sum_below}
use Rattle.kappa_alpha.specs.Pairs.{placed, share, shares}
use Rattle.kappa_alpha.proofs.PairPlaces.{placed_here, placed_elsewhere}
use Rattle.kappa_alpha.proofs.Below.{sum_more, sum_more_le, sum_zero, sum_one}
use Rattle.kappa_alpha.proofs.Worth.{worth_self, worth_le}

pub worth_none : (w c k : ℕ) (z : Option ℕ) → worth w c k z None ≡ 0
unfolding worth
worth_none w c k None = refl
worth_none w c k (Some z) = refl

pub none_worth : (w c k : ℕ) (z : Option ℕ) → worth w c k None z ≡ 0
unfolding worth
none_worth w c k z = refl

pub apart : (w a b p q c k : ℕ) (x z : Option ℕ) → (p ≡ a → ⊥) → placed w a b x z p q c k ≡ 0
apart w a b p q c k x z h = placed_elsewhere w a b p q c k x z (and_left (p == a) (q == b) (ne_eqb p a h))

pub apart_right : (w a b p q c k : ℕ) (x z : Option ℕ) → (q ≡ b → ⊥) → placed w a b x z p q c k ≡ 0
apart_right w a b p q c k x z h = placed_elsewhere w a b p q c k x z (and_right (p == a) (q == b) (ne_eqb q b h))

pub placed_at : (w a b c k : ℕ) (x z : Option ℕ) → placed w a b x z a b c k ≡ worth w c k x z
placed_at w a b c k x z = placed_here w a b a b c k x z (and_from (a == a) (b == b) (eq-eqb a a refl) (eq-eqb b b refl))

-- a label that a rater gets adds its shares to the contingency tables
pub pair_joined : (r p q c k : ℕ) (v : Option ℕ) (others : List (Option ℕ)) → p < q → q < length others → r < length others → get_or others r None ≡ None → confusion_at p q c k (set others r v) ≡ confusion_at p q c k others + shares 1 r v others (length others) p q c k
unfolding confusion_at shares share
pair_joined r p q c k v others pq hq hr e =
    elim (cases_eq p r) [
      | inl a ↦
          let qr : q ≡ r → ⊥ = λ b. omega arith in
          let one : sum_below (λ s. placed 1 r s v (get_or others s None) p q c k + placed 1 s r (get_or others s None) v p q c k) (length others) ≡ placed 1 r q v (get_or others q None) p q c k + placed 1 q r (get_or others q None) v p q c k =
          sum_one (λ s. placed 1 r s v (get_or others s None) p q c k + placed 1 s r (get_or others s None) v p q c k) q (length others)
          (λ s h. omega (arith, apart_right 1 r s p q c k v (get_or others s None) (λ b. h (sym b)), apart_right 1 s r p q c k (get_or others s None) v qr)) hq in
          let here : placed 1 r q v (get_or others q None) p q c k ≡ worth 1 c k v (get_or others q None) = rw a (placed_at 1 r q c k v (get_or others q None)) in
          let none : worth 1 c k (get_or others p None) (get_or others q None) ≡ 0 = rw (a, e) (none_worth 1 c k (get_or others q None)) in
          let now : worth 1 c k (get_or (set others r v) p None) (get_or (set others r v) q None) ≡ worth 1 c k v (get_or others q None) =
          rw (a, get_or-set_same others r v None hr, get_or-set_other others r q v None qr) refl in
          omega (arith, one, here, none, now, apart_right 1 q r p q c k (get_or others q None) v qr)
      | inr a ↦
          elim (cases_eq q r) [
            | inl b ↦
                let one : sum_below (λ s. placed 1 r s v (get_or others s None) p q c k + placed 1 s r (get_or others s None) v p q c k) (length others) ≡ placed 1 r p v (get_or others p None) p q c k + placed 1 p r (get_or others p None) v p q c k =
                sum_one (λ s. placed 1 r s v (get_or others s None) p q c k + placed 1 s r (get_or others s None) v p q c k) p (length others)
                (λ s h. omega (arith, apart 1 r s p q c k v (get_or others s None) a, apart 1 s r p q c k (get_or others s None) v (λ d. h (sym d)))) (omega arith) in
                let here : placed 1 p r (get_or others p None) v p q c k ≡ worth 1 c k (get_or others p None) v = rw b (placed_at 1 p r c k (get_or others p None) v) in
                let none : worth 1 c k (get_or others p None) (get_or others q None) ≡ 0 = rw (b, e) (worth_none 1 c k (get_or others p None)) in
                let now : worth 1 c k (get_or (set others r v) p None) (get_or (set others r v) q None) ≡ worth 1 c k (get_or others p None) v =
                rw (b, get_or-set_same others r v None hr, get_or-set_other others r p v None a) refl in
                omega (arith, one, here, none, now, apart 1 r p p q c k v (get_or others p None) a)
            | inr b ↦
                let zero_sum : sum_below (λ s. placed 1 r s v (get_or others s None) p q c k + placed 1 s r (get_or others s None) v p q c k) (length others) ≡ 0 =
                sum_zero (λ s. placed 1 r s v (get_or others s None) p q c k + placed 1 s r (get_or others s None) v p q c k) (length others)
                (λ s. omega (arith, apart 1 r s p q c k v (get_or others s None) a, apart_right 1 s r p q c k (get_or others s None) v b)) in
                rw (get_or-set_other others r p v None a, get_or-set_other others r q v None b) (omega (arith, zero_sum))
          ]
    ]

pub share_below : (w r s p q c k : ℕ) (x z : Option ℕ) → r < s → p < q → share w r x s z p q c k ≡ placed w r s x z p q c k
unfolding share
share_below w r s p q c k x z h pq =
    elim (cases_eq p s) [
      | inl e ↦ omega (arith, apart_right w s r p q c k z x (λ d. omega arith))
      | inr e ↦ omega (arith, apart w s r p q c k z x e)
    ]

pub share_above : (w r s p q c k : ℕ) (x z : Option ℕ) → s < r → p < q → share w r x s z p q c k ≡ placed w s r z x p q c k
unfolding share
share_above w r s p q c k x z h pq =
    elim (cases_eq p r) [
      | inl e ↦ omega (arith, apart_right w r s p q c k x z (λ d. omega arith))
      | inr e ↦ omega (arith, apart w r s p q c k x z e)
    ]

pub placed_none : (w a b p q c k : ℕ) (x : Option ℕ) → placed w a b x None p q c k ≡ 0
placed_none w a b p q c k x =
    elim (cases_Bool ((p == a) && (q == b))) [
      | inl e ↦ placed_here w a b p q c k x None e ∙ worth_none w c k x
      | inr e ↦ placed_elsewhere w a b p q c k x None e
    ]

pub none_placed : (w a b p q c k : ℕ) (x : Option ℕ) → placed w a b None x p q c k ≡ 0
none_placed w a b p q c k x =
    elim (cases_Bool ((p == a) && (q == b))) [
      | inl e ↦ placed_here w a b p q c k None x e ∙ none_worth w c k x
      | inr e ↦ placed_elsewhere w a b p q c k None x e
    ]

pub share_none : (w r s p q c k : ℕ) (x : Option ℕ) → share w r x s None p q c k ≡ 0
unfolding share
share_none w r s p q c k x = omega (arith, placed_none w r s p q c k x, none_placed w s r p q c k x)

pub one_here : (w a b c k : ℕ) → placed w a b (Some c) (Some k) a b c k ≡ w
one_here w a b c k = placed_at w a b c k (Some c) (Some k) ∙ worth_self w c k

pub not_same : (r s y : ℕ) (z : Option ℕ) → (r ≡ s → z ≡ None) → z ≡ Some y → r ≡ s → ⊥
not_same r s y z h e d = let n : None ≡ Some y = sym (h d) ∙ e in cc

pub shares_none : (w r p q c k : ℕ) (x : Option ℕ) (others : List (Option ℕ)) → shares w r x others 0 p q c k ≡ 0
unfolding shares sum_below
shares_none w r p q c k x others = refl

pub shares_more : (w r p q c k : ℕ) (x : Option ℕ) (others : List (Option ℕ)) (i : ℕ) → shares w r x others (i + 1) p q c k ≡ shares w r x others i p q c k + share w r x i (get_or others i None) p q c k
unfolding shares
shares_more w r p q c k x others i = sum_more (λ s. share w r x s (get_or others s None) p q c k) i

pub shares_more_le : (w r p q c k : ℕ) (x : Option ℕ) (others : List (Option ℕ)) (i n : ℕ) → i < n → shares w r x others i p q c k + share w r x i (get_or others i None) p q c k ≤ shares w r x others n p q c k
unfolding shares
shares_more_le w r p q c k x others i n h = sum_more_le (λ s. share w r x s (get_or others s None) p q c k) i n h

-- a rater without a label adds nothing to the tables
pub shares_none_of : (w r : ℕ) (others : List (Option ℕ)) (n p q c k : ℕ) → shares w r None others n p q c k ≡ 0
unfolding shares share
shares_none_of w r others n p q c k =
    sum_zero (λ s. placed w r s None (get_or others s None) p q c k + placed w s r (get_or others s None) None p q c k) n
    (λ s. omega (arith, none_placed w r s p q c k (get_or others s None), placed_none w s r p q c k (get_or others s None)))

pub placed_zero : (a b p q c k : ℕ) (x z : Option ℕ) → placed 0 a b x z p q c k ≡ 0
placed_zero a b p q c k x z =
    elim (cases_Bool ((p == a) && (q == b))) [
      | inl e ↦ omega (arith, placed_here 0 a b p q c k x z e, worth_le 0 c k x z)
      | inr e ↦ placed_elsewhere 0 a b p q c k x z e
    ]

-- a label that counts nothing adds nothing to the tables
pub shares_zero : (r : ℕ) (x : Option ℕ) (others : List (Option ℕ)) (n p q c k : ℕ) → shares 0 r x others n p q c k ≡ 0
unfolding shares share
shares_zero r x others n p q c k =
    sum_zero (λ s. placed 0 r s x (get_or others s None) p q c k + placed 0 s r (get_or others s None) x p q c k) n
    (λ s. omega (arith, placed_zero r s p q c k x (get_or others s None), placed_zero s r p q c k (get_or others s None) x))
