-- One more content at the end of an indexed table.
use Rattle.std.proofs.Common.{◌≡◌, ◌≢◌, ℕ, ◌+◌, ◌<◌, ◌⊎◌, Bool, true, false, cond, List, [], ◌∷◌, ◌++◌, map, length, get_or, take, ◌-◌, refl, sym, ap, ◌∙◌, subst, arith, inl, inr, Option, Some, None}
use Rattle.std.proofs.lemmas.Grind.{common_steps}
use Rattle.std.specs.Ordering.{nat_cmp, is_eq}
use Rattle.std.specs.Cmp.Lexicographic.{slice_cmp}
use Rattle.std.specs.BTreeMap.{BTreeMap, get}
use Rattle.std.specs.FinMap.{slice_cmp-IsAntisymmetric, nat_cmp-IsAntisymmetric}
use Rattle.std.specs.Cmp.{Equal-is, tied_itself}
use Rattle.std.specs.Cmp.Lexicographic.{nat_list_cmp_total}
use Rattle.content_keys.specs.Numbers.{sorted}
use Rattle.content_keys.specs.Nodes.{Node, Names}
use Rattle.content_keys.specs.Tables.{IsTable, IsIndexed, IsWordAt, MayAdd, IsAdded, flat, link_rank}
use Rattle.content_keys.proofs.WordLemmas.{flat_same}

module _ (ss : List (Node ℕ)) (s : Node ℕ) where
  abbrev t : List (Node ℕ)
  t = ss ++ s ∷ []

  long : length t ≡ length ss + 1
  long = grind (arith, common_steps)

  before : (i : ℕ) (d : Node ℕ) → i < length ss → get_or t i d ≡ get_or ss i d
  before i d h = grind (arith, common_steps)

  last : (d : Node ℕ) → get_or t (length ss) d ≡ s
  last d = grind (arith, common_steps)

  two : (i : ℕ) → i < length t → (i < length ss) ⊎ (i ≡ length ss)
  two i h = let l : length t ≡ length ss + 1 = long in grind (arith, l)

  last_at : (i : ℕ) (d : Node ℕ) → i ≡ length ss → get_or t i d ≡ s
  last_at i d e = ap (λ k. get_or t k d) e ∙ last d

  pub table_more : IsTable ss → MayAdd ss s → ((j : ℕ) (d : Node ℕ) → j < length ss → get_or ss j d ≢ s) → IsTable t
  table_more a m new =
      let l : length t ≡ length ss + 1 = long in
      record {
        short = let r : length ss < 4294967295 = m.room in omega arith;
        below = λ i x d h n. elim (two i h) [
          | inl k ↦ a.below i x d k (let P : Node ℕ → Type 0 = Names x in subst P (before i d k) n)
          | inr e ↦ let q : x < length ss = m.below x (let P : Node ℕ → Type 0 = Names x in subst P (last_at i d e) n) in omega arith
        ];
        rising = λ i d h. let P : Node ℕ → Type 0 = λ u. sorted (map link_rank u.bag) ≡ map link_rank u.bag in
            elim (two i h) [
              | inl k ↦ subst P (sym (before i d k)) (a.rising i d k)
              | inr e ↦ subst P (sym (last_at i d e)) m.rising
            ];
        distinct = λ i j d h k e. elim (two i h) [
          | inl p ↦ elim (two j k) [
            | inl q ↦ a.distinct i j d p q (sym (before i d p) ∙ e ∙ before j d q)
            | inr q ↦ absurd (new i d p (sym (before i d p) ∙ e ∙ last_at j d q))
          ]
          | inr p ↦ elim (two j k) [
            | inl q ↦ absurd (new j d q (sym (before j d q) ∙ sym e ∙ last_at i d p))
            | inr q ↦ p ∙ sym q
          ]
        ];
      }

  -- the words after it, where b tells whether the word is that of s
  pub word_more : (w : List ℕ) (o : Option ℕ) (b : Bool) → (b ≡ true → flat s ≡ w) → (b ≡ false → flat s ≢ w) → IsWordAt ss w o → IsWordAt t w (cond b (Some (length ss)) o)
  word_more w o true y n h = let l : length t ≡ length ss + 1 = long in (omega arith, λ d. ap flat (last d) ∙ y refl)
  word_more w None false y n h = λ j d k e. elim (two j k) [
    | inl p ↦ h j d p (ap flat (sym (before j d p)) ∙ e)
    | inr p ↦ n refl (ap flat (sym (last_at j d p)) ∙ e)
  ]
  word_more w (Some j) false y n h = let l : length t ≡ length ss + 1 = long in let q : j < length ss = h.0 in (omega arith, λ d. ap flat (before j d h.0) ∙ h.1 d)

pub not_there : (ss : List (Node ℕ)) (s : Node ℕ) → IsWordAt ss (flat s) None → (j : ℕ) (d : Node ℕ) → j < length ss → get_or ss j d ≢ s
not_there ss s h j d lt e = h j d lt (ap flat e)

pub there_already : (ss : List (Node ℕ)) (s : Node ℕ) (i : ℕ) → IsWordAt ss (flat s) (Some i) → IsAdded ss s ss i
there_already ss s i h = record { grows = inl refl; within = h.0; here = λ d. flat_same _ _ (h.1 d) }

pub added : (ss : List (Node ℕ)) (s : Node ℕ) → IsAdded ss s (ss ++ s ∷ []) (length ss)
added ss s = record { grows = inr refl; within = (let l : length (ss ++ s ∷ []) ≡ length ss + 1 = long ss s in omega arith); here = last ss s }

yes : (v w : List ℕ) → is_eq (slice_cmp nat_cmp v w) ≡ true → v ≡ w
yes v w e = slice_cmp-IsAntisymmetric nat_cmp-IsAntisymmetric v w ((Equal-is (slice_cmp nat_cmp v w)).0 e)

no : (v w : List ℕ) → is_eq (slice_cmp nat_cmp v w) ≡ false → v ≢ w
no v w e same =
    let P : List ℕ → Type 0 = λ z. is_eq (slice_cmp nat_cmp v z) ≡ false in
    let q : is_eq (slice_cmp nat_cmp v v) ≡ false = subst P (sym same) e in
    let r : is_eq (slice_cmp nat_cmp v v) ≡ true = ap is_eq (tied_itself nat_list_cmp_total v) in
    cc

pub indexed_more : (ss : List (Node ℕ)) (s : Node ℕ) (m m' : BTreeMap (List ℕ) ℕ) → IsIndexed ss m → MayAdd ss s → get (slice_cmp nat_cmp) m (flat s) ≡ None
    → ((q : List ℕ) → get (slice_cmp nat_cmp) m' q ≡ cond (is_eq (slice_cmp nat_cmp (flat s) q)) (Some (length ss)) (get (slice_cmp nat_cmp) m q))
    → IsIndexed (ss ++ s ∷ []) m'
indexed_more ss s m m' i may none up =
    let P : Option ℕ → Type 0 = IsWordAt ss (flat s) in
    record {
      table = table_more ss s i.table may (not_there ss s (subst P none (i.finds (flat s))));
      finds = λ w.
          let Q : Option ℕ → Type 0 = IsWordAt (ss ++ s ∷ []) w in
          subst Q (sym (up w)) (word_more ss s w (get (slice_cmp nat_cmp) m w) (is_eq (slice_cmp nat_cmp (flat s) w)) (yes (flat s) w) (no (flat s) w) (i.finds w));
    }

-- a map that finds the same
pub indexed_same : (ss ts : List (Node ℕ)) (m m' : BTreeMap (List ℕ) ℕ) → ts ≡ ss → ((q : List ℕ) → get (slice_cmp nat_cmp) m' q ≡ get (slice_cmp nat_cmp) m q) → IsIndexed ss m → IsIndexed ts m'
indexed_same ss ts m m' e up i =
    let P : List (Node ℕ) → Type 0 = λ l. IsIndexed l m' in
    subst P (sym e) record {
      table = i.table;
      finds = λ w. let Q : Option ℕ → Type 0 = IsWordAt ss w in subst Q (sym (up w)) (i.finds w);
    }

pub but_last : (ss : List (Node ℕ)) (s : Node ℕ) → take (length ss + 1 - 1) (ss ++ s ∷ []) ≡ ss
but_last ss s = grind (arith, common_steps)
