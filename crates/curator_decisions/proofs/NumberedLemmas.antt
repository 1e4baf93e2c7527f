-- Items that are numbered by letter, each from 1: those of a letter are in their order under the new IDs, and no two have
-- one ID.
use Rattle.std.proofs.Common.{◌≡◌, ◌≢◌, ℕ, ◌+◌, ◌<◌, ◌≤◌, ◌==◌, min, eq-eqb, Bool, List, [], ◌∷◌, ◌++◌, refl, sym, ◌∙◌, ap, subst, inl, inr, arith}
use Rattle.std.proofs.lemmas.Bool.Decides.{eqb_tells}
use Rattle.std.specs.List.{count_by}
use Rattle.mark_base.specs.declared.ann_id.AnnId.{AnnId}
use Rattle.mark_base.specs.declared.ann_id.Kind.{Kind}
use Rattle.mark_base.specs.ReadIds.{id_at}
use Rattle.layer_model.specs.Classes.{letter_place, rank}
use Rattle.content_keys.specs.Nodes.{IsIn}
use Rattle.unanimous_merge.specs.Items.{Held}
use Rattle.curator_decisions.specs.Curated.{Numbered, count_of_letter, letter_of_item, numbered_behind}
use Rattle.curator_decisions.proofs.ListLemmas.{Pairs, bit, count_append, count_cons, pairs_more}

-- how an item is numbered
pub record IsNumbered (before hs : List Held) (one : Numbered) : Type 0 where
  pub among : IsIn one.held hs
  pub place : ℕ
  pub id_is : one.id ≡ id_at (letter_of_item one.held) (place + 1)
  pub above : count_of_letter (letter_of_item one.held) before ≤ place
  pub below : place + 1 ≤ count_of_letter (letter_of_item one.held) (before ++ hs)

abbrev of_letter : Kind → Held → Bool
of_letter kind held = letter_place (letter_of_item held) == letter_place kind

counts_itself : (h : Held) → bit (of_letter (letter_of_item h) h) ≡ 1
counts_itself h = ap bit (eq-eqb (letter_place (letter_of_item h)) (letter_place (letter_of_item h)) refl)

pub numbered_is : (before hs : List Held) (one : Numbered) → IsIn one (numbered_behind before hs) → IsNumbered before hs one
numbered_is before [] one k = absurd k
numbered_is before (h ∷ hs) one k = elim k [
  | inl same ↦ subst (IsNumbered before (h ∷ hs)) (sym same) record {
    among = inl refl;
    place = count_of_letter (letter_of_item h) before;
    id_is = refl;
    above = omega arith;
    below = omega (arith, count_append (of_letter (letter_of_item h)) before (h ∷ hs), count_cons (of_letter (letter_of_item h)) h hs, counts_itself h);
  }
  | inr m ↦
      let r : IsNumbered (before ++ h ∷ []) hs one = numbered_is (before ++ h ∷ []) hs one m in
      let l : Kind = letter_of_item one.held in
      record {
        among = inr r.among;
        place = r.place;
        id_is = r.id_is;
        above = let a : count_of_letter (letter_of_item one.held) (before ++ h ∷ []) ≤ r.place = r.above in omega (arith, a, count_append (of_letter (letter_of_item one.held)) before (h ∷ []));
        below =
            let b : r.place + 1 ≤ count_of_letter (letter_of_item one.held) ((before ++ h ∷ []) ++ hs) = r.below in
            omega (arith, b, count_append (of_letter (letter_of_item one.held)) (before ++ h ∷ []) hs, count_append (of_letter (letter_of_item one.held)) before (h ∷ []), count_append (of_letter (letter_of_item one.held)) before (h ∷ hs), count_cons (of_letter (letter_of_item one.held)) h hs, count_cons (of_letter (letter_of_item one.held)) h []);
      }
]

-- each item has its number
pub numbered_all : (before hs : List Held) (h : Held) → IsIn h hs → (one : Numbered) × (IsIn one (numbered_behind before hs) × (one.held ≡ h))
numbered_all before [] h k = absurd k
numbered_all before (x ∷ xs) h k = elim k as (λ _. (one : Numbered) × (IsIn one (numbered_behind before (x ∷ xs)) × (one.held ≡ h))) [
  | inl same ↦ (record { held = x; id = id_at (letter_of_item x) (count_of_letter (letter_of_item x) before + 1) }, (inl refl, sym same))
  | inr m ↦ let r : (one : Numbered) × (IsIn one (numbered_behind (before ++ x ∷ []) xs) × (one.held ≡ h)) = numbered_all (before ++ x ∷ []) xs h m in (r.0, (inr r.1.0, r.1.1))
]

-- what holds of each two items holds of them once they are numbered
pub numbered_pairs : (R : Held → Held → Type 0) (before hs : List Held) → Pairs R hs → Pairs (λ (a b : Numbered). R a.held b.held) (numbered_behind before hs)
numbered_pairs R before [] h = tt
numbered_pairs R before (x ∷ xs) h =
    (λ y k. h.0 y.held (numbered_is (before ++ x ∷ []) xs y k).among, numbered_pairs R (before ++ x ∷ []) xs h.1)

-- two IDs of letters and numbers, by their places
lower_number : (k j : Kind) (m n : ℕ) → letter_place k ≡ letter_place j → m < n → n ≤ 999999999 → rank (id_at k m) < rank (id_at j n)
lower_number k j m n same less small =
    let a : min m 999999999 ≡ m = omega arith in
    let b : min n 999999999 ≡ n = omega arith in
    omega arith

-- items of one letter have their IDs in their order
abbrev pub LowerNew : Numbered → Numbered → Type 0
LowerNew a b = letter_place (letter_of_item a.held) ≡ letter_place (letter_of_item b.held) → rank a.id < rank b.id

head_lower : (before : List Held) (x : Held) (xs : List Held) (y : Numbered) → IsNumbered (before ++ x ∷ []) xs y → count_of_letter (letter_of_item y.held) ((before ++ x ∷ []) ++ xs) ≤ 999999999
    → letter_place (letter_of_item x) ≡ letter_place (letter_of_item y.held) → rank (id_at (letter_of_item x) (count_of_letter (letter_of_item x) before + 1)) < rank y.id
head_lower before x xs y r few letters =
    let Goal : AnnId → Type 0 = λ id. rank (id_at (letter_of_item x) (count_of_letter (letter_of_item x) before + 1)) < rank id in
    let same : count_of_letter (letter_of_item x) before ≡ count_of_letter (letter_of_item y.held) before = ap (λ n. count_by (λ (held : Held). letter_place (letter_of_item held) == n) before) letters in
    let one : bit (of_letter (letter_of_item y.held) x) ≡ 1 = ap bit (eq-eqb (letter_place (letter_of_item x)) (letter_place (letter_of_item y.held)) letters) in
    let more : count_of_letter (letter_of_item y.held) (before ++ x ∷ []) ≤ r.place = r.above in
    let less : r.place + 1 ≤ count_of_letter (letter_of_item y.held) ((before ++ x ∷ []) ++ xs) = r.below in
    subst Goal (sym r.id_is) (lower_number (letter_of_item x) (letter_of_item y.held) (count_of_letter (letter_of_item x) before + 1) (r.place + 1) letters
    (omega (arith, same, one, more, count_append (of_letter (letter_of_item y.held)) before (x ∷ []), count_cons (of_letter (letter_of_item y.held)) x []))
    (omega (arith, less, few)))

-- the new IDs of a letter are in the order of the items
pub numbers_rise : (before hs : List Held) → ((kind : Kind) → count_of_letter kind (before ++ hs) ≤ 999999999) → Pairs LowerNew (numbered_behind before hs)
numbers_rise before [] few = tt
numbers_rise before (x ∷ xs) few = (
  λ y k. head_lower before x xs y (numbered_is (before ++ x ∷ []) xs y k) (as_long (letter_of_item y.held)),
  numbers_rise (before ++ x ∷ []) xs as_long,
)
  where
    as_long : (kind : Kind) → count_of_letter kind ((before ++ x ∷ []) ++ xs) ≤ 999999999
    as_long kind =
        let all : count_of_letter kind (before ++ x ∷ xs) ≤ 999999999 = few kind in
        omega (arith, all, count_append (of_letter kind) (before ++ x ∷ []) xs, count_append (of_letter kind) before (x ∷ []), count_append (of_letter kind) before (x ∷ xs), count_cons (of_letter kind) x xs, count_cons (of_letter kind) x [])

-- the letter of a new ID
pub letter_kept : (before hs : List Held) (one : Numbered) → IsIn one (numbered_behind before hs) → one.id.kind ≡ letter_of_item one.held
letter_kept before hs one k = ap (λ (x : AnnId). x.kind) (numbered_is before hs one k).id_is

-- no two items have one ID
abbrev pub ApartNew : Numbered → Numbered → Type 0
ApartNew a b = rank a.id ≢ rank b.id

-- IDs of two letters are two
letters_apart : (a b : AnnId) → letter_place a.kind ≢ letter_place b.kind → rank a ≢ rank b
letters_apart a b apart e = let w : a.number ≤ 999999999 = a.within in let v : b.number ≤ 999999999 = b.within in omega arith

pub numbers_apart : (hs : List Held) → ((kind : Kind) → count_of_letter kind hs ≤ 999999999) → Pairs ApartNew (numbered_behind [] hs)
numbers_apart hs few = pairs_more LowerNew ApartNew (numbered_behind [] hs) (λ a b i j up. elim (eqb_tells (letter_place (letter_of_item a.held)) (letter_place (letter_of_item b.held))) [
  | inl p ↦ λ e. (let low : rank a.id < rank b.id = up p.1 in omega arith)
  | inr p ↦ letters_apart a.id b.id (λ e. p.1 (ap letter_place (sym (letter_kept [] hs a i)) ∙ e ∙ ap letter_place (letter_kept [] hs b j)))
]) (numbers_rise [] hs few)

-- the number of a new ID: from 1 up to how many there are of the letter
pub number_within : (hs : List Held) (one : Numbered) → IsIn one (numbered_behind [] hs) → ((kind : Kind) → count_of_letter kind hs ≤ 10000) → (0 < one.id.number) × (one.id.number ≤ 10000)
number_within hs one k few =
    let r : IsNumbered [] hs one = numbered_is [] hs one k in
    let n : one.id.number ≡ min (r.place + 1) 999999999 = ap (λ (x : AnnId). x.number) r.id_is in
    let b : r.place + 1 ≤ count_of_letter (letter_of_item one.held) hs = r.below in
    let f : count_of_letter (letter_of_item one.held) hs ≤ 10000 = few (letter_of_item one.held) in
    (omega arith, omega arith)
