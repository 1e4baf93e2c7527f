-- One line more: the front and the rest of a list at an index, a map of first lines, and a count.
use Rattle.std.proofs.Common.{◌≡◌, ℕ, ◌+◌, ◌<◌, ◌≤◌, zero, suc, Bool, true, false, cond, ◌==◌, eq-eqb, ne_eqb, List, [], ◌∷◌, ◌++◌, map, take, drop, length, get_or, refl, sym, ◌∙◌, ap, Option, Some, None, is_some, arith, slice_index}
use Rattle.std.specs.Prelude.{unwrap_or, count_by, find}
use Rattle.std.specs.Option.{option_or, option_map, option_map_or}
use Rattle.std.specs.BTreeMap.{BTreeMap, get, Updates}
use Rattle.std.specs.Ordering.{nat_cmp, is_eq}
use Rattle.std.specs.Cmp.{ranked}
use Rattle.std.specs.declared.cmp.Ordering.TheVariants.{Less, Equal, Greater}
use Rattle.std.proofs.lemmas.Bool.{eqb-true, false≢true}
use Rattle.std.proofs.lemmas.List.Sums.{fold_push}
use Rattle.mark_base.specs.declared.ann_id.AnnId.{AnnId}
use Rattle.layer_model.specs.LayerIds.{id_place}
use Rattle.ann_reader.specs.Lines.{Line}
use Rattle.ann_reader.specs.LineForms.{head_field}
use Rattle.mark_base.specs.ReadIds.{id_read}
use Rattle.ann_reader.specs.LineFaults.{counted_byte}
use Rattle.ann_reader.specs.KnownLines.{FindsHeads, is_headed_at}
use Rattle.ann_reader.specs.LineCounts.{CountsLines}

-- ---- a list at an index, seen by a function

taken_ : {X Y : Type 0} (f : X → Y) (all : List X) (i : ℕ) (d : X) → i < length all → map f (take (suc i) all) ≡ map f (take i all) ++ (f (get_or all i d) ∷ [])
taken_ f [] i d below = absurd (omega arith)
taken_ f (x ∷ all) zero d below = refl
taken_ f (x ∷ all) (suc i) d below = ap (λ r. f x ∷ r) (taken_ f all i d (omega arith))

left_ : {X Y : Type 0} (f : X → Y) (all : List X) (i : ℕ) (d : X) → i < length all → map f (drop i all) ≡ f (get_or all i d) ∷ map f (drop (suc i) all)
left_ f [] i d below = absurd (omega arith)
left_ f (x ∷ all) zero d below = refl
left_ f (x ∷ all) (suc i) d below = left_ f all i d (omega arith)

pub taken : {X Y : Type 0} (f : X → Y) (all : List X) (i : ℕ) (d : X) → i < length all → map f (take (i + 1) all) ≡ map f (take i all) ++ (f (get_or all i d) ∷ [])
taken f all i d below = let next : i + 1 ≡ suc i = omega arith in ap (λ n. map f (take n all)) next ∙ taken_ f all i d below

pub left_over : {X Y : Type 0} (f : X → Y) (all : List X) (i : ℕ) (d : X) → i < length all → map f (drop i all) ≡ f (get_or all i d) ∷ map f (drop (i + 1) all)
left_over f all i d below = let next : suc i ≡ i + 1 = omega arith in left_ f all i d below ∙ ap (λ n. f (get_or all i d) ∷ map f (drop n all)) next

pub none_left : {X Y : Type 0} (f : X → Y) (all : List X) (i : ℕ) → length all ≤ i → map f (drop i all) ≡ []
none_left f [] zero h = refl
none_left f [] (suc i) h = refl
none_left f (x ∷ all) zero h = absurd (omega arith)
none_left f (x ∷ all) (suc i) h = none_left f all i (omega arith)

-- a front is no longer than the whole
pub front_few : {X Y : Type 0} (f : X → Y) (all : List X) (i : ℕ) → length (map f (take i all)) ≤ length all
front_few f [] zero = omega arith
front_few f [] (suc i) = omega arith
front_few f (x ∷ all) zero = omega arith
front_few f (x ∷ all) (suc i) = let more : length (map f (take i all)) ≤ length all = front_few f all i in omega arith

-- ---- the first line of each ID

find_push : {X : Type 0} (p : X → Bool) (xs : List X) (x : X) → find p (xs ++ x ∷ []) ≡ option_or (find p xs) (find p (x ∷ []))
find_push p [] x = refl
find_push p (y ∷ xs) x = elim (p y) as (λ b. cond b (Some y) (find p (xs ++ x ∷ [])) ≡ option_or (cond b (Some y) (find p xs)) (find p (x ∷ []))) [ true ↦ refl | false ↦ find_push p xs x ]

or-none : {X : Type 0} (a : Option X) → option_or a None ≡ a
or-none None = refl
or-none (Some a) = refl

number_same : (a b : ℕ) → is_eq (nat_cmp a b) ≡ (a == b)
number_same a b =
    elim (nat_cmp a b) as (λ r. r ≡ nat_cmp a b → is_eq r ≡ (a == b)) [
      | Less ↦ λ w. sym (let less : a < b = ranked a b Less w in ne_eqb a b (λ e. omega arith))
      | Equal ↦ λ w. sym (eq-eqb a b (ranked a b Equal w))
      | Greater ↦ λ w. sym (let more : b < a = ranked a b Greater w in ne_eqb a b (λ e. omega arith))
    ] refl

-- the numbers of first lines
abbrev number_of_first : ℕ → List Line → Option ℕ
number_of_first place lines = option_map (λ (line : Line). line.number) (find (is_headed_at place) lines)

passed : (place : ℕ) (lines : List Line) (line : Line) → is_headed_at place line ≡ false → number_of_first place (lines ++ line ∷ []) ≡ number_of_first place lines
passed place lines line other =
    ap (option_map (λ (one : Line). one.number)) (find_push (is_headed_at place) lines line ∙ ap (λ b. option_or (find (is_headed_at place) lines) (cond b (Some line) None)) other ∙ or-none (find (is_headed_at place) lines))

kept_first : (place : ℕ) (lines : List Line) (line : Line) (n : ℕ) → number_of_first place lines ≡ Some n → number_of_first place (lines ++ line ∷ []) ≡ number_of_first place lines
kept_first place lines line n e =
    let P : Option Line → Type 0 = λ o. option_map (λ (one : Line). one.number) o ≡ Some n
    → option_map (λ (one : Line). one.number) (option_or o (find (is_headed_at place) (line ∷ []))) ≡ option_map (λ (one : Line). one.number) o in
    let cases : P (find (is_headed_at place) lines) = elim (find (is_headed_at place) lines) as P [ None ↦ λ t. let lost : None ≡ Some n = t in cc | Some x ↦ λ t. refl ] in
    ap (option_map (λ (one : Line). one.number)) (find_push (is_headed_at place) lines line) ∙ cases e

first_now : (place : ℕ) (lines : List Line) (line : Line) → is_some (number_of_first place lines) ≡ false → is_headed_at place line ≡ true
    → number_of_first place (lines ++ line ∷ []) ≡ Some line.number
first_now place lines line none headed =
    let P : Option Line → Type 0 = λ o. is_some (option_map (λ (one : Line). one.number) o) ≡ false
    → option_map (λ (one : Line). one.number) (option_or o (find (is_headed_at place) (line ∷ []))) ≡ Some line.number in
    let cases : P (find (is_headed_at place) lines) = elim (find (is_headed_at place) lines) as P [
      | None ↦ λ t. ap (λ b. option_map (λ (one : Line). one.number) (cond b (Some line) None)) headed
      | Some x ↦ λ t. absurd (false≢true (sym t))
    ] in
    ap (option_map (λ (one : Line). one.number)) (find_push (is_headed_at place) lines line) ∙ cases none

-- a line whose first field is no ID
pub heads_none : (lines : List Line) (line : Line) (heads : BTreeMap ℕ ℕ) → FindsHeads lines heads → None ≡ id_read (head_field line.bytes) → FindsHeads (lines ++ line ∷ []) heads
heads_none lines line heads h e place = h place ∙ sym (passed place lines line (ap (λ o. option_map_or (λ id. place == id_place id) o false) (sym e)))

-- a line whose ID is there
pub heads_again : (lines : List Line) (line : Line) (heads : BTreeMap ℕ ℕ) (id : AnnId) → FindsHeads lines heads → Some id ≡ id_read (head_field line.bytes)
    → is_some (get nat_cmp heads (id_place id)) ≡ true → FindsHeads (lines ++ line ∷ []) heads
heads_again lines line heads id h e there place =
    let headed : is_headed_at place line ≡ (place == id_place id) = ap (λ o. option_map_or (λ one. place == id_place one) o false) (sym e) in
    let P : Bool → Type 0 = λ b. (place == id_place id) ≡ b → get nat_cmp heads place ≡ number_of_first place (lines ++ line ∷ []) in
    let cases : P (place == id_place id) = elim (place == id_place id) as P [
      | true ↦ λ t.
          let same : place ≡ id_place id = eqb-true place (id_place id) t in
          let some : is_some (get nat_cmp heads place) ≡ true = ap (λ q. is_some (get nat_cmp heads q)) same ∙ there in
          let Q : Option ℕ → Type 0 = λ o. get nat_cmp heads place ≡ o → is_some o ≡ true → get nat_cmp heads place ≡ number_of_first place (lines ++ line ∷ []) in
          let inner : Q (get nat_cmp heads place) = elim (get nat_cmp heads place) as Q [
            | None ↦ λ _ u. absurd (false≢true u)
            | Some n ↦ λ g _. h place ∙ sym (kept_first place lines line n (sym (h place) ∙ g))
          ] in inner refl some
      | false ↦ λ t. h place ∙ sym (passed place lines line (headed ∙ t))
    ] in cases refl

-- a number that was put down twice stands as it was
pub heads_back : (lines : List Line) (heads one two : BTreeMap ℕ ℕ) (key first n : ℕ) → FindsHeads lines heads → get nat_cmp heads key ≡ Some first
    → Updates nat_cmp heads one key (Some n) → Updates nat_cmp one two key (Some first) → FindsHeads lines two
heads_back lines heads one two key first n h was u v place =
    let now : get nat_cmp two place ≡ cond (key == place) (Some first) (cond (key == place) (Some n) (get nat_cmp heads place)) =
    v.0 place ∙ ap (λ b. cond b (Some first) (get nat_cmp one place)) (number_same key place)
    ∙ ap (cond (key == place) (Some first)) (u.0 place ∙ ap (λ b. cond b (Some n) (get nat_cmp heads place)) (number_same key place)) in
    let P : Bool → Type 0 = λ b. (key == place) ≡ b → get nat_cmp two place ≡ get nat_cmp heads place in
    let cases : P (key == place) = elim (key == place) as P [
      | true ↦ λ t. now ∙ ap (λ b. cond b (Some first) (cond b (Some n) (get nat_cmp heads place))) t ∙ sym was ∙ ap (get nat_cmp heads) (eqb-true key place t)
      | false ↦ λ t. now ∙ ap (λ b. cond b (Some first) (cond b (Some n) (get nat_cmp heads place))) t
    ] in cases refl ∙ h place

pub back_there : (one two : BTreeMap ℕ ℕ) (key first : ℕ) → Updates nat_cmp one two key (Some first) → get nat_cmp two key ≡ Some first
back_there one two key first v = v.0 key ∙ ap (λ b. cond b (Some first) (get nat_cmp one key)) (number_same key key ∙ eq-eqb key key refl)

-- a line whose ID is new
pub heads_new : (lines : List Line) (line : Line) (heads more : BTreeMap ℕ ℕ) (id : AnnId) → FindsHeads lines heads → Some id ≡ id_read (head_field line.bytes)
    → is_some (get nat_cmp heads (id_place id)) ≡ false → Updates nat_cmp heads more (id_place id) (Some line.number) → FindsHeads (lines ++ line ∷ []) more
heads_new lines line heads more id h e new u place =
    let headed : is_headed_at place line ≡ (place == id_place id) = ap (λ o. option_map_or (λ one. place == id_place one) o false) (sym e) in
    let now : get nat_cmp more place ≡ cond (id_place id == place) (Some line.number) (get nat_cmp heads place) =
    u.0 place ∙ ap (λ b. cond b (Some line.number) (get nat_cmp heads place)) (number_same (id_place id) place) in
    let P : Bool → Type 0 = λ b. (place == id_place id) ≡ b → get nat_cmp more place ≡ number_of_first place (lines ++ line ∷ []) in
    let cases : P (place == id_place id) = elim (place == id_place id) as P [
      | true ↦ λ t.
          let same : place ≡ id_place id = eqb-true place (id_place id) t in
          let none : is_some (number_of_first place lines) ≡ false = ap is_some (sym (h place)) ∙ ap (λ q. is_some (get nat_cmp heads q)) same ∙ new in
          now ∙ ap (λ b. cond b (Some line.number) (get nat_cmp heads place)) (eq-eqb (id_place id) place (sym same)) ∙ sym (first_now place lines line none (headed ∙ t))
      | false ↦ λ t.
          let other : (id_place id == place) ≡ false = ne_eqb (id_place id) place (λ same. false≢true (sym t ∙ eq-eqb place (id_place id) (sym same))) in
          now ∙ ap (λ b. cond b (Some line.number) (get nat_cmp heads place)) other ∙ h place ∙ sym (passed place lines line (headed ∙ t))
    ] in cases refl

-- ---- a count

-- one line more is counted
pub counts_more : (lines : List Line) (line : Line) (counts more : BTreeMap ℕ ℕ) → CountsLines lines counts
    → Updates nat_cmp counts more (counted_byte (slice_index line.bytes 0)) (Some (unwrap_or (get nat_cmp counts (counted_byte (slice_index line.bytes 0))) 0 + 1))
    → CountsLines (lines ++ line ∷ []) more
counts_more lines line counts more h u b =
    let mine : ℕ = counted_byte (slice_index line.bytes 0) in
    let test : Line → Bool = λ one. counted_byte (slice_index one.bytes 0) == b in
    let now : get nat_cmp more b ≡ cond (mine == b) (Some (unwrap_or (get nat_cmp counts mine) 0 + 1)) (get nat_cmp counts b) =
    u.0 b ∙ ap (λ s. cond s (Some (unwrap_or (get nat_cmp counts mine) 0 + 1)) (get nat_cmp counts b)) (number_same mine b) in
    let push : count_by test (lines ++ line ∷ []) ≡ count_by test lines + cond (mine == b) 1 0 = fold_push (λ a (x : Line). a + cond (test x) 1 0) 0 lines line in
    let P : Bool → Type 0 = λ s. (mine == b) ≡ s → unwrap_or (cond s (Some (unwrap_or (get nat_cmp counts mine) 0 + 1)) (get nat_cmp counts b)) 0 ≡ count_by test lines + cond s 1 0 in
    let cases : P (mine == b) = elim (mine == b) as P [
      | true ↦ λ t. ap (λ q. unwrap_or (get nat_cmp counts q) 0 + 1) (eqb-true mine b t) ∙ ap (λ n. n + 1) (h b)
      | false ↦ λ t. let zero_more : count_by test lines ≡ count_by test lines + 0 = omega arith in h b ∙ zero_more
    ] in
    ap (λ o. unwrap_or o 0) now ∙ cases refl ∙ sym push
