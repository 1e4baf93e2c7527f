-- What a creation leaves at each of its moments.
use Rattle.std.proofs.Common.{◌≡◌, inl, inr, ℕ, ◌≤◌, min, Bool, true, false, List, [], ◌∷◌, ◌++◌, length, take, drop, refl, sym, ◌∙◌, ap, subst, arith, take-append-drop, Option, Some, is_some, nat_le}
use Rattle.std.specs.Prelude.{bytes_eq, ◌&&◌}
use Rattle.std.specs.List.{All}
use Rattle.std.proofs.lemmas.Bool.Decides.{nat_tests}
use Rattle.std.proofs.lemmas.List.{drop_at}
use Rattle.std.proofs.lemmas.List.Elements.{All-cons, All-head, All-nil, All-tail}
use Rattle.std.proofs.lemmas.Slice.Eq.{bytes_eq-Decides}
use Rattle.project_journal.specs.Creation.{IsNoneOrWhole}
use Rattle.project_journal.specs.Disk.{Torn, Reaches, NoMore, OnlyEmpty, Durable}
use Rattle.project_journal.specs.JournalFile.{mark, version_bytes, records, new_front, new_file, is_journal, opened}
use Rattle.project_journal.specs.Keeper.{IsEntry}
use Rattle.project_journal.specs.RecordLaws.{AreEntries}
use Rattle.project_journal.specs.Stops.{LeavesOnly}
use Rattle.project_journal.proofs.Exits.{the_some}
use Rattle.project_journal.proofs.Moments.{weakens, joins}
use Rattle.project_journal.proofs.Opens.{front_two, reads_front, reads_opened}

pub are_entries : (es : List (List ℕ)) → All IsEntry es → AreEntries es
are_entries [] all = tt
are_entries (e ∷ es) all = (All-head IsEntry e es all, are_entries es (All-tail IsEntry e es all))

pub all_entries : (es : List (List ℕ)) → AreEntries es → All IsEntry es
all_entries [] are = All-nil IsEntry
all_entries (e ∷ es) are = All-cons IsEntry e es are.0 (all_entries es are.1)

abbrev pub zeros : List ℕ
zeros = 0 ∷ 0 ∷ 0 ∷ 0 ∷ 0 ∷ 0 ∷ 0 ∷ 0 ∷ []

abbrev pub body_with : List (List ℕ) → List ℕ
body_with es = version_bytes 2 ++ records es ++ 0 ∷ []

and_false : (a : Bool) → a && false ≡ false
and_false true = refl
and_false false = refl

-- a file too short for a journal
pub short_is_none : (c : List ℕ) → length c ≤ 8 → is_journal c ≡ false
short_is_none c short = let less : nat_le 17 (length c) ≡ false = grind (arith, nat_tests) in ap (λ (b : Bool). b && bytes_eq mark (take 8 c)) less

-- a file with no mark
pub unmarked_is_none : (c : List ℕ) → bytes_eq mark (take 8 c) ≡ false → is_journal c ≡ false
unmarked_is_none c unmarked = ap (λ (b : Bool). nat_le 17 (length c) && b) unmarked ∙ and_false (nat_le 17 (length c))

pub zeros_is_none : (c : List ℕ) → take 8 c ≡ zeros → is_journal c ≡ false
zeros_is_none c same = unmarked_is_none c (ap (λ (l : List ℕ). bytes_eq mark l) same)

pub new_opens : (es : List (List ℕ)) → AreEntries es → opened (new_file 2 es) ≡ Some es
new_opens es are = reads_opened (length (new_front 2 es)) es (new_file 2 es) (reads_front (new_front 2 es) es (front_two es) are)

-- the body behind eight bytes that may be the mark
pub body_is_none_or_whole : (es : List (List ℕ)) (c : List ℕ) → AreEntries es → drop 8 c ≡ body_with es → IsNoneOrWhole es c
body_is_none_or_whole es c are body = by (bytes_eq mark (take 8 c)) refl
  where
    by : (b : Bool) → bytes_eq mark (take 8 c) ≡ b → IsNoneOrWhole es c
    by false unmarked = inl (unmarked_is_none c unmarked)
    by true marked =
        let begins : mark ≡ take 8 c = (bytes_eq-Decides mark (take 8 c)).0 marked in
        let is : c ≡ new_file 2 es = sym (take-append-drop 8 c) ∙ (λ i. sym begins i ++ body i) in
        inr (ap opened is ∙ new_opens es are)

module _ {D : Type 0} (holds : D → Option (List ℕ)) (images : D → List ℕ → Type 0) (moment : D → ℕ) (left_since : D → ℕ → List ℕ → Type 0)
    (images_told : (disk : D) (c : List ℕ) → images disk c → is_some (holds disk) ≡ true)
    (counts_now : (disk : D) (t : ℕ) (c : List ℕ) → t ≤ moment disk → images disk c → left_since disk t c)
    (only_now : (disk : D) (c : List ℕ) → left_since disk (moment disk) c → images disk c)
    (es : List (List ℕ)) (are : AreEntries es) (old : D) (empty : OnlyEmpty (images old)) where
  pub claimed : (new : D) → LeavesOnly moment left_since old new (images old) → LeavesOnly moment left_since old new (IsNoneOrWhole es)
  claimed new run = weakens moment left_since images counts_now only_now old new _ _ run (λ c is. inl (short_is_none c (omega (arith, empty c is))))

  -- the eight zeros
  pub cleared : (mid new : D) → NoMore (images old) (images mid) → LeavesOnly moment left_since old mid (IsNoneOrWhole es)
      → LeavesOnly moment left_since mid new (Reaches (Torn 0 8) (images mid)) → LeavesOnly moment left_since old new (IsNoneOrWhole es)
  cleared mid new no_more first second =
      joins moment left_since images counts_now only_now old mid new _ _ first second
      (λ c from. inl (short_is_none c (omega (arith, from.2.no_longer, empty from.0 (no_more from.0 from.1)))))

  -- the body behind them
  pub bodied : (mid new : D) (n : ℕ) → ((c : List ℕ) → images mid c → c ≡ zeros) → LeavesOnly moment left_since old mid (IsNoneOrWhole es)
      → LeavesOnly moment left_since mid new (Reaches (Torn 8 n) (images mid)) → LeavesOnly moment left_since old new (IsNoneOrWhole es)
  bodied mid new n all_zeros first second =
      joins moment left_since images counts_now only_now old mid new _ _ first second
      (λ c from. let same = all_zeros from.0 from.1 in inl (zeros_is_none c (subst (λ (d : List ℕ). take (min 8 (length d)) c ≡ take 8 d) same from.2.before)))

  -- the mark over them
  pub marked : (mid new : D) → ((c : List ℕ) → images mid c → drop 8 c ≡ body_with es) → LeavesOnly moment left_since old mid (IsNoneOrWhole es)
      → LeavesOnly moment left_since mid new (Reaches (Torn 0 8) (images mid)) → LeavesOnly moment left_since old new (IsNoneOrWhole es)
  marked mid new all_bodies first second =
      joins moment left_since images counts_now only_now old mid new _ _ first second
      (λ c from. body_is_none_or_whole es c are (from.2.after ∙ all_bodies from.0 from.1))

  -- after the first sync each image is eight zeros
  pub zeros_now : (mid new : D) → is_some (holds new) ≡ is_some (holds mid) → ((f : List ℕ) → holds mid ≡ Some f → f ≡ [])
      → ((f : List ℕ) → holds mid ≡ Some f → holds new ≡ Some (zeros ++ drop 8 f)) → Durable (holds new) (images new) → (c : List ℕ) → images new c → c ≡ zeros
  zeros_now mid new told is_empty ok durable c image =
      let mid_is = the_some (holds mid) (sym told ∙ images_told new c image) in
      let same : zeros ++ drop 8 mid_is.0 ≡ c = cc (durable c image, ok mid_is.0 mid_is.1) in
      sym same ∙ ap (λ (l : List ℕ). zeros ++ drop 8 l) (is_empty mid_is.0 mid_is.1)

  -- after the second sync the body stands behind eight bytes
  pub bodies_now : (mid new : D) (body : List ℕ) → body ≡ body_with es → is_some (holds new) ≡ is_some (holds mid) → ((f : List ℕ) → holds mid ≡ Some f → length f ≤ 8)
      → ((f : List ℕ) → holds mid ≡ Some f → length f ≤ 8 → (front : List ℕ) × (holds new ≡ Some (front ++ body)) × (length front ≡ 8)) → Durable (holds new) (images new)
      → (c : List ℕ) → images new c → drop 8 c ≡ body_with es
  bodies_now mid new body body_is told short ok durable c image =
      let mid_is = the_some (holds mid) (sym told ∙ images_told new c image) in
      let new_is = ok mid_is.0 mid_is.1 (short mid_is.0 mid_is.1) in
      let same : new_is.0 ++ body ≡ c = cc (durable c image, new_is.1) in
      ap (λ (l : List ℕ). drop 8 l) (sym same) ∙ drop_at new_is.0 body 8 new_is.2 ∙ body_is
