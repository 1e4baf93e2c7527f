-- The header of a journal's file.
use Rattle.std.proofs.Common.{◌≡◌, ◌⊎◌, ⊎_elim, ℕ, ◌+◌, ◌≤◌, List, [], ◌∷◌, length, take, drop, get_or, sym, ◌∙◌, ap, subst, arith, Some, true, false, Bool, Result, Ok, Err, IfErr, nat_le, length-drop}
use Rattle.std.specs.Prelude.{bytes_eq, ◌&&◌}
use Rattle.std.proofs.lemmas.Bool.Decides.{nat_tests}
use Rattle.std.proofs.lemmas.List.{get_or-drop, take-take, append-nil, take_all, length-take-le, take-append-drop}
use Rattle.std.specs.Int.{w32, from_le_bytes}
use Rattle.project_journal.specs.JournalFile.{mark, is_journal, version, is_known, damage}
use Rattle.project_journal.specs.RecordLaws.{version-append}
use Rattle.project_journal.specs.Settled.{IsFront}
use Rattle.project_journal.specs.Opening.{Refuses}
use Rattle.project_journal.specs.declared.journal_fault.JournalFault.{JournalFault}
use Rattle.project_journal.specs.declared.journal_fault.JournalFault.TheVariants.{Memory, Damaged}
use Rattle.project_journal.proofs.Wholes.{number_is}

pub journal_is : (bytes : List ℕ) → 17 ≤ length bytes → bytes_eq mark (take 8 bytes) ≡ true → is_journal bytes ≡ true
journal_is bytes long same = let l : nat_le 17 (length bytes) ≡ true = grind (arith, nat_tests) in λ i. l i && same i

pub version_is : (bytes : List ℕ) (n : ℕ) → 17 ≤ length bytes → n ≡ from_le_bytes w32 (get_or bytes 8 0 ∷ get_or bytes 9 0 ∷ get_or bytes 10 0 ∷ get_or bytes 11 0 ∷ []) → version bytes ≡ n
version_is bytes n long is =
    let at : (i : ℕ) → get_or (drop 8 bytes) i 0 ≡ get_or bytes (8 + i) 0 = λ i. get_or-drop 8 bytes i 0 in
    number_is (drop 8 bytes) n (omega (arith, length-drop 8 bytes)) (is ∙ (λ i. from_le_bytes w32 (sym (at 0) i ∷ sym (at 1) i ∷ sym (at 2) i ∷ sym (at 3) i ∷ [])))

refuses : (bytes : List ℕ) (e : JournalFault) → is_journal bytes ≡ true → is_known (version bytes) ≡ true → (e ≡ Memory) ⊎ ((k : ℕ) × (e ≡ Damaged k) × (damage bytes ≡ Some k)) → Refuses bytes e
refuses bytes e is known from = ⊎_elim (λ m. subst (Refuses bytes) (sym m) tt) (λ d. subst (Refuses bytes) (sym d.1) (is, known, d.2)) from

pub refuses_so : {T : Type 0} (bytes : List ℕ) (r : Result T JournalFault) → is_journal bytes ≡ true → is_known (version bytes) ≡ true → IfErr r (λ e. (e ≡ Memory) ⊎ ((k : ℕ) × (e ≡ Damaged k) × (damage bytes ≡ Some k))) → IfErr r (λ e. Refuses bytes e)
refuses_so bytes (Ok x) is known from = tt
refuses_so bytes (Err e) is known from = refuses bytes e is known from

both_true : (a b : Bool) → a && b ≡ true → b ≡ true
both_true true b is = is
both_true false b is = absurd (cc)

-- the header alone is the front of no entries
pub front_of_header : (bytes : List ℕ) → 17 ≤ length bytes → is_journal bytes ≡ true → is_known (version bytes) ≡ true → IsFront (take 16 bytes) []
front_of_header bytes long is known =
    let head = take 16 bytes in
    let size : length head ≡ 16 = length-take-le 16 bytes (omega (arith, long)) in
    let same : version bytes ≡ version head = ap version (sym (take-append-drop 16 bytes)) ∙ version-append head (drop 16 bytes) (omega (arith, size)) in
    record {
      long = omega (arith, size);
      marked = ap (λ (l : List ℕ). bytes_eq mark l) (take-take 8 16 bytes (omega arith)) ∙ both_true (nat_le 17 (length bytes)) (bytes_eq mark (take 8 bytes)) is;
      known = ap is_known (sym same) ∙ known;
      whole = sym (append-nil (take 16 head) ∙ take_all 16 head (omega (arith, size)));
    }
