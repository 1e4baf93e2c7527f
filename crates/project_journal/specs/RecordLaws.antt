-- What files of whole records stand for.
use Rattle.std.proofs.Common.{◌≡◌, ◌≢◌, inl, inr, ℕ, zero, suc, ◌+◌, ◌^◌, ◌<◌, ◌≤◌, List, [], ◌∷◌, ◌++◌, length, take, drop, refl, sym, ◌∙◌, ap, arith, append_assoc, length-append, length-drop, Bool, true, false, Option, Some, None, option_map}
use Rattle.std.specs.Option.{option_map_or}
use Rattle.std.specs.Prelude.{nat_eq, nat_le, if◌then◌else◌, ◌&&◌, is_none, bytes_eq, ⊤}
use Rattle.std.proofs.lemmas.Bool.{cases_eq}
use Rattle.std.proofs.lemmas.Bool.Decides.{nat_tests}
use Rattle.std.proofs.lemmas.List.{append-nil, take_at, drop_at, length-take-le, take-append-le, drop-append-le}
use Rattle.std.proofs.lemmas.Nat.{from_le_bytes-to_le_bytes_4}
use Rattle.project_journal.specs.Keeper.{IsEntry}
use Rattle.project_journal.specs.JournalFile.{bytes_of, number_of, mark, record_of, records, payload_of, whole_record, open_record, entries_on, damage_on, entries, damage, version, is_known, opened}
use Rattle.project_journal.specs.Settled.{IsFront}

-- each is an entry
abbrev pub AreEntries : List (List ℕ) → Type 0
AreEntries [] = ⊤
AreEntries (entry ∷ entries) = IsEntry entry × AreEntries entries

pub length-bytes_of : (n : ℕ) → length (bytes_of n) ≡ 4
unfolding bytes_of
length-bytes_of n = refl

pub number-bytes_of : (n : ℕ) → n < 2 ^ 32 → number_of (bytes_of n) ≡ n
unfolding bytes_of number_of
number-bytes_of n small = from_le_bytes-to_le_bytes_4 n small

pub length-record_of : (entry : List ℕ) → length (record_of entry) ≡ length entry + 4
length-record_of entry = omega (arith, length-append (bytes_of (length entry)) entry, length-bytes_of (length entry))

payload_is : (entry rest : List ℕ) → IsEntry entry → 1 ≤ length rest → payload_of (length entry) (entry ++ rest) ≡ Some (entry, rest)
payload_is entry rest is some =
    let l = length-append entry rest in
    let t = take_at entry rest (length entry) refl in
    let d = drop_at entry rest (length entry) refl in
    let low = is.some in
    let high = is.most in
    grind (arith, nat_tests)

-- a whole record is read as it is
pub whole_record_is : (entry rest : List ℕ) → IsEntry entry → 1 ≤ length rest → whole_record (record_of entry ++ rest) ≡ Some (entry, rest)
unfolding whole_record
whole_record_is entry rest is some =
    let parts : record_of entry ++ rest ≡ bytes_of (length entry) ++ (entry ++ rest) = append_assoc (bytes_of (length entry)) entry rest in
    let low : take 4 (record_of entry ++ rest) ≡ bytes_of (length entry) = ap (λ (l : List ℕ). take 4 l) parts ∙ take_at (bytes_of (length entry)) (entry ++ rest) 4 (length-bytes_of (length entry)) in
    let high : drop 4 (record_of entry ++ rest) ≡ entry ++ rest = ap (λ (l : List ℕ). drop 4 l) parts ∙ drop_at (bytes_of (length entry)) (entry ++ rest) 4 (length-bytes_of (length entry)) in
    let n_is : number_of (take 4 (record_of entry ++ rest)) ≡ length entry = ap number_of low ∙ number-bytes_of (length entry) (omega (arith, is.most)) in
    (λ i. payload_of (n_is i) (high i)) ∙ payload_is entry rest is some

pub closed_record : (gate : ℕ) (rest : List ℕ) → gate ≢ 1 → open_record (gate ∷ rest) ≡ None
closed_record gate rest shut = grind (arith, nat_tests)

abbrev next_entries : ℕ → Option (List ℕ × List ℕ) → List (List ℕ)
next_entries more o = option_map_or (λ it. it.0 ∷ entries_on more it.1) o []

-- one step of `damage_on`
abbrev pub next_damage : ℕ → Bool → Option (List ℕ × List ℕ) → Option ℕ
next_damage more is o = option_map_or (λ it. option_map (λ k. k + 1) (damage_on more it.1)) o (if is then Some 1 else None)

pub some_left : (es : List (List ℕ)) (gate : ℕ) (rest : List ℕ) → 1 ≤ length (records es ++ gate ∷ rest)
some_left es gate rest = omega (arith, length-append (records es) (gate ∷ rest))

-- the first record of a front
first : (e : List ℕ) (es : List (List ℕ)) (tail : List ℕ) → records (e ∷ es) ++ tail ≡ 1 ∷ (record_of e ++ (records es ++ tail))
first e es tail = ap (λ (l : List ℕ). 1 ∷ l) (append_assoc (record_of e) (records es) tail)

pub first_is : (e : List ℕ) (es : List (List ℕ)) (tail : List ℕ) → IsEntry e → 1 ≤ length (records es ++ tail) → open_record (records (e ∷ es) ++ tail) ≡ Some (e, records es ++ tail)
first_is e es tail is some = ap open_record (first e es tail) ∙ whole_record_is e (records es ++ tail) is some

-- entries behind a header, up to a closed gate
pub entries_on_closed : (more : ℕ) (es : List (List ℕ)) (gate : ℕ) (rest : List ℕ) → length es ≤ more → AreEntries es → gate ≢ 1 → entries_on more (records es ++ gate ∷ rest) ≡ es
entries_on_closed zero [] gate rest few are shut = refl
entries_on_closed zero (e ∷ es) gate rest few are shut = absurd (omega arith)
entries_on_closed (suc more) [] gate rest few are shut = ap (next_entries more) (closed_record gate rest shut)
entries_on_closed (suc more) (e ∷ es) gate rest few are shut =
    ap (next_entries more) (first_is e es (gate ∷ rest) are.0 (some_left es gate rest))
    ∙ ap (λ (l : List (List ℕ)). e ∷ l) (entries_on_closed more es gate rest (omega arith) are.1 shut)

is_shut : (gate : ℕ) → gate ≢ 1 → nat_eq gate 1 ≡ false
is_shut gate shut = grind (arith, nat_tests)

pub damage_on_closed : (more : ℕ) (es : List (List ℕ)) (gate : ℕ) (rest : List ℕ) → AreEntries es → gate ≢ 1 → damage_on more (records es ++ gate ∷ rest) ≡ None
damage_on_closed zero es gate rest are shut = refl
damage_on_closed (suc more) [] gate rest are shut = (λ i. next_damage more (is_shut gate shut i) (closed_record gate rest shut i))
damage_on_closed (suc more) (e ∷ es) gate rest are shut =
    ap (next_damage more true) (first_is e es (gate ∷ rest) are.0 (some_left es gate rest))
    ∙ ap (λ (o : Option ℕ). option_map (λ k. k + 1) o) (damage_on_closed more es gate rest are.1 shut)

pub length-records : (es : List (List ℕ)) → length es ≤ length (records es)
length-records [] = omega arith
length-records (e ∷ es) = omega (arith, length-records es, length-append (record_of e) (records es))

-- a front and what stands behind it
pub behind_header : (front : List ℕ) (es : List (List ℕ)) (tail : List ℕ) → IsFront front es → drop 16 (front ++ tail) ≡ records es ++ tail
behind_header front es tail is =
    let head = take 16 front in
    ap (λ (l : List ℕ). drop 16 (l ++ tail)) is.whole ∙ ap (λ (l : List ℕ). drop 16 l) (append_assoc head (records es) tail)
    ∙ drop_at head (records es ++ tail) 16 (length-take-le 16 front is.long)

pub version-append : (front tail : List ℕ) → 16 ≤ length front → version (front ++ tail) ≡ version front
version-append front tail long =
    ap (λ (l : List ℕ). number_of (take 4 l)) (drop-append-le 8 front tail (omega (arith, long)))
    ∙ ap number_of (take-append-le 4 (drop 8 front) tail (omega (arith, long, length-drop 8 front)))

pub marked-append : (front tail : List ℕ) → 16 ≤ length front → bytes_eq mark (take 8 (front ++ tail)) ≡ bytes_eq mark (take 8 front)
marked-append front tail long = ap (λ (l : List ℕ). bytes_eq mark l) (take-append-le 8 front tail (omega (arith, long)))

long_enough : (front rest : List ℕ) (gate : ℕ) → 16 ≤ length front → nat_le 17 (length (front ++ gate ∷ rest)) ≡ true
long_enough front rest gate long = let both = length-append front (gate ∷ rest) in grind (arith, nat_tests)

pub few : (front : List ℕ) (es : List (List ℕ)) (tail : List ℕ) → IsFront front es → length es ≤ length (front ++ tail)
few front es tail is = omega (arith, length-records es, length-append front tail, ap length is.whole, length-append (take 16 front) (records es))

-- a front and a closed gate open to the front's entries
pub opened_closed : (front : List ℕ) (es : List (List ℕ)) (gate : ℕ) (rest : List ℕ) → IsFront front es → AreEntries es → gate ≢ 1 → opened (front ++ gate ∷ rest) ≡ Some es
unfolding opened
opened_closed front es gate rest is are shut =
    let file = front ++ gate ∷ rest in
    let behind : drop 16 file ≡ records es ++ gate ∷ rest = behind_header front es (gate ∷ rest) is in
    let found : entries file ≡ es = ap (λ (l : List ℕ). entries_on (length file) l) behind ∙ entries_on_closed (length file) es gate rest (few front es (gate ∷ rest) is) are shut in
    let none : damage file ≡ None = ap (λ (l : List ℕ). damage_on (length file) l) behind ∙ damage_on_closed (length file) es gate rest are shut in
    let long : nat_le 17 (length file) ≡ true = long_enough front rest gate is.long in
    let marked : bytes_eq mark (take 8 file) ≡ true = marked-append front (gate ∷ rest) is.long ∙ is.marked in
    let known : is_known (version file) ≡ true = ap is_known (version-append front (gate ∷ rest) is.long) ∙ is.known in
    λ i. if (long i && marked i) && known i && is_none (none i) then Some (found i) else None

pub records-push : (es : List (List ℕ)) (e : List ℕ) → records (es ++ e ∷ []) ≡ records es ++ 1 ∷ record_of e
records-push [] e = ap (λ (l : List ℕ). 1 ∷ l) (append-nil (record_of e))
records-push (x ∷ es) e = ap (λ (l : List ℕ). (1 ∷ record_of x) ++ l) (records-push es e) ∙ sym (append_assoc (1 ∷ record_of x) (records es) (1 ∷ record_of e))

pub are-push : (es : List (List ℕ)) (e : List ℕ) → AreEntries es → IsEntry e → AreEntries (es ++ e ∷ [])
are-push [] e are is = (is, tt)
are-push (x ∷ es) e are is = (are.0, are-push es e are.1 is)

-- one record more
pub front-push : (front : List ℕ) (es : List (List ℕ)) (e : List ℕ) → IsFront front es → IsFront (front ++ 1 ∷ record_of e) (es ++ e ∷ [])
front-push front es e is =
    let one = 1 ∷ record_of e in
    let head : take 16 (front ++ one) ≡ take 16 front = take-append-le 16 front one is.long in
    record {
      long = omega (arith, is.long, length-append front one);
      marked = marked-append front one is.long ∙ is.marked;
      known = ap is_known (version-append front one is.long) ∙ is.known;
      whole = ap (λ (l : List ℕ). l ++ one) is.whole ∙ append_assoc (take 16 front) (records es) one ∙ (λ i. sym head i ++ sym (records-push es e) i);
    }

-- a record behind an open gate is one entry more
pub opened_open : (front : List ℕ) (es : List (List ℕ)) (e : List ℕ) (gate : ℕ) (rest : List ℕ) → IsFront front es → AreEntries es → IsEntry e → gate ≢ 1 → opened (front ++ 1 ∷ (record_of e ++ gate ∷ rest)) ≡ Some (es ++ e ∷ [])
opened_open front es e gate rest is are entry shut =
    ap opened (sym (append_assoc front (1 ∷ record_of e) (gate ∷ rest)))
    ∙ opened_closed (front ++ 1 ∷ record_of e) (es ++ e ∷ []) gate rest (front-push front es e is) (are-push es e are entry) shut

-- what was read are entries
payload_entry : (n : ℕ) (bytes : List ℕ) (it : List ℕ × List ℕ) → payload_of n bytes ≡ Some it → IsEntry it.0
payload_entry n bytes it is = record {
  some = let t = length-take-le n bytes in grind (arith, nat_tests);
  most = let t = length-take-le n bytes in grind (arith, nat_tests);
}

open_entry : (bytes : List ℕ) (it : List ℕ × List ℕ) → open_record bytes ≡ Some it → IsEntry it.0
unfolding whole_record
open_entry [] it is = absurd (cc)
open_entry (gate ∷ bytes) it is = elim (cases_eq gate 1) [
  | inl open' ↦ payload_entry (number_of (take 4 bytes)) (drop 4 bytes) it (ap (λ (g : ℕ). open_record (g ∷ bytes)) (sym open') ∙ is)
  | inr shut ↦ absurd (cc (closed_record gate bytes shut))
]

next_are : (more : ℕ) (o : Option (List ℕ × List ℕ)) → ((it : List ℕ × List ℕ) → o ≡ Some it → IsEntry it.0) → ((bytes : List ℕ) → AreEntries (entries_on more bytes)) → AreEntries (next_entries more o)
next_are more None is later = tt
next_are more (Some it) is later = (is it refl, later it.1)

pub entries_are : (more : ℕ) (bytes : List ℕ) → AreEntries (entries_on more bytes)
entries_are zero bytes = tt
entries_are (suc more) bytes = next_are more (open_record bytes) (open_entry bytes) (entries_are more)
