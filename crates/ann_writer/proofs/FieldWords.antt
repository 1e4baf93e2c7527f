-- The fields of a written line, and the words of a field, are read back.
use Rattle.std.proofs.Common.{◌≡◌, refl, sym, ap, ap₂, ◌∙◌, ℕ, zero, suc, ◌-◌, ◌<◌, Bool, true, false, cond, not, ◌||◌, ◌&&◌, ◌==◌, List, [], ◌∷◌, ◌++◌, length, take, filter, slice_index, arith, append-nil, append_assoc, codes, Option, Some, None, option_map, option_and_then, map, take_all, le_refl}
use Rattle.std.proofs.lemmas.Bool.{or_from, or_parts, and_from, ne_eqb}
use Rattle.std.proofs.lemmas.List.Sums.{suffix_len-take_no}
use Rattle.std.specs.Str.{NonePass}
use Rattle.std.specs.List.{AllByRecursion, list_any, slice_split, suffix_len}
use Rattle.annotation_conf.proofs.WrittenLists.{split_none, split_at, before_at, after_at, any_at}
use Rattle.annotation_conf.proofs.WrittenPieces.{first-append}
use Rattle.ann_reader.specs.Lines.{has_tab, first_field, behind_tab, is_gap, without_gap, without_return, without_end}
use Rattle.ann_reader.specs.Words.{is_space, is_padded, is_some_word, words_of, all_of}
use Rattle.ann_reader.specs.LineForms.{Form, Pair, BadForm, two_form, of_two, three_form, of_three, pair_read, has_byte, before_byte, behind_byte}
use Rattle.ann_writer.specs.Words.{pair_word, words_behind}
use Rattle.ann_writer.proofs.PlainWords.{IsPlain, parts, no_space, longer}

-- ---- bytes

pub none_index : (p : ℕ → Bool) (xs : List ℕ) (i : ℕ) → NonePass p xs → i < length xs → p (slice_index xs i) ≡ false
none_index p [] i h within = absurd (omega arith)
none_index p (x ∷ xs) zero h within = h.0
none_index p (x ∷ xs) (suc i) h within = none_index p xs i h.1 (omega arith)

pub any_none : (p : ℕ → Bool) (xs : List ℕ) → NonePass p xs → list_any p xs ≡ false
any_none p [] h = refl
any_none p (x ∷ xs) h = or_from (p x) (list_any p xs) h.0 (any_none p xs h.1)

-- the last byte
abbrev pub last : List ℕ → ℕ
last xs = slice_index xs (length xs - 1)

last_of_more : (x : ℕ) (xs : List ℕ) → 0 < length xs → last (x ∷ xs) ≡ last xs
last_of_more x xs some = let e : length (x ∷ xs) - 1 ≡ suc (length xs - 1) = omega arith in ap (slice_index (x ∷ xs)) e

pub last-append : (xs ys : List ℕ) → 0 < length ys → last (xs ++ ys) ≡ last ys
last-append [] ys some = refl
last-append (x ∷ xs) ys some = last_of_more x (xs ++ ys) (behind xs) ∙ last-append xs ys some
  where
    behind : (zs : List ℕ) → 0 < length (zs ++ ys)
    behind [] = some
    behind (z ∷ zs) = omega arith

pub last_plain : (word : List ℕ) → IsPlain word → parts (last word) ≡ false
last_plain word h = let some = h.some in none_index parts word (length word - 1) h.free (omega arith)

-- ---- words

pub split_words : (kind : List ℕ) (words : List (List ℕ)) → NonePass (λ b. b == 32) kind → AllByRecursion IsPlain words → slice_split (λ b. b == 32) (kind ++ words_behind words) ≡ kind ∷ words
split_words kind [] h all = ap (slice_split (λ b. b == 32)) (append-nil kind) ∙ split_none (λ b. b == 32) kind h
split_words kind (word ∷ words) h all =
    split_at (λ b. b == 32) kind 32 (word ++ words_behind words) h refl ∙ ap (λ rest. kind ∷ rest) (split_words word words (no_space word all.0.free) all.1)

some_word : (word : List ℕ) → 0 < length word → is_some_word word ≡ true
some_word word some = ap not (ne_eqb (length word) 0 (λ e. omega arith))

kept : (words : List (List ℕ)) → AllByRecursion IsPlain words → filter is_some_word words ≡ words
kept [] all = refl
kept (word ∷ words) all =
    ap (λ b. cond b (word ∷ filter is_some_word words) (filter is_some_word words)) (some_word word all.0.some) ∙ ap (λ rest. word ∷ rest) (kept words all.1)

-- the last byte of words in a row
pub last_words : (kind : List ℕ) (words : List (List ℕ)) → IsPlain kind → AllByRecursion IsPlain words → parts (last (kind ++ words_behind words)) ≡ false
last_words kind [] h all = ap (λ xs. parts (last xs)) (append-nil kind) ∙ last_plain kind h
last_words kind (word ∷ words) h all =
    let more : 0 < length (word ++ words_behind words) = longer word (words_behind words) all.0.some in
    ap parts (last-append kind (32 ∷ (word ++ words_behind words)) (omega arith) ∙ last_of_more 32 (word ++ words_behind words) more) ∙ last_words word words all.0 all.1

not_space : (b : ℕ) → parts b ≡ false → (b == 32) ≡ false
not_space b e = (or_parts _ _ (or_parts _ _ (or_parts _ _ e).0).0).0

pub unpadded : (kind : List ℕ) (words : List (List ℕ)) → IsPlain kind → AllByRecursion IsPlain words → is_padded (kind ++ words_behind words) ≡ false
unpadded kind words h all =
    or_from _ _
    (ap (λ b. b == 32) (first-append kind (words_behind words) h.some) ∙ not_space (slice_index kind 0) (none_index parts kind 0 h.free h.some))
    (not_space (last (kind ++ words_behind words)) (last_words kind words h all))

pub words_read : (kind : List ℕ) (words : List (List ℕ)) → IsPlain kind → AllByRecursion IsPlain words → words_of (kind ++ words_behind words) ≡ kind ∷ words
words_read kind words h all =
    ap (λ b. cond b [] (filter is_some_word (slice_split is_space (kind ++ words_behind words)))) (unpadded kind words h all)
    ∙ ap (filter is_some_word) (split_words kind words (no_space kind h.free) all) ∙ kept (kind ∷ words) (h, all)

-- ---- fields

pub unreturned : (line : List ℕ) → (last line == 13) ≡ false → without_return line ≡ line
unreturned line e = ap (λ b. cond b (take (length line - 1) line) line) e

whole : (line : List ℕ) → take (length line - 0) line ≡ line
whole line = let e : length line - 0 ≡ length line = omega arith in ap (λ n. take n line) e ∙ take_all (length line) line (le_refl (length line))

pub ungapped : (line : List ℕ) → 0 < length line → is_gap (last line) ≡ false → without_gap line ≡ line
ungapped line some e =
    let none : suffix_len is_gap line ≡ 0 = ap (suffix_len is_gap) (sym (take_all (length line) line (le_refl (length line)))) ∙ suffix_len-take_no is_gap line (length line) 0 some (omega arith) e in
    ap (λ n. take (length line - n) line) none ∙ whole line

not_gap : (b : ℕ) → parts b ≡ false → is_gap b ≡ false
not_gap b e = (or_parts _ _ (or_parts _ _ e).0).0

not_return : (b : ℕ) → parts b ≡ false → (b == 13) ≡ false
not_return b e = (or_parts _ _ e).1

pub unended : (line : List ℕ) → 0 < length line → parts (last line) ≡ false → without_end line ≡ line
unended line some e =
    ap (λ l. without_gap (without_return l)) (ungapped line some (not_gap (last line) e))
    ∙ ap without_gap (unreturned line (not_return (last line) e)) ∙ ungapped line some (not_gap (last line) e)

two_by : (b : ℕ) (tab more : Bool) (f g first second : List ℕ) → tab ≡ true → more ≡ false → f ≡ first → g ≡ second → cond (tab && not more) (two_form b f g) BadForm ≡ two_form b first second
two_by b tab more f g first second t m e h = ap₂ (λ x y. cond (x && not y) (two_form b f g) BadForm) t m ∙ ap₂ (two_form b) e h

-- a line of two fields
pub two_read : (b : ℕ) (first second : List ℕ) → NonePass (λ c. c == 9) first → NonePass (λ c. c == 9) second → without_end (first ++ 9 ∷ second) ≡ first ++ 9 ∷ second
    → of_two b (first ++ 9 ∷ second) ≡ two_form b first second
two_read b first second h k ends =
    let line = first ++ 9 ∷ second in
    let by : List ℕ → Form = λ l. cond (has_tab l && not (has_tab (behind_tab l))) (two_form b (first_field line) (behind_tab l)) BadForm in
    let behind : behind_tab line ≡ second = after_at (λ c. c == 9) first 9 second h refl in
    ap by ends
    ∙ two_by b (has_tab line) (has_tab (behind_tab line)) (first_field line) (behind_tab line) first second (any_at (λ c. c == 9) first 9 second refl)
    (ap has_tab behind ∙ any_none (λ c. c == 9) second k) (before_at (λ c. c == 9) first 9 second h refl) behind

three_by : (b : ℕ) (tabs : Bool) (f g u first second text : List ℕ) → tabs ≡ true → f ≡ first → g ≡ second → u ≡ text → cond tabs (three_form b f g u) BadForm ≡ three_form b first second text
three_by b tabs f g u first second text t e i j = ap (λ x. cond x (three_form b f g u) BadForm) t ∙ ap (λ x. three_form b x g u) e ∙ ap (λ y. three_form b first y u) i ∙ ap (three_form b first second) j

or_true : (x y : Bool) → y ≡ true → (x || y) ≡ true
or_true true y e = refl
or_true false y e = e

-- a line of three fields
pub three_read : (b : ℕ) (first second text : List ℕ) → NonePass (λ c. c == 9) first → NonePass (λ c. c == 9) second → without_return text ≡ text
    → of_three b (first ++ 9 ∷ (second ++ 9 ∷ text)) ≡ three_form b first second text
three_read b first second text h k ends =
    let line = first ++ 9 ∷ (second ++ 9 ∷ text) in
    let behind : behind_tab line ≡ second ++ 9 ∷ text = after_at (λ c. c == 9) first 9 (second ++ 9 ∷ text) h refl in
    let left : behind_tab (behind_tab line) ≡ text = ap behind_tab behind ∙ after_at (λ c. c == 9) second 9 text k refl in
    three_by b (has_tab line && (b == 78 || has_tab (behind_tab line))) (first_field line) (first_field (behind_tab line)) (without_return (behind_tab (behind_tab line))) first second text
    (and_from (has_tab line) (b == 78 || has_tab (behind_tab line)) (any_at (λ c. c == 9) first 9 (second ++ 9 ∷ text) refl) (or_true (b == 78) (has_tab (behind_tab line)) (ap has_tab behind ∙ any_at (λ c. c == 9) second 9 text refl)))
    (before_at (λ c. c == 9) first 9 (second ++ 9 ∷ text) h refl) (ap first_field behind ∙ before_at (λ c. c == 9) second 9 text k refl) (ap without_return left ∙ ends)

-- ---- pairs

pub pair_read_back : (name value : List ℕ) → 0 < length name → NonePass (λ b. b == 58) name → pair_read (pair_word name value) ≡ Some (record { role = name; target = value })
pair_read_back name value some h =
    let word = name ++ 58 ∷ value in
    let before : before_byte 58 word ≡ name = before_at (λ b. b == 58) name 58 value h refl in
    let behind : behind_byte 58 word ≡ value = after_at (λ b. b == 58) name 58 value h refl in
    let there : (has_byte 58 word && not (length (before_byte 58 word) == 0)) ≡ true =
    and_from (has_byte 58 word) (not (length (before_byte 58 word) == 0)) (any_at (λ b. b == 58) name 58 value refl) (ap (λ w. not (length w == 0)) before ∙ some_word name some) in
    ap pair_read (append_assoc name (codes ":") value)
    ∙ ap (λ b. cond b (Some (let p : Pair = record { role = before_byte 58 word; target = behind_byte 58 word } in p)) None) there
    ∙ ap₂ (λ r t. Some (let p : Pair = record { role = r; target = t } in p)) before behind

-- ---- lists of what is read

pub all_read : {A X : Type 0} (read : A → Option X) (give : A → X) (xs : List A) → AllByRecursion (λ a. read a ≡ Some (give a)) xs → all_of (map read xs) ≡ Some (map give xs)
all_read read give [] all = refl
all_read read give (a ∷ more) all =
    ap (option_and_then (λ x. option_map (λ xs. x ∷ xs) (all_of (map read more)))) all.0 ∙ ap (option_map (λ xs. give a ∷ xs)) (all_read read give more all.1)
