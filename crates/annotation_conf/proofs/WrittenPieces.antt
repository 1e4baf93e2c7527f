-- The pairs of a line, read back from their text.
use Rattle.std.proofs.Common.{◌≡◌, refl, sym, ap, ◌∙◌, ℕ, zero, suc, ◌+◌, ◌/◌, ◌%◌, Bool, true, false, cond, not, ◌||◌, ◌&&◌, List, [], ◌∷◌, ◌++◌, length, append_assoc, append-nil, ◌==◌, arith, ◌<◌, subst, chars, IsUtf8, slice_index, if◌then◌else◌, encode_utf8_all, lit<, codes, drop, decimal, mod-lt}
use Rattle.std.proofs.lemmas.Bool.{or_from, or_parts, lt-ltb, ne_eqb, cond_both, cond-false}
use Rattle.std.proofs.lemmas.Str.{encodes-chars}
use Rattle.std.specs.Fmt.{digits, digits_onto, digit_glyph}
use Rattle.std.specs.Str.{NonePass}
use Rattle.std.specs.Char.{is_whitespace, is_control}
use Rattle.std.specs.List.{before_first, position_or_len}
use Rattle.mark_base.specs.Names.{is_barred, is_mark}
use Rattle.conf_model.specs.ConfLines.{is_enclosed, enclosed}
use Rattle.conf_model.specs.ConfPairs.{Alternative, Piece, Shapeless, Keyed, Pair, piece_of, alternatives_of, begins_mark}
use Rattle.conf_model.specs.ConfText.{mark_text, pair_text, role_text}
use Rattle.conf_model.specs.Configurations.{Configuration}
use Rattle.conf_model.specs.declared.alternatives.Alternatives.{Alternatives}
use Rattle.conf_model.specs.declared.role.Role.{Role}
use Rattle.annotation_conf.proofs.Written.{IsWord, IsSpelledChoice, IsSpelledRole, IsSpelled, written_alternatives, written_pair, written_role}
use Rattle.annotation_conf.proofs.WrittenLists.{none-append, none_less, is_other, Opens, before_at, after_at, before_opened, from_opened, any_at}
use Rattle.annotation_conf.proofs.WrittenNames.{Spells, spells-append, spells_chars, spells_valid, spells_name, spells_plain, is_wide, name_free, name_some}
use Rattle.annotation_conf.proofs.WrittenChoices.{is_stop, none_by, no_stop, opens_without, not_enclosed, IsValueOf, choice_read}

-- a text that is read as a piece
pub record IsPieceOf (text : List ℕ) (piece : Piece) : Type 0 where
  pub valid : IsUtf8 text
  pub some : 0 < length (chars text)
  pub opens : is_whitespace (slice_index (chars text) 0) ≡ false
  pub plain : NonePass is_stop (chars text)
  pub read : piece_of (chars text) ≡ piece

pub piece_from : (text cs : List ℕ) (piece : Piece) → Spells text cs → 0 < length cs → is_whitespace (slice_index cs 0) ≡ false → NonePass is_stop cs → piece_of cs ≡ piece → IsPieceOf text piece
piece_from text cs piece spelt some opens plain read =
    let same = spells_chars text cs spelt in
    record {
      valid = spells_valid text cs spelt;
      some = subst (λ ds. 0 < length ds) (sym same) some;
      opens = subst (λ ds. is_whitespace (slice_index ds 0) ≡ false) (sym same) opens;
      plain = subst (NonePass is_stop) (sym same) plain;
      read = ap piece_of same ∙ read;
    }

-- the first character of a name is no white space
pub opens_visibly : (cs : List ℕ) → NonePass is_barred cs → is_whitespace (slice_index cs 0) ≡ false
opens_visibly [] h = refl
opens_visibly (c ∷ cs) h = (or_parts (is_whitespace c) (is_control c) (or_parts (is_whitespace c || is_control c) (is_mark c) h.0).0).0

-- what stands in no mark: a character past ASCII, a comma, a line end or `:`
abbrev pub is_odd : ℕ → Bool
is_odd c = is_wide c || is_stop c || c == 58

-- a mark is empty or begins with a character that begins one
pub record IsMark (mark : List ℕ) : Type 0 where
  pub opens : Opens begins_mark mark
  pub plain : NonePass is_odd mark

-- a decimal digit stands in a mark
digit_plain : (d : ℕ) → d < 10 → is_odd (digit_glyph false d) ≡ false
digit_plain d l =
    let same : digit_glyph false d ≡ 48 + d = ap (λ b. cond b (48 + d) (87 + d)) (lt-ltb d 10 l) in
    ap is_odd same
    ∙ or_from (is_wide (48 + d) || is_stop (48 + d)) (48 + d == 58)
    (or_from (is_wide (48 + d)) (is_stop (48 + d)) (ap not (lt-ltb (48 + d) 128 (omega arith)))
    (or_from (48 + d == 10 || 48 + d == 13) (48 + d == 44) (or_from (48 + d == 10) (48 + d == 13) (ne_eqb (48 + d) 10 (λ e. omega arith)) (ne_eqb (48 + d) 13 (λ e. omega arith)))
    (ne_eqb (48 + d) 44 (λ e. omega arith))))
    (ne_eqb (48 + d) 58 (λ e. omega arith))

digits_plain : (k n : ℕ) (acc : List ℕ) → NonePass is_odd acc → NonePass is_odd (digits_onto k 10 false n acc)
digits_plain zero n acc h = h
digits_plain (suc k) n acc h =
    let more : NonePass is_odd (digit_glyph false (n % 10) ∷ acc) = (digit_plain (n % 10) (mod-lt n (lit< tt)), h) in
    cond_both (n / 10 == 0) (digit_glyph false (n % 10) ∷ acc) (digits_onto k 10 false (n / 10) (digit_glyph false (n % 10) ∷ acc)) (NonePass is_odd) (λ e. more)
    (λ e. digits_plain k (n / 10) (digit_glyph false (n % 10) ∷ acc) more)

decimal_plain : (n : ℕ) → NonePass is_odd (decimal n)
unfolding digits
decimal_plain n = digits_plain 64 n [] tt

pub mark_read : (least most : ℕ) → IsMark (mark_text least most)
mark_read least most =
    cond_both (least == 1 && most == 1) [] _ IsMark (λ e. record { opens = tt; plain = tt })
    (λ e. cond_both (least == 0 && most == 1) (codes "?") _ IsMark (λ e. record { opens = refl; plain = none_by is_odd (codes "?") refl })
    (λ e. cond_both (least == 0 && most == 4294967295) (codes "*") _ IsMark (λ e. record { opens = refl; plain = none_by is_odd (codes "*") refl })
    (λ e. cond_both (least == 1 && most == 4294967295) (codes "+") _ IsMark (λ e. record { opens = refl; plain = none_by is_odd (codes "+") refl })
    (λ e. cond_both (least == most) (codes "{" ++ decimal least ++ codes "}") (codes "{" ++ decimal least ++ codes "-" ++ decimal most ++ codes "}") IsMark
    (λ e. record { opens = refl; plain = (refl, none-append is_odd (decimal least) (codes "}") (decimal_plain least) (refl, tt)) })
    (λ e. record {
      opens = refl;
      plain =
          none-append is_odd (codes "{" ++ decimal least ++ codes "-" ++ decimal most) (codes "}")
          (none-append is_odd (codes "{" ++ decimal least ++ codes "-") (decimal most)
          (none-append is_odd (codes "{" ++ decimal least) (codes "-") (refl, decimal_plain least) (refl, tt)) (decimal_plain most)) (refl, tt);
    })))))

-- the first of two lists in a row
pub first-append : (xs ys : List ℕ) → 0 < length xs → slice_index (xs ++ ys) 0 ≡ slice_index xs 0
first-append [] ys some = let none : ⊥ = omega arith in absurd none
first-append (x ∷ xs) ys some = refl

pub longer : (xs ys : List ℕ) → 0 < length xs → 0 < length (xs ++ ys)
longer [] ys some = let none : ⊥ = omega arith in absurd none
longer (x ∷ xs) ys some = omega arith

-- a piece by its key and its value
abbrev shaped : Bool → List ℕ → List ℕ → Piece
shaped found key value =
    if not found then Shapeless
    else if is_enclosed 60 62 key then Keyed (encode_utf8_all (enclosed key)) value
    else Pair (encode_utf8_all (before_first begins_mark key)) (drop (position_or_len begins_mark key) key) (alternatives_of value)

piece_cut : (key value : List ℕ) → NonePass (λ c. c == 58) key → piece_of (key ++ 58 ∷ value) ≡ shaped true key value
piece_cut key value h = λ i. shaped (any_at (λ c. c == 58) key 58 value refl i) (before_at (λ c. c == 58) key 58 value h refl i) (after_at (λ c. c == 58) key 58 value h refl i)

-- a role holds no character that begins a mark
no_mark : (c : ℕ) → is_barred c ≡ false → begins_mark c ≡ false
no_mark c h =
    or_from (c == 63 || c == 42 || c == 43) (c == 123)
    (or_from (c == 63 || c == 42) (c == 43) (or_from (c == 63) (c == 42) (is_other is_barred 63 refl c h) (is_other is_barred 42 refl c h)) (is_other is_barred 43 refl c h))
    (is_other is_barred 123 refl c h)

odd_colon : (c : ℕ) → is_odd c ≡ false → (c == 58) ≡ false
odd_colon c h = (or_parts (is_wide c || is_stop c) (c == 58) h).1

odd_stop : (c : ℕ) → is_odd c ≡ false → is_stop c ≡ false
odd_stop c h = (or_parts (is_wide c) (is_stop c) (or_parts (is_wide c || is_stop c) (c == 58) h).0).1

odd_wide : (c : ℕ) → is_odd c ≡ false → is_wide c ≡ false
odd_wide c h = (or_parts (is_wide c) (is_stop c) (or_parts (is_wide c || is_stop c) (c == 58) h).0).0

-- a role, its mark and its alternatives
pub pair_read : (role mark value : List ℕ) (alternatives : List Alternative) → IsWord role → IsMark mark → IsValueOf value alternatives
    → IsPieceOf (role ++ mark ++ codes ":" ++ value) (Pair role mark alternatives)
pair_read role mark value alternatives word marked valued =
    let name = chars role in
    let free = name_free role word in
    let some = name_some role word in
    let key = name ++ mark in
    let cs = key ++ 58 ∷ [] ++ chars value in
    let narrow = none_less is_odd is_wide odd_wide mark marked.plain in
    let spelt : Spells (role ++ mark ++ codes ":" ++ value) cs =
    spells-append (role ++ mark ++ codes ":") value (key ++ 58 ∷ []) (chars value)
    (spells-append (role ++ mark) (codes ":") key (58 ∷ []) (spells-append role mark name mark (spells_name role word.valid) (spells_plain mark narrow)) (spells_plain (58 ∷ []) (refl, tt)))
    (spells_name value valued.valid) in
    let keyed : 0 < length key = longer name mark some in
    let longer_key : 0 < length (key ++ 58 ∷ []) = longer key (58 ∷ []) keyed in
    let starts : slice_index cs 0 ≡ slice_index name 0 = first-append (key ++ 58 ∷ []) (chars value) longer_key ∙ (first-append key (58 ∷ []) keyed ∙ first-append name mark some) in
    let outside : is_enclosed 60 62 key ≡ false =
    not_enclosed 60 62 key (ap (λ c. c == 60) (first-append name mark some) ∙ opens_without is_barred 60 refl refl name free) in
    let unmarked : NonePass begins_mark name = none_less is_barred begins_mark no_mark name free in
    let single : NonePass (λ c. c == 58) key =
    none-append (λ c. c == 58) name mark (none_less is_barred (λ c. c == 58) (is_other is_barred 58 refl) name free) (none_less is_odd (λ c. c == 58) odd_colon mark marked.plain) in
    piece_from (role ++ mark ++ codes ":" ++ value) cs (Pair role mark alternatives) spelt (longer (key ++ 58 ∷ []) (chars value) longer_key)
    (ap is_whitespace starts ∙ opens_visibly name free)
    (none-append is_stop (key ++ 58 ∷ []) (chars value)
    (none-append is_stop key (58 ∷ []) (none-append is_stop name mark (none_less is_barred is_stop no_stop name free) (none_less is_odd is_stop odd_stop mark marked.plain)) (refl, tt)) valued.plain)
    (ap piece_of (append_assoc key (58 ∷ []) (chars value)) ∙ (piece_cut key (chars value) single
    ∙ (cond-false (is_enclosed 60 62 key) (Keyed (encode_utf8_all (enclosed key)) (chars value))
    (Pair (encode_utf8_all (before_first begins_mark key)) (drop (position_or_len begins_mark key) key) (alternatives_of (chars value))) outside
    ∙ (λ i. Pair ((ap encode_utf8_all (before_opened begins_mark name mark unmarked marked.opens) ∙ encodes-chars role word.valid) i) (from_opened begins_mark name mark unmarked marked.opens i) (valued.read i)))))

-- a role without a mark
pub plain_read : (role value : List ℕ) (alternatives : List Alternative) → IsWord role → IsValueOf value alternatives → IsPieceOf (role ++ codes ":" ++ value) (Pair role [] alternatives)
plain_read role value alternatives word valued =
    subst (λ text. IsPieceOf (text ++ codes ":" ++ value) (Pair role [] alternatives)) (append-nil role) (pair_read role [] value alternatives word (record { opens = tt; plain = tt }) valued)

pub role_read : (conf : Configuration) → IsSpelled conf → (role : Role) → IsSpelledRole conf role → IsPieceOf (role_text conf role) (written_role conf role)
role_read conf spelled role h =
    pair_read role.name (mark_text role.least role.most) _ (written_alternatives conf role.targets) h.word (mark_read role.least role.most) (choice_read conf spelled role.targets h.targets)

pub unmarked_read : (conf : Configuration) → IsSpelled conf → (role : List ℕ) → IsWord role → (named : Alternatives) → IsSpelledChoice conf named → IsPieceOf (pair_text conf role named) (written_pair conf role named)
unmarked_read conf spelled role word named h = plain_read role _ (written_alternatives conf named) word (choice_read conf spelled named h)
