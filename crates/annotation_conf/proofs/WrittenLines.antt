-- Each line that declares something, read back from its text.
use Rattle.std.proofs.Common.{◌≡◌, refl, sym, ap, ◌∙◌, ℕ, zero, suc, ◌+◌, Bool, true, false, cond, not, ◌||◌, ◌&&◌, List, [], ◌∷◌, ◌++◌, length, drop, append_assoc, ◌==◌, arith, ◌<◌, subst, IsUtf8, slice_index, nat_lt, if◌then◌else◌, codes, encode_utf8_all, replicate, one-add}
use Rattle.std.proofs.lemmas.Bool.{or_from, or_parts, and_left, and_right, true≢false}
use Rattle.std.proofs.lemmas.Str.{encodes-chars}
use lib.Utf8.{encode}
use Rattle.std.specs.Str.{chars, NonePass, skip_leading_whitespace}
use Rattle.std.specs.Char.{is_whitespace, is_control}
use Rattle.std.specs.List.{list_all, before_first, after_first, position_or_len}
use Rattle.mark_base.specs.Names.{is_barred, is_mark}
use Rattle.conf_model.specs.ConfLines.{Kind, Skipped, Header, Macro, Content, kind_of, is_skipped, is_hyphens, is_enclosed, enclosed, is_macro, section_named}
use Rattle.conf_model.specs.ConfPairs.{Piece, pieces_of}
use Rattle.conf_model.specs.ConfNames.{TypeLine, type_line, named_line}
use Rattle.annotation_conf.proofs.Written.{IsDeclaredWord, body}
use Rattle.annotation_conf.proofs.WrittenLists.{none-append, none_less, is_other, Opens, before_opened, from_opened}
use Rattle.annotation_conf.proofs.WrittenNames.{Spells, spells-append, spells_chars, spells_valid, spells_name, spells_plain, is_wide, name_free, name_some, declared_word, declared_opens, declared_mixed}
use Rattle.annotation_conf.proofs.WrittenChoices.{none_by, opens_without, not_enclosed}
use Rattle.annotation_conf.proofs.WrittenPieces.{first-append, longer, opens_visibly}
use Rattle.annotation_conf.proofs.WrittenTails.{is_end, skip_none, OpensByTab, IsTailOf, tail}

-- a text that is read as a line of content
pub record IsContent (text : List ℕ) : Type 0 where
  pub valid : IsUtf8 text
  pub unbroken : NonePass is_end (chars text)
  pub kind : kind_of (chars text) ≡ Content (chars text)

content_from : (text cs : List ℕ) → Spells text cs → NonePass is_end cs → kind_of cs ≡ Content cs → IsContent text
content_from text cs spelt unbroken kind =
    let same = spells_chars text cs spelt in
    record {
      valid = spells_valid text cs spelt;
      unbroken = subst (NonePass is_end) (sym same) unbroken;
      kind = ap kind_of same ∙ (kind ∙ ap Content (sym same));
    }

-- The kind of a line by its first visible character.

-- what begins visibly, and no comment
record IsVisible (cs : List ℕ) : Type 0 where
  some : 0 < length cs
  opens : is_whitespace (slice_index cs 0) ≡ false
  uncommented : (slice_index cs 0 == 35) ≡ false
  mixed : list_all (λ c. c == 45) cs ≡ false
  unbracketed : (slice_index cs 0 == 91) ≡ false
  no_macro : is_macro cs ≡ false

content_when : (cs : List ℕ) → is_skipped cs ≡ false → is_enclosed 91 93 cs ≡ false → is_macro cs ≡ false → kind_of cs ≡ Content cs
content_when cs kept unbracketed no_macro =
    λ i. kind_by (kept i) (unbracketed i) (no_macro i)
  where
    kind_by : Bool → Bool → Bool → Kind
    kind_by skipped bracketed macro =
        if skipped then Skipped
        else if bracketed then Header (section_named (enclosed cs))
        else if macro then Macro (encode_utf8_all (drop 1 (before_first (λ c. c == 62) cs))) (drop 1 (after_first (λ c. c == 62) cs))
        else Content cs

not_blank : (depth : ℕ) (cs : List ℕ) → 0 < length cs → is_whitespace (slice_index cs 0) ≡ false → list_all is_whitespace (replicate depth 9 ++ cs) ≡ false
not_blank zero [] some opens = let none : ⊥ = omega arith in absurd none
not_blank zero (c ∷ cs) some opens = and_left (is_whitespace c) (list_all is_whitespace cs) opens
not_blank (suc depth) cs some opens = not_blank depth cs some opens

skip_tabs : (depth : ℕ) (cs : List ℕ) → is_whitespace (slice_index cs 0) ≡ false → skip_leading_whitespace (replicate depth 9 ++ cs) ≡ cs
skip_tabs zero cs opens = skip_none cs opens
skip_tabs (suc depth) cs opens = skip_tabs depth cs opens

kept : (depth : ℕ) (cs : List ℕ) → IsVisible cs → is_hyphens (replicate depth 9 ++ cs) ≡ false → is_skipped (replicate depth 9 ++ cs) ≡ false
kept depth cs h mixed =
    let line = replicate depth 9 ++ cs in
    or_from (list_all is_whitespace line || slice_index (skip_leading_whitespace line) 0 == 35) (is_hyphens line)
    (or_from (list_all is_whitespace line) (slice_index (skip_leading_whitespace line) 0 == 35) (not_blank depth cs h.some h.opens)
    (ap (λ ds. slice_index ds 0 == 35) (skip_tabs depth cs h.opens) ∙ h.uncommented))
    mixed

content_kind : (depth : ℕ) (cs : List ℕ) → IsVisible cs → kind_of (replicate depth 9 ++ cs) ≡ Content (replicate depth 9 ++ cs)
content_kind zero cs h =
    content_when cs (kept zero cs h (and_right (nat_lt 0 (length cs)) (list_all (λ c. c == 45) cs) h.mixed)) (not_enclosed 91 93 cs h.unbracketed) h.no_macro
content_kind (suc depth) cs h =
    let line = 9 ∷ (replicate depth 9 ++ cs) in
    content_when line (kept (suc depth) cs h (and_right (nat_lt 0 (length line)) (list_all (λ c. c == 45) line) refl)) (not_enclosed 91 93 line refl) refl

-- A declared name and what follows.

behind_false : (b x y : Bool) → (x ≡ false → y ≡ false) → (b && x) ≡ false → (b && y) ≡ false
behind_false true x y h e = h e
behind_false false x y h e = refl

mixed-append : (xs ys : List ℕ) → list_all (λ c. c == 45) xs ≡ false → list_all (λ c. c == 45) (xs ++ ys) ≡ false
mixed-append [] ys h = absurd (true≢false h)
mixed-append (x ∷ xs) ys h = behind_false (x == 45) (list_all (λ c. c == 45) xs) (list_all (λ c. c == 45) (xs ++ ys)) (mixed-append xs ys) h

name_visible : (word t : List ℕ) → IsDeclaredWord word → IsVisible (chars word ++ t)
name_visible word t h =
    let name = chars word in
    let free = name_free word (declared_word word h) in
    let some = name_some word (declared_word word h) in
    let first = first-append name t some in
    record {
      some = longer name t some;
      opens = ap is_whitespace first ∙ opens_visibly name free;
      uncommented = ap (λ c. c == 35) first ∙ opens_without is_barred 35 refl refl name free;
      mixed = mixed-append name t (declared_mixed word h);
      unbracketed = ap (λ c. c == 91) first ∙ declared_opens word h;
      no_macro = and_left (slice_index (name ++ t) 0 == 60) (slice_index (after_first (λ c. c == 62) (name ++ t)) 0 == 61)
          (ap (λ c. c == 60) first ∙ opens_without is_barred 60 refl refl name free);
    }

barred_marked : (cs : List ℕ) → IsVisible (33 ∷ cs)
barred_marked cs = record { some = omega arith; opens = refl; uncommented = refl; mixed = refl; unbracketed = refl; no_macro = refl }

overlap_visible : (t : List ℕ) → OpensByTab t → IsVisible (codes "<OVERLAP>" ++ t)
overlap_visible [] h = record { some = omega arith; opens = refl; uncommented = refl; mixed = refl; unbracketed = refl; no_macro = refl }
overlap_visible (c ∷ t) h = record { some = omega arith; opens = refl; uncommented = refl; mixed = refl; unbracketed = refl; no_macro = ap (λ d. d == 61) h }

no_space : (c : ℕ) → is_barred c ≡ false → is_whitespace c ≡ false
no_space c h = (or_parts (is_whitespace c) (is_control c) (or_parts (is_whitespace c || is_control c) (is_mark c) h).0).0

no_end : (c : ℕ) → is_barred c ≡ false → is_end c ≡ false
no_end c h = or_from (c == 10) (c == 13) (is_other is_barred 10 refl c h) (is_other is_barred 13 refl c h)

opens_blank : (t : List ℕ) → OpensByTab t → Opens is_whitespace t
opens_blank [] h = tt
opens_blank (c ∷ t) h = ap is_whitespace h

-- a name and what follows, apart
named_apart : (number : ℕ) (name t : List ℕ) → NonePass is_whitespace name → OpensByTab t
    → named_line number (name ++ t) ≡ record { number = number; name = encode_utf8_all name; pieces = pieces_of t }
named_apart number name t h opens = λ i. record {
  number = number;
  name = encode_utf8_all (before_opened is_whitespace name t h (opens_blank t opens) i);
  pieces = pieces_of (from_opened is_whitespace name t h (opens_blank t opens) i);
}

-- The lines of relation types, overlaps and attributes.

-- a text that is read as a line of content, with this name and these pieces
pub record IsNamedText (text name : List ℕ) (pieces : List Piece) : Type 0 where
  pub content : IsContent text
  pub opens : is_whitespace (slice_index (chars text) 0) ≡ false
  pub read : (number : ℕ) → named_line number (chars text) ≡ record { number = number; name = name; pieces = pieces }

named_from : (text cs name : List ℕ) (pieces : List Piece) → Spells text cs → NonePass is_end cs → IsVisible cs
    → ((number : ℕ) → named_line number cs ≡ record { number = number; name = name; pieces = pieces }) → IsNamedText text name pieces
named_from text cs name pieces spelt unbroken visible read =
    let same = spells_chars text cs spelt in
    record {
      content = content_from text cs spelt unbroken (content_kind 0 cs visible);
      opens = ap (λ ds. is_whitespace (slice_index ds 0)) same ∙ visible.opens;
      read = λ number. ap (named_line number) same ∙ read number;
    }

pub declared_read : (word : List ℕ) (pairs : List (List ℕ)) (pieces : List Piece) → IsDeclaredWord word → IsTailOf (tail pairs) pieces → IsNamedText (body word pairs) word pieces
declared_read word pairs pieces h behind =
    let name = chars word in
    let free = name_free word (declared_word word h) in
    named_from (body word pairs) (name ++ behind.cs) word pieces
    (spells-append word (tail pairs) name behind.cs (spells_name word h.valid) behind.spelt)
    (none-append is_end name behind.cs (none_less is_barred is_end no_end name free) behind.plain)
    (name_visible word behind.cs h)
    (λ number. named_apart number name behind.cs (none_less is_barred is_whitespace no_space name free) behind.opens
    ∙ (λ i. record { number = number; name = encodes-chars word h.valid i; pieces = behind.read i }))

pub overlap_read : (pairs : List (List ℕ)) (pieces : List Piece) → IsTailOf (tail pairs) pieces → IsNamedText (body (codes "<OVERLAP>") pairs) (codes "<OVERLAP>") pieces
unfolding encode
overlap_read pairs pieces behind =
    let word = codes "<OVERLAP>" in
    named_from (body word pairs) (word ++ behind.cs) word pieces
    (spells-append word (tail pairs) word behind.cs (spells_plain word (none_by is_wide word refl)) behind.spelt)
    (none-append is_end word behind.cs (none_by is_end word refl) behind.plain)
    (overlap_visible behind.cs behind.opens)
    (λ number. named_apart number word behind.cs (none_by is_whitespace word refl) behind.opens
    ∙ (λ i. record { number = number; name = word; pieces = behind.read i }))

-- The lines of types.

not_tab : (c : ℕ) → is_whitespace c ≡ false → (c == 9) ≡ false
not_tab c h = is_other is_whitespace 9 refl c h

tabs_counted : (depth : ℕ) (cs : List ℕ) → 0 < length cs → is_whitespace (slice_index cs 0) ≡ false → position_or_len (λ c. not (c == 9)) (replicate depth 9 ++ cs) ≡ depth
tabs_counted zero [] some opens = refl
tabs_counted zero (c ∷ cs) some opens = ap (λ b. cond (not (not b)) (1 + position_or_len (λ d. not (d == 9)) cs) 0) (not_tab c opens)
tabs_counted (suc depth) cs some opens = one-add (position_or_len (λ c. not (c == 9)) (replicate depth 9 ++ cs)) ∙ ap suc (tabs_counted depth cs some opens)

drop_tabs : (depth : ℕ) (cs : List ℕ) → drop depth (replicate depth 9 ++ cs) ≡ cs
drop_tabs zero cs = refl
drop_tabs (suc depth) cs = drop_tabs depth cs

no_space_first : (depth : ℕ) (cs : List ℕ) → is_whitespace (slice_index cs 0) ≡ false → (slice_index (replicate depth 9 ++ cs) 0 == 32) ≡ false
no_space_first zero cs opens = is_other is_whitespace 32 refl (slice_index cs 0) opens
no_space_first (suc depth) cs opens = refl

-- a type line by its depth and what follows its TABs
abbrev typed : ℕ → ℕ → Bool → Bool → List ℕ → TypeLine
typed number depth spaced gapped cs =
    let named = if slice_index cs 0 == 33 then drop 1 cs else cs in
    record {
      number = number;
      depth = depth;
      spaced = spaced;
      gapped = gapped;
      usable = not (slice_index cs 0 == 33);
      name = encode_utf8_all (before_first is_whitespace named);
      pieces = pieces_of (drop (position_or_len is_whitespace named) named);
    }

type_apart : (number depth : ℕ) (cs : List ℕ) → IsVisible cs → type_line number (replicate depth 9 ++ cs) ≡ typed number depth false false cs
type_apart number depth cs h =
    let line = replicate depth 9 ++ cs in
    let counted = tabs_counted depth cs h.some h.opens in
    let dropped : drop (position_or_len (λ c. not (c == 9)) line) line ≡ cs = ap (λ n. drop n line) counted ∙ drop_tabs depth cs in
    let seen = ap skip_leading_whitespace dropped ∙ skip_none cs h.opens in
    let bare = ap (λ ds. is_whitespace (slice_index ds 0)) dropped ∙ h.opens in
    λ i. typed number (counted i) (no_space_first depth cs h.opens i) (bare i) (seen i)

-- a type line by whether a `!` stands before its name
abbrev marked : ℕ → ℕ → Bool → List ℕ → TypeLine
marked number depth barred named = record {
  number = number;
  depth = depth;
  spaced = false;
  gapped = false;
  usable = not barred;
  name = encode_utf8_all (before_first is_whitespace named);
  pieces = pieces_of (drop (position_or_len is_whitespace named) named);
}

type_named : (number depth : ℕ) (barred : Bool) (name t word : List ℕ) (pieces : List Piece) → NonePass is_whitespace name → OpensByTab t → encode_utf8_all name ≡ word → pieces_of t ≡ pieces
    → marked number depth barred (name ++ t) ≡ record { number = number; depth = depth; spaced = false; gapped = false; usable = not barred; name = word; pieces = pieces }
type_named number depth barred name t word pieces h opens spelt read = λ i. record {
  number = number;
  depth = depth;
  spaced = false;
  gapped = false;
  usable = not barred;
  name = (ap encode_utf8_all (before_opened is_whitespace name t h (opens_blank t opens)) ∙ spelt) i;
  pieces = (ap pieces_of (from_opened is_whitespace name t h (opens_blank t opens)) ∙ read) i;
}

tabs_none : (p : ℕ → Bool) → p 9 ≡ false → (depth : ℕ) → NonePass p (replicate depth 9)
tabs_none p h zero = tt
tabs_none p h (suc depth) = (h, tabs_none p h depth)

-- a text that is read as a type line
pub record IsTypeText (text : List ℕ) (depth : ℕ) (usable : Bool) (name : List ℕ) (pieces : List Piece) : Type 0 where
  pub content : IsContent text
  pub read : (number : ℕ) → type_line number (chars text) ≡ record { number = number; depth = depth; spaced = false; gapped = false; usable = usable; name = name; pieces = pieces }

type_from : (text behind_tabs name : List ℕ) (depth : ℕ) (usable : Bool) (pieces : List Piece) (cs : List ℕ) → Spells behind_tabs cs → text ≡ replicate depth 9 ++ behind_tabs → NonePass is_end cs
    → IsVisible cs → ((number : ℕ) → typed number depth false false cs ≡ record { number = number; depth = depth; spaced = false; gapped = false; usable = usable; name = name; pieces = pieces })
    → IsTypeText text depth usable name pieces
type_from text behind_tabs name depth usable pieces cs spelt is unbroken visible read =
    let tabs = replicate depth 9 in
    let whole : Spells text (tabs ++ cs) = subst (λ bytes. Spells bytes (tabs ++ cs)) (sym is) (spells-append tabs behind_tabs tabs cs (spells_plain tabs (tabs_none is_wide refl depth)) spelt) in
    let same = spells_chars text (tabs ++ cs) whole in
    record {
      content = content_from text (tabs ++ cs) whole (none-append is_end tabs cs (tabs_none is_end refl depth) unbroken) (content_kind depth cs visible);
      read = λ number. ap (type_line number) same ∙ (type_apart number depth cs visible ∙ read number);
    }

pub type_read : (depth : ℕ) (usable : Bool) (word : List ℕ) (pairs : List (List ℕ)) (pieces : List Piece) → IsDeclaredWord word → IsTailOf (tail pairs) pieces
    → IsTypeText (replicate depth 9 ++ (if usable then [] else codes "!") ++ body word pairs) depth usable word pieces
type_read depth true word pairs pieces h behind =
    let name = chars word in
    let free = name_free word (declared_word word h) in
    let unmarked : (slice_index (name ++ behind.cs) 0 == 33) ≡ false =
    ap (λ c. c == 33) (first-append name behind.cs (name_some word (declared_word word h))) ∙ opens_without is_barred 33 refl refl name free in
    type_from (replicate depth 9 ++ [] ++ body word pairs) (body word pairs) word depth true pieces (name ++ behind.cs)
    (spells-append word (tail pairs) name behind.cs (spells_name word h.valid) behind.spelt)
    (append_assoc (replicate depth 9) [] (body word pairs))
    (none-append is_end name behind.cs (none_less is_barred is_end no_end name free) behind.plain)
    (name_visible word behind.cs h)
    (λ number. ap (λ b. marked number depth b (if b then drop 1 (name ++ behind.cs) else (name ++ behind.cs))) unmarked
    ∙ type_named number depth false name behind.cs word pieces (none_less is_barred is_whitespace no_space name free) behind.opens (encodes-chars word h.valid) behind.read)
type_read depth false word pairs pieces h behind =
    let name = chars word in
    let free = name_free word (declared_word word h) in
    type_from (replicate depth 9 ++ codes "!" ++ body word pairs) (33 ∷ body word pairs) word depth false pieces (33 ∷ (name ++ behind.cs))
    (spells-append (33 ∷ []) (body word pairs) (33 ∷ []) (name ++ behind.cs) (spells_plain (33 ∷ []) (refl, tt))
    (spells-append word (tail pairs) name behind.cs (spells_name word h.valid) behind.spelt))
    (append_assoc (replicate depth 9) (codes "!") (body word pairs))
    (refl, none-append is_end name behind.cs (none_less is_barred is_end no_end name free) behind.plain)
    (barred_marked (name ++ behind.cs))
    (λ number. type_named number depth true name behind.cs word pieces (none_less is_barred is_whitespace no_space name free) behind.opens (encodes-chars word h.valid) behind.read)
