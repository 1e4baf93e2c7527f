-- The words of a line are UTF-8, and a pair has an alternative.
use Rattle.std.proofs.Common.{◌≡◌, ℕ, ◌+◌, ◌-◌, ◌<◌, ◌==◌, Bool, true, not, List, [], ◌∷◌, map, length, take, drop, slice_index, Option, Some, None, IsUtf8, encode_utf8_all, zero, suc, refl, sym, subst}
use Rattle.std.specs.List.{AllByRecursion as Each, cons_option, slice_split, onto_first, list_any, before_first, after_first, position_or_len}
use Rattle.std.specs.Char.{is_whitespace}
use Rattle.std.specs.Str.{skip_leading_whitespace}
use Rattle.std.proofs.lemmas.Bool.{and_parts, and_from, cond_both}
use lib.Utf8.{scalar, scalars}
use Rattle.conf_model.specs.ConfLines.{Section, Entities, Events, Relations, Attributes, Line, is_enclosed, enclosed}
use Rattle.conf_model.specs.ConfPairs.{Alternative, Named, Held, Piece, Shapeless, Keyed, Pair, alternative_of, alternatives_of, begins_mark, piece_of, pieces_of}
use Rattle.conf_model.specs.ConfNames.{TypeLine, NamedLine, File, content_of, section_lines, type_line, named_line, is_overlap, file_of_lines}
use Rattle.conf_model.specs.ConfFaults.{word_of, RolePair, pairs_of}
use Rattle.annotation_conf.proofs.SoundLists.{Each-map, each_weaker, Each-filter}
use Rattle.annotation_conf.proofs.SoundLines.{is_read}
use Rattle.annotation_conf.proofs.SoundMacros.{alternatives_some}
use Rattle.annotation_conf.proofs.SoundTexts.{AreTexts}

-- parts of characters
scalars-take : (n : ℕ) (cs : List ℕ) → scalars cs ≡ true → scalars (take n cs) ≡ true
scalars-take zero cs e = refl
scalars-take (suc n) [] e = refl
scalars-take (suc n) (c ∷ cs) e = let both = and_parts (scalar c) (scalars cs) e in and_from (scalar c) (scalars (take n cs)) both.0 (scalars-take n cs both.1)

scalars-drop : (n : ℕ) (cs : List ℕ) → scalars cs ≡ true → scalars (drop n cs) ≡ true
scalars-drop zero cs e = e
scalars-drop (suc n) [] e = refl
scalars-drop (suc n) (c ∷ cs) e = scalars-drop n cs (and_parts (scalar c) (scalars cs) e).1

scalars-skip : (cs : List ℕ) → scalars cs ≡ true → scalars (skip_leading_whitespace cs) ≡ true
scalars-skip [] e = refl
scalars-skip (c ∷ cs) e =
    cond_both (is_whitespace c) (skip_leading_whitespace cs) (c ∷ cs) (λ ds. scalars ds ≡ true) (λ f. scalars-skip cs (and_parts (scalar c) (scalars cs) e).1) (λ f. e)

onto_scalars : (c : ℕ) (parts : List (List ℕ)) → scalar c ≡ true → Each (λ cs. scalars cs ≡ true) parts → Each (λ cs. scalars cs ≡ true) (onto_first c parts)
onto_scalars c [] e a = (and_from (scalar c) true e refl, tt)
onto_scalars c (part ∷ parts) e a = (and_from (scalar c) (scalars part) e a.0, a.1)

scalars-split : (p : ℕ → Bool) (cs : List ℕ) → scalars cs ≡ true → Each (λ ds. scalars ds ≡ true) (slice_split p cs)
scalars-split p [] e = (refl, tt)
scalars-split p (c ∷ cs) e =
    let both = and_parts (scalar c) (scalars cs) e in
    let more = scalars-split p cs both.1 in
    cond_both (p c) ([] ∷ slice_split p cs) (onto_first c (slice_split p cs)) (Each (λ ds. scalars ds ≡ true)) (λ f. (refl, more)) (λ f. onto_scalars c (slice_split p cs) both.0 more)

valid : (cs : List ℕ) → scalars cs ≡ true → IsUtf8 (encode_utf8_all cs)
valid cs e = (cs, (e, refl))

-- the words of a pair are UTF-8, and there is an alternative
pub record IsSpelt (word : List ℕ) (alternatives : List Alternative) : Type 0 where
  pub role : IsUtf8 word
  pub some : 0 < length alternatives
  pub words : Each (λ one. IsUtf8 (word_of one)) alternatives

abbrev pub IsSpeltPiece : Piece → Type 0
IsSpeltPiece Shapeless = Unit {0}
IsSpeltPiece (Keyed key value) = Unit {0}
IsSpeltPiece (Pair role mark alternatives) = IsSpelt role alternatives

word_valid : (cs : List ℕ) → scalars cs ≡ true → IsUtf8 (word_of (alternative_of cs))
word_valid cs e =
    cond_both (is_enclosed 60 62 cs) (Held (encode_utf8_all (enclosed cs))) (Named (encode_utf8_all cs)) (λ one. IsUtf8 (word_of one))
    (λ f. valid (enclosed cs) (scalars-take (length cs - 2) (drop 1 cs) (scalars-drop 1 cs e))) (λ f. valid cs e)

words_valid : (cs : List ℕ) → scalars cs ≡ true → Each (λ one. IsUtf8 (word_of one)) (alternatives_of cs)
words_valid cs e =
    Each-map (λ one. IsUtf8 (word_of one)) alternative_of (slice_split (λ c. c == 124) cs)
    (each_weaker (λ ds. scalars ds ≡ true) (λ ds. IsUtf8 (word_of (alternative_of ds))) (λ ds f. word_valid ds f) (slice_split (λ c. c == 124) cs) (scalars-split (λ c. c == 124) cs e))

piece_valid : (cs : List ℕ) → scalars cs ≡ true → IsSpeltPiece (piece_of cs)
piece_valid cs e =
    let key = before_first (λ c. c == 58) cs in
    let value = after_first (λ c. c == 58) cs in
    let key_valid : scalars (before_first (λ c. c == 58) cs) ≡ true = scalars-take (position_or_len (λ c. c == 58) cs) cs e in
    let value_valid : scalars (after_first (λ c. c == 58) cs) ≡ true = scalars-drop (position_or_len (λ c. c == 58) cs + 1) cs e in
    cond_both (not (list_any (λ c. c == 58) cs)) Shapeless _ IsSpeltPiece (λ f. tt)
    (λ f. cond_both (is_enclosed 60 62 key) (Keyed (encode_utf8_all (enclosed key)) value)
    (Pair (encode_utf8_all (before_first begins_mark key)) (drop (position_or_len begins_mark key) key) (alternatives_of value)) IsSpeltPiece (λ g. tt)
    (λ g. record {
      role = valid (before_first begins_mark key) (scalars-take (position_or_len begins_mark key) key key_valid);
      some = alternatives_some value;
      words = words_valid value value_valid;
    }))

pieces_valid : (cs : List ℕ) → scalars cs ≡ true → Each IsSpeltPiece (pieces_of cs)
pieces_valid cs e =
    cond_both (length (skip_leading_whitespace cs) == 0) [] (map (λ piece. piece_of (skip_leading_whitespace piece)) (slice_split (λ c. c == 44) cs)) (Each IsSpeltPiece) (λ f. tt)
    (λ f. Each-map IsSpeltPiece (λ piece. piece_of (skip_leading_whitespace piece)) (slice_split (λ c. c == 44) cs)
    (each_weaker (λ ds. scalars ds ≡ true) (λ ds. IsSpeltPiece (piece_of (skip_leading_whitespace ds))) (λ ds g. piece_valid (skip_leading_whitespace ds) (scalars-skip ds g)) (slice_split (λ c. c == 44) cs)
    (scalars-split (λ c. c == 44) cs e)))

-- the pairs of pieces
pub pairs_valid : (pieces : List Piece) → Each IsSpeltPiece pieces → Each (λ (pair : RolePair). IsSpelt pair.role pair.alternatives) (pairs_of pieces)
pairs_valid [] a = tt
pairs_valid (Shapeless ∷ pieces) a = pairs_valid pieces a.1
pairs_valid (Keyed key value ∷ pieces) a = pairs_valid pieces a.1
pairs_valid (Pair role mark alternatives ∷ pieces) a = (a.0, pairs_valid pieces a.1)

-- the name of a line and its pieces
pub record IsSpeltLine (word : List ℕ) (behind : List Piece) : Type 0 where
  pub name : IsUtf8 word
  pub pieces : Each IsSpeltPiece behind

type_valid : (number : ℕ) (cs : List ℕ) → scalars cs ≡ true → IsSpeltLine (type_line number cs).name (type_line number cs).pieces
type_valid number cs e =
    let depth = position_or_len (λ c. not (c == 9)) cs in
    let body = skip_leading_whitespace (drop depth cs) in
    let body_valid : scalars (skip_leading_whitespace (drop (position_or_len (λ c. not (c == 9)) cs) cs)) ≡ true =
    scalars-skip (drop (position_or_len (λ c. not (c == 9)) cs) cs) (scalars-drop (position_or_len (λ c. not (c == 9)) cs) cs e) in
    cond_both (slice_index body 0 == 33) (drop 1 body) body (λ named. IsSpeltLine (encode_utf8_all (before_first is_whitespace named)) (pieces_of (drop (position_or_len is_whitespace named) named)))
    (λ f. of_named (drop 1 body) (scalars-drop 1 body body_valid)) (λ f. of_named body body_valid)
  where
    of_named : (named : List ℕ) → scalars named ≡ true → IsSpeltLine (encode_utf8_all (before_first is_whitespace named)) (pieces_of (drop (position_or_len is_whitespace named) named))
    of_named named f = record {
      name = valid (before_first is_whitespace named) (scalars-take (position_or_len is_whitespace named) named f);
      pieces = pieces_valid (drop (position_or_len is_whitespace named) named) (scalars-drop (position_or_len is_whitespace named) named f);
    }

named_valid : (number : ℕ) (cs : List ℕ) → scalars cs ≡ true → IsSpeltLine (named_line number cs).name (named_line number cs).pieces
named_valid number cs e = record {
  name = valid (before_first is_whitespace cs) (scalars-take (position_or_len is_whitespace cs) cs e);
  pieces = pieces_valid (drop (position_or_len is_whitespace cs) cs) (scalars-drop (position_or_len is_whitespace cs) cs e);
}

-- what each item of a section keeps that is read from characters
each_item : {X : Type 0} (section : Section) (read : ℕ → List ℕ → X) (P : X → Type 0) → ((number : ℕ) (cs : List ℕ) → scalars cs ≡ true → P (read number cs)) → (lines : List Line) → AreTexts lines
    → Each P (section_lines section read lines)
each_item section read P h [] a = tt
each_item {X} section read P h (line ∷ lines) a = go (content_of section read line.number line.place line.kind) refl (each_item section read P h lines a.1)
  where
    go : (o : Option X) → content_of section read line.number line.place line.kind ≡ o → Each P (section_lines section read lines) → Each P (cons_option o (section_lines section read lines))
    go None e more = more
    go (Some x) e more = let r = is_read section read line.number line.place line.kind x e in (subst P (sym r.read_is) (h line.number r.text (a.0 r.text r.kind_is)), more)

-- each line that declares something
pub record AreSpelt (file : File) : Type 0 where
  pub entities : Each (λ (line : TypeLine). IsSpeltLine line.name line.pieces) file.entities
  pub events : Each (λ (line : TypeLine). IsSpeltLine line.name line.pieces) file.events
  pub relations : Each (λ (line : NamedLine). IsSpeltLine line.name line.pieces) file.relations
  pub overlaps : Each (λ (line : NamedLine). IsSpeltLine line.name line.pieces) file.overlaps
  pub attributes : Each (λ (line : NamedLine). IsSpeltLine line.name line.pieces) file.attributes

pub are_spelt : (lines : List Line) → AreTexts lines → AreSpelt (file_of_lines lines)
are_spelt lines a =
    let read_relation : ℕ → List ℕ → NamedLine = λ number cs. named_line number (skip_leading_whitespace cs) in
    let spelt : NamedLine → Type 0 = λ line. IsSpeltLine line.name line.pieces in
    let of_relations : Each (λ (line : NamedLine). IsSpeltLine line.name line.pieces) (section_lines Relations (λ number cs. named_line number (skip_leading_whitespace cs)) lines) =
    each_item Relations (λ number cs. named_line number (skip_leading_whitespace cs)) (λ (line : NamedLine). IsSpeltLine line.name line.pieces)
    (λ number cs e. named_valid number (skip_leading_whitespace cs) (scalars-skip cs e)) lines a in
    record {
      entities = each_item Entities type_line (λ (line : TypeLine). IsSpeltLine line.name line.pieces) type_valid lines a;
      events = each_item Events type_line (λ (line : TypeLine). IsSpeltLine line.name line.pieces) type_valid lines a;
      relations = Each-filter (λ (line : NamedLine). IsSpeltLine line.name line.pieces) (λ line. not (is_overlap line)) (section_lines Relations (λ number cs. named_line number (skip_leading_whitespace cs)) lines) of_relations;
      overlaps = Each-filter (λ (line : NamedLine). IsSpeltLine line.name line.pieces) is_overlap (section_lines Relations (λ number cs. named_line number (skip_leading_whitespace cs)) lines) of_relations;
      attributes = each_item Attributes named_line (λ (line : NamedLine). IsSpeltLine line.name line.pieces) named_valid lines a;
    }
