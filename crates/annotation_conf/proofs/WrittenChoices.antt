-- The alternatives of a line, read back from their text.
use Rattle.std.proofs.Common.{◌≡◌, refl, sym, ap, ap₂, ◌∙◌, ℕ, zero, suc, ◌-◌, Bool, true, false, not, ◌||◌, ◌&&◌, List, [], ◌∷◌, ◌++◌, length, ◌==◌, arith, ◌<◌, subst, chars, IsUtf8, slice_index, nat_lt, encode_utf8_all, lit<, map, codes, slice_get}
use Rattle.std.proofs.lemmas.Bool.{or_from, or_parts, and_left, and_right, and_parts, not-true, cond-false, lt-ltb}
use Rattle.std.proofs.lemmas.Str.{encodes-chars}
use lib.Utf8.{encode}
use Rattle.std.specs.Option.{option_map_or}
use Rattle.std.specs.Str.{NonePass}
use Rattle.std.specs.List.{list_all, join_with_byte, AllByRecursion, AllZip}
use Rattle.mark_base.specs.Names.{is_barred}
use Rattle.conf_model.specs.ConfLines.{is_enclosed, enclosed}
use Rattle.conf_model.specs.ConfPairs.{Alternative, Named, Held, alternative_of, alternatives_of}
use Rattle.conf_model.specs.ConfText.{where_so, type_name_at, relation_name_at, alternatives_text, has_type_named, named_apart}
use Rattle.conf_model.specs.Configurations.{Configuration}
use Rattle.conf_model.specs.declared.alternatives.Alternatives.{Alternatives}
use Rattle.conf_model.specs.declared.relation_type.RelationType.{RelationType}
use Rattle.annotation_conf.proofs.SoundLists.{Each-filter}
use Rattle.annotation_conf.proofs.Written.{IsWord, IsDeclaredWord, IsSpelledChoice, IsSpelledRelation, IsSpelled, held_where, written_alternatives}
use Rattle.annotation_conf.proofs.WrittenLists.{none-append, none_less, is_other, split_joined}
use Rattle.annotation_conf.proofs.WrittenNames.{Spells, spells-append, spells_chars, spells_valid, spells_name, spells_plain, is_wide, name_free, declared_word}

-- what ends a pair: a comma, or the end of a line
abbrev pub is_stop : ℕ → Bool
is_stop c = c == 10 || c == 13 || c == 44

-- what ends an alternative
abbrev pub is_joint : ℕ → Bool
is_joint c = is_stop c || c == 124

-- a test that no element of a written-out list passes
pub none_by : (p : ℕ → Bool) (cs : List ℕ) → list_all (λ c. not (p c)) cs ≡ true → NonePass p cs
none_by p [] h = tt
none_by p (c ∷ cs) h = let both = and_parts (not (p c)) (list_all (λ d. not (p d)) cs) h in (not-true (p c) both.0, none_by p cs both.1)

-- no character of a name ends an alternative
pub no_stop : (c : ℕ) → is_barred c ≡ false → is_stop c ≡ false
no_stop c h = or_from (c == 10 || c == 13) (c == 44) (or_from (c == 10) (c == 13) (is_other is_barred 10 refl c h) (is_other is_barred 13 refl c h)) (is_other is_barred 44 refl c h)

no_joint : (c : ℕ) → is_barred c ≡ false → is_joint c ≡ false
no_joint c h = or_from (is_stop c) (c == 124) (no_stop c h) (is_other is_barred 124 refl c h)

-- a list without such a character does not begin with it
pub opens_without : (p : ℕ → Bool) (k : ℕ) → p k ≡ true → (0 == k) ≡ false → (cs : List ℕ) → NonePass p cs → (slice_index cs 0 == k) ≡ false
opens_without p k pass nought [] h = nought
opens_without p k pass nought (c ∷ cs) h = is_other p k pass c h.0

pub not_enclosed : (first last : ℕ) (cs : List ℕ) → (slice_index cs 0 == first) ≡ false → is_enclosed first last cs ≡ false
not_enclosed first last cs h =
    and_left (nat_lt 1 (length cs) && slice_index cs 0 == first) (slice_index cs (length cs - 1) == last) (and_right (nat_lt 1 (length cs)) (slice_index cs 0 == first) h)

-- a word that is read as an alternative
pub record IsAlternativeOf (word : List ℕ) (alternative : Alternative) : Type 0 where
  pub valid : IsUtf8 word
  pub plain : NonePass is_joint (chars word)
  pub read : alternative_of (chars word) ≡ alternative

pub name_read : (word : List ℕ) → IsWord word → IsAlternativeOf word (Named word)
name_read word h = record {
  valid = h.valid;
  plain = none_less is_barred is_joint no_joint (chars word) (name_free word h);
  read =
      cond-false (is_enclosed 60 62 (chars word)) (Held (encode_utf8_all (enclosed (chars word)))) (Named (encode_utf8_all (chars word)))
      (not_enclosed 60 62 (chars word) (opens_without is_barred 60 refl refl (chars word) (name_free word h)))
      ∙ ap Named (encodes-chars word h.valid);
}

-- the words of the built-in macros
macro_read : (word : List ℕ) (alternative : Alternative) → list_all (λ c. not (is_wide c)) word ≡ true → list_all (λ c. not (is_joint c)) word ≡ true
    → alternative_of word ≡ alternative → IsAlternativeOf word alternative
macro_read word alternative ascii joined read =
    let spelt = spells_plain word (none_by is_wide word ascii) in
    let same = spells_chars word word spelt in
    record {
      valid = spells_valid word word spelt;
      plain = subst (NonePass is_joint) (sym same) (none_by is_joint word joined);
      read = ap alternative_of same ∙ read;
    }

entity_read : IsAlternativeOf (codes "<ENTITY>") (Held (codes "ENTITY"))
unfolding encode
entity_read = macro_read (codes "<ENTITY>") (Held (codes "ENTITY")) refl refl refl

event_read : IsAlternativeOf (codes "<EVENT>") (Held (codes "EVENT"))
unfolding encode
event_read = macro_read (codes "<EVENT>") (Held (codes "EVENT")) refl refl refl

any_read : IsAlternativeOf (codes "<ANY>") (Held (codes "ANY"))
unfolding encode
any_read = macro_read (codes "<ANY>") (Held (codes "ANY")) refl refl refl

relation_read : IsAlternativeOf (codes "<RELATION>") (Held (codes "RELATION"))
unfolding encode
relation_read = macro_read (codes "<RELATION>") (Held (codes "RELATION")) refl refl refl

-- pairs of two lists in a row
pub zip-append : {A B : Type 0} (R : A → B → Type 0) (xs : List A) (ys : List B) (us : List A) (vs : List B) → AllZip R xs ys → AllZip R us vs → AllZip R (xs ++ us) (ys ++ vs)
zip-append R [] [] us vs h k = k
zip-append R [] (y ∷ ys) us vs h k = absurd h
zip-append R (x ∷ xs) [] us vs h k = absurd h
zip-append R (x ∷ xs) (y ∷ ys) us vs h k = (h.0, zip-append R xs ys us vs h.1 k)

where_read : (so : Bool) (word name : List ℕ) → IsAlternativeOf word (Held name) → AllZip IsAlternativeOf (where_so so word) (held_where so name)
where_read true word name h = (h, tt)
where_read false word name h = tt

-- the name at a place of a list of declared names
pub word_at : {X : Type 0} (name : X → List ℕ) (xs : List X) → AllByRecursion (λ x. IsDeclaredWord (name x)) xs → (place : ℕ) → place < length xs → IsWord (option_map_or name (slice_get xs place) [])
word_at name [] h place l = let none : ⊥ = omega arith in absurd none
word_at name (x ∷ xs) h zero l = declared_word (name x) h.0
word_at name (x ∷ xs) h (suc place) l = word_at name xs h.1 place (omega arith)

places_read : (name : ℕ → List ℕ) (length_ : ℕ) → ((place : ℕ) → place < length_ → IsWord (name place)) → (places : List ℕ) → AllByRecursion (λ place. place < length_) places
    → AllZip IsAlternativeOf (map name places) (map (λ place. Named (name place)) places)
places_read name length_ word [] h = tt
places_read name length_ word (place ∷ places) h = (name_read (name place) (word place h.0), places_read name length_ word places h.1)

-- the names of relation types
relation_words : (conf : Configuration) → (relations : List RelationType) → AllByRecursion (IsSpelledRelation conf) relations → AllByRecursion (λ relation. IsDeclaredWord relation.name) relations
relation_words conf [] h = tt
relation_words conf (relation ∷ relations) h = (h.0.word, relation_words conf relations h.1)

-- the words of alternatives
abbrev pub choice_words : Configuration → Alternatives → List (List ℕ)
choice_words conf named =
    where_so named.entity (codes "<ENTITY>") ++ where_so named.event (codes "<EVENT>") ++ where_so named.any (codes "<ANY>")
    ++ where_so named.relation (codes "<RELATION>") ++ map (type_name_at conf) named.bound ++ map (relation_name_at conf) (named_apart conf named)

pub choices_read : (conf : Configuration) → IsSpelled conf → (named : Alternatives) → IsSpelledChoice conf named → AllZip IsAlternativeOf (choice_words conf named) (written_alternatives conf named)
choices_read conf spelled named h =
    zip-append IsAlternativeOf _ _ _ _
    (zip-append IsAlternativeOf _ _ _ _
    (zip-append IsAlternativeOf _ _ _ _
    (zip-append IsAlternativeOf _ _ _ _
    (zip-append IsAlternativeOf _ _ _ _ (where_read named.entity (codes "<ENTITY>") (codes "ENTITY") entity_read) (where_read named.event (codes "<EVENT>") (codes "EVENT") event_read))
    (where_read named.any (codes "<ANY>") (codes "ANY") any_read))
    (where_read named.relation (codes "<RELATION>") (codes "RELATION") relation_read))
    (places_read (type_name_at conf) (length conf.types) (word_at (λ row. row.name) conf.types spelled.types) named.bound h.bound))
    (places_read (relation_name_at conf) (length conf.relations) (word_at (λ relation. relation.name) conf.relations (relation_words conf conf.relations spelled.relations)) (named_apart conf named)
    (Each-filter (λ place. place < length conf.relations) (λ place. not (has_type_named conf named.bound (relation_name_at conf place))) named.between h.between))

-- texts that a byte joins, by their characters
pub spells_joined : (k : ℕ) → k < 128 → (texts : List (List ℕ)) → AllByRecursion IsUtf8 texts → Spells (join_with_byte k texts) (join_with_byte k (map chars texts))
spells_joined k low [] h = record { scalar = refl; spelt = refl }
spells_joined k low (text ∷ []) h = spells_name text h.0
spells_joined k low (text ∷ next ∷ texts) h =
    spells-append text (k ∷ join_with_byte k (next ∷ texts)) (chars text) (k ∷ join_with_byte k (map chars (next ∷ texts))) (spells_name text h.0)
    (spells-append (k ∷ []) (join_with_byte k (next ∷ texts)) (k ∷ []) (join_with_byte k (map chars (next ∷ texts))) (spells_plain (k ∷ []) (narrow k low, tt)) (spells_joined k low (next ∷ texts) h.1))
  where
    narrow : (n : ℕ) → n < 128 → is_wide n ≡ false
    narrow n l = ap not (lt-ltb n 128 l)

-- a test that no text and not the byte passes
pub none_joined : (p : ℕ → Bool) (k : ℕ) → p k ≡ false → (texts : List (List ℕ)) → AllByRecursion (NonePass p) texts → NonePass p (join_with_byte k texts)
none_joined p k fail [] h = tt
none_joined p k fail (text ∷ []) h = h.0
none_joined p k fail (text ∷ next ∷ texts) h = none-append p text (k ∷ join_with_byte k (next ∷ texts)) h.0 (fail, none_joined p k fail (next ∷ texts) h.1)

-- a text that is read as alternatives
pub record IsValueOf (text : List ℕ) (alternatives : List Alternative) : Type 0 where
  pub valid : IsUtf8 text
  pub plain : NonePass is_stop (chars text)
  pub read : alternatives_of (chars text) ≡ alternatives

words_valid : (words : List (List ℕ)) (alternatives : List Alternative) → AllZip IsAlternativeOf words alternatives → AllByRecursion IsUtf8 words
words_valid [] alternatives h = tt
words_valid (word ∷ words) [] h = absurd h
words_valid (word ∷ words) (one ∷ alternatives) h = (h.0.valid, words_valid words alternatives h.1)

words_plain : (p : ℕ → Bool) → ((c : ℕ) → is_joint c ≡ false → p c ≡ false) → (words : List (List ℕ)) (alternatives : List Alternative) → AllZip IsAlternativeOf words alternatives
    → AllByRecursion (NonePass p) (map chars words)
words_plain p less [] alternatives h = tt
words_plain p less (word ∷ words) [] h = absurd h
words_plain p less (word ∷ words) (one ∷ alternatives) h = (none_less is_joint p less (chars word) h.0.plain, words_plain p less words alternatives h.1)

words_each : (words : List (List ℕ)) (alternatives : List Alternative) → AllZip IsAlternativeOf words alternatives → map alternative_of (map chars words) ≡ alternatives
words_each [] [] h = refl
words_each [] (one ∷ alternatives) h = absurd h
words_each (word ∷ words) [] h = absurd h
words_each (word ∷ words) (one ∷ alternatives) h = ap₂ (λ a b. a ∷ b) h.0.read (words_each words alternatives h.1)

words_split : (words : List (List ℕ)) (alternatives : List Alternative) → 0 < length alternatives → AllZip IsAlternativeOf words alternatives
    → alternatives_of (join_with_byte 124 (map chars words)) ≡ alternatives
words_split [] [] some h = let none : ⊥ = omega arith in absurd none
words_split [] (one ∷ alternatives) some h = absurd h
words_split (word ∷ words) alternatives some h =
    ap (map alternative_of)
    (split_joined 124 refl (chars word) (map chars words) (words_plain (λ c. c == 124) (λ c e. (or_parts (is_stop c) (c == 124) e).1) (word ∷ words) alternatives h))
    ∙ words_each (word ∷ words) alternatives h

pub words_read : (words : List (List ℕ)) (alternatives : List Alternative) → 0 < length alternatives → AllZip IsAlternativeOf words alternatives → IsValueOf (join_with_byte 124 words) alternatives
words_read words alternatives some h =
    let spelt = spells_joined 124 (lit< tt) words (words_valid words alternatives h) in
    let same = spells_chars (join_with_byte 124 words) (join_with_byte 124 (map chars words)) spelt in
    record {
      valid = spells_valid (join_with_byte 124 words) (join_with_byte 124 (map chars words)) spelt;
      plain =
          subst (NonePass is_stop) (sym same)
          (none_joined is_stop 124 refl (map chars words) (words_plain is_stop (λ c e. (or_parts (is_stop c) (c == 124) e).0) words alternatives h));
      read = ap alternatives_of same ∙ words_split words alternatives some h;
    }

pub choice_read : (conf : Configuration) → IsSpelled conf → (named : Alternatives) → IsSpelledChoice conf named → IsValueOf (alternatives_text conf named) (written_alternatives conf named)
choice_read conf spelled named h = words_read (choice_words conf named) (written_alternatives conf named) h.some (choices_read conf spelled named h)

-- the values of an attribute
values_each : (values : List (List ℕ)) → AllByRecursion IsWord values → AllZip IsAlternativeOf values (map (λ value. Named value) values)
values_each [] h = tt
values_each (value ∷ values) h = (name_read value h.0, values_each values h.1)

pub values_read : (value : List ℕ) (values : List (List ℕ)) → AllByRecursion IsWord (value ∷ values)
    → IsValueOf (join_with_byte 124 (value ∷ values)) (map (λ one. Named one) (value ∷ values))
values_read value values h = words_read (value ∷ values) (map (λ one. Named one) (value ∷ values)) (omega arith) (values_each (value ∷ values) h)
