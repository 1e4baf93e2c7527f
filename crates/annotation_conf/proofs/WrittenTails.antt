-- What stands behind the name of each line, read back from its text.
use Rattle.std.proofs.Common.{◌≡◌, None, refl, sym, ap, ap₂, ◌∙◌, ℕ, Bool, true, false, ◌||◌, List, [], ◌∷◌, ◌++◌, length, append_assoc, ◌==◌, arith, ◌<◌, subst, slice_index, nat_lt, if◌then◌else◌, map, codes}
use Rattle.std.proofs.lemmas.Bool.{or_parts, cond-false, ne_eqb}
use lib.Utf8.{encode}
use Rattle.std.specs.Str.{chars, NonePass, skip_leading_whitespace}
use Rattle.std.specs.Char.{is_whitespace}
use Rattle.std.specs.List.{slice_split, onto_first, join_with_byte, AllByRecursion, AllZip}
use Rattle.mark_base.specs.Names.{name_fault}
use Rattle.conf_model.specs.ConfPairs.{Named, Piece, Keyed, Pair, piece_of, pieces_of}
use Rattle.conf_model.specs.ConfText.{where_so, with_commas, role_text, pair_text}
use Rattle.conf_model.specs.Configurations.{Configuration}
use Rattle.conf_model.specs.declared.role.Role.{Role}
use Rattle.conf_model.specs.declared.relation_type.RelationType.{RelationType}
use Rattle.conf_model.specs.declared.relation_type.Arguments.{Arguments}
use Rattle.conf_model.specs.declared.overlap_line.Overlap.{Overlap}
use Rattle.conf_model.specs.declared.attribute_type.AttributeType.{AttributeType}
use Rattle.annotation_conf.proofs.Written.{IsWord, IsSpelledRole, IsSpelledRelation, IsSpelledArguments, IsSpelledOverlap, IsSpelledAttribute, IsSpelled, written_role, relation_pieces, overlap_kinds, overlap_pieces, attribute_pieces}
use Rattle.annotation_conf.proofs.WrittenLists.{none-append, none_less, split_at, split_none}
use Rattle.annotation_conf.proofs.WrittenNames.{Spells, spells-append, spells_valid, spells_name, spells_plain, is_wide}
use Rattle.annotation_conf.proofs.WrittenChoices.{is_stop, none_by, none_joined, values_read}
use Rattle.annotation_conf.proofs.WrittenPieces.{IsPieceOf, piece_from, longer, plain_read, role_read, unmarked_read}

-- no white space stands before
pub skip_none : (cs : List ℕ) → is_whitespace (slice_index cs 0) ≡ false → skip_leading_whitespace cs ≡ cs
skip_none [] h = refl
skip_none (c ∷ cs) h = cond-false (is_whitespace c) (skip_leading_whitespace cs) (c ∷ cs) h

-- pairs by their characters, cut at their commas
split_commas : (cs : List ℕ) (css : List (List ℕ)) → AllByRecursion (NonePass (λ c. c == 44)) (cs ∷ css) → slice_split (λ c. c == 44) (with_commas (cs ∷ css)) ≡ cs ∷ map (λ ds. 32 ∷ ds) css
split_commas cs [] h = split_none (λ c. c == 44) cs h.0
split_commas cs (next ∷ css) h =
    ap (slice_split (λ c. c == 44)) (append_assoc cs (codes ", ") (with_commas (next ∷ css)))
    ∙ (split_at (λ c. c == 44) cs 44 (32 ∷ with_commas (next ∷ css)) h.0 refl
    ∙ ap (λ parts. cs ∷ onto_first 32 parts) (split_commas next css h.1))

stop_comma : (c : ℕ) → is_stop c ≡ false → (c == 44) ≡ false
stop_comma c h = (or_parts (c == 10 || c == 13) (c == 44) h).1

no_commas : (texts : List (List ℕ)) (pieces : List Piece) → AllZip IsPieceOf texts pieces → AllByRecursion (NonePass (λ c. c == 44)) (map chars texts)
no_commas [] pieces h = tt
no_commas (text ∷ texts) [] h = absurd h
no_commas (text ∷ texts) (piece ∷ pieces) h = (none_less is_stop (λ c. c == 44) stop_comma (chars text) h.0.plain, no_commas texts pieces h.1)

spaced_read : (texts : List (List ℕ)) (pieces : List Piece) → AllZip IsPieceOf texts pieces
    → map (λ piece. piece_of (skip_leading_whitespace piece)) (map (λ ds. 32 ∷ ds) (map chars texts)) ≡ pieces
spaced_read [] [] h = refl
spaced_read [] (piece ∷ pieces) h = absurd h
spaced_read (text ∷ texts) [] h = absurd h
spaced_read (text ∷ texts) (piece ∷ pieces) h = ap₂ (λ a b. a ∷ b) (ap piece_of (skip_none (chars text) h.0.opens) ∙ h.0.read) (spaced_read texts pieces h.1)

-- what stands behind a name: nothing, or a TAB and pairs
abbrev pub tail : List (List ℕ) → List ℕ
tail pairs = if length pairs == 0 then [] else codes "\t" ++ with_commas pairs

-- pairs with commas begin as the first does
commas_open : (cs : List ℕ) (css : List (List ℕ)) → 0 < length cs → (slice_index (with_commas (cs ∷ css)) 0 ≡ slice_index cs 0) × (0 < length (with_commas (cs ∷ css)))
commas_open [] css some = let none : ⊥ = omega arith in absurd none
commas_open (c ∷ cs) [] some = (refl, some)
commas_open (c ∷ cs) (next ∷ css) some = (refl, omega arith)

filled : (n : ℕ) → 0 < n → (n == 0) ≡ false
filled n l = ne_eqb n 0 (λ e. omega arith)

-- a tail by its characters is read as its pieces
pieces_read : (text : List ℕ) (texts : List (List ℕ)) (piece : Piece) (pieces : List Piece) → AllZip IsPieceOf (text ∷ texts) (piece ∷ pieces)
    → pieces_of (9 ∷ with_commas (map chars (text ∷ texts))) ≡ piece ∷ pieces
pieces_read text texts piece pieces h =
    let cs = chars text in
    let css = map chars texts in
    let all = with_commas (cs ∷ css) in
    let open_ = commas_open cs css h.0.some in
    let skipped : skip_leading_whitespace all ≡ all = skip_none all (ap is_whitespace open_.0 ∙ h.0.opens) in
    let parts = onto_first 9 (slice_split (λ c. c == 44) all) in
    cond-false (length (skip_leading_whitespace all) == 0) [] (map (λ part. piece_of (skip_leading_whitespace part)) parts)
    (ap (λ ds. length ds == 0) skipped ∙ filled (length all) open_.1)
    ∙ (ap (λ found. map (λ part. piece_of (skip_leading_whitespace part)) (onto_first 9 found)) (split_commas cs css (no_commas (text ∷ texts) (piece ∷ pieces) h))
    ∙ ap₂ (λ a b. a ∷ b) (ap piece_of (skip_none cs h.0.opens) ∙ h.0.read) (spaced_read texts pieces h.1))

-- what ends a line
abbrev pub is_end : ℕ → Bool
is_end c = c == 10 || c == 13

stop_end : (c : ℕ) → is_stop c ≡ false → is_end c ≡ false
stop_end c h = (or_parts (c == 10 || c == 13) (c == 44) h).0

-- empty, or a TAB and more
abbrev pub OpensByTab : List ℕ → Type 0
OpensByTab [] = Unit {0}
OpensByTab (c ∷ cs) = c ≡ 9

-- a text that is read as the pieces behind a name
pub record IsTailOf (text : List ℕ) (pieces : List Piece) : Type 0 where
  pub cs : List ℕ
  pub spelt : Spells text cs
  pub opens : OpensByTab cs
  pub plain : NonePass is_end cs
  pub read : pieces_of cs ≡ pieces

spells_commas : (texts : List (List ℕ)) (pieces : List Piece) → AllZip IsPieceOf texts pieces → Spells (with_commas texts) (with_commas (map chars texts))
spells_commas [] pieces h = record { scalar = refl; spelt = refl }
spells_commas (text ∷ texts) [] h = absurd h
spells_commas (text ∷ []) (piece ∷ pieces) h = spells_name text h.0.valid
spells_commas (text ∷ next ∷ texts) (piece ∷ pieces) h =
    spells-append (text ++ codes ", ") (with_commas (next ∷ texts)) (chars text ++ codes ", ") (with_commas (map chars (next ∷ texts)))
    (spells-append text (codes ", ") (chars text) (codes ", ") (spells_name text h.0.valid) (spells_plain (codes ", ") (none_by is_wide (codes ", ") refl)))
    (spells_commas (next ∷ texts) pieces h.1)

unbroken_commas : (texts : List (List ℕ)) (pieces : List Piece) → AllZip IsPieceOf texts pieces → NonePass is_end (with_commas (map chars texts))
unbroken_commas [] pieces h = tt
unbroken_commas (text ∷ texts) [] h = absurd h
unbroken_commas (text ∷ []) (piece ∷ pieces) h = none_less is_stop is_end stop_end (chars text) h.0.plain
unbroken_commas (text ∷ next ∷ texts) (piece ∷ pieces) h =
    none-append is_end (chars text ++ codes ", ") (with_commas (map chars (next ∷ texts)))
    (none-append is_end (chars text) (codes ", ") (none_less is_stop is_end stop_end (chars text) h.0.plain) (none_by is_end (codes ", ") refl))
    (unbroken_commas (next ∷ texts) pieces h.1)

pub tail_read : (texts : List (List ℕ)) (pieces : List Piece) → AllZip IsPieceOf texts pieces → IsTailOf (tail texts) pieces
tail_read [] [] h = record { cs = []; spelt = record { scalar = refl; spelt = refl }; opens = tt; plain = tt; read = refl }
tail_read [] (piece ∷ pieces) h = absurd h
tail_read (text ∷ texts) [] h = absurd h
tail_read (text ∷ texts) (piece ∷ pieces) h = record {
  cs = 9 ∷ with_commas (map chars (text ∷ texts));
  spelt =
      subst (λ so. Spells (if so then [] else codes "\t" ++ with_commas (text ∷ texts)) (9 ∷ with_commas (map chars (text ∷ texts)))) (sym (filled (length (text ∷ texts)) (omega arith)))
      (spells-append (codes "\t") (with_commas (text ∷ texts)) (9 ∷ []) (with_commas (map chars (text ∷ texts))) (spells_plain (9 ∷ []) (refl, tt))
      (spells_commas (text ∷ texts) (piece ∷ pieces) h));
  opens = refl;
  plain = (refl, unbroken_commas (text ∷ texts) (piece ∷ pieces) h);
  read = pieces_read text texts piece pieces h;
}

-- The tail of each line.

roles_each : (conf : Configuration) → IsSpelled conf → (roles : List Role) → AllByRecursion (IsSpelledRole conf) roles → AllZip IsPieceOf (map (role_text conf) roles) (map (written_role conf) roles)
roles_each conf spelled [] h = tt
roles_each conf spelled (role ∷ roles) h = (role_read conf spelled role h.0, roles_each conf spelled roles h.1)

pub roles_read : (conf : Configuration) → IsSpelled conf → (roles : List Role) → AllByRecursion (IsSpelledRole conf) roles → IsTailOf (tail (map (role_text conf) roles)) (map (written_role conf) roles)
roles_read conf spelled roles h = tail_read (map (role_text conf) roles) (map (written_role conf) roles) (roles_each conf spelled roles h)

-- a written-out name
word_by : (word : List ℕ) → NonePass is_wide word → name_fault word ≡ None → IsWord word
word_by word h e = record { valid = spells_valid word word (spells_plain word h); faultless = e }

arg1 : IsWord (codes "Arg1")
unfolding name_fault chars
arg1 = word_by (codes "Arg1") (none_by is_wide (codes "Arg1") refl) refl

arg2 : IsWord (codes "Arg2")
unfolding name_fault chars
arg2 = word_by (codes "Arg2") (none_by is_wide (codes "Arg2") refl) refl

arg : IsWord (codes "Arg")
unfolding name_fault chars
arg = word_by (codes "Arg") (none_by is_wide (codes "Arg") refl) refl

value_word : IsWord (codes "Value")
unfolding name_fault chars
value_word = word_by (codes "Value") (none_by is_wide (codes "Value") refl) refl

-- a written-out piece
piece_by : (text : List ℕ) (piece : Piece) → NonePass is_wide text → 0 < length text → is_whitespace (slice_index text 0) ≡ false → NonePass is_stop text → piece_of text ≡ piece → IsPieceOf text piece
piece_by text piece narrow some opens plain read = piece_from text text piece (spells_plain text narrow) some opens plain read

equivalence_read : IsPieceOf (codes "<REL-TYPE>:symmetric-transitive") (Keyed (codes "REL-TYPE") (codes "symmetric-transitive"))
unfolding encode
equivalence_read =
    piece_by (codes "<REL-TYPE>:symmetric-transitive") (Keyed (codes "REL-TYPE") (codes "symmetric-transitive"))
    (none_by is_wide (codes "<REL-TYPE>:symmetric-transitive") refl) (omega arith) refl (none_by is_stop (codes "<REL-TYPE>:symmetric-transitive") refl) refl

equivalence_each : (so : Bool) → AllZip IsPieceOf (where_so so (codes "<REL-TYPE>:symmetric-transitive")) (if so then Keyed (codes "REL-TYPE") (codes "symmetric-transitive") ∷ [] else [])
equivalence_each true = (equivalence_read, tt)
equivalence_each false = tt

pub relation_tail : (conf : Configuration) → IsSpelled conf → (relation : RelationType) → IsSpelledRelation conf relation → (line : Arguments) → IsSpelledArguments conf line
    → IsTailOf
    (tail (pair_text conf relation.first line.first ∷ pair_text conf relation.second line.second ∷ where_so relation.equivalence (codes "<REL-TYPE>:symmetric-transitive")))
    (relation_pieces conf (relation, line))
relation_tail conf spelled relation h line k =
    tail_read (pair_text conf relation.first line.first ∷ pair_text conf relation.second line.second ∷ where_so relation.equivalence (codes "<REL-TYPE>:symmetric-transitive"))
    (relation_pieces conf (relation, line))
    (unmarked_read conf spelled relation.first h.first line.first k.first, (unmarked_read conf spelled relation.second h.second line.second k.second, equivalence_each relation.equivalence))

-- the kinds of an overlap line
each-append : (p : ℕ → Bool) (xs ys : List (List ℕ)) → AllByRecursion (NonePass p) xs → AllByRecursion (NonePass p) ys → AllByRecursion (NonePass p) (xs ++ ys)
each-append p [] ys hx hy = hy
each-append p (x ∷ xs) ys hx hy = (hx.0, each-append p xs ys hx.1 hy)

where_none : (p : ℕ → Bool) (so : Bool) (word : List ℕ) → NonePass p word → AllByRecursion (NonePass p) (where_so so word)
where_none p true word h = (h, tt)
where_none p false word h = tt

kinds_none : (p : ℕ → Bool) (line : Overlap) → NonePass p (codes "contain") → NonePass p (codes "equal") → NonePass p (codes "cross") → NonePass p (codes "<ANY>") → p 124 ≡ false
    → NonePass p (join_with_byte 124 (overlap_kinds line))
kinds_none p line contain equal cross any bar =
    none_joined p 124 bar (overlap_kinds line)
    (each-append p _ _ (each-append p _ _ (each-append p _ _ (where_none p line.contain (codes "contain") contain) (where_none p line.equal (codes "equal") equal))
    (where_none p line.cross (codes "cross") cross)) (where_none p line.any (codes "<ANY>") any))

keyed_kinds : (value : List ℕ) → piece_of (codes "<OVL-TYPE>:" ++ value) ≡ Keyed (codes "OVL-TYPE") value
unfolding encode
keyed_kinds value = refl

kinds_read : (line : Overlap) → IsPieceOf (codes "<OVL-TYPE>:" ++ join_with_byte 124 (overlap_kinds line)) (Keyed (codes "OVL-TYPE") (join_with_byte 124 (overlap_kinds line)))
kinds_read line =
    let value = join_with_byte 124 (overlap_kinds line) in
    let narrow : NonePass is_wide value =
    kinds_none is_wide line (none_by is_wide (codes "contain") refl) (none_by is_wide (codes "equal") refl) (none_by is_wide (codes "cross") refl) (none_by is_wide (codes "<ANY>") refl) refl in
    let plain : NonePass is_stop value =
    kinds_none is_stop line (none_by is_stop (codes "contain") refl) (none_by is_stop (codes "equal") refl) (none_by is_stop (codes "cross") refl) (none_by is_stop (codes "<ANY>") refl) refl in
    piece_by (codes "<OVL-TYPE>:" ++ value) (Keyed (codes "OVL-TYPE") value)
    (none-append is_wide (codes "<OVL-TYPE>:") value (none_by is_wide (codes "<OVL-TYPE>:") refl) narrow) (longer (codes "<OVL-TYPE>:") value (omega arith)) refl
    (none-append is_stop (codes "<OVL-TYPE>:") value (none_by is_stop (codes "<OVL-TYPE>:") refl) plain) (keyed_kinds value)

pub overlap_tail : (conf : Configuration) → IsSpelled conf → (line : Overlap) → IsSpelledOverlap conf line
    → IsTailOf (tail (pair_text conf (codes "Arg1") line.first ∷ pair_text conf (codes "Arg2") line.second ∷ (codes "<OVL-TYPE>:" ++ join_with_byte 124 (overlap_kinds line)) ∷ []))
    (overlap_pieces conf line)
overlap_tail conf spelled line h =
    tail_read (pair_text conf (codes "Arg1") line.first ∷ pair_text conf (codes "Arg2") line.second ∷ (codes "<OVL-TYPE>:" ++ join_with_byte 124 (overlap_kinds line)) ∷ [])
    (overlap_pieces conf line)
    (unmarked_read conf spelled (codes "Arg1") arg1 line.first h.first, (unmarked_read conf spelled (codes "Arg2") arg2 line.second h.second, (kinds_read line, tt)))

values_where : (values : List (List ℕ)) (so : Bool) → IsPieceOf (codes "Value:" ++ join_with_byte 124 values) (Pair (codes "Value") [] (map (λ value. Named value) values))
    → AllZip IsPieceOf (where_so so (codes "Value:" ++ join_with_byte 124 values)) (if so then Pair (codes "Value") [] (map (λ value. Named value) values) ∷ [] else [])
values_where values true h = (h, tt)
values_where values false h = tt

values_each : (values : List (List ℕ)) → AllByRecursion IsWord values
    → AllZip IsPieceOf (where_so (nat_lt 0 (length values)) (codes "Value:" ++ join_with_byte 124 values))
    (if nat_lt 0 (length values) then Pair (codes "Value") [] (map (λ value. Named value) values) ∷ [] else [])
values_each [] h = tt
values_each (value ∷ values) h =
    values_where (value ∷ values) (nat_lt 0 (length (value ∷ values)))
    (plain_read (codes "Value") (join_with_byte 124 (value ∷ values)) (map (λ one. Named one) (value ∷ values)) value_word (values_read value values h))

pub attribute_tail : (conf : Configuration) → IsSpelled conf → (attribute : AttributeType) → IsSpelledAttribute conf attribute
    → IsTailOf (tail (pair_text conf (codes "Arg") attribute.targets ∷ where_so (nat_lt 0 (length attribute.values)) (codes "Value:" ++ join_with_byte 124 attribute.values)))
    (attribute_pieces conf attribute)
attribute_tail conf spelled attribute h =
    tail_read (pair_text conf (codes "Arg") attribute.targets ∷ where_so (nat_lt 0 (length attribute.values)) (codes "Value:" ++ join_with_byte 124 attribute.values))
    (attribute_pieces conf attribute)
    (unmarked_read conf spelled (codes "Arg") arg attribute.targets h.targets, values_each attribute.values h.values)
