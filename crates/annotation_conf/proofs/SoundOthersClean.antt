-- The written lines of relation types, overlaps and attributes have no fault.
use Rattle.std.proofs.Common.{◌≡◌, ℕ, ◌+◌, ◌≤◌, ◌||◌, ◌&&◌, Bool, true, false, not, cond, List, [], ◌∷◌, ◌++◌, map, length, filter, filter_map, find, Option, Some, None, is_none, nat_lt, bytes_eq, codes, refl, sym, subst, ◌∙◌, ap, ap₂, arith, append_assoc, inl, inr}
use Rattle.std.specs.Option.{option_map_or}
use Rattle.std.specs.List.{AllByRecursion as Each, list_any, join_with_byte}
use Rattle.std.proofs.lemmas.Bool.{or_from, or_left, or_right, or_cases, and_from, le-ltb, true≢false, not_from_true, false_from_ne_true, cond-false}
use Rattle.std.proofs.lemmas.List.{length-map, map-append}
use Rattle.std.proofs.lemmas.List.Elements.{recursion_from_All}
use Rattle.std.proofs.lemmas.List.Folds.{list_any-append}
use Rattle.conf_model.specs.declared.conf_fault.ConfWhat.{ConfWhat}
use Rattle.conf_model.specs.declared.conf_fault.ConfWhat.TheVariants.{BadName, NameTwice, BadCount, BadArgument, UnknownTypeNamed, UnknownMacro, TooManyTypes}
use Rattle.conf_model.specs.ConfPairs.{Piece, Pair, Keyed, Alternative, Named, count_of}
use Rattle.conf_model.specs.ConfNames.{NamedLine, is_overlap}
use Rattle.conf_model.specs.ConfFaults.{RolePair, Declared, pairs_of, is_no_name, is_no_declared, names_badly, word_of, is_held, stood_before, bound_names, of_named, names_of, stands_twice, is_among, declared_names, kinds_lead, is_unknown, is_unheld, are_past, is_shapeless, is_binary, agrees, same_words, same_truth, first_line, firsts, is_equivalence_line, are_arguments, are_kinds, has_kinds, keyed_value, values_badly, is_values, is_attribute, relation_fault, overlap_fault, attribute_fault}
use Rattle.conf_model.specs.ConfText.{type_name_at, relation_name_at}
use Rattle.conf_model.specs.Configurations.{Configuration}
use Rattle.conf_model.specs.declared.relation_type.Arguments.{Arguments}
use Rattle.conf_model.specs.declared.relation_type.RelationType.{RelationType}
use Rattle.conf_model.specs.declared.attribute_type.AttributeType.{AttributeType}
use Rattle.conf_model.specs.declared.overlap_line.Overlap.{Overlap}
use Rattle.conf_model.specs.Sound.{IsName, IsDeclaredName, AreArguments, IsRelation, IsAttribute, IsOverlap, IsSound}
use Rattle.annotation_conf.proofs.SoundLists.{Each-append, Each-map, each_weaker, each_both, each_always, each_of_map, none_passes}
use Rattle.annotation_conf.proofs.SoundAgain.{kinds_of, attribute_pairs_of, values_piece}
use Rattle.annotation_conf.proofs.SoundFirsts.{names_of_named}
use Rattle.annotation_conf.proofs.SoundNames.{same_bytes, bytes_same}
use Rattle.annotation_conf.proofs.SoundNumbered.{Each-numbered, map-numbered, length-numbered}
use Rattle.annotation_conf.proofs.SoundRelationsAgain.{are_apart, each_row, relation_names_again}
use Rattle.annotation_conf.proofs.SoundSpoken.{Knows, AreSpoken, are_spoken, argument_names, overlap_is_no_name, relation_among}
use Rattle.annotation_conf.proofs.SoundTypesClean.{known_types}
use Rattle.annotation_conf.proofs.SoundUntold.{none_told, stood_nowhere, never_past}
use Rattle.annotation_conf.proofs.Written.{written_file, written_relation, written_overlap, written_attribute, written_alternatives, relation_pieces, overlap_pieces, relation_rows, relations_head, attributes_head}

-- relation types of one name are one
same_named : (all front back : List RelationType) → all ≡ front ++ back → stands_twice (map (λ (r : RelationType). r.name) all) ≡ false
    → Each (λ (r : RelationType). Each (λ (other : RelationType). bytes_eq other.name r.name ≡ true → other ≡ r) all) back
same_named all front [] is e = tt
same_named all front (r ∷ back) is e =
    let apart = are_apart (λ (q : RelationType). q.name) front r back (ap (λ rs. stands_twice (map (λ (q : RelationType). q.name) rs)) (sym is) ∙ e) in (
      subst (Each (λ (other : RelationType). bytes_eq other.name r.name ≡ true → other ≡ r)) (sym is)
          (Each-append (λ (other : RelationType). bytes_eq other.name r.name ≡ true → other ≡ r) front (r ∷ back)
          (each_weaker (λ (other : RelationType). bytes_eq other.name r.name ≡ false) (λ (other : RelationType). bytes_eq other.name r.name ≡ true → other ≡ r) (λ other f t. absurd (true≢false (sym t ∙ f))) front apart.before)
          ((λ t. refl), each_weaker (λ (other : RelationType). bytes_eq other.name r.name ≡ false) (λ (other : RelationType). bytes_eq other.name r.name ≡ true → other ≡ r) (λ other f t. absurd (true≢false (sym t ∙ f))) back apart.behind)),
      same_named all (front ++ r ∷ []) back (is ∙ sym (append_assoc front (r ∷ []) back)) e,
    )

-- a pair without a mark
abbrev pub plain_pair : Configuration → List ℕ → List Alternative → RolePair
plain_pair conf role alternatives = record { role = role; mark = []; alternatives = alternatives }

two_pairs : (conf : Configuration) (row : RelationType × Arguments)
    → pairs_of (relation_pieces conf row) ≡ plain_pair conf row.0.first (written_alternatives conf row.1.first) ∷ plain_pair conf row.0.second (written_alternatives conf row.1.second) ∷ []
two_pairs conf row =
    ap (λ (pairs : List RolePair). plain_pair conf row.0.first (written_alternatives conf row.1.first) ∷ plain_pair conf row.0.second (written_alternatives conf row.1.second) ∷ pairs)
    (elim row.0.equivalence as (λ b. pairs_of (cond b (Keyed (codes "REL-TYPE") (codes "symmetric-transitive") ∷ []) []) ≡ []) [ true ↦ refl | false ↦ refl ])

row_shaped : (conf : Configuration) (row : RelationType × Arguments) → list_any is_shapeless (relation_pieces conf row) ≡ false
row_shaped conf row = elim row.0.equivalence as (λ b. list_any is_shapeless (cond b (Keyed (codes "REL-TYPE") (codes "symmetric-transitive") ∷ []) []) ≡ false) [ true ↦ refl | false ↦ refl ]

row_equivalence : (conf : Configuration) (row : RelationType × Arguments) → is_equivalence_line (relation_pieces conf row) ≡ row.0.equivalence
row_equivalence conf row =
    elim row.0.equivalence as (λ b. list_any (λ (piece : Piece). option_map_or (λ value. bytes_eq value (codes "symmetric-transitive")) (keyed_value (codes "REL-TYPE") piece) false) (cond b (Keyed (codes "REL-TYPE") (codes "symmetric-transitive") ∷ []) []) ≡ b) [
      | true ↦ refl
      | false ↦ refl
    ]

truth_same : (b : Bool) → same_truth b b ≡ true
truth_same true = refl
truth_same false = refl

-- lines of one relation type agree
rows_agree : (conf : Configuration) (k m : ℕ) (r q : RelationType) (line other : Arguments) → q ≡ r → agrees (written_relation conf k (r, line)) (written_relation conf m (q, other)) ≡ true
rows_agree conf k m r q line other same =
    ap (λ (own : RelationType). agrees (written_relation conf k (r, line)) (written_relation conf m (own, other))) same
    ∙ and_from (same_words (map (λ (pair : RolePair). pair.role) (pairs_of (relation_pieces conf (r, other)))) (map (λ (pair : RolePair). pair.role) (pairs_of (relation_pieces conf (r, line)))))
    (same_truth (is_equivalence_line (relation_pieces conf (r, other))) (is_equivalence_line (relation_pieces conf (r, line))))
    (ap₂ same_words (ap (map (λ (pair : RolePair). pair.role)) (two_pairs conf (r, other))) (ap (map (λ (pair : RolePair). pair.role)) (two_pairs conf (r, line)))
    ∙ and_from (bytes_eq r.first r.first) (bytes_eq r.second r.second && true) (bytes_same r.first r.first refl) (and_from (bytes_eq r.second r.second) true (bytes_same r.second r.second refl) refl))
    (ap₂ same_truth (row_equivalence conf (r, other)) (row_equivalence conf (r, line)) ∙ truth_same r.equivalence)

-- what is found keeps what all that pass keep
found_keeps : {X : Type 0} (p q : X → Bool) (xs : List X) → Each (λ x. p x ≡ true → q x ≡ true) xs → option_map_or q (find p xs) true ≡ true
found_keeps p q [] a = refl
found_keeps {X} p q (x ∷ xs) a = go (p x) refl (found_keeps p q xs a.1)
  where
    go : (b : Bool) → p x ≡ b → option_map_or q (find p xs) true ≡ true → option_map_or q (cond b (Some x) (find p xs)) true ≡ true
    go true e more = a.0 e
    go false e more = more

-- what each row of a relation type keeps
record IsRow (conf : Configuration) (r : RelationType) (line : Arguments) : Type 0 where
  relation : IsRelation conf r
  arguments : AreArguments conf line
  same : Each (λ (other : RelationType). bytes_eq other.name r.name ≡ true → other ≡ r) conf.relations

are_rows : (conf : Configuration) → IsSound conf → Each (λ (row : RelationType × Arguments). IsRow conf row.0 row.1) (relation_rows conf)
are_rows conf s =
    each_row (IsRow conf) conf.relations
    (each_both (IsRelation conf) (λ (r : RelationType). Each (λ (other : RelationType). bytes_eq other.name r.name ≡ true → other ≡ r) conf.relations) (λ (r : RelationType). Each (IsRow conf r) r.lines)
    (λ r a b. each_weaker (AreArguments conf) (IsRow conf r) (λ line c. record { relation = a; arguments = c; same = b }) r.lines (recursion_from_All (AreArguments conf) r.lines a.lines)) conf.relations
    (recursion_from_All (IsRelation conf) conf.relations s.relations) (same_named conf.relations [] conf.relations refl s.relations_differ))

relations_bound : (conf : Configuration) → IsSound conf → length (of_named (firsts (written_file conf).relations)) ≤ 256
relations_bound conf s =
    let few = s.relations_few in
    let names : length (names_of (of_named (firsts (written_file conf).relations))) ≡ length (of_named (firsts (written_file conf).relations)) = length-map (of_named (firsts (written_file conf).relations)) (λ (one : Declared). one.name) in
    let same : length (names_of (of_named (firsts (written_file conf).relations))) ≡ length conf.relations = ap length (relation_names_again conf s) ∙ length-map conf.relations (λ (r : RelationType). r.name) in
    omega arith

relation_clean : (conf : Configuration) → IsSound conf → (k : ℕ) (row : RelationType × Arguments) → IsRow conf row.0 row.1 → relation_fault (written_file conf) (written_relation conf k row) ≡ None
relation_clean conf s k row a =
    let pieces = relation_pieces conf row in
    let pairs = plain_pair conf row.0.first (written_alternatives conf row.1.first) ∷ plain_pair conf row.0.second (written_alternatives conf row.1.second) ∷ [] in
    let known = names_of (bound_names (written_file conf)) in
    let two = two_pairs conf row in
    let first = are_spoken conf s false (declared_names (written_file conf)) (names_of (bound_names (written_file conf))) (known_types conf s) row.1.first a.arguments.first in
    let second = are_spoken conf s false (declared_names (written_file conf)) (names_of (bound_names (written_file conf))) (known_types conf s) row.1.second a.arguments.second in
    none_told (
    (is_no_declared row.0.name || list_any names_badly (pairs_of (relation_pieces conf row)), BadName)
    ∷ (list_any (λ (pair : RolePair). is_none (count_of pair.mark)) (pairs_of (relation_pieces conf row)), BadCount)
    ∷ (list_any is_shapeless (relation_pieces conf row) || not (is_binary (pairs_of (relation_pieces conf row))) || not (option_map_or (agrees (written_relation conf k row)) (first_line (written_file conf).relations row.0.name) true), BadArgument)
    ∷ (list_any (λ (pair : RolePair). list_any (is_unknown [] (declared_names (written_file conf)) (names_of (bound_names (written_file conf)))) pair.alternatives) (pairs_of (relation_pieces conf row)), UnknownTypeNamed)
    ∷ (list_any (λ (pair : RolePair). list_any (is_unheld [] false) pair.alternatives) (pairs_of (relation_pieces conf row)), UnknownMacro)
    ∷ (are_past 256 k (of_named (firsts (written_file conf).relations)), TooManyTypes)
    ∷ []) (
      or_from (is_no_declared row.0.name) (list_any names_badly (pairs_of (relation_pieces conf row))) a.relation.name.faultless
          (ap (list_any names_badly) (two_pairs conf row)
          ∙ both (is_no_name row.0.first || list_any (λ one. is_no_name (word_of one)) (written_alternatives conf row.1.first)) (is_no_name row.0.second || list_any (λ one. is_no_name (word_of one)) (written_alternatives conf row.1.second))
          (or_from (is_no_name row.0.first) (list_any (λ one. is_no_name (word_of one)) (written_alternatives conf row.1.first)) a.relation.first.faultless first.names)
          (or_from (is_no_name row.0.second) (list_any (λ one. is_no_name (word_of one)) (written_alternatives conf row.1.second)) a.relation.second.faultless second.names)),
      (
        ap (list_any (λ (pair : RolePair). is_none (count_of pair.mark))) (two_pairs conf row),
        (
          or_from (list_any is_shapeless (relation_pieces conf row) || not (is_binary (pairs_of (relation_pieces conf row)))) (not (option_map_or (agrees (written_relation conf k row)) (first_line (written_file conf).relations row.0.name) true))
              (or_from (list_any is_shapeless (relation_pieces conf row)) (not (is_binary (pairs_of (relation_pieces conf row)))) (row_shaped conf row)
              (ap (λ pairs. not (is_binary pairs)) (two_pairs conf row) ∙ ap (λ b. not (not b)) a.relation.differ))
              (not_from_true (option_map_or (agrees (written_relation conf k row)) (first_line (written_file conf).relations row.0.name) true) agreed),
          (
            ap (list_any (λ (pair : RolePair). list_any (is_unknown [] (declared_names (written_file conf)) (names_of (bound_names (written_file conf)))) pair.alternatives)) (two_pairs conf row)
                ∙ both (list_any (is_unknown [] (declared_names (written_file conf)) (names_of (bound_names (written_file conf)))) (written_alternatives conf row.1.first)) (list_any (is_unknown [] (declared_names (written_file conf)) (names_of (bound_names (written_file conf)))) (written_alternatives conf row.1.second)) first.known_all second.known_all,
            (
              ap (list_any (λ (pair : RolePair). list_any (is_unheld [] false) pair.alternatives)) (two_pairs conf row)
                  ∙ both (list_any (is_unheld [] false) (written_alternatives conf row.1.first)) (list_any (is_unheld [] false) (written_alternatives conf row.1.second)) first.held second.held,
              (
                never_past 256 k (of_named (firsts (written_file conf).relations)) (relations_bound conf s),
                tt,
              ),
            ),
          ),
        ),
      ),
    )
  where
    both : (x y : Bool) → x ≡ false → y ≡ false → (x || (y || false)) ≡ false
    both x y e f = or_from x (y || false) e (or_from y false f refl)

    agreed : option_map_or (agrees (written_relation conf k row)) (first_line (written_file conf).relations row.0.name) true ≡ true
    agreed =
        found_keeps (λ (line : NamedLine). bytes_eq line.name row.0.name) (agrees (written_relation conf k row)) (written_file conf).relations
        (Each-numbered (written_relation conf) (λ (line : NamedLine). bytes_eq line.name row.0.name ≡ true → agrees (written_relation conf k row) line ≡ true) (relations_head conf + 1) (relation_rows conf)
        (each_weaker (λ (other : RelationType × Arguments). bytes_eq other.0.name row.0.name ≡ true → other.0 ≡ row.0)
        (λ (other : RelationType × Arguments). (m : ℕ) → bytes_eq other.0.name row.0.name ≡ true → agrees (written_relation conf k row) (written_relation conf m other) ≡ true)
        (λ other h m t. rows_agree conf k m row.0 other.0 row.1 other.1 (h t)) (relation_rows conf)
        (each_row (λ r line. bytes_eq r.name row.0.name ≡ true → r ≡ row.0) conf.relations
        (each_weaker (λ (other : RelationType). bytes_eq other.name row.0.name ≡ true → other ≡ row.0) (λ (other : RelationType). Each (λ (line : Arguments). bytes_eq other.name row.0.name ≡ true → other ≡ row.0) other.lines)
        (λ other h. each_always (λ (line : Arguments). bytes_eq other.name row.0.name ≡ true → other ≡ row.0) (λ line. h) other.lines) conf.relations a.same))))

no_overlap : (name : List ℕ) → IsDeclaredName name → bytes_eq name (codes "<OVERLAP>") ≡ false
no_overlap name d =
    false_from_ne_true (bytes_eq name (codes "<OVERLAP>")) (λ t. true≢false (sym overlap_is_no_name ∙ sym (ap is_no_declared (same_bytes name (codes "<OVERLAP>") t)) ∙ d.faultless))

-- the fault of a line of `[relations]`
abbrev pub mixed_fault : Configuration → NamedLine → Option ConfWhat
mixed_fault conf line = cond (is_overlap line) (overlap_fault (written_file conf) line) (relation_fault (written_file conf) line)

pub relations_clean : (conf : Configuration) → IsSound conf → Each (λ (line : NamedLine). mixed_fault conf line ≡ None) (written_file conf).relations
relations_clean conf s =
    Each-numbered (written_relation conf) (λ (line : NamedLine). mixed_fault conf line ≡ None) (relations_head conf + 1) (relation_rows conf)
    (each_weaker (λ (row : RelationType × Arguments). IsRow conf row.0 row.1) (λ (row : RelationType × Arguments). (k : ℕ) → mixed_fault conf (written_relation conf k row) ≡ None)
    (λ row a k. cond-false (bytes_eq row.0.name (codes "<OVERLAP>")) (overlap_fault (written_file conf) (written_relation conf k row)) (relation_fault (written_file conf) (written_relation conf k row)) (no_overlap row.0.name a.relation.name)
    ∙ relation_clean conf s k row a) (relation_rows conf) (are_rows conf s))

-- overlap lines
kinds_clean : (contain equal cross any : Bool) → (contain || equal || cross || any) ≡ true → not (are_kinds (join_with_byte 124 (kinds_of contain equal cross any))) ≡ false
kinds_clean true true true true e = refl
kinds_clean true true true false e = refl
kinds_clean true true false true e = refl
kinds_clean true true false false e = refl
kinds_clean true false true true e = refl
kinds_clean true false true false e = refl
kinds_clean true false false true e = refl
kinds_clean true false false false e = refl
kinds_clean false true true true e = refl
kinds_clean false true true false e = refl
kinds_clean false true false true e = refl
kinds_clean false true false false e = refl
kinds_clean false false true true e = refl
kinds_clean false false true false e = refl
kinds_clean false false false true e = refl
kinds_clean false false false false e = absurd (true≢false (sym e))

overlap_clean : (conf : Configuration) → IsSound conf → (line : Overlap) → IsOverlap conf line → (k : ℕ) → overlap_fault (written_file conf) (written_overlap conf k line) ≡ None
overlap_clean conf s line a k =
    let known = names_of (bound_names (written_file conf)) in
    let first = are_spoken conf s false (declared_names (written_file conf)) (names_of (bound_names (written_file conf))) (known_types conf s) line.first a.first in
    let second = are_spoken conf s false (declared_names (written_file conf)) (names_of (bound_names (written_file conf))) (known_types conf s) line.second a.second in
    none_told (
    (list_any names_badly (pairs_of (overlap_pieces conf line)), BadName)
    ∷ (list_any (λ (pair : RolePair). is_none (count_of pair.mark)) (pairs_of (overlap_pieces conf line)), BadCount)
    ∷ (list_any is_shapeless (overlap_pieces conf line) || not (are_arguments (pairs_of (overlap_pieces conf line))) || not (has_kinds (filter_map (keyed_value (codes "OVL-TYPE")) (overlap_pieces conf line))) || kinds_lead (overlap_pieces conf line), BadArgument)
    ∷ (list_any (λ (pair : RolePair). list_any (is_unknown [] (declared_names (written_file conf)) (names_of (bound_names (written_file conf)))) pair.alternatives) (pairs_of (overlap_pieces conf line)), UnknownTypeNamed)
    ∷ (list_any (λ (pair : RolePair). list_any (is_unheld [] false) pair.alternatives) (pairs_of (overlap_pieces conf line)), UnknownMacro)
    ∷ []) (
      both (is_no_name (codes "Arg1") || list_any (λ one. is_no_name (word_of one)) (written_alternatives conf line.first)) (is_no_name (codes "Arg2") || list_any (λ one. is_no_name (word_of one)) (written_alternatives conf line.second))
          (or_from (is_no_name (codes "Arg1")) (list_any (λ one. is_no_name (word_of one)) (written_alternatives conf line.first)) argument_names.0 first.names)
          (or_from (is_no_name (codes "Arg2")) (list_any (λ one. is_no_name (word_of one)) (written_alternatives conf line.second)) argument_names.1 second.names),
      (
        refl,
        (
          or_from (list_any is_shapeless (overlap_pieces conf line) || not (are_arguments (pairs_of (overlap_pieces conf line))) || not (has_kinds (filter_map (keyed_value (codes "OVL-TYPE")) (overlap_pieces conf line))))
              (kinds_lead (overlap_pieces conf line)) (kinds_clean line.contain line.equal line.cross line.any a.some) refl,
          (
            both (list_any (is_unknown [] (declared_names (written_file conf)) (names_of (bound_names (written_file conf)))) (written_alternatives conf line.first)) (list_any (is_unknown [] (declared_names (written_file conf)) (names_of (bound_names (written_file conf)))) (written_alternatives conf line.second)) first.known_all second.known_all,
            (
              both (list_any (is_unheld [] false) (written_alternatives conf line.first)) (list_any (is_unheld [] false) (written_alternatives conf line.second)) first.held second.held,
              tt,
            ),
          ),
        ),
      ),
    )
  where
    both : (x y : Bool) → x ≡ false → y ≡ false → (x || (y || false)) ≡ false
    both x y e f = or_from x (y || false) e (or_from y false f refl)

pub overlaps_clean : (conf : Configuration) → IsSound conf → Each (λ (line : NamedLine). mixed_fault conf line ≡ None) (written_file conf).overlaps
overlaps_clean conf s =
    Each-numbered (written_overlap conf) (λ (line : NamedLine). mixed_fault conf line ≡ None) (relations_head conf + 1 + length (relation_rows conf)) conf.overlaps
    (each_weaker (IsOverlap conf) (λ line. (k : ℕ) → mixed_fault conf (written_overlap conf k line) ≡ None) (λ line a k. overlap_clean conf s line a k) conf.overlaps (recursion_from_All (IsOverlap conf) conf.overlaps s.overlaps))

-- attributes
among_filter : (p : NamedLine → Bool) (lines : List NamedLine) (name : List ℕ) → is_among (map (λ (line : NamedLine). line.name) (filter p lines)) name ≡ true → is_among (map (λ (line : NamedLine). line.name) lines) name ≡ true
among_filter p [] name e = e
among_filter p (line ∷ lines) name e = go (p line) e (among_filter p lines name)
  where
    go : (b : Bool) → is_among (map (λ (l : NamedLine). l.name) (cond b (line ∷ filter p lines) (filter p lines))) name ≡ true
        → (is_among (map (λ (l : NamedLine). l.name) (filter p lines)) name ≡ true → is_among (map (λ (l : NamedLine). l.name) lines) name ≡ true)
        → (bytes_eq name line.name || is_among (map (λ (l : NamedLine). l.name) lines) name) ≡ true
    go false f more = or_right (bytes_eq name line.name) (is_among (map (λ (l : NamedLine). l.name) lines) name) (more f)
    go true f more =
        elim (or_cases (bytes_eq name line.name) (is_among (map (λ (l : NamedLine). l.name) (filter p lines)) name) f) [
          | inl here ↦ or_left (bytes_eq name line.name) (is_among (map (λ (l : NamedLine). l.name) lines) name) here
          | inr later ↦ or_right (bytes_eq name line.name) (is_among (map (λ (l : NamedLine). l.name) lines) name) (more later)
        ]

abbrev all_known : Configuration → List (List ℕ)
all_known conf = names_of (bound_names (written_file conf) ++ of_named (written_file conf).relations)

known_both : (conf : Configuration) → IsSound conf → Knows conf true (all_known conf)
known_both conf s = record {
  types = λ place lt. parts (type_name_at conf place) ∙ or_left (is_among (names_of (bound_names (written_file conf))) (type_name_at conf place)) (is_among (names_of (of_named (written_file conf).relations)) (type_name_at conf place)) ((known_types conf s).types place lt);
  relations_too = λ e place lt. parts (relation_name_at conf place)
      ∙ or_right (is_among (names_of (bound_names (written_file conf))) (relation_name_at conf place)) (is_among (names_of (of_named (written_file conf).relations)) (relation_name_at conf place))
      (ap (λ names. is_among names (relation_name_at conf place)) (names_of_named (written_file conf).relations)
      ∙ among_filter _ (written_file conf).relations (relation_name_at conf place)
      (sym (ap (λ names. is_among names (relation_name_at conf place)) (names_of_named (firsts (written_file conf).relations))) ∙ ap (λ names. is_among names (relation_name_at conf place)) (relation_names_again conf s) ∙ relation_among conf place lt));
}
  where
    parts : (name : List ℕ) → is_among (all_known conf) name ≡ (is_among (names_of (bound_names (written_file conf))) name || is_among (names_of (of_named (written_file conf).relations)) name)
    parts name =
        ap (λ names. is_among names name) (map-append (λ (one : Declared). one.name) (bound_names (written_file conf)) (of_named (written_file conf).relations))
        ∙ list_any-append (bytes_eq name) (names_of (bound_names (written_file conf))) (names_of (of_named (written_file conf).relations))

attribute_names : (conf : Configuration) → map (λ (d : Declared). d.name) (of_named (written_file conf).attributes) ≡ map (λ (attribute : AttributeType). attribute.name) conf.attributes
attribute_names conf =
    names_of_named (written_file conf).attributes
    ∙ map-numbered (written_attribute conf) (λ (line : NamedLine). line.name) (λ (attribute : AttributeType). attribute.name) (attributes_head conf + 1) conf.attributes
    (each_always (λ (attribute : AttributeType). (k : ℕ) → attribute.name ≡ attribute.name) (λ attribute k. refl) conf.attributes)

attributes_bound : (conf : Configuration) → IsSound conf → length (of_named (written_file conf).attributes) ≤ 256
attributes_bound conf s =
    let few = s.attributes_few in
    let same : length (of_named (written_file conf).attributes) ≡ length (written_file conf).attributes = length-map (written_file conf).attributes (λ (line : NamedLine). record { number = line.number; name = line.name }) in
    let size : length (written_file conf).attributes ≡ length conf.attributes = length-numbered (written_attribute conf) (attributes_head conf + 1) conf.attributes in
    omega arith

attribute_once : (conf : Configuration) → IsSound conf → Each (λ (line : NamedLine). stood_before line.number line.name (of_named (written_file conf).attributes) ≡ false) (written_file conf).attributes
attribute_once conf s =
    each_of_map (λ (d : Declared). stood_before d.number d.name (of_named (written_file conf).attributes) ≡ false) (λ (line : NamedLine). record { number = line.number; name = line.name }) (written_file conf).attributes
    (stood_nowhere (of_named (written_file conf).attributes) [] (of_named (written_file conf).attributes) refl (ap stands_twice (attribute_names conf) ∙ s.attributes_differ))

words_are : (values : List (List ℕ)) → map word_of (map (λ value. Named value) values) ≡ values
words_are [] = refl
words_are (value ∷ values) = ap (λ (rest : List (List ℕ)). value ∷ rest) (words_are values)

attribute_tests : (conf : Configuration) → IsSound conf → (attribute : AttributeType) → IsAttribute conf attribute → (k : ℕ) (b : Bool) → stood_before k attribute.name (of_named (written_file conf).attributes) ≡ false
    → attribute_fault (written_file conf) (record { number = k; name = attribute.name; pieces = Pair (codes "Arg") [] (written_alternatives conf attribute.targets) ∷ values_piece attribute b }) ≡ None
attribute_tests conf s attribute a k b once =
    none_told (
    (is_no_declared attribute.name || list_any values_badly (attribute_pairs_of conf attribute b), BadName)
    ∷ (stood_before k attribute.name (of_named (written_file conf).attributes) || list_any (λ (pair : RolePair). stands_twice (map word_of pair.alternatives)) (filter is_values (attribute_pairs_of conf attribute b)), NameTwice)
    ∷ (list_any (λ (pair : RolePair). is_none (count_of pair.mark)) (attribute_pairs_of conf attribute b), BadCount)
    ∷ (list_any is_shapeless (Pair (codes "Arg") [] (written_alternatives conf attribute.targets) ∷ values_piece attribute b) || not (is_attribute (attribute_pairs_of conf attribute b)), BadArgument)
    ∷ (list_any (λ (pair : RolePair). list_any (is_unknown [] (all_known conf) (all_known conf)) pair.alternatives) (filter (λ (pair : RolePair). not (is_values pair)) (attribute_pairs_of conf attribute b)), UnknownTypeNamed)
    ∷ (list_any (λ (pair : RolePair). list_any (is_unheld [] true) pair.alternatives) (filter (λ (pair : RolePair). not (is_values pair)) (attribute_pairs_of conf attribute b)), UnknownMacro)
    ∷ (are_past 256 k (of_named (written_file conf).attributes) || list_any (λ (pair : RolePair). nat_lt 256 (length pair.alternatives)) (filter is_values (attribute_pairs_of conf attribute b)), TooManyTypes)
    ∷ []) (
      or_from (is_no_declared attribute.name) (list_any values_badly (attribute_pairs_of conf attribute b)) a.name.faultless (badly b),
      (
        or_from (stood_before k attribute.name (of_named (written_file conf).attributes)) (list_any (λ (pair : RolePair). stands_twice (map word_of pair.alternatives)) (filter is_values (attribute_pairs_of conf attribute b))) once (twice b),
        (
          counts b,
          (
            shaped b,
            (
              unknown b,
              (
                unheld b,
                (
                  or_from (are_past 256 k (of_named (written_file conf).attributes)) (list_any (λ (pair : RolePair). nat_lt 256 (length pair.alternatives)) (filter is_values (attribute_pairs_of conf attribute b)))
                      (never_past 256 k (of_named (written_file conf).attributes) (attributes_bound conf s)) (many b),
                  tt,
                ),
              ),
            ),
          ),
        ),
      ),
    )
  where
    spoken : AreSpoken (all_known conf) (all_known conf) true (written_alternatives conf attribute.targets)
    spoken = are_spoken conf s true (all_known conf) (all_known conf) (known_both conf s) attribute.targets a.targets

    arg_name : (is_no_name (codes "Arg") || list_any (λ one. is_no_name (word_of one)) (written_alternatives conf attribute.targets)) ≡ false
    arg_name = or_from (is_no_name (codes "Arg")) (list_any (λ one. is_no_name (word_of one)) (written_alternatives conf attribute.targets)) argument_names.2 spoken.names

    value_names : list_any (λ one. is_held one || is_no_name (word_of one)) (map (λ value. Named value) attribute.values) ≡ false
    value_names =
        none_passes (λ one. is_held one || is_no_name (word_of one)) (map (λ value. Named value) attribute.values)
        (Each-map (λ one. (is_held one || is_no_name (word_of one)) ≡ false) (λ value. Named value) attribute.values
        (each_weaker IsName (λ value. is_no_name value ≡ false) (λ value n. n.faultless) attribute.values (recursion_from_All IsName attribute.values a.values)))

    alone : (x : Bool) → x ≡ false → (x || false) ≡ false
    alone x e = or_from x false e refl

    badly : (c : Bool) → list_any values_badly (attribute_pairs_of conf attribute c) ≡ false
    badly true =
        or_from (is_no_name (codes "Arg") || list_any (λ one. is_no_name (word_of one)) (written_alternatives conf attribute.targets)) (list_any (λ one. is_held one || is_no_name (word_of one)) (map (λ value. Named value) attribute.values) || false) arg_name
        (alone (list_any (λ one. is_held one || is_no_name (word_of one)) (map (λ value. Named value) attribute.values)) value_names)
    badly false = alone (is_no_name (codes "Arg") || list_any (λ one. is_no_name (word_of one)) (written_alternatives conf attribute.targets)) arg_name

    twice : (c : Bool) → list_any (λ (pair : RolePair). stands_twice (map word_of pair.alternatives)) (filter is_values (attribute_pairs_of conf attribute c)) ≡ false
    twice true = alone (stands_twice (map word_of (map (λ value. Named value) attribute.values))) (ap stands_twice (words_are attribute.values) ∙ a.differ)
    twice false = refl

    counts : (c : Bool) → list_any (λ (pair : RolePair). is_none (count_of pair.mark)) (attribute_pairs_of conf attribute c) ≡ false
    counts true = refl
    counts false = refl

    shaped : (c : Bool) → (list_any is_shapeless (Pair (codes "Arg") [] (written_alternatives conf attribute.targets) ∷ values_piece attribute c) || not (is_attribute (attribute_pairs_of conf attribute c))) ≡ false
    shaped true = refl
    shaped false = refl

    unknown : (c : Bool) → list_any (λ (pair : RolePair). list_any (is_unknown [] (all_known conf) (all_known conf)) pair.alternatives) (filter (λ (pair : RolePair). not (is_values pair)) (attribute_pairs_of conf attribute c)) ≡ false
    unknown true = alone (list_any (is_unknown [] (all_known conf) (all_known conf)) (written_alternatives conf attribute.targets)) spoken.known_all
    unknown false = alone (list_any (is_unknown [] (all_known conf) (all_known conf)) (written_alternatives conf attribute.targets)) spoken.known_all

    unheld : (c : Bool) → list_any (λ (pair : RolePair). list_any (is_unheld [] true) pair.alternatives) (filter (λ (pair : RolePair). not (is_values pair)) (attribute_pairs_of conf attribute c)) ≡ false
    unheld true = alone (list_any (is_unheld [] true) (written_alternatives conf attribute.targets)) spoken.held
    unheld false = alone (list_any (is_unheld [] true) (written_alternatives conf attribute.targets)) spoken.held

    many : (c : Bool) → list_any (λ (pair : RolePair). nat_lt 256 (length pair.alternatives)) (filter is_values (attribute_pairs_of conf attribute c)) ≡ false
    many true = alone (nat_lt 256 (length (map (λ value. Named value) attribute.values))) (le-ltb 256 (length (map (λ value. Named value) attribute.values)) (let few = a.few in omega (arith, length-map attribute.values (λ value. Named value))))
    many false = refl

pub attributes_clean : (conf : Configuration) → IsSound conf → Each (λ (line : NamedLine). attribute_fault (written_file conf) line ≡ None) (written_file conf).attributes
attributes_clean conf s =
    each_both (λ (line : NamedLine). stood_before line.number line.name (of_named (written_file conf).attributes) ≡ false → attribute_fault (written_file conf) line ≡ None)
    (λ (line : NamedLine). stood_before line.number line.name (of_named (written_file conf).attributes) ≡ false) (λ (line : NamedLine). attribute_fault (written_file conf) line ≡ None) (λ line h once. h once) (written_file conf).attributes
    (Each-numbered (written_attribute conf) (λ (line : NamedLine). stood_before line.number line.name (of_named (written_file conf).attributes) ≡ false → attribute_fault (written_file conf) line ≡ None) (attributes_head conf + 1) conf.attributes
    (each_weaker (IsAttribute conf) (λ (attribute : AttributeType). (k : ℕ) → stood_before k attribute.name (of_named (written_file conf).attributes) ≡ false → attribute_fault (written_file conf) (written_attribute conf k attribute) ≡ None)
    (λ attribute a k once. attribute_tests conf s attribute a k (nat_lt 0 (length attribute.values)) once) conf.attributes (recursion_from_All (IsAttribute conf) conf.attributes s.attributes)))
    (attribute_once conf s)
