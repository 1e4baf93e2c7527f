-- What the roles of event types, the lines of relation types and overlap lines keep.
use Rattle.std.proofs.Common.{◌≡◌, ℕ, ◌<◌, ◌≤◌, ◌==◌, ◌||◌, ◌&&◌, Bool, true, false, not, List, [], ◌∷◌, map, length, filter, filter_map, Some, None, is_none, bytes_eq, codes, refl, sym, ◌∙◌, ap, ap₂, arith, inl, inr}
use Rattle.std.specs.Option.{option_map_or}
use Rattle.std.specs.List.{AllByRecursion as Each, list_any, list_all, slice_split, cons_option}
use Rattle.std.proofs.lemmas.Bool.{or_parts, or_left, or_right, or_cases, and_parts, not-false, not-true, true≢false, ltb-false}
use Rattle.std.proofs.lemmas.List.{length-map}
use Rattle.std.proofs.lemmas.List.Splits.{length-slice_split}
use Rattle.std.proofs.lemmas.List.Elements.{All-from_recursion}
use Rattle.conf_model.specs.ConfPairs.{Piece, count_of}
use Rattle.conf_model.specs.ConfNames.{TypeLine, NamedLine, File}
use Rattle.conf_model.specs.ConfFaults.{RolePair, pairs_of, names_badly, is_no_name, word_of, is_unknown, is_unheld, declared_names, bound_names, names_of, is_binary, are_arguments, is_kind, has_kinds, keyed_value, is_among, stands_twice, is_shapeless, firsts}
use Rattle.conf_model.specs.ConfOf.{role_of, role_at, arguments_of, relation_of, overlap_of, has_kind, resolved, configuration_of}
use Rattle.conf_model.specs.Configurations.{Configuration}
use Rattle.conf_model.specs.declared.role.Role.{Role}
use Rattle.conf_model.specs.Sound.{IsName, AreTargets, IsRole, AreRoles, AreArguments, IsRelation, IsOverlap}
use Rattle.annotation_conf.proofs.SoundLists.{Each-append, Each-map, Each-filter, each_always, each_both, each_fails, map-map}
use Rattle.annotation_conf.proofs.SoundChoices.{IsClean, FindsKnown, finds_types, targets_keep}
use Rattle.annotation_conf.proofs.SoundFaults.{AreKnown, KeepsType, KeepsRelation, KeepsOverlap}
use Rattle.annotation_conf.proofs.SoundFirsts.{own_name}
use Rattle.annotation_conf.proofs.SoundMarks.{mark_counts}
use Rattle.annotation_conf.proofs.SoundNames.{same_bytes, bytes_same}
use Rattle.annotation_conf.proofs.SoundWords.{IsSpelt, IsSpeltLine, pairs_valid}

-- a pair whose role is a name and whose alternatives may stand
pub record KeepsPair (file : File) (known : List (List ℕ)) (relations : Bool) (pair : RolePair) : Type 0 where
  pub name : IsName pair.role
  pub some : 0 < length pair.alternatives
  pub unknown : list_any (is_unknown file.macros (declared_names file) known) pair.alternatives ≡ false
  pub unheld : list_any (is_unheld file.macros relations) pair.alternatives ≡ false

pub keeps_pairs : (file : File) (known : List (List ℕ)) (relations : Bool) (pairs : List RolePair) → list_any names_badly pairs ≡ false → AreKnown file known relations pairs
    → Each (λ (pair : RolePair). IsSpelt pair.role pair.alternatives) pairs → Each (KeepsPair file known relations) pairs
keeps_pairs file known relations pairs names are spelt =
    each_both (λ (pair : RolePair). names_badly pair ≡ false) _ (KeepsPair file known relations)
    (λ pair n k. record {
      name = record { valid = k.1.1.role; faultless = (or_parts (is_no_name pair.role) (list_any (λ one. is_no_name (word_of one)) pair.alternatives) n).0 };
      some = k.1.1.some;
      unknown = k.0;
      unheld = k.1.0;
    }) pairs (each_fails names_badly pairs names)
    (each_both (λ (pair : RolePair). list_any (is_unknown file.macros (declared_names file) known) pair.alternatives ≡ false)
    (λ (pair : RolePair). (list_any (is_unheld file.macros relations) pair.alternatives ≡ false) × IsSpelt pair.role pair.alternatives)
    (λ (pair : RolePair). (list_any (is_unknown file.macros (declared_names file) known) pair.alternatives ≡ false) × ((list_any (is_unheld file.macros relations) pair.alternatives ≡ false) × IsSpelt pair.role pair.alternatives))
    (λ pair a b. (a, b)) pairs (each_fails (λ (pair : RolePair). list_any (is_unknown file.macros (declared_names file) known) pair.alternatives) pairs are.known)
    (each_both (λ (pair : RolePair). list_any (is_unheld file.macros relations) pair.alternatives ≡ false) (λ (pair : RolePair). IsSpelt pair.role pair.alternatives)
    (λ (pair : RolePair). (list_any (is_unheld file.macros relations) pair.alternatives ≡ false) × IsSpelt pair.role pair.alternatives)
    (λ pair a b. (a, b)) pairs (each_fails (λ (pair : RolePair). list_any (is_unheld file.macros relations) pair.alternatives) pairs are.held) spelt))

-- the alternatives of a pair
pub pair_targets : (file : File) → IsClean file → (relations : Bool) (known : List (List ℕ)) → FindsKnown file relations known → (pair : RolePair) → KeepsPair file known relations pair
    → AreTargets (configuration_of file) relations (resolved file relations pair.alternatives)
pair_targets file clean relations known finds pair k = targets_keep file clean relations known pair.alternatives finds k.some k.unknown k.unheld

-- the roles of an event type
event_roles : (file : File) → IsClean file → (line : TypeLine) → KeepsType file file.events (pairs_of line.pieces) (list_any is_shapeless line.pieces) line → IsSpeltLine line.name line.pieces
    → AreRoles (configuration_of file) (map (role_of file) (pairs_of line.pieces))
event_roles file clean line k spelt = record {
  few =
      (let few : length (pairs_of line.pieces) ≤ 256 = ltb-false 256 (length (pairs_of line.pieces)) k.roles_few in
      let same : length (map (role_of file) (pairs_of line.pieces)) ≡ length (pairs_of line.pieces) = length-map (pairs_of line.pieces) (role_of file) in omega arith);
  differ = ap stands_twice (map-map (λ (role : Role). role.name) (role_of file) (pairs_of line.pieces)) ∙ k.roles;
  each =
      All-from_recursion (IsRole (configuration_of file)) (map (role_of file) (pairs_of line.pieces))
      (Each-map (IsRole (configuration_of file)) (role_of file) (pairs_of line.pieces)
      (each_both (KeepsPair file (names_of (bound_names file)) false) (λ (pair : RolePair). is_none (count_of pair.mark) ≡ false) (λ pair. IsRole (configuration_of file) (role_of file pair))
      (λ pair p c. record { name = p.name; count = mark_counts pair.mark c; targets = pair_targets file clean false (names_of (bound_names file)) (finds_types file) pair p })
      (pairs_of line.pieces)
      (keeps_pairs file (names_of (bound_names file)) false (pairs_of line.pieces) k.names k.alternatives (pairs_valid line.pieces spelt.pieces))
      (each_fails (λ (pair : RolePair). is_none (count_of pair.mark)) (pairs_of line.pieces) k.counts)));
}

no_roles : (conf : Configuration) → AreRoles conf []
no_roles conf = record { few = omega arith; differ = refl; each = All-from_recursion (IsRole conf) [] tt }

pub roles_keep : (file : File) → IsClean file → Each (AreRoles (configuration_of file)) (configuration_of file).roles
roles_keep file clean =
    Each-append (AreRoles (configuration_of file)) (map (λ (line : TypeLine). []) file.entities) (map (λ (line : TypeLine). map (role_of file) (pairs_of line.pieces)) file.events)
    (Each-map (AreRoles (configuration_of file)) (λ (line : TypeLine). []) file.entities (each_always (λ (line : TypeLine). AreRoles (configuration_of file) []) (λ line. no_roles (configuration_of file)) file.entities))
    (Each-map (AreRoles (configuration_of file)) (λ (line : TypeLine). map (role_of file) (pairs_of line.pieces)) file.events
    (each_both (λ (line : TypeLine). KeepsType file file.events (pairs_of line.pieces) (list_any is_shapeless line.pieces) line) (λ (line : TypeLine). IsSpeltLine line.name line.pieces)
    (λ (line : TypeLine). AreRoles (configuration_of file) (map (role_of file) (pairs_of line.pieces))) (λ line k s. event_roles file clean line k s) file.events clean.keeps.events clean.spelt.events))

-- two pairs
arguments_keep : (file : File) → IsClean file → (pairs : List RolePair) → length pairs ≡ 2 → Each (KeepsPair file (names_of (bound_names file)) false) pairs
    → AreArguments (configuration_of file) (arguments_of file pairs)
arguments_keep file clean [] e a = absurd (omega arith)
arguments_keep file clean (p ∷ []) e a = absurd (omega arith)
arguments_keep file clean (p ∷ q ∷ []) e a = record {
  first = pair_targets file clean false (names_of (bound_names file)) (finds_types file) p a.0;
  second = pair_targets file clean false (names_of (bound_names file)) (finds_types file) q a.1.0;
}
arguments_keep file clean (p ∷ q ∷ r ∷ more) e a = absurd (omega arith)

-- the roles of a line of a relation type
record AreBinary (pairs : List RolePair) : Type 0 where
  two : length pairs ≡ 2
  first : IsName (role_at pairs 0)
  second : IsName (role_at pairs 1)
  differ : bytes_eq (role_at pairs 0) (role_at pairs 1) ≡ false

binary_roles : (file : File) (known : List (List ℕ)) (pairs : List RolePair) → is_binary pairs ≡ true → Each (KeepsPair file known false) pairs → AreBinary pairs
binary_roles file known [] e a = absurd (true≢false (sym e))
binary_roles file known (p ∷ []) e a = absurd (true≢false (sym e))
binary_roles file known (p ∷ q ∷ []) e a =
    let both = and_parts (length p.mark == 0 && length q.mark == 0) (not (bytes_eq p.role q.role)) e in
    record { two = refl; first = a.0.name; second = a.1.0.name; differ = not-true (bytes_eq p.role q.role) both.1 }
binary_roles file known (p ∷ q ∷ r ∷ more) e a = absurd (true≢false (sym e))

relation_pairs : (file : File) (line : NamedLine) → KeepsRelation file line → IsSpeltLine line.name line.pieces → Each (KeepsPair file (names_of (bound_names file)) false) (pairs_of line.pieces)
relation_pairs file line k spelt = keeps_pairs file (names_of (bound_names file)) false (pairs_of line.pieces) k.names k.alternatives (pairs_valid line.pieces spelt.pieces)

relation_keeps : (file : File) → IsClean file → (line : NamedLine) → KeepsRelation file line → IsSpeltLine line.name line.pieces
    → 0 < length (filter (λ (other : NamedLine). bytes_eq other.name line.name) file.relations)
    → Each (λ (other : NamedLine). AreArguments (configuration_of file) (arguments_of file (pairs_of other.pieces))) file.relations
    → IsRelation (configuration_of file) (relation_of file line)
relation_keeps file clean line k spelt some all =
    let binary = binary_roles file (names_of (bound_names file)) (pairs_of line.pieces) (not-false (is_binary (pairs_of line.pieces)) k.binary) (relation_pairs file line k spelt) in
    record {
      name = record { valid = spelt.name; faultless = k.name };
      first = binary.first;
      second = binary.second;
      differ = binary.differ;
      some =
          (let same : length (relation_of file line).lines ≡ length (filter (λ (other : NamedLine). bytes_eq other.name line.name) file.relations) =
          length-map (filter (λ (other : NamedLine). bytes_eq other.name line.name) file.relations) (λ (other : NamedLine). arguments_of file (pairs_of other.pieces)) in omega arith);
      lines =
          All-from_recursion (AreArguments (configuration_of file)) (relation_of file line).lines
          (Each-map (AreArguments (configuration_of file)) (λ (other : NamedLine). arguments_of file (pairs_of other.pieces)) (filter (λ (other : NamedLine). bytes_eq other.name line.name) file.relations)
          (Each-filter (λ (other : NamedLine). AreArguments (configuration_of file) (arguments_of file (pairs_of other.pieces))) (λ (other : NamedLine). bytes_eq other.name line.name) file.relations all));
    }

pub relations_keep : (file : File) → IsClean file → Each (IsRelation (configuration_of file)) (configuration_of file).relations
relations_keep file clean =
    let all : Each (λ (other : NamedLine). AreArguments (configuration_of file) (arguments_of file (pairs_of other.pieces))) file.relations =
    each_both (KeepsRelation file) (λ (line : NamedLine). IsSpeltLine line.name line.pieces) (λ (other : NamedLine). AreArguments (configuration_of file) (arguments_of file (pairs_of other.pieces)))
    (λ line k s. let pairs = relation_pairs file line k s in
    arguments_keep file clean (pairs_of line.pieces) (binary_roles file (names_of (bound_names file)) (pairs_of line.pieces) (not-false (is_binary (pairs_of line.pieces)) k.binary) (relation_pairs file line k s)).two (relation_pairs file line k s))
    file.relations clean.keeps.relations clean.spelt.relations in
    let each : Each (λ (line : NamedLine). IsRelation (configuration_of file) (relation_of file line)) file.relations =
    each_both (λ (line : NamedLine). KeepsRelation file line × IsSpeltLine line.name line.pieces) (λ (line : NamedLine). 0 < length (filter (λ (other : NamedLine). bytes_eq other.name line.name) file.relations))
    (λ (line : NamedLine). IsRelation (configuration_of file) (relation_of file line)) (λ line both some. relation_keeps file clean line both.0 both.1 some all) file.relations
    (each_both (KeepsRelation file) (λ (line : NamedLine). IsSpeltLine line.name line.pieces) (λ (line : NamedLine). KeepsRelation file line × IsSpeltLine line.name line.pieces) (λ line k s. (k, s)) file.relations
    clean.keeps.relations clean.spelt.relations) (own_name file.relations) in
    Each-map (IsRelation (configuration_of file)) (relation_of file) (firsts file.relations)
    (Each-filter (λ (line : NamedLine). IsRelation (configuration_of file) (relation_of file line)) _ file.relations each)

-- overlap lines
are_two : (pairs : List RolePair) → are_arguments pairs ≡ true → length pairs ≡ 2
are_two [] e = absurd (true≢false (sym e))
are_two (p ∷ []) e = absurd (true≢false (sym e))
are_two (p ∷ q ∷ []) e = refl
are_two (p ∷ q ∷ r ∷ more) e = absurd (true≢false (sym e))

-- a kind stands on a line where it stands among its values
kind_by_values : (word : List ℕ) (pieces : List Piece) → has_kind word pieces ≡ list_any (λ value. is_among (slice_split (λ c. c == 124) value) word) (filter_map (keyed_value (codes "OVL-TYPE")) pieces)
kind_by_values word [] = refl
kind_by_values word (piece ∷ pieces) =
    ap (λ b. option_map_or (λ value. is_among (slice_split (λ c. c == 124) value) word) (keyed_value (codes "OVL-TYPE") piece) false || b) (kind_by_values word pieces)
    ∙ elim (keyed_value (codes "OVL-TYPE") piece) as (λ o. (option_map_or (λ value. is_among (slice_split (λ c. c == 124) value) word) o false || list_any (λ value. is_among (slice_split (λ c. c == 124) value) word) (filter_map (keyed_value (codes "OVL-TYPE")) pieces))
    ≡ list_any (λ value. is_among (slice_split (λ c. c == 124) value) word) (cons_option o (filter_map (keyed_value (codes "OVL-TYPE")) pieces))) [
      | None ↦ refl
      | Some value ↦ refl
    ]

-- of the kinds of a line there is one
first_kind : (parts : List (List ℕ)) → 0 < length parts → list_all is_kind parts ≡ true
    → (is_among parts (codes "contain") || is_among parts (codes "equal") || is_among parts (codes "cross") || is_among parts (codes "<ANY>")) ≡ true
first_kind [] some e = absurd (omega arith)
first_kind (part ∷ parts) some e =
    let kind = (and_parts (is_kind part) (list_all is_kind parts) e).0 in
    elim (or_cases (bytes_eq part (codes "contain") || bytes_eq part (codes "equal") || bytes_eq part (codes "cross")) (bytes_eq part (codes "<ANY>")) kind) [
      | inl three ↦ or_left (has (codes "contain") || has (codes "equal") || has (codes "cross")) (has (codes "<ANY>"))
          (elim (or_cases (bytes_eq part (codes "contain") || bytes_eq part (codes "equal")) (bytes_eq part (codes "cross")) three) [
            | inl two ↦ or_left (has (codes "contain") || has (codes "equal")) (has (codes "cross"))
                (elim (or_cases (bytes_eq part (codes "contain")) (bytes_eq part (codes "equal")) two) [
                  | inl one ↦ or_left (has (codes "contain")) (has (codes "equal")) (here (codes "contain") one)
                  | inr one ↦ or_right (has (codes "contain")) (has (codes "equal")) (here (codes "equal") one)
                ])
            | inr one ↦ or_right (has (codes "contain") || has (codes "equal")) (has (codes "cross")) (here (codes "cross") one)
          ])
      | inr one ↦ or_right (has (codes "contain") || has (codes "equal") || has (codes "cross")) (has (codes "<ANY>")) (here (codes "<ANY>") one)
    ]
  where
    has : List ℕ → Bool
    has word = is_among (part ∷ parts) word

    here : (word : List ℕ) → bytes_eq part word ≡ true → is_among (part ∷ parts) word ≡ true
    here word f = or_left (bytes_eq word part) (is_among parts word) (bytes_same word part (sym (same_bytes part word f)))

some_kind : (values : List (List ℕ)) → has_kinds values ≡ true
    → (list_any (λ value. is_among (slice_split (λ c. c == 124) value) (codes "contain")) values || list_any (λ value. is_among (slice_split (λ c. c == 124) value) (codes "equal")) values
    || list_any (λ value. is_among (slice_split (λ c. c == 124) value) (codes "cross")) values || list_any (λ value. is_among (slice_split (λ c. c == 124) value) (codes "<ANY>")) values) ≡ true
some_kind [] e = absurd (true≢false (sym e))
some_kind (value ∷ []) e =
    let parts : List (List ℕ) = slice_split (λ c. c == 124) value in
    ap₂ (λ a b. a || b) (ap₂ (λ a b. a || b) (ap₂ (λ a b. a || b) (single (is_among parts (codes "contain"))) (single (is_among parts (codes "equal")))) (single (is_among parts (codes "cross")))) (single (is_among parts (codes "<ANY>")))
    ∙ first_kind parts (omega (arith, length-slice_split (λ c. c == 124) value)) e
  where
    single : (b : Bool) → (b || false) ≡ b
    single true = refl
    single false = refl
some_kind (value ∷ next ∷ more) e = absurd (true≢false (sym e))

overlap_keeps : (file : File) → IsClean file → (line : NamedLine) → KeepsOverlap file line → IsSpeltLine line.name line.pieces → IsOverlap (configuration_of file) (overlap_of file line)
overlap_keeps file clean line k spelt =
    let arguments = arguments_keep file clean (pairs_of line.pieces) (are_two (pairs_of line.pieces) (not-false (are_arguments (pairs_of line.pieces)) k.arguments))
    (keeps_pairs file (names_of (bound_names file)) false (pairs_of line.pieces) k.names k.alternatives (pairs_valid line.pieces spelt.pieces)) in
    record {
      first = arguments.first;
      second = arguments.second;
      some =
          ap₂ (λ a b. a || b) (ap₂ (λ a b. a || b) (ap₂ (λ a b. a || b) (kind_by_values (codes "contain") line.pieces) (kind_by_values (codes "equal") line.pieces)) (kind_by_values (codes "cross") line.pieces)) (kind_by_values (codes "<ANY>") line.pieces)
          ∙ some_kind (filter_map (keyed_value (codes "OVL-TYPE")) line.pieces) (not-false (has_kinds (filter_map (keyed_value (codes "OVL-TYPE")) line.pieces)) k.kinds);
    }

pub overlaps_keep : (file : File) → IsClean file → Each (IsOverlap (configuration_of file)) (configuration_of file).overlaps
overlaps_keep file clean =
    Each-map (IsOverlap (configuration_of file)) (overlap_of file) file.overlaps
    (each_both (KeepsOverlap file) (λ (line : NamedLine). IsSpeltLine line.name line.pieces) (λ line. IsOverlap (configuration_of file) (overlap_of file line)) (λ line k s. overlap_keeps file clean line k s) file.overlaps
    clean.keeps.overlaps clean.spelt.overlaps)
