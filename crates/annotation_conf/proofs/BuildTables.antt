-- The tables of a file by its values are those of its configuration.
use Rattle.std.proofs.Common.{◌≡◌, ℕ, ◌+◌, ◌-◌, ◌≤◌, ◌&&◌, ◌||◌, ◌==◌, Bool, true, false, not, cond, List, [], ◌∷◌, ◌++◌, Option, Some, None, option_map, suc, length, map, filter, bytes_eq, codes, refl, sym, ◌∙◌, ap, subst, arith}
use Rattle.std.specs.List.{AllByRecursion as Each, list_any, flat_map, slice_split}
use Rattle.std.specs.Option.{option_map_or, option_or}
use Rattle.std.proofs.lemmas.List.{map-append, append-nil, length-map, length-append}
use Rattle.annotation_conf.specs.declared.file.File.{File as FileValue}
use Rattle.annotation_conf.specs.declared.file.TypeLine.{TypeLine as TypeLineValue}
use Rattle.annotation_conf.specs.declared.file.NamedLine.{NamedLine as NamedLineValue}
use Rattle.annotation_conf.specs.declared.pieces.RolePair.{RolePair as RolePairValue}
use Rattle.conf_model.specs.ConfPairs.{Alternative, Piece, Shapeless, Keyed, Pair}
use Rattle.conf_model.specs.ConfNames.{TypeLine, NamedLine, File}
use Rattle.conf_model.specs.ConfFaults.{RolePair, pairs_of, is_values, is_attribute, is_among, word_of, keyed_value, names_of, bound_names, of_types, of_named, firsts, stood_before}
use Rattle.conf_model.specs.ConfOf.{rows_from, last_at, role_of, arguments_of, role_at, relation_of, attribute_of, overlap_of, has_kind, resolved, configuration_of}
use Rattle.conf_model.specs.declared.relation_type.Arguments.{Arguments}
use Rattle.conf_model.specs.declared.relation_type.RelationType.{RelationType}
use Rattle.conf_model.specs.declared.overlap_line.Overlap.{Overlap}
use Rattle.annotation_conf.specs.FileKept.{KeyedPair, KeptType, KeptNamed, kept_type, kept_named, keyed_of}
use Rattle.annotation_conf.specs.FileShows.{seen_pair, seen_keyed, seen_alternative, seen_type, seen_named}
use Rattle.annotation_conf.specs.FaultsTold.{mark_equivalence}
use Rattle.annotation_conf.specs.KnownFiles.{IsKnown}
use Rattle.annotation_conf.specs.BuildTold.{bare_type, roles_kept, has_kind_told, overlap_kept, first_targets, first_values, attribute_kept, arguments_kept, relation_kept, firsts_kept, IsFaultless}
use Rattle.annotation_conf.proofs.FaultLists.{list_any_map, map_twice}
use Rattle.annotation_conf.proofs.FaultKnown.{same_through, same_filtered}
use Rattle.annotation_conf.proofs.FaultTold.{equivalence_is}
use Rattle.annotation_conf.proofs.SoundFaults.{KeepsAttribute}
use Rattle.annotation_conf.proofs.SoundRead.{was_read, IsAttributePairs, attribute_pairs}
use Rattle.annotation_conf.proofs.SoundFiles.{KeepsAll}

map_same : {X Y : Type 0} (f g : X → Y) (xs : List X) → ((x : X) → f x ≡ g x) → map f xs ≡ map g xs
map_same f g [] same = refl
map_same f g (x ∷ xs) same = ap (λ y. y ∷ map f xs) (same x) ∙ ap (λ ys. g x ∷ ys) (map_same f g xs same)

-- rows do not rest on what follows a name
strip : TypeLine → TypeLine
strip line = record { number = line.number; depth = line.depth; spaced = line.spaced; gapped = line.gapped; usable = line.usable; name = line.name; pieces = [] }

last_strip : (depth place : ℕ) (lines : List TypeLine) → last_at depth place (map strip lines) ≡ last_at depth place lines
unfolding strip
last_strip depth place [] = refl
last_strip depth place (line ∷ lines) = ap (λ o. option_or o (cond (line.depth == depth) (Some place) None)) (last_strip depth (place + 1) lines)

rows_strip : (first : ℕ) (event : Bool) (before lines : List TypeLine) → rows_from first event (map strip before) (map strip lines) ≡ rows_from first event before lines
unfolding strip
rows_strip first event before [] = refl
rows_strip first event before (line ∷ lines) =
    ap (λ (o : Option ℕ). record {
      name = line.name;
      parent = cond (line.depth == 0) None (option_map (λ place. record { n = place }) o);
      usable = line.usable;
      event = event;
    } ∷ rows_from first event (map strip before ++ strip line ∷ []) (map strip lines)) (last_strip (line.depth - 1) first before)
    ∙ ap (λ xs. record {
      name = line.name;
      parent = cond (line.depth == 0) None (option_map (λ place. record { n = place }) (last_at (line.depth - 1) first before));
      usable = line.usable;
      event = event;
    } ∷ rows_from first event xs (map strip lines)) (sym (map-append strip before (line ∷ [])))
    ∙ ap (λ xs. record {
      name = line.name;
      parent = cond (line.depth == 0) None (option_map (λ place. record { n = place }) (last_at (line.depth - 1) first before));
      usable = line.usable;
      event = event;
    } ∷ xs) (rows_strip first event (before ++ line ∷ []) lines)

bare_kept : KeptType → TypeLine
bare_kept k = record { number = k.number; depth = k.depth; spaced = k.spaced; gapped = k.gapped; usable = k.usable; name = k.name; pieces = [] }

bare_shown : (values : List TypeLineValue) (lines : List TypeLine) → map seen_type values ≡ map kept_type lines → map bare_type values ≡ map strip lines
unfolding strip bare_kept
bare_shown values lines shown = same_through bare_kept seen_type kept_type values lines shown

pub rows_shown : (first : ℕ) (event : Bool) (values : List TypeLineValue) (lines : List TypeLine) → map seen_type values ≡ map kept_type lines
    → rows_from first event [] (map bare_type values) ≡ rows_from first event [] lines
rows_shown first event values lines shown = ap (rows_from first event []) (bare_shown values lines shown) ∙ rows_strip first event [] lines

pub length_rows : (first : ℕ) (event : Bool) (before lines : List TypeLine) → length (rows_from first event before lines) ≡ length lines
length_rows first event before [] = refl
length_rows first event before (line ∷ lines) = ap suc (length_rows first event (before ++ line ∷ []) lines)

pub few_lines : (file : File) (values : FileValue) → IsKnown values file → length (names_of (bound_names file)) ≤ 256 → length values.entities.items + length values.events.items ≤ 256
few_lines file values known few =
    let size : length values.entities.items ≡ length file.entities = sym (length-map values.entities.items seen_type) ∙ ap length known.shows.entities ∙ length-map file.entities kept_type in
    let more : length values.events.items ≡ length file.events = sym (length-map values.events.items seen_type) ∙ ap length known.shows.events ∙ length-map file.events kept_type in
    let whole : length (names_of (bound_names file)) ≡ length file.entities + length file.events =
    length-map (bound_names file) (λ one. one.name) ∙ length-append (of_types file.entities) (of_types file.events)
    ∙ ap (λ n. n + length (of_types file.events)) (length-map file.entities (λ (l : TypeLine). record { number = l.number; name = l.name }))
    ∙ ap (λ n. length file.entities + n) (length-map file.events (λ (l : TypeLine). record { number = l.number; name = l.name })) in
    omega (arith, size, more, whole, few)

-- roles
pub roles_shown : (file : File) (values : FileValue) → IsKnown values file
    → map (λ (v : TypeLineValue). []) values.entities.items ++ map (roles_kept file) values.events.items ≡ (configuration_of file).roles
unfolding roles_kept
roles_shown file values known =
    ap (λ xs. xs ++ map (roles_kept file) values.events.items) (same_through (λ (k : KeptType). []) seen_type kept_type values.entities.items file.entities known.shows.entities)
    ∙ ap (λ xs. map (λ (l : TypeLine). []) file.entities ++ xs)
    (map_same (λ (v : TypeLineValue). map (λ pair. role_of file (seen_pair pair)) v.pieces.pairs.items) (λ v. map (role_of file) (seen_type v).behind.pairs) values.events.items
    (λ v. sym (map_twice (role_of file) seen_pair v.pieces.pairs.items))
    ∙ same_through (λ (k : KeptType). map (role_of file) k.behind.pairs) seen_type kept_type values.events.items file.events known.shows.events)

-- relation types
arguments_shown : (file : File) (values : List NamedLineValue) (lines : List NamedLine) (name : List ℕ) → map seen_named values ≡ map kept_named lines
    → map (arguments_kept file) (filter (λ other. bytes_eq other.name name) values) ≡ map (λ other. arguments_of file (pairs_of other.pieces)) (filter (λ other. bytes_eq other.name name) lines)
arguments_shown file values lines name shown =
    same_through (λ (k : KeptNamed). arguments_of file k.behind.pairs) seen_named kept_named (filter (λ other. bytes_eq other.name name) values) (filter (λ other. bytes_eq other.name name) lines)
    (same_filtered (λ (k : KeptNamed). bytes_eq k.name name) seen_named kept_named values lines shown)

relation_by : File → List NamedLineValue → KeptNamed → RelationType
relation_by file values k = record {
  name = k.name;
  first = role_at k.behind.pairs 0;
  second = role_at k.behind.pairs 1;
  equivalence = mark_equivalence k.behind.keyed;
  lines = map (arguments_kept file) (filter (λ other. bytes_eq other.name k.name) values);
}

relation_is : (file : File) (values : List NamedLineValue) (line : NamedLine) → map seen_named values ≡ map kept_named file.relations → relation_by file values (kept_named line) ≡ relation_of file line
unfolding relation_by
relation_is file values line shown =
    ap (λ b. record {
      name = line.name;
      first = role_at (pairs_of line.pieces) 0;
      second = role_at (pairs_of line.pieces) 1;
      equivalence = b;
      lines = map (arguments_kept file) (filter (λ other. bytes_eq other.name line.name) values);
    }) (sym (equivalence_is line.pieces))
    ∙ ap (λ xs. record {
      name = line.name;
      first = role_at (pairs_of line.pieces) 0;
      second = role_at (pairs_of line.pieces) 1;
      equivalence = Rattle.conf_model.specs.ConfFaults.is_equivalence_line line.pieces;
      lines = xs;
    }) (arguments_shown file values file.relations line.name shown)

pub relations_shown : (file : File) (values : FileValue) → IsKnown values file
    → map (relation_kept file values.relations.items) (firsts_kept file values.relations.items) ≡ (configuration_of file).relations
unfolding relation_by
relations_shown file values known =
    same_through (relation_by file values.relations.items) seen_named kept_named (firsts_kept file values.relations.items) (firsts file.relations)
    (same_filtered (λ (k : KeptNamed). not (stood_before k.number k.name (of_named file.relations))) seen_named kept_named values.relations.items file.relations known.shows.relations)
    ∙ map_same (λ (r : NamedLine). relation_by file values.relations.items (kept_named r)) (relation_of file) (firsts file.relations)
    (λ r. relation_is file values.relations.items r known.shows.relations)

-- overlap lines
kind_test : List ℕ → KeyedPair → Bool
kind_test word pair = bytes_eq pair.key (codes "OVL-TYPE") && is_among (slice_split (λ c. c == 124) pair.value) word

kind_step : (word value : List ℕ) (b : Bool) → option_map_or (λ v. is_among (slice_split (λ c. c == 124) v) word) (cond b (Some value) None) false ≡ (b && is_among (slice_split (λ c. c == 124) value) word)
kind_step word value true = refl
kind_step word value false = refl

kind_is : (word : List ℕ) (pieces : List Piece) → has_kind word pieces ≡ list_any (kind_test word) (keyed_of pieces)
unfolding kind_test
kind_is word [] = refl
kind_is word (Shapeless ∷ pieces) = kind_is word pieces
kind_is word (Pair _ _ _ ∷ pieces) = kind_is word pieces
kind_is word (Keyed key value ∷ pieces) =
    ap (λ b. b || has_kind word pieces) (kind_step word value (bytes_eq key (codes "OVL-TYPE")))
    ∙ ap (λ b. (bytes_eq key (codes "OVL-TYPE") && is_among (slice_split (λ c. c == 124) value) word) || b) (kind_is word pieces)

kind_shown : (word : List ℕ) (value : NamedLineValue) (line : NamedLine) → seen_named value ≡ kept_named line → list_any (has_kind_told word) value.pieces.keyed.items ≡ has_kind word line.pieces
unfolding kind_test
kind_shown word value line same =
    sym (list_any_map (kind_test word) seen_keyed value.pieces.keyed.items) ∙ ap (λ (k : KeptNamed). list_any (kind_test word) k.behind.keyed) same ∙ sym (kind_is word line.pieces)

overlap : Arguments → Bool → Bool → Bool → Bool → Overlap
overlap arguments a b c d = record { first = arguments.first; second = arguments.second; contain = a; equal = b; cross = c; any = d }

overlap_is : (file : File) (value : NamedLineValue) (line : NamedLine) → seen_named value ≡ kept_named line → overlap_kept file value ≡ overlap_of file line
unfolding overlap
overlap_is file value line same =
    ap (λ (k : KeptNamed). overlap (arguments_of file k.behind.pairs) (list_any (has_kind_told (codes "contain")) value.pieces.keyed.items) (list_any (has_kind_told (codes "equal")) value.pieces.keyed.items) (list_any (has_kind_told (codes "cross")) value.pieces.keyed.items) (list_any (has_kind_told (codes "<ANY>")) value.pieces.keyed.items)) same
    ∙ ap (λ b. overlap (arguments_of file (pairs_of line.pieces)) b (list_any (has_kind_told (codes "equal")) value.pieces.keyed.items) (list_any (has_kind_told (codes "cross")) value.pieces.keyed.items) (list_any (has_kind_told (codes "<ANY>")) value.pieces.keyed.items)) (kind_shown (codes "contain") value line same)
    ∙ ap (λ b. overlap (arguments_of file (pairs_of line.pieces)) (has_kind (codes "contain") line.pieces) b (list_any (has_kind_told (codes "cross")) value.pieces.keyed.items) (list_any (has_kind_told (codes "<ANY>")) value.pieces.keyed.items)) (kind_shown (codes "equal") value line same)
    ∙ ap (λ b. overlap (arguments_of file (pairs_of line.pieces)) (has_kind (codes "contain") line.pieces) (has_kind (codes "equal") line.pieces) b (list_any (has_kind_told (codes "<ANY>")) value.pieces.keyed.items)) (kind_shown (codes "cross") value line same)
    ∙ ap (λ b. overlap (arguments_of file (pairs_of line.pieces)) (has_kind (codes "contain") line.pieces) (has_kind (codes "equal") line.pieces) (has_kind (codes "cross") line.pieces) b) (kind_shown (codes "<ANY>") value line same)

each_shown : {Y : Type 0} (f : NamedLineValue → Y) (g : NamedLine → Y) (P : NamedLine → Type 0) → ((value : NamedLineValue) (line : NamedLine) → seen_named value ≡ kept_named line → P line → f value ≡ g line)
    → (values : List NamedLineValue) (lines : List NamedLine) → map seen_named values ≡ map kept_named lines → Each P lines → map f values ≡ map g lines
each_shown f g P is [] [] shown each = refl
each_shown f g P is [] (line ∷ lines) shown each = cc
each_shown f g P is (value ∷ values) [] shown each = cc
each_shown f g P is (value ∷ values) (line ∷ lines) shown each =
    let same : seen_named value ≡ kept_named line = cc in
    let more : map seen_named values ≡ map kept_named lines = cc in
    ap (λ y. y ∷ map f values) (is value line same each.0) ∙ ap (λ ys. g line ∷ ys) (each_shown f g P is values lines more each.1)

always : (lines : List NamedLine) → Each (λ (line : NamedLine). Unit {0}) lines
always [] = tt
always (line ∷ lines) = (tt, always lines)

pub overlaps_shown : (file : File) (values : FileValue) → IsKnown values file → map (overlap_kept file) values.overlaps.items ≡ (configuration_of file).overlaps
overlaps_shown file values known =
    each_shown (overlap_kept file) (overlap_of file) (λ line. Unit {0}) (λ value line same _. overlap_is file value line same) values.overlaps.items file.overlaps known.shows.overlaps (always file.overlaps)

-- attributes
first_of : List RolePair → List Alternative
first_of [] = []
first_of (pair ∷ pairs) = pair.alternatives

targets_first : (values : List RolePairValue) → map seen_alternative (first_targets values) ≡ first_of (filter (λ pair. not (is_values pair)) (map seen_pair values))
unfolding first_of
targets_first [] = refl
targets_first (v ∷ values) =
    elim (is_values (seen_pair v)) as (λ b. map seen_alternative (cond b (first_targets values) v.alternatives.items)
    ≡ first_of (cond (not b) (seen_pair v ∷ filter (λ pair. not (is_values pair)) (map seen_pair values)) (filter (λ pair. not (is_values pair)) (map seen_pair values)))) [
      | true ↦ targets_first values
      | false ↦ refl
    ]

values_first : (values : List RolePairValue) → map seen_alternative (first_values values) ≡ first_of (filter is_values (map seen_pair values))
unfolding first_of
values_first [] = refl
values_first (v ∷ values) =
    elim (is_values (seen_pair v)) as (λ b. map seen_alternative (cond b v.alternatives.items (first_values values))
    ≡ first_of (cond b (seen_pair v ∷ filter is_values (map seen_pair values)) (filter is_values (map seen_pair values)))) [
      | true ↦ refl
      | false ↦ values_first values
    ]

one_values : (values : List RolePair) → length values ≤ 1 → map word_of (first_of values) ≡ flat_map (λ (pair : RolePair). map word_of pair.alternatives) values
unfolding first_of
one_values [] le = refl
one_values (pair ∷ []) le = sym (append-nil (map word_of pair.alternatives))
one_values (pair ∷ other ∷ more) le = absurd (omega arith)

one_target : (arg : RolePair) (pairs : List RolePair) → pairs ≡ arg ∷ [] → first_of pairs ≡ flat_map (λ (pair : RolePair). pair.alternatives) pairs
unfolding first_of
one_target arg pairs is = ap first_of is ∙ sym (append-nil arg.alternatives) ∙ sym (ap (flat_map (λ (pair : RolePair). pair.alternatives)) is)

not_false : (b : Bool) → not b ≡ false → b ≡ true
not_false true e = refl
not_false false e = sym e

attribute_is : (file : File) (value : NamedLineValue) (line : NamedLine) → seen_named value ≡ kept_named line → KeepsAttribute file line → attribute_kept file value ≡ attribute_of file line
attribute_is file value line same keeps =
    let shaped : IsAttributePairs (pairs_of line.pieces) = attribute_pairs (pairs_of line.pieces) (not_false (is_attribute (pairs_of line.pieces)) keeps.attribute) in
    let pairs : map seen_pair value.pieces.pairs.items ≡ pairs_of line.pieces = ap (λ (k : KeptNamed). k.behind.pairs) same in
    let name : value.name ≡ line.name = ap (λ (k : KeptNamed). k.name) same in
    let targets : map seen_alternative (first_targets value.pieces.pairs.items) ≡ flat_map (λ (pair : RolePair). pair.alternatives) (filter (λ pair. not (is_values pair)) (pairs_of line.pieces)) =
    targets_first value.pieces.pairs.items ∙ ap (λ xs. first_of (filter (λ pair. not (is_values pair)) xs)) pairs
    ∙ one_target shaped.arg (filter (λ pair. not (is_values pair)) (pairs_of line.pieces)) shaped.targets_are in
    let values : map (λ one. word_of (seen_alternative one)) (first_values value.pieces.pairs.items) ≡ flat_map (λ (pair : RolePair). map word_of pair.alternatives) (filter is_values (pairs_of line.pieces)) =
    sym (map_twice word_of seen_alternative (first_values value.pieces.pairs.items)) ∙ ap (map word_of) (values_first value.pieces.pairs.items ∙ ap (λ xs. first_of (filter is_values xs)) pairs)
    ∙ one_values (filter is_values (pairs_of line.pieces)) (omega (arith, shaped.one, ap length shaped.values_are)) in
    ap (λ n. record { name = n; targets = resolved file true (map seen_alternative (first_targets value.pieces.pairs.items)); values = map (λ one. word_of (seen_alternative one)) (first_values value.pieces.pairs.items) }) name
    ∙ ap (λ xs. record { name = line.name; targets = resolved file true xs; values = map (λ one. word_of (seen_alternative one)) (first_values value.pieces.pairs.items) }) targets
    ∙ ap (λ xs. record { name = line.name; targets = resolved file true (flat_map (λ (pair : RolePair). pair.alternatives) (filter (λ pair. not (is_values pair)) (pairs_of line.pieces))); values = xs }) values

pub keeps_faultless : (text : List ℕ) (file : File) → IsFaultless text file → KeepsAll file
keeps_faultless text file faultless = subst KeepsAll (sym faultless.same) (was_read text (configuration_of file) faultless.says).keeps

pub attributes_shown : (file : File) (values : FileValue) (text : List ℕ) → IsKnown values file → IsFaultless text file
    → map (attribute_kept file) values.attributes.items ≡ (configuration_of file).attributes
attributes_shown file values text known faultless =
    each_shown (attribute_kept file) (attribute_of file) (KeepsAttribute file) (attribute_is file) values.attributes.items file.attributes known.shows.attributes (keeps_faultless text file faultless).attributes
