-- The relation types of a sound configuration are what their written lines say.
use Rattle.std.proofs.Common.{◌≡◌, ℕ, ◌+◌, ◌<◌, ◌||◌, Bool, true, false, not, cond, List, [], ◌∷◌, ◌++◌, map, length, filter, flat_map, bytes_eq, codes, refl, sym, subst, ◌∙◌, ap, ap₂, arith, append_assoc, append-nil, map-id}
use Rattle.std.specs.Option.{option_map_or}
use Rattle.std.specs.List.{AllByRecursion as Each, list_any}
use Rattle.std.proofs.lemmas.Bool.{or_parts, or_left, or_right, cond-true, cond-false}
use Rattle.std.proofs.lemmas.List.Elements.{filter-append, recursion_from_All}
use Rattle.std.proofs.lemmas.List.Folds.{list_any-append}
use Rattle.conf_model.specs.ConfPairs.{Piece, Keyed}
use Rattle.conf_model.specs.ConfNames.{NamedLine}
use Rattle.conf_model.specs.ConfFaults.{pairs_of, of_named, names_of, firsts, is_among, stands_twice, stood_before, is_equivalence_line, keyed_value}
use Rattle.conf_model.specs.ConfOf.{arguments_of, relation_of, configuration_of}
use Rattle.conf_model.specs.Configurations.{Configuration}
use Rattle.conf_model.specs.declared.alternatives.Alternatives.{Alternatives}
use Rattle.conf_model.specs.declared.relation_type.Arguments.{Arguments}
use Rattle.conf_model.specs.declared.relation_type.RelationType.{RelationType}
use Rattle.conf_model.specs.Sound.{AreArguments, IsRelation, IsSound}
use Rattle.annotation_conf.proofs.SoundLists.{Each-append, Each-map, each_weaker, each_both, each_always, each_fails, each_of_map, each_right, none_passes}
use Rattle.annotation_conf.proofs.SoundFiles.{Ascend}
use Rattle.annotation_conf.proofs.SoundFirsts.{is_first, stood_is, names_of_named}
use Rattle.annotation_conf.proofs.SoundHeld.{HasNames, resolved_again}
use Rattle.annotation_conf.proofs.SoundNames.{bytes_same, bytes_differ}
use Rattle.annotation_conf.proofs.SoundNumbered.{Ascend-numbered, Each-numbered, filter-numbered, numbered-split}
use Rattle.annotation_conf.proofs.SoundTypesAgain.{type_names_again}
use Rattle.annotation_conf.proofs.Written.{numbered, with_lines, relation_rows, relations_head, relation_pieces, written_relation, written_file}

-- names that differ: none of the others has the name of an element
pub record AreApart {X : Type 0} (name : X → List ℕ) (front : List X) (x : X) (back : List X) : Type 0 where
  pub before : Each (λ y. bytes_eq (name y) (name x) ≡ false) front
  pub behind : Each (λ y. bytes_eq (name y) (name x) ≡ false) back

pub are_apart : {X : Type 0} (name : X → List ℕ) (front : List X) (x : X) (back : List X) → stands_twice (map name (front ++ x ∷ back)) ≡ false → AreApart name front x back
are_apart name [] x back e =
    let both = or_parts (is_among (map name back) (name x)) (stands_twice (map name back)) e in
    record {
      before = tt;
      behind =
          each_weaker (λ y. bytes_eq (name x) (name y) ≡ false) (λ y. bytes_eq (name y) (name x) ≡ false) (λ y f. bytes_differ (name x) (name y) f) back
          (each_of_map (λ n. bytes_eq (name x) n ≡ false) name back (each_fails (bytes_eq (name x)) (map name back) both.0));
    }
are_apart name (z ∷ front) x back e =
    let both = or_parts (is_among (map name (front ++ x ∷ back)) (name z)) (stands_twice (map name (front ++ x ∷ back))) e in
    let more = are_apart name front x back both.1 in
    let others = each_of_map (λ n. bytes_eq (name z) n ≡ false) name (front ++ x ∷ back) (each_fails (bytes_eq (name z)) (map name (front ++ x ∷ back)) both.0) in
    record { before = ((each_right (λ y. bytes_eq (name z) (name y) ≡ false) front (x ∷ back) others).0, more.before); behind = more.behind }

-- the rows of a relation type among all rows
rows_none : (name : List ℕ) (relations : List RelationType) → Each (λ relation. bytes_eq relation.name name ≡ false) relations
    → filter (λ (row : RelationType × Arguments). bytes_eq row.0.name name) (flat_map with_lines relations) ≡ []
rows_none name [] a = refl
rows_none name (relation ∷ relations) a =
    filter-append (λ (row : RelationType × Arguments). bytes_eq row.0.name name) (with_lines relation) (flat_map with_lines relations)
    ∙ ap₂ (λ (xs ys : List (RelationType × Arguments)). xs ++ ys) (none relation.lines) (rows_none name relations a.1)
  where
    none : (lines : List Arguments) → filter (λ (row : RelationType × Arguments). bytes_eq row.0.name name) (map (λ line. (relation, line)) lines) ≡ []
    none [] = refl
    none (line ∷ lines) = cond-false (bytes_eq relation.name name) ((relation, line) ∷ filter (λ (row : RelationType × Arguments). bytes_eq row.0.name name) (map (λ line. (relation, line)) lines)) (filter (λ (row : RelationType × Arguments). bytes_eq row.0.name name) (map (λ line. (relation, line)) lines)) a.0 ∙ none lines

rows_own : (relation : RelationType) (lines : List Arguments)
    → map (λ (row : RelationType × Arguments). row.1) (filter (λ (row : RelationType × Arguments). bytes_eq row.0.name relation.name) (map (λ line. (relation, line)) lines)) ≡ lines
rows_own relation [] = refl
rows_own relation (line ∷ lines) =
    ap (map (λ (row : RelationType × Arguments). row.1))
    (cond-true (bytes_eq relation.name relation.name) ((relation, line) ∷ filter (λ (row : RelationType × Arguments). bytes_eq row.0.name relation.name) (map (λ line. (relation, line)) lines)) (filter (λ (row : RelationType × Arguments). bytes_eq row.0.name relation.name) (map (λ line. (relation, line)) lines)) (bytes_same relation.name relation.name refl))
    ∙ ap (λ (ls : List Arguments). line ∷ ls) (rows_own relation lines)

flat-append : (xs ys : List RelationType) → flat_map with_lines (xs ++ ys) ≡ flat_map with_lines xs ++ flat_map with_lines ys
flat-append [] ys = refl
flat-append (x ∷ xs) ys = ap (λ rows. with_lines x ++ rows) (flat-append xs ys) ∙ sym (append_assoc (with_lines x) (flat_map with_lines xs) (flat_map with_lines ys))

own_rows : (front : List RelationType) (relation : RelationType) (back : List RelationType) → AreApart (λ (r : RelationType). r.name) front relation back
    → map (λ (row : RelationType × Arguments). row.1) (filter (λ (row : RelationType × Arguments). bytes_eq row.0.name relation.name) (flat_map with_lines (front ++ relation ∷ back))) ≡ relation.lines
own_rows front relation back a =
    let q : (RelationType × Arguments) → Bool = λ row. bytes_eq row.0.name relation.name in
    ap (λ rows. map (λ (row : RelationType × Arguments). row.1) (filter (λ (row : RelationType × Arguments). bytes_eq row.0.name relation.name) rows)) (flat-append front (relation ∷ back))
    ∙ ap (map (λ (row : RelationType × Arguments). row.1))
    (filter-append q (flat_map with_lines front) (with_lines relation ++ flat_map with_lines back)
    ∙ ap₂ (λ (xs ys : List (RelationType × Arguments)). xs ++ ys) (rows_none relation.name front a.before)
    (filter-append q (with_lines relation) (flat_map with_lines back) ∙ ap (λ (ys : List (RelationType × Arguments)). filter q (with_lines relation) ++ ys) (rows_none relation.name back a.behind) ∙ append-nil (filter q (with_lines relation))))
    ∙ rows_own relation relation.lines

-- each relation type with its neighbours
pub each_apart : (all front back : List RelationType) → all ≡ front ++ back → stands_twice (map (λ (r : RelationType). r.name) all) ≡ false
    → Each (λ (relation : RelationType). map (λ (row : RelationType × Arguments). row.1) (filter (λ (row : RelationType × Arguments). bytes_eq row.0.name relation.name) (flat_map with_lines all)) ≡ relation.lines) back
each_apart all front [] is e = tt
each_apart all front (relation ∷ back) is e = (
  ap (λ rs. map (λ (row : RelationType × Arguments). row.1) (filter (λ (row : RelationType × Arguments). bytes_eq row.0.name relation.name) (flat_map with_lines rs))) is
      ∙ own_rows front relation back (are_apart (λ (r : RelationType). r.name) front relation back (ap (λ rs. stands_twice (map (λ (r : RelationType). r.name) rs)) (sym is) ∙ e)),
  each_apart all (front ++ relation ∷ []) back (is ∙ sym (append_assoc front (relation ∷ []) back)) e,
)

-- lines behind a line of their name are no first lines
none_first : (all front middle back : List NamedLine) (name : List ℕ) → all ≡ front ++ (middle ++ back) → Ascend (λ (line : NamedLine). line.number) all
    → list_any (λ (y : NamedLine). bytes_eq y.name name) front ≡ true → Each (λ (y : NamedLine). y.name ≡ name) middle → filter (is_first all) middle ≡ []
none_first all front [] back name is a some same = refl
none_first all front (y ∷ middle) back name is a some same =
    let stood : stood_before y.number y.name (of_named all) ≡ true =
    ap (λ ls. stood_before y.number y.name (of_named ls)) is ∙ stood_is front y (middle ++ back) (subst (Ascend (λ (line : NamedLine). line.number)) is a)
    ∙ ap (λ n. list_any (λ (z : NamedLine). bytes_eq z.name n) front) same.0 ∙ some in
    ap (λ b. cond (not b) (y ∷ filter (is_first all) middle) (filter (is_first all) middle)) stood
    ∙ none_first all (front ++ y ∷ []) middle back name (is ∙ sym (append_assoc front (y ∷ []) (middle ++ back))) a
    (list_any-append (λ (z : NamedLine). bytes_eq z.name name) front (y ∷ []) ∙ or_left (list_any (λ (z : NamedLine). bytes_eq z.name name) front) (bytes_eq y.name name || false) some) same.1

-- the first lines of relation types, by what does not read numbers
module _ {Z : Type 0} (conf : Configuration) (h : NamedLine → Z) (g : RelationType → Z) (all : List NamedLine) (ascend : Ascend (λ (line : NamedLine). line.number) all) where
  first_rows : (front : List NamedLine) (n : ℕ) (relations : List RelationType) → all ≡ front ++ numbered (written_relation conf) n (flat_map with_lines relations)
      → stands_twice (map (λ (r : RelationType). r.name) relations) ≡ false → Each (λ (r : RelationType). Each (λ (y : NamedLine). bytes_eq y.name r.name ≡ false) front) relations
      → Each (λ (r : RelationType). (0 < length r.lines) × ((k : ℕ) (line : Arguments) → h (written_relation conf k (r, line)) ≡ g r)) relations
      → map h (filter (is_first all) (numbered (written_relation conf) n (flat_map with_lines relations))) ≡ map g relations
  first_rows front n [] is once apart each = refl
  first_rows front n (r ∷ relations) is once apart each =
      go r.lines refl (each.0.0) is (λ more m. first_rows more m relations)
    where
      write : ℕ → RelationType × Arguments → NamedLine
      write = written_relation conf

      both : (is_among (map (λ (q : RelationType). q.name) relations) r.name ≡ false) × (stands_twice (map (λ (q : RelationType). q.name) relations) ≡ false)
      both = or_parts (is_among (map (λ (q : RelationType). q.name) relations) r.name) (stands_twice (map (λ (q : RelationType). q.name) relations)) once

      later : Each (λ (q : RelationType). bytes_eq r.name q.name ≡ false) relations
      later = each_of_map (λ name. bytes_eq r.name name ≡ false) (λ (q : RelationType). q.name) relations (each_fails (bytes_eq r.name) (map (λ (q : RelationType). q.name) relations) both.0)

      go : (lines : List Arguments) → r.lines ≡ lines → 0 < length lines → all ≡ front ++ numbered (written_relation conf) n (map (λ line. (r, line)) lines ++ flat_map with_lines relations)
          → ((more : List NamedLine) (m : ℕ) → all ≡ more ++ numbered (written_relation conf) m (flat_map with_lines relations)
          → stands_twice (map (λ (q : RelationType). q.name) relations) ≡ false → Each (λ (q : RelationType). Each (λ (y : NamedLine). bytes_eq y.name q.name ≡ false) more) relations
          → Each (λ (q : RelationType). (0 < length q.lines) × ((k : ℕ) (line : Arguments) → h (written_relation conf k (q, line)) ≡ g q)) relations
          → map h (filter (is_first all) (numbered (written_relation conf) m (flat_map with_lines relations))) ≡ map g relations)
          → map h (filter (is_first all) (numbered (written_relation conf) n (map (λ line. (r, line)) lines ++ flat_map with_lines relations))) ≡ g r ∷ map g relations
      go [] e some at rest = absurd (omega arith)
      go (line ∷ lines) e some at rest =
          let x : NamedLine = written_relation conf n (r, line) in
          let m : ℕ = n + 1 + length (map (λ l. (r, l)) lines) in
          let middle : List NamedLine = numbered (written_relation conf) (n + 1) (map (λ l. (r, l)) lines) in
          let back : List NamedLine = numbered (written_relation conf) m (flat_map with_lines relations) in
          let split : numbered (written_relation conf) (n + 1) (map (λ l. (r, l)) lines ++ flat_map with_lines relations) ≡ middle ++ back =
          numbered-split (written_relation conf) (n + 1) m (map (λ l. (r, l)) lines) (flat_map with_lines relations) refl in
          let whole : all ≡ front ++ x ∷ (middle ++ back) = at ∙ ap (λ ls. front ++ x ∷ ls) split in
          let own : stood_before x.number x.name (of_named all) ≡ false =
          ap (λ ls. stood_before x.number x.name (of_named ls)) whole ∙ stood_is front x (middle ++ back) (subst (Ascend (λ (l : NamedLine). l.number)) whole ascend) ∙ none_passes (λ (y : NamedLine). bytes_eq y.name r.name) front apart.0 in
          let named : Each (λ (y : NamedLine). y.name ≡ r.name) middle =
          Each-numbered (written_relation conf) (λ (y : NamedLine). y.name ≡ r.name) (n + 1) (map (λ l. (r, l)) lines)
          (Each-map (λ (row : RelationType × Arguments). (k : ℕ) → row.0.name ≡ r.name) (λ l. (r, l)) lines (each_always (λ (l : Arguments). (k : ℕ) → r.name ≡ r.name) (λ l k. refl) lines)) in
          let here : list_any (λ (y : NamedLine). bytes_eq y.name r.name) (front ++ x ∷ []) ≡ true =
          list_any-append (λ (y : NamedLine). bytes_eq y.name r.name) front (x ∷ [])
          ∙ or_right (list_any (λ (y : NamedLine). bytes_eq y.name r.name) front) (bytes_eq r.name r.name || false) (or_left (bytes_eq r.name r.name) false (bytes_same r.name r.name refl)) in
          let none : filter (is_first all) middle ≡ [] = none_first all (front ++ x ∷ []) middle back r.name (whole ∙ sym (append_assoc front (x ∷ []) (middle ++ back))) ascend here named in
          let fresh : Each (λ (q : RelationType). Each (λ (y : NamedLine). bytes_eq y.name q.name ≡ false) (front ++ x ∷ middle)) relations =
          each_both (λ (q : RelationType). Each (λ (y : NamedLine). bytes_eq y.name q.name ≡ false) front) (λ (q : RelationType). bytes_eq r.name q.name ≡ false) (λ (q : RelationType). Each (λ (y : NamedLine). bytes_eq y.name q.name ≡ false) (front ++ x ∷ middle))
          (λ q f other. Each-append (λ (y : NamedLine). bytes_eq y.name q.name ≡ false) front (x ∷ middle) f
          (other, each_weaker (λ (y : NamedLine). y.name ≡ r.name) (λ (y : NamedLine). bytes_eq y.name q.name ≡ false) (λ y same. ap (λ name. bytes_eq name q.name) same ∙ other) middle named)) relations apart.1 later in
          ap (λ b. map h (cond (not b) (x ∷ filter (is_first all) (numbered (written_relation conf) (n + 1) (map (λ l. (r, l)) lines ++ flat_map with_lines relations))) (filter (is_first all) (numbered (written_relation conf) (n + 1) (map (λ l. (r, l)) lines ++ flat_map with_lines relations))))) own
          ∙ ap₂ (λ (z : Z) (zs : List Z). z ∷ zs) (each.0.1 n line)
          (ap (λ ls. map h (filter (is_first all) ls)) split ∙ ap (map h) (filter-append (is_first all) middle back ∙ ap (λ (ls : List NamedLine). ls ++ filter (is_first all) back) none)
          ∙ rest (front ++ x ∷ middle) m (whole ∙ sym (append_assoc front (x ∷ middle) back)) both.1 fresh each.1)

pub relations_ascend : (conf : Configuration) → Ascend (λ (line : NamedLine). line.number) (written_file conf).relations
relations_ascend conf = Ascend-numbered (written_relation conf) (λ (line : NamedLine). line.number) (λ k row. refl) (relations_head conf + 1) (relation_rows conf)

each_relation : (conf : Configuration) → IsSound conf → Each (IsRelation conf) conf.relations
each_relation conf s = recursion_from_All (IsRelation conf) conf.relations s.relations

-- the first lines, whatever is asked of them
pub firsts_again : {Z : Type 0} (conf : Configuration) → IsSound conf → (h : NamedLine → Z) (g : RelationType → Z)
    → Each (λ (r : RelationType). (k : ℕ) (line : Arguments) → h (written_relation conf k (r, line)) ≡ g r) conf.relations → map h (firsts (written_file conf).relations) ≡ map g conf.relations
firsts_again conf s h g each =
    first_rows conf h g (written_file conf).relations (relations_ascend conf) [] (relations_head conf + 1) conf.relations refl s.relations_differ (each_always (λ (r : RelationType). Unit {0}) (λ r. tt) conf.relations)
    (each_both (IsRelation conf) (λ (r : RelationType). (k : ℕ) (line : Arguments) → h (written_relation conf k (r, line)) ≡ g r)
    (λ (r : RelationType). (0 < length r.lines) × ((k : ℕ) (line : Arguments) → h (written_relation conf k (r, line)) ≡ g r)) (λ r a b. (a.some, b)) conf.relations (each_relation conf s) each)

pub relation_names_again : (conf : Configuration) → IsSound conf → names_of (of_named (firsts (written_file conf).relations)) ≡ map (λ (r : RelationType). r.name) conf.relations
relation_names_again conf s =
    names_of_named (firsts (written_file conf).relations)
    ∙ firsts_again conf s (λ (line : NamedLine). line.name) (λ (r : RelationType). r.name) (each_always (λ (r : RelationType). (k : ℕ) (line : Arguments) → r.name ≡ r.name) (λ r k line. refl) conf.relations)

-- the file has the names of the configuration
pub has_names : (conf : Configuration) → IsSound conf → HasNames (written_file conf) conf
has_names conf s = record { macros = refl; types = type_names_again conf s; relations = relation_names_again conf s }

equivalence_again : (conf : Configuration) (row : RelationType × Arguments) → is_equivalence_line (relation_pieces conf row) ≡ row.0.equivalence
equivalence_again conf row =
    elim row.0.equivalence as (λ b. list_any (λ (piece : Piece). option_map_or (λ value. bytes_eq value (codes "symmetric-transitive")) (keyed_value (codes "REL-TYPE") piece) false) (cond b (Keyed (codes "REL-TYPE") (codes "symmetric-transitive") ∷ []) []) ≡ b) [
      | true ↦ refl
      | false ↦ refl
    ]

pub arguments_again : (conf : Configuration) → IsSound conf → (row : RelationType × Arguments) → AreArguments conf row.1 → arguments_of (written_file conf) (pairs_of (relation_pieces conf row)) ≡ row.1
arguments_again conf s row a =
    ap₂ (λ (first second : Alternatives). record { first = first; second = second }) (resolved_again (written_file conf) conf (has_names conf s) false row.1.first a.first)
    (resolved_again (written_file conf) conf (has_names conf s) false row.1.second a.second)

-- what each row keeps
pub each_row : (P : RelationType → Arguments → Type 0) (relations : List RelationType) → Each (λ (r : RelationType). Each (P r) r.lines) relations
    → Each (λ (row : RelationType × Arguments). P row.0 row.1) (flat_map with_lines relations)
each_row P [] a = tt
each_row P (r ∷ relations) a =
    Each-append (λ (row : RelationType × Arguments). P row.0 row.1) (with_lines r) (flat_map with_lines relations) (Each-map (λ (row : RelationType × Arguments). P row.0 row.1) (λ line. (r, line)) r.lines a.0) (each_row P relations a.1)

pub rows_sound : (conf : Configuration) → IsSound conf → Each (λ (row : RelationType × Arguments). IsRelation conf row.0 × AreArguments conf row.1) (relation_rows conf)
rows_sound conf s =
    each_row (λ r line. IsRelation conf r × AreArguments conf line) conf.relations
    (each_weaker (IsRelation conf) (λ (r : RelationType). Each (λ line. IsRelation conf r × AreArguments conf line) r.lines)
    (λ r a. each_weaker (AreArguments conf) (λ line. IsRelation conf r × AreArguments conf line) (λ line b. (a, b)) r.lines (recursion_from_All (AreArguments conf) r.lines a.lines)) conf.relations (each_relation conf s))

lines_again : (conf : Configuration) → IsSound conf → Each (λ (r : RelationType).
    map (λ (other : NamedLine). arguments_of (written_file conf) (pairs_of other.pieces)) (filter (λ (other : NamedLine). bytes_eq other.name r.name) (written_file conf).relations) ≡ r.lines) conf.relations
lines_again conf s =
    each_weaker (λ (r : RelationType). map (λ (row : RelationType × Arguments). row.1) (filter (λ (row : RelationType × Arguments). bytes_eq row.0.name r.name) (relation_rows conf)) ≡ r.lines) _
    (λ r own.
    filter-numbered (written_relation conf) (λ (other : NamedLine). bytes_eq other.name r.name) (λ (row : RelationType × Arguments). bytes_eq row.0.name r.name)
    (λ (other : NamedLine). arguments_of (written_file conf) (pairs_of other.pieces)) (λ (row : RelationType × Arguments). row.1) (relations_head conf + 1) (relation_rows conf) (λ k row. refl)
    (each_weaker (λ (row : RelationType × Arguments). IsRelation conf row.0 × AreArguments conf row.1) (λ (row : RelationType × Arguments). (k : ℕ) → arguments_of (written_file conf) (pairs_of (relation_pieces conf row)) ≡ row.1)
    (λ row a k. arguments_again conf s row a.1) (relation_rows conf) (rows_sound conf s))
    ∙ own) conf.relations (each_apart conf.relations [] conf.relations refl s.relations_differ)

pub relations_again : (conf : Configuration) → IsSound conf → (configuration_of (written_file conf)).relations ≡ conf.relations
relations_again conf s =
    firsts_again conf s (relation_of (written_file conf)) (λ r. r)
    (each_weaker (λ (r : RelationType). map (λ (other : NamedLine). arguments_of (written_file conf) (pairs_of other.pieces)) (filter (λ (other : NamedLine). bytes_eq other.name r.name) (written_file conf).relations) ≡ r.lines)
    (λ (r : RelationType). (k : ℕ) (line : Arguments) → relation_of (written_file conf) (written_relation conf k (r, line)) ≡ r)
    (λ r own k line. ap₂ (λ (e : Bool) (ls : List Arguments). record { name = r.name; first = r.first; second = r.second; equivalence = e; lines = ls }) (equivalence_again conf (r, line)) own) conf.relations (lines_again conf s))
    ∙ map-id conf.relations
