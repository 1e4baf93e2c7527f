-- The places that an alternative holds, and one alternative more.
use Rattle.std.proofs.Common.{◌≡◌, ℕ, ◌+◌, ◌-◌, ◌<◌, ◌≤◌, Bool, true, false, cond, List, [], ◌∷◌, ◌++◌, Option, Some, None, option_map, suc, length, get_or, take, map, find, nat_lt, bytes_eq, codes, is_some, refl, sym, ◌∙◌, ap, arith}
use Rattle.std.specs.List.{position_from}
use Rattle.std.specs.Option.{option_or, option_map_or}
use Rattle.std.proofs.lemmas.Bool.{lt-ltb, le-ltb}
use Rattle.std.proofs.lemmas.List.{take_more, map-append, append_assoc, append-nil, length-map, get_or-map, get_or-take}
use Rattle.std.proofs.lemmas.Option.{same_Some}
use Rattle.annotation_conf.specs.declared.build_places.Table.{Table}
use Rattle.annotation_conf.specs.declared.faults_macros.Kinds.{Kinds}
use Rattle.annotation_conf.specs.declared.file.File.{File as FileValue}
use Rattle.annotation_conf.specs.declared.file.MacroLine.{MacroLine as MacroLineValue}
use Rattle.annotation_conf.specs.declared.pieces.Alternative.{Alternative as AlternativeValue}
use Rattle.conf_model.specs.ConfPairs.{Alternative, Named, Held}
use Rattle.conf_model.specs.ConfNames.{File, MacroLine, Holding, all_held, one_held, none_held, macro_named, built_in}
use Rattle.conf_model.specs.ConfFaults.{Declared, names_of}
use Rattle.conf_model.specs.ConfOf.{places_of}
use Rattle.annotation_conf.specs.FileKept.{KeptMacro, kept_macro}
use Rattle.annotation_conf.specs.FileShows.{seen_macro, seen_alternative}
use Rattle.annotation_conf.specs.NamePlaces.{is_called, place_among}
use Rattle.annotation_conf.specs.KnownFiles.{of_macros, IsKnown}
use Rattle.annotation_conf.specs.KnownMacros.{kinds_of, AreBuiltIn}
use Rattle.annotation_conf.specs.BuildPlaces.{names_in, places_held, AreFirstPlaces, places_by, inserted}
use Rattle.annotation_conf.proofs.FaultMacros.{FoundAt, found_at, found_nowhere, no_macro}
use Rattle.annotation_conf.proofs.BuildOrder.{places_join, places_of_none}

-- a place by the names alone
pub place_same : (name : List ℕ) (i : ℕ) (all : List Declared) → position_from (is_called name) i all ≡ position_from (λ one. bytes_eq one name) i (names_of all)
place_same name i [] = refl
place_same name i (one ∷ all) = ap (λ o. cond (bytes_eq one.name name) (Some i) o) (place_same name (i + 1) all)

first_step : (b : Bool) (i place : ℕ) (o p : Option ℕ) → (o ≡ Some place → p ≡ Some place) → cond b (Some i) o ≡ Some place → cond b (Some i) p ≡ Some place
first_step true i place o p more found = found
first_step false i place o p more found = more found

second_step : (b : Bool) (i : ℕ) (o p r : Option ℕ) → (o ≡ None → p ≡ r) → cond b (Some i) o ≡ None → cond b (Some i) p ≡ r
second_step true i o p r more none = absurd (cc)
second_step false i o p r more none = more none

map_cond : (b : Bool) (i k : ℕ) (o : Option ℕ) → cond b (Some (k + i)) (option_map (λ place. k + place) o) ≡ option_map (λ place. k + place) (cond b (Some i) o)
map_cond true i k o = refl
map_cond false i k o = refl

-- places in two lists of names
pub place_in_first : (t : Declared → Bool) (i place : ℕ) (xs ys : List Declared) → position_from t i xs ≡ Some place → position_from t i (xs ++ ys) ≡ Some place
place_in_first t i place [] ys found = cc
place_in_first t i place (x ∷ xs) ys found = first_step (t x) i place (position_from t (i + 1) xs) (position_from t (i + 1) (xs ++ ys)) (place_in_first t (i + 1) place xs ys) found

pub place_in_second : (t : Declared → Bool) (i : ℕ) (xs ys : List Declared) → position_from t i xs ≡ None → position_from t i (xs ++ ys) ≡ position_from t (i + length xs) ys
place_in_second t i [] ys none = let same : i ≡ i + 0 = omega arith in ap (λ k. position_from t k ys) same
place_in_second t i (x ∷ xs) ys none =
    let same : i + 1 + length xs ≡ i + suc (length xs) = omega arith in
    second_step (t x) i (position_from t (i + 1) xs) (position_from t (i + 1) (xs ++ ys)) (position_from t (i + suc (length xs)) ys)
    (λ e. place_in_second t (i + 1) xs ys e ∙ ap (λ k. position_from t k ys) same) none

pub place_later : (t : Declared → Bool) (i k : ℕ) (xs : List Declared) → position_from t (k + i) xs ≡ option_map (λ place. k + place) (position_from t i xs)
place_later t i k [] = refl
place_later t i k (x ∷ xs) =
    let same : k + i + 1 ≡ k + (i + 1) = omega arith in
    ap (λ o. cond (t x) (Some (k + i)) o) (ap (λ j. position_from t j xs) same ∙ place_later t (i + 1) k xs)
    ∙ map_cond (t x) i k (position_from t (i + 1) xs)

-- a built-in macro holds no name
built_step : (a b c d : Bool) (h : Holding)
    → cond a (Some (record { entity = true; event = false; any = false; relation = false; names = [] }))
    (cond b (Some (record { entity = false; event = true; any = false; relation = false; names = [] }))
    (cond c (Some (record { entity = false; event = false; any = true; relation = false; names = [] }))
    (cond d (Some (record { entity = false; event = false; any = false; relation = true; names = [] })) None))) ≡ Some h → h.names ≡ []
built_step true b c d h e = sym (ap (λ (x : Holding). x.names) (same_Some _ h e))
built_step false true c d h e = sym (ap (λ (x : Holding). x.names) (same_Some _ h e))
built_step false false true d h e = sym (ap (λ (x : Holding). x.names) (same_Some _ h e))
built_step false false false true h e = sym (ap (λ (x : Holding). x.names) (same_Some _ h e))
built_step false false false false h e = absurd (cc)

built_names : (name : List ℕ) (h : Holding) → built_in name ≡ Some h → h.names ≡ []
built_names name h e = built_step (bytes_eq name (codes "ENTITY")) (bytes_eq name (codes "EVENT")) (bytes_eq name (codes "ANY")) (bytes_eq name (codes "RELATION")) h e

held_built_step : (file : File) (table : Table) (name : List ℕ) (rest o : Option Holding) → built_in name ≡ o → is_some (option_map (kinds_of file) o) ≡ true
    → [] ≡ option_map_or (places_held file table) (option_or o rest) []
held_built_step file table name rest None is some = cc
held_built_step file table name rest (Some h) is some =
    sym (ap (λ xs. places_of xs (names_in file table)) (built_names name h is) ∙ places_of_none (names_in file table))

pub held_built : (file : File) (table : Table) (count : ℕ) (name : List ℕ) (kinds : Option Kinds) → AreBuiltIn name kinds → is_some kinds ≡ true
    → [] ≡ option_map_or (places_held file table) (macro_named (take count file.macros) name) []
held_built file table count name kinds are some =
    held_built_step file table name (option_map (λ macro. macro.holding) (find (λ macro. bytes_eq macro.name name) (take count file.macros))) (built_in name) refl
    (sym (ap is_some (are file)) ∙ some)

no_built : (f : Holding → Kinds) (o : Option Holding) → is_some (option_map f o) ≡ false → o ≡ None
no_built f None e = refl
no_built f (Some h) e = cc

-- what is held of a name that is not built in
macro_is : (file : File) (count : ℕ) (name : List ℕ) (kinds : Option Kinds) → AreBuiltIn name kinds → is_some kinds ≡ false
    → macro_named (take count file.macros) name ≡ option_map (λ macro. macro.holding) (find (λ macro. bytes_eq macro.name name) (take count file.macros))
macro_is file count name kinds are none =
    ap (λ o. option_or o (option_map (λ macro. macro.holding) (find (λ macro. bytes_eq macro.name name) (take count file.macros))))
    (no_built (kinds_of file) (built_in name) (sym (ap is_some (are file)) ∙ none))

pub held_found : (file : File) (table : Table) (lists : List (List ℕ)) (name : List ℕ) (kinds : Option Kinds) (place : ℕ) (d : List ℕ) → AreBuiltIn name kinds → is_some kinds ≡ false
    → AreFirstPlaces file table lists → place_among (of_macros file.macros) name ≡ Some place → place < length lists
    → get_or lists place d ≡ option_map_or (places_held file table) (macro_named (take (length lists) file.macros) name) []
held_found file table lists name kinds place d are none first is less =
    let there : FoundAt file.macros (length lists) 0 place name = found_at file.macros (length lists) 0 place name is in
    let same : place - 0 ≡ place = omega arith in
    let size : length lists ≡ length (take (length lists) file.macros) = ap length first ∙ length-map (take (length lists) file.macros) (λ (macro : MacroLine). places_held file table macro.holding) in
    let inside : place < length (take (length lists) file.macros) = omega (arith, size) in
    ap (λ xs. get_or xs place d) first
    ∙ get_or-map (λ (macro : MacroLine). places_held file table macro.holding) (take (length lists) file.macros) place no_macro d inside
    ∙ ap (λ (macro : MacroLine). places_held file table macro.holding) (get_or-take (length lists) file.macros place no_macro less)
    ∙ sym (ap (λ o. option_map_or (places_held file table) o []) (macro_is file (length lists) name kinds are none
    ∙ ap (option_map (λ macro. macro.holding)) (there.found no_macro ∙ ap (λ k. cond (nat_lt k (length lists)) (Some (get_or file.macros k no_macro)) None) same
    ∙ ap (λ b. cond b (Some (get_or file.macros place no_macro)) None) (lt-ltb place (length lists) less))))

pub held_later : (file : File) (table : Table) (count : ℕ) (name : List ℕ) (kinds : Option Kinds) (place : ℕ) → AreBuiltIn name kinds → is_some kinds ≡ false
    → place_among (of_macros file.macros) name ≡ Some place → count ≤ place → [] ≡ option_map_or (places_held file table) (macro_named (take count file.macros) name) []
held_later file table count name kinds place are none is past =
    let there : FoundAt file.macros count 0 place name = found_at file.macros count 0 place name is in
    let same : place - 0 ≡ place = omega arith in
    sym (ap (λ o. option_map_or (places_held file table) o []) (macro_is file count name kinds are none
    ∙ ap (option_map (λ macro. macro.holding)) (there.found no_macro ∙ ap (λ k. cond (nat_lt k count) (Some (get_or file.macros k no_macro)) None) same
    ∙ ap (λ b. cond b (Some (get_or file.macros place no_macro)) None) (le-ltb place count past))))

pub held_no : (file : File) (table : Table) (count : ℕ) (name : List ℕ) (kinds : Option Kinds) → AreBuiltIn name kinds → is_some kinds ≡ false
    → place_among (of_macros file.macros) name ≡ None → [] ≡ option_map_or (places_held file table) (macro_named (take count file.macros) name) []
held_no file table count name kinds are none is =
    sym (ap (λ o. option_map_or (places_held file table) o []) (macro_is file count name kinds are none
    ∙ ap (option_map (λ macro. macro.holding)) (found_nowhere file.macros count 0 name is)))

-- one alternative more
names_push : (macros : List MacroLine) (all : List Alternative) (one : Alternative) → (all_held macros (all ++ one ∷ [])).names ≡ (all_held macros all).names ++ (one_held macros one).names
names_push macros [] one = append-nil (one_held macros one).names
names_push macros (x ∷ all) one =
    ap (λ xs. (one_held macros x).names ++ xs) (names_push macros all one) ∙ sym (append_assoc (one_held macros x).names (all_held macros all).names (one_held macros one).names)

one_step : (file : File) (table : Table) (o : Option Holding) → option_map_or (places_held file table) o [] ≡ places_of (option_map_or (λ holding. holding) o none_held).names (names_in file table)
one_step file table None = sym (places_of_none (names_in file table))
one_step file table (Some h) = refl

one_places : (file : File) (table : Table) (count : ℕ) (one : Alternative) → places_by file table count one ≡ places_of (one_held (take count file.macros) one).names (names_in file table)
one_places file table count (Named name) = refl
one_places file table count (Held name) = one_step file table (macro_named (take count file.macros) name)

pub places_push : (file : File) (table : Table) (count : ℕ) (all : List AlternativeValue) (i : ℕ) (d : AlternativeValue) (before : List ℕ) → i < length all
    → before ≡ places_held file table (all_held (take count file.macros) (map seen_alternative (take i all)))
    → inserted before (places_by file table count (seen_alternative (get_or all i d))) ≡ places_held file table (all_held (take count file.macros) (map seen_alternative (take (i + 1) all)))
places_push file table count all i d before within so =
    let macros : List MacroLine = take count file.macros in
    let one : Alternative = seen_alternative (get_or all i d) in
    ap (λ b. inserted b (places_by file table count one)) so
    ∙ ap (inserted (places_held file table (all_held macros (map seen_alternative (take i all))))) (one_places file table count one)
    ∙ places_join (all_held macros (map seen_alternative (take i all))).names (one_held macros one).names (names_in file table)
    ∙ ap (λ xs. places_of xs (names_in file table)) (sym (names_push macros (map seen_alternative (take i all)) one))
    ∙ sym (ap (λ xs. places_held file table (all_held macros xs)) (ap (map seen_alternative) (take_more all i d within) ∙ map-append seen_alternative (take i all) (get_or all i d ∷ [])))

-- one macro more
pub lists_more : (file : File) (table : Table) (macros : List MacroLine) (i : ℕ) (d : MacroLine) → i < length macros
    → map (λ (macro : MacroLine). places_held file table macro.holding) (take (i + 1) macros)
    ≡ map (λ (macro : MacroLine). places_held file table macro.holding) (take i macros) ++ places_held file table (get_or macros i d).holding ∷ []
lists_more file table macros i d within =
    ap (map (λ (macro : MacroLine). places_held file table macro.holding)) (take_more macros i d within)
    ∙ map-append (λ (macro : MacroLine). places_held file table macro.holding) (take i macros) (get_or macros i d ∷ [])

pub places_of_next : (file : File) (table : Table) (values : FileValue) → IsKnown values file → (i : ℕ) (d : MacroLineValue) → i < length values.macros.items
    → places_held file table (all_held (take i file.macros) (map seen_alternative (get_or values.macros.items i d).alternatives.items)) ≡ places_held file table (get_or file.macros i no_macro).holding
places_of_next file table values known i d within =
    let size : length values.macros.items ≡ length file.macros =
    sym (length-map values.macros.items seen_macro) ∙ ap length known.shows.macros ∙ length-map file.macros kept_macro in
    let inside : i < length file.macros = omega (arith, size) in
    let same : seen_macro (get_or values.macros.items i d) ≡ kept_macro (get_or file.macros i no_macro) =
    sym (get_or-map seen_macro values.macros.items i d (seen_macro d) within)
    ∙ ap (λ xs. get_or xs i (seen_macro d)) known.shows.macros ∙ get_or-map kept_macro file.macros i no_macro (seen_macro d) inside in
    ap (λ (k : KeptMacro). places_held file table (all_held (take i file.macros) k.alternatives)) same
    ∙ sym (ap (places_held file table) (known.held i no_macro inside))
