-- The fault of a line by its values is the fault of the line.
use Rattle.std.proofs.Common.{◌≡◌, ℕ, ◌||◌, ◌&&◌, Bool, true, false, not, cond, List, [], ◌∷◌, ◌++◌, Option, Some, None, option_map, length, take, map, filter, nat_lt, is_some, is_none, bytes_eq, codes, refl, sym, ◌∙◌, ap}
use Rattle.std.specs.List.{list_any, filter_map, cons_option}
use Rattle.std.specs.Option.{option_map_or}
use Rattle.std.proofs.lemmas.List.{length-map}
use Rattle.conf_model.specs.declared.conf_fault.ConfWhat.{ConfWhat}
use Rattle.conf_model.specs.declared.conf_fault.ConfWhat.TheVariants.{BadIndent, BadName, NameTwice, BadCount, BadArgument, UnknownTypeNamed, UnknownMacro, TooManyTypes}
use Rattle.annotation_conf.specs.declared.pieces.Alternative.{Alternative as AlternativeValue}
use Rattle.annotation_conf.specs.declared.pieces.Alternative.TheVariants.{Named as NamedValue, Held as HeldValue}
use Rattle.annotation_conf.specs.declared.pieces.RolePair.{RolePair as RolePairValue}
use Rattle.annotation_conf.specs.declared.file.TypeLine.{TypeLine as TypeLineValue}
use Rattle.annotation_conf.specs.declared.file.NamedLine.{NamedLine as NamedLineValue}
use Rattle.annotation_conf.specs.declared.file.MacroLine.{MacroLine as MacroLineValue}
use Rattle.conf_model.specs.ConfPairs.{Alternative, Piece, Shapeless, Keyed, Pair, count_of}
use Rattle.conf_model.specs.ConfNames.{TypeLine, NamedLine, MacroLine, Holding, File, macro_named}
use Rattle.conf_model.specs.ConfFaults.{RolePair, first_told, names_badly, values_badly, is_values, stands_twice, is_no_name, is_no_declared, word_of, is_among, is_unknown, is_unheld, names_of, bound_names, declared_names, kinds_lead, of_types, of_named, firsts, stood_before, are_past, is_binary, are_arguments, is_attribute, has_kinds, same_words, same_truth, first_line, is_too_deep, type_fault, relation_fault, overlap_fault, attribute_fault, macro_fault, pairs_of, is_shapeless, keyed_value, is_equivalence_line, agrees, line_before}
use Rattle.annotation_conf.specs.FileKept.{KeyedPair, KeptType, KeptNamed, KeptMacro, kept_type, kept_named, kept_macro, keyed_of}
use Rattle.annotation_conf.specs.FileShows.{seen_alternative, seen_pair, seen_keyed, seen_type, seen_named, seen_macro}
use Rattle.annotation_conf.specs.FaultsTold.{is_undeclared, too_deep, named_badly, marked_badly, names_no_type, unheld_in, type_told, mark_equivalence, agree_kept, agrees_with_first, relation_told, kinds_in, overlap_told, values_twice, target_names_nothing, target_unheld, targets_name_nothing, targets_unheld, has_many_values, many_values_in, attribute_told, macro_told}
use Rattle.annotation_conf.proofs.FaultLists.{list_any_map, list_any_same, map_twice}
use Rattle.annotation_conf.proofs.FaultKnown.{filter_through}

-- a test of the alternatives of pairs
pairs_any : (p : Alternative → Bool) (pairs : List RolePairValue)
    → list_any (λ pair. list_any (λ one. p (seen_alternative one)) pair.alternatives.items) pairs ≡ list_any (λ pair. list_any p pair.alternatives) (map seen_pair pairs)
pairs_any p pairs =
    sym (list_any_map (λ pair. list_any p pair.alternatives) seen_pair pairs
    ∙ list_any_same (λ pair. list_any p (map seen_alternative pair.alternatives.items)) (λ pair. list_any (λ one. p (seen_alternative one)) pair.alternatives.items) pairs
    (λ pair. list_any_map p seen_alternative pair.alternatives.items))

-- a chain of tests
told_same : (a b c d e f g h a' b' c' d' e' f' g' h' : Bool) (s t u v w x y z : ConfWhat)
    → a ≡ a' → b ≡ b' → c ≡ c' → d ≡ d' → e ≡ e' → f ≡ f' → g ≡ g' → h ≡ h'
    → first_told ((a, s) ∷ (b, t) ∷ (c, u) ∷ (d, v) ∷ (e, w) ∷ (f, x) ∷ (g, y) ∷ (h, z) ∷ []) ≡ first_told ((a', s) ∷ (b', t) ∷ (c', u) ∷ (d', v) ∷ (e', w) ∷ (f', x) ∷ (g', y) ∷ (h', z) ∷ [])
told_same a b c d e f g h a' b' c' d' e' f' g' h' s t u v w x y z p q r i j k l m = cc

too_deep_same : (depth : ℕ) (line : Option TypeLine) → is_too_deep depth line ≡ too_deep depth (option_map (λ l. l.depth) line)
too_deep_same depth None = refl
too_deep_same depth (Some line) = refl

-- the fault of a type line
pub type_is : (file : File) (section : List TypeLine) (before : Option TypeLine) (values : List RolePairValue) (pairs : List RolePair) (shapeless : Bool) (value : TypeLineValue) (line : TypeLine)
    → line_before line.number section ≡ before → map seen_pair values ≡ pairs → seen_type value ≡ kept_type line
    → type_told file (option_map (λ l. l.depth) before) values shapeless value ≡ type_fault file section pairs shapeless line
unfolding type_told
type_is file section before values pairs shapeless value line front shown same =
    let number : value.number ≡ line.number = ap (λ (k : KeptType). k.number) same in
    let depth : value.depth ≡ line.depth = ap (λ (k : KeptType). k.depth) same in
    let spaced : value.spaced ≡ line.spaced = ap (λ (k : KeptType). k.spaced) same in
    let gapped : value.gapped ≡ line.gapped = ap (λ (k : KeptType). k.gapped) same in
    let name : value.name ≡ line.name = ap (λ (k : KeptType). k.name) same in
    told_same _ _ _ _ _ _ _ _ _ _ _ _ _ _ _ _ BadIndent BadName NameTwice BadCount BadArgument UnknownTypeNamed UnknownMacro TooManyTypes
    (ap (λ b. b || too_deep value.depth (option_map (λ l. l.depth) before)) spaced
    ∙ ap (λ d. line.spaced || too_deep d (option_map (λ l. l.depth) before)) depth
    ∙ ap (λ b. line.spaced || b) (sym (too_deep_same line.depth before))
    ∙ ap (λ o. line.spaced || is_too_deep line.depth o) (sym front))
    (ap (λ b. b || is_no_declared value.name || named_badly values) gapped
    ∙ ap (λ n. line.gapped || is_no_declared n || named_badly values) name
    ∙ ap (λ b. line.gapped || is_no_declared line.name || b) (sym (list_any_map names_badly seen_pair values) ∙ ap (list_any names_badly) shown))
    (ap (λ n. stood_before n value.name (bound_names file) || stands_twice (map (λ pair. (seen_pair pair).role) values)) number
    ∙ ap (λ n. stood_before line.number n (bound_names file) || stands_twice (map (λ pair. (seen_pair pair).role) values)) name
    ∙ ap (λ xs. stood_before line.number line.name (bound_names file) || stands_twice xs)
    (sym (map_twice (λ (pair : RolePair). pair.role) seen_pair values) ∙ ap (map (λ (pair : RolePair). pair.role)) shown))
    (sym (list_any_map (λ (pair : RolePair). is_none (count_of pair.mark)) seen_pair values) ∙ ap (list_any (λ (pair : RolePair). is_none (count_of pair.mark))) shown)
    refl
    (pairs_any (is_unknown file.macros (declared_names file) (names_of (bound_names file))) values
    ∙ ap (list_any (λ (pair : RolePair). list_any (is_unknown file.macros (declared_names file) (names_of (bound_names file))) pair.alternatives)) shown)
    (pairs_any (is_unheld file.macros false) values ∙ ap (list_any (λ (pair : RolePair). list_any (is_unheld file.macros false) pair.alternatives)) shown)
    (ap (λ n. are_past 256 n (bound_names file) || are_past 63 n (of_types (filter (λ one. one.usable) (file.entities ++ file.events))) || nat_lt 256 (length values)) number
    ∙ ap (λ n. are_past 256 line.number (bound_names file) || are_past 63 line.number (of_types (filter (λ one. one.usable) (file.entities ++ file.events))) || nat_lt 256 n)
    (sym (length-map values seen_pair) ∙ ap length shown))

keyed_step : (value : List ℕ) (b : Bool) → option_map_or (λ v. bytes_eq v (codes "symmetric-transitive")) (cond b (Some value) None) false ≡ (b && bytes_eq value (codes "symmetric-transitive"))
keyed_step value true = refl
keyed_step value false = refl

keyed_test : (key value : List ℕ) → option_map_or (λ v. bytes_eq v (codes "symmetric-transitive")) (cond (bytes_eq key (codes "REL-TYPE")) (Some value) None) false
    ≡ (bytes_eq key (codes "REL-TYPE") && bytes_eq value (codes "symmetric-transitive"))
keyed_test key value = keyed_step value (bytes_eq key (codes "REL-TYPE"))

kinds_step : (key value : List ℕ) (more : List (List ℕ)) (rest : List KeyedPair) → more ≡ map (λ (pair : KeyedPair). pair.value) rest → (b : Bool)
    → cons_option (cond b (Some value) None) more ≡ map (λ (pair : KeyedPair). pair.value) (cond b (record { key = key; value = value } ∷ rest) rest)
kinds_step key value more rest same true = ap (λ r. value ∷ r) same
kinds_step key value more rest same false = same

-- what marks an equivalence, and the kinds of an overlap line, by the pairs with a bracketed key
pub equivalence_is : (pieces : List Piece) → is_equivalence_line pieces ≡ mark_equivalence (keyed_of pieces)
equivalence_is [] = refl
equivalence_is (Shapeless ∷ pieces) = equivalence_is pieces
equivalence_is (Pair _ _ _ ∷ pieces) = equivalence_is pieces
equivalence_is (Keyed key value ∷ pieces) = ap (λ b. b || is_equivalence_line pieces) (keyed_test key value) ∙ ap (λ b. (bytes_eq key (codes "REL-TYPE") && bytes_eq value (codes "symmetric-transitive")) || b) (equivalence_is pieces)

pub kinds_are : (pieces : List Piece) → filter_map (keyed_value (codes "OVL-TYPE")) pieces ≡ map (λ (pair : KeyedPair). pair.value) (filter (λ (pair : KeyedPair). bytes_eq pair.key (codes "OVL-TYPE")) (keyed_of pieces))
kinds_are [] = refl
kinds_are (Shapeless ∷ pieces) = kinds_are pieces
kinds_are (Pair _ _ _ ∷ pieces) = kinds_are pieces
kinds_are (Keyed key value ∷ pieces) =
    kinds_step key value (filter_map (keyed_value (codes "OVL-TYPE")) pieces) (filter (λ (pair : KeyedPair). bytes_eq pair.key (codes "OVL-TYPE")) (keyed_of pieces)) (kinds_are pieces) (bytes_eq key (codes "OVL-TYPE"))

told6 : (a b c d e f a' b' c' d' e' f' : Bool) (s t u v w x : ConfWhat)
    → a ≡ a' → b ≡ b' → c ≡ c' → d ≡ d' → e ≡ e' → f ≡ f'
    → first_told ((a, s) ∷ (b, t) ∷ (c, u) ∷ (d, v) ∷ (e, w) ∷ (f, x) ∷ []) ≡ first_told ((a', s) ∷ (b', t) ∷ (c', u) ∷ (d', v) ∷ (e', w) ∷ (f', x) ∷ [])
told6 a b c d e f a' b' c' d' e' f' s t u v w x p q r i j k = cc

told5 : (a b c d e a' b' c' d' e' : Bool) (s t u v w : ConfWhat)
    → a ≡ a' → b ≡ b' → c ≡ c' → d ≡ d' → e ≡ e'
    → first_told ((a, s) ∷ (b, t) ∷ (c, u) ∷ (d, v) ∷ (e, w) ∷ []) ≡ first_told ((a', s) ∷ (b', t) ∷ (c', u) ∷ (d', v) ∷ (e', w) ∷ [])
told5 a b c d e a' b' c' d' e' s t u v w p q r i j = cc

told7 : (a b c d e f g a' b' c' d' e' f' g' : Bool) (s t u v w x y : ConfWhat)
    → a ≡ a' → b ≡ b' → c ≡ c' → d ≡ d' → e ≡ e' → f ≡ f' → g ≡ g'
    → first_told ((a, s) ∷ (b, t) ∷ (c, u) ∷ (d, v) ∷ (e, w) ∷ (f, x) ∷ (g, y) ∷ []) ≡ first_told ((a', s) ∷ (b', t) ∷ (c', u) ∷ (d', v) ∷ (e', w) ∷ (f', x) ∷ (g', y) ∷ [])
told7 a b c d e f g a' b' c' d' e' f' g' s t u v w x y p q r i j k l = cc

told4 : (a b c d a' b' c' d' : Bool) (s t u v : ConfWhat) → a ≡ a' → b ≡ b' → c ≡ c' → d ≡ d'
    → first_told ((a, s) ∷ (b, t) ∷ (c, u) ∷ (d, v) ∷ []) ≡ first_told ((a', s) ∷ (b', t) ∷ (c', u) ∷ (d', v) ∷ [])
told4 a b c d a' b' c' d' s t u v p q r i = cc

named_shown : (values : List RolePairValue) (pairs : List RolePair) → map seen_pair values ≡ pairs → named_badly values ≡ list_any names_badly pairs
named_shown values pairs shown = sym (list_any_map names_badly seen_pair values) ∙ ap (list_any names_badly) shown

marked_shown : (values : List RolePairValue) (pairs : List RolePair) → map seen_pair values ≡ pairs → marked_badly values ≡ list_any (λ (pair : RolePair). is_none (count_of pair.mark)) pairs
marked_shown values pairs shown =
    sym (list_any_map (λ (pair : RolePair). is_none (count_of pair.mark)) seen_pair values) ∙ ap (list_any (λ (pair : RolePair). is_none (count_of pair.mark))) shown

no_type_shown : (file : File) (values : List RolePairValue) (pairs : List RolePair) → map seen_pair values ≡ pairs
    → names_no_type file values ≡ list_any (λ (pair : RolePair). list_any (is_unknown file.macros (declared_names file) (names_of (bound_names file))) pair.alternatives) pairs
no_type_shown file values pairs shown =
    pairs_any (is_unknown file.macros (declared_names file) (names_of (bound_names file))) values
    ∙ ap (list_any (λ (pair : RolePair). list_any (is_unknown file.macros (declared_names file) (names_of (bound_names file))) pair.alternatives)) shown

unheld_shown : (file : File) (values : List RolePairValue) (pairs : List RolePair) → map seen_pair values ≡ pairs
    → unheld_in file values ≡ list_any (λ (pair : RolePair). list_any (is_unheld file.macros false) pair.alternatives) pairs
unheld_shown file values pairs shown =
    pairs_any (is_unheld file.macros false) values ∙ ap (list_any (λ (pair : RolePair). list_any (is_unheld file.macros false) pair.alternatives)) shown

agree_step : (line : NamedLine) (o : Option NamedLine) → option_map_or (λ first. agree_kept (kept_named first) (kept_named line)) o true ≡ option_map_or (agrees line) o true
agree_step line None = refl
agree_step line (Some first) =
    ap (λ b. same_words (map (λ (pair : RolePair). pair.role) (pairs_of first.pieces)) (map (λ (pair : RolePair). pair.role) (pairs_of line.pieces)) && same_truth b (mark_equivalence (keyed_of line.pieces))) (sym (equivalence_is first.pieces))
    ∙ ap (λ b. same_words (map (λ (pair : RolePair). pair.role) (pairs_of first.pieces)) (map (λ (pair : RolePair). pair.role) (pairs_of line.pieces)) && same_truth (is_equivalence_line first.pieces) b) (sym (equivalence_is line.pieces))

-- the fault of a line of a relation type
pub relation_is : (file : File) (value : NamedLineValue) (line : NamedLine) → seen_named value ≡ kept_named line → relation_told file value ≡ relation_fault file line
unfolding relation_told
relation_is file value line same =
    let values : List RolePairValue = value.pieces.pairs.items in
    let number : value.number ≡ line.number = ap (λ (k : KeptNamed). k.number) same in
    let name : value.name ≡ line.name = ap (λ (k : KeptNamed). k.name) same in
    let shown : map seen_pair values ≡ pairs_of line.pieces = ap (λ (k : KeptNamed). k.behind.pairs) same in
    let shapeless : value.pieces.shapeless ≡ list_any is_shapeless line.pieces = ap (λ (k : KeptNamed). k.behind.shapeless) same in
    let agreeing : agrees_with_first file value ≡ option_map_or (agrees line) (first_line file.relations line.name) true =
    ap (λ (k : KeptNamed). option_map_or (λ first. agree_kept (kept_named first) k) (first_line file.relations value.name) true) same
    ∙ ap (λ n. option_map_or (λ first. agree_kept (kept_named first) (kept_named line)) (first_line file.relations n) true) name
    ∙ agree_step line (first_line file.relations line.name) in
    told6 _ _ _ _ _ _ _ _ _ _ _ _ BadName BadCount BadArgument UnknownTypeNamed UnknownMacro TooManyTypes
    (ap (λ n. is_no_declared n || named_badly values) name ∙ ap (λ b. is_no_declared line.name || b) (named_shown values (pairs_of line.pieces) shown))
    (marked_shown values (pairs_of line.pieces) shown)
    (ap (λ b. b || not (is_binary (map seen_pair values)) || not (agrees_with_first file value)) shapeless
    ∙ ap (λ xs. list_any is_shapeless line.pieces || not (is_binary xs) || not (agrees_with_first file value)) shown
    ∙ ap (λ b. list_any is_shapeless line.pieces || not (is_binary (pairs_of line.pieces)) || not b) agreeing)
    (no_type_shown file values (pairs_of line.pieces) shown)
    (unheld_shown file values (pairs_of line.pieces) shown)
    (ap (λ n. are_past 256 n (of_named (firsts file.relations))) number)

-- the fault of an overlap line
pub overlap_is : (file : File) (value : NamedLineValue) (line : NamedLine) → seen_named value ≡ kept_named line → overlap_told file value ≡ overlap_fault file line
unfolding overlap_told
overlap_is file value line same =
    let values : List RolePairValue = value.pieces.pairs.items in
    let shown : map seen_pair values ≡ pairs_of line.pieces = ap (λ (k : KeptNamed). k.behind.pairs) same in
    let shapeless : value.pieces.shapeless ≡ list_any is_shapeless line.pieces = ap (λ (k : KeptNamed). k.behind.shapeless) same in
    let keyed : map seen_keyed value.pieces.keyed.items ≡ keyed_of line.pieces = ap (λ (k : KeptNamed). k.behind.keyed) same in
    let late : value.pieces.late ≡ kinds_lead line.pieces = ap (λ (k : KeptNamed). k.behind.late) same in
    let kinds : kinds_in value.pieces.keyed.items ≡ filter_map (keyed_value (codes "OVL-TYPE")) line.pieces =
    sym (map_twice (λ (pair : KeyedPair). pair.value) seen_keyed (filter (λ pair. bytes_eq pair.key (codes "OVL-TYPE")) value.pieces.keyed.items))
    ∙ ap (map (λ (pair : KeyedPair). pair.value)) (sym (filter_through (λ (pair : KeyedPair). bytes_eq pair.key (codes "OVL-TYPE")) seen_keyed value.pieces.keyed.items))
    ∙ ap (λ xs. map (λ (pair : KeyedPair). pair.value) (filter (λ (pair : KeyedPair). bytes_eq pair.key (codes "OVL-TYPE")) xs)) keyed
    ∙ sym (kinds_are line.pieces) in
    told5 _ _ _ _ _ _ _ _ _ _ BadName BadCount BadArgument UnknownTypeNamed UnknownMacro
    (named_shown values (pairs_of line.pieces) shown)
    (marked_shown values (pairs_of line.pieces) shown)
    (ap (λ b. b || not (are_arguments (map seen_pair values)) || not (has_kinds (kinds_in value.pieces.keyed.items)) || value.pieces.late) shapeless
    ∙ ap (λ xs. list_any is_shapeless line.pieces || not (are_arguments xs) || not (has_kinds (kinds_in value.pieces.keyed.items)) || value.pieces.late) shown
    ∙ ap (λ xs. list_any is_shapeless line.pieces || not (are_arguments (pairs_of line.pieces)) || not (has_kinds xs) || value.pieces.late) kinds
    ∙ ap (λ b. list_any is_shapeless line.pieces || not (are_arguments (pairs_of line.pieces)) || not (has_kinds (filter_map (keyed_value (codes "OVL-TYPE")) line.pieces)) || b) late)
    (no_type_shown file values (pairs_of line.pieces) shown)
    (unheld_shown file values (pairs_of line.pieces) shown)

-- of declared names none is one that is declared and may not stand
none_apart : (names held : List (List ℕ)) → list_any (λ one. is_among names one && not (is_among names one)) held ≡ false
none_apart names [] = refl
none_apart names (one ∷ held) = ap (λ b. b || list_any (λ other. is_among names other && not (is_among names other)) held) (never (is_among names one)) ∙ none_apart names held
  where
    never : (b : Bool) → (b && not b) ≡ false
    never true = refl
    never false = refl

undeclared_held : (names : List (List ℕ)) (o : Option Holding) → false ≡ option_map_or (λ holding. list_any (λ one. is_among names one && not (is_among names one)) holding.names) o false
undeclared_held names None = refl
undeclared_held names (Some holding) = sym (none_apart names holding.names)

undeclared_one : (file : File) (macros : List MacroLine) (one : AlternativeValue) → is_undeclared file one ≡ is_unknown macros (declared_names file) (declared_names file) (seen_alternative one)
undeclared_one file macros (NamedValue name) = refl
undeclared_one file macros (HeldValue name) = undeclared_held (declared_names file) (macro_named macros name)

-- where each declared name may stand, what is unknown is a name that is not declared
undeclared_any : (file : File) (macros : List MacroLine) (all : List AlternativeValue)
    → list_any (is_undeclared file) all ≡ list_any (is_unknown macros (declared_names file) (declared_names file)) (map seen_alternative all)
undeclared_any file macros all =
    list_any_same (is_undeclared file) (λ one. is_unknown macros (declared_names file) (declared_names file) (seen_alternative one)) all (undeclared_one file macros)
    ∙ sym (list_any_map (is_unknown macros (declared_names file) (declared_names file)) seen_alternative all)

pub list_any_filter : {X : Type 0} (p q : X → Bool) (xs : List X) → list_any p (filter q xs) ≡ list_any (λ x. q x && p x) xs
list_any_filter p q [] = refl
list_any_filter {X} p q (x ∷ xs) =
    let P : Bool → Type 0 = λ b. list_any p (cond b (x ∷ filter q xs) (filter q xs)) ≡ ((b && p x) || list_any (λ y. q y && p y) xs) in
    elim (q x) as P [ true ↦ ap (λ b. p x || b) (list_any_filter p q xs) | false ↦ list_any_filter p q xs ]

-- a test of the pairs of some sort
sort_any : (q p : RolePair → Bool) (r : RolePairValue → Bool) (values : List RolePairValue) (pairs : List RolePair) → map seen_pair values ≡ pairs
    → ((v : RolePairValue) → r v ≡ (q (seen_pair v) && p (seen_pair v))) → list_any r values ≡ list_any p (filter q pairs)
sort_any q p r values pairs shown same =
    list_any_same r (λ v. q (seen_pair v) && p (seen_pair v)) values same
    ∙ sym (list_any_map (λ x. q x && p x) seen_pair values) ∙ ap (list_any (λ x. q x && p x)) shown ∙ sym (list_any_filter p q pairs)

-- the fault of an attribute line
pub attribute_is : (file : File) (value : NamedLineValue) (line : NamedLine) → seen_named value ≡ kept_named line → attribute_told file value ≡ attribute_fault file line
unfolding attribute_told targets_name_nothing targets_unheld many_values_in
attribute_is file value line same =
    let values : List RolePairValue = value.pieces.pairs.items in
    let number : value.number ≡ line.number = ap (λ (k : KeptNamed). k.number) same in
    let name : value.name ≡ line.name = ap (λ (k : KeptNamed). k.name) same in
    let shown : map seen_pair values ≡ pairs_of line.pieces = ap (λ (k : KeptNamed). k.behind.pairs) same in
    let shapeless : value.pieces.shapeless ≡ list_any is_shapeless line.pieces = ap (λ (k : KeptNamed). k.behind.shapeless) same in
    told7 _ _ _ _ _ _ _ _ _ _ _ _ _ _ BadName NameTwice BadCount BadArgument UnknownTypeNamed UnknownMacro TooManyTypes
    (ap (λ n. is_no_declared n || list_any (λ pair. values_badly (seen_pair pair)) values) name
    ∙ ap (λ b. is_no_declared line.name || b) (sym (list_any_map values_badly seen_pair values) ∙ ap (list_any values_badly) shown))
    (ap (λ n. stood_before n value.name (of_named file.attributes) || list_any values_twice values) number
    ∙ ap (λ n. stood_before line.number n (of_named file.attributes) || list_any values_twice values) name
    ∙ ap (λ b. stood_before line.number line.name (of_named file.attributes) || b)
    (sort_any is_values (λ (pair : RolePair). stands_twice (map word_of pair.alternatives)) values_twice values (pairs_of line.pieces) shown
    (λ v. ap (λ xs. is_values (seen_pair v) && stands_twice xs) (sym (map_twice word_of seen_alternative v.alternatives.items)))))
    (marked_shown values (pairs_of line.pieces) shown)
    (ap (λ b. b || not (is_attribute (map seen_pair values))) shapeless ∙ ap (λ xs. list_any is_shapeless line.pieces || not (is_attribute xs)) shown)
    (sort_any (λ pair. not (is_values pair)) (λ (pair : RolePair). list_any (is_unknown file.macros (declared_names file) (declared_names file)) pair.alternatives) (target_names_nothing file) values (pairs_of line.pieces) shown
    (λ v. ap (λ b. not (is_values (seen_pair v)) && b) (undeclared_any file file.macros v.alternatives.items)))
    (sort_any (λ pair. not (is_values pair)) (λ (pair : RolePair). list_any (is_unheld file.macros true) pair.alternatives) (target_unheld file) values (pairs_of line.pieces) shown
    (λ v. ap (λ b. not (is_values (seen_pair v)) && b) (sym (list_any_map (is_unheld file.macros true) seen_alternative v.alternatives.items))))
    (ap (λ n. are_past 256 n (of_named file.attributes) || list_any has_many_values values) number
    ∙ ap (λ b. are_past 256 line.number (of_named file.attributes) || b)
    (sort_any is_values (λ (pair : RolePair). nat_lt 256 (length pair.alternatives)) has_many_values values (pairs_of line.pieces) shown
    (λ v. ap (λ n. is_values (seen_pair v) && nat_lt 256 n) (sym (length-map v.alternatives.items seen_alternative)))))

-- the fault of the line of a macro behind these
pub macro_is : (file : File) (count : ℕ) (front : List MacroLine) (value : MacroLineValue) (line : MacroLine)
    → take count file.macros ≡ front → filter (λ macro. nat_lt macro.number line.number) file.macros ≡ front → seen_macro value ≡ kept_macro line
    → macro_told file count value ≡ macro_fault file line.number line.name line.alternatives
unfolding macro_told
macro_is file count front value line first before same =
    let name : value.name ≡ line.name = ap (λ (k : KeptMacro). k.name) same in
    let shown : map seen_alternative value.alternatives.items ≡ line.alternatives = ap (λ (k : KeptMacro). k.alternatives) same in
    let front_is : take count file.macros ≡ filter (λ macro. nat_lt macro.number line.number) file.macros = first ∙ sym before in
    told4 _ _ _ _ _ _ _ _ BadName NameTwice UnknownTypeNamed UnknownMacro
    (ap (λ n. is_no_name n || list_any (λ one. is_no_name (word_of (seen_alternative one))) value.alternatives.items) name
    ∙ ap (λ b. is_no_name line.name || b)
    (sym (list_any_map (λ one. is_no_name (word_of one)) seen_alternative value.alternatives.items) ∙ ap (list_any (λ one. is_no_name (word_of one))) shown))
    (ap (λ ms. is_some (macro_named ms value.name)) front_is ∙ ap (λ n. is_some (macro_named (filter (λ macro. nat_lt macro.number line.number) file.macros) n)) name)
    (undeclared_any file (take count file.macros) value.alternatives.items
    ∙ ap (list_any (is_unknown (take count file.macros) (declared_names file) (declared_names file))) shown
    ∙ ap (λ ms. list_any (is_unknown ms (declared_names file) (declared_names file)) line.alternatives) front_is)
    (sym (list_any_map (is_unheld (take count file.macros) true) seen_alternative value.alternatives.items)
    ∙ ap (list_any (is_unheld (take count file.macros) true)) shown ∙ ap (λ ms. list_any (is_unheld ms true) line.alternatives) front_is)
