-- What alternatives hold, one alternative more; and a macro by its place.
use Rattle.std.proofs.Common.{◌≡◌, ℕ, ◌+◌, ◌-◌, ◌<◌, ◌≤◌, ◌||◌, ◌&&◌, Bool, true, false, not, cond, List, [], ◌∷◌, ◌++◌, Option, Some, None, zero, suc, option_map, length, get_or, take, map, find, nat_lt, bytes_eq, refl, sym, ◌∙◌, ap, arith}
use Rattle.std.specs.List.{list_any, position_from}
use Rattle.std.specs.Option.{option_or, option_map_or}
use Rattle.std.proofs.lemmas.Bool.{lt-ltb, le-ltb, ltb-true}
use Rattle.std.proofs.lemmas.Bool.Decides.{same_from_decides, Decides-ltb}
use Rattle.std.proofs.lemmas.List.{take_more, map-append, length-map, get_or-map, get_or-take, take-map, length-take-le}
use Rattle.std.proofs.lemmas.List.Folds.{list_any-append}
use Rattle.std.proofs.lemmas.Option.{same_Some}
use Rattle.annotation_conf.specs.declared.faults_macros.Kinds.{Kinds}
use Rattle.conf_model.specs.ConfPairs.{Alternative, Named, Held}
use Rattle.conf_model.specs.ConfNames.{File, MacroLine, Holding, all_held, one_held, both_held, none_held, macro_named, built_in}
use Rattle.conf_model.specs.ConfFaults.{is_among, names_of, bound_names, declared_names, is_unknown, is_unheld}
use Rattle.annotation_conf.specs.NamePlaces.{is_called, place_among}
use Rattle.annotation_conf.specs.declared.file.File.{File as FileValue}
use Rattle.annotation_conf.specs.declared.file.MacroLine.{MacroLine as MacroLineValue}
use Rattle.annotation_conf.specs.declared.pieces.Alternative.{Alternative as AlternativeValue}
use Rattle.annotation_conf.specs.FileKept.{KeptMacro, kept_macro}
use Rattle.annotation_conf.specs.FileShows.{seen_macro, seen_alternative}
use Rattle.annotation_conf.specs.KnownFiles.{of_macros, IsKnown}
use Rattle.annotation_conf.specs.KnownMacros.{kinds_of, kinds_of_macros, kinds_by, either_kinds, no_kinds}

or_false : (b : Bool) → (b || false) ≡ b
or_false true = refl
or_false false = refl

or_assoc : (a b c : Bool) → (a || (b || c)) ≡ ((a || b) || c)
or_assoc true b c = refl
or_assoc false b c = refl

kinds : Bool → Bool → Bool → Bool → Bool → Kinds
kinds a b c d e = record { entity = a; event = b; any = c; relation = d; no_type = e }

same_kinds : (a b c d e a' b' c' d' e' : Bool) → a ≡ a' → b ≡ b' → c ≡ c' → d ≡ d' → e ≡ e' → kinds a b c d e ≡ kinds a' b' c' d' e'
same_kinds a b c d e a' b' c' d' e' p q r s t = cc

either_assoc : (x y z : Kinds) → either_kinds x (either_kinds y z) ≡ either_kinds (either_kinds x y) z
unfolding kinds
either_assoc x y z =
    same_kinds _ _ _ _ _ _ _ _ _ _ (or_assoc x.entity y.entity z.entity) (or_assoc x.event y.event z.event) (or_assoc x.any y.any z.any)
    (or_assoc x.relation y.relation z.relation) (or_assoc x.no_type y.no_type z.no_type)

kinds_of_both : (file : File) (a b : Holding) → kinds_of file (both_held a b) ≡ either_kinds (kinds_of file a) (kinds_of file b)
unfolding kinds
kinds_of_both file a b =
    same_kinds _ _ _ _ _ _ _ _ _ _ refl refl refl refl
    (list_any-append (λ name. is_among (declared_names file) name && not (is_among (names_of (bound_names file)) name)) a.names b.names)

pub either_none : (x : Kinds) → either_kinds x no_kinds ≡ x
unfolding kinds
either_none x = same_kinds _ _ _ _ _ _ _ _ _ _ (or_false x.entity) (or_false x.event) (or_false x.any) (or_false x.relation) (or_false x.no_type)

-- one alternative more
pub kinds_push : (file : File) (macros : List MacroLine) (all : List Alternative) (one : Alternative)
    → kinds_of file (all_held macros (all ++ one ∷ [])) ≡ either_kinds (kinds_of file (all_held macros all)) (kinds_of file (one_held macros one))
kinds_push file macros [] one = kinds_of_both file (one_held macros one) none_held ∙ either_none (kinds_of file (one_held macros one))
kinds_push file macros (x ∷ all) one =
    kinds_of_both file (one_held macros x) (all_held macros (all ++ one ∷ []))
    ∙ ap (either_kinds (kinds_of file (one_held macros x))) (kinds_push file macros all one)
    ∙ either_assoc (kinds_of file (one_held macros x)) (kinds_of file (all_held macros all)) (kinds_of file (one_held macros one))
    ∙ ap (λ k. either_kinds k (kinds_of file (one_held macros one))) (sym (kinds_of_both file (one_held macros x) (all_held macros all)))

held_step : (file : File) (o : Option Holding) (k : Kinds) → option_map (kinds_of file) o ≡ Some k → kinds_of file (option_map_or (λ holding. holding) o none_held) ≡ k
held_step file None k e = cc
held_step file (Some h) k e = same_Some _ k e

-- an alternative that is held, and one that is not
pub kinds_of_held : (file : File) (count : ℕ) (one : Alternative) (k : Kinds) → kinds_by file count one ≡ Some k → kinds_of file (one_held (take count file.macros) one) ≡ k
kinds_of_held file count (Named name) k e = same_Some _ k e
kinds_of_held file count (Held name) k e = held_step file (macro_named (take count file.macros) name) k e

unheld_step : (file : File) (o : Option Holding) → option_map (kinds_of file) o ≡ None → kinds_of file (option_map_or (λ holding. holding) o none_held) ≡ no_kinds
unheld_step file None e = refl
unheld_step file (Some h) e = cc

pub kinds_of_unheld : (file : File) (count : ℕ) (one : Alternative) → kinds_by file count one ≡ None → kinds_of file (one_held (take count file.macros) one) ≡ no_kinds
kinds_of_unheld file count (Named name) e = cc
kinds_of_unheld file count (Held name) e = unheld_step file (macro_named (take count file.macros) name) e

-- the macros up to one more
pub kinds_more : (file : File) (macros : List MacroLine) (i : ℕ) (d : MacroLine) → i < length macros
    → kinds_of_macros file (take (i + 1) macros) ≡ kinds_of_macros file (take i macros) ++ kinds_of file (get_or macros i d).holding ∷ []
kinds_more file macros i d within =
    ap (kinds_of_macros file) (take_more macros i d within) ∙ map-append (λ (macro : MacroLine). kinds_of file macro.holding) (take i macros) (get_or macros i d ∷ [])

-- a macro without anything
abbrev pub no_macro : MacroLine
no_macro = record { number = 0; name = []; alternatives = []; holding = none_held }

-- the first macro of a name among the first so many
pub record FoundAt (macros : List MacroLine) (count i place : ℕ) (name : List ℕ) : Type 0 where
  pub from : i ≤ place
  pub within : place < i + length macros
  pub found : (d : MacroLine) → find (λ macro. bytes_eq macro.name name) (take count macros) ≡ cond (nat_lt (place - i) count) (Some (get_or macros (place - i) d)) None

lt_suc : (a n : ℕ) → nat_lt a n ≡ nat_lt (suc a) (suc n)
lt_suc a n =
    same_from_decides (nat_lt a n) (nat_lt (suc a) (suc n)) (Decides-ltb a n)
    (λ e. let h : suc a < suc n = ltb-true (suc a) (suc n) e in omega arith, λ h. lt-ltb (suc a) (suc n) (omega arith))

found_step : (x : MacroLine) (macros : List MacroLine) (count i place : ℕ) (name : List ℕ)
    → ((n : ℕ) → position_from (is_called name) (i + 1) (of_macros macros) ≡ Some place → FoundAt macros n (i + 1) place name)
    → (b : Bool) → bytes_eq x.name name ≡ b → cond b (Some i) (position_from (is_called name) (i + 1) (of_macros macros)) ≡ Some place
    → FoundAt (x ∷ macros) count i place name
found_step x macros zero i place name rest true is found =
    let here : i ≡ place = same_Some i place found in
    record {
      from = omega arith;
      within = omega arith;
      found = λ d. sym (ap (λ b. cond b (Some (get_or (x ∷ macros) (place - i) d)) None) (le-ltb (place - i) 0 (omega arith)));
    }
found_step x macros (suc n) i place name rest true is found =
    let here : i ≡ place = same_Some i place found in
    let zero_there : place - i ≡ 0 = omega arith in
    record {
      from = omega arith;
      within = omega arith;
      found = λ d. ap (λ b. cond b (Some x) (find (λ macro. bytes_eq macro.name name) (take n macros))) is
          ∙ sym (ap (λ b. cond b (Some x) None) (lt-ltb 0 (suc n) (omega arith)))
          ∙ ap (λ k. cond (nat_lt k (suc n)) (Some (get_or (x ∷ macros) k d)) None) (sym zero_there);
    }
found_step x macros zero i place name rest false is found =
    let there : FoundAt macros zero (i + 1) place name = rest zero found in
    record {
      from = omega (arith, there.from);
      within = omega (arith, there.within);
      found = λ d. sym (ap (λ b. cond b (Some (get_or (x ∷ macros) (place - i) d)) None) (le-ltb (place - i) 0 (omega arith)));
    }
found_step x macros (suc n) i place name rest false is found =
    let there : FoundAt macros n (i + 1) place name = rest n found in
    let next : suc (place - (i + 1)) ≡ place - i = omega (arith, there.from) in
    record {
      from = omega (arith, there.from);
      within = omega (arith, there.within);
      found = λ d. ap (λ b. cond b (Some x) (find (λ macro. bytes_eq macro.name name) (take n macros))) is
          ∙ there.found d
          ∙ ap (λ b. cond b (Some (get_or macros (place - (i + 1)) d)) None) (lt_suc (place - (i + 1)) n)
          ∙ ap (λ k. cond (nat_lt k (suc n)) (Some (get_or (x ∷ macros) k d)) None) next;
    }

pub found_at : (macros : List MacroLine) (count i place : ℕ) (name : List ℕ) → position_from (is_called name) i (of_macros macros) ≡ Some place
    → FoundAt macros count i place name
found_at [] count i place name found = cc
found_at (x ∷ macros) count i place name found =
    found_step x macros count i place name (λ n e. found_at macros n (i + 1) place name e) (bytes_eq x.name name) refl found

none_step : (x : MacroLine) (macros : List MacroLine) (count i : ℕ) (name : List ℕ)
    → ((n : ℕ) → position_from (is_called name) (i + 1) (of_macros macros) ≡ None → find (λ macro. bytes_eq macro.name name) (take n macros) ≡ None)
    → (b : Bool) → bytes_eq x.name name ≡ b → cond b (Some i) (position_from (is_called name) (i + 1) (of_macros macros)) ≡ None
    → find (λ macro. bytes_eq macro.name name) (take count (x ∷ macros)) ≡ None
none_step x macros zero i name rest b is none = refl
none_step x macros (suc n) i name rest true is none = cc
none_step x macros (suc n) i name rest false is none =
    ap (λ b. cond b (Some x) (find (λ macro. bytes_eq macro.name name) (take n macros))) is ∙ rest n none

pub found_nowhere : (macros : List MacroLine) (count i : ℕ) (name : List ℕ) → position_from (is_called name) i (of_macros macros) ≡ None
    → find (λ macro. bytes_eq macro.name name) (take count macros) ≡ None
found_nowhere [] zero i name none = refl
found_nowhere [] (suc n) i name none = refl
found_nowhere (x ∷ macros) count i name none = none_step x macros count i name (λ n e. found_nowhere macros n (i + 1) name e) (bytes_eq x.name name) refl none

map_none : {X Y : Type 0} (f : X → Y) (o : Option X) → None ≡ option_map f o → o ≡ None
map_none f None e = refl
map_none f (Some x) e = cc

map_of_map : (file : File) (o : Option MacroLine) → option_map (kinds_of file) (option_map (λ macro. macro.holding) o) ≡ option_map (λ macro. kinds_of file macro.holding) o
map_of_map file None = refl
map_of_map file (Some macro) = refl

-- a name that is not built in holds what its macro holds
pub held_by_macro : (file : File) (count : ℕ) (name : List ℕ) (o : Option MacroLine) → None ≡ option_map (kinds_of file) (built_in name)
    → find (λ macro. bytes_eq macro.name name) (take count file.macros) ≡ o
    → kinds_by file count (Held name) ≡ option_map (λ macro. kinds_of file macro.holding) o
held_by_macro file count name o built found =
    ap (λ b. option_map (kinds_of file) (option_or b (option_map (λ macro. macro.holding) (find (λ macro. bytes_eq macro.name name) (take count file.macros))))) (map_none (kinds_of file) (built_in name) built)
    ∙ ap (λ m. option_map (kinds_of file) (option_map (λ macro. macro.holding) m)) found
    ∙ map_of_map file o

pub held_at : (file : File) (count place : ℕ) (name : List ℕ) (d : MacroLine) → None ≡ option_map (kinds_of file) (built_in name)
    → place_among (of_macros file.macros) name ≡ Some place → place < count
    → kinds_by file count (Held name) ≡ Some (kinds_of file (get_or file.macros place d).holding)
held_at file count place name d built is less =
    let there : FoundAt file.macros count 0 place name = found_at file.macros count 0 place name is in
    let same : place - 0 ≡ place = omega arith in
    held_by_macro file count name (Some (get_or file.macros place d)) built
    (there.found d ∙ ap (λ k. cond (nat_lt k count) (Some (get_or file.macros k d)) None) same
    ∙ ap (λ b. cond b (Some (get_or file.macros place d)) None) (lt-ltb place count less))

pub held_past : (file : File) (count place : ℕ) (name : List ℕ) → None ≡ option_map (kinds_of file) (built_in name)
    → place_among (of_macros file.macros) name ≡ Some place → count ≤ place → kinds_by file count (Held name) ≡ None
held_past file count place name built is past =
    let there : FoundAt file.macros count 0 place name = found_at file.macros count 0 place name is in
    let same : place - 0 ≡ place = omega arith in
    held_by_macro file count name None built
    (there.found no_macro ∙ ap (λ k. cond (nat_lt k count) (Some (get_or file.macros k no_macro)) None) same
    ∙ ap (λ b. cond b (Some (get_or file.macros place no_macro)) None) (le-ltb place count past))

pub held_nowhere : (file : File) (count : ℕ) (name : List ℕ) → None ≡ option_map (kinds_of file) (built_in name)
    → place_among (of_macros file.macros) name ≡ None → kinds_by file count (Held name) ≡ None
held_nowhere file count name built is = held_by_macro file count name None built (found_nowhere file.macros count 0 name is)

-- the sorts at a place
pub read_kinds : (file : File) (all : List Kinds) (place : ℕ) (d : MacroLine) (e : Kinds) → all ≡ kinds_of_macros file (take (length all) file.macros)
    → place < length all → get_or all place e ≡ kinds_of file (get_or file.macros place d).holding
read_kinds file all place d e are within =
    let size : length all ≡ length (take (length all) file.macros) = ap length are ∙ length-map (take (length all) file.macros) (λ (macro : MacroLine). kinds_of file macro.holding) in
    let inside : place < length (take (length all) file.macros) = omega (arith, size) in
    ap (λ xs. get_or xs place e) are
    ∙ get_or-map (λ (macro : MacroLine). kinds_of file macro.holding) (take (length all) file.macros) place d e inside
    ∙ ap (λ (macro : MacroLine). kinds_of file macro.holding) (get_or-take (length all) file.macros place d within)

-- the kinds of one macro more, from its alternatives
pub kinds_of_next : (file : File) (values : FileValue) → IsKnown values file → (i : ℕ) (d : MacroLineValue) → i < length values.macros.items
    → kinds_of file (all_held (take i file.macros) (map seen_alternative (get_or values.macros.items i d).alternatives.items)) ≡ kinds_of file (get_or file.macros i no_macro).holding
kinds_of_next file values known i d within =
    let size : length values.macros.items ≡ length file.macros =
    sym (length-map values.macros.items seen_macro) ∙ ap length known.shows.macros ∙ length-map file.macros kept_macro in
    let inside : i < length file.macros = omega (arith, size) in
    let same : seen_macro (get_or values.macros.items i d) ≡ kept_macro (get_or file.macros i no_macro) =
    sym (get_or-map seen_macro values.macros.items i d (seen_macro d) within)
    ∙ ap (λ xs. get_or xs i (seen_macro d)) known.shows.macros ∙ get_or-map kept_macro file.macros i no_macro (seen_macro d) inside in
    ap (λ (k : KeptMacro). kinds_of file (all_held (take i file.macros) k.alternatives)) same
    ∙ sym (ap (kinds_of file) (known.held i no_macro inside))

-- one alternative more, whether it holds anything or not
pub kinds_push_held : (file : File) (count : ℕ) (all : List AlternativeValue) (i : ℕ) (d : AlternativeValue) (before k : Kinds) → i < length all
    → before ≡ kinds_of file (all_held (take count file.macros) (map seen_alternative (take i all)))
    → kinds_by file count (seen_alternative (get_or all i d)) ≡ Some k
    → either_kinds before k ≡ kinds_of file (all_held (take count file.macros) (map seen_alternative (take (i + 1) all)))
kinds_push_held file count all i d before k within so held =
    ap (λ b. either_kinds b k) so
    ∙ ap (either_kinds (kinds_of file (all_held (take count file.macros) (map seen_alternative (take i all))))) (sym (kinds_of_held file count (seen_alternative (get_or all i d)) k held))
    ∙ sym (kinds_push file (take count file.macros) (map seen_alternative (take i all)) (seen_alternative (get_or all i d)))
    ∙ sym (ap (λ xs. kinds_of file (all_held (take count file.macros) xs)) (ap (map seen_alternative) (take_more all i d within) ∙ map-append seen_alternative (take i all) (get_or all i d ∷ [])))

pub kinds_push_unheld : (file : File) (count : ℕ) (all : List AlternativeValue) (i : ℕ) (d : AlternativeValue) (before : Kinds) → i < length all
    → before ≡ kinds_of file (all_held (take count file.macros) (map seen_alternative (take i all)))
    → kinds_by file count (seen_alternative (get_or all i d)) ≡ None
    → before ≡ kinds_of file (all_held (take count file.macros) (map seen_alternative (take (i + 1) all)))
kinds_push_unheld file count all i d before within so unheld =
    so ∙ sym (either_none (kinds_of file (all_held (take count file.macros) (map seen_alternative (take i all)))))
    ∙ ap (either_kinds (kinds_of file (all_held (take count file.macros) (map seen_alternative (take i all))))) (sym (kinds_of_unheld file count (seen_alternative (get_or all i d)) unheld))
    ∙ sym (kinds_push file (take count file.macros) (map seen_alternative (take i all)) (seen_alternative (get_or all i d)))
    ∙ sym (ap (λ xs. kinds_of file (all_held (take count file.macros) xs)) (ap (map seen_alternative) (take_more all i d within) ∙ map-append seen_alternative (take i all) (get_or all i d ∷ [])))

unknown_step : (file : File) (o : Option Holding)
    → option_map_or (λ (k : Kinds). k.no_type) (option_map (kinds_of file) o) false
    ≡ option_map_or (λ holding. list_any (λ held. is_among (declared_names file) held && not (is_among (names_of (bound_names file)) held)) holding.names) o false
unknown_step file None = refl
unknown_step file (Some h) = refl

-- a macro holds a name that may not stand where its sorts say so
pub unknown_by : (file : File) (count : ℕ) (name : List ℕ)
    → option_map_or (λ (k : Kinds). k.no_type) (kinds_by file count (Held name)) false ≡ is_unknown (take count file.macros) (declared_names file) (names_of (bound_names file)) (Held name)
unknown_by file count name = unknown_step file (macro_named (take count file.macros) name)

unheld_by_step : (file : File) (relations : Bool) (o : Option Holding)
    → option_map_or (λ (k : Kinds). k.relation && not relations) (option_map (kinds_of file) o) true ≡ option_map_or (λ holding. holding.relation && not relations) o true
unheld_by_step file relations None = refl
unheld_by_step file relations (Some h) = refl

pub unheld_by : (file : File) (count : ℕ) (relations : Bool) (one : Alternative)
    → option_map_or (λ (k : Kinds). k.relation && not relations) (kinds_by file count one) true ≡ is_unheld (take count file.macros) relations one
unheld_by file count relations (Named name) = refl
unheld_by file count relations (Held name) = unheld_by_step file relations (macro_named (take count file.macros) name)

take_all : (xs : List MacroLine) → take (length xs) xs ≡ xs
take_all [] = refl
take_all (x ∷ xs) = ap (λ r. x ∷ r) (take_all xs)

-- as many macros as have sorts are all
pub all_macros : (file : File) (all : List Kinds) → all ≡ kinds_of_macros file file.macros → take (length all) file.macros ≡ file.macros
all_macros file all same =
    ap (λ n. take n file.macros) (ap length same ∙ length-map file.macros (λ (macro : MacroLine). kinds_of file macro.holding)) ∙ take_all file.macros

pub all_are_first : (file : File) (all : List Kinds) → all ≡ kinds_of_macros file file.macros → all ≡ kinds_of_macros file (take (length all) file.macros)
all_are_first file all same = same ∙ ap (kinds_of_macros file) (sym (all_macros file all same))

-- the sorts of the first macros are a front of all
pub front_kinds : (file : File) (all : List Kinds) (place : ℕ) → all ≡ kinds_of_macros file file.macros → place ≤ length all
    → take place all ≡ kinds_of_macros file (take (length (take place all)) file.macros)
front_kinds file all place same within =
    ap (take place) same ∙ take-map (λ (macro : MacroLine). kinds_of file macro.holding) place file.macros
    ∙ ap (λ n. kinds_of_macros file (take n file.macros)) (sym (length-take-le place all within))
