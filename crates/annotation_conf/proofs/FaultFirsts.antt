-- The first fault of each list by its values is the first fault among its lines.
use Rattle.std.proofs.Common.{◌≡◌, ℕ, ◌+◌, ◌-◌, ◌≤◌, ◌||◌, Bool, true, false, cond, List, [], ◌∷◌, ◌++◌, Option, Some, None, option_map, length, take, map, filter, nat_lt, slice_get, refl, sym, ◌∙◌, ap, subst, arith}
use Rattle.std.specs.List.{list_any}
use Rattle.std.specs.Option.{option_or}
use Rattle.std.proofs.lemmas.Bool.{lt-ltb, le-ltb}
use Rattle.std.proofs.lemmas.List.{append_assoc, length-append}
use Rattle.conf_model.specs.declared.conf_fault.ConfWhat.{ConfWhat}
use Rattle.conf_model.specs.declared.conf_fault.ConfWhat.TheVariants.{UnknownSection, SectionTwice, OutsideSection}
use Rattle.annotation_conf.specs.declared.faults.Opened.{Opened}
use Rattle.annotation_conf.specs.declared.line.Section.{Section as SectionValue}
use Rattle.annotation_conf.specs.declared.line.Section.TheVariants.{Entities as EntitiesValue, Relations as RelationsValue, Events as EventsValue, Attributes as AttributesValue}
use Rattle.annotation_conf.specs.declared.line.What.{What}
use Rattle.annotation_conf.specs.declared.line.What.TheVariants.{Plain, Unknown, Opens, Outside}
use Rattle.annotation_conf.specs.declared.line.Line.{Line as LineValue}
use Rattle.annotation_conf.specs.declared.file.TypeLine.{TypeLine as TypeLineValue}
use Rattle.annotation_conf.specs.declared.file.NamedLine.{NamedLine as NamedLineValue}
use Rattle.annotation_conf.specs.declared.file.MacroLine.{MacroLine as MacroLineValue}
use Rattle.conf_model.specs.ConfLines.{Section, Entities, Place, Before, Nowhere, Within, Kind, Skipped, Header, Macro, Content, Line}
use Rattle.conf_model.specs.ConfNames.{is_section, TypeLine, NamedLine, MacroLine, File}
use Rattle.conf_model.specs.ConfFaults.{line_before, last_of, type_fault, pairs_of, is_shapeless, is_header, opened_before}
use Rattle.annotation_conf.specs.FirstFaults.{first_among, IsRising, bare_at, bare_fault, macro_line_fault}
use Rattle.annotation_conf.specs.FileKept.{Said, SaysNothing, NamesNone, OpensSection, StandsOutside, KeptType, KeptNamed, KeptMacro, KeptLine, kept_type, kept_named, kept_macro, kept_line, said_of}
use Rattle.annotation_conf.specs.FileShows.{seen_type, seen_named, seen_macro, seen_line, seen_what, seen_section}
use Rattle.annotation_conf.specs.FaultsTold.{type_told, macro_told}
use Rattle.annotation_conf.specs.FaultsFirst.{fault_on, first_entity_told, first_event_told, first_macro_told, is_open, open_too, open_behind, bare_told, first_bare_told, opens_entities}
use Rattle.annotation_conf.proofs.FaultLists.{list_any_map, list_any_same}
use Rattle.annotation_conf.proofs.FaultTold.{type_is, macro_is, list_any_filter}

-- lines from a number on do not stand before it
filter_late : {X : Type 0} (n : X → ℕ) (m k : ℕ) (xs : List X) → IsRising n m xs → k ≤ m → filter (λ x. nat_lt (n x) k) xs ≡ []
filter_late n m k [] rising le = refl
filter_late {X} n m k (x ∷ xs) rising le =
    ap (λ b. cond b (x ∷ filter (λ y. nat_lt (n y) k) xs) (filter (λ y. nat_lt (n y) k) xs)) (le-ltb (n x) k (omega (arith, rising.0)))
    ∙ filter_late n (n x + 1) k xs rising.1 (omega (arith, rising.0))

rising_to : {X : Type 0} (n : X → ℕ) (m : ℕ) (front : List X) (x : X) (back : List X) → IsRising n m (front ++ x ∷ back) → m ≤ n x
rising_to n m [] x back rising = rising.0
rising_to n m (y ∷ front) x back rising = let more : n y + 1 ≤ n x = rising_to n (n y + 1) front x back rising.1 in omega (arith, rising.0)

-- the lines before a line are those in front of it
filter_front : {X : Type 0} (n : X → ℕ) (m : ℕ) (front : List X) (x : X) (back : List X) → IsRising n m (front ++ x ∷ back)
    → filter (λ y. nat_lt (n y) (n x)) (front ++ x ∷ back) ≡ front
filter_front {X} n m [] x back rising =
    ap (λ b. cond b (x ∷ filter (λ y. nat_lt (n y) (n x)) back) (filter (λ y. nat_lt (n y) (n x)) back)) (le-ltb (n x) (n x) (omega arith))
    ∙ filter_late n (n x + 1) (n x) back rising.1 (omega arith)
filter_front {X} n m (y ∷ front) x back rising =
    let more : n y + 1 ≤ n x = rising_to n (n y + 1) front x back rising.1 in
    ap (λ b. cond b (y ∷ filter (λ z. nat_lt (n z) (n x)) (front ++ x ∷ back)) (filter (λ z. nat_lt (n z) (n x)) (front ++ x ∷ back))) (lt-ltb (n y) (n x) (omega arith))
    ∙ ap (λ r. y ∷ r) (filter_front n (n y + 1) front x back rising.1)

get_push : {X : Type 0} (xs : List X) (x : X) → slice_get (xs ++ x ∷ []) (length xs) ≡ Some x
get_push [] x = refl
get_push (y ∷ xs) x = get_push xs x

last_push : (xs : List TypeLine) (x : TypeLine) → last_of (xs ++ x ∷ []) ≡ Some x
last_push xs x =
    let size : length (xs ++ x ∷ []) - 1 ≡ length xs = omega (arith, length-append xs (x ∷ [])) in
    ap (slice_get (xs ++ x ∷ [])) size ∙ get_push xs x

take_front : {X : Type 0} (xs ys : List X) → take (length xs) (xs ++ ys) ≡ xs
take_front [] ys = refl
take_front (x ∷ xs) ys = ap (λ r. x ∷ r) (take_front xs ys)

before_is : (section front : List TypeLine) (line : TypeLine) (back : List TypeLine) → section ≡ front ++ line ∷ back
    → IsRising (λ (l : TypeLine). l.number) 1 section → line_before line.number section ≡ last_of front
before_is section front line back split rising =
    let P : List TypeLine → Type 0 = λ xs. IsRising (λ (l : TypeLine). l.number) 1 xs in
    ap (λ xs. last_of (filter (λ (l : TypeLine). nat_lt l.number line.number) xs)) split
    ∙ ap last_of (filter_front (λ (l : TypeLine). l.number) 1 front line back (subst P split rising))

depth_push : (front : List TypeLine) (line : TypeLine) (value : TypeLineValue) → seen_type value ≡ kept_type line
    → Some value.depth ≡ option_map (λ (l : TypeLine). l.depth) (last_of (front ++ line ∷ []))
depth_push front line value same = ap (λ (k : KeptType). Some k.depth) same ∙ ap (option_map (λ (l : TypeLine). l.depth)) (sym (last_push front line))

pub first_entity_is : (file : File) (section front back : List TypeLine) (values : List TypeLineValue) → section ≡ front ++ back
    → IsRising (λ (l : TypeLine). l.number) 1 section → map seen_type values ≡ map kept_type back
    → first_entity_told file (option_map (λ (l : TypeLine). l.depth) (last_of front)) values ≡ first_among (λ (l : TypeLine). l.number) (type_fault file section [] false) back
first_entity_is file section front [] [] split rising shown = refl
first_entity_is file section front [] (value ∷ values) split rising shown = cc
first_entity_is file section front (line ∷ back) [] split rising shown = cc
first_entity_is file section front (line ∷ back) (value ∷ values) split rising shown =
    let same : seen_type value ≡ kept_type line = cc in
    let more : map seen_type values ≡ map kept_type back = cc in
    let number : value.number ≡ line.number = ap (λ (k : KeptType). k.number) same in
    let told : type_told file (option_map (λ (l : TypeLine). l.depth) (last_of front)) [] false value ≡ type_fault file section [] false line =
    type_is file section (last_of front) [] [] false value line (before_is section front line back split rising) refl same in
    ap (λ o. option_or (fault_on value.number o) (first_entity_told file (Some value.depth) values)) told
    ∙ ap (λ n. option_or (fault_on n (type_fault file section [] false line)) (first_entity_told file (Some value.depth) values)) number
    ∙ ap (λ d. option_or (fault_on line.number (type_fault file section [] false line)) (first_entity_told file d values)) (depth_push front line value same)
    ∙ ap (option_or (fault_on line.number (type_fault file section [] false line)))
    (first_entity_is file section (front ++ line ∷ []) back values (split ∙ sym (append_assoc front (line ∷ []) back)) rising more)

pub first_event_is : (file : File) (section front back : List TypeLine) (values : List TypeLineValue) → section ≡ front ++ back
    → IsRising (λ (l : TypeLine). l.number) 1 section → map seen_type values ≡ map kept_type back
    → first_event_told file (option_map (λ (l : TypeLine). l.depth) (last_of front)) values
    ≡ first_among (λ (l : TypeLine). l.number) (λ line. type_fault file section (pairs_of line.pieces) (list_any is_shapeless line.pieces) line) back
first_event_is file section front [] [] split rising shown = refl
first_event_is file section front [] (value ∷ values) split rising shown = cc
first_event_is file section front (line ∷ back) [] split rising shown = cc
first_event_is file section front (line ∷ back) (value ∷ values) split rising shown =
    let fault : TypeLine → Option ConfWhat = λ l. type_fault file section (pairs_of l.pieces) (list_any is_shapeless l.pieces) l in
    let same : seen_type value ≡ kept_type line = cc in
    let more : map seen_type values ≡ map kept_type back = cc in
    let number : value.number ≡ line.number = ap (λ (k : KeptType). k.number) same in
    let told : type_told file (option_map (λ (l : TypeLine). l.depth) (last_of front)) value.pieces.pairs.items value.pieces.shapeless value ≡ fault line =
    ap (λ b. type_told file (option_map (λ (l : TypeLine). l.depth) (last_of front)) value.pieces.pairs.items b value) (ap (λ (k : KeptType). k.behind.shapeless) same)
    ∙ type_is file section (last_of front) value.pieces.pairs.items (pairs_of line.pieces) (list_any is_shapeless line.pieces) value line (before_is section front line back split rising) (ap (λ (k : KeptType). k.behind.pairs) same) same in
    ap (λ o. option_or (fault_on value.number o) (first_event_told file (Some value.depth) values)) told
    ∙ ap (λ n. option_or (fault_on n (fault line)) (first_event_told file (Some value.depth) values)) number
    ∙ ap (λ d. option_or (fault_on line.number (fault line)) (first_event_told file d values)) (depth_push front line value same)
    ∙ ap (option_or (fault_on line.number (fault line)))
    (first_event_is file section (front ++ line ∷ []) back values (split ∙ sym (append_assoc front (line ∷ []) back)) rising more)

pub first_named_is : (told : NamedLineValue → Option ConfWhat) (fault : NamedLine → Option ConfWhat)
    → ((value : NamedLineValue) (line : NamedLine) → seen_named value ≡ kept_named line → told value ≡ fault line)
    → (lines : List NamedLine) (values : List NamedLineValue) → map seen_named values ≡ map kept_named lines
    → first_among (λ (l : NamedLineValue). l.number) told values ≡ first_among (λ (l : NamedLine). l.number) fault lines
first_named_is told fault is [] [] shown = refl
first_named_is told fault is [] (value ∷ values) shown = cc
first_named_is told fault is (line ∷ lines) [] shown = cc
first_named_is told fault is (line ∷ lines) (value ∷ values) shown =
    let same : seen_named value ≡ kept_named line = cc in
    let more : map seen_named values ≡ map kept_named lines = cc in
    let number : value.number ≡ line.number = ap (λ (k : KeptNamed). k.number) same in
    ap (λ o. option_or (fault_on value.number o) (first_among (λ (l : NamedLineValue). l.number) told values)) (is value line same)
    ∙ ap (λ n. option_or (fault_on n (fault line)) (first_among (λ (l : NamedLineValue). l.number) told values)) number
    ∙ ap (option_or (fault_on line.number (fault line))) (first_named_is told fault is lines values more)

pub first_macro_is : (file : File) (front back : List MacroLine) (values : List MacroLineValue) → file.macros ≡ front ++ back
    → IsRising (λ (l : MacroLine). l.number) 1 file.macros → map seen_macro values ≡ map kept_macro back
    → first_macro_told file (length front) values ≡ first_among (λ (l : MacroLine). l.number) (macro_line_fault file) back
first_macro_is file front [] [] split rising shown = refl
first_macro_is file front [] (value ∷ values) split rising shown = cc
first_macro_is file front (line ∷ back) [] split rising shown = cc
first_macro_is file front (line ∷ back) (value ∷ values) split rising shown =
    let P : List MacroLine → Type 0 = λ xs. IsRising (λ (l : MacroLine). l.number) 1 xs in
    let same : seen_macro value ≡ kept_macro line = cc in
    let more : map seen_macro values ≡ map kept_macro back = cc in
    let number : value.number ≡ line.number = ap (λ (k : KeptMacro). k.number) same in
    let told : macro_told file (length front) value ≡ macro_line_fault file line =
    macro_is file (length front) front value line (ap (take (length front)) split ∙ take_front front (line ∷ back))
    (ap (filter (λ (l : MacroLine). nat_lt l.number line.number)) split ∙ filter_front (λ (l : MacroLine). l.number) 1 front line back (subst P split rising)) same in
    let size : length front + 1 ≡ length (front ++ line ∷ []) = omega (arith, length-append front (line ∷ [])) in
    ap (λ o. option_or (fault_on value.number o) (first_macro_told file (length front + 1) values)) told
    ∙ ap (λ n. option_or (fault_on n (macro_line_fault file line)) (first_macro_told file (length front + 1) values)) number
    ∙ ap (λ n. option_or (fault_on line.number (macro_line_fault file line)) (first_macro_told file n values)) size
    ∙ ap (option_or (fault_on line.number (macro_line_fault file line)))
    (first_macro_is file (front ++ line ∷ []) back values (split ∙ sym (append_assoc front (line ∷ []) back)) rising more)

-- what a line says of sections
bare_said : File → ℕ → Said → Option ConfWhat
bare_said file number SaysNothing = None
bare_said file number NamesNone = Some UnknownSection
bare_said file number (OpensSection section) = cond (opened_before file number section) (Some SectionTwice) None
bare_said file number StandsOutside = Some OutsideSection

header_said : Section → Said → Bool
header_said section SaysNothing = false
header_said section NamesNone = false
header_said section (OpensSection this) = is_section section this
header_said section StandsOutside = false

bare_at_said : (file : File) (number : ℕ) (place : Place) (kind : Kind) → bare_at file number place kind ≡ bare_said file number (said_of place kind)
unfolding bare_said
bare_at_said file number place Skipped = refl
bare_at_said file number place (Header None) = refl
bare_at_said file number place (Header (Some section)) = refl
bare_at_said file number place (Macro name cs) = refl
bare_at_said file number Before (Content cs) = refl
bare_at_said file number Nowhere (Content cs) = refl
bare_at_said file number (Within section) (Content cs) = refl

header_at_said : (section : Section) (place : Place) (kind : Kind) → is_header section kind ≡ header_said section (said_of place kind)
unfolding header_said
header_at_said section place Skipped = refl
header_at_said section place (Header None) = refl
header_at_said section place (Header (Some this)) = refl
header_at_said section place (Macro name cs) = refl
header_at_said section Before (Content cs) = refl
header_at_said section Nowhere (Content cs) = refl
header_at_said section (Within this) (Content cs) = refl

bare_told_said : (file : File) (number : ℕ) (opened : Opened) (what : What) → ((s : SectionValue) → is_open opened s ≡ opened_before file number (seen_section s))
    → bare_told opened what ≡ bare_said file number (seen_what what)
unfolding bare_said
bare_told_said file number opened Plain open_as = refl
bare_told_said file number opened Unknown open_as = refl
bare_told_said file number opened (Opens section) open_as = ap (λ b. cond b (Some SectionTwice) None) (open_as section)
bare_told_said file number opened Outside open_as = refl

or_false : (b : Bool) → b ≡ (b || false)
or_false true = refl
or_false false = refl

or_true : (b : Bool) → true ≡ (b || true)
or_true true = refl
or_true false = refl

opens_too : (opened : Opened) (t s : SectionValue) → is_open (open_too opened t) s ≡ (is_open opened s || is_section (seen_section s) (seen_section t))
opens_too opened EntitiesValue EntitiesValue = or_true opened.entities
opens_too opened EntitiesValue RelationsValue = or_false opened.relations
opens_too opened EntitiesValue EventsValue = or_false opened.events
opens_too opened EntitiesValue AttributesValue = or_false opened.attributes
opens_too opened RelationsValue EntitiesValue = or_false opened.entities
opens_too opened RelationsValue RelationsValue = or_true opened.relations
opens_too opened RelationsValue EventsValue = or_false opened.events
opens_too opened RelationsValue AttributesValue = or_false opened.attributes
opens_too opened EventsValue EntitiesValue = or_false opened.entities
opens_too opened EventsValue RelationsValue = or_false opened.relations
opens_too opened EventsValue EventsValue = or_true opened.events
opens_too opened EventsValue AttributesValue = or_false opened.attributes
opens_too opened AttributesValue EntitiesValue = or_false opened.entities
opens_too opened AttributesValue RelationsValue = or_false opened.relations
opens_too opened AttributesValue EventsValue = or_false opened.events
opens_too opened AttributesValue AttributesValue = or_true opened.attributes

opens_behind : (opened : Opened) (what : What) (s : SectionValue) → is_open (open_behind opened what) s ≡ (is_open opened s || header_said (seen_section s) (seen_what what))
unfolding header_said
opens_behind opened Plain s = or_false (is_open opened s)
opens_behind opened Unknown s = or_false (is_open opened s)
opens_behind opened (Opens t) s = opens_too opened t s
opens_behind opened Outside s = or_false (is_open opened s)

or_assoc : (a b c : Bool) → (a || (b || c)) ≡ ((a || b) || c)
or_assoc true b c = refl
or_assoc false b c = refl

any_push : {X : Type 0} (p : X → Bool) (xs : List X) (x : X) → list_any p (xs ++ x ∷ []) ≡ (list_any p xs || p x)
any_push p [] x = sym (or_false (p x))
any_push p (y ∷ xs) x = ap (λ b. p y || b) (any_push p xs x) ∙ or_assoc (p y) (list_any p xs) (p x)

-- the section lines before a line are those in front of it
opened_is : (file : File) (front : List Line) (line : Line) (back : List Line) (section : Section) → file.lines ≡ front ++ line ∷ back
    → IsRising (λ (l : Line). l.number) 1 file.lines → opened_before file line.number section ≡ list_any (λ (l : Line). is_header section l.kind) front
opened_is file front line back section split rising =
    let P : List Line → Type 0 = λ xs. IsRising (λ (l : Line). l.number) 1 xs in
    sym (list_any_filter (λ (l : Line). is_header section l.kind) (λ (l : Line). nat_lt l.number line.number) file.lines)
    ∙ ap (λ xs. list_any (λ (l : Line). is_header section l.kind) (filter (λ (l : Line). nat_lt l.number line.number) xs)) split
    ∙ ap (list_any (λ (l : Line). is_header section l.kind)) (filter_front (λ (l : Line). l.number) 1 front line back (subst P split rising))

pub first_bare_is : (file : File) (front back : List Line) (values : List LineValue) (opened : Opened) → file.lines ≡ front ++ back
    → IsRising (λ (l : Line). l.number) 1 file.lines → map seen_line values ≡ map kept_line back
    → ((s : SectionValue) → is_open opened s ≡ list_any (λ (l : Line). is_header (seen_section s) l.kind) front)
    → first_bare_told opened values ≡ first_among (λ (l : Line). l.number) (bare_fault file) back
first_bare_is file front [] [] opened split rising shown open_as = refl
first_bare_is file front [] (value ∷ values) opened split rising shown open_as = cc
first_bare_is file front (line ∷ back) [] opened split rising shown open_as = cc
first_bare_is file front (line ∷ back) (value ∷ values) opened split rising shown open_as =
    let same : seen_line value ≡ kept_line line = cc in
    let more : map seen_line values ≡ map kept_line back = cc in
    let number : value.number ≡ line.number = ap (λ (k : KeptLine). k.number) same in
    let said : seen_what value.what ≡ said_of line.place line.kind = ap (λ (k : KeptLine). k.said) same in
    let told : bare_told opened value.what ≡ bare_fault file line =
    bare_told_said file line.number opened value.what (λ s. open_as s ∙ sym (opened_is file front line back (seen_section s) split rising))
    ∙ ap (bare_said file line.number) said ∙ sym (bare_at_said file line.number line.place line.kind) in
    ap (λ o. option_or (fault_on value.number o) (first_bare_told (open_behind opened value.what) values)) told
    ∙ ap (λ n. option_or (fault_on n (bare_fault file line)) (first_bare_told (open_behind opened value.what) values)) number
    ∙ ap (option_or (fault_on line.number (bare_fault file line)))
    (first_bare_is file (front ++ line ∷ []) back values (open_behind opened value.what) (split ∙ sym (append_assoc front (line ∷ []) back)) rising more
    (λ s. opens_behind opened value.what s ∙ ap (λ b. b || header_said (seen_section s) (seen_what value.what)) (open_as s)
    ∙ ap (λ w. list_any (λ (l : Line). is_header (seen_section s) l.kind) front || header_said (seen_section s) w) said
    ∙ ap (λ b. list_any (λ (l : Line). is_header (seen_section s) l.kind) front || b) (sym (header_at_said (seen_section s) line.place line.kind))
    ∙ sym (any_push (λ (l : Line). is_header (seen_section s) l.kind) front line)))

opens_entities_said : (what : What) → opens_entities what ≡ header_said Entities (seen_what what)
unfolding header_said
opens_entities_said Plain = refl
opens_entities_said Unknown = refl
opens_entities_said (Opens EntitiesValue) = refl
opens_entities_said (Opens RelationsValue) = refl
opens_entities_said (Opens EventsValue) = refl
opens_entities_said (Opens AttributesValue) = refl
opens_entities_said Outside = refl

-- whether some line opens `[entities]`
pub entities_opened : (lines : List Line) (values : List LineValue) → map seen_line values ≡ map kept_line lines
    → list_any (λ (value : LineValue). opens_entities value.what) values ≡ list_any (λ (l : Line). is_header Entities l.kind) lines
entities_opened lines values shown =
    list_any_same (λ (value : LineValue). opens_entities value.what) (λ value. header_said Entities (seen_line value).said) values (λ value. opens_entities_said value.what)
    ∙ sym (list_any_map (λ (k : KeptLine). header_said Entities k.said) seen_line values)
    ∙ ap (list_any (λ (k : KeptLine). header_said Entities k.said)) shown
    ∙ list_any_map (λ (k : KeptLine). header_said Entities k.said) kept_line lines
    ∙ list_any_same (λ (l : Line). header_said Entities (said_of l.place l.kind)) (λ (l : Line). is_header Entities l.kind) lines (λ l. sym (header_at_said Entities l.place l.kind))
