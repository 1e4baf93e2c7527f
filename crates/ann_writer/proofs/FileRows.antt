-- The lines of a file as rows: what each is, the ID that it has, and what it says of a class.
use Rattle.std.proofs.Common.{◌≡◌, refl, sym, ap, ap₂, ◌∙◌, subst, ℕ, ◌+◌, ◌*◌, ◌<◌, ◌≤◌, min, Bool, true, false, cond, ◌||◌, ◌==◌, T, List, [], ◌∷◌, ◌++◌, map, append_assoc, nat_lt, codes, arith, tests, Option, Some, None, is_some}
use Rattle.std.proofs.lemmas.Bool.{true≢false, eq-eqb, ne_eqb}
use Rattle.std.proofs.lemmas.List.Folds.{find-append}
use Rattle.std.specs.Option.{option_map_or, option_or, MatchOption}
use Rattle.std.specs.Str.{NonePass}
use Rattle.std.specs.Ordering.{nat_cmp, is_eq, eq_by_cmp}
use Rattle.std.specs.Cmp.{ranked}
use Rattle.std.specs.declared.cmp.Ordering.{Ordering}
use Rattle.std.specs.declared.cmp.Ordering.TheVariants.{Less, Equal, Greater}
use Rattle.std.specs.List.{AllByRecursion, list_any, flat_map, filter_map, slice_split, cons_option}
use Rattle.std.specs.FinMap as finite
use Rattle.std.specs.FinMap.Entries.{is_sorted, below_all}
use Rattle.mark_base.specs.declared.ann_id.AnnId.{AnnId}
use Rattle.mark_base.specs.declared.ann_id.Kind.{Kind}
use Rattle.conf_model.specs.Configurations.{Configuration}
use Rattle.annotation_conf.proofs.WrittenLists.{split_at}
use Rattle.layer_model.specs.Annotations.{Annotations}
use Rattle.layer_model.specs.Classes.{rank, letter_place}
use Rattle.layer_model.specs.Numbers.{NumbersFit}
use Rattle.mark_base.specs.ReadIds.{id_at, id_read}
use Rattle.layer_rules.specs.LayerRules.{is_id}
use Rattle.layer_rules.proofs.PlaceLemmas.{along, is_less, left, right}
use Rattle.ann_reader.specs.Lines as file
use Rattle.ann_reader.specs.Lines.{Line, is_blank, lines_from}
use Rattle.ann_reader.specs.LineForms.{form_of, head_field}
use Rattle.ann_reader.specs.LineIds.{own_id}
use Rattle.ann_reader.specs.LineMeanings.{Said, said_of}
use Rattle.ann_reader.specs.LineFaults.{is_headed, headed_by, is_twice}
use Rattle.ann_reader.specs.AnnFiles.{Spells, is_line_of, said_in}

pub record Row : Type 0 where
  pub line : List ℕ
  pub own : Option AnnId
  pub said : Option Said

-- what a row says is so of its line
pub record IsRow (conf : Configuration) (text : List ℕ) (layer : Annotations) (row : Row) : Type 0 where
  pub unbroken : NonePass (λ c. c == 10) row.line
  pub unblank : is_blank row.line ≡ false
  pub spells : Spells conf text layer (form_of row.line)
  pub own : own_id (form_of row.line) ≡ row.own
  pub head : id_read (head_field row.line) ≡ row.own
  pub said : said_of conf (form_of row.line) ≡ row.said

abbrev pub AreRows : Configuration → List ℕ → Annotations → List Row → Type 0
AreRows conf text layer rows = AllByRecursion (IsRow conf text layer) rows

-- ---- the lines of a file are its rows

abbrev pub ended : Row → List ℕ
ended row = row.line ++ codes "\n"

abbrev pub numbered : ℕ → List Row → List Line
numbered n [] = []
numbered n (row ∷ rows) = record { number = n; bytes = row.line } ∷ numbered (n + 1) rows

split_rows : (conf : Configuration) (text : List ℕ) (layer : Annotations) (rows : List Row) → AreRows conf text layer rows → slice_split (λ c. c == 10) (flat_map ended rows) ≡ map (λ row. row.line) rows ++ [] ∷ []
split_rows conf text layer [] all = refl
split_rows conf text layer (row ∷ rows) all =
    ap (slice_split (λ c. c == 10)) (append_assoc row.line (codes "\n") (flat_map ended rows))
    ∙ split_at (λ c. c == 10) row.line 10 (flat_map ended rows) all.0.unbroken refl ∙ ap (λ rest. row.line ∷ rest) (split_rows conf text layer rows all.1)

rows_from : (conf : Configuration) (text : List ℕ) (layer : Annotations) (n : ℕ) (rows : List Row) → AreRows conf text layer rows → lines_from n (map (λ row. row.line) rows ++ [] ∷ []) ≡ numbered n rows
rows_from conf text layer n [] all = refl
rows_from conf text layer n (row ∷ rows) all =
    let more = lines_from (n + 1) (map (λ (r : Row). r.line) rows ++ [] ∷ []) in
    ap (λ b. cond b more ((let line : Line = record { number = n; bytes = row.line } in line) ∷ more)) all.0.unblank
    ∙ ap (λ rest. (let line : Line = record { number = n; bytes = row.line } in line) ∷ rest) (rows_from conf text layer (n + 1) rows all.1)

pub lines_are : (conf : Configuration) (text : List ℕ) (layer : Annotations) (rows : List Row) → AreRows conf text layer rows → file.lines_of (flat_map ended rows) ≡ numbered 1 rows
unfolding file.lines_of
lines_are conf text layer rows all = ap (lines_from 1) (split_rows conf text layer rows all) ∙ rows_from conf text layer 1 rows all

pub rows_spell : (conf : Configuration) (text : List ℕ) (layer : Annotations) (n : ℕ) (rows : List Row) → AreRows conf text layer rows → AllByRecursion (λ (line : Line). Spells conf text layer (form_of line.bytes)) (numbered n rows)
rows_spell conf text layer n [] all = tt
rows_spell conf text layer n (row ∷ rows) all = (all.0.spells, rows_spell conf text layer (n + 1) rows all.1)

pub rows_said : (conf : Configuration) (text : List ℕ) (layer : Annotations) (n : ℕ) (rows : List Row) → AreRows conf text layer rows → said_in conf (numbered n rows) ≡ filter_map (λ row. row.said) rows
rows_said conf text layer n [] all = refl
rows_said conf text layer n (row ∷ rows) all = ap₂ cons_option all.0.said (rows_said conf text layer (n + 1) rows all.1)

pub rows_have : (conf : Configuration) (text : List ℕ) (layer : Annotations) (id : AnnId) (n : ℕ) (rows : List Row) → AreRows conf text layer rows
    → list_any (λ (row : Row). option_map_or (is_id id) row.own false) rows ≡ true → list_any (is_line_of id) (numbered n rows) ≡ true
rows_have conf text layer id n [] all there = there
rows_have conf text layer id n (row ∷ rows) all there =
    elim (option_map_or (is_id id) row.own false) as (λ b. option_map_or (is_id id) row.own false ≡ b → (b || list_any (λ (r : Row). option_map_or (is_id id) r.own false) rows) ≡ true → list_any (is_line_of id) (numbered n (row ∷ rows)) ≡ true) [
      | true ↦ λ e there. ap (λ b. b || list_any (is_line_of id) (numbered (n + 1) rows)) (ap (λ o. option_map_or (is_id id) o false) all.0.own ∙ e)
      | false ↦ λ e there.
          ap (λ b. b || list_any (is_line_of id) (numbered (n + 1) rows)) (ap (λ o. option_map_or (is_id id) o false) all.0.own ∙ e) ∙ rows_have conf text layer id (n + 1) rows all.1 there
    ] refl there

-- ---- no ID on two lines

-- the IDs of rows ascend from a place on
abbrev pub Rise : ℕ → List Row → Type 0
Rise low [] = Unit {0}
Rise low (row ∷ rows) = MatchOption row.own (Rise low rows) (λ id. (low ≤ rank id) × Rise (rank id + 1) rows)

-- the ID of each stands below a place
abbrev pub IsBelow : ℕ → Row → Type 0
IsBelow high row = MatchOption row.own (Unit {0}) (λ id. rank id < high)

-- the IDs of lines before
abbrev IsLineBelow : ℕ → Line → Type 0
IsLineBelow high line = MatchOption (id_read (head_field line.bytes)) (Unit {0}) (λ id. rank id < high)

other_by : (id : AnnId) (o : Option AnnId) → MatchOption o (Unit {0}) (λ other. rank other < rank id) → option_map_or (is_id id) o false ≡ false
other_by id None below = refl
other_by id (Some other) below = ne_eqb (rank id) (rank other) (λ e. omega arith)

none_headed : (id : AnnId) (lines : List Line) → AllByRecursion (IsLineBelow (rank id)) lines → headed_by id lines ≡ None
none_headed id [] all = refl
none_headed id (line ∷ lines) all = ap (λ b. cond b (Some line) (headed_by id lines)) (other_by id (id_read (head_field line.bytes)) all.0) ∙ none_headed id lines all.1

raised : (low high : ℕ) (o : Option AnnId) → low ≤ high → MatchOption o (Unit {0}) (λ id. rank id < low) → MatchOption o (Unit {0}) (λ id. rank id < high)
raised low high None less below = tt
raised low high (Some id) less below = omega arith

all_raised : (low high : ℕ) (lines : List Line) → low ≤ high → AllByRecursion (IsLineBelow low) lines → AllByRecursion (IsLineBelow high) lines
all_raised low high [] less all = tt
all_raised low high (line ∷ lines) less all = (raised low high (id_read (head_field line.bytes)) less all.0, all_raised low high lines less all.1)

pushed : (P : Line → Type 0) (lines : List Line) (line : Line) → AllByRecursion P lines → P line → AllByRecursion P (lines ++ line ∷ [])
pushed P [] line all h = (h, tt)
pushed P (other ∷ lines) line all h = (all.0, pushed P lines line all.1 h)

-- a line is the first that has its ID
first_here : (front rest : List Line) (line : Line) (id : AnnId) → AllByRecursion (IsLineBelow (rank id)) front → id_read (head_field line.bytes) ≡ Some id → headed_by id (front ++ line ∷ rest) ≡ Some line
first_here front rest line id all head =
    find-append (is_headed id) front (line ∷ rest) ∙ ap (λ o. option_or o (headed_by id (line ∷ rest))) (none_headed id front all)
    ∙ ap (λ b. cond b (Some line) (headed_by id rest)) (ap (λ o. option_map_or (is_id id) o false) head ∙ eq-eqb (rank id) (rank id) refl)

not_below : (n : ℕ) → nat_lt n n ≡ false
not_below n = search (arith, tests)

once_here : (all_ : List Line) (line : Line) (own : Option AnnId) → own_id (form_of line.bytes) ≡ own → ((id : AnnId) → own ≡ Some id → headed_by id all_ ≡ Some line) → is_twice all_ line ≡ false
once_here all_ line None is here = ap (λ w. option_map_or (λ id. option_map_or (λ (first : Line). nat_lt first.number line.number) (headed_by id all_) false) w false) is
once_here all_ line (Some id) is here =
    ap (λ w. option_map_or (λ i. option_map_or (λ (first : Line). nat_lt first.number line.number) (headed_by i all_) false) w false) is
    ∙ ap (λ w. option_map_or (λ (first : Line). nat_lt first.number line.number) w false) (here id refl) ∙ not_below line.number

some_same : {X : Type 0} {x y : X} → Some x ≡ Some y → x ≡ y
some_same e = cc

none_some : {X : Type 0} {x : X} → None ≡ Some x → ⊥
none_some e = cc

rise_at : (low : ℕ) (rows : List Row) (id : AnnId) (o : Option AnnId) → o ≡ Some id → MatchOption o (Rise low rows) (λ i. (low ≤ rank i) × Rise (rank i + 1) rows) → (low ≤ rank id) × Rise (rank id + 1) rows
rise_at low rows id o is rise = subst (λ w. MatchOption w (Rise low rows) (λ i. (low ≤ rank i) × Rise (rank i + 1) rows)) is rise

once_from : (conf : Configuration) (text : List ℕ) (layer : Annotations) (front : List Line) (low n : ℕ) (rows : List Row) → AllByRecursion (IsLineBelow low) front → AreRows conf text layer rows → Rise low rows
    → AllByRecursion (λ line. is_twice (front ++ numbered n rows) line ≡ false) (numbered n rows)
once_from conf text layer front low n [] before all rise = tt
once_from conf text layer front low n (row ∷ rows) before all rise =
    let line : Line = record { number = n; bytes = row.line } in
    let rest = numbered (n + 1) rows in (
      once_here (front ++ line ∷ rest) line row.own all.0.own
          (λ id is. first_here front rest line id (all_raised low (rank id) front (rise_at low rows id row.own is rise).0 before) (all.0.head ∙ is)),
      subst (λ (lines : List Line). AllByRecursion (λ l. is_twice lines l ≡ false) rest) (append_assoc front (line ∷ []) rest)
          (elim row.own as (λ o. row.own ≡ o → MatchOption o (Rise low rows) (λ id. (low ≤ rank id) × Rise (rank id + 1) rows) → AllByRecursion (λ l. is_twice ((front ++ line ∷ []) ++ rest) l ≡ false) rest) [
            | None ↦ λ is r.
                once_from conf text layer (front ++ line ∷ []) low (n + 1) rows
                (pushed (IsLineBelow low) front line before (subst (λ o. MatchOption o (Unit {0}) (λ id. rank id < low)) (sym (all.0.head ∙ is)) tt)) all.1 r
            | (Some id) ↦ λ is r.
                once_from conf text layer (front ++ line ∷ []) (rank id + 1) (n + 1) rows
                (pushed (IsLineBelow (rank id + 1)) front line (all_raised low (rank id + 1) front (let least = r.0 in omega arith) before)
                (subst (λ o. MatchOption o (Unit {0}) (λ i. rank i < rank id + 1)) (sym (all.0.head ∙ is)) (let here : rank id < rank id + 1 = omega arith in here)))
                all.1 r.1
          ] refl rise),
    )

pub rows_once : (conf : Configuration) (text : List ℕ) (layer : Annotations) (rows : List Row) → AreRows conf text layer rows → Rise 0 rows → AllByRecursion (λ line. is_twice (numbered 1 rows) line ≡ false) (numbered 1 rows)
rows_once conf text layer rows all rise = once_from conf text layer [] 0 1 rows tt all rise

-- ---- rows of the annotations of a letter

abbrev pub mark_rows : {V : Type 0} → Kind → (ℕ → V → List ℕ) → List (ℕ × V) → List Row
mark_rows kind line es = map (λ e. record { line = line e.0 e.1; own = Some (id_at kind e.0); said = None }) es

-- the place before all IDs of a letter
abbrev pub base : Kind → ℕ
base kind = letter_place kind * 1000000000

rank_is : (kind : Kind) (n : ℕ) → n ≤ 999999999 → rank (id_at kind n) ≡ base kind + n
rank_is kind n small = ap (λ m. base kind + m) (let e : min n 999999999 ≡ n = omega arith in e)

above : {V : Type 0} (k : ℕ) (es : List (ℕ × V)) → T (below_all nat_cmp k es) → AllByRecursion (λ (e : ℕ × V). k + 1 ≤ e.0) es
above k [] h = tt
above k (e ∷ es) h = (let less = ranked k e.0 Less (sym (is_less (nat_cmp k e.0) (left _ _ h))) in omega arith, above k es (right _ _ h))

pub rows_rise : {V : Type 0} (kind : Kind) (line : ℕ → V → List ℕ) (low : ℕ) (es : List (ℕ × V)) → T (is_sorted nat_cmp es) → AllByRecursion (λ (e : ℕ × V). e.0 ≤ 999999999) es → AllByRecursion (λ (e : ℕ × V). low ≤ e.0) es
    → Rise (base kind + low) (mark_rows kind line es)
rows_rise kind line low [] sorted small least = tt
rows_rise kind line low (e ∷ es) sorted small least =
    let is = rank_is kind e.0 small.0 in
    let here = least.0 in
    let next : base kind + (e.0 + 1) ≡ rank (id_at kind e.0) + 1 = omega arith in
    (omega arith, subst (λ b. Rise b (mark_rows kind line es)) next (rows_rise kind line (e.0 + 1) es (right _ _ sorted) small.1 (above e.0 es (left _ _ sorted))))

pub rows_below : {V : Type 0} (kind : Kind) (line : ℕ → V → List ℕ) (high : ℕ) (es : List (ℕ × V)) → base kind + 999999999 < high → AllByRecursion (λ (e : ℕ × V). e.0 ≤ 999999999) es → AllByRecursion (IsBelow high) (mark_rows kind line es)
rows_below kind line high [] far small = tt
rows_below kind line high (e ∷ es) far small = (let is = rank_is kind e.0 small.0 in let few = small.0 in omega arith, rows_below kind line high es far small.1)

lower_by : (low high : ℕ) (rows : List Row) (o : Option AnnId) → low ≤ high → (Rise high rows → Rise low rows) → MatchOption o (Rise high rows) (λ id. (high ≤ rank id) × Rise (rank id + 1) rows) → MatchOption o (Rise low rows) (λ id. (low ≤ rank id) × Rise (rank id + 1) rows)
lower_by low high rows None less more rise = more rise
lower_by low high rows (Some id) less more rise = (let first = rise.0 in omega arith, rise.1)

pub rise_lower : (low high : ℕ) (rows : List Row) → low ≤ high → Rise high rows → Rise low rows
rise_lower low high [] less rise = tt
rise_lower low high (row ∷ rows) less rise = lower_by low high rows row.own less (rise_lower low high rows less) rise

join_by : (low high : ℕ) (xs ys : List Row) (o : Option AnnId) → ((l : ℕ) → l ≤ high → Rise l xs → Rise l (xs ++ ys)) → low ≤ high → MatchOption o (Unit {0}) (λ id. rank id < high)
    → MatchOption o (Rise low xs) (λ id. (low ≤ rank id) × Rise (rank id + 1) xs) → MatchOption o (Rise low (xs ++ ys)) (λ id. (low ≤ rank id) × Rise (rank id + 1) (xs ++ ys))
join_by low high xs ys None more less below rise = more low less rise
join_by low high xs ys (Some id) more less below rise = (rise.0, more (rank id + 1) (omega arith) rise.1)

pub rise-append : (high : ℕ) (xs ys : List Row) → AllByRecursion (IsBelow high) xs → Rise high ys → (low : ℕ) → low ≤ high → Rise low xs → Rise low (xs ++ ys)
rise-append high [] ys below later low less rise = rise_lower low high ys less later
rise-append high (row ∷ xs) ys below later low less rise = join_by low high xs ys row.own (λ l m r. rise-append high xs ys below.1 later l m r) less below.0 rise

-- each number of a map fits
pub small_entries : {V : Type 0} (m : finite.FinMap nat_cmp V) → NumbersFit m → AllByRecursion (λ (e : ℕ × V). finite.get m e.0 ≡ Some e.1) (finite.entries m) → AllByRecursion (λ (e : ℕ × V). e.0 ≤ 999999999) (finite.entries m)
small_entries m fits all = along (λ e. finite.get m e.0 ≡ Some e.1) (λ e. e.0 ≤ 999999999) (λ e is. fits e.0 (ap is_some is)) (finite.entries m) all

-- ---- an ID that the layer has is on a row

is_equal : (o : Ordering) → is_eq o ≡ true → o ≡ Equal
is_equal Less e = absurd (true≢false (sym e))
is_equal Equal e = refl
is_equal Greater e = absurd (true≢false (sym e))

tied : (a b : ℕ) → eq_by_cmp nat_cmp a b ≡ true → a ≡ b
tied a b e = ranked a b Equal (sym (is_equal (nat_cmp a b) e))

or_later : (a : Bool) {b : Bool} → b ≡ true → (a || b) ≡ true
or_later true e = refl
or_later false e = e

pub keys_own : {V : Type 0} (kind : Kind) (line : ℕ → V → List ℕ) (id : AnnId) (es : List (ℕ × V)) → id.kind ≡ kind → AllByRecursion (λ (e : ℕ × V). e.0 ≤ 999999999) es
    → list_any (eq_by_cmp nat_cmp id.number) (map (λ e. e.0) es) ≡ true → list_any (λ (row : Row). option_map_or (is_id id) row.own false) (mark_rows kind line es) ≡ true
keys_own kind line id [] same small there = there
keys_own kind line id (e ∷ es) same small there =
    elim (eq_by_cmp nat_cmp id.number e.0) as (λ b. eq_by_cmp nat_cmp id.number e.0 ≡ b → (b || list_any (eq_by_cmp nat_cmp id.number) (map (λ (e : ℕ × _). e.0) es)) ≡ true
    → (is_id id (id_at kind e.0) || list_any (λ (row : Row). option_map_or (is_id id) row.own false) (mark_rows kind line es)) ≡ true) [
      | true ↦ λ is _.
          ap (λ b. b || list_any (λ (row : Row). option_map_or (is_id id) row.own false) (mark_rows kind line es))
          (eq-eqb (rank id) (rank (id_at kind e.0)) (ap₂ (λ k n. letter_place k * 1000000000 + n) same (tied id.number e.0 is) ∙ sym (rank_is kind e.0 small.0)))
      | false ↦ λ is later. or_later (is_id id (id_at kind e.0)) (keys_own kind line id es same small.1 later)
    ] refl there
