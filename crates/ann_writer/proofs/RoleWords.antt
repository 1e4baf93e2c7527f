-- The arguments of a written event are read back.
use Rattle.std.proofs.Common.{◌≡◌, refl, sym, ap, ap₂, ◌∙◌, subst, ℕ, suc, ◌+◌, ◌-◌, ◌<◌, Bool, true, false, cond, ◌&&◌, ◌==◌, List, [], ◌∷◌, ◌++◌, length, take, drop, arith, nat_lt, decimal, codes, Option, Some, None, option_map, option_and_then, bytes_eq, take-append-drop}
use Rattle.std.proofs.lemmas.Bool.{and_parts, true≢false, eqb-true}
use Rattle.std.specs.Option.{option_map_or, option_or}
use Rattle.std.specs.Str.{NonePass, all_ascii_digits}
use Rattle.std.specs.List.{All, AllByRecursion, position_from}
use Rattle.std.proofs.lemmas.Bool.{ne_eqb}
use Rattle.mark_base.specs.declared.arguments.Arg.{Arg}
use Rattle.mark_base.specs.declared.table_places.TypeId.{TypeId}
use Rattle.mark_base.specs.AnnIds.{is_canonical}
use Rattle.conf_model.specs.Configurations.{Configuration}
use Rattle.conf_model.specs.declared.role.Role.{Role}
use Rattle.conf_model.specs.Lookups.{roles_of, role_named}
use Rattle.conf_model.specs.Sound.{IsSound, IsRole}
use Rattle.annotation_conf.proofs.Written.{IsWord}
use Rattle.annotation_conf.proofs.WrittenLists.{none-append}
use Rattle.layer_rules.specs.MarkRules.{filled}
use Rattle.ann_reader.specs.Roles.{role_read, role_before, role_before_number, digit_counts}
use Rattle.ann_reader.specs.LineForms.{Pair, pairs_read}
use Rattle.ann_reader.specs.LineMeanings.{arg_by, args_of}
use Rattle.ann_writer.specs.Words.{argument_words, id_word, pair_word, reads_as, role_name_at, role_spelling}
use Rattle.ann_writer.proofs.ConfWords.{are_roles, equal_words, is_word}
use Rattle.ann_writer.proofs.NameFacts.{role_facts}
use Rattle.ann_writer.proofs.FragWords.{id_read_back}
use Rattle.ann_writer.proofs.PlainWords.{IsPlain, parts, name_plain, name_colon, plain-append, spelling_plain, digits_none, digit_parts}
use Rattle.ann_writer.proofs.FieldWords.{pair_read_back}

some_none : {X : Type 0} {x : X} → None ≡ Some x → ⊥
some_none e = cc

-- ---- a spelling of a role is read as the role

read_same : (o : Option ℕ) (role : ℕ) → option_map_or (λ read. read == role) o false ≡ true → o ≡ Some role
read_same None role e = absurd (true≢false (sym e))
read_same (Some read) role e = ap Some (eqb-true read role e)

spelled_by : (conf : Configuration) (event role k : ℕ) (name : List ℕ) (b : Bool) → (nat_lt 1 k && reads_as conf event (name ++ decimal k) role) ≡ b → role_named conf event name ≡ Some role
    → role_read conf event (cond b (name ++ decimal k) name) ≡ Some role
unfolding role_read
spelled_by conf event role k name true e named = read_same (role_read conf event (name ++ decimal k)) role (and_parts (nat_lt 1 k) (reads_as conf event (name ++ decimal k) role) e).1
spelled_by conf event role k name false e named = ap (λ o. option_or o (role_before_number conf event name digit_counts)) named

pub spelled_read : (conf : Configuration) → IsSound conf → (event role k : ℕ) → role < length (roles_of conf event) → role_read conf event (role_spelling conf event role k) ≡ Some role
spelled_read conf sound event role k within =
    let name = role_name_at conf event role in
    spelled_by conf event role k name (nat_lt 1 k && reads_as conf event (name ++ decimal k) role) refl (role_facts conf sound event role within).read

-- ---- a word that is read as a role is plain

pub record IsRoleWord (word : List ℕ) : Type 0 where
  pub plain : IsPlain word
  pub colon : NonePass (λ b. b == 58) word

word_role : (word : List ℕ) → IsWord word → IsRoleWord word
word_role word h = record { plain = name_plain word h; colon = name_colon word h }

found_keeps : {X : Type 0} (p : X → Bool) (P : X → Type 0) (Q : Type 0) (xs : List X) (i k : ℕ) → All P xs → ((x : X) → P x → p x ≡ true → Q) → position_from p i xs ≡ Some k → Q
found_keeps p P Q [] i k all use_ e = absurd (some_none e)
found_keeps p P Q (x ∷ xs) i k all use_ e =
    elim (p x) as (λ b. p x ≡ b → cond b (Some i) (position_from p (i + 1) xs) ≡ Some k → Q) [
      | true ↦ λ is e. use_ x (all 0 x (omega arith)) is
      | false ↦ λ is e. found_keeps p P Q xs (i + 1) k (λ j d within. all (suc j) d (omega arith)) use_ e
    ] refl e

named_word : (conf : Configuration) → IsSound conf → (event : ℕ) (word : List ℕ) (k : ℕ) → role_named conf event word ≡ Some k → IsWord word
named_word conf sound event word k e =
    found_keeps (λ (role : Role). bytes_eq role.name word) (IsRole conf) (IsWord word) (roles_of conf event) 0 k (are_roles conf sound event).each
    (λ role h is. subst IsWord (equal_words role.name word is) (is_word role.name h.name)) e

canonical_digits : (ds : List ℕ) → is_canonical ds ≡ true → all_ascii_digits ds ≡ true
canonical_digits ds t = (and_parts _ _ (and_parts _ _ t).0).1

before_word : (conf : Configuration) → IsSound conf → (event : ℕ) (word : List ℕ) (n : ℕ) (b : Bool) (k : ℕ) → (b ≡ true → is_canonical (drop n word) ≡ true)
    → cond b (role_named conf event (take n word)) None ≡ Some k → IsRoleWord word
before_word conf sound event word n false k digits e = absurd (some_none e)
before_word conf sound event word n true k digits e =
    let front : IsRoleWord (take n word) = word_role (take n word) (named_word conf sound event (take n word) k e) in
    let rest : all_ascii_digits (drop n word) ≡ true = canonical_digits (drop n word) (digits refl) in
    subst IsRoleWord (take-append-drop n word) (record {
      plain = plain-append (take n word) (drop n word) front.plain (digits_none parts digit_parts (drop n word) rest);
      colon = none-append (λ b. b == 58) (take n word) (drop n word) front.colon (digits_none (λ b. b == 58) (λ b low high. ne_eqb b 58 (λ e. omega arith)) (drop n word) rest);
    })

number_word : (conf : Configuration) → IsSound conf → (event : ℕ) (word counts : List ℕ) (k : ℕ) → role_before_number conf event word counts ≡ Some k → IsRoleWord word
number_word conf sound event word [] k e = absurd (some_none e)
number_word conf sound event word (digits ∷ more) k e =
    elim (role_before conf event word digits) as (λ o. role_before conf event word digits ≡ o → option_or o (role_before_number conf event word more) ≡ Some k → IsRoleWord word) [
      | None ↦ λ is e. number_word conf sound event word more k e
      | (Some j) ↦ λ is e. before_word conf sound event word (length word - digits) (nat_lt digits (length word) && is_canonical (drop (length word - digits) word)) j
          (λ t. (and_parts (nat_lt digits (length word)) (is_canonical (drop (length word - digits) word)) t).1) is
    ] refl e

pub read_word : (conf : Configuration) → IsSound conf → (event : ℕ) (word : List ℕ) (k : ℕ) → role_read conf event word ≡ Some k → IsRoleWord word
unfolding role_read
read_word conf sound event word k e =
    elim (role_named conf event word) as (λ o. role_named conf event word ≡ o → option_or o (role_before_number conf event word digit_counts) ≡ Some k → IsRoleWord word) [
      | None ↦ λ is e. number_word conf sound event word digit_counts k e
      | (Some j) ↦ λ is e. word_role word (named_word conf sound event word j is)
    ] refl e

-- ---- arguments

-- the pairs of the arguments of an event, as they are written
abbrev pub written_pairs : Configuration → ℕ → List Arg → List Arg → List Pair
written_pairs conf event before [] = []
written_pairs conf event before (arg ∷ args) =
    record { role = role_spelling conf event arg.role (filled arg.role before + 1); target = id_word arg.target } ∷ written_pairs conf event (before ++ arg ∷ []) args

abbrev pub AreDeclared : Configuration → ℕ → List Arg → Type 0
AreDeclared conf event args = AllByRecursion (λ (arg : Arg). arg.role < length (roles_of conf event)) args

pub declared_each : (n : ℕ) (args : List Arg) → All (λ (arg : Arg). arg.role < n) args → AllByRecursion (λ (arg : Arg). arg.role < n) args
declared_each n [] all = tt
declared_each n (arg ∷ args) all = (all 0 arg (omega arith), declared_each n args (λ k d within. all (suc k) d (omega arith)))

spelled_word : (conf : Configuration) → IsSound conf → (event role k : ℕ) → role < length (roles_of conf event) → IsRoleWord (role_spelling conf event role k)
spelled_word conf sound event role k within = read_word conf sound event (role_spelling conf event role k) role (spelled_read conf sound event role k within)

pub pair_plain : (name value : List ℕ) → IsPlain name → NonePass parts value → IsPlain (pair_word name value)
pair_plain name value h free = plain-append (name ++ codes ":") value (plain-append name (codes ":") h (refl, tt)) free

pub words_plain : (conf : Configuration) → IsSound conf → (event : ℕ) (before args : List Arg) → AreDeclared conf event args → AllByRecursion IsPlain (argument_words conf event before args)
words_plain conf sound event before [] all = tt
words_plain conf sound event before (arg ∷ args) all =
    let role = spelled_word conf sound event arg.role (filled arg.role before + 1) all.0 in (
      pair_plain (role_spelling conf event arg.role (filled arg.role before + 1)) (id_word arg.target) role.plain (spelling_plain arg.target.kind arg.target.number arg.target.within).free,
      words_plain conf sound event (before ++ arg ∷ []) args all.1,
    )

pub pairs_read_back : (conf : Configuration) → IsSound conf → (event : ℕ) (before args : List Arg) → AreDeclared conf event args → pairs_read (argument_words conf event before args) ≡ Some (written_pairs conf event before args)
pairs_read_back conf sound event before [] all = refl
pairs_read_back conf sound event before (arg ∷ args) all =
    let name = role_spelling conf event arg.role (filled arg.role before + 1) in
    let role = spelled_word conf sound event arg.role (filled arg.role before + 1) all.0 in
    let pair : Pair = record { role = name; target = id_word arg.target } in
    ap (option_and_then (λ p. option_map (λ ps. p ∷ ps) (pairs_read (argument_words conf event (before ++ arg ∷ []) args)))) (pair_read_back name (id_word arg.target) role.plain.some role.colon)
    ∙ ap (option_map (λ ps. pair ∷ ps)) (pairs_read_back conf sound event (before ++ arg ∷ []) args all.1)

pub args_read_back : (conf : Configuration) → IsSound conf → (kind : TypeId) (before args : List Arg) → AreDeclared conf kind.n args → args_of conf kind (written_pairs conf kind.n before args) ≡ Some args
args_read_back conf sound kind before [] all = refl
args_read_back conf sound kind before (arg ∷ args) all =
    let name = role_spelling conf kind.n arg.role (filled arg.role before + 1) in
    ap (option_and_then (λ x. option_map (λ xs. x ∷ xs) (args_of conf kind (written_pairs conf kind.n (before ++ arg ∷ []) args))))
    (ap₂ arg_by (spelled_read conf sound kind.n arg.role (filled arg.role before + 1) all.0) (id_read_back arg.target))
    ∙ ap (option_map (λ xs. arg ∷ xs)) (args_read_back conf sound kind (before ++ arg ∷ []) args all.1)
