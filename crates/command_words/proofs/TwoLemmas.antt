-- Words that are a command on two files name two.
use Rattle.std.proofs.Common.{◌≡◌, ℕ, Bool, true, false, List, [], ◌∷◌, ◌||◌, ◌&&◌, if◌then◌else◌, Option, Some, None, refl, sym, subst}
use Rattle.std.specs.Prelude.{bytes_eq, codes, option_and_then, option_map}
use Rattle.std.specs.Bool.{Decides}
use Rattle.std.proofs.lemmas.Slice.Eq.{bytes_eq-Decides}
use Rattle.command_words.specs.Asked.{Command, BookCommand, Help, Version, Session, Compact, OnBook, Agree, Scores, Progress, Snapshots, Curated, Export, ColumnsOut, Try, Verify, ColumnsIn, Found, Add, Import, NamesTwo, alone, with_one, with_two, with_three, with_four, compact_of, curated_of, demo_of, export_of, columns_of, add_of, import_of, found_at, unless_hyphens, has_hyphen, is_slug, number_read, level_of, command_of}

false_true : ◌≡◌ {A = Bool} false true → ⊥
false_true same = cc

either : (b : Bool) (x y : Option Command) → NamesTwo x → NamesTwo y → NamesTwo (if b then x else y)
either true x y first second = first
either false x y first second = second

unless : (b : Bool) (x : Option Command) → NamesTwo x → NamesTwo (unless_hyphens b x)
unless true x first = tt
unless false x first = first

apart : (book made : List ℕ) (b : Bool) → Decides b (book ≡ made) → NamesTwo (if b then None else Some (Compact book made))
apart book made true d = tt
apart book made false d = λ same. false_true (d.1 same)

curated : (book : List ℕ) (number : Option ℕ) → NamesTwo (curated_of book number)
curated book None = tt
curated book (Some number) = tt

demonstrated : (number : Option ℕ) → NamesTwo (demo_of number)
demonstrated None = tt
demonstrated (Some number) = tt

founded : (book conf roster : List ℕ) (level : Option ℕ) → NamesTwo (found_at book conf roster level)
founded book conf roster None = tt
founded book conf roster (Some level) = tt

single : (name : List ℕ) → NamesTwo (alone name)
single name = either (bytes_eq name (codes "--help")) (Some Help) _ tt (either (bytes_eq name (codes "--version")) (Some Version) None tt tt)

of_one : (name a : List ℕ) → NamesTwo (with_one name a)
of_one name a =
    either (bytes_eq name (codes "session")) (Some (Session a)) _ tt
    (either (bytes_eq name (codes "agree")) (Some (OnBook (Agree a))) _ tt
    (either (bytes_eq name (codes "scores")) (Some (OnBook (Scores a))) _ tt
    (either (bytes_eq name (codes "progress")) (Some (OnBook (Progress a))) _ tt
    (either (bytes_eq name (codes "snapshots")) (Some (OnBook (Snapshots a))) _ tt
    (either (bytes_eq name (codes "demo")) (demo_of (number_read a)) None (demonstrated (number_read a)) tt)))))

of_two : (name a b : List ℕ) → NamesTwo (with_two name a b)
of_two name a b =
    either (bytes_eq name (codes "try")) (Some (Try a b)) _ tt
    (either (bytes_eq name (codes "compact")) (compact_of a b) _ (apart a b (bytes_eq a b) (bytes_eq-Decides a b))
    (either (bytes_eq name (codes "curated")) (curated_of a (number_read b)) None (curated a (number_read b)) tt))

of_three : (name a b c : List ℕ) → NamesTwo (with_three name a b c)
of_three name a b c =
    either (bytes_eq name (codes "verify")) (Some (Verify a b c)) _ tt
    (either (bytes_eq name (codes "columns-in")) (Some (ColumnsIn a b c)) _ tt
    (either (bytes_eq name (codes "found")) (Some (OnBook (Found a b c 255))) _ tt
    (either (bytes_eq name (codes "export")) (export_of a b c) _ (either (is_slug b && is_slug c) (Some (OnBook (Export a b c))) None tt tt)
    (either (bytes_eq name (codes "columns-out")) (columns_of a b c) None (either (is_slug b && is_slug c) (Some (OnBook (ColumnsOut a b c))) None tt tt) tt))))

of_four : (name a b c d : List ℕ) → NamesTwo (with_four name a b c d)
of_four name a b c d =
    either (bytes_eq name (codes "add")) (add_of a b c d) _ (either (is_slug b && is_slug c) (Some (OnBook (Add a b c d))) None tt tt)
    (either (bytes_eq name (codes "import")) (import_of a b c d) _ (either (is_slug b && is_slug c) (Some (OnBook (Import a b c d))) None tt tt)
    (either (bytes_eq name (codes "found-at")) (found_at a b c (option_and_then level_of (number_read d))) None (founded a b c (option_and_then level_of (number_read d))) tt))

-- words that are a command on two files name two
pub names_two : (words : List (List ℕ)) → NamesTwo (command_of words)
names_two [] = tt
names_two (name ∷ []) = single name
names_two (name ∷ a ∷ []) = unless (has_hyphen a) (with_one name a) (of_one name a)
names_two (name ∷ a ∷ b ∷ []) = unless (has_hyphen a || has_hyphen b) (with_two name a b) (of_two name a b)
names_two (name ∷ a ∷ b ∷ c ∷ []) = unless (has_hyphen a || has_hyphen b || has_hyphen c) (with_three name a b c) (of_three name a b c)
names_two (name ∷ a ∷ b ∷ c ∷ d ∷ []) = unless (has_hyphen a || has_hyphen b || has_hyphen c || has_hyphen d) (with_four name a b c d) (of_four name a b c d)
names_two (name ∷ a ∷ b ∷ c ∷ d ∷ e ∷ rest) = tt
