-- The sections of a file by their lines, and what the lines of a section declare.
use Rattle.std.proofs.Common.{◌≡◌, refl, sym, ap, ap₂, ◌∙◌, ℕ, suc, ◌+◌, true, false, List, [], ◌∷◌, ◌++◌, length, arith, Some, None, chars, map, add-zero, if◌then◌else◌}
use Rattle.std.proofs.lemmas.List.Elements.{filter_map-append}
use Rattle.std.specs.List.{AllByRecursion, cons_option}
use Rattle.conf_model.specs.ConfLines.{Section, Place, Within, Kind, Header, Line, kind_of, place_after, lines_from}
use Rattle.conf_model.specs.ConfNames.{is_section, content_of, section_lines, macros_from}
use Rattle.annotation_conf.proofs.Written.{numbered, content_line, written_section}
use Rattle.annotation_conf.proofs.WrittenLines.{IsContent}

-- a line of a kind, and the lines behind it
abbrev line_and : ℕ → Place → List (List ℕ) → Kind → List Line
line_and number place more kind = record { number = number; place = place_after place kind; kind = kind } ∷ lines_from (number + 1) (place_after place kind) more

pub contents_from : (section : Section) (number : ℕ) (texts more : List (List ℕ)) → AllByRecursion IsContent texts
    → lines_from number (Within section) (texts ++ more) ≡ numbered (content_line section) number texts ++ lines_from (number + length texts) (Within section) more
contents_from section number [] more h = ap (λ n. lines_from n (Within section) more) (sym (add-zero number))
contents_from section number (text ∷ texts) more h =
    let next : number + 1 + length texts ≡ number + suc (length texts) = omega arith in
    ap (line_and number (Within section) (texts ++ more)) h.0.kind
    ∙ ap (λ rest. content_line section number text ∷ rest)
    (contents_from section (number + 1) texts more h.1
    ∙ ap (λ n. numbered (content_line section) (number + 1) texts ++ lines_from n (Within section) more) next)

pub section_from : (section : Section) (header : List ℕ) (number : ℕ) (place : Place) (texts more : List (List ℕ)) → kind_of (chars header) ≡ Header (Some section) → AllByRecursion IsContent texts
    → lines_from number place (header ∷ texts ++ more) ≡ written_section section number texts ++ lines_from (number + 1 + length texts) (Within section) more
section_from section header number place texts more named h =
    ap (line_and number place (texts ++ more)) named
    ∙ ap (λ rest. record { number = number; place = Within section; kind = Header (Some section) } ∷ rest) (contents_from section (number + 1) texts more h)

-- the lines of a section, read
pub section-append : {X : Type 0} (section : Section) (read : ℕ → List ℕ → X) (xs ys : List Line) → section_lines section read (xs ++ ys) ≡ section_lines section read xs ++ section_lines section read ys
section-append section read xs ys = filter_map-append (λ (line : Line). content_of section read line.number line.place line.kind) xs ys

contents_read : {X : Type 0} (section here : Section) (read : ℕ → List ℕ → X) → is_section section here ≡ true → (number : ℕ) (texts : List (List ℕ))
    → section_lines section read (numbered (content_line here) number texts) ≡ numbered (λ n text. read n (chars text)) number texts
contents_read section here read e number [] = refl
contents_read section here read e number (text ∷ texts) =
    ap₂ (λ found more. cons_option found more) (ap (λ b. if b then Some (read number (chars text)) else None) e) (contents_read section here read e (number + 1) texts)

contents_passed : {X : Type 0} (section here : Section) (read : ℕ → List ℕ → X) → is_section section here ≡ false → (number : ℕ) (texts : List (List ℕ))
    → section_lines section read (numbered (content_line here) number texts) ≡ []
contents_passed section here read e number [] = refl
contents_passed section here read e number (text ∷ texts) =
    ap₂ (λ found more. cons_option found more) (ap (λ b. if b then Some (read number (chars text)) else None) e) (contents_passed section here read e (number + 1) texts)

-- rows whose texts are read as what is written of them
pub rows_read : {X Y : Type 0} (read : ℕ → List ℕ → Y) (text : X → List ℕ) (write : ℕ → X → Y) (rows : List X)
    → AllByRecursion (λ row. (number : ℕ) → read number (chars (text row)) ≡ write number row) rows → (number : ℕ)
    → numbered (λ n line. read n (chars line)) number (map text rows) ≡ numbered write number rows
rows_read read text write [] h number = refl
rows_read read text write (row ∷ rows) h number = ap₂ (λ a b. a ∷ b) (h.0 number) (rows_read read text write rows h.1 (number + 1))

pub numbered-append : {X Y : Type 0} (write : ℕ → X → Y) (number : ℕ) (xs ys : List X) → numbered write number (xs ++ ys) ≡ numbered write number xs ++ numbered write (number + length xs) ys
numbered-append write number [] ys = ap (λ n. numbered write n ys) (sym (add-zero number))
numbered-append write number (x ∷ xs) ys =
    let next : number + 1 + length xs ≡ number + suc (length xs) = omega arith in
    ap (λ rest. write number x ∷ rest) (numbered-append write (number + 1) xs ys ∙ ap (λ n. numbered write (number + 1) xs ++ numbered write n ys) next)

pub section_read : {X : Type 0} (section here : Section) (read : ℕ → List ℕ → X) → is_section section here ≡ true → (number : ℕ) (texts : List (List ℕ))
    → section_lines section read (written_section here number texts) ≡ numbered (λ n text. read n (chars text)) (number + 1) texts
section_read section here read e number texts = contents_read section here read e (number + 1) texts

pub section_passed : {X : Type 0} (section here : Section) (read : ℕ → List ℕ → X) → is_section section here ≡ false → (number : ℕ) (texts : List (List ℕ))
    → section_lines section read (written_section here number texts) ≡ []
section_passed section here read e number texts = contents_passed section here read e (number + 1) texts

-- no line defines a macro
contents_macros : (section : Section) (number : ℕ) (texts : List (List ℕ)) (more : List Line) → macros_from [] (numbered (content_line section) number texts ++ more) ≡ macros_from [] more
contents_macros section number [] more = refl
contents_macros section number (text ∷ texts) more = contents_macros section (number + 1) texts more

pub section_macros : (section : Section) (number : ℕ) (texts : List (List ℕ)) (more : List Line) → macros_from [] (written_section section number texts ++ more) ≡ macros_from [] more
section_macros section number texts more = contents_macros section (number + 1) texts more
