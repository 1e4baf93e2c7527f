-- The macros of a file are those that are kept, with what each holds.
use Rattle.std.proofs.Common.{◌≡◌, ℕ, List, [], ◌∷◌, ◌++◌, refl, sym, ◌∙◌, ap, append_assoc, map}
use Rattle.std.proofs.lemmas.List.{append-nil, map-append}
use Rattle.conf_model.specs.ConfLines.{Place, Kind, Skipped, Header, Macro, Content, Line, file_lines}
use Rattle.conf_model.specs.ConfNames.{MacroLine, macro_at, macros_from, file_of}
use Rattle.annotation_conf.specs.FileKept.{KeptMacro, kept_macro}
use Rattle.annotation_conf.specs.FileHolds.{held_from}

-- the macros that lines define, as they are kept
abbrev kept_macros : List Line → List KeptMacro
kept_macros [] = []
kept_macros (line ∷ lines) = map kept_macro (macro_at [] line.number line.place line.kind) ++ kept_macros lines

-- what a macro is kept as does not depend on those before it
one_kept : (before : List MacroLine) (n : ℕ) (place : Place) (kind : Kind) → map kept_macro (macro_at before n place kind) ≡ map kept_macro (macro_at [] n place kind)
one_kept before n place Skipped = refl
one_kept before n place (Header s) = refl
one_kept before n place (Macro name cs) = refl
one_kept before n place (Content cs) = refl

all_kept : (before : List MacroLine) (ls : List Line) → map kept_macro (macros_from before ls) ≡ map kept_macro before ++ kept_macros ls
all_kept before [] = sym (append-nil (map kept_macro before))
all_kept before (line ∷ ls) =
    let here = macro_at before line.number line.place line.kind in
    all_kept (before ++ here) ls
    ∙ ap (λ m. m ++ kept_macros ls) (map-append kept_macro before here ∙ ap (λ m. map kept_macro before ++ m) (one_kept before line.number line.place line.kind))
    ∙ append_assoc (map kept_macro before) (map kept_macro (macro_at [] line.number line.place line.kind)) (kept_macros ls)

-- one line is read alike either way
one_held : (before : List MacroLine) (n : ℕ) (place : Place) (kind : Kind) (more : List KeptMacro)
    → held_from (before ++ macro_at before n place kind) more ≡ held_from before (map kept_macro (macro_at [] n place kind) ++ more)
one_held before n place Skipped more = ap (λ b. held_from b more) (append-nil before)
one_held before n place (Header s) more = ap (λ b. held_from b more) (append-nil before)
one_held before n place (Macro name cs) more = refl
one_held before n place (Content cs) more = ap (λ b. held_from b more) (append-nil before)

all_held_from : (before : List MacroLine) (ls : List Line) → macros_from before ls ≡ held_from before (kept_macros ls)
all_held_from before [] = refl
all_held_from before (line ∷ ls) =
    all_held_from (before ++ macro_at before line.number line.place line.kind) ls ∙ one_held before line.number line.place line.kind (kept_macros ls)

-- the macros of lines
pub macros-of_lines : (ls : List Line) → macros_from [] ls ≡ held_from [] (map kept_macro (macros_from [] ls))
macros-of_lines ls = all_held_from [] ls ∙ ap (λ m. held_from [] m) (sym (all_kept [] ls))

-- the macros of a file
pub macros-held : (bytes : List ℕ) → (file_of bytes).macros ≡ held_from [] (map kept_macro (file_of bytes).macros)
unfolding file_of
macros-held bytes = macros-of_lines (file_lines bytes)
