-- One line of the pass that seeks the first fault.
use Rattle.std.proofs.Common.{◌≡◌, ℕ, List, [], ◌∷◌, ◌++◌, ◌∙◌, ap, refl, Option, Some, None, slice_index}
use Rattle.std.specs.Option.{option_or, option_map}
use Rattle.conf_model.specs.Configurations.{Configuration}
use Rattle.ann_reader.specs.declared.ann_fault.AnnWhat.{AnnWhat}
use Rattle.ann_reader.specs.Lines.{Line}
use Rattle.ann_reader.specs.LineFaults.{Fault, count_like, line_fault, first_line_fault}

-- the fault of a line, as the first of the lines from it on
abbrev told_by : ℕ → Option Fault → Option AnnWhat → Option Fault
told_by number rest o = option_or (option_map (λ what. record { line = number; what = what }) o) rest

pub fault_here : (conf : Configuration) (all before : List Line) (line : Line) (more : List Line) (n : ℕ) (what : AnnWhat)
    → n ≡ count_like (slice_index line.bytes 0) before → Some what ≡ line_fault conf all n line
    → Some (record { line = line.number; what = what }) ≡ first_line_fault conf all before (line ∷ more)
fault_here conf all before line more n what count e =
    ap (told_by line.number (first_line_fault conf all (before ++ (line ∷ [])) more)) (e ∙ ap (λ k. line_fault conf all k line) count)

pub fault_later : (conf : Configuration) (all before : List Line) (line : Line) (more : List Line) (n : ℕ)
    → n ≡ count_like (slice_index line.bytes 0) before → None ≡ line_fault conf all n line
    → first_line_fault conf all (before ++ (line ∷ [])) more ≡ first_line_fault conf all before (line ∷ more)
fault_later conf all before line more n count e =
    ap (told_by line.number (first_line_fault conf all (before ++ (line ∷ [])) more)) (e ∙ ap (λ k. line_fault conf all k line) count)

-- ---- the first of three

pub or_later : {X : Type 0} (a b c : Option X) → option_or (option_or a b) c ≡ option_or a (option_or b c)
or_later None b c = refl
or_later (Some x) b c = refl

pub or_none : {X : Type 0} (a : Option X) → option_or a None ≡ a
or_none None = refl
or_none (Some x) = refl
