-- Which fault of a line is told first.
use Rattle.std.proofs.Common.{◌≡◌, ℕ, Bool, true, false, cond, List, ◌∙◌, ap, Option, Some}
use Rattle.std.specs.Option.{option_map}
use Rattle.conf_model.specs.Configurations.{Configuration}
use Rattle.ann_reader.specs.declared.ann_fault.AnnWhat.{AnnWhat}
use Rattle.ann_reader.specs.declared.ann_fault.AnnWhat.TheVariants.{BadLine, BadId, IdTwice, Broken}
use Rattle.ann_reader.specs.Lines.{Line}
use Rattle.ann_reader.specs.LineForms.{Form, form_of}
use Rattle.ann_reader.specs.LineFaults.{is_bad_line, has_bad_id, is_twice, line_rule, line_fault}

-- the fault by three tests and the first rule that is broken
abbrev pub fault_by : Bool → Bool → Bool → Option AnnWhat → Option AnnWhat
fault_by bad misspelt twice rest = cond bad (Some BadLine) (cond misspelt (Some BadId) (cond twice (Some IdTwice) rest))

pub fault_told : (conf : Configuration) (all : List Line) (before : ℕ) (line : Line) (form : Form) → form ≡ form_of line.bytes
    → fault_by (is_bad_line form) (has_bad_id form) (is_twice all line) (option_map Broken (line_rule conf all before line form)) ≡ line_fault conf all before line
unfolding line_fault
fault_told conf all before line form e =
    ap (λ (f : Form). fault_by (is_bad_line f) (has_bad_id f) (is_twice all line) (option_map Broken (line_rule conf all before line f))) e

-- the form is at fault
pub bad_line : (conf : Configuration) (all : List Line) (before : ℕ) (line : Line) (form : Form) → form ≡ form_of line.bytes
    → true ≡ is_bad_line form → Some BadLine ≡ line_fault conf all before line
bad_line conf all before line form e bad =
    ap (λ b. fault_by b (has_bad_id form) (is_twice all line) (option_map Broken (line_rule conf all before line form))) bad ∙ fault_told conf all before line form e

-- an ID is misspelt
pub bad_id : (conf : Configuration) (all : List Line) (before : ℕ) (line : Line) (form : Form) → form ≡ form_of line.bytes
    → false ≡ is_bad_line form → true ≡ has_bad_id form → Some BadId ≡ line_fault conf all before line
bad_id conf all before line form e good bad =
    ap (λ b. fault_by b true (is_twice all line) (option_map Broken (line_rule conf all before line form))) good
    ∙ ap (λ b. fault_by (is_bad_line form) b (is_twice all line) (option_map Broken (line_rule conf all before line form))) bad ∙ fault_told conf all before line form e

-- the ID of the line was there
pub twice : (conf : Configuration) (all : List Line) (before : ℕ) (line : Line) (form : Form) → form ≡ form_of line.bytes
    → false ≡ is_bad_line form → false ≡ has_bad_id form → true ≡ is_twice all line → Some IdTwice ≡ line_fault conf all before line
twice conf all before line form e good spelt again =
    ap (λ b. fault_by b false true (option_map Broken (line_rule conf all before line form))) good
    ∙ ap (λ b. fault_by (is_bad_line form) b true (option_map Broken (line_rule conf all before line form))) spelt
    ∙ ap (λ b. fault_by (is_bad_line form) (has_bad_id form) b (option_map Broken (line_rule conf all before line form))) again ∙ fault_told conf all before line form e

-- a rule is broken, or none
pub ruled : (conf : Configuration) (all : List Line) (before : ℕ) (line : Line) (form : Form) → form ≡ form_of line.bytes
    → false ≡ is_bad_line form → false ≡ has_bad_id form → false ≡ is_twice all line → (what : Option AnnWhat)
    → what ≡ option_map Broken (line_rule conf all before line form) → what ≡ line_fault conf all before line
ruled conf all before line form e good spelt once what rule =
    rule ∙ ap (λ b. fault_by b false false (option_map Broken (line_rule conf all before line form))) good
    ∙ ap (λ b. fault_by (is_bad_line form) b false (option_map Broken (line_rule conf all before line form))) spelt
    ∙ ap (λ b. fault_by (is_bad_line form) (has_bad_id form) b (option_map Broken (line_rule conf all before line form))) once ∙ fault_told conf all before line form e
