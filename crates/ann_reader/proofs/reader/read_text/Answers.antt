use Rattle.std.proofs.Common.{◌≡◌, ◌∙◌, ◌≤◌, ◌+◌, sym, ap, ℕ, length, arith, List}
use Rattle.ann_reader.specs.Lines.{Line, lines_of}
use Rattle.ann_reader.proofs.AnswerLemmas.{lines_few, rest_told, rest_clean, rest_read}
use Rattle.ann_reader.proofs.reader.read_text.Goals as goal

few : (known : List Line) (text : List ℕ) → known ≡ lines_of text → length text ≤ 16777216 → length known ≤ 16777217
few known text same short =
    let len : length known ≡ length (lines_of text) = ap (length {A = Line}) same in
    let most : length (lines_of text) ≤ length text + 1 = lines_few text in
    omega (arith, len, most, short)

pub spelt_by-requires : goal.spelt_by-requires
spelt_by-requires c = few c.in_ok-known.known c.args.text.now (c.in_ok-known.ensures ∙ c.in_ok-lines.ensures) c.requires

pub returns : goal.returns
returns c =
    let same : c.in_ok-known.known ≡ lines_of c.args.text.now = c.in_ok-known.ensures ∙ c.in_ok-lines.ensures in
    record {
      read = rest_read c.args.conf.now c.in_ok-known.known (lines_of c.args.text.now) c.layer_read.result same c.layer_read.ensures.read;
      clean = rest_clean c.args.conf.now c.args.doc.now c.in_ok-known.known (lines_of c.args.text.now) c.layer_read.result same (sym c.in_ok-spelt.ensures.clean) c.layer_read.ensures.clean;
      fault = rest_told c.args.conf.now c.args.doc.now c.in_ok-known.known (lines_of c.args.text.now) c.layer_read.result same (sym c.in_ok-spelt.ensures.clean) c.layer_read.ensures.fault;
    }
