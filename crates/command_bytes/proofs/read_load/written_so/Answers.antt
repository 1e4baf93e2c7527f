use Rattle.std.proofs.Common.{◌≡◌, sym, rules}
use Rattle.ann_writer.specs.AnnOf.{ann_of}
use Rattle.command_bytes.proofs.LoadLemmas.{is_in, isnt_in}
use Rattle.command_bytes.proofs.read_load.written_so.Goals as goal

pub returns-then-eq : goal.returns-then-eq
returns-then-eq c =
    let conf = c.args.conf.now in
    let text = c.args.doc.now in
    let lines = c.args.lines.now in
    let layer = c.args.layer in
    let clean = c.files_of_a_layer.ensures.faultless conf text lines layer c.keeps.ensures c.requires.read in
    let said = c.files_of_a_layer.ensures.said conf text lines layer c.keeps.ensures c.requires.read in
    let same : ann_of conf text layer ≡ lines = search rules in
    sym (is_in conf text lines layer c.requires.few clean said same)

pub returns-else-eq : goal.returns-else-eq
returns-else-eq c =
    let conf = c.args.conf.now in
    let text = c.args.doc.now in
    let lines = c.args.lines.now in
    let layer = c.args.layer in
    let clean = c.files_of_a_layer.ensures.faultless conf text lines layer c.keeps.ensures c.requires.read in
    let said = c.files_of_a_layer.ensures.said conf text lines layer c.keeps.ensures c.requires.read in
    let other : ann_of conf text layer ≡ lines → ⊥ = search rules in
    sym (isnt_in conf text lines layer c.requires.few clean said other)
