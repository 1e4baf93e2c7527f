use Rattle.std.proofs.Common.{sym, ◌∙◌, ap, Some, None}
use Rattle.std.specs.Option.{option_map}
use Rattle.ann_reader.specs.declared.ann_fault.AnnWhat.TheVariants.{Broken}
use Rattle.ann_reader.specs.FormShows.{seen_form}
use Rattle.ann_reader.specs.LineShows.{seen_line}
use Rattle.ann_reader.proofs.LineFaultLemmas.{bad_line, bad_id, twice, ruled}
use Rattle.ann_reader.proofs.line_fault.line_fault.Goals as goal

pub returns-then-is_bad_line : goal.returns-then-is_bad_line
returns-then-is_bad_line c =
    bad_line c.args.conf.now c.args.known.now c.args.before (seen_line c.args.line.now) (seen_form c.args.form.now) c.requires.formed (sym c.if-is_bad_line.true ∙ c.is_bad_line.ensures)

pub returns-then-has_bad_id : goal.returns-then-has_bad_id
returns-then-has_bad_id c =
    bad_id c.args.conf.now c.args.known.now c.args.before (seen_line c.args.line.now) (seen_form c.args.form.now) c.requires.formed (sym c.if-is_bad_line.false ∙ c.is_bad_line.ensures)
    (sym c.if-has_bad_id.true ∙ c.has_bad_id.ensures)

pub returns-then-is_twice : goal.returns-then-is_twice
returns-then-is_twice c =
    twice c.args.conf.now c.args.known.now c.args.before (seen_line c.args.line.now) (seen_form c.args.form.now) c.requires.formed (sym c.if-is_bad_line.false ∙ c.is_bad_line.ensures)
    (sym c.if-has_bad_id.false ∙ c.has_bad_id.ensures) (sym c.if-is_twice.true ∙ c.is_twice.ensures)

pub returns-in-Some : goal.returns-in-Some
returns-in-Some c =
    ruled c.args.conf.now c.args.known.now c.args.before (seen_line c.args.line.now) (seen_form c.args.form.now) c.requires.formed (sym c.if-is_bad_line.false ∙ c.is_bad_line.ensures)
    (sym c.if-has_bad_id.false ∙ c.has_bad_id.ensures) (sym c.if-is_twice.false ∙ c.is_twice.ensures) (Some (Broken c.in-Some.rule))
    (ap (option_map Broken) (sym c.in-Some.is ∙ c.in_ok-rule.ensures))

pub returns : goal.returns
returns c =
    ruled c.args.conf.now c.args.known.now c.args.before (seen_line c.args.line.now) (seen_form c.args.form.now) c.requires.formed (sym c.if-is_bad_line.false ∙ c.is_bad_line.ensures)
    (sym c.if-has_bad_id.false ∙ c.has_bad_id.ensures) (sym c.if-is_twice.false ∙ c.is_twice.ensures) None
    (ap (option_map Broken) (sym c.in-None.is ∙ c.in_ok-rule.ensures))
