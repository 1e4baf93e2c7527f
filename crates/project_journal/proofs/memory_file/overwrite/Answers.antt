use Rattle.std.proofs.Common.{◌+◌, ◌-◌, length, replicate, subst, sym, ◌∙◌, ap}
use Rattle.std.proofs.lemmas.List.{length-replicate}
use Rattle.project_journal.specs.Disk.{written, Torn}
use Rattle.project_journal.proofs.Overwrites.{overwritten_of, torn_of, written_of, gap_of}
use Rattle.project_journal.proofs.memory_file.overwrite.Goals as goal

pub returns-clause-exact : goal.returns-clause-exact
returns-clause-exact c =
    c.put.ensures.items ∙ ap (λ l. written l c.args.at c.args.piece.now) c.fill.ensures.items ∙ overwritten_of c.args.bytes.now.items c.args.piece.now c.args.at

pub returns-clause-torn : goal.returns-clause-torn
returns-clause-torn c =
    let old = c.args.bytes.now.items in
    let k = c.args.at + length c.args.piece.now - length old in
    subst (λ l. Torn c.args.at (length c.args.piece.now) old l) (sym (c.put.ensures.items ∙ ap (λ l. written l c.args.at c.args.piece.now) c.fill.ensures.items)) (torn_of old (replicate k 0) c.args.piece.now c.args.at (length-replicate k 0))

pub returns-clause-written : goal.returns-clause-written
returns-clause-written c = λ le.
    let old = c.args.bytes.now.items in
    let k = c.args.at + length c.args.piece.now - length old in
    c.put.ensures.items ∙ ap (λ l. written l c.args.at c.args.piece.now) c.fill.ensures.items ∙ written_of old (replicate k 0) c.args.piece.now c.args.at (length-replicate k 0) le

pub returns-clause-gap : goal.returns-clause-gap
returns-clause-gap c = λ le.
    let old = c.args.bytes.now.items in
    let k = c.args.at + length c.args.piece.now - length old in
    let g = gap_of old (replicate k 0) c.args.piece.now c.args.at (length-replicate k 0) le in
    (g.0, c.put.ensures.items ∙ ap (λ l. written l c.args.at c.args.piece.now) c.fill.ensures.items ∙ g.1, g.2, g.3)
