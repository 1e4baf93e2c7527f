use Rattle.std.proofs.Common.{rules, ◌≡◌, ◌∷◌, ◌∙◌, sym, ap}
use Rattle.mark_base.specs.ReadIds.{id_read}
use Rattle.mark_base.proofs.IdLemmas.{made_of_parts}
use Rattle.mark_base.proofs.ann_id.AnnId.read.Goals as goal

pub returns-clause-read : goal.returns-clause-read
returns-clause-read c =
    let bytes : c.args.bytes.now ≡ c.in_ok-letter.letter.now ∷ c.in_ok-letter.digits.now = search rules in
    made_of_parts c.in_ok-letter.letter.now c.in_ok-letter.digits.now c.in_ok-kind.kind c.in_ok-number.number c.new.result
    (search rules) (search rules) c.new.ensures.within c.new.ensures.parts (search rules)
    ∙ sym (ap id_read bytes)
