use Rattle.std.proofs.Common.{◌++◌, sym, ◌∙◌, ap, append-nil, string_bytes, rules, subst}
use Rattle.std.specs.List.{flat_map, AllByRecursion}
use Rattle.layer_model.proofs.Maps.{same_list}
use Rattle.ann_writer.proofs.MarkSteps.{lines_on, rest_can, told_on}
use Rattle.ann_writer.proofs.letter_lines.push_all.Goals as goal

pub loop-number-init : goal.loop-number-init
loop-number-init g c = record {
  lines = search rules;
  can = subst (λ es. AllByRecursion (λ entry. g.S.Spell.can c.args.spell.now entry.1) es) (same_list c.args.marks.now.entries c.into_iter-number-iterator.ensures.into_iter_gives.5 ∙ search rules) c.requires;
  told = λ all. subst (λ es. AllByRecursion (λ entry. g.S.Spell.told c.args.spell.now entry.1) es) (search rules) all;
}

pub loop-number-preserved : goal.loop-number-preserved
loop-number-preserved g c = record {
  lines =
      lines_on (g.S.Spell.line c.args.spell.now) (string_bytes c.loop-number.out) (string_bytes c.push.new.out) _ c.loop-number.number-iterator c.next.new.self c.in-Some.number.now c.in-Some.found.now
      c.in-Some.ensures.steps c.in_ok-push.ensures.line c.loop-number.invariant.lines;
  can = rest_can (g.S.Spell.can c.args.spell.now) c.loop-number.number-iterator c.next.new.self c.in-Some.number.now c.in-Some.found.now c.in-Some.ensures.steps c.loop-number.invariant.can;
  told =
      told_on (g.S.Spell.told c.args.spell.now) _ c.loop-number.number-iterator c.next.new.self c.in-Some.number.now c.in-Some.found.now c.in-Some.ensures.steps c.in_ok-push.ensures.told
      c.loop-number.invariant.told;
}

pub returns-clause-lines : goal.returns-clause-lines
returns-clause-lines g c =
    sym (append-nil (string_bytes c.loop-number.out))
    ∙ sym (ap (λ r. string_bytes c.loop-number.out ++ flat_map (λ entry. g.S.Spell.line c.args.spell.now entry.0 entry.1) r) c.in-None.ensures.steps.0)
    ∙ c.loop-number.invariant.lines
    ∙ sym (ap (λ r. string_bytes c.args.out.now ++ flat_map (λ entry. g.S.Spell.line c.args.spell.now entry.0 entry.1) r) (same_list c.args.marks.now.entries c.into_iter-number-iterator.ensures.into_iter_gives.5))

pub returns-clause-told : goal.returns-clause-told
returns-clause-told g c =
    subst (λ es. AllByRecursion (λ entry. g.S.Spell.told c.args.spell.now entry.1) es) (sym (same_list c.args.marks.now.entries c.into_iter-number-iterator.ensures.into_iter_gives.5))
    (c.loop-number.invariant.told (subst (λ es. AllByRecursion (λ entry. g.S.Spell.told c.args.spell.now entry.1) es) (sym c.in-None.ensures.steps.0) tt))
