use Rattle.std.proofs.Common.{◌≡◌, ◌++◌, string_bytes}
use Rattle.std.specs.List.{flat_map, AllByRecursion}
use Rattle.ann_writer.proofs.letter_lines.push_all.Given as goal

abbrev pub invariant-loop-number : goal.invariant-loop-number
invariant-loop-number g l = record {
  lines : string_bytes l.out ++ flat_map (λ entry. g.S.Spell.line l.spell entry.0 entry.1) l.number-iterator ≡ string_bytes l.fn.out ++ flat_map (λ entry. g.S.Spell.line l.spell entry.0 entry.1) l.marks.entries;
  can : AllByRecursion (λ entry. g.S.Spell.can l.spell entry.1) l.number-iterator;
  told : AllByRecursion (λ entry. g.S.Spell.told l.spell entry.1) l.number-iterator → AllByRecursion (λ entry. g.S.Spell.told l.spell entry.1) l.marks.entries;
}
