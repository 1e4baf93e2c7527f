use Rattle.std.proofs.Common.{arith, rules}
use Rattle.kappa_alpha.proofs.Totals.{tables_none}
use Rattle.kappa_alpha.proofs.tables.Tables.new.Goals as goal

pub invariant_of-result : goal.invariant_of-result
invariant_of-result c = record {
  tables = rw c.new.ensures.items (tables_none c.args.raters c.args.categories c.in_ok-tallies.tallies c.requires.raters_few c.requires.categories_some c.requires.categories_few c.in_ok-tallies.ensures.shape c.in_ok-tallies.ensures.empty);
  pool = rw c.new-2.ensures.items (record { room_left = search rules; few = search rules; blank_rows = λ i h. absurd (omega arith) });
}
