use Rattle.std.proofs.Common.{refl}
use Rattle.kappa_alpha.specs.Columns.{raters_in, worth, toward, ordered, weight, coincidence_at, label_at, unit_at, confusion_at, shared_at}
use Rattle.kappa_alpha.specs.Standing.{sum_below, over_tokens, over_all}
use Rattle.kappa_alpha.specs.Figures.{diagonal, row_sum, column_sum, cells_sum, chance, same_pairs}
use Rattle.kappa_alpha.specs.Steps.{changed}
use Rattle.kappa_alpha.proofs.worked_rows.worked_figures.Goals as goal

pub returns-clause-pair_of_two : goal.returns-clause-pair_of_two
unfolding raters_in worth toward ordered weight coincidence_at label_at unit_at confusion_at shared_at sum_below over_tokens over_all diagonal row_sum column_sum cells_sum chance same_pairs
returns-clause-pair_of_two c = refl

pub returns-clause-pair_without_a_row : goal.returns-clause-pair_without_a_row
unfolding raters_in worth toward ordered weight coincidence_at label_at unit_at confusion_at shared_at sum_below over_tokens over_all diagonal row_sum column_sum cells_sum chance same_pairs
returns-clause-pair_without_a_row c = refl

pub returns-clause-alpha_of_two : goal.returns-clause-alpha_of_two
unfolding raters_in worth toward ordered weight coincidence_at label_at unit_at confusion_at shared_at sum_below over_tokens over_all diagonal row_sum column_sum cells_sum chance same_pairs
returns-clause-alpha_of_two c = refl

pub returns-clause-pair_of_three : goal.returns-clause-pair_of_three
unfolding raters_in worth toward ordered weight coincidence_at label_at unit_at confusion_at shared_at sum_below over_tokens over_all diagonal row_sum column_sum cells_sum chance same_pairs
returns-clause-pair_of_three c = refl

pub returns-clause-alpha_of_three : goal.returns-clause-alpha_of_three
unfolding raters_in worth toward ordered weight coincidence_at label_at unit_at confusion_at shared_at sum_below over_tokens over_all diagonal row_sum column_sum cells_sum chance same_pairs
returns-clause-alpha_of_three c = refl

pub returns-clause-pair_without_difference : goal.returns-clause-pair_without_difference
unfolding raters_in worth toward ordered weight coincidence_at label_at unit_at confusion_at shared_at sum_below over_tokens over_all diagonal row_sum column_sum cells_sum chance same_pairs
returns-clause-pair_without_difference c = refl

pub returns-clause-alpha_without_difference : goal.returns-clause-alpha_without_difference
unfolding raters_in worth toward ordered weight coincidence_at label_at unit_at confusion_at shared_at sum_below over_tokens over_all diagonal row_sum column_sum cells_sum chance same_pairs
returns-clause-alpha_without_difference c = refl

pub returns-clause-third_row_again : goal.returns-clause-third_row_again
unfolding changed sum_below
returns-clause-third_row_again c = refl
