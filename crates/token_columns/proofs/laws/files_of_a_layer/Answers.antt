use Rattle.std.proofs.Common.{refl, sym, subst}
use Rattle.std.specs.Prelude.{IsOk}
use Rattle.token_columns.proofs.BackLemmas.{read_again}
use Rattle.token_columns.proofs.laws.files_of_a_layer.Goals as goal

pub returns : goal.returns
returns c = λ conf text bytes layer own is. subst IsOk (sym (read_again conf text bytes layer own is)) refl
