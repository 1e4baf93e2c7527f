use Rattle.std.proofs.Common.{◌≡◌, Some, length, rules}
use Rattle.std.specs.Arc.{arc_value}
use Rattle.layer_rules.specs.WellFormed.{least_flaw}
use Rattle.annotation_http.proofs.ExchangesProofs.OpenedLemmas.{no_flaw}
use Rattle.annotation_http.proofs.exchanges.asking.open_held.Goals as goal

pub unreachable-requires : goal.unreachable-requires
unreachable-requires c =
    let flawed : least_flaw (arc_value c.args.out.conf) (length (arc_value c.args.out.doc)) (arc_value c.args.out.base) ≡ Some c.in-Err-Base.field-0-0 = search rules in
    no_flaw c.in-Err-Base.field-0-0 (c.unflawed_layers.ensures.well_formed _ _ _ c.requires.base) flawed
