use Rattle.std.proofs.Common.{◌≡◌, sym, subst}
use Rattle.entry_bytes.specs.declared.entry.Entry.{Entry}
use Rattle.entry_bytes.specs.declared.entry.Entry.TheVariants as entry
use Rattle.project_state.specs.Entries.Founding.{IsFoundingOf}
use Rattle.checkpoint.proofs.BeginLemmas.{none_told}
use Rattle.checkpoint.proofs.beginning.founded_with.Goals as goal

pub returns-clause-none : goal.returns-clause-none
returns-clause-none c =
    let same : entry.Found c.in_ok-copy.field-0 c.in_ok-copy-2.field-0 ≡ entry.Found c.args.conf.now c.args.people.now = cc (c.in_ok-copy.ensures, c.in_ok-copy-2.ensures) in
    none_told c.args.conf.now c.args.people.now c.in_ok-told.told (λ conf level people of. c.in_ok-told.ensures.told conf level people (subst (λ (e : Entry). IsFoundingOf e conf level people) (sym same) of))
