use Rattle.std.proofs.Common.{sym, ◌∙◌}
use Rattle.conf_model.specs.Lookups.{roles_of}
use Rattle.ann_reader.proofs.RoleLemmas.{found_here, passed, past_all}
use Rattle.ann_reader.proofs.roles.role_named.Goals as goal

pub returns-then-eq : goal.returns-then-eq
returns-then-eq c =
    sym (c.loop-place.invariant
    ∙ found_here c.args.name.now c.in-Some.found.now c.loop-place.place (roles_of c.args.conf.now c.args.event.n) c.in-Some.ensures (rw (← c.text.ensures.value, ← c.as_bytes.ensures.value) (sym c.eq.ensures ∙ c.if-eq.true)))

pub returns-in-None : goal.returns-in-None
returns-in-None c = sym (c.loop-place.invariant ∙ past_all c.args.name.now c.loop-place.place (roles_of c.args.conf.now c.args.event.n) c.in-None.ensures)

pub loop-place-preserved : goal.loop-place-preserved
loop-place-preserved c =
    c.loop-place.invariant
    ∙ passed c.args.name.now c.in-Some.found.now c.loop-place.place (roles_of c.args.conf.now c.args.event.n) c.in-Some.ensures (rw (← c.text.ensures.value, ← c.as_bytes.ensures.value) (sym c.eq.ensures ∙ c.if-eq.false))
