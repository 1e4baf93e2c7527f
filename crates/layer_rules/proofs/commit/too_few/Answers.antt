use Rattle.std.proofs.Common.{◌<◌, ◌≤◌, sym, ◌∙◌, ap, length, nat_lt, Bool, ℕ, arith}
use Rattle.std.specs.Option.{option_map}
use Rattle.std.proofs.lemmas.Bool.{lt-ltb, le-ltb}
use Rattle.mark_base.specs.declared.ann_id.Kind.TheVariants as letter
use Rattle.conf_model.specs.Lookups.{role_least, roles_of}
use Rattle.layer_model.specs.declared.rule.Rule.TheVariants.{TooFew}
use Rattle.layer_model.specs.declared.rule.RoleAt.TheVariants as role
use Rattle.mark_base.specs.ReadIds.{id_at}
use Rattle.layer_rules.specs.MarkRules.{filled}
use Rattle.layer_rules.proofs.RecordLemmas.{found_in_range, passed_in_range, same_rule}
use Rattle.layer_rules.proofs.commit.too_few.Goals as goal

pub returns-then-filled-role_least : goal.returns-then-filled-role_least
returns-then-filled-role_least c =
    let kind = c.args.event.now.kind in
    let place = c.loop-role.role in
    let test : ℕ → Bool = λ p. nat_lt (filled p c.args.event.now.args) (role_least c.args.conf.now kind.n p) in
    let below : place < length (roles_of c.args.conf.now kind.n) = omega arith in
    let fewer : filled place c.args.event.now.args < role_least c.args.conf.now kind.n place = let same = ap (filled place) c.items-args.ensures in omega arith in
    same_rule (ap (λ id. TooFew id (role.Event kind place)) c.id_at-id.ensures)
    ∙ sym (ap (option_map (λ p. TooFew (id_at letter.Event c.args.number) (role.Event kind p))) (sym c.loop-role.invariant ∙ found_in_range test _ place below (lt-ltb _ _ fewer)))

pub loop-role-preserved : goal.loop-role-preserved
loop-role-preserved c =
    let kind = c.args.event.now.kind in
    let place = c.loop-role.role in
    let test : ℕ → Bool = λ p. nat_lt (filled p c.args.event.now.args) (role_least c.args.conf.now kind.n p) in
    let below : place < length (roles_of c.args.conf.now kind.n) = omega arith in
    let enough : role_least c.args.conf.now kind.n place ≤ filled place c.args.event.now.args = let same = ap (filled place) c.items-args.ensures in omega arith in
    sym (passed_in_range test _ place below (le-ltb _ _ enough)) ∙ c.loop-role.invariant
